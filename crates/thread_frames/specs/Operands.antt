-- Operand stacks (JVM specification 2.6.2).
use Rattle.std.specs.Prelude.{ℕ, ◌≡◌, ◌≤◌, List, [], ◌∷◌, drop, reverse, sum_by, Vec, vec_capacity}
use Rattle.std.specs.declared.alloc.Global.{Global}
use Rattle.ti_ids.specs.declared.value.Value.{Value}
use Rattle.ti_ids.specs.declared.value.Value.TheVariants.{Int, Long, Ref}

-- the entries, the top first, and for how many words there is room
pub record OperandStack : Type 0 where
  pub entries : List Value
  pub room : ℕ

-- a long takes two words, and every other value takes one
abbrev pub value_words : Value → ℕ
value_words (Int n) = 1
value_words (Long n) = 2
value_words (Ref object) = 1

-- the words of all these values
abbrev pub words_of : List Value → ℕ
words_of values = sum_by value_words values

-- there is room for this value on top
abbrev pub Fits : OperandStack → Value → Type 0
Fits stack value = words_of (value ∷ stack.entries) ≤ stack.room

-- the empty stack with this room
abbrev pub empty_stack : ℕ → OperandStack
empty_stack room = record { entries = []; room = room }

-- the stack with this value on top
abbrev pub with_pushed : OperandStack → Value → OperandStack
with_pushed stack value = record stack { entries = value ∷ stack.entries }

-- the stack without its top; an empty one stays
abbrev pub without_top : OperandStack → OperandStack
without_top stack = record stack { entries = drop 1 stack.entries }

-- what is kept of values that are held with the top last: their words are counted, there is room for them, and the memory for
-- the whole room is there
pub record HoldsRoom (values : Vec Value Global) (room words : ℕ) : Type 0 where
  pub counted : words ≡ words_of (reverse values.items)
  pub within : words ≤ room
  pub granted : room ≤ vec_capacity values
