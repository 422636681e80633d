-- What one instruction changes of its own frame, and the frame after it (JVM specification 2.6).
use Rattle.std.specs.Prelude.{ℕ, zero, suc, ◌+◌, Bool, true, false, ◌&&◌, ℤ, pos, List, ◌++◌, [], length, drop, Option, Some, None, slice_get, slice_set, nat_le, if◌then◌else◌}
use Rattle.std.specs.Option.{option_map_or}
use Rattle.ti_ids.specs.declared.state.Announced.TheVariants.{No}
use Rattle.ti_ids.specs.declared.value.Value.{Value}
use Rattle.ti_ids.specs.declared.value.Value.TheVariants as value
use Rattle.thread_frames.specs.Operands.{OperandStack, value_words, words_of}
use Rattle.thread_frames.specs.declared.frame.Frame.{Frame}
use Rattle.bytecode_local.specs.Kinds.{is_category_two}

-- ---- changes

-- how many of the topmost operands an instruction takes, which ones it puts in their place, the top first, which value it
-- stores in which local variable, if it does, and how far it jumps from its own opcode, if it does
pub record Change : Type 0 where
  pub taken : ℕ
  pub given : List Value
  pub stored : Option (ℕ × Value)
  pub jump : Option ℤ

-- so many operands are taken, and these put in their place
abbrev pub exchange : ℕ → List Value → Change
exchange taken given = record { taken = taken; given = given; stored = None; jump = None }

-- so many operands are taken, and this value is stored in this local variable
abbrev pub storing : ℕ → ℕ → Value → Change
storing taken place v = record { taken = taken; given = []; stored = Some (place, v); jump = None }

-- so many operands are taken, and where a condition holds, the instruction jumps so far
abbrev pub jumping : ℕ → Bool → ℤ → Change
jumping taken holds by = record { taken = taken; given = []; stored = None; jump = if holds then Some by else None }

-- ---- operands

-- the entries that a change leaves on the operand stack
abbrev pub changed_entries : Change → List Value → List Value
changed_entries change entries = change.given ++ drop change.taken entries

-- there is room for them (2.6.2)
abbrev pub has_room : Change → OperandStack → Bool
has_room change stack = nat_le (words_of (changed_entries change stack.entries)) stack.room

-- ---- local variables (2.6.1)

-- each local variable that a value takes from this one on is there: a long takes two
abbrev pub has_places : List Value → ℕ → Value → Bool
has_places locals place v = nat_le (place + value_words v) (length locals)

-- a long begins here
abbrev pub has_long : List Value → ℕ → Bool
has_long locals place = option_map_or is_category_two (slice_get locals place) false

-- the same, but the second place of the long that begins here, if one does, holds the int 0
abbrev pub with_second_cleared : List Value → ℕ → List Value
with_second_cleared locals place = if has_long locals place then slice_set locals (place + 1) (value.Int (pos 0)) else locals

-- the same, but the first place of the long whose second one this is, if it is one, holds the int 0
abbrev pub with_first_cleared : List Value → ℕ → List Value
with_first_cleared locals zero = locals
with_first_cleared locals (suc place) = if has_long locals place then slice_set locals place (value.Int (pos 0)) else locals

-- A value is stored in one local variable. Of a long that had this one, the other holds the int 0.
abbrev pub with_one : List Value → ℕ → Value → List Value
with_one locals place v = slice_set (with_first_cleared (with_second_cleared locals place) place) place v

-- A long stands in the first of its two local variables, and the second one holds the int 0.
abbrev pub with_value : List Value → ℕ → Value → List Value
with_value locals place (value.Int n) = with_one locals place (value.Int n)
with_value locals place (value.Ref r) = with_one locals place (value.Ref r)
with_value locals place (value.Long n) = with_one (with_one locals (place + 1) (value.Int (pos 0))) place (value.Long n)

-- the local variables that a change leaves
abbrev pub changed_locals : Option (ℕ × Value) → List Value → List Value
changed_locals None locals = locals
changed_locals (Some (place, v)) locals = with_value locals place v

-- each local variable that is stored into is there
abbrev pub stores_within : Option (ℕ × Value) → List Value → Bool
stores_within None locals = true
stores_within (Some (place, v)) locals = has_places locals place v

-- ---- frames

module _ {P : Type 0} where
  -- A frame has room for what the change puts on its operand stack, and the local variables that it stores into.
  abbrev pub can_take : Frame P → Change → Bool
  can_take frame change = has_room change frame.stack && stores_within change.stored frame.locals

  -- The frame after the change, at this pc. The instruction there was not announced.
  abbrev pub changed : Frame P → Change → ℕ → Frame P
  changed frame change pc = record frame {
    pc = pc;
    locals = changed_locals change.stored frame.locals;
    stack = record { entries = changed_entries change frame.stack.entries; room = frame.stack.room };
    announced = No;
  }
