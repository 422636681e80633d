-- What a call takes from its caller's operand stack, and the frame that it makes (JVM specification 2.6).
use Rattle.std.specs.Prelude.{ℕ, ◌-◌, pos, List, [], ◌∷◌, ◌++◌, length, reverse, take, drop, replicate, flat_map}
use Rattle.ti_ids.specs.declared.value.Value.{Value}
use Rattle.ti_ids.specs.declared.value.Value.TheVariants.{Int, Long, Ref}
use Rattle.thread_frames.specs.Operands.{OperandStack}
use Rattle.thread_frames.specs.Frame.{new_frame}
use Rattle.thread_frames.specs.declared.frame.Frame.{Frame}
use Rattle.thread_frames.specs.declared.frame.Invocation.{Invocation}

-- ---- operands

-- the topmost operands, so many, of which the last lies on top
abbrev pub topmost : ℕ → OperandStack → List Value
topmost count stack = reverse (take count stack.entries)

-- the stack without so many of its topmost operands
abbrev pub without_topmost : ℕ → OperandStack → OperandStack
without_topmost count stack = record stack { entries = drop count stack.entries }

-- ---- local variables (2.6.1)

-- A long takes two local variables, of which the second holds the int 0.
abbrev pub places_of : Value → List Value
places_of (Int n) = Int n ∷ []
places_of (Long n) = Long n ∷ Int (pos 0) ∷ []
places_of (Ref object) = Ref object ∷ []

-- so many local variables, of which those without a value hold the int 0; all places of values are kept
abbrev pub filled : ℕ → List Value → List Value
filled count places = places ++ replicate (count - length places) (Int (pos 0))

-- the local variables of a method that was just invoked with these arguments
abbrev pub locals_of : ℕ → List Value → List Value
locals_of count arguments = filled count (flat_map places_of arguments)

-- ---- frames

module _ {P : Type 0} where
  -- the frame of a method that was just invoked, with these local variables
  abbrev pub begun_frame : Invocation P → List Value → Frame P
  begun_frame call locals = new_frame call.class call.method call.pin locals call.max_stack

  -- the same with these arguments
  abbrev pub called_frame : Invocation P → List Value → Frame P
  called_frame call arguments = begun_frame call (locals_of call.max_locals arguments)

  -- the frame without so many of its topmost operands
  abbrev pub without_operands : ℕ → Frame P → Frame P
  without_operands count frame = record frame { stack = without_topmost count frame.stack }
