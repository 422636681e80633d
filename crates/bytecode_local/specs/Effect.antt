-- The instructions that change their own frame alone and throw nothing, and what each does to the frame (JVM specification
-- 6.5).
use Rattle.std.specs.Prelude.{ℕ, Bool, true, false, not, ℤ, pos, negsuc, ◌+ℤ◌, ◌^◌, List, [], Option, Some, None, nat_lt, unwrap_or, IsSome, if◌then◌else◌}
use Rattle.ti_ids.specs.Maybe.{◌>>=◌}
use Rattle.ti_ids.specs.declared.value.Value.{Value}
use Rattle.ti_ids.specs.declared.value.Value.TheVariants as value
use Rattle.class_code.specs.Codes.{slot_place}
pub use Rattle.class_code.specs.Lookups.{instr_at, following}
use Rattle.class_code.specs.declared.instr.Simple.{Simple}
use Rattle.class_code.specs.declared.instr.Simple.TheVariants as simple
use Rattle.class_code.specs.declared.instr.Instr.{Instr}
use Rattle.class_code.specs.declared.instr.Instr.TheVariants as instr
use Rattle.jv_number.specs.Values.{is_division}
use Rattle.thread_frames.specs.Operands.{OperandStack}
use Rattle.thread_frames.specs.declared.frame.Frame.{Frame}
use Rattle.bytecode_local.specs.Changes.{Change, exchange, jumping, can_take, changed}
use Rattle.bytecode_local.specs.Constants.{int_constant, long_constant, pushing}
use Rattle.bytecode_local.specs.Locals.{loaded, stored, incremented}
use Rattle.bytecode_local.specs.Rearranging.{rearranged}
use Rattle.bytecode_local.specs.Computing.{computed, conversion_made, longs_compared}
use Rattle.bytecode_local.specs.Branching.{branched}
use Rattle.bytecode_local.specs.Switching.{table_switched, lookup_switched}

-- ---- which ones they are

abbrev pub local_simple : Simple → Bool
local_simple simple.Nop = true
local_simple simple.ConstNull = true
local_simple (simple.ConstInt n) = true
local_simple (simple.ConstLong n) = true
local_simple (simple.Load k s) = true
local_simple (simple.Store k s) = true
local_simple (simple.ArrayLoad e) = false
local_simple (simple.ArrayStore e) = false
local_simple (simple.Stack o) = true
local_simple (simple.Arithmetic o w) = not (is_division o)
local_simple (simple.Convert c) = true
local_simple simple.CompareLongs = true
local_simple (simple.Return k) = false
local_simple simple.ReturnVoid = false
local_simple simple.ArrayLength = false
local_simple simple.Throw = false
local_simple simple.MonitorEnter = false
local_simple simple.MonitorExit = false

-- A quotient and a remainder may throw. Where code is made ready for running, a `PushInt` or a `PushLong` stands in the
-- place of each load of a number from the constant pool; a load that is left is of a String or a class.
abbrev pub local : Instr → Bool
local (instr.Simple s) = local_simple s
local (instr.PushByte n) = true
local (instr.PushShort n) = true
local (instr.LoadConst index) = false
local (instr.Load k place) = true
local (instr.LoadWide k place) = true
local (instr.Store k place) = true
local (instr.StoreWide k place) = true
local (instr.Increment place by) = true
local (instr.IncrementWide place by) = true
local (instr.Branch when by) = true
local (instr.GotoWide by) = true
local (instr.TableSwitch t) = true
local (instr.LookupSwitch l) = true
local (instr.Pool o index) = false
local (instr.InvokeInterface index count) = false
local (instr.NewArray of) = false
local (instr.MultiNewArray index dimensions) = false
local (instr.PushInt n) = true
local (instr.PushLong n) = true

-- ---- what they change

-- Of local variables and an operand stack. None where an operand or a local variable is not there, or not of the kind that
-- it must be of, and for what is not local.
abbrev pub simple_change : Simple → List Value → OperandStack → Option Change
simple_change simple.Nop locals stack = Some (exchange 0 [])
simple_change simple.ConstNull locals stack = Some (pushing (value.Ref None))
simple_change (simple.ConstInt n) locals stack = Some (pushing (value.Int (int_constant n)))
simple_change (simple.ConstLong n) locals stack = Some (pushing (value.Long (long_constant n)))
simple_change (simple.Load k s) locals stack = loaded k (slot_place s) locals
simple_change (simple.Store k s) locals stack = stored k (slot_place s) stack
simple_change (simple.Stack o) locals stack = rearranged o stack
simple_change (simple.Arithmetic o w) locals stack = computed o w stack
simple_change (simple.Convert c) locals stack = conversion_made c stack
simple_change simple.CompareLongs locals stack = longs_compared stack
simple_change s locals stack = None

abbrev pub change_of : Instr → List Value → OperandStack → Option Change
change_of (instr.Simple s) locals stack = simple_change s locals stack
change_of (instr.PushByte n) locals stack = Some (pushing (value.Int n))
change_of (instr.PushShort n) locals stack = Some (pushing (value.Int n))
change_of (instr.PushInt n) locals stack = Some (pushing (value.Int n))
change_of (instr.PushLong n) locals stack = Some (pushing (value.Long n))
change_of (instr.Load k place) locals stack = loaded k place locals
change_of (instr.LoadWide k place) locals stack = loaded k place locals
change_of (instr.Store k place) locals stack = stored k place stack
change_of (instr.StoreWide k place) locals stack = stored k place stack
change_of (instr.Increment place by) locals stack = incremented place by locals
change_of (instr.IncrementWide place by) locals stack = incremented place by locals
change_of (instr.Branch when by) locals stack = branched when by stack
change_of (instr.GotoWide by) locals stack = Some (jumping 0 true by)
change_of (instr.TableSwitch t) locals stack = table_switched t stack
change_of (instr.LookupSwitch l) locals stack = lookup_switched l stack
change_of i locals stack = None

-- ---- code, as a list of instructions that each have their offset

-- the number as an offset: a code has less than 2 ^ 16 bytes (4.7.3)
abbrev pub offset : ℤ → Option ℕ
offset (pos n) = if nat_lt n (2 ^ 16) then Some n else None
offset (negsuc n) = None

-- Where the frame goes on. A jump is counted from the opcode of its own instruction. Behind the last instruction none
-- begins, and none does at 65535 in a code, which has at most 65535 bytes: the next step finds no instruction there.
abbrev pub goes_on_at : List (ℕ × Instr) → ℕ → Option ℤ → Option ℕ
goes_on_at code pc None = Some (unwrap_or (following code pc) 65535)
goes_on_at code pc (Some by) = offset (pos pc +ℤ by)

-- ---- the effect on a frame

module _ {P : Type 0} where
  -- the frame's change, and the pc after it
  abbrev pub planned : List (ℕ × Instr) → Frame P → Option (Change × ℕ)
  planned code frame = instr_at code frame.pc >>= λ i. change_of i frame.locals frame.stack >>= λ change.
      if can_take frame change then (goes_on_at code frame.pc change.jump >>= λ pc. Some (change, pc)) else None

  -- The frame after its instruction. None where there is no instruction at its pc, where that is not local, and where it is a
  -- misfit: operands are missing or of another kind, a local variable is not there, the operand stack has no room, or a
  -- jump leads out of all code.
  abbrev pub effect : List (ℕ × Instr) → Frame P → Option (Frame P)
  effect code frame = planned code frame >>= λ p. Some (changed frame p.0 p.1)

  -- the instruction at the frame's pc is local, and no misfit
  abbrev pub Fits : List (ℕ × Instr) → Frame P → Type 0
  Fits code frame = IsSome (effect code frame)
