-- What each instruction does (JVM specification 6.5): those that change their own frame alone are said in `bytecode_local`, and all
-- others family by family.
use Rattle.std.specs.Prelude.{ℕ, List, [], ◌∷◌, Option, if◌then◌else◌}
use Rattle.class_code.specs.declared.instr.Simple.{Simple}
use Rattle.class_code.specs.declared.instr.Simple.TheVariants as simple
use Rattle.class_code.specs.declared.instr.PoolOp.{PoolOp}
use Rattle.class_code.specs.declared.instr.PoolOp.TheVariants as pool_op
use Rattle.class_code.specs.declared.instr.Instr.{Instr}
use Rattle.class_code.specs.declared.instr.Instr.TheVariants as instr
use Rattle.bytecode_local.specs.Effect as own
use Rattle.machine_state.specs.Core.{MethodFrame}
use Rattle.machine_state.specs.Acts.{Changes, SetsTop}
use Rattle.instruction_effect.specs.Outcomes.{Site, Outcome, Goes, or_misfit}
use Rattle.instruction_effect.specs.Fields.{field_outcome}
use Rattle.instruction_effect.specs.Constants.{constant_outcome}
use Rattle.instruction_effect.specs.Division.{division_outcome}
use Rattle.instruction_effect.specs.Objects.{object_outcome}
use Rattle.instruction_effect.specs.Arrays.{array_outcome}
use Rattle.instruction_effect.specs.Calls.{call_outcome}
use Rattle.instruction_effect.specs.Returns.{return_outcome}

-- ---- families

pub data Family : Type 0 where
  -- its own frame alone
  Local : Family
  Constant : Family
  Division : Family
  Field : Family
  Object : Family
  Array : Family
  Call : Family
  Return : Family

abbrev pub simple_family : Simple → Family
simple_family (simple.ArrayLoad e) = Array
simple_family (simple.ArrayStore e) = Array
simple_family simple.ArrayLength = Array
simple_family (simple.Return k) = Return
simple_family simple.ReturnVoid = Return
simple_family simple.Throw = Object
simple_family simple.MonitorEnter = Object
simple_family simple.MonitorExit = Object
simple_family s = if own.local_simple s then Local else Division

abbrev pub pool_family : PoolOp → Family
pool_family pool_op.LoadConstWide = Constant
pool_family pool_op.LoadLongConst = Constant
pool_family pool_op.GetStatic = Field
pool_family pool_op.PutStatic = Field
pool_family pool_op.GetField = Field
pool_family pool_op.PutField = Field
pool_family pool_op.InvokeVirtual = Call
pool_family pool_op.InvokeSpecial = Call
pool_family pool_op.InvokeStatic = Call
pool_family pool_op.New = Object
pool_family pool_op.NewReferenceArray = Array
pool_family pool_op.CheckCast = Object
pool_family pool_op.InstanceOf = Object

abbrev pub family : Instr → Family
family (instr.Simple s) = simple_family s
family (instr.LoadConst index) = Constant
family (instr.Pool op index) = pool_family op
family (instr.InvokeInterface index count) = Call
family (instr.NewArray of) = Array
family (instr.MultiNewArray index dimensions) = Array
family i = Local

-- ---- the effect

abbrev pub local_outcome : Site → List (ℕ × Instr) → Outcome
local_outcome site code = or_misfit (own.effect code site.frame) (λ frame. Goes (Changes (SetsTop site.t frame) ∷ []))

abbrev pub effect_of : (MethodFrame → Option ℕ) → Site → List (ℕ × Instr) → Instr → Family → Outcome
effect_of behind site code i Local = local_outcome site code
effect_of behind site code i Constant = constant_outcome site i
effect_of behind site code i Division = division_outcome site i
effect_of behind site code i Field = field_outcome site i
effect_of behind site code i Object = object_outcome site i
effect_of behind site code i Array = array_outcome site i
effect_of behind site code i Call = call_outcome site i
effect_of behind site code i Return = return_outcome behind site i

-- What comes of an instruction of this code. A return goes on behind the instruction of the frame beneath, of which `behind` gives the
-- offset.
abbrev pub effect : (MethodFrame → Option ℕ) → Site → List (ℕ × Instr) → Instr → Outcome
effect behind site code i = effect_of behind site code i (family i)
