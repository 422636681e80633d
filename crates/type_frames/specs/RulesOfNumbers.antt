-- The rules of the instructions on constants and numbers (JVM specification 4.10.1.9). A rule gives the state that an
-- instruction leaves, or none where it refuses the state before.
use Rattle.std.specs.Prelude.{List, [], ◌∷◌, Option, Some}
use Rattle.ti_ids.specs.Maybe.{◌>>=◌}
use Rattle.class_code.specs.declared.instr.Width.{Width}
use Rattle.class_code.specs.declared.instr.Width.TheVariants as width
use Rattle.class_code.specs.declared.instr.Arithmetic.{Arithmetic}
use Rattle.class_code.specs.declared.instr.Arithmetic.TheVariants as arithmetic
use Rattle.class_code.specs.declared.instr.Conversion.{Conversion}
use Rattle.class_code.specs.declared.instr.Conversion.TheVariants as conversion
use Rattle.class_code.specs.declared.instr.Branch.{Branch}
use Rattle.class_code.specs.declared.instr.Branch.TheVariants as branch
use Rattle.type_frames.specs.declared.vtype.VType.{VType}
use Rattle.type_frames.specs.declared.vtype.VType.TheVariants as vtype
use Rattle.type_frames.specs.Types.{is_reference}
use Rattle.type_frames.specs.States.{State, top_if, all_taken, all_put}
use Rattle.type_frames.specs.Environments.{Environment}

-- these are taken, the first one from the top, and these put, the first one first
abbrev pub moved : Environment → List VType → List VType → State → Option State
moved env takes puts s = all_taken env.hierarchy takes s >>= all_put env.max_stack puts

abbrev pub width_type : Width → VType
width_type width.Int = vtype.Integer
width_type width.Long = vtype.Long

-- a shift goes by an int, whatever it shifts
abbrev pub operands : Arithmetic → VType → List VType
operands arithmetic.Neg t = t ∷ []
operands arithmetic.Shl t = vtype.Integer ∷ t ∷ []
operands arithmetic.Shr t = vtype.Integer ∷ t ∷ []
operands arithmetic.Ushr t = vtype.Integer ∷ t ∷ []
operands op t = t ∷ t ∷ []

-- `iadd` to `lxor`
abbrev pub arithmetic_rule : Environment → Arithmetic → Width → State → Option State
arithmetic_rule env op w s = moved env (operands op (width_type w)) (width_type w ∷ []) s

abbrev pub from_type : Conversion → VType
from_type conversion.LongToInt = vtype.Long
from_type c = vtype.Integer

abbrev pub to_type : Conversion → VType
to_type conversion.IntToLong = vtype.Long
to_type c = vtype.Integer

-- `i2l` to `i2s`
abbrev pub conversion_rule : Environment → Conversion → State → Option State
conversion_rule env c s = moved env (from_type c ∷ []) (to_type c ∷ []) s

-- `lcmp`
abbrev pub comparison_rule : Environment → State → Option State
comparison_rule env s = moved env (vtype.Long ∷ vtype.Long ∷ []) (vtype.Integer ∷ []) s

-- ---- branches

-- a reference of any sort is taken, also one to an object that is not initialized
abbrev pub reference_taken : State → Option State
reference_taken s = top_if is_reference s >>= λ p. Some p.1

-- `ifeq` to `goto`, `ifnull` and `ifnonnull`
abbrev pub branch_rule : Environment → Branch → State → Option State
branch_rule env (branch.If c) s = moved env (vtype.Integer ∷ []) [] s
branch_rule env (branch.IfIntCompare c) s = moved env (vtype.Integer ∷ vtype.Integer ∷ []) [] s
branch_rule env branch.IfSameReference s = reference_taken s >>= reference_taken
branch_rule env branch.IfOtherReference s = reference_taken s >>= reference_taken
branch_rule env branch.Goto s = Some s
branch_rule env branch.IfNull s = reference_taken s
branch_rule env branch.IfNonNull s = reference_taken s
