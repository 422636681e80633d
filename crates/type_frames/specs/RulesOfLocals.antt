-- The rules of the instructions on local variables (JVM specification 4.10.1.7 to 4.10.1.9).
use Rattle.std.specs.Prelude.{ℕ, zero, suc, ◌+◌, Bool, true, false, List, length, nat_lt, Option, Some, None, slice_get, slice_set, if◌then◌else◌}
use Rattle.std.specs.Option.{option_map_or}
use Rattle.ti_ids.specs.Maybe.{◌>>=◌}
use Rattle.class_code.specs.declared.instr.Kind.{Kind}
use Rattle.class_code.specs.declared.instr.Kind.TheVariants as kind
use Rattle.type_frames.specs.declared.vtype.VType.{VType}
use Rattle.type_frames.specs.declared.vtype.VType.TheVariants as vtype
use Rattle.type_frames.specs.Types.{is_long, is_reference}
use Rattle.type_frames.specs.States.{State, top_if, put}
use Rattle.type_frames.specs.Environments.{Environment}

abbrev pub is_int : VType → Bool
is_int vtype.Integer = true
is_int t = false

-- what a load or a store of this kind moves
abbrev pub is_of_kind : Kind → VType → Bool
is_of_kind kind.Int t = is_int t
is_of_kind kind.Long t = is_long t
is_of_kind kind.Reference t = is_reference t

-- `iload`, `lload`, `aload`
abbrev pub load_rule : Environment → Kind → ℕ → State → Option State
load_rule env k place s = slice_get s.locals place >>= λ t. if is_of_kind k t then put env.max_stack t s else None

abbrev pub is_long_at : List VType → ℕ → Bool
is_long_at locals place = option_map_or is_long (slice_get locals place) false

-- a long that ends at this place can't be used any more
abbrev pub without_long_before : ℕ → List VType → List VType
without_long_before zero locals = locals
without_long_before (suc place) locals = if is_long_at locals place then slice_set locals place vtype.Top else locals

-- a long fills its place and the next one
abbrev pub stored : ℕ → VType → List VType → Option (List VType)
stored place vtype.Long locals =
    if nat_lt (place + 1) (length locals) then Some (slice_set (slice_set (without_long_before place locals) place vtype.Long) (place + 1) vtype.Top) else None
stored place t locals = if nat_lt place (length locals) then Some (slice_set (without_long_before place locals) place t) else None

-- `istore`, `lstore`, `astore`
abbrev pub store_rule : Kind → ℕ → State → Option State
store_rule k place s = top_if (is_of_kind k) s >>= λ p. stored place p.0 s.locals >>= λ locals. Some (record p.1 { locals = locals })

-- `iinc`
abbrev pub increment_rule : ℕ → State → Option State
increment_rule place s = slice_get s.locals place >>= λ t. if is_int t then Some s else None
