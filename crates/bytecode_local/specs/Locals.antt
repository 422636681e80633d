-- Instructions on local variables (JVM specification 6.5: iload to aload_3, istore to astore_3, iinc).
use Rattle.std.specs.Prelude.{ℕ, ℤ, List, Option, Some, None, slice_get, ◌&&◌, if◌then◌else◌}
use Rattle.ti_ids.specs.Maybe.{◌>>=◌}
use Rattle.ti_ids.specs.declared.value.Value.{Value}
use Rattle.ti_ids.specs.declared.value.Value.TheVariants as value
use Rattle.class_code.specs.declared.instr.Arithmetic.TheVariants as arithmetic
use Rattle.class_code.specs.declared.instr.Kind.{Kind}
use Rattle.jv_number.specs.Values.{combined}
use Rattle.thread_frames.specs.Operands.{OperandStack}
use Rattle.bytecode_local.specs.Kinds.{is_kind, kind_at, int_of}
use Rattle.bytecode_local.specs.Changes.{Change, storing, has_places}
use Rattle.bytecode_local.specs.Constants.{pushing}

-- The value of the local variable is pushed. It must be of this kind, and a long must have both its local variables.
abbrev pub loaded : Kind → ℕ → List Value → Option Change
loaded k place locals = slice_get locals place >>= λ v. if is_kind k v && has_places locals place v then Some (pushing v) else None

-- The top, which must be of this kind, is stored in the local variable.
abbrev pub stored : Kind → ℕ → OperandStack → Option Change
stored k place stack = kind_at k stack 0 >>= λ v. Some (storing 1 place v)

-- The int in the local variable is replaced by its sum with this one.
abbrev pub incremented : ℕ → ℤ → List Value → Option Change
incremented place by locals = slice_get locals place >>= int_of >>= λ n. Some (storing 0 place (combined arithmetic.Add (value.Int n) (value.Int by)))
