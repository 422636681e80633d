-- The kinds of values (JVM specification 2.11.1), and the operands that an instruction finds (2.6.2).
use Rattle.std.specs.Prelude.{ℕ, Bool, true, false, ℤ, Option, Some, None, slice_get, if◌then◌else◌}
use Rattle.ti_ids.specs.Maybe.{◌>>=◌}
use Rattle.ti_ids.specs.declared.number.ObjNo.{ObjNo}
use Rattle.ti_ids.specs.declared.value.Value.{Value}
use Rattle.ti_ids.specs.declared.value.Value.TheVariants as value
use Rattle.class_code.specs.declared.instr.Kind.{Kind}
use Rattle.class_code.specs.declared.instr.Kind.TheVariants as kind
use Rattle.thread_frames.specs.Operands.{OperandStack}

abbrev pub is_kind : Kind → Value → Bool
is_kind kind.Int (value.Int n) = true
is_kind kind.Long (value.Long n) = true
is_kind kind.Reference (value.Ref r) = true
is_kind k v = false

-- a long is of category 2, and every other value of category 1 (2.11.1)
abbrev pub is_category_two : Value → Bool
is_category_two v = is_kind kind.Long v

-- ---- the operand that lies so many below the top, which itself is at 0

abbrev pub operand_at : OperandStack → ℕ → Option Value
operand_at stack depth = slice_get stack.entries depth

-- the same, if it is of this kind
abbrev pub kind_at : Kind → OperandStack → ℕ → Option Value
kind_at k stack depth = operand_at stack depth >>= λ v. if is_kind k v then Some v else None

-- the same, if it is of category 1
abbrev pub category_one_at : OperandStack → ℕ → Option Value
category_one_at stack depth = operand_at stack depth >>= λ v. if is_category_two v then None else Some v

abbrev pub int_of : Value → Option ℤ
int_of (value.Int n) = Some n
int_of (value.Long n) = None
int_of (value.Ref r) = None

abbrev pub long_of : Value → Option ℤ
long_of (value.Int n) = None
long_of (value.Long n) = Some n
long_of (value.Ref r) = None

abbrev pub reference_of : Value → Option (Option ObjNo)
reference_of (value.Int n) = None
reference_of (value.Long n) = None
reference_of (value.Ref r) = Some r

-- its number, if it is an int or a long, and what it refers to, if it is a reference
abbrev pub int_at : OperandStack → ℕ → Option ℤ
int_at stack depth = operand_at stack depth >>= int_of

abbrev pub long_at : OperandStack → ℕ → Option ℤ
long_at stack depth = operand_at stack depth >>= long_of

abbrev pub reference_at : OperandStack → ℕ → Option (Option ObjNo)
reference_at stack depth = operand_at stack depth >>= reference_of
