-- Instructions that compute (JVM specification 2.11.3, 2.11.4 and 6.5: iadd to lxor, i2l to i2s, lcmp). `value2` is the
-- top. Which number each leaves is said in `jv_number`.
use Rattle.std.specs.Prelude.{Option, Some, None, [], ◌∷◌, if◌then◌else◌}
use Rattle.ti_ids.specs.Maybe.{◌>>=◌}
use Rattle.ti_ids.specs.declared.value.Value.TheVariants as value
use Rattle.class_code.specs.declared.instr.Arithmetic.{Arithmetic}
use Rattle.class_code.specs.declared.instr.Conversion.{Conversion}
use Rattle.class_code.specs.declared.instr.Conversion.TheVariants as conversion
use Rattle.class_code.specs.declared.instr.Kind.{Kind}
use Rattle.class_code.specs.declared.instr.Kind.TheVariants as kind
use Rattle.class_code.specs.declared.instr.Width.{Width}
use Rattle.class_code.specs.declared.instr.Width.TheVariants as width
use Rattle.jv_number.specs.Comparisons.{compare}
use Rattle.jv_number.specs.Values.{has_two, is_shift, is_division, combined, negated, converted}
use Rattle.thread_frames.specs.Operands.{OperandStack}
use Rattle.bytecode_local.specs.Kinds.{kind_at, long_at}
use Rattle.bytecode_local.specs.Changes.{Change, exchange}

abbrev pub kind_of : Width → Kind
kind_of width.Int = kind.Int
kind_of width.Long = kind.Long

-- what a value is shifted by is an int
abbrev pub second_kind : Arithmetic → Width → Kind
second_kind op w = if is_shift op then kind.Int else kind_of w

abbrev pub computed_of_one : Width → OperandStack → Option Change
computed_of_one w stack = kind_at (kind_of w) stack 0 >>= λ v. Some (exchange 1 (negated v ∷ []))

abbrev pub computed_of_two : Arithmetic → Width → OperandStack → Option Change
computed_of_two op w stack = kind_at (second_kind op w) stack 0 >>= λ value2. kind_at (kind_of w) stack 1 >>= λ value1. Some (exchange 2 (combined op value1 value2 ∷ []))

-- Division and remainder are not local, since they may throw.
abbrev pub computed : Arithmetic → Width → OperandStack → Option Change
computed op w stack = if is_division op then None else (if has_two op then computed_of_two op w stack else computed_of_one w stack)

-- i2l, i2b, i2c and i2s take an int, l2i takes a long
abbrev pub kind_converted : Conversion → Kind
kind_converted conversion.IntToLong = kind.Int
kind_converted conversion.LongToInt = kind.Long
kind_converted conversion.IntToByte = kind.Int
kind_converted conversion.IntToChar = kind.Int
kind_converted conversion.IntToShort = kind.Int

abbrev pub conversion_made : Conversion → OperandStack → Option Change
conversion_made c stack = kind_at (kind_converted c) stack 0 >>= λ v. Some (exchange 1 (converted c v ∷ []))

-- lcmp
abbrev pub longs_compared : OperandStack → Option Change
longs_compared stack = long_at stack 0 >>= λ value2. long_at stack 1 >>= λ value1. Some (exchange 2 (value.Int (compare value1 value2) ∷ []))
