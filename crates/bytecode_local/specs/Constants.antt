-- Instructions that push a constant (JVM specification 6.5: aconst_null to lconst_1, bipush, sipush, and ldc of a number).
use Rattle.std.specs.Prelude.{ℤ, pos, negsuc, [], ◌∷◌}
use Rattle.ti_ids.specs.declared.value.Value.{Value}
use Rattle.class_code.specs.declared.instr.IntConst.{IntConst}
use Rattle.class_code.specs.declared.instr.IntConst.TheVariants as int_const
use Rattle.class_code.specs.declared.instr.LongConst.{LongConst}
use Rattle.class_code.specs.declared.instr.LongConst.TheVariants as long_const
use Rattle.bytecode_local.specs.Changes.{Change, exchange}

-- iconst_<i>
abbrev pub int_constant : IntConst → ℤ
int_constant int_const.MinusOne = negsuc 0
int_constant int_const.Zero = pos 0
int_constant int_const.One = pos 1
int_constant int_const.Two = pos 2
int_constant int_const.Three = pos 3
int_constant int_const.Four = pos 4
int_constant int_const.Five = pos 5

-- lconst_<l>
abbrev pub long_constant : LongConst → ℤ
long_constant long_const.Zero = pos 0
long_constant long_const.One = pos 1

-- a value on top of the operand stack
abbrev pub pushing : Value → Change
pushing v = exchange 0 (v ∷ [])
