-- The table of opcodes: the first byte of each instruction (JVM specification 6.5 and 7).
use Rattle.std.specs.Prelude.{ℕ, ◌+◌, ◌*◌}
use Rattle.class_code.specs.declared.instr.Kind.{Kind}
use Rattle.class_code.specs.declared.instr.Kind.TheVariants as kind
use Rattle.class_code.specs.declared.instr.Width.{Width}
use Rattle.class_code.specs.declared.instr.Width.TheVariants as width
use Rattle.class_code.specs.declared.instr.Slot.{Slot}
use Rattle.class_code.specs.declared.instr.Slot.TheVariants as slot
use Rattle.class_code.specs.declared.instr.Element.{Element}
use Rattle.class_code.specs.declared.instr.Element.TheVariants as element
use Rattle.class_code.specs.declared.instr.Primitive.{Primitive}
use Rattle.class_code.specs.declared.instr.Primitive.TheVariants as primitive
use Rattle.class_code.specs.declared.instr.IntConst.{IntConst}
use Rattle.class_code.specs.declared.instr.IntConst.TheVariants as int_const
use Rattle.class_code.specs.declared.instr.LongConst.{LongConst}
use Rattle.class_code.specs.declared.instr.LongConst.TheVariants as long_const
use Rattle.class_code.specs.declared.instr.StackOp.{StackOp}
use Rattle.class_code.specs.declared.instr.StackOp.TheVariants as stack_op
use Rattle.class_code.specs.declared.instr.Arithmetic.{Arithmetic}
use Rattle.class_code.specs.declared.instr.Arithmetic.TheVariants as arithmetic
use Rattle.class_code.specs.declared.instr.Conversion.{Conversion}
use Rattle.class_code.specs.declared.instr.Conversion.TheVariants as conversion
use Rattle.class_code.specs.declared.instr.Condition.{Condition}
use Rattle.class_code.specs.declared.instr.Condition.TheVariants as condition
use Rattle.class_code.specs.declared.instr.Branch.{Branch}
use Rattle.class_code.specs.declared.instr.Branch.TheVariants as branch
use Rattle.class_code.specs.declared.instr.PoolOp.{PoolOp}
use Rattle.class_code.specs.declared.instr.PoolOp.TheVariants as pool_op
use Rattle.class_code.specs.declared.instr.Simple.{Simple}
use Rattle.class_code.specs.declared.instr.Simple.TheVariants as simple

-- Opcodes that differ in the kind alone come in a row: int, long, float, double, reference. So do those that differ in
-- the width, the local variable, the element or the condition.
abbrev pub kind_place : Kind → ℕ
kind_place kind.Int = 0
kind_place kind.Long = 1
kind_place kind.Reference = 4

abbrev pub width_place : Width → ℕ
width_place width.Int = 0
width_place width.Long = 1

abbrev pub slot_place : Slot → ℕ
slot_place slot.Zero = 0
slot_place slot.One = 1
slot_place slot.Two = 2
slot_place slot.Three = 3

abbrev pub element_place : Element → ℕ
element_place element.Int = 0
element_place element.Long = 1
element_place element.Reference = 4
element_place element.Byte = 5
element_place element.Char = 6
element_place element.Short = 7

-- the code after the opcode of `newarray`; 6 and 7 are float and double
abbrev pub primitive_code : Primitive → ℕ
primitive_code primitive.Boolean = 4
primitive_code primitive.Char = 5
primitive_code primitive.Byte = 8
primitive_code primitive.Short = 9
primitive_code primitive.Int = 10
primitive_code primitive.Long = 11

abbrev pub int_const_code : IntConst → ℕ
int_const_code int_const.MinusOne = 0x02
int_const_code int_const.Zero = 0x03
int_const_code int_const.One = 0x04
int_const_code int_const.Two = 0x05
int_const_code int_const.Three = 0x06
int_const_code int_const.Four = 0x07
int_const_code int_const.Five = 0x08

abbrev pub long_const_code : LongConst → ℕ
long_const_code long_const.Zero = 0x09
long_const_code long_const.One = 0x0a

abbrev pub stack_code : StackOp → ℕ
stack_code stack_op.Pop = 0x57
stack_code stack_op.Pop2 = 0x58
stack_code stack_op.Dup = 0x59
stack_code stack_op.DupX1 = 0x5a
stack_code stack_op.DupX2 = 0x5b
stack_code stack_op.Dup2 = 0x5c
stack_code stack_op.Dup2X1 = 0x5d
stack_code stack_op.Dup2X2 = 0x5e
stack_code stack_op.Swap = 0x5f

-- of the int operation, which that of the long one follows
abbrev pub arithmetic_code : Arithmetic → ℕ
arithmetic_code arithmetic.Add = 0x60
arithmetic_code arithmetic.Sub = 0x64
arithmetic_code arithmetic.Mul = 0x68
arithmetic_code arithmetic.Div = 0x6c
arithmetic_code arithmetic.Rem = 0x70
arithmetic_code arithmetic.Neg = 0x74
arithmetic_code arithmetic.Shl = 0x78
arithmetic_code arithmetic.Shr = 0x7a
arithmetic_code arithmetic.Ushr = 0x7c
arithmetic_code arithmetic.And = 0x7e
arithmetic_code arithmetic.Or = 0x80
arithmetic_code arithmetic.Xor = 0x82

abbrev pub conversion_code : Conversion → ℕ
conversion_code conversion.IntToLong = 0x85
conversion_code conversion.LongToInt = 0x88
conversion_code conversion.IntToByte = 0x91
conversion_code conversion.IntToChar = 0x92
conversion_code conversion.IntToShort = 0x93

abbrev pub condition_place : Condition → ℕ
condition_place condition.Eq = 0
condition_place condition.Ne = 1
condition_place condition.Lt = 2
condition_place condition.Ge = 3
condition_place condition.Gt = 4
condition_place condition.Le = 5

abbrev pub branch_code : Branch → ℕ
branch_code (branch.If c) = 0x99 + condition_place c
branch_code (branch.IfIntCompare c) = 0x9f + condition_place c
branch_code branch.IfSameReference = 0xa5
branch_code branch.IfOtherReference = 0xa6
branch_code branch.Goto = 0xa7
branch_code branch.IfNull = 0xc6
branch_code branch.IfNonNull = 0xc7

abbrev pub pool_code : PoolOp → ℕ
pool_code pool_op.LoadConstWide = 0x13
pool_code pool_op.LoadLongConst = 0x14
pool_code pool_op.GetStatic = 0xb2
pool_code pool_op.PutStatic = 0xb3
pool_code pool_op.GetField = 0xb4
pool_code pool_op.PutField = 0xb5
pool_code pool_op.InvokeVirtual = 0xb6
pool_code pool_op.InvokeSpecial = 0xb7
pool_code pool_op.InvokeStatic = 0xb8
pool_code pool_op.New = 0xbb
pool_code pool_op.NewReferenceArray = 0xbd
pool_code pool_op.CheckCast = 0xc0
pool_code pool_op.InstanceOf = 0xc1

abbrev pub simple_code : Simple → ℕ
simple_code simple.Nop = 0x00
simple_code simple.ConstNull = 0x01
simple_code (simple.ConstInt n) = int_const_code n
simple_code (simple.ConstLong n) = long_const_code n
simple_code (simple.Load k s) = 0x1a + 4 * kind_place k + slot_place s
simple_code (simple.Store k s) = 0x3b + 4 * kind_place k + slot_place s
simple_code (simple.ArrayLoad e) = 0x2e + element_place e
simple_code (simple.ArrayStore e) = 0x4f + element_place e
simple_code (simple.Stack o) = stack_code o
simple_code (simple.Arithmetic o w) = arithmetic_code o + width_place w
simple_code (simple.Convert c) = conversion_code c
simple_code simple.CompareLongs = 0x94
simple_code (simple.Return k) = 0xac + kind_place k
simple_code simple.ReturnVoid = 0xb1
simple_code simple.ArrayLength = 0xbe
simple_code simple.Throw = 0xbf
simple_code simple.MonitorEnter = 0xc2
simple_code simple.MonitorExit = 0xc3
