-- What an instruction's index into the constant pool must name (JVM specification 4.9.1 and 6.5).
use Rattle.std.specs.Prelude.{ℕ, List, [], ◌∷◌, Option, Some, None, Ok, Err}
use Rattle.class_code.specs.declared.form.Form.{Form}
use Rattle.class_code.specs.declared.form.Form.TheVariants as form
use Rattle.class_code.specs.declared.instr.PoolOp.{PoolOp}
use Rattle.class_code.specs.declared.instr.PoolOp.TheVariants as pool_op
use Rattle.class_code.specs.declared.instr.Instr.{Instr}
use Rattle.class_code.specs.declared.instr.Instr.TheVariants as instr
use Rattle.class_code.specs.declared.pool.PoolUse.{PoolUse}
use Rattle.class_code.specs.declared.pool.PoolUse.TheVariants as used
use Rattle.class_code.specs.FormSearch.{form_at}
use Rattle.class_code.specs.OperandReading.{Read, take_u1, take_u2}

abbrev pub op_use : PoolOp → PoolUse
op_use pool_op.LoadConstWide = used.Loadable
op_use pool_op.LoadLongConst = used.Long
op_use pool_op.GetStatic = used.Field
op_use pool_op.PutStatic = used.Field
op_use pool_op.GetField = used.Field
op_use pool_op.PutField = used.Field
op_use pool_op.InvokeVirtual = used.Method
op_use pool_op.InvokeSpecial = used.MethodOrInterfaceMethod
op_use pool_op.InvokeStatic = used.MethodOrInterfaceMethod
op_use pool_op.New = used.Class
op_use pool_op.NewReferenceArray = used.Class
op_use pool_op.CheckCast = used.Class
op_use pool_op.InstanceOf = used.Class

-- the index of an instruction, if it has one, and what it must name
abbrev pub pool_use : Instr → Option (ℕ × PoolUse)
pool_use (instr.LoadConst index) = Some (index, used.Loadable)
pool_use (instr.Pool o index) = Some (index, op_use o)
pool_use (instr.InvokeInterface index count) = Some (index, used.InterfaceMethod)
pool_use (instr.MultiNewArray index dimensions) = Some (index, used.Class)
pool_use i = None

-- ---- the same before the whole instruction is read

-- an index that was read
abbrev pub index_for : PoolUse → Read ℕ → Option (ℕ × PoolUse)
index_for u (Ok n) = Some (n.0, u)
index_for u (Err why) = None

-- that behind an opcode of this form
abbrev pub form_use : Form → List ℕ → Option (ℕ × PoolUse)
form_use form.LoadConst bytes = index_for used.Loadable (take_u1 bytes)
form_use (form.Pool o) bytes = index_for (op_use o) (take_u2 bytes)
form_use form.InvokeInterface bytes = index_for used.InterfaceMethod (take_u2 bytes)
form_use form.MultiNewArray bytes = index_for used.Class (take_u2 bytes)
form_use f bytes = None

-- The index behind the opcode at the front, where the opcode has one and the bytes of the index are there.
abbrev pub pool_use_at : List ℕ → Option (ℕ × PoolUse)
pool_use_at [] = None
pool_use_at (b ∷ bytes) = form_use (form_at b) bytes
