-- The form of an opcode as a function: the form, of all that there are, whose opcode it is (JVM specification 6.5 and 7). That it
-- is the one form that an opcode begins (`Forms`) is proved.
use Rattle.std.specs.Prelude.{ℕ, ◌==◌, cond, List, [], ◌∷◌, ◌++◌, map, find, unwrap_or}
use Rattle.std.specs.List.{flat_map}
use Rattle.class_code.specs.declared.form.Form.{Form}
use Rattle.class_code.specs.declared.form.Form.TheVariants as form
use Rattle.class_code.specs.declared.instr.Simple.{Simple}
use Rattle.class_code.specs.declared.instr.Simple.TheVariants as simple
use Rattle.class_code.specs.declared.instr.IntConst.{IntConst}
use Rattle.class_code.specs.declared.instr.IntConst.TheVariants as int_const
use Rattle.class_code.specs.declared.instr.LongConst.{LongConst}
use Rattle.class_code.specs.declared.instr.LongConst.TheVariants as long_const
use Rattle.class_code.specs.declared.instr.Kind.{Kind}
use Rattle.class_code.specs.declared.instr.Kind.TheVariants as kind
use Rattle.class_code.specs.declared.instr.Slot.{Slot}
use Rattle.class_code.specs.declared.instr.Slot.TheVariants as slot
use Rattle.class_code.specs.declared.instr.Element.{Element}
use Rattle.class_code.specs.declared.instr.Element.TheVariants as element
use Rattle.class_code.specs.declared.instr.StackOp.{StackOp}
use Rattle.class_code.specs.declared.instr.StackOp.TheVariants as stack_op
use Rattle.class_code.specs.declared.instr.Arithmetic.{Arithmetic}
use Rattle.class_code.specs.declared.instr.Arithmetic.TheVariants as arithmetic
use Rattle.class_code.specs.declared.instr.Width.{Width}
use Rattle.class_code.specs.declared.instr.Width.TheVariants as width
use Rattle.class_code.specs.declared.instr.Conversion.{Conversion}
use Rattle.class_code.specs.declared.instr.Conversion.TheVariants as conversion
use Rattle.class_code.specs.declared.instr.Condition.{Condition}
use Rattle.class_code.specs.declared.instr.Condition.TheVariants as condition
use Rattle.class_code.specs.declared.instr.Branch.{Branch}
use Rattle.class_code.specs.declared.instr.Branch.TheVariants as branch
use Rattle.class_code.specs.declared.instr.PoolOp.{PoolOp}
use Rattle.class_code.specs.declared.instr.PoolOp.TheVariants as pool_op
use Rattle.class_code.specs.Forms.{is_floating, is_unsupported, form_code}

-- ---- all forms whose opcode is theirs alone

abbrev pub kinds : List Kind
kinds = kind.Int ∷ kind.Long ∷ kind.Reference ∷ []

abbrev pub widths : List Width
widths = width.Int ∷ width.Long ∷ []

abbrev pub slots : List Slot
slots = slot.Zero ∷ slot.One ∷ slot.Two ∷ slot.Three ∷ []

abbrev pub elements : List Element
elements = element.Int ∷ element.Long ∷ element.Reference ∷ element.Byte ∷ element.Char ∷ element.Short ∷ []

abbrev pub int_consts : List IntConst
int_consts = int_const.MinusOne ∷ int_const.Zero ∷ int_const.One ∷ int_const.Two ∷ int_const.Three ∷ int_const.Four ∷ int_const.Five ∷ []

abbrev pub long_consts : List LongConst
long_consts = long_const.Zero ∷ long_const.One ∷ []

abbrev pub stack_ops : List StackOp
stack_ops = stack_op.Pop ∷ stack_op.Pop2 ∷ stack_op.Dup ∷ stack_op.DupX1 ∷ stack_op.DupX2 ∷ stack_op.Dup2 ∷ stack_op.Dup2X1 ∷ stack_op.Dup2X2 ∷ stack_op.Swap ∷ []

abbrev pub operations : List Arithmetic
operations = arithmetic.Add ∷ arithmetic.Sub ∷ arithmetic.Mul ∷ arithmetic.Div ∷ arithmetic.Rem ∷ arithmetic.Neg ∷ arithmetic.Shl ∷ arithmetic.Shr ∷ arithmetic.Ushr ∷ arithmetic.And ∷ arithmetic.Or ∷ arithmetic.Xor ∷ []

abbrev pub conversions : List Conversion
conversions = conversion.IntToLong ∷ conversion.LongToInt ∷ conversion.IntToByte ∷ conversion.IntToChar ∷ conversion.IntToShort ∷ []

abbrev pub conditions : List Condition
conditions = condition.Eq ∷ condition.Ne ∷ condition.Lt ∷ condition.Ge ∷ condition.Gt ∷ condition.Le ∷ []

abbrev pub pool_ops : List PoolOp
pool_ops = pool_op.LoadConstWide ∷ pool_op.LoadLongConst ∷ pool_op.GetStatic ∷ pool_op.PutStatic ∷ pool_op.GetField ∷ pool_op.PutField ∷ pool_op.InvokeVirtual ∷ pool_op.InvokeSpecial ∷ pool_op.InvokeStatic ∷ pool_op.New ∷ pool_op.NewReferenceArray ∷ pool_op.CheckCast ∷ pool_op.InstanceOf ∷ []

abbrev pub branches : List Branch
branches = branch.IfSameReference ∷ branch.IfOtherReference ∷ branch.Goto ∷ branch.IfNull ∷ branch.IfNonNull ∷ map (λ c. branch.If c) conditions ++ map (λ c. branch.IfIntCompare c) conditions

abbrev pub simples : List Simple
simples =
    simple.Nop ∷ simple.ConstNull ∷ simple.CompareLongs ∷ simple.ReturnVoid ∷ simple.ArrayLength ∷ simple.Throw ∷ simple.MonitorEnter ∷ simple.MonitorExit ∷ []
    ++ map (λ n. simple.ConstInt n) int_consts ++ map (λ n. simple.ConstLong n) long_consts
    ++ flat_map (λ k. map (λ s. simple.Load k s) slots) kinds ++ flat_map (λ k. map (λ s. simple.Store k s) slots) kinds
    ++ map (λ e. simple.ArrayLoad e) elements ++ map (λ e. simple.ArrayStore e) elements ++ map (λ o. simple.Stack o) stack_ops
    ++ flat_map (λ o. map (λ w. simple.Arithmetic o w) widths) operations ++ map (λ c. simple.Convert c) conversions ++ map (λ k. simple.Return k) kinds

abbrev pub forms : List Form
forms =
    form.PushByte ∷ form.PushShort ∷ form.LoadConst ∷ form.Increment ∷ form.GotoWide ∷ form.TableSwitch ∷ form.LookupSwitch ∷ form.InvokeInterface ∷ form.NewArray
    ∷ form.MultiNewArray ∷ form.Wide ∷ [] ++ map (λ k. form.Load k) kinds ++ map (λ k. form.Store k) kinds ++ map (λ c. form.Branch c) branches ++ map (λ o. form.Pool o) pool_ops
    ++ map (λ s. form.Simple s) simples

-- what an opcode begins
unfoldable pub form_at : ℕ → Form
form_at b = cond (is_unsupported b) form.Unsupported (cond (is_floating b) form.Floating (unwrap_or (find (λ f. form_code f == b) forms) form.Unsupported))
