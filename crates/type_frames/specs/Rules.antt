-- The rule of each instruction (JVM specification 4.10.1.9): the state that it leaves, or none where it refuses the state before.
use Rattle.std.specs.Prelude.{ℕ, Bool, true, false, [], ◌∷◌, Option, Some, codes}
use Rattle.class_code.specs.declared.instr.Simple.{Simple}
use Rattle.class_code.specs.declared.instr.Simple.TheVariants as simple
use Rattle.class_code.specs.declared.instr.PoolOp.{PoolOp}
use Rattle.class_code.specs.declared.instr.PoolOp.TheVariants as pool_op
use Rattle.class_code.specs.declared.instr.Branch.{Branch}
use Rattle.class_code.specs.declared.instr.Branch.TheVariants as branch
use Rattle.class_code.specs.declared.instr.Instr.{Instr}
use Rattle.class_code.specs.declared.instr.Instr.TheVariants as instr
use Rattle.class_code.specs.Codes.{slot_place}
use Rattle.type_frames.specs.declared.vtype.VType.TheVariants as vtype
use Rattle.type_frames.specs.States.{State, taken, put}
use Rattle.type_frames.specs.Environments.{Environment}
use Rattle.type_frames.specs.RulesOfNumbers.{moved, arithmetic_rule, conversion_rule, comparison_rule, branch_rule, reference_taken}
use Rattle.type_frames.specs.RulesOfLocals.{load_rule, store_rule, increment_rule}
use Rattle.type_frames.specs.RulesOfStack.{stack_rule}
use Rattle.type_frames.specs.RulesOfArrays.{array_load_rule, array_store_rule, array_length_rule, new_array_rule, new_reference_array_rule, multi_array_rule}
use Rattle.type_frames.specs.RulesOfFields.{constant_rule, long_constant_rule, get_static_rule, put_static_rule, get_field_rule, put_field_rule, new_rule, cast_rule, instance_rule}
use Rattle.type_frames.specs.RulesOfCalls.{invoke_virtual_rule, invoke_special_rule, invoke_static_rule, invoke_interface_rule, return_rule, return_void_rule}

-- one that is its opcode alone
unfoldable pub simple_rule : Environment → Simple → State → Option State
simple_rule env simple.Nop s = Some s
simple_rule env simple.ConstNull s = put env.max_stack vtype.Null s
simple_rule env (simple.ConstInt n) s = put env.max_stack vtype.Integer s
simple_rule env (simple.ConstLong n) s = put env.max_stack vtype.Long s
simple_rule env (simple.Load k slot) s = load_rule env k (slot_place slot) s
simple_rule env (simple.Store k slot) s = store_rule k (slot_place slot) s
simple_rule env (simple.ArrayLoad e) s = array_load_rule env e s
simple_rule env (simple.ArrayStore e) s = array_store_rule env e s
simple_rule env (simple.Stack op) s = stack_rule env.max_stack op s
simple_rule env (simple.Arithmetic op w) s = arithmetic_rule env op w s
simple_rule env (simple.Convert c) s = conversion_rule env c s
simple_rule env simple.CompareLongs s = comparison_rule env s
simple_rule env (simple.Return k) s = return_rule env k s
simple_rule env simple.ReturnVoid s = return_void_rule env s
simple_rule env simple.ArrayLength s = array_length_rule env s
simple_rule env simple.Throw s = taken env.hierarchy (vtype.Object (codes "java/lang/Throwable")) s
simple_rule env simple.MonitorEnter s = reference_taken s
simple_rule env simple.MonitorExit s = reference_taken s

-- one with an entry of the constant pool, at this offset
unfoldable pub pool_rule : Environment → ℕ → PoolOp → ℕ → State → Option State
pool_rule env at pool_op.LoadConstWide index s = constant_rule env index s
pool_rule env at pool_op.LoadLongConst index s = long_constant_rule env index s
pool_rule env at pool_op.GetStatic index s = get_static_rule env index s
pool_rule env at pool_op.PutStatic index s = put_static_rule env index s
pool_rule env at pool_op.GetField index s = get_field_rule env index s
pool_rule env at pool_op.PutField index s = put_field_rule env index s
pool_rule env at pool_op.InvokeVirtual index s = invoke_virtual_rule env index s
pool_rule env at pool_op.InvokeSpecial index s = invoke_special_rule env index s
pool_rule env at pool_op.InvokeStatic index s = invoke_static_rule env index s
pool_rule env at pool_op.New index s = new_rule env at index s
pool_rule env at pool_op.NewReferenceArray index s = new_reference_array_rule env index s
pool_rule env at pool_op.CheckCast index s = cast_rule env index s
pool_rule env at pool_op.InstanceOf index s = instance_rule env index s

-- The rule of the instruction at an offset.
unfoldable pub rule : Environment → ℕ → Instr → State → Option State
rule env at (instr.Simple op) s = simple_rule env op s
rule env at (instr.PushByte n) s = put env.max_stack vtype.Integer s
rule env at (instr.PushShort n) s = put env.max_stack vtype.Integer s
rule env at (instr.LoadConst index) s = constant_rule env index s
rule env at (instr.Load k place) s = load_rule env k place s
rule env at (instr.LoadWide k place) s = load_rule env k place s
rule env at (instr.Store k place) s = store_rule k place s
rule env at (instr.StoreWide k place) s = store_rule k place s
rule env at (instr.Increment place by) s = increment_rule place s
rule env at (instr.IncrementWide place by) s = increment_rule place s
rule env at (instr.Branch b by) s = branch_rule env b s
rule env at (instr.GotoWide by) s = Some s
rule env at (instr.TableSwitch t) s = moved env (vtype.Integer ∷ []) [] s
rule env at (instr.LookupSwitch l) s = moved env (vtype.Integer ∷ []) [] s
rule env at (instr.Pool op index) s = pool_rule env at op index s
rule env at (instr.InvokeInterface index count) s = invoke_interface_rule env index count s
rule env at (instr.NewArray p) s = new_array_rule env p s
rule env at (instr.MultiNewArray index lengths) s = multi_array_rule env index lengths s
-- no code spells these two
rule env at (instr.PushInt n) s = put env.max_stack vtype.Integer s
rule env at (instr.PushLong n) s = put env.max_stack vtype.Long s

-- ---- where an instruction goes

abbrev pub branch_falls : Branch → Bool
branch_falls branch.Goto = false
branch_falls b = true

abbrev pub simple_falls : Simple → Bool
simple_falls (simple.Return k) = false
simple_falls simple.ReturnVoid = false
simple_falls simple.Throw = false
simple_falls op = true

-- the next instruction may follow
abbrev pub falls_through : Instr → Bool
falls_through (instr.Simple op) = simple_falls op
falls_through (instr.Branch b by) = branch_falls b
falls_through (instr.GotoWide by) = false
falls_through (instr.TableSwitch t) = false
falls_through (instr.LookupSwitch l) = false
falls_through i = true
