-- A method's list of instructions, made ready for running: what loads an Integer or a Long of the constant pool pushes it itself
-- (JVM specification 6.5, `ldc`, `ldc_w` and `ldc2_w`).
use Rattle.std.specs.Prelude.{ℕ, ◌<◌, ◌^◌, ℤ, List, length, map, IsSome, IfSome, Option, Some, None, option_map, if◌then◌else◌}
use Rattle.std.specs.Option.{option_and_then}
use Rattle.ti_ids.specs.declared.number.VersionNo.{VersionNo}
use Rattle.ti_ids.specs.declared.number.MethodNo.{MethodNo}
use Rattle.jv_names.specs.Names.{Name}
use Rattle.class_code.specs.declared.instr.Instr.{Instr}
use Rattle.class_code.specs.declared.instr.Instr.TheVariants as instr
use Rattle.class_code.specs.declared.instr.PoolOp.TheVariants as pool_op
use Rattle.class_code.specs.CodeReading.{list_of}
use Rattle.class_tree.specs.declared.pool.Const.{Const}
use Rattle.class_tree.specs.declared.pool.Const.TheVariants as const
use Rattle.class_tree.specs.declared.members.Member.{Member}
use Rattle.class_tree.specs.Trees.{Tree}
use Rattle.class_tree.specs.Tree.{entry_at, code_of}
use Rattle.link_versions.specs.Classes.{Class, is_same_class, version_at}
use Rattle.link_versions.specs.Members.{method_name, method_desc, method_in}

-- the number of an entry
abbrev pub int_of : Option Const → Option ℤ
int_of (Some (const.Integer n)) = Some n
int_of entry = None

abbrev pub long_of : Option Const → Option ℤ
long_of (Some (const.Long n)) = Some n
long_of entry = None

-- what pushes a number, in the place of what loads it
abbrev pub pushed : (ℤ → Instr) → Instr → Option ℤ → Instr
pushed push i None = i
pushed push i (Some n) = push n

unfoldable pub ready : List Const → Instr → Instr
ready pool (instr.LoadConst index) = pushed instr.PushInt (instr.LoadConst index) (int_of (entry_at pool index))
ready pool (instr.Pool pool_op.LoadConstWide index) = pushed instr.PushInt (instr.Pool pool_op.LoadConstWide index) (int_of (entry_at pool index))
ready pool (instr.Pool pool_op.LoadLongConst index) = pushed instr.PushLong (instr.Pool pool_op.LoadLongConst index) (long_of (entry_at pool index))
ready pool i = i

abbrev pub ready_list : List Const → List (ℕ × Instr) → List (ℕ × Instr)
ready_list pool list = map (λ p. (p.0, ready pool p.1)) list

-- that of a method, which is none where the method has no code
unfoldable pub ready_code : List Const → Member → Option (List (ℕ × Instr))
ready_code pool m = option_map (ready_list pool) (option_and_then (λ code. list_of code.bytes) (code_of m.attrs))

-- the code of the method of a name and a descriptor in a version
abbrev pub code_named : Tree → Option Name → Option Name → Option (List (ℕ × Instr))
code_named t name desc = option_and_then (ready_code t.pool) (method_in t name desc)

-- the code of a method in a version of its class, which may have its methods in any order, and where it lacks the method has none
unfoldable pub code_in : List Class → VersionNo → MethodNo → Option (List (ℕ × Instr))
code_in classes v m =
    if is_same_class v.class m.class then
    option_and_then (λ t. code_named t (method_name classes m) (method_desc classes m)) (version_at classes v) else None

-- the code of a method, if it has one, has a list; of a well-formed class, that of each method has
unfoldable pub IsCoded : Member → Type 0
IsCoded m = IfSome (code_of m.attrs) (λ code. IsSome (list_of code.bytes) × (length code.bytes < 2 ^ 16))
