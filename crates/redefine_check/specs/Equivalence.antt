-- When two versions of a method are equivalent (JVM TI, "IsMethodObsolete"): their instructions are the same but for the indices of
-- constants, the constants are equal, and the exception tables are equal in the same way. That the tables count is this project's own.
use Rattle.std.specs.Prelude.{ℕ, Bool, false, ◌&&◌, ◌==◌, List, [], ◌∷◌, Option, Some, None, find, bytes_eq, codes, unwrap_or}
use Rattle.std.specs.Option.{option_eq, option_map_or}
use Rattle.std.specs.Cmp.Lexicographic.{pointwise}
use Rattle.std.specs.Fmt.{signed_decimal}
use Rattle.jv_names.specs.Names.{Name}
use Rattle.class_code.specs.declared.instr.Instr.{Instr}
use Rattle.class_code.specs.declared.instr.Instr.TheVariants as instr
use Rattle.class_code.specs.Spelling.{spelling}
use Rattle.class_code.specs.CodeReading.{list_of}
use Rattle.class_tree.specs.declared.pool.Const.{Const}
use Rattle.class_tree.specs.declared.pool.Const.TheVariants as const
use Rattle.class_tree.specs.declared.body.Code.{Code}
use Rattle.class_tree.specs.declared.body.Handler.{Handler}
use Rattle.class_tree.specs.declared.members.Member.{Member}
use Rattle.class_tree.specs.Trees.{Tree}
use Rattle.class_tree.specs.Tree.{entry_at, text_at, class_at, name_type_at, code_of, is_named}

-- ---- what an index names: its kind, and the texts and numbers that it comes down to

abbrev pub text_part : Option (List ℕ) → List ℕ
text_part text = unwrap_or text []

abbrev pub name_type_parts : Option (List ℕ × List ℕ) → List (List ℕ)
name_type_parts None = []
name_type_parts (Some p) = p.0 ∷ p.1 ∷ []

abbrev pub constant_parts : List Const → Const → List (List ℕ)
constant_parts pool (const.Utf8 text) = codes "Utf8" ∷ text ∷ []
constant_parts pool (const.Integer n) = codes "Integer" ∷ signed_decimal n ∷ []
constant_parts pool (const.Long n) = codes "Long" ∷ signed_decimal n ∷ []
constant_parts pool (const.Class name) = codes "Class" ∷ text_part (text_at pool name) ∷ []
constant_parts pool (const.Text text) = codes "String" ∷ text_part (text_at pool text) ∷ []
constant_parts pool (const.Field class name_type) = codes "Field" ∷ text_part (class_at pool class) ∷ name_type_parts (name_type_at pool name_type)
constant_parts pool (const.Method class name_type) = codes "Method" ∷ text_part (class_at pool class) ∷ name_type_parts (name_type_at pool name_type)
constant_parts pool (const.InterfaceMethod class name_type) =
    codes "InterfaceMethod" ∷ text_part (class_at pool class) ∷ name_type_parts (name_type_at pool name_type)
constant_parts pool (const.NameType name desc) = codes "NameAndType" ∷ text_part (text_at pool name) ∷ text_part (text_at pool desc) ∷ []
constant_parts pool const.Unused = []

abbrev pub parts_at : List Const → ℕ → List (List ℕ)
parts_at pool index = option_map_or (constant_parts pool) (entry_at pool index) []

abbrev pub same_constant : List Const → List Const → ℕ → ℕ → Bool
same_constant pool other a b = pointwise bytes_eq (parts_at pool a) (parts_at other b)

-- ---- instructions

-- the index of a constant, if an instruction has one, and the instruction with 0 in its place
abbrev pub index_of : Instr → Option ℕ
index_of (instr.LoadConst index) = Some index
index_of (instr.Pool op index) = Some index
index_of (instr.InvokeInterface index count) = Some index
index_of (instr.MultiNewArray index dimensions) = Some index
index_of _ = None

abbrev pub without_index : Instr → Instr
without_index (instr.LoadConst index) = instr.LoadConst 0
without_index (instr.Pool op index) = instr.Pool op 0
without_index (instr.InvokeInterface index count) = instr.InvokeInterface 0 count
without_index (instr.MultiNewArray index dimensions) = instr.MultiNewArray 0 dimensions
without_index i = i

-- spelled alike but for an index, and of equal constants
abbrev pub same_instruction : List Const → List Const → Instr → Instr → Bool
same_instruction pool other a b =
    bytes_eq (spelling (without_index a)) (spelling (without_index b)) && option_eq (same_constant pool other) (index_of a) (index_of b)

-- the instructions of a code with their offsets
abbrev pub instructions : Code → List (ℕ × Instr)
instructions code = unwrap_or (list_of code.bytes) []

-- one by one: the offsets follow from the instructions before
abbrev pub same_instructions : List Const → List Const → Code → Code → Bool
same_instructions pool other a b = pointwise (λ (p q : ℕ × Instr). same_instruction pool other p.1 q.1) (instructions a) (instructions b)

-- ---- exception tables

abbrev pub same_handler : List Const → List Const → Handler → Handler → Bool
same_handler pool other a b =
    a.start == b.start && a.end == b.end && a.target == b.target && option_eq bytes_eq (class_at pool a.catch_type) (class_at other b.catch_type)

-- ---- methods

abbrev pub same_code : List Const → List Const → Code → Code → Bool
same_code pool other a b = same_instructions pool other a b && pointwise (same_handler pool other) a.handlers b.handlers

-- two methods, each over the constant pool of its version; methods without code are equivalent to one another
abbrev pub are_equivalent : List Const → Member → List Const → Member → Bool
are_equivalent pool a other b = option_eq (same_code pool other) (code_of a.attrs) (code_of b.attrs)

-- ---- methods by name

abbrev pub method_named : Tree → Name → Name → Option Member
method_named t name desc = find (is_named t.pool name desc) t.methods

abbrev pub are_equivalent_in : Tree → Tree → Option Member → Option Member → Bool
are_equivalent_in old new (Some a) (Some b) = are_equivalent old.pool a new.pool b
are_equivalent_in old new a b = false

-- both versions have the method, and it is equivalent
abbrev pub same_method : Tree → Tree → Name → Name → Bool
same_method old new name desc = are_equivalent_in old new (method_named old name desc) (method_named new name desc)
