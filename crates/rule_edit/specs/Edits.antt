-- What each kind of edit makes of a class file (`java.lang.instrument` and JVM TI leave that to the agent; JVM specification 4). Where it
-- can't be made it fails. What is made is well-formed, or the edit fails: so a pool, a code, a list of methods and a number of a stack map
-- that have become too great, and a name that is none, need no case of their own.
use Rattle.std.specs.Prelude.{ℕ, zero, suc, ◌==◌, ℤ, Bool, false, ◌&&◌, ◌||◌, not, nat_le, if◌then◌else◌, List, [], ◌∷◌, ◌++◌, find, slice_get, Option, Some, None, option_map, is_some, codes, Ok, Err}
use Rattle.class_tree.specs.Ranges.{is_signed}
use Rattle.std.specs.List.{list_any}
use Rattle.std.specs.Ordering.{int_eq}
use Rattle.ti_ids.specs.Maybe.{◌>>=◌}
use Rattle.jv_names.specs.Names.{Name}
use Rattle.agent_types.specs.declared.rule.Edit.{Edit}
use Rattle.agent_types.specs.declared.rule.Edit.TheVariants as edit
use Rattle.class_code.specs.declared.instr.IntConst.{IntConst}
use Rattle.class_code.specs.declared.instr.IntConst.TheVariants as int_const
use Rattle.class_code.specs.declared.instr.Instr.{Instr}
use Rattle.class_code.specs.declared.instr.Instr.TheVariants as instr
use Rattle.class_code.specs.declared.instr.Simple.TheVariants as simple
use Rattle.class_code.specs.declared.instr.PoolOp.TheVariants as pool_op
use Rattle.class_tree.specs.declared.pool.Const.{Const}
use Rattle.class_tree.specs.declared.body.Code.{Code}
use Rattle.class_tree.specs.declared.members.Member.{Member}
use Rattle.class_tree.specs.declared.members.Attr.{Attr}
use Rattle.class_tree.specs.declared.members.Attr.TheVariants as attr
use Rattle.class_tree.specs.Trees.{Tree}
use Rattle.class_tree.specs.Tree.{is_named, code_of}
use Rattle.class_tree.specs.WellFormed.{is_well_formed}
use Rattle.class_tree.specs.Spelling.{class_bytes}
use Rattle.classfile_read.specs.ClassReading.{class_of}
use Rattle.redefine_check.specs.Equivalence.{method_named}
use Rattle.bytecode_local.specs.Constants.{int_constant}
use Rattle.rule_edit.specs.Constants.{Makes, plain, given, each, Integer, Method, InterfaceMethod, is_at, index_of, text_index}
use Rattle.rule_edit.specs.Codes.{replaced_in, entered, imported_code}

-- ---- class files

-- the tree of bytes that are an accepted class file
abbrev pub tree_of : List ℕ → Option Tree
tree_of bytes = elim (class_of bytes) [ Ok t ↦ Some t | Err fault ↦ None ]

-- the bytes of a tree that is one
abbrev pub written : Tree → Option (List ℕ)
written t = if is_well_formed t && not (t.super_class == 0) then Some (class_bytes t) else None

-- the bytes of a donor, which are counted from 1, and the tree of one that is a class file
abbrev pub donor_at : List (List ℕ) → ℕ → Option (List ℕ)
donor_at donors zero = None
donor_at donors (suc place) = slice_get donors place

abbrev pub donor_tree : List (List ℕ) → ℕ → Option Tree
donor_tree donors n = donor_at donors n >>= tree_of

-- ---- methods

abbrev pub code_in : Tree → Name → Name → Option Code
code_in t name desc = method_named t name desc >>= λ m. code_of m.attrs

-- the method with its attributes made anew
abbrev pub with_attrs : (Attr → Makes Attr) → Member → Makes Member
with_attrs makes m = given (each makes m.attrs) (λ attrs. plain (record m { attrs = attrs }))

-- with its code made anew
abbrev pub in_body : (Code → Makes Code) → Attr → Makes Attr
in_body makes (attr.Body name code) = given (makes code) (λ c. plain (attr.Body name c))
in_body makes a = plain a

-- the class with all its methods made anew
abbrev pub in_methods : (Member → Makes Member) → Tree → Option Tree
in_methods makes t = option_map (λ made. record t { pool = made.1; methods = made.0 }) (each makes t.methods t.pool)

-- with that of this name and descriptor made anew, where it has that
abbrev pub in_method : Name → Name → (Member → Makes Member) → Tree → Option Tree
in_method name desc makes t =
    let is = is_named t.pool name desc in
    if list_any is t.methods then in_methods (λ m. if is m then makes m else plain m) t else None

-- ---- `body` and `add`: the code of a donor's method

-- the text of its name, and then what it names
abbrev pub imported_body : List Const → Code → Makes Attr
imported_body donor code = given (text_index (codes "Code")) (λ name. given (imported_code donor code) (λ c. plain (attr.Body name c)))

abbrev pub other_body : List Const → Code → Attr → Makes Attr
other_body donor code (attr.Body name old) = imported_body donor code
other_body donor code a = plain a

abbrev pub imported_bodies : List Const → Option Code → Makes (List Attr)
imported_bodies donor None = plain []
imported_bodies donor (Some code) = given (imported_body donor code) (λ a. plain (a ∷ []))

-- a method of a donor, of whose attributes only the code comes with it
abbrev pub imported_method : List Const → Name → Name → Member → Makes Member
imported_method donor name desc m =
    given (text_index name) (λ n. given (text_index desc) (λ d. given (imported_bodies donor (code_of m.attrs)) (λ attrs.
    plain (record { flags = m.flags; name = n; desc = d; attrs = attrs }))))

-- behind the methods that the class has
abbrev pub with_method : Makes Member → Tree → Option Tree
with_method makes t = option_map (λ made. record t { pool = made.1; methods = t.methods ++ made.0 ∷ [] }) (makes t.pool)

-- ---- `redirect`

-- a call of a static method, by either kind of reference
abbrev pub calls : List Const → Name → Name → Name → Instr → Bool
calls pool class name desc (instr.Pool pool_op.InvokeStatic index) =
    is_at pool (Method class name desc) index || is_at pool (InterfaceMethod class name desc) index
calls pool class name desc i = false

abbrev pub call_of : Name → Name → Name → Makes Instr
call_of class name desc = given (index_of (Method class name desc)) (λ index. plain (instr.Pool pool_op.InvokeStatic index))

-- ---- `constant`: `iconst_<i>`, `bipush`, `sipush`, `ldc` and `ldc_w`

abbrev pub pushes : List Const → ℤ → Instr → Bool
pushes pool n (instr.Simple (simple.ConstInt c)) = int_eq (int_constant c) n
pushes pool n (instr.PushByte m) = int_eq m n
pushes pool n (instr.PushShort m) = int_eq m n
pushes pool n (instr.LoadConst index) = is_at pool (Integer n) index
pushes pool n (instr.Pool pool_op.LoadConstWide index) = is_at pool (Integer n) index
pushes pool n i = false

abbrev pub int_consts : List IntConst
int_consts =
    int_const.MinusOne ∷ int_const.Zero ∷ int_const.One ∷ int_const.Two ∷ int_const.Three ∷ int_const.Four ∷ int_const.Five ∷ []

-- where the form can hold it
abbrev pub provided : Bool → Instr → Makes Instr
provided holds i pool = if holds then Some (i, pool) else None

-- a push of this int in the form of another push
abbrev pub push_like : ℤ → Instr → Makes Instr
push_like n (instr.Simple (simple.ConstInt c)) pool =
    option_map (λ own. (instr.Simple (simple.ConstInt own), pool)) (find (λ own. int_eq (int_constant own) n) int_consts)
push_like n (instr.PushByte m) pool = provided (is_signed 128 n) (instr.PushByte n) pool
push_like n (instr.PushShort m) pool = provided (is_signed 32768 n) (instr.PushShort n) pool
push_like n (instr.LoadConst index) pool = given (index_of (Integer n)) (λ own. provided (nat_le own 255) (instr.LoadConst own)) pool
push_like n (instr.Pool op index) pool = given (index_of (Integer n)) (λ own. plain (instr.Pool op own)) pool
push_like n i pool = plain i pool

-- ---- the six kinds

module _ (donors : List (List ℕ)) where
  -- those that are made of a class's parts
  abbrev pub tree_edited : Edit → Tree → Option Tree
  tree_edited (edit.File donor) t = None
  tree_edited (edit.Body method desc donor) t =
      code_in t method desc >>= λ own. donor_tree donors donor >>= λ d. code_in d method desc >>= λ code.
      in_method method desc (with_attrs (other_body d.pool code)) t
  tree_edited (edit.Add method desc donor) t =
      donor_tree donors donor >>= λ d. method_named d method desc >>= λ m.
      if is_some (method_named t method desc) then None else with_method (imported_method d.pool method desc m) t
  tree_edited (edit.Entry method desc to_class to_method) t =
      code_in t method desc >>= λ own. in_method method desc (with_attrs (in_body (entered to_class to_method))) t
  tree_edited (edit.Redirect from_class from_method desc to_class to_method) t =
      in_methods (with_attrs (in_body (replaced_in (calls t.pool from_class from_method desc) (λ i. call_of to_class to_method desc)))) t
  tree_edited (edit.Constant method desc from to) t =
      in_method method desc (with_attrs (in_body (replaced_in (pushes t.pool from) (push_like to)))) t

  -- `file` alone looks at no class file
  abbrev pub edited : Edit → List ℕ → Option (List ℕ)
  edited (edit.File donor) bytes = donor_at donors donor
  edited e bytes = tree_of bytes >>= tree_edited e >>= written
