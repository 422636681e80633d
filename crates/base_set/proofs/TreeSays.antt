-- The tree of an entry says what the entry says.
use Rattle.std.proofs.Common.{◌≡◌, ◌∙◌, ℕ, ◌+◌, ◌-◌, Bool, true, false, eqb, List, [], ◌∷◌, ◌++◌, length, length-append, append_assoc, map, Option, Some, None, refl, sym, arith}
use Rattle.std.specs.Prelude.{MatchBool, if◌then◌else◌, slice_get, codes}
use Rattle.std.proofs.lemmas.Bool.{ne_eqb}
use Rattle.jv_names.specs.Names.{Name}
use Rattle.class_tree.specs.declared.access.Flag.TheVariants.{Abstract}
use Rattle.class_tree.specs.declared.pool.Const.{Const}
use Rattle.class_tree.specs.declared.pool.Const.TheVariants as const
use Rattle.class_tree.specs.declared.body.Code.{Code}
use Rattle.class_tree.specs.declared.members.Attr.{Attr}
use Rattle.class_tree.specs.declared.members.Attr.TheVariants.{Body}
use Rattle.class_tree.specs.Flags.{has_flag}
use Rattle.class_tree.specs.Tree.{entry_at, text_at, class_at}
use Rattle.base_set.specs.BaseSet.{BaseField, BaseMethod, BaseClass}
use Rattle.base_set.specs.BaseCode.{code_of_base}
use Rattle.base_set.specs.BaseTrees.{class_entries, class_indices, field_entries, fields_from, method_entries, methods_from, super_index, interfaces_at, fields_at, methods_at, base_pool, base_tree}
use Rattle.base_set.specs.Says.{AllSay, SaysSuper, SaysField, IsOnlyCode, SaysMethod, Says}
use Rattle.base_set.proofs.TreeSteps.{front, length-front, length-class_entries, length-field_entries}

-- ---- entries behind others

slice_behind : {A : Type 0} (before : List A) (x : A) (rest : List A) → slice_get (before ++ x ∷ rest) (length before) ≡ Some x
slice_behind [] x rest = refl
slice_behind (y ∷ before) x rest = slice_behind before x rest

entry_behind : (before : List Const) (x : Const) (rest : List Const) → entry_at (before ++ x ∷ rest) (length before + 1) ≡ Some x
entry_behind before x rest =
    let counted : eqb (length before + 1) 0 ≡ false = ne_eqb (length before + 1) 0 (λ e. omega (arith, e)) in
    let place : length before + 1 - 1 ≡ length before = omega arith in
    rw (counted, place) (slice_behind before x rest)

first : (pool before : List Const) (at : ℕ) (x : Const) (rest : List Const) → at ≡ length before + 1 → pool ≡ before ++ x ∷ rest → entry_at pool at ≡ Some x
first pool before at x rest at_is is = rw (at_is, is) (entry_behind before x rest)

second : (pool before : List Const) (at : ℕ) (a x : Const) (rest : List Const) → at ≡ length before + 1 → pool ≡ before ++ a ∷ x ∷ rest → entry_at pool (at + 1) ≡ Some x
second pool before at a x rest at_is is = first pool (before ++ a ∷ []) (at + 1) x rest (omega (arith, length-append before (a ∷ []))) (is ∙ sym (append_assoc before (a ∷ []) (x ∷ rest)))

two_more : (before : List Const) (at : ℕ) (a b : Const) → at ≡ length before + 1 → at + 2 ≡ length (before ++ a ∷ b ∷ []) + 1
two_more before at a b at_is = omega (arith, length-append before (a ∷ b ∷ []))

-- ---- classes

classes_found : (pool before : List Const) (at : ℕ) (names : List Name) (rest : List Const) → at ≡ length before + 1 → pool ≡ before ++ (class_entries at names ++ rest)
    → map (class_at pool) (class_indices at names) ≡ map (λ name. Some name) names
classes_found pool before at [] rest at_is is = refl
classes_found pool before at (name ∷ names) rest at_is is =
    let behind = class_entries (at + 2) names ++ rest in
    let text = first pool before at (const.Utf8 name) (const.Class at ∷ behind) at_is is in
    let class = second pool before at (const.Utf8 name) (const.Class at) behind at_is is in
    let others = classes_found pool (before ++ const.Utf8 name ∷ const.Class at ∷ []) (at + 2) names rest (two_more before at _ _ at_is) (is ∙ sym (append_assoc before (const.Utf8 name ∷ const.Class at ∷ []) behind)) in
    rw (class, text, others) refl

super_found : (c : BaseClass) (super : Option Name) → SaysSuper (base_pool (record c { super = super })) super (super_index 5 super)
super_found c None = refl
super_found c (Some name) = refl

-- ---- fields and methods

fields_say : (pool before : List Const) (at : ℕ) (fields : List BaseField) (rest : List Const) → at ≡ length before + 1 → pool ≡ before ++ (field_entries fields ++ rest)
    → AllSay (SaysField pool) fields (fields_from at fields)
fields_say pool before at [] rest at_is is = tt
fields_say pool before at (f ∷ fs) rest at_is is =
    let behind = field_entries fs ++ rest in
    let name = first pool before at (const.Utf8 f.name) (const.Utf8 f.desc ∷ behind) at_is is in
    let desc = second pool before at (const.Utf8 f.name) (const.Utf8 f.desc) behind at_is is in (
      record { flags = refl; name = rw name refl; desc = rw desc refl; attrs = refl },
      fields_say pool (before ++ const.Utf8 f.name ∷ const.Utf8 f.desc ∷ []) (at + 2) fs rest (two_more before at _ _ at_is) (is ∙ sym (append_assoc before (const.Utf8 f.name ∷ const.Utf8 f.desc ∷ []) behind)),
    )

attrs_say : (pool : List Const) (code : Code) → text_at pool 1 ≡ Some (codes "Code") → (is_abstract : Bool)
    → (let attrs : List Attr = if is_abstract then [] else Body 1 code ∷ [] in MatchBool is_abstract (attrs ≡ []) (IsOnlyCode pool code attrs))
attrs_say pool code named true = refl
attrs_say pool code named false = record { name = 1; alone = refl; named = named }

methods_say : (pool before : List Const) (at : ℕ) (methods : List BaseMethod) → text_at pool 1 ≡ Some (codes "Code") → at ≡ length before + 1 → pool ≡ before ++ method_entries methods
    → AllSay (SaysMethod pool) methods (methods_from at methods)
methods_say pool before at [] named at_is is = tt
methods_say pool before at (m ∷ ms) named at_is is =
    let behind = method_entries ms in
    let name = first pool before at (const.Utf8 m.name) (const.Utf8 m.desc ∷ behind) at_is is in
    let desc = second pool before at (const.Utf8 m.name) (const.Utf8 m.desc) behind at_is is in (
      record { flags = refl; name = rw name refl; desc = rw desc refl; attrs = attrs_say pool (code_of_base m) named (has_flag m.flags Abstract) },
      methods_say pool (before ++ const.Utf8 m.name ∷ const.Utf8 m.desc ∷ []) (at + 2) ms named (two_more before at _ _ at_is) (is ∙ sym (append_assoc before (const.Utf8 m.name ∷ const.Utf8 m.desc ∷ []) behind)),
    )

-- ---- the whole

interfaces_begin : (c : BaseClass) → interfaces_at c.super ≡ length (front c) + 1
interfaces_begin c = sym (length-front c)

fields_begin : (c : BaseClass) → fields_at c ≡ length (front c ++ class_entries (interfaces_at c.super) c.interfaces) + 1
fields_begin c = omega (arith, length-front c, length-append (front c) (class_entries (interfaces_at c.super) c.interfaces), length-class_entries (interfaces_at c.super) c.interfaces)

methods_begin : (c : BaseClass) → methods_at c ≡ length (front c ++ class_entries (interfaces_at c.super) c.interfaces ++ field_entries c.fields) + 1
methods_begin c =
    omega (arith, fields_begin c, length-append (front c ++ class_entries (interfaces_at c.super) c.interfaces) (field_entries c.fields), length-field_entries c.fields)

pub tree_says : (c : BaseClass) → Says c (base_tree c)
tree_says c =
    let interfaces = class_entries (interfaces_at c.super) c.interfaces in
    let fields = field_entries c.fields in
    let methods = method_entries c.methods in
    let behind_interfaces : base_pool c ≡ (front c ++ interfaces) ++ (fields ++ methods) = append_assoc (front c ++ interfaces) fields methods in
    record {
      minor = refl;
      major = refl;
      flags = refl;
      name = refl;
      super = super_found c c.super;
      interfaces = classes_found (base_pool c) (front c) (interfaces_at c.super) c.interfaces (fields ++ methods) (interfaces_begin c) (behind_interfaces ∙ append_assoc (front c) interfaces (fields ++ methods));
      fields = fields_say (base_pool c) (front c ++ interfaces) (fields_at c) c.fields methods (fields_begin c) behind_interfaces;
      methods = methods_say (base_pool c) (front c ++ interfaces ++ fields) (methods_at c) c.methods refl (methods_begin c) refl;
      attrs = refl;
    }

pub all_say : (cs : List BaseClass) → AllSay Says cs (map base_tree cs)
all_say [] = tt
all_say (c ∷ cs) = (tree_says c, all_say cs)
