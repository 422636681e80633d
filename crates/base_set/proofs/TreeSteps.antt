-- The steps by which the program makes a tree give the tree that BaseTrees.antt lays out.
use Rattle.std.proofs.Common.{◌≡◌, ℕ, ◌+◌, ◌*◌, ◌<◌, ◌≤◌, true, List, [], ◌∷◌, ◌++◌, length, length-append, refl, arith, Option, Some, None}
use Rattle.std.specs.Borrow.{Bor}
use Rattle.std.specs.List.{list_all}
use Rattle.std.proofs.lemmas.Bool.{and_parts, leb-true}
use Rattle.std.proofs.lemmas.List.{length-map}
use Rattle.std.specs.Prelude.{codes}
use Rattle.jv_names.specs.Names.{Name}
use Rattle.class_tree.specs.declared.pool.Const.{Const}
use Rattle.class_tree.specs.declared.pool.Const.TheVariants as const
use Rattle.class_tree.specs.declared.members.Member.{Member}
use Rattle.class_tree.specs.Trees.{Tree}
use Rattle.class_tree.specs.WellFormed.{is_well_formed}
use Rattle.base_set.specs.declared.table.ClassRow.{ClassRow}
use Rattle.base_set.specs.Rows.{field_of, class_of, has_locals, is_ready}
use Rattle.base_set.specs.BaseSet.{BaseField, BaseClass}
use Rattle.base_set.specs.BaseTrees.{class_entries, class_indices, field_entries, fields_from, method_entries, methods_from, super_names, super_index, interfaces_at, fields_at, methods_at, base_pool, base_tree}

pub length-class_entries : (at : ℕ) (names : List Name) → length (class_entries at names) ≡ 2 * length names
length-class_entries at [] = refl
length-class_entries at (name ∷ names) = omega (arith, length-class_entries (at + 2) names)

pub length-field_entries : (fields : List BaseField) → length (field_entries fields) ≡ 2 * length fields
length-field_entries [] = refl
length-field_entries (f ∷ fs) = omega (arith, length-field_entries fs)

-- the pool after each step
pub record Steps (c : BaseClass) (code own above interfaces fields methods : List Const) : Type 0 where
  pub code_is : code ≡ const.Utf8 (codes "Code") ∷ []
  pub own_is : own ≡ code ++ const.Utf8 c.name ∷ const.Class (length code + 1) ∷ []
  pub above_is : above ≡ own ++ class_entries (length own + 1) (super_names c.super)
  pub interfaces_is : interfaces ≡ above ++ class_entries (length above + 1) c.interfaces
  pub fields_is : fields ≡ interfaces ++ field_entries c.fields
  pub methods_is : methods ≡ fields ++ method_entries c.methods

-- up to the superclass
abbrev pub front : BaseClass → List Const
front c = (const.Utf8 (codes "Code") ∷ []) ++ class_entries 2 (c.name ∷ []) ++ class_entries 4 (super_names c.super)

length-super : (super : Option Name) → 4 + length (class_entries 4 (super_names super)) ≡ interfaces_at super
length-super None = refl
length-super (Some name) = refl

pub length-front : (c : BaseClass) → length (front c) + 1 ≡ interfaces_at c.super
length-front c = omega (arith, length-super c.super)

section_is : {c : BaseClass} {code own above interfaces fields methods : List Const} → Steps c code own above interfaces fields methods → above ≡ front c
section_is s = rw (s.above_is, s.own_is, s.code_is) refl

above_len : {c : BaseClass} {code own above interfaces fields methods : List Const} → Steps c code own above interfaces fields methods → length above + 1 ≡ interfaces_at c.super
above_len {c} s = rw (section_is s) (length-front c)

interfaces_len : {c : BaseClass} {code own above interfaces fields methods : List Const} → Steps c code own above interfaces fields methods → length interfaces + 1 ≡ fields_at c
interfaces_len {c} {above = above} s =
    rw s.interfaces_is (omega (arith, above_len s, length-append above (class_entries (length above + 1) c.interfaces), length-class_entries (length above + 1) c.interfaces))

fields_len : {c : BaseClass} {code own above interfaces fields methods : List Const} → Steps c code own above interfaces fields methods → length fields + 1 ≡ methods_at c
fields_len {c} {interfaces = interfaces} s = rw s.fields_is (omega (arith, interfaces_len s, length-append interfaces (field_entries c.fields), length-field_entries c.fields))

pool_is : {c : BaseClass} {code own above interfaces fields methods : List Const} → Steps c code own above interfaces fields methods → methods ≡ base_pool c
pool_is s = rw (s.methods_is, s.fields_is, s.interfaces_is, above_len s, section_is s) refl

pub built : (c : BaseClass) {code own above interfaces fields methods : List Const} → Steps c code own above interfaces fields methods → (this super : ℕ) (indices : List ℕ) (fs ms : List Member)
    → this ≡ length code + 2 → super ≡ super_index (length own + 2) c.super → indices ≡ class_indices (length above + 1) c.interfaces → fs ≡ fields_from (length interfaces + 1) c.fields
    → ms ≡ methods_from (length fields + 1) c.methods
    → ◌≡◌ {A = Tree} (record { minor = 0; major = 52; pool = methods; flags = record { bits = c.flags }; this_class = this; super_class = super; interfaces = indices; fields = fs; methods = ms; attrs = [] }) (base_tree c)
built c s this super indices fs ms this_is super_is indices_are fs_are ms_are =
    rw (this_is, super_is, indices_are, fs_are, ms_are, above_len s, interfaces_len s, fields_len s, pool_is s, s.own_is, s.code_is) refl

-- ---- room for the entries

interfaces_early : (super : Option Name) → interfaces_at super ≤ 6
interfaces_early None = omega arith
interfaces_early (Some name) = omega arith

pub record Ready (row : ClassRow) : Type 0 where
  pub small : length row.interfaces.now + length row.fields.now + length row.methods.now ≤ 1000
  pub locals : list_all has_locals row.methods.now ≡ true
  pub well_formed : is_well_formed (base_tree (class_of row)) ≡ true

pub ready : (row : ClassRow) → is_ready row ≡ true → Ready row
ready row e =
    let a = and_parts _ _ e in
    let b = and_parts _ _ a.0 in
    record { small = leb-true _ _ b.0; locals = b.1; well_formed = a.1 }

pub fields_room : (row : ClassRow) {code own above interfaces fields methods : List Const} → Steps (class_of row) code own above interfaces fields methods → Ready row
    → length interfaces + 2 * length row.fields.now < 65535
fields_room row s r = omega (arith, interfaces_len s, interfaces_early (class_of row).super, length-map row.interfaces.now (λ (name : Bor Name). name.now), r.small)

pub methods_room : (row : ClassRow) {code own above interfaces fields methods : List Const} → Steps (class_of row) code own above interfaces fields methods → Ready row
    → length fields + 2 * length row.methods.now < 65535
methods_room row s r =
    omega (arith, fields_len s, interfaces_early (class_of row).super, length-map row.interfaces.now (λ (name : Bor Name). name.now), length-map row.fields.now field_of, r.small)
