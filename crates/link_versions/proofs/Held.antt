-- What is held of a class is what the definitions say of it.
use Rattle.std.proofs.Common.{◌≡◌, ℕ, ◌==◌, Bool, true, false, List, [], ◌∷◌, length, map, reverse, refl, sym, ap, ◌∙◌, Option, Some, None}
use Rattle.std.specs.Prelude.{slice_get, option_map}
use Rattle.std.specs.Option.{option_and_then}
use Rattle.std.proofs.lemmas.Bool.{cond-false, cond-true, eqb-true}
use Rattle.std.proofs.lemmas.List.{length-map}
use Rattle.std.proofs.lemmas.Option.{slice_get-map}
use Rattle.ti_ids.specs.declared.number.ClassNo.{ClassNo}
use Rattle.ti_ids.specs.declared.number.VersionNo.{VersionNo}
use Rattle.link_versions.specs.declared.class.Entry.{Entry}
use Rattle.link_versions.specs.declared.class.EntryKind.TheVariants as entry_kinds
use Rattle.link_versions.specs.declared.class.Version.{Version}
use Rattle.link_versions.specs.declared.class.Element.{Element}
use Rattle.link_versions.specs.Classes.{Class, numbered, class_at, versions_of, first_version, version_at}
use Rattle.link_versions.specs.Orders.{lookup_order, superclasses}
use Rattle.link_versions.specs.Entries.{kind_of, class_of, classes_of, IsSound, AreSound, IsTable}
use Rattle.link_versions.proofs.Numbered.{numbered-map}

-- ---- the class of a number

pub class_at-is : (es : List Entry) (n : ClassNo) (found : Option Entry) → numbered (reverse es) n.0 ≡ found → class_at (classes_of es) n ≡ option_map class_of found
unfolding classes_of
class_at-is es n found e = numbered-map class_of (reverse es) n.0 ∙ ap (option_map class_of) e

pub first_version-some : (es : List Entry) (n : ClassNo) (e : Entry) → numbered (reverse es) n.0 ≡ Some e → first_version (classes_of es) n ≡ slice_get (versions_of (kind_of e.kind)) 0
unfolding first_version
first_version-some es n e found = ap (option_and_then (λ c. slice_get (versions_of c.kind) 0)) (class_at-is es n (Some e) found)

pub first_version-file : (es : List Entry) (n : ClassNo) (e : Entry) (versions : List Version) (found : Option Version) → numbered (reverse es) n.0 ≡ Some e → e.kind ≡ entry_kinds.File versions
    → slice_get versions 0 ≡ found → first_version (classes_of es) n ≡ option_map (λ v. v.tree) found
first_version-file es n e versions found there file first =
    first_version-some es n e there ∙ ap (λ k. slice_get (versions_of (kind_of k)) 0) file ∙ slice_get-map (λ (v : Version). v.tree) versions 0 ∙ ap (option_map (λ v. v.tree)) first

pub first_version-array : (es : List Entry) (n : ClassNo) (e : Entry) (dimensions : ℕ) (element : Element) → numbered (reverse es) n.0 ≡ Some e → e.kind ≡ entry_kinds.Array dimensions element
    → first_version (classes_of es) n ≡ None
first_version-array es n e dimensions element there array = first_version-some es n e there ∙ ap (λ k. slice_get (versions_of (kind_of k)) 0) array

pub first_version-none : (es : List Entry) (n : ClassNo) → numbered (reverse es) n.0 ≡ None → first_version (classes_of es) n ≡ None
unfolding first_version
first_version-none es n found = ap (option_and_then (λ c. slice_get (versions_of c.kind) 0)) (class_at-is es n None found)

-- ---- orders

lookup_order-older : (c : Class) (older : List Class) (n : ClassNo) → (n.0 == length (c ∷ older)) ≡ false → lookup_order (c ∷ older) n ≡ lookup_order older n
unfolding lookup_order
lookup_order-older c older n e = cond-false _ _ _ e

superclasses-older : (c : Class) (older : List Class) (n : ClassNo) → (n.0 == length (c ∷ older)) ≡ false → superclasses (c ∷ older) n ≡ superclasses older n
unfolding superclasses
superclasses-older c older n e = cond-false _ _ _ e

-- both tests of a number ask for the same one
same_test : (n : ℕ) (r : Entry) (rs : List Entry) → (n == length (r ∷ rs)) ≡ (n == length (class_of r ∷ map class_of rs))
same_test n r rs = ap (λ k. n == k) (sym (length-map (r ∷ rs) class_of))

record Orders (classes : List Class) (n : ClassNo) (order supers : List ClassNo) : Type 0 where
  pub looked_up : lookup_order classes n ≡ order
  pub upwards : superclasses classes n ≡ supers

older_is : (c : Class) (older : List Class) (n : ClassNo) (order supers : List ClassNo) → (n.0 == length (c ∷ older)) ≡ false → Orders older n order supers → Orders (c ∷ older) n order supers
older_is c older n order supers e o = record { looked_up = lookup_order-older c older n e ∙ o.looked_up; upwards = superclasses-older c older n e ∙ o.upwards }

newest_is : (older : List Class) (r : Entry) (n : ClassNo) → (n.0 == length (class_of r ∷ older)) ≡ true → IsSound older r → Orders (class_of r ∷ older) n r.order r.supers
newest_is older r n e s =
    let number : n.0 ≡ length (class_of r ∷ older) = eqb-true _ _ e in
    record {
      looked_up = ap (λ k. lookup_order (class_of r ∷ older) (record { 0 = k })) number ∙ sym s.order;
      upwards = ap (λ k. superclasses (class_of r ∷ older) (record { 0 = k })) number ∙ sym s.supers;
    }

held_orders : (rs : List Entry) (n : ClassNo) (e : Entry) → AreSound rs → numbered rs n.0 ≡ Some e → Orders (map class_of rs) n e.order e.supers
held_orders [] n e sound found = absurd cc
held_orders (r ∷ rs) n e sound found = by (n.0 == length (r ∷ rs)) refl (held_orders rs n e sound.1)
  where
    by : (b : Bool) → (n.0 == length (r ∷ rs)) ≡ b → (numbered rs n.0 ≡ Some e → Orders (map class_of rs) n e.order e.supers) → Orders (map class_of (r ∷ rs)) n e.order e.supers
    by true t rest =
        let same : r ≡ e = cc (found, cond-true (n.0 == length (r ∷ rs)) (Some r) (numbered rs n.0) t) in
        rw (← same) (newest_is (map class_of rs) r n (sym (same_test n.0 r rs) ∙ t) sound.0)
    by false t rest =
        let later : numbered rs n.0 ≡ Some e = sym (cond-false (n.0 == length (r ∷ rs)) (Some r) (numbered rs n.0) t) ∙ found in
        older_is (class_of r) (map class_of rs) n e.order e.supers (sym (same_test n.0 r rs) ∙ t) (rest later)

no_orders : (rs : List Entry) (n : ClassNo) → numbered rs n.0 ≡ None → Orders (map class_of rs) n [] []
unfolding lookup_order superclasses
no_orders [] n found = record { looked_up = refl; upwards = refl }
no_orders (r ∷ rs) n found = by (n.0 == length (r ∷ rs)) refl (no_orders rs n)
  where
    by : (b : Bool) → (n.0 == length (r ∷ rs)) ≡ b → (numbered rs n.0 ≡ None → Orders (map class_of rs) n [] []) → Orders (map class_of (r ∷ rs)) n [] []
    by true t rest = absurd (cc (found, cond-true (n.0 == length (r ∷ rs)) (Some r) (numbered rs n.0) t))
    by false t rest =
        let later : numbered rs n.0 ≡ None = sym (cond-false (n.0 == length (r ∷ rs)) (Some r) (numbered rs n.0) t) ∙ found in
        older_is (class_of r) (map class_of rs) n [] [] (sym (same_test n.0 r rs) ∙ t) (rest later)

pub order_held : (es : List Entry) (n : ClassNo) (e : Entry) → IsTable es → numbered (reverse es) n.0 ≡ Some e → lookup_order (classes_of es) n ≡ e.order
unfolding classes_of IsTable
order_held es n e sound found = (held_orders (reverse es) n e sound found).looked_up

pub order_absent : (es : List Entry) (n : ClassNo) → numbered (reverse es) n.0 ≡ None → lookup_order (classes_of es) n ≡ []
unfolding classes_of
order_absent es n found = (no_orders (reverse es) n found).looked_up

pub supers_held : (es : List Entry) (n : ClassNo) (e : Entry) → IsTable es → numbered (reverse es) n.0 ≡ Some e → superclasses (classes_of es) n ≡ e.supers
unfolding classes_of IsTable
supers_held es n e sound found = (held_orders (reverse es) n e sound found).upwards

pub supers_absent : (es : List Entry) (n : ClassNo) → numbered (reverse es) n.0 ≡ None → superclasses (classes_of es) n ≡ []
unfolding classes_of
supers_absent es n found = (no_orders (reverse es) n found).upwards

-- ---- versions

pub first_by_version : (classes : List Class) (n : ClassNo) → version_at classes (record { class = n; place = 0 }) ≡ first_version classes n
unfolding version_at first_version
first_by_version classes n = refl

pub version_at-some : (es : List Entry) (v : VersionNo) (e : Entry) → numbered (reverse es) v.class.0 ≡ Some e → version_at (classes_of es) v ≡ slice_get (versions_of (kind_of e.kind)) v.place
unfolding version_at
version_at-some es v e found = ap (option_and_then (λ c. slice_get (versions_of c.kind) v.place)) (class_at-is es v.class (Some e) found)

pub version_at-file : (es : List Entry) (v : VersionNo) (e : Entry) (versions : List Version) (found : Option Version) → numbered (reverse es) v.class.0 ≡ Some e → e.kind ≡ entry_kinds.File versions
    → slice_get versions v.place ≡ found → version_at (classes_of es) v ≡ option_map (λ k. k.tree) found
version_at-file es v e versions found there file at =
    version_at-some es v e there ∙ ap (λ k. slice_get (versions_of (kind_of k)) v.place) file ∙ slice_get-map (λ (k : Version). k.tree) versions v.place ∙ ap (option_map (λ k. k.tree)) at

pub version_at-array : (es : List Entry) (v : VersionNo) (e : Entry) (dimensions : ℕ) (element : Element) → numbered (reverse es) v.class.0 ≡ Some e → e.kind ≡ entry_kinds.Array dimensions element
    → version_at (classes_of es) v ≡ None
version_at-array es v e dimensions element there array = version_at-some es v e there ∙ ap (λ k. slice_get (versions_of (kind_of k)) v.place) array

pub version_at-none : (es : List Entry) (v : VersionNo) → numbered (reverse es) v.class.0 ≡ None → version_at (classes_of es) v ≡ None
unfolding version_at
version_at-none es v found = ap (option_and_then (λ c. slice_get (versions_of c.kind) v.place)) (class_at-is es v.class None found)
