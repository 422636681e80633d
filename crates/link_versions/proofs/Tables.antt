-- The table with one class more, and what it says.
use Rattle.std.proofs.Common.{◌≡◌, ℕ, ◌-◌, ◌<◌, Bool, true, false, List, [], ◌∷◌, ◌++◌, length, map, reverse, get_or, refl, sym, ap, subst, ◌∙◌, Option, Some, None, arith}
use Rattle.std.specs.Prelude.{IfSome, IsTrue, bytes_eq, unwrap_or, ⊤}
use Rattle.std.specs.List.{filter_map, cons_option, AllByRecursion}
use Rattle.std.specs.Option.{option_and_then}
use Rattle.std.proofs.lemmas.Bool.{cond-true, cond-false, eq-eqb}
use Rattle.std.proofs.lemmas.List.{reverse-append, length-map, length-reverse}
use Rattle.std.proofs.lemmas.Option.{MatchOption-at_some, slice_get-get_or, same_Some}
use Rattle.ti_ids.specs.declared.number.ClassNo.{ClassNo}
use Rattle.jv_names.specs.Names.{Name, is_class_name}
use Rattle.class_tree.specs.Trees.{Tree}
use Rattle.class_tree.specs.Tree.{class_at as name_at}
use Rattle.class_tree.specs.WellFormed.{is_well_formed}
use Rattle.class_tree.proofs.Facts.{well_formed_facts}
use Rattle.link_versions.specs.declared.class.Entry.{Entry}
use Rattle.link_versions.specs.declared.class.EntryKind.TheVariants as entry_kinds
use Rattle.link_versions.specs.declared.class.Version.{Version}
use Rattle.ti_ids.specs.declared.state.InitState.TheVariants as states
use Rattle.link_versions.specs.Classes.{Class, OfFile, class_at, number_of}
use Rattle.link_versions.specs.Orders.{from_parent, ordered, lookup_order, superclasses}
use Rattle.link_versions.specs.Changes.{IsThere, parent_by, interfaces_by, CanDefine, file_class, IsOfKind, IsLawful, AreLawful}
use Rattle.link_versions.specs.Entries.{kind_of, class_of, classes_of, IsReady, AreReady, IsSound, AreSound, IsTable}
use Rattle.link_versions.proofs.Numbered.{numbered-reverse}
use Rattle.link_versions.proofs.Held.{class_at-is}

-- ---- what is seen

reversed : {A : Type 0} (xs : List A) (x : A) → reverse (xs ++ x ∷ []) ≡ x ∷ reverse xs
reversed xs x = reverse-append xs (x ∷ [])

pub classes_of-push : (es : List Entry) (e : Entry) → classes_of (es ++ e ∷ []) ≡ class_of e ∷ classes_of es
unfolding classes_of
classes_of-push es e = ap (map class_of) (reversed es e)

pub length-classes_of : (es : List Entry) → length (classes_of es) ≡ length es
unfolding classes_of
length-classes_of es = length-map (reverse es) class_of ∙ length-reverse es

pub IsTable-push : (es : List Entry) (e : Entry) → IsTable es → IsSound (classes_of es) e → IsTable (es ++ e ∷ [])
unfolding classes_of IsTable
IsTable-push es e table sound = rw (reversed es e) (sound, table)

pub class_at-there : (es : List Entry) (n : ClassNo) (d : Entry) → IsThere (classes_of es) n → class_at (classes_of es) n ≡ Some (class_of (get_or es (n.0 - 1) d))
class_at-there es n d there =
    let same = length-classes_of es in
    let low : n.0 - 1 < length es = omega (arith, same, there.0, there.1) in
    class_at-is es n (Some (get_or es (n.0 - 1) d)) (numbered-reverse es n.0 there.0 ∙ slice_get-get_or es (n.0 - 1) d low)

are_lawful : (rs : List Entry) → AreSound rs → AreLawful (map class_of rs)
are_lawful [] sound = tt
are_lawful (r ∷ rs) sound = (sound.0.lawful, are_lawful rs sound.1)

pub lawful : (es : List Entry) → IsTable es → AreLawful (classes_of es)
unfolding classes_of IsTable
lawful es table = are_lawful (reverse es) table

-- ---- numbers of names

there_later : (c : Class) (older : List Class) (n : ClassNo) → IsThere older n → IsThere (c ∷ older) n
there_later c older n there = (there.0, omega (arith, there.1))

pub number_of-there : (classes : List Class) (name : Name) (n : ClassNo) → number_of classes name ≡ Some n → IsThere classes n
number_of-there [] name n e = absurd cc
number_of-there (c ∷ older) name n e = by (bytes_eq name c.name) refl (number_of-there older name n)
  where
    by : (b : Bool) → bytes_eq name c.name ≡ b → (number_of older name ≡ Some n → IsThere older n) → IsThere (c ∷ older) n
    by true t rest =
        let same : record { 0 = length (c ∷ older) } ≡ n = same_Some _ _ (sym (cond-true (bytes_eq name c.name) (Some (record { 0 = length (c ∷ older) })) (number_of older name) t) ∙ e) in
        subst (λ (k : ClassNo). IsThere (c ∷ older) k) same (omega arith, omega arith)
    by false t rest = there_later c older n (rest (sym (cond-false (bytes_eq name c.name) (Some (record { 0 = length (c ∷ older) })) (number_of older name) t) ∙ e))

-- ---- no class

pub IsTable-none : (es : List Entry) → es ≡ [] → IsTable es
unfolding IsTable
IsTable-none es e = rw e tt

-- ---- a new class

lookup_order-newest : (c : Class) (older : List Class) (n : ClassNo) → n.0 ≡ length (c ∷ older) → lookup_order (c ∷ older) n ≡ ordered (lookup_order older) n c.interfaces c.parent
unfolding lookup_order
lookup_order-newest c older n e = cond-true _ _ _ (eq-eqb n.0 (length (c ∷ older)) e)

superclasses-newest : (c : Class) (older : List Class) (n : ClassNo) → n.0 ≡ length (c ∷ older) → superclasses (c ∷ older) n ≡ n ∷ from_parent (superclasses older) c.parent
unfolding superclasses
superclasses-newest c older n e = cond-true _ _ _ (eq-eqb n.0 (length (c ∷ older)) e)

found_there : (classes : List Class) (name : Name) (found : Option ClassNo) → number_of classes name ≡ found → IfSome found (IsThere classes)
found_there classes name None e = tt
found_there classes name (Some n) e = number_of-there classes name n e

named_there : (classes : List Class) (name : Option Name) → IfSome (option_and_then (number_of classes) name) (IsThere classes)
named_there classes None = tt
named_there classes (Some name) = found_there classes name (number_of classes name) refl

one_more : (classes : List Class) (found : Option ClassNo) (ns : List ClassNo) → IfSome found (IsThere classes) → AllByRecursion (IsThere classes) ns → AllByRecursion (IsThere classes) (cons_option found ns)
one_more classes None ns there all = all
one_more classes (Some n) ns there all = (there, all)

pub all_there : {A : Type 0} (classes : List Class) (name : A → Option Name) (xs : List A) → AllByRecursion (IsThere classes) (filter_map (λ x. option_and_then (number_of classes) (name x)) xs)
all_there classes name [] = tt
all_there classes name (x ∷ xs) = one_more classes (option_and_then (number_of classes) (name x)) _ (named_there classes (name x)) (all_there classes name xs)

-- the orders of a new entry
pub record IsOrdered (classes : List Class) (e : Entry) (n : ClassNo) : Type 0 where
  pub last : n.0 ≡ length (class_of e ∷ classes)
  pub looked_up : e.order ≡ ordered (lookup_order classes) n e.interfaces e.parent
  pub upwards : e.supers ≡ n ∷ from_parent (superclasses classes) e.parent

-- an entry of a file
pub record IsFileEntry (classes : List Class) (e : Entry) (v : Version) (t : Tree) : Type 0 where
  pub can : CanDefine classes t
  pub named : name_at t.pool t.this_class ≡ Some e.name
  pub parent : e.parent ≡ parent_by (number_of classes) t
  pub interfaces : e.interfaces ≡ interfaces_by (number_of classes) t
  pub kind : e.kind ≡ entry_kinds.File (v ∷ [])
  pub tree : v.tree ≡ t
  pub ready : IsReady v

of_kind : (classes : List Class) (e : Entry) (v : Version) (t : Tree) → IsFileEntry classes e v t → IsOfKind classes (class_of e) (kind_of e.kind)
of_kind classes e v t f =
    rw (f.kind, f.tree) (record {
      name = f.named;
      defined = f.can;
      parent = f.parent;
      interfaces = f.interfaces;
      keep = tt;
      well_formed = (subst (λ u. IsTrue (is_well_formed u)) f.tree f.ready.well_formed, tt);
      few = omega arith;
    })

file_lawful : (classes : List Class) (e : Entry) (v : Version) (t : Tree) → IsFileEntry classes e v t → IsLawful classes (class_of e)
file_lawful classes e v t f = record {
  fresh = MatchOption-at_some ⊤ (λ (name : Name). number_of classes name ≡ None) e.name f.named f.can.fresh;
  parent = rw f.parent (named_there classes (name_at t.pool t.super_class));
  interfaces = rw f.interfaces (all_there classes (name_at t.pool) t.interfaces);
  kind = of_kind classes e v t f;
}

-- an entry is sound that is lawful and in order
pub in_order : (classes : List Class) (e : Entry) (n : ClassNo) → IsLawful classes (class_of e) → AreReady e.kind → IsOrdered classes e n → IsSound classes e
in_order classes e n lawful ready o =
    let pack : ℕ → ClassNo = λ k. record { 0 = k } in
    let same : n ≡ pack (length (class_of e ∷ classes)) = ap pack o.last in
    record {
      lawful = lawful;
      order = o.looked_up ∙ sym (lookup_order-newest (class_of e) classes n o.last) ∙ ap (lookup_order (class_of e ∷ classes)) same;
      supers = o.upwards ∙ sym (superclasses-newest (class_of e) classes n o.last) ∙ ap (superclasses (class_of e ∷ classes)) same;
      codes = ready;
    }

pub file_sound : (classes : List Class) (e : Entry) (v : Version) (t : Tree) (n : ClassNo) → IsFileEntry classes e v t → IsOrdered classes e n → IsSound classes e
file_sound classes e v t n f o = in_order classes e n (file_lawful classes e v t f) (rw f.kind (f.ready, tt)) o

-- an entry of a file says what the file's class is
pub class_of-file : (classes : List Class) (e : Entry) (v : Version) (t : Tree) → IsFileEntry classes e v t → e.state ≡ states.Loaded → class_of e ≡ file_class (number_of classes) t
class_of-file classes e v t f state =
    let name = sym (ap (λ o. unwrap_or o []) f.named) in
    let kind = ap kind_of f.kind ∙ ap (λ k. OfFile (k ∷ [])) f.tree in
    λ i. record { name = name i; parent = f.parent i; interfaces = f.interfaces i; kind = kind i; state = state i }

plain : (found : Option Name) → (elim found [ None ↦ false | Some name ↦ is_class_name name ]) ≡ true → found ≡ None → ⊥
plain None e none = absurd cc
plain (Some name) e none = absurd cc

-- a class file names its class
pub names_itself : (t : Tree) → is_well_formed t ≡ true → name_at t.pool t.this_class ≡ None → ⊥
names_itself t e none = plain (name_at t.pool t.this_class) (well_formed_facts t e).this_class none
