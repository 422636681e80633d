-- Lists of classes with the same names, superclasses and superinterfaces give the same numbers and orders, and the same is lawful
-- over them.
use Rattle.std.proofs.Common.{◌≡◌, ℕ, suc, ◌≤◌, ◌==◌, true, false, List, [], ◌∷◌, length, refl, sym, ap, subst, ◌∙◌, Option, Some, None}
use Rattle.std.specs.Prelude.{IsSome, IfSome, All, bytes_eq, if◌then◌else◌}
use Rattle.std.specs.List.{AllByRecursion, filter_map}
use Rattle.ti_ids.specs.declared.number.ClassNo.{ClassNo}
use Rattle.jv_names.specs.Names.{Name}
use Rattle.jv_names.specs.declared.descriptor.ElementType.{ElementType}
use Rattle.jv_names.specs.declared.descriptor.ElementType.TheVariants as element_type
use Rattle.class_tree.specs.Trees.{Tree}
use Rattle.class_tree.specs.Tree.{class_at as name_at}
use Rattle.link_versions.specs.declared.class.Entry.{Entry}
use Rattle.link_versions.specs.Classes.{Class, Kind, OfFile, OfArray, with_numbered, number_of}
use Rattle.link_versions.specs.Orders.{ordered, from_parent, lookup_order, superclasses}
use Rattle.link_versions.specs.Subtypes.{object_name, array_interface_names}
use Rattle.link_versions.specs.Changes.{IsThere, CanDefine, parent_by, interfaces_by, element_by, IsElementThere, IsArrayName, IsOfKind, IsLawful}
use Rattle.link_versions.specs.Entries.{class_of, IsSound}

pub record IsAlike (c d : Class) : Type 0 where
  pub name : c.name ≡ d.name
  pub parent : c.parent ≡ d.parent
  pub interfaces : c.interfaces ≡ d.interfaces

abbrev pub AreAlike : List Class → List Class → Type 0
AreAlike [] [] = Unit {0}
AreAlike [] (d ∷ ds) = ⊥
AreAlike (c ∷ cs) [] = ⊥
AreAlike (c ∷ cs) (d ∷ ds) = IsAlike c d × AreAlike cs ds

pub itself : (c : Class) → IsAlike c c
itself c = record { name = refl; parent = refl; interfaces = refl }

pub all_themselves : (cs : List Class) → AreAlike cs cs
all_themselves [] = tt
all_themselves (c ∷ cs) = (itself c, all_themselves cs)

-- ---- numbers and orders

pub length-alike : (cs ds : List Class) → AreAlike cs ds → length cs ≡ length ds
length-alike [] [] a = refl
length-alike [] (d ∷ ds) a = absurd a
length-alike (c ∷ cs) [] a = absurd a
length-alike (c ∷ cs) (d ∷ ds) a = ap suc (length-alike cs ds a.1)

pub number_of-alike : (cs ds : List Class) (name : Name) → AreAlike cs ds → number_of cs name ≡ number_of ds name
number_of-alike [] [] name a = refl
number_of-alike [] (d ∷ ds) name a = absurd a
number_of-alike (c ∷ cs) [] name a = absurd a
number_of-alike (c ∷ cs) (d ∷ ds) name a =
    let size = length-alike cs ds a.1 in
    let rest = number_of-alike cs ds name a.1 in
    λ i. if bytes_eq name (a.0.name i) then Some (record { 0 = suc (size i) }) else rest i

pub lookup_order-alike : (cs ds : List Class) (n : ClassNo) → AreAlike cs ds → lookup_order cs n ≡ lookup_order ds n
unfolding lookup_order
lookup_order-alike [] [] n a = refl
lookup_order-alike [] (d ∷ ds) n a = absurd a
lookup_order-alike (c ∷ cs) [] n a = absurd a
lookup_order-alike (c ∷ cs) (d ∷ ds) n a =
    let size = length-alike cs ds a.1 in
    let rest : (m : ClassNo) → lookup_order cs m ≡ lookup_order ds m = λ m. lookup_order-alike cs ds m a.1 in
    λ i. if n.0 == suc (size i) then ordered (λ m. rest m i) n (a.0.interfaces i) (a.0.parent i) else rest n i

pub superclasses-alike : (cs ds : List Class) (n : ClassNo) → AreAlike cs ds → superclasses cs n ≡ superclasses ds n
unfolding superclasses
superclasses-alike [] [] n a = refl
superclasses-alike [] (d ∷ ds) n a = absurd a
superclasses-alike (c ∷ cs) [] n a = absurd a
superclasses-alike (c ∷ cs) (d ∷ ds) n a =
    let size = length-alike cs ds a.1 in
    let rest : (m : ClassNo) → superclasses cs m ≡ superclasses ds m = λ m. superclasses-alike cs ds m a.1 in
    λ i. if n.0 == suc (size i) then n ∷ from_parent (λ m. rest m i) (a.0.parent i) else rest n i

-- ---- what is lawful

there_alike : (cs ds : List Class) → AreAlike cs ds → (n : ClassNo) → IsThere cs n → IsThere ds n
there_alike cs ds a n there = (there.0, subst (λ k. n.0 ≤ k) (length-alike cs ds a) there.1)

element_alike : (cs ds : List Class) → number_of cs ≡ number_of ds → (e : ElementType) → IsElementThere cs e → IsElementThere ds e
element_alike cs ds numbers (element_type.Class name) there = subst (λ find. IsSome (find name)) numbers there
element_alike cs ds numbers element_type.Boolean there = there
element_alike cs ds numbers element_type.Byte there = there
element_alike cs ds numbers element_type.Char there = there
element_alike cs ds numbers element_type.Short there = there
element_alike cs ds numbers element_type.Int there = there
element_alike cs ds numbers element_type.Long there = there

define_alike : (cs ds : List Class) (t : Tree) → number_of cs ≡ number_of ds → CanDefine cs t → CanDefine ds t
define_alike cs ds t numbers can = record {
  fresh = subst (λ (find : Name → Option ClassNo). IfSome (name_at t.pool t.this_class) (λ name. find name ≡ None)) numbers can.fresh;
  parent = subst (λ (find : Name → Option ClassNo). IfSome (name_at t.pool t.super_class) (λ name. IsSome (find name))) numbers can.parent;
  interfaces = subst (λ (find : Name → Option ClassNo). All (λ index. IfSome (name_at t.pool index) (λ name. IsSome (find name))) t.interfaces) numbers can.interfaces;
}

pub kind_alike : (cs ds : List Class) (c d : Class) (kind : Kind) → AreAlike cs ds → IsAlike c d → IsOfKind cs c kind → IsOfKind ds d kind
kind_alike cs ds c d (OfFile []) a same k = k
kind_alike cs ds c d (OfFile (first ∷ later)) a same k =
    let numbers : number_of cs ≡ number_of ds = λ i name. number_of-alike cs ds name a i in
    record {
      name = k.name ∙ ap (λ name. Some name) same.name;
      defined = define_alike cs ds first numbers k.defined;
      parent = sym same.parent ∙ k.parent ∙ ap (λ find. parent_by find first) numbers;
      interfaces = sym same.interfaces ∙ k.interfaces ∙ ap (λ find. interfaces_by find first) numbers;
      keep = k.keep;
      well_formed = k.well_formed;
      few = k.few;
    }
kind_alike cs ds c d (OfArray dimensions e) a same k =
    let numbers : number_of cs ≡ number_of ds = λ i name. number_of-alike cs ds name a i in
    record {
      type = k.type;
      named = subst (λ name. IsArrayName name k.type) same.name k.named;
      there = element_alike cs ds numbers k.type.element k.there;
      deep = k.deep;
      over = k.over ∙ ap (λ find. element_by find k.type.element) numbers;
      parent = sym same.parent ∙ k.parent ∙ ap (λ find. find object_name) numbers;
      interfaces = sym same.interfaces ∙ k.interfaces ∙ ap (λ find. filter_map find array_interface_names) numbers;
    }

if_there : (cs ds : List Class) → AreAlike cs ds → (found : Option ClassNo) → IfSome found (IsThere cs) → IfSome found (IsThere ds)
if_there cs ds a None there = tt
if_there cs ds a (Some n) there = there_alike cs ds a n there

each_there : (cs ds : List Class) → AreAlike cs ds → (ns : List ClassNo) → AllByRecursion (IsThere cs) ns → AllByRecursion (IsThere ds) ns
each_there cs ds a [] there = tt
each_there cs ds a (n ∷ ns) there = (there_alike cs ds a n there.0, each_there cs ds a ns there.1)

lawful_alike : (cs ds : List Class) (c : Class) → AreAlike cs ds → IsLawful cs c → IsLawful ds c
lawful_alike cs ds c a l = record {
  fresh = sym (number_of-alike cs ds c.name a) ∙ l.fresh;
  parent = if_there cs ds a c.parent l.parent;
  interfaces = each_there cs ds a c.interfaces l.interfaces;
  kind = kind_alike cs ds c c c.kind a (itself c) l.kind;
}

-- ---- a changed class

-- a change of one class that looks alike
pub with_numbered-alike : (change : Class → Class) (cs : List Class) (n : ℕ) → ((c : Class) → IsAlike c (change c)) → AreAlike cs (with_numbered change cs n)
with_numbered-alike change [] n same = tt
with_numbered-alike change (c ∷ cs) n same =
    let rest = with_numbered-alike change cs n same in
    elim (n == length (c ∷ cs)) as (λ b. AreAlike (c ∷ cs) (if b then change c ∷ cs else c ∷ with_numbered change cs n)) [
      | true ↦ (same c, all_themselves cs)
      | false ↦ (itself c, rest)
    ]

pub sound_alike : (cs ds : List Class) (e : Entry) → AreAlike cs ds → IsSound cs e → IsSound ds e
sound_alike cs ds e a s =
    let both : AreAlike (class_of e ∷ cs) (class_of e ∷ ds) = (itself (class_of e), a) in
    let size = length-alike cs ds a in
    let number : ℕ → ClassNo = λ k. record { 0 = suc k } in
    record {
      lawful = lawful_alike cs ds (class_of e) a s.lawful;
      order = s.order ∙ lookup_order-alike (class_of e ∷ cs) (class_of e ∷ ds) (number (length cs)) both ∙ ap (λ k. lookup_order (class_of e ∷ ds) (number k)) size;
      supers = s.supers ∙ superclasses-alike (class_of e ∷ cs) (class_of e ∷ ds) (number (length cs)) both ∙ ap (λ k. superclasses (class_of e ∷ ds) (number k)) size;
      codes = s.codes;
    }
