-- What class files state: a name of their own, and the classes of a list of them, one by one.
use Rattle.std.proofs.Common.{◌≡◌, ◌∙◌, Bool, true, false, not, cond, List, [], ◌∷◌, ◌++◌, Option, Some, None, refl, sym, ap}
use Rattle.std.specs.Prelude.{map, filter, find, bytes_eq, is_none, unwrap_or, ◌&&◌}
use Rattle.std.proofs.lemmas.Bool.{false≢true}
use Rattle.std.proofs.lemmas.List.{append-nil}
use Rattle.std.proofs.lemmas.List.Elements.{filter-append}
use Rattle.std.proofs.lemmas.Slice.Eq.{bytes_eq-Decides}
use Rattle.jv_names.specs.Names.{Name, is_class_name}
use Rattle.class_tree.specs.Trees.{Tree}
use Rattle.class_tree.specs.Tree.{class_at}
use Rattle.class_tree.specs.WellFormed.{is_well_formed}
use Rattle.class_tree.proofs.Facts.{well_formed_facts}
use Rattle.type_frames.specs.declared.hierarchy.HierarchyClass.{HierarchyClass}
use Rattle.type_frames.specs.Hierarchies.{Known, class_named}
use Rattle.type_frames.specs.TypeChecks.{class_name}
use Rattle.type_frames.proofs.Found.{turned}
use Rattle.type_frames.specs.Stated.{stated_class, with_class, without_class, stated}

-- ---- the name

class_text : (name : Option Name) → elim name [ None ↦ false | Some x ↦ is_class_name x ] ≡ true → name ≡ Some (unwrap_or name [])
class_text None e = absurd cc
class_text (Some x) e = refl

pub own_name : (t : Tree) → is_well_formed t ≡ true → class_at t.pool t.this_class ≡ Some (class_name t)
own_name t formed = class_text (class_at t.pool t.this_class) (well_formed_facts t formed).this_class

-- ---- look-ups

-- the first that passes a test is the same where none that passes is left out
find-step : {X : Type 0} (p q : X → Bool) (x : X) (fs xs : List X) (here keep : Bool) → p x ≡ here → q x ≡ keep → (p x ≡ true → q x ≡ true) → find p fs ≡ find p xs
    → find p (cond keep (x ∷ fs) fs) ≡ cond here (Some x) (find p xs)
find-step p q x fs xs here true is kept all rest = cc
find-step p q x fs xs true false is kept all rest = absurd (false≢true (sym kept ∙ all is))
find-step p q x fs xs false false is kept all rest = rest

find-kept : {X : Type 0} (p q : X → Bool) (xs : List X) → ((x : X) → p x ≡ true → q x ≡ true) → find p (filter q xs) ≡ find p xs
find-kept p q [] all = refl
find-kept p q (x ∷ xs) all = find-step p q x (filter q xs) xs (p x) (q x) refl refl (all x) (find-kept p q xs all)

other-kept : (name other own : Name) → bytes_eq other name ≡ false → bytes_eq own name ≡ true → not (bytes_eq own other) ≡ true
other-kept name other own differ is = ap not (turned own other ∙ ap (bytes_eq other) ((bytes_eq-Decides own name).0 is) ∙ differ)

-- a name finds the same without the class of another one
named-without : (name other : Name) (known : Known) → bytes_eq other name ≡ false → class_named (without_class other known) name ≡ class_named known name
named-without name other known differ = find-kept (λ c. bytes_eq c.name name) (λ c. not (bytes_eq c.name other)) known (λ c is. other-kept name other c.name differ is)

first-named : (name : Name) (c : HierarchyClass) (known all : Known) (here : Bool) → bytes_eq c.name name ≡ here → class_named known name ≡ class_named all name
    → class_named (c ∷ without_class c.name known) name ≡ class_named (c ∷ all) name
first-named name c known all true is rest = cc
first-named name c known all false is rest = let without = named-without name c.name known is in cc

-- of several class files of one name the first is found
pub named_stated : (trees : List Tree) (name : Name) → class_named (stated trees) name ≡ class_named (map stated_class trees) name
named_stated [] name = refl
named_stated (t ∷ trees) name = first-named name (stated_class t) (stated trees) (map stated_class trees) (bytes_eq (class_name t) name) refl (named_stated trees name)

-- ---- one more at the end

-- whether a class counts after another one, which stays first
is-new : (first last : HierarchyClass) (known : Known) (same new : Bool) → bytes_eq first.name last.name ≡ same → is_none (class_named known last.name) ≡ new
    → is_none (class_named (first ∷ without_class first.name known) last.name) ≡ (not same && new)
is-new first last known true new is none = ap (λ (here : Bool). is_none (cond here (Some first) (class_named (without_class first.name known) last.name))) is
is-new first last known false new is none =
    ap (λ (here : Bool). is_none (cond here (Some first) (class_named (without_class first.name known) last.name))) is
    ∙ ap is_none (named-without last.name first.name known is)
    ∙ none

-- what stays of one class without another
last-kept : (first last : HierarchyClass) (same : Bool) → bytes_eq first.name last.name ≡ same → without_class first.name (last ∷ []) ≡ cond (not same) (last ∷ []) []
last-kept first last same is = ap (λ (b : Bool). cond (not b) (last ∷ []) []) (turned last.name first.name ∙ is)

joined : (first last : HierarchyClass) (kept : Known) (same new : Bool) → cond new (first ∷ (kept ++ cond (not same) (last ∷ []) [])) (first ∷ kept) ≡ cond (not same && new) (first ∷ (kept ++ last ∷ [])) (first ∷ kept)
joined first last kept true true = ap (λ (k : Known). first ∷ k) (append-nil kept)
joined first last kept true false = refl
joined first last kept false true = refl
joined first last kept false false = refl

pushed : (first last : HierarchyClass) (known : Known) (same new : Bool) → bytes_eq first.name last.name ≡ same
    → first ∷ without_class first.name (cond new (known ++ last ∷ []) known) ≡ cond new (first ∷ (without_class first.name known ++ cond (not same) (last ∷ []) [])) (first ∷ without_class first.name known)
pushed first last known same false is = refl
pushed first last known same true is =
    ap (λ (k : Known). first ∷ k)
    (filter-append (λ c. not (bytes_eq c.name first.name)) known (last ∷ []) ∙ ap (λ (k : Known). without_class first.name known ++ k) (last-kept first last same is))

-- a class that stays first
first-stays : (first last : HierarchyClass) (known : Known) (same new : Bool) → bytes_eq first.name last.name ≡ same → is_none (class_named known last.name) ≡ new
    → first ∷ without_class first.name (with_class known last) ≡ with_class (first ∷ without_class first.name known) last
first-stays first last known same new is none =
    ap (λ (b : Bool). first ∷ without_class first.name (cond b (known ++ last ∷ []) known)) none
    ∙ pushed first last known same new is
    ∙ joined first last (without_class first.name known) same new
    ∙ sym (ap (λ (b : Bool). cond b (first ∷ (without_class first.name known ++ last ∷ [])) (first ∷ without_class first.name known)) (is-new first last known same new is none))

pub stated_push : (trees : List Tree) (t : Tree) → stated (trees ++ t ∷ []) ≡ with_class (stated trees) (stated_class t)
stated_push [] t = refl
stated_push (u ∷ trees) t =
    ap (λ (known : Known). stated_class u ∷ without_class (class_name u) known) (stated_push trees t)
    ∙ first-stays (stated_class u) (stated_class t) (stated trees) (bytes_eq (class_name u) (class_name t)) (is_none (class_named (stated trees) (class_name t))) refl refl
