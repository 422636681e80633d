-- A class that is accepted has its name, and the superclass and the superinterfaces that its file names.
use Rattle.class_tree.specs.Tree.{class_at}
use Rattle.class_tree.specs.Trees.{Tree}
use Rattle.jv_names.specs.Names.{Name}
use Rattle.machine_steps.specs.LawfulClasses.{AcceptsSameNames}
use Rattle.machine_steps.specs.Loading.{interface_names, listed, same_names, super_name}
use Rattle.std.proofs.Common.{Bool, List, None, Option, Some, [], ap, false, refl, true, ◌∙◌, ◌∷◌, ◌≡◌}
use Rattle.std.proofs.lemmas.Slice.Eq.{bytes_eq-Decides}
use Rattle.std.specs.Prelude.{bytes_eq, ◌&&◌}

pub both : (a b : Bool) → (a && b) ≡ true → (a ≡ true) × (b ≡ true)
both true b e = (refl, e)
both false b e = absurd cc

pub same_lists : (xs ys : List Name) → same_names xs ys ≡ true → xs ≡ ys
same_lists [] [] e = refl
same_lists [] (y ∷ ys) e = absurd cc
same_lists (x ∷ xs) [] e = absurd cc
same_lists (x ∷ xs) (y ∷ ys) e =
    let parts = both (bytes_eq x y) (same_names xs ys) e in
    let first : x ≡ y = (bytes_eq-Decides x y).0 parts.0 in
    ap (λ (n : Name). n ∷ xs) first ∙ ap (λ (ns : List Name). y ∷ ns) (same_lists xs ys parts.1)

pub listed_one : (found : Option Name) (name : Name) → listed found ≡ name ∷ [] → found ≡ Some name
listed_one None name e = absurd cc
listed_one (Some other) name e = cc

pub accepts_same_names : AcceptsSameNames
accepts_same_names name given made e =
    let outer = both _ _ e in
    let inner = both _ _ outer.0 in
    let super = same_lists (listed (super_name given)) (listed (super_name made)) inner.1 in
    let interfaces = same_lists (interface_names given) (interface_names made) outer.1 in
    record {
      named = listed_one (class_at made.pool made.this_class) name (same_lists (listed (class_at made.pool made.this_class)) (name ∷ []) inner.0);
      supers = rw (super, interfaces) refl;
    }
