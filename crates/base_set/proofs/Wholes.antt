-- The trees of the rows of both tables are those of the base set.
use Rattle.std.proofs.Common.{◌≡◌, ◌∙◌, List, [], ◌∷◌, ◌++◌, refl, sym, ap, map}
use Rattle.class_tree.specs.Trees.{Tree}
use Rattle.base_set.specs.declared.table.ClassRow.{ClassRow}
use Rattle.base_set.specs.declared.table.ErrorRow.{ErrorRow}
use Rattle.base_set.specs.BaseSet.{classes, errors, error_class, base_set}
use Rattle.base_set.specs.BaseTrees.{base_tree}
use Rattle.base_set.specs.Rows.{class_of, error_of}

map-map : {A B C : Type 0} (g : B → C) (f : A → B) (xs : List A) → map (λ x. g (f x)) xs ≡ map g (map f xs)
map-map g f [] = refl
map-map g f (x ∷ xs) = ap (λ ys. g (f x) ∷ ys) (map-map g f xs)

map-append : {A B : Type 0} (f : A → B) (xs ys : List A) → map f (xs ++ ys) ≡ map f xs ++ map f ys
map-append f [] ys = refl
map-append f (x ∷ xs) ys = ap (λ zs. f x ∷ zs) (map-append f xs ys)

pub whole : (rows : List ClassRow) (others : List ErrorRow) → map class_of rows ≡ classes → map error_of others ≡ map error_class errors
    → map (λ row. base_tree (class_of row)) rows ++ map (λ row. base_tree (error_of row)) others ≡ map base_tree base_set
whole rows others said errors_said =
    ap (λ (trees : List Tree). trees ++ map (λ row. base_tree (error_of row)) others) (map-map base_tree class_of rows ∙ ap (map base_tree) said)
    ∙ ap (λ (trees : List Tree). map base_tree classes ++ trees) (map-map base_tree error_of others ∙ ap (map base_tree) errors_said)
    ∙ sym (map-append base_tree classes (map error_class errors))
