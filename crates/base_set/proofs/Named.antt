-- A base class's name is that of a row of one table or the other.
use Rattle.std.proofs.Common.{◌≡◌, ◌∙◌, Bool, true, false, ◌||◌, List, [], ◌∷◌, refl, sym, ap, map}
use Rattle.std.specs.List.{list_any}
use Rattle.std.proofs.lemmas.List.Folds.{list_any-append}
use Rattle.jv_names.specs.Names.{Name}
use Rattle.base_set.specs.declared.table.ClassRow.{ClassRow}
use Rattle.base_set.specs.declared.table.ErrorRow.{ErrorRow}
use Rattle.base_set.specs.BaseSet.{BaseClass, classes, errors, error_class, has_name, is_base}
use Rattle.base_set.specs.Rows.{class_of, error_of}

list_any-map : {A B : Type 0} (p : B → Bool) (f : A → B) (xs : List A) → list_any p (map f xs) ≡ list_any (λ x. p (f x)) xs
list_any-map p f [] = refl
list_any-map p f (x ∷ xs) = ap (λ (b : Bool). p (f x) || b) (list_any-map p f xs)

among : (name : Name) (rows : List ClassRow) → map class_of rows ≡ classes →
    is_base name ≡ (list_any (λ row. has_name name (class_of row)) rows || list_any (has_name name) (map error_class errors))
among name rows said =
    list_any-append (has_name name) classes (map error_class errors)
    ∙ ap (λ (cs : List BaseClass). list_any (has_name name) cs || list_any (has_name name) (map error_class errors)) (sym said)
    ∙ ap (λ (b : Bool). b || list_any (has_name name) (map error_class errors)) (list_any-map (has_name name) class_of rows)

pub in_first : (name : Name) (rows : List ClassRow) → map class_of rows ≡ classes → list_any (λ row. has_name name (class_of row)) rows ≡ true → is_base name ≡ true
in_first name rows said found = among name rows said ∙ ap (λ (b : Bool). b || list_any (has_name name) (map error_class errors)) found

pub in_second : (name : Name) (rows : List ClassRow) (others : List ErrorRow) → map class_of rows ≡ classes → map error_of others ≡ map error_class errors → list_any (λ row. has_name name (class_of row)) rows ≡ false
    → is_base name ≡ list_any (λ row. has_name name (error_of row)) others
in_second name rows others said errors_said none =
    among name rows said ∙ ap (λ (b : Bool). b || list_any (has_name name) (map error_class errors)) none
    ∙ ap (list_any (has_name name)) (sym errors_said) ∙ list_any-map (has_name name) error_of others
