-- Where the text of a type ends.
use Rattle.std.proofs.Common.{◌≡◌, ℕ, zero, suc, ◌+◌, Bool, true, false, not, cond, eqb, Some, [], ◌∷◌, ◌++◌, length, replicate, refl, sym, ap, ◌∙◌, append_assoc, length-append}
use Rattle.std.specs.Prelude.{option_map, slice_index}
use Rattle.std.specs.Option.{option_and_then}
use Rattle.std.specs.List.{list_all, position}
use Rattle.std.proofs.Math.Seq.{get_or-append_seam}
use Rattle.jv_names.specs.Names.{Name, is_class_name}
use Rattle.jv_names.specs.declared.descriptor.ElementType.{ElementType}
use Rattle.jv_names.specs.declared.descriptor.ElementType.TheVariants as element
use Rattle.jv_names.specs.declared.descriptor.FieldType.{FieldType}
use Rattle.jv_names.specs.Descriptors.{Kept, kept_text, type_text, any_type, IsNamed, IsNamedType}
use Rattle.jv_names.proofs.DescriptorNames.{class_name-none_ends}
use Rattle.jv_names.proofs.DescriptorPlaces.{position_at}
use Rattle.type_descriptors.specs.Texts.{element_end, type_end}

all_dimensions : (n : ℕ) → list_all (λ u. not (not (eqb u 91))) (replicate n 91) ≡ true
all_dimensions zero = refl
all_dimensions (suc n) = all_dimensions n

-- the element begins behind the dimensions
begun_at : (n unit : ℕ) (rest : Name) → not (eqb unit 91) ≡ true → position (λ u. not (eqb u 91)) (replicate n 91 ++ unit ∷ rest) ≡ Some (length (replicate {A = ℕ} n 91))
begun_at n unit rest here = position_at (λ u. not (eqb u 91)) (replicate n 91) unit rest (all_dimensions n) here

unit_at : (n unit : ℕ) (rest : Name) → slice_index (replicate n 91 ++ unit ∷ rest) (length (replicate {A = ℕ} n 91)) ≡ unit
unit_at n unit rest = get_or-append_seam (replicate n 91) unit rest 0

ended : (text : Name) (n unit : ℕ) (rest : Name) → text ≡ replicate n 91 ++ unit ∷ rest → not (eqb unit 91) ≡ true → type_end text ≡ element_end text (length (replicate {A = ℕ} n 91))
ended text n unit rest is here = ap (option_and_then (element_end text)) (ap (position (λ u. not (eqb u 91))) is ∙ begun_at n unit rest here)

plain_end : (n unit : ℕ) (rest : Name) → not (eqb unit 91) ≡ true → eqb unit 76 ≡ false → type_end ((replicate n 91 ++ unit ∷ []) ++ rest) ≡ Some (length (replicate n 91 ++ unit ∷ []))
plain_end n unit rest here plain =
    let text : Name = (replicate n 91 ++ unit ∷ []) ++ rest in
    let place : ℕ = length (replicate {A = ℕ} n 91) in
    let parts : text ≡ replicate n 91 ++ unit ∷ rest = append_assoc (replicate n 91) (unit ∷ []) rest in
    let at : slice_index text place ≡ unit = ap (λ (x : Name). slice_index x place) parts ∙ unit_at n unit rest in
    let test : eqb (slice_index text place) 76 ≡ false = ap (λ (u : ℕ). eqb u 76) at ∙ plain in
    let all : place + 1 ≡ length (replicate n 91 ++ unit ∷ []) = sym (length-append (replicate n 91) (unit ∷ [])) in
    ended text n unit rest parts here ∙ ap (λ (b : Bool). cond b (option_map (λ (k : ℕ). k + 1) (position (λ u. eqb u 59) text)) (Some (place + 1))) test ∙ ap (λ (k : ℕ). Some k) all

no_ends : (n : ℕ) (name : Name) → is_class_name name ≡ true → list_all (λ u. not (eqb u 59)) (replicate n 91 ++ 76 ∷ name) ≡ true
no_ends zero name named = class_name-none_ends name named
no_ends (suc n) name named = no_ends n name named

class_end : (n : ℕ) (name rest : Name) → is_class_name name ≡ true → type_end ((replicate n 91 ++ (76 ∷ name ++ 59 ∷ [])) ++ rest) ≡ Some (length (replicate n 91 ++ (76 ∷ name ++ 59 ∷ [])))
class_end n name rest named =
    let whole : Name = replicate n 91 ++ (76 ∷ name ++ 59 ∷ []) in
    let text : Name = whole ++ rest in
    let before : Name = replicate n 91 ++ 76 ∷ name in
    let place : ℕ = length (replicate {A = ℕ} n 91) in
    let parts : text ≡ replicate n 91 ++ 76 ∷ ((name ++ 59 ∷ []) ++ rest) = append_assoc (replicate n 91) (76 ∷ (name ++ 59 ∷ [])) rest in
    let cut : whole ≡ before ++ 59 ∷ [] = sym (append_assoc (replicate n 91) (76 ∷ name) (59 ∷ [])) in
    let last_parts : text ≡ before ++ 59 ∷ rest = ap (λ (x : Name). x ++ rest) cut ∙ append_assoc before (59 ∷ []) rest in
    let at : slice_index text place ≡ 76 = ap (λ (x : Name). slice_index x place) parts ∙ unit_at n 76 ((name ++ 59 ∷ []) ++ rest) in
    let test : eqb (slice_index text place) 76 ≡ true = ap (λ (u : ℕ). eqb u 76) at in
    let last : position (λ u. eqb u 59) text ≡ Some (length before) =
    ap (position (λ u. eqb u 59)) last_parts ∙ position_at (λ u. eqb u 59) before 59 rest (no_ends n name named) refl in
    let all : length before + 1 ≡ length whole = sym (ap length cut ∙ length-append before (59 ∷ [])) in
    ended text n 76 ((name ++ 59 ∷ []) ++ rest) parts refl
    ∙ ap (λ (b : Bool). cond b (option_map (λ (k : ℕ). k + 1) (position (λ u. eqb u 59) text)) (Some (place + 1))) test
    ∙ ap (option_map (λ (k : ℕ). k + 1)) last ∙ ap (λ (k : ℕ). Some k) all

under_end : (n : ℕ) (e : ElementType) (rest : Name) → IsNamed (Kept e) → type_end ((replicate n 91 ++ kept_text e) ++ rest) ≡ Some (length (replicate n 91 ++ kept_text e))
under_end n element.Boolean rest named = plain_end n 90 rest refl refl
under_end n element.Byte rest named = plain_end n 66 rest refl refl
under_end n element.Char rest named = plain_end n 67 rest refl refl
under_end n element.Short rest named = plain_end n 83 rest refl refl
under_end n element.Int rest named = plain_end n 73 rest refl refl
under_end n element.Long rest named = plain_end n 74 rest refl refl
under_end n (element.Class name) rest named = class_end n name rest named

-- it ends where what follows begins
pub type_end-text : (t : FieldType) (rest : Name) → IsNamedType (any_type t) → type_end (type_text (any_type t) ++ rest) ≡ Some (length (type_text (any_type t)))
type_end-text t rest named = under_end t.dimensions t.element rest named
