-- A class's name in a descriptor: no `;` stands in it.
use Rattle.std.proofs.Common.{◌≡◌, ℕ, true, false, not, ◌&&◌, cond, eqb, List, [], ◌∷◌, refl, arith}
use Rattle.std.specs.List.{list_all}
use Rattle.std.proofs.lemmas.Bool.Decides.{nat_tests}
use Rattle.jv_names.specs.Names.{onto, parts, is_part, is_part_unit, is_class_name}
use Rattle.jv_names.proofs.DescriptorPlaces.{and-left, and-right}

parts_good : (ps : List (List ℕ)) → list_all is_part ps ≡ true → list_all (list_all is_part_unit) ps ≡ true
parts_good [] h = refl
parts_good ([] ∷ ps) h = absurd cc
parts_good ((u ∷ us) ∷ ps) h = rw (and-left (is_part (u ∷ us)) (list_all is_part ps) h, parts_good ps (and-right (is_part (u ∷ us)) (list_all is_part ps) h)) refl

good-onto : (u : ℕ) (ps : List (List ℕ)) → list_all (list_all is_part_unit) (onto u ps) ≡ true → (is_part_unit u ≡ true) × (list_all (list_all is_part_unit) ps ≡ true)
good-onto u [] h = (and-left (is_part_unit u) true (and-left (is_part_unit u && true) true h), refl)
good-onto u (p ∷ ps) h =
    let front = and-left (list_all is_part_unit (u ∷ p)) (list_all (list_all is_part_unit) ps) h in
    let others = and-right (list_all is_part_unit (u ∷ p)) (list_all (list_all is_part_unit) ps) h in
    (and-left (is_part_unit u) (list_all is_part_unit p) front, rw (and-right (is_part_unit u) (list_all is_part_unit p) front, others) refl)

part_unit_other : (u : ℕ) → is_part_unit u ≡ true → not (eqb u 59) ≡ true
part_unit_other u h = and-right (not (eqb u 46)) (not (eqb u 59)) (and-left (not (eqb u 46) && not (eqb u 59)) (not (eqb u 91)) h)

slash_other : (u : ℕ) → eqb u 47 ≡ true → not (eqb u 59) ≡ true
slash_other u h = let is : u ≡ 47 = grind (arith, nat_tests) in rw is refl

none_ends : (text : List ℕ) → list_all (list_all is_part_unit) (parts 47 text) ≡ true → list_all (λ u. not (eqb u 59)) text ≡ true
none_ends [] h = refl
none_ends (u ∷ us) h =
    elim (eqb u 47) as (λ b. eqb u 47 ≡ b → list_all (list_all is_part_unit) (cond b ([] ∷ parts 47 us) (onto u (parts 47 us))) ≡ true → (not (eqb u 59) && list_all (λ v. not (eqb v 59)) us) ≡ true) [
      | true ↦ λ e g. rw (slash_other u e, none_ends us g) refl
      | false ↦ λ e g. let both = good-onto u (parts 47 us) g in rw (part_unit_other u both.0, none_ends us both.1) refl
    ] refl h

pub class_name-none_ends : (name : List ℕ) → is_class_name name ≡ true → list_all (λ u. not (eqb u 59)) name ≡ true
class_name-none_ends name named = none_ends name (parts_good (parts 47 name) named)
