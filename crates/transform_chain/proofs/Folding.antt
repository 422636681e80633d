-- What all turns make is what those that are capable of retransformation make of what the others left.
use Rattle.std.proofs.Common.{◌≡◌, ◌∙◌, Bool, true, false, cond, List, [], ◌∷◌, ◌++◌, refl, sym, ap, arith}
use Rattle.std.specs.Prelude.{nat_le}
use Rattle.std.proofs.lemmas.Bool.{leb-true, leb-false, le-leb, lt-leb}
use Rattle.std.proofs.lemmas.List.Sums.{fold-append}
use Rattle.transform_chain.specs.declared.active.Active.{Active}
use Rattle.transform_chain.specs.Groups.{up_to_group, from_group, AreInGroups}
use Rattle.transform_chain.specs.Turns.{Does, turned, folded}
use Rattle.transform_chain.specs.Laws.{KeptGoesOn}
use Rattle.transform_chain.proofs.Grouping.{AreFrom, later}

none_early : (ts : List (Active Does)) → AreFrom 3 ts → up_to_group 2 ts ≡ []
none_early [] many = refl
none_early (t ∷ ts) many =
    let late : nat_le t.group 2 ≡ false = lt-leb t.group 2 (omega (arith, many.0)) in
    ap (λ (b : Bool). cond b (t ∷ up_to_group 2 ts) (up_to_group 2 ts)) late ∙ none_early ts many.1

all_late : (ts : List (Active Does)) → AreFrom 3 ts → from_group 3 ts ≡ ts
all_late [] many = refl
all_late (t ∷ ts) many =
    ap (λ (b : Bool). cond b (t ∷ from_group 3 ts) (from_group 3 ts)) (le-leb 3 t.group many.0)
    ∙ ap (λ (l : List (Active Does)). t ∷ l) (all_late ts many.1)

-- one transformer, and those behind it
parted_by : (t : Active Does) (ts : List (Active Does)) (early late : Bool) → nat_le t.group 2 ≡ early → nat_le 3 t.group ≡ late
    → AreInGroups (t ∷ ts) → ts ≡ up_to_group 2 ts ++ from_group 3 ts
    → t ∷ ts ≡ cond early (t ∷ up_to_group 2 ts) (up_to_group 2 ts) ++ cond late (t ∷ from_group 3 ts) (from_group 3 ts)
parted_by t ts true true is_early is_late rising rest = absurd (omega (arith, leb-true t.group 2 is_early, leb-true 3 t.group is_late))
parted_by t ts true false is_early is_late rising rest = ap (λ (l : List (Active Does)). t ∷ l) rest
parted_by t ts false true is_early is_late rising rest =
    let many = later 3 t.group ts (leb-true 3 t.group is_late) rising.0 in
    sym (ap (λ (l : List (Active Does)). l ++ t ∷ from_group 3 ts) (none_early ts many) ∙ ap (λ (l : List (Active Does)). t ∷ l) (all_late ts many))
parted_by t ts false false is_early is_late rising rest = absurd (omega (arith, leb-false t.group 2 is_early, leb-false 3 t.group is_late))

parted : (ts : List (Active Does)) → AreInGroups ts → ts ≡ up_to_group 2 ts ++ from_group 3 ts
parted [] rising = refl
parted (t ∷ ts) rising = parted_by t ts (nat_le t.group 2) (nat_le 3 t.group) refl refl rising (parted ts rising.1)

pub kept_goes_on : KeptGoesOn
kept_goes_on class ts bytes rising =
    ap (λ (l : List (Active Does)). folded class l bytes) (parted ts rising) ∙ fold-append (turned class) bytes (up_to_group 2 ts) (from_group 3 ts)
