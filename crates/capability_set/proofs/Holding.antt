-- What is held after capabilities are added or relinquished.
use Rattle.std.proofs.Common.{◌≡◌, ◌∙◌, ℕ, List, [], ◌∷◌, Bool, true, false, not, cond, ◌==◌, ◌&&◌, ◌||◌, refl, sym, ap}
use Rattle.std.specs.List.{list_any}
use Rattle.std.proofs.lemmas.Bool.{eqb-true}
use Rattle.std.proofs.lemmas.List.Folds.{list_any-append}
use Rattle.ti_codes.specs.declared.capability.Capability.{Capability}
use Rattle.ti_codes.specs.Capabilities.{capability_bit, is_same_capability}
use Rattle.capability_set.specs.Held.{has_capability, without_capabilities}
use Rattle.capability_set.specs.Laws.{AddsThese, TakesThese}

pub adds_these : AddsThese
adds_these held more c = list_any-append (is_same_capability c) held more

-- a capability of the same bit is held wherever the other one is
held_alike : (c d : Capability) (held : List Capability) → is_same_capability c d ≡ true → has_capability d held ≡ has_capability c held
held_alike c d held same = ap (λ (bit : ℕ). list_any (λ x. bit == capability_bit x) held) (sym (eqb-true (capability_bit c) (capability_bit d) same))

-- whether one that is kept, or not, is among these
among : (c d : Capability) (keeps : Bool) (rest : List Capability)
    → has_capability c (cond keeps (d ∷ rest) rest) ≡ (keeps && is_same_capability c d || has_capability c rest)
among c d true rest = refl
among c d false rest = refl

both_ways : (same taken_d taken_c rest : Bool) → (same ≡ true → taken_d ≡ taken_c)
    → (not taken_d && same || rest && not taken_c) ≡ ((same || rest) && not taken_c)
both_ways true true true rest alike = none rest
  where
    none : (b : Bool) → (b && false) ≡ false
    none true = refl
    none false = refl
both_ways true false false rest alike = refl
both_ways true true false rest alike = let e = alike refl in absurd cc
both_ways true false true rest alike = let e = alike refl in absurd cc
both_ways false true taken_c rest alike = refl
both_ways false false taken_c rest alike = refl

pub takes_these : TakesThese
takes_these [] less c = refl
takes_these (d ∷ held) less c =
    among c d (not (has_capability d less)) (without_capabilities held less)
    ∙ ap (λ (b : Bool). not (has_capability d less) && is_same_capability c d || b) (takes_these held less c)
    ∙ both_ways (is_same_capability c d) (has_capability d less) (has_capability c less) (has_capability c held) (λ same. held_alike c d less same)
