-- What the loop over a code keeps.
use Rattle.std.proofs.Common.{◌≡◌, ℕ, ◌+◌, List, [], ◌∷◌, ◌++◌, length, length-append, arith, subst, ◌∙◌, ap}
use Rattle.class_code.specs.declared.instr.Instr.{Instr}
use Rattle.class_code.specs.Spelling.{spelling, Stands}
use Rattle.class_code.specs.Ranges.{Fits}
use Rattle.class_code.specs.Listing.{spelled, InPlace}
use Rattle.class_code.proofs.Loops.{parts_more}

-- one more instruction, which stands where the others end
pub in_place_more : (at : ℕ) (ps : List (ℕ × Instr)) (p : ℕ × Instr) → InPlace at ps → p.0 ≡ at + length (spelled ps) → Fits p.1 → Stands p.0 p.1 → InPlace at (ps ++ p ∷ [])
in_place_more at [] p all place fits stands =
    let here : p.0 ≡ at = place ∙ omega arith in
    (here, fits, subst (λ (o : ℕ). Stands o p.1) here stands, tt)
in_place_more at (q ∷ ps) p all place fits stands =
    (all.0, all.1, all.2, in_place_more (at + length (spelling q.1)) ps p all.3 (place ∙ omega (arith, length-append (spelling q.1) (spelled ps))) fits stands)

-- one more instruction that was read behind those at a code's front
pub front_more : (code rest after : List ℕ) (at : ℕ) (ps : List (ℕ × Instr)) (i : Instr) → code ≡ spelled ps ++ rest → InPlace 0 ps → at + length rest ≡ length code
    → rest ≡ spelling i ++ after → Fits i → Stands at i → (code ≡ spelled (ps ++ (at, i) ∷ []) ++ after) × InPlace 0 (ps ++ (at, i) ∷ [])
front_more code rest after at ps i parts place here found fits stands =
    let pair : ℕ × Instr = (at, i) in
    let end : at ≡ 0 + length (spelled ps) = omega (arith, here, ap length parts, length-append (spelled ps) rest) in
    (parts_more (λ (p : ℕ × Instr). spelling p.1) ps pair code rest after parts found, in_place_more 0 ps pair place end fits stands)
