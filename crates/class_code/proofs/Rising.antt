-- The offsets of a code's instructions rise, since each takes a byte or more.
use Rattle.std.proofs.Common.{ℕ, zero, suc, ◌+◌, ◌<◌, List, [], ◌∷◌, length, map, Result, Ok, Err, add-one, arith}
use Rattle.std.specs.Prelude.{IfOk, slice_index}
use Rattle.class_code.specs.declared.instr.Instr.{Instr}
use Rattle.class_code.specs.Spelling.{spelling}
use Rattle.class_code.specs.Listing.{InPlace, IsListing, IsRising}
use Rattle.class_code.proofs.Listings.{Pairs}
use Rattle.class_code.proofs.LenLaws.{has_first}

abbrev offsets : Pairs → List ℕ
offsets ps = map (λ (p : ℕ × Instr). p.0) ps

rises_from : (at : ℕ) (ps : Pairs) → InPlace at ps → (k : ℕ) → suc k < length (offsets ps) → slice_index (offsets ps) k < slice_index (offsets ps) (suc k)
rises_from at [] all k within = absurd (omega arith)
rises_from at (p ∷ []) all k within = absurd (omega arith)
rises_from at (p ∷ q ∷ ps) all zero within = omega (arith, all.0, all.3.0, has_first p.1 all.1)
rises_from at (p ∷ q ∷ ps) all (suc k) within = rises_from (at + length (spelling p.1)) (q ∷ ps) all.3 k (omega arith)

pub rising_listing : (code : List ℕ) (ps : Pairs) → IsListing code ps → IsRising ps
rising_listing code ps listing = λ k within. rw add-one (rises_from 0 ps listing.spelled.in_place k (omega arith))

pub rising_found : {E B : Type 0} (items : B → Pairs) (code : List ℕ) (r : Result B E) → IfOk r (λ v. IsListing code (items v)) → IfOk r (λ v. IsRising (items v))
rising_found items code (Ok v) found = rising_listing code (items v) found
rising_found items code (Err e) found = found
