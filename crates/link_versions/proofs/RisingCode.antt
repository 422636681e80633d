-- The offsets of code that is made ready for running rise.
use Rattle.std.proofs.Common.{◌≡◌, ℕ, List, [], ◌∷◌, map, refl, ap, sym, subst, Option, Some, All}
use Rattle.std.specs.Prelude.{slice_get}
use Rattle.std.specs.List.Sorted.{IsStrictlyIncreasing}
use Rattle.std.proofs.lemmas.Option.{get_or_from_slice_get, slice_get_within}
use Rattle.class_code.specs.declared.instr.Instr.{Instr}
use Rattle.class_code.specs.Listing.{IsRising}
use Rattle.class_tree.specs.declared.pool.Const.{Const}
use Rattle.link_versions.specs.ReadyCode.{ready_list}
use Rattle.link_versions.specs.Entries.{RisesIfThere}

same_offsets : (pool : List Const) (list : List (ℕ × Instr)) → map (λ (p : ℕ × Instr). p.0) (ready_list pool list) ≡ map (λ (p : ℕ × Instr). p.0) list
same_offsets pool [] = refl
same_offsets pool (p ∷ list) = ap (λ xs. p.0 ∷ xs) (same_offsets pool list)

pub made_rising : (pool : List Const) (list : List (ℕ × Instr)) → IsRising list → IsRising (ready_list pool list)
made_rising pool list rising = subst (λ xs. IsStrictlyIncreasing xs) (sym (same_offsets pool list)) rising

-- a code that is found among those of the methods
pub rising_at : (codes : List (Option (List (ℕ × Instr)))) (i : ℕ) (list : List (ℕ × Instr)) → All RisesIfThere codes → slice_get codes i ≡ Some (Some list) → IsRising list
rising_at codes i list all at = subst RisesIfThere (get_or_from_slice_get codes i (Some list) (Some list) at) (all i (Some list) (slice_get_within codes i (Some list) at))
