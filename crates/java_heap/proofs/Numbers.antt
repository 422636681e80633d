-- Objects and their numbers.
use Rattle.std.proofs.Common.{◌≡◌, ℕ, ◌-◌, ◌<◌, ◌==◌, Bool, true, false, cond, length, get_or, Some, None, refl, sym, ap, ◌∙◌, arith}
use Rattle.std.specs.Prelude.{slice_get}
use Rattle.std.proofs.lemmas.Bool.{cond-false, ne_eqb, eqb-false}
use Rattle.std.proofs.lemmas.Option.{slice_get_read}
use Rattle.ti_ids.specs.declared.number.ObjNo.{ObjNo}
use Rattle.java_heap.specs.declared.object.Object.{Object}
use Rattle.java_heap.specs.Heaps.{HeapValue, object_at}

-- the object of a number stands one place before it
pub object_at-place : (heap : HeapValue) (n : ObjNo) → 0 < n.0 → object_at heap n ≡ slice_get heap.objects (n.0 - 1)
object_at-place heap n h = cond-false (n.0 == 0) None (slice_get heap.objects (n.0 - 1)) (ne_eqb n.0 0 (λ e. absurd (omega arith)))

-- an object of this number stands at this place
pub record StandsAt (heap : HeapValue) (n : ObjNo) (place : ℕ) (object : Object) : Type 0 where
  pub positive : 0 < n.0
  pub number : place ≡ n.0 - 1
  pub found : slice_get heap.objects place ≡ Some object

-- so does what indexing reads at the place of a number
pub stands_at : (heap seen : HeapValue) (n : ObjNo) (place : ℕ) (object : Object) → heap ≡ seen → (0 < n.0) × (place ≡ n.0 - 1) × (place < length seen.objects) → object ≡ get_or heap.objects place object → StandsAt heap n place object
stands_at heap seen n place object same at read =
    let long : length heap.objects ≡ length seen.objects = ap (λ (h : HeapValue). length h.objects) same in
    record { positive = at.0; number = at.1; found = slice_get_read heap.objects (length heap.objects) place object refl (omega (arith, at.2, long)) read }

-- it is found by its number
pub object_at-stands : (heap : HeapValue) (n : ObjNo) (place : ℕ) (object : Object) → StandsAt heap n place object → object_at heap n ≡ Some object
object_at-stands heap n place object stands = object_at-place heap n stands.positive ∙ ap (λ (k : ℕ). slice_get heap.objects k) (sym stands.number) ∙ stands.found

found_at : (heap : HeapValue) (n : ObjNo) (object : Object) (zero' : Bool) → (n.0 == 0) ≡ zero' → cond zero' None (slice_get heap.objects (n.0 - 1)) ≡ Some object → (0 < n.0) × (slice_get heap.objects (n.0 - 1) ≡ Some object)
found_at heap n object true e found = absurd cc
found_at heap n object false e found = let apart : n.0 ≡ 0 → ⊥ = eqb-false n.0 0 e in (omega arith, found)

-- where an object is found, one is there, at that place
pub found_place : (heap : HeapValue) (n : ObjNo) (object : Object) → object_at heap n ≡ Some object → (0 < n.0) × (slice_get heap.objects (n.0 - 1) ≡ Some object)
found_place heap n object found = found_at heap n object (n.0 == 0) refl found
