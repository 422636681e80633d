-- The places of a pool, read one after the other: what is found after some of them were read.
use Rattle.std.proofs.Common.{◌≡◌, ℕ, zero, suc, ◌-◌, ◌+◌, ◌<◌, ◌≤◌, Bool, false, List, [], ◌∷◌, ◌++◌, Ok, refl, inl, inr, ap, ◌∙◌, append-nil, arith}
use Rattle.std.specs.Prelude.{◌==◌}
use Rattle.std.proofs.Math.Nat.{sub-zero}
use Rattle.class_tree.specs.declared.pool.Const.{Const}
use Rattle.classfile_items.specs.declared.fault.ReadClassFault.{ReadClassFault}
use Rattle.classfile_items.specs.Reading.{Found, Tells}
use Rattle.classfile_pool.specs.PoolReading.{is_long, place, places}
use Rattle.classfile_items.proofs.Many.{after, after-nil, after-after}

pub places_begun : (end n : ℕ) (bytes : List ℕ) → places end false n bytes ≡ after [] (places end false (n - 0) bytes)
places_begun end n bytes = rw (sub-zero n) (after-nil (places end false n bytes))

-- one more was read
pub places_next : (end n i : ℕ) (second : Bool) (read more : List Const) (x : Const) (bytes rest : List ℕ) → i < n → place end second ((n - i - 1) == 0) bytes ≡ Ok (x, rest) → more ≡ read ++ x ∷ [] → after read (places end second (n - i) bytes) ≡ after more (places end (is_long x) (n - (i + 1)) rest)
places_next end n i second read more x bytes rest lt e all =
    let left : n - i ≡ suc (n - i - 1) = omega arith in
    let less : n - (i + 1) ≡ n - i - 1 = omega arith in
    rw (left, less, all, e) (after-after read x (places end (is_long x) (n - i - 1) rest))

-- the next one was not read
pub places_stopped : (end n i : ℕ) (second : Bool) (read : List Const) (bytes : List ℕ) (whole : Found (List Const)) (fault : ReadClassFault) → i < n → whole ≡ after read (places end second (n - i) bytes) → Tells fault (place end second ((n - i - 1) == 0) bytes) → Tells fault whole
places_stopped end n i second read bytes whole fault lt is (inl memory) = inl memory
places_stopped end n i second read bytes whole fault lt is (inr e) =
    let left : n - i ≡ suc (n - i - 1) = omega arith in
    inr (is ∙ rw (left, e) refl)

-- all were read
pub places_done : (end n i : ℕ) (second : Bool) (read : List Const) (bytes : List ℕ) → n ≤ i → after read (places end second (n - i) bytes) ≡ Ok (read, bytes)
places_done end n i second read bytes le =
    let left : n - i ≡ zero = omega arith in
    rw left (ap (λ (all : List Const). Ok (all, bytes)) (append-nil read))
