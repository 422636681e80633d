-- Items read one after the other: what is found after some of them were read.
use Rattle.std.proofs.Common.{◌≡◌, ℕ, zero, suc, ◌-◌, ◌+◌, ◌<◌, ◌≤◌, List, [], ◌∷◌, ◌++◌, Ok, Err, refl, inl, inr, sym, ap, ◌∙◌, append_assoc, append-nil, arith}
use Rattle.std.proofs.Math.Nat.{sub-zero}
use Rattle.classfile_items.specs.declared.fault.ReadClassFault.{ReadClassFault}
use Rattle.classfile_items.specs.Reading.{Found, ◌>>=◌, Tells, many}

-- what was read, and what is found behind it
abbrev pub after : {A : Type 0} → List A → Found (List A) → Found (List A)
after read found = found >>= λ xs. Ok (read ++ xs.0, xs.1)

pub after-nil : {A : Type 0} (found : Found (List A)) → found ≡ after [] found
after-nil (Ok xs) = refl
after-nil (Err fault) = refl

pub after-after : {A : Type 0} (read : List A) (x : A) (found : Found (List A)) → after read (found >>= λ xs. Ok (x ∷ xs.0, xs.1)) ≡ after (read ++ x ∷ []) found
after-after read x (Ok xs) = ap (λ (all : List _). Ok (all, xs.1)) (sym (append_assoc read (x ∷ []) xs.0))
after-after read x (Err fault) = refl

pub many_begun : {A : Type 0} (item : List ℕ → Found A) (n : ℕ) (bytes : List ℕ) → many item n bytes ≡ after [] (many item (n - 0) bytes)
many_begun item n bytes = rw (sub-zero n) (after-nil (many item n bytes))

many_more : {A : Type 0} (item : List ℕ → Found A) (n : ℕ) (read : List A) (x : A) (bytes rest : List ℕ) → item bytes ≡ Ok (x, rest) → after read (many item (suc n) bytes) ≡ after (read ++ x ∷ []) (many item n rest)
unfolding many
many_more item n read x bytes rest e = rw e (after-after read x (many item n rest))

-- one more was read
pub many_next : {A : Type 0} (item : List ℕ → Found A) (n i : ℕ) (read more : List A) (x : A) (bytes rest : List ℕ) (whole : Found (List A)) → i < n → whole ≡ after read (many item (n - i) bytes) → item bytes ≡ Ok (x, rest) → more ≡ read ++ x ∷ [] → whole ≡ after more (many item (n - (i + 1)) rest)
many_next item n i read more x bytes rest whole lt is e all =
    let left : n - i ≡ suc (n - (i + 1)) = omega arith in
    is ∙ rw (left, all) (many_more item (n - (i + 1)) read x bytes rest e)

many_fails : {A : Type 0} (item : List ℕ → Found A) (n : ℕ) (read : List A) (bytes : List ℕ) (fault : ReadClassFault) → item bytes ≡ Err fault → after read (many item (suc n) bytes) ≡ Err fault
unfolding many
many_fails item n read bytes fault e = rw e refl

-- the next one was not read
pub many_stopped : {A : Type 0} (item : List ℕ → Found A) (n i : ℕ) (read : List A) (bytes : List ℕ) (whole : Found (List A)) (fault : ReadClassFault) → i < n → whole ≡ after read (many item (n - i) bytes) → Tells fault (item bytes) → Tells fault whole
many_stopped item n i read bytes whole fault lt is (inl memory) = inl memory
many_stopped item n i read bytes whole fault lt is (inr e) =
    let left : n - i ≡ suc (n - (i + 1)) = omega arith in
    inr (is ∙ rw left (many_fails item (n - (i + 1)) read bytes fault e))

-- all were read
pub many_done : {A : Type 0} (item : List ℕ → Found A) (n i : ℕ) (read : List A) (bytes : List ℕ) (whole : Found (List A)) → n ≤ i → whole ≡ after read (many item (n - i) bytes) → whole ≡ Ok (read, bytes)
unfolding many
many_done item n i read bytes whole le is =
    let left : n - i ≡ zero = omega arith in
    is ∙ rw left (ap (λ (all : List _). Ok (all, bytes)) (append-nil read))
