-- Reading: one pass over the bytes, in which each item is checked as soon as it has been read. Numbers stand highest byte
-- first (JVM specification, chapter 4).
use Rattle.std.specs.Prelude.{◌≡◌, ◌⊎◌, ℕ, zero, suc, ◌-◌, ℤ, Bool, true, false, nat_lt, if◌then◌else◌, List, [], ◌∷◌, length, take, drop, Option, Some, None, Result, Ok, Err, MatchResult}
use Rattle.std.specs.Borrow.{Bor}
use Rattle.std.specs.Int.{w16, w32, w64, from_be_bytes, cast_signed}
use Rattle.classfile_items.specs.declared.fault.ReadClassFault.{ReadClassFault}
use Rattle.classfile_items.specs.declared.fault.ReadClassFault.TheVariants.{Truncated, Memory}

-- a value, or the fault that shows
abbrev pub Checked : Type 0 → Type 0
Checked A = Result A ReadClassFault

-- a value and the bytes behind it, or the fault that shows
abbrev pub Found : Type 0 → Type 0
Found A = Checked (A × List ℕ)

-- A fault tells what was found. One for want of memory tells nothing.
abbrev pub Tells : {A : Type 0} → ReadClassFault → Checked A → Type 0
Tells fault found = (fault ≡ Memory) ⊎ (found ≡ Err fault)

-- An answer of the program is what was found, as `view` sees its value, unless memory ran out.
abbrev pub Mirrors : {A B : Type 0} → (A → B) → Checked A → Checked B → Type 0
Mirrors view answer found = MatchResult answer (λ x. found ≡ Ok (view x)) (λ fault. Tells fault found)

-- the same of an answer with the bytes behind its value
abbrev pub Reads : {A : Type 0} → Checked (A × Bor (List ℕ)) → Found A → Type 0
Reads answer found = Mirrors (λ x. (x.0, x.1.now)) answer found

-- the same two of an answer for which no memory is taken
abbrev pub MirrorsAlways : {A B : Type 0} → (A → B) → Checked A → Checked B → Type 0
MirrorsAlways view answer found = MatchResult answer (λ x. found ≡ Ok (view x)) (λ fault. found ≡ Err fault)

abbrev pub ReadsAlways : {A : Type 0} → Checked (A × Bor (List ℕ)) → Found A → Type 0
ReadsAlways answer found = MirrorsAlways (λ x. (x.0, x.1.now)) answer found

infixl 10 ◌>>=◌
abbrev pub ◌>>=◌ : {A B : Type 0} → Checked A → (A → Checked B) → Checked B
(Ok x) >>= f = f x
(Err fault) >>= f = Err fault

-- the value, if the test holds
abbrev pub provided : {A : Type 0} → Bool → ReadClassFault → A → Checked A
provided true fault x = Ok x
provided false fault x = Err fault

-- a fault, or none
abbrev pub FaultOf : Type 0
FaultOf = Option ReadClassFault

abbrev pub unless : Bool → ReadClassFault → FaultOf
unless true fault = None
unless false fault = Some fault

-- the value, if there is no fault
abbrev pub faultless : {A : Type 0} → FaultOf → A → Checked A
faultless None x = Ok x
faultless (Some fault) x = Err fault

-- the offset of the first of the bytes that are left of a file of this length
abbrev pub offset : ℕ → List ℕ → ℕ
offset end bytes = end - length bytes

-- ---- numbers; one that needs a byte past the end is cut off

unfoldable pub u1 : ℕ → List ℕ → Found ℕ
u1 end [] = Err (Truncated end)
u1 end (a ∷ bytes) = Ok (a, bytes)

unfoldable pub u2 : ℕ → List ℕ → Found ℕ
u2 end (a ∷ b ∷ bytes) = Ok (from_be_bytes w16 (a ∷ b ∷ []), bytes)
u2 end bytes = Err (Truncated end)

unfoldable pub u4 : ℕ → List ℕ → Found ℕ
u4 end (a ∷ b ∷ c ∷ d ∷ bytes) = Ok (from_be_bytes w32 (a ∷ b ∷ c ∷ d ∷ []), bytes)
u4 end bytes = Err (Truncated end)

unfoldable pub s4 : ℕ → List ℕ → Found ℤ
s4 end bytes = u4 end bytes >>= λ n. Ok (cast_signed w32 n.0, n.1)

unfoldable pub u8 : ℕ → List ℕ → Found ℕ
u8 end (a ∷ b ∷ c ∷ d ∷ e ∷ f ∷ g ∷ h ∷ bytes) = Ok (from_be_bytes w64 (a ∷ b ∷ c ∷ d ∷ e ∷ f ∷ g ∷ h ∷ []), bytes)
u8 end bytes = Err (Truncated end)

unfoldable pub s8 : ℕ → List ℕ → Found ℤ
s8 end bytes = u8 end bytes >>= λ n. Ok (cast_signed w64 n.0, n.1)

-- so many bytes as they stand
unfoldable pub raw : ℕ → ℕ → List ℕ → Found (List ℕ)
raw end n bytes = if nat_lt (length bytes) n then Err (Truncated end) else Ok (take n bytes, drop n bytes)

-- ---- lists

-- so many, one after the other
unfoldable pub many : {A : Type 0} → (List ℕ → Found A) → ℕ → List ℕ → Found (List A)
many item zero bytes = Ok ([], bytes)
many item (suc n) bytes = item bytes >>= λ x. many item n x.1 >>= λ xs. Ok (x.0 ∷ xs.0, xs.1)

-- their number in two bytes, and then they
unfoldable pub counted : {A : Type 0} → ℕ → (List ℕ → Found A) → List ℕ → Found (List A)
counted end item bytes = u2 end bytes >>= λ n. many item n.0 n.1
