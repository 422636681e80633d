-- The two laws of reading, and how those of a chain of steps follow from those of its steps. Sound: what is found in bytes is
-- spelled there and passes its test. Complete: whatever passes the test is found where it is spelled.
use Rattle.std.proofs.Common.{◌≡◌, ℕ, Bool, true, false, List, [], ◌∷◌, ◌++◌, Ok, Err, refl, sym, ap, subst, ◌∙◌, append_assoc}
use Rattle.std.specs.Prelude.{if◌then◌else◌, ◌==◌}
use Rattle.std.proofs.lemmas.Bool.{and_parts, eqb-true}
use Rattle.std.proofs.lemmas.List.Folds.{list_all-append}
use Rattle.class_tree.specs.Ranges.{is_byte, are_bytes}
use Rattle.classfile_items.specs.declared.fault.ReadClassFault.{ReadClassFault}
use Rattle.classfile_items.specs.Reading.{Checked, Found, ◌>>=◌, provided}

-- The bytes begin with the spelling of a value that passes the test, and the others stand behind it.
pub record Stands {A : Type 0} (spelling : A → List ℕ) (test : A → Bool) (bytes : List ℕ) (x : A × List ℕ) : Type 0 where
  pub spelled : bytes ≡ spelling x.0 ++ x.1
  pub passes : test x.0 ≡ true
  pub left : are_bytes x.1 ≡ true

-- What is found in bytes stands there, together with what was read in front of them.
pub record IsSoundBehind {A : Type 0} (front : List ℕ) (item : List ℕ → Found A) (spelling : A → List ℕ) (test : A → Bool) : Type 0 where
  pub stands : (bytes : List ℕ) (x : A × List ℕ) → are_bytes bytes ≡ true → item bytes ≡ Ok x → Stands spelling test (front ++ bytes) x

abbrev pub IsSound : {A : Type 0} → (List ℕ → Found A) → (A → List ℕ) → (A → Bool) → Type 0
IsSound item spelling test = IsSoundBehind [] item spelling test

abbrev pub IsComplete : {A : Type 0} → (List ℕ → Found A) → (A → List ℕ) → (A → Bool) → Type 0
IsComplete {A} item spelling test = (x : A) (rest : List ℕ) → test x ≡ true → item (spelling x ++ rest) ≡ Ok (x, rest)

-- ---- facts on what was found

-- the first step found a value, and the second one the result
pub record Steps {A B : Type 0} (found : Checked A) (next : A → Checked B) (y : B) : Type 0 where
  pub value : A
  pub first : found ≡ Ok value
  pub second : next value ≡ Ok y

pub steps_of : {A B : Type 0} (found : Checked A) (next : A → Checked B) (y : B) → found >>= next ≡ Ok y → Steps found next y
steps_of (Ok x) next y e = record { value = x; first = refl; second = e }
steps_of (Err fault) next y e = cc

-- the side of a test that found the result
pub by_test : {A : Type 0} (P : Type 0) (test : Bool) (x z : Checked A) (y : A) → (if test then x else z) ≡ Ok y → (test ≡ true → x ≡ Ok y → P) → (test ≡ false → z ≡ Ok y → P) → P
by_test P true x z y e on_true on_false = on_true refl e
by_test P false x z y e on_true on_false = on_false refl e

-- what holds of a value that was found holds of the result
pub of_found : {A : Type 0} (P : A → Type 0) (x y : A) → ◌≡◌ {A = Checked A} (Ok x) (Ok y) → P x → P y
of_found P x y e p = let same : x ≡ y = cc in subst P same p

-- ---- a chain is sound

-- A step, and what follows it behind all that was read so far. What follows knows the bytes at which the step began, whose
-- offset a fault may name.
pub step_at : {A B : Type 0} {front : List ℕ} {first : List ℕ → Found A} {first_bytes : A → List ℕ} {first_test : A → Bool} {rest : List ℕ → A → List ℕ → Found B} {spelling : B → List ℕ} {test : B → Bool} → IsSound first first_bytes first_test → ((began : List ℕ) (a : A) → first_test a ≡ true → IsSoundBehind (front ++ first_bytes a) (rest began a) spelling test) → IsSoundBehind front (λ bytes. first bytes >>= λ a. rest bytes a.0 a.1) spelling test
step_at {front = front} {first = first} {first_bytes = first_bytes} {rest = rest} {spelling = spelling} {test = test} sound others = record {
  stands = λ bytes x are e.
      let s = steps_of (first bytes) (λ a. rest bytes a.0 a.1) x e in
      let a = sound.stands bytes s.value are s.first in
      let joined : front ++ bytes ≡ (front ++ first_bytes s.value.0) ++ s.value.1 = ap (λ (bs : List ℕ). front ++ bs) a.spelled ∙ sym (append_assoc front (first_bytes s.value.0) s.value.1) in
      subst (λ (bs : List ℕ). Stands spelling test bs x) (sym joined) ((others bytes s.value.0 a.passes).stands s.value.1 x a.left s.second);
}

-- the same, where no fault names that offset
pub step : {A B : Type 0} {front : List ℕ} {first : List ℕ → Found A} {first_bytes : A → List ℕ} {first_test : A → Bool} {rest : A → List ℕ → Found B} {spelling : B → List ℕ} {test : B → Bool} → IsSound first first_bytes first_test → ((a : A) → first_test a ≡ true → IsSoundBehind (front ++ first_bytes a) (rest a) spelling test) → IsSoundBehind front (λ bytes. first bytes >>= λ a. rest a.0 a.1) spelling test
step sound others = step_at sound (λ _ a is_a. others a is_a)

-- the end: the value that all that was read spells
pub done : {A : Type 0} {front : List ℕ} {spelling : A → List ℕ} {test : A → Bool} (y : A) → spelling y ≡ front → test y ≡ true → IsSoundBehind front (λ bytes. Ok (y, bytes)) spelling test
done {front = front} {spelling = spelling} {test = test} y spelled passes = record {
  stands = λ bytes x are e. of_found (Stands spelling test (front ++ bytes)) (y, bytes) x e (record { spelled = ap (λ (bs : List ℕ). bs ++ bytes) (sym spelled); passes = passes; left = are });
}

-- the last step finds the value itself
pub last : {A : Type 0} {front : List ℕ} {item : List ℕ → Found A} {item_bytes spelling : A → List ℕ} {item_test test : A → Bool} → IsSound item item_bytes item_test → ((a : A) → item_test a ≡ true → spelling a ≡ front ++ item_bytes a) → ((a : A) → item_test a ≡ true → test a ≡ true) → IsSoundBehind front item spelling test
last {front = front} {item_bytes = item_bytes} {spelling = spelling} sound spelled passes = record {
  stands = λ bytes x are e.
      let a = sound.stands bytes x are e in
      let joined : front ++ bytes ≡ (front ++ item_bytes x.0) ++ x.1 = ap (λ (bs : List ℕ). front ++ bs) a.spelled ∙ sym (append_assoc front (item_bytes x.0) x.1) in
      record { spelled = joined ∙ ap (λ (bs : List ℕ). bs ++ x.1) (sym (spelled x.0 a.passes)); passes = passes x.0 a.passes; left = a.left };
}

-- a fault finds nothing
pub fails : {A : Type 0} {front : List ℕ} {fault : List ℕ → ReadClassFault} {spelling : A → List ℕ} {test : A → Bool} → IsSoundBehind front (λ bytes. Err (fault bytes)) spelling test
fails = record { stands = λ bytes x are e. cc }

-- a step that reads nothing
pub check : {A B : Type 0} {front : List ℕ} {rest : A → List ℕ → Found B} {spelling : B → List ℕ} {test : B → Bool} (found : Checked A) → ((a : A) → found ≡ Ok a → IsSoundBehind front (rest a) spelling test) → IsSoundBehind front (λ bytes. found >>= λ a. rest a bytes) spelling test
check (Ok a) others = others a refl
check (Err fault) others = fails

-- a check at the end
pub on_provided : {A : Type 0} {front : List ℕ} {found : List ℕ → A × List ℕ} {spelling : A → List ℕ} {test : A → Bool} (t : Bool) (fault : ReadClassFault) → (t ≡ true → IsSoundBehind front (λ bytes. Ok (found bytes)) spelling test) → IsSoundBehind front (λ bytes. provided t fault (found bytes)) spelling test
on_provided true fault sound = sound refl
on_provided false fault sound = fails

-- the sides of a test
pub on_test : {A : Type 0} {front : List ℕ} {item other : List ℕ → Found A} {spelling : A → List ℕ} {test : A → Bool} (t : Bool) → (t ≡ true → IsSoundBehind front item spelling test) → (t ≡ false → IsSoundBehind front other spelling test) → IsSoundBehind front (λ bytes. if t then item bytes else other bytes) spelling test
on_test true on_true on_false = on_true refl
on_test false on_true on_false = on_false refl

-- the same, where the number in front is compared with another one
pub on_tag : {A : Type 0} {tag : ℕ} {item other : List ℕ → Found A} {spelling : A → List ℕ} {test : A → Bool} (k : ℕ) → IsSoundBehind (k ∷ []) item spelling test → ((tag == k) ≡ false → IsSoundBehind (tag ∷ []) other spelling test) → IsSoundBehind (tag ∷ []) (λ bytes. if tag == k then item bytes else other bytes) spelling test
on_tag {tag = tag} {item = item} {spelling = spelling} {test = test} k sound others =
    on_test (tag == k) (λ same. subst (λ (n : ℕ). IsSoundBehind (n ∷ []) item spelling test) (sym (eqb-true tag k same)) sound) others

-- ---- bytes in a row

pub bytes_before : (front rest : List ℕ) → are_bytes (front ++ rest) ≡ true → are_bytes front ≡ true
bytes_before front rest are = (and_parts _ _ (sym (list_all-append is_byte front rest) ∙ are)).0

pub bytes_behind : (front rest : List ℕ) → are_bytes (front ++ rest) ≡ true → are_bytes rest ≡ true
bytes_behind front rest are = (and_parts (are_bytes front) _ (sym (list_all-append is_byte front rest) ∙ are)).1
