-- Chains of which more is known than a test tells: what each of two steps found, as a record.
use Rattle.std.proofs.Common.{◌≡◌, ℕ, Bool, true, false, List, ◌++◌, Ok, refl, sym, ap, subst, ◌∙◌, append_assoc}
use Rattle.class_tree.specs.Ranges.{are_bytes}
use Rattle.classfile_items.specs.declared.fault.ReadClassFault.{ReadClassFault}
use Rattle.classfile_items.specs.Reading.{Checked, Found, ◌>>=◌, provided}
use Rattle.classfile_items.proofs.Laws.{Stands, IsSoundBehind, IsSound, steps_of}

-- a sound first step, and the second one, which found the result
pub record SoundSteps {A B : Type 0} (spelling : A → List ℕ) (test : A → Bool) (bytes : List ℕ) (next : A × List ℕ → Checked B) (y : B) : Type 0 where
  pub value : A
  pub rest : List ℕ
  pub first : Stands spelling test bytes (value, rest)
  pub second : next (value, rest) ≡ Ok y

pub sound_steps : {A B : Type 0} {item : List ℕ → Found A} {spelling : A → List ℕ} {test : A → Bool} → IsSound item spelling test → (bytes : List ℕ) (next : A × List ℕ → Checked B) (y : B) → are_bytes bytes ≡ true → item bytes >>= next ≡ Ok y → SoundSteps spelling test bytes next y
sound_steps {item = item} sound bytes next y are e =
    let s = steps_of (item bytes) next y e in
    record { value = s.value.0; rest = s.value.1; first = sound.stands bytes s.value are s.first; second = s.second }

-- what follows from a first step that found a value
pub second_step : {A B : Type 0} (first : Checked A) (x : A) (next : A → Checked B) → first ≡ Ok x → first >>= next ≡ next x
second_step first x next e = ap (λ (r : Checked _). r >>= next) e

-- what a test lets pass
pub record Provided {A : Type 0} (test : Bool) (x y : A) : Type 0 where
  pub holds : test ≡ true
  pub same : x ≡ y

pub provided_of : {A : Type 0} (test : Bool) (fault : ReadClassFault) (x y : A) → provided test fault x ≡ Ok y → Provided test x y
provided_of true fault x y e = record { holds = refl; same = cc }
provided_of false fault x y e = cc

-- two spellings in a row
pub joined : {A : Type 0} (a b behind : List A) {bytes rest : List A} → bytes ≡ a ++ rest → rest ≡ b ++ behind → bytes ≡ (a ++ b) ++ behind
joined a b behind first second = first ∙ ap (λ (xs : List _). a ++ xs) second ∙ sym (append_assoc a b behind)

-- ---- steps of which a fact is known that no test tells

-- a value stands at the front, and this is known of it
pub record StandsAs {A : Type 0} (spelling : A → List ℕ) (Fact : A → Type 0) (bytes : List ℕ) (x : A × List ℕ) : Type 0 where
  pub spelled : bytes ≡ spelling x.0 ++ x.1
  pub fact : Fact x.0
  pub left : are_bytes x.1 ≡ true

-- as IsSound, with a fact in place of a test
pub record Knows {A : Type 0} (item : List ℕ → Found A) (spelling : A → List ℕ) (Fact : A → Type 0) : Type 0 where
  pub stands : (bytes : List ℕ) (x : A × List ℕ) → are_bytes bytes ≡ true → item bytes ≡ Ok x → StandsAs spelling Fact bytes x

-- as `step`
pub step_known : {A B : Type 0} {front : List ℕ} {first : List ℕ → Found A} {first_bytes : A → List ℕ} {Fact : A → Type 0} {rest : A → List ℕ → Found B} {spelling : B → List ℕ} {test : B → Bool} → Knows first first_bytes Fact → ((a : A) → Fact a → IsSoundBehind (front ++ first_bytes a) (rest a) spelling test) → IsSoundBehind front (λ bytes. first bytes >>= λ a. rest a.0 a.1) spelling test
step_known {front = front} {first = first} {first_bytes = first_bytes} {rest = rest} {spelling = spelling} {test = test} known others = record {
  stands = λ bytes x are e.
      let s = steps_of (first bytes) (λ a. rest a.0 a.1) x e in
      let a = known.stands bytes s.value are s.first in
      let whole : front ++ bytes ≡ (front ++ first_bytes s.value.0) ++ s.value.1 = ap (λ (bs : List ℕ). front ++ bs) a.spelled ∙ sym (append_assoc front (first_bytes s.value.0) s.value.1) in
      subst (λ (bs : List ℕ). Stands spelling test bs x) (sym whole) ((others s.value.0 a.fact).stands s.value.1 x a.left s.second);
}
