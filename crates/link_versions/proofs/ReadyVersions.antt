-- The codes of a version that is held.
use Rattle.std.proofs.Common.{◌≡◌, ℕ, zero, suc, ◌==◌, Bool, true, false, List, [], ◌∷◌, length, map, reverse, refl, sym, subst, ◌∙◌, Option, Some, None}
use Rattle.std.specs.Prelude.{IfSome, slice_get, option_map, option_copied}
use Rattle.std.specs.Borrow.{Bor}
use Rattle.std.specs.List.{AllByRecursion}
use Rattle.std.specs.Option.{option_and_then}
use Rattle.std.proofs.lemmas.Bool.{cond-true, cond-false}
use Rattle.std.proofs.lemmas.Option.{same_Some}
use Rattle.link_versions.specs.declared.class.Entry.{Entry}
use Rattle.link_versions.specs.declared.class.Version.{Version}
use Rattle.link_versions.specs.Classes.{numbered}
use Rattle.link_versions.specs.Entries.{IsReady, AreReady, AreSound, IsTable}

pub tree_shown : (o : Option (Bor Version)) → option_map (λ v. v.now.tree) o ≡ option_map (λ v. v.tree) (option_copied o)
tree_shown None = refl
tree_shown (Some v) = refl

all_at : (vs : List Version) (i : ℕ) (v : Version) → AllByRecursion IsReady vs → slice_get vs i ≡ Some v → IsReady v
all_at [] i v all at = absurd cc
all_at (w ∷ vs) zero v all at = subst (λ (u : Version). IsReady u) (same_Some _ _ at) all.0
all_at (w ∷ vs) (suc i) v all at = all_at vs i v all.1 at

pub ready_at : (vs : List Version) (i : ℕ) (o : Option (Bor Version)) → AllByRecursion IsReady vs → option_copied o ≡ slice_get vs i → IfSome o (λ v. IsReady v.now)
ready_at vs i None all at = tt
ready_at vs i (Some v) all at = all_at vs i v.now all (sym at)

are_ready : (rs : List Entry) (n : ℕ) (e : Entry) → AreSound rs → numbered rs n ≡ Some e → AreReady e.kind
are_ready [] n e sound found = absurd cc
are_ready (r ∷ rs) n e sound found = by (n == length (r ∷ rs)) refl (are_ready rs n e sound.1)
  where
    by : (b : Bool) → (n == length (r ∷ rs)) ≡ b → (numbered rs n ≡ Some e → AreReady e.kind) → AreReady e.kind
    by true t rest = subst (λ (k : Entry). AreReady k.kind) (same_Some _ _ (sym (cond-true (n == length (r ∷ rs)) (Some r) (numbered rs n) t) ∙ found)) sound.0.codes
    by false t rest = rest (sym (cond-false (n == length (r ∷ rs)) (Some r) (numbered rs n) t) ∙ found)

pub ready_held : (es : List Entry) (n : ℕ) (e : Entry) → IsTable es → numbered (reverse es) n ≡ Some e → AreReady e.kind
unfolding IsTable
ready_held es n e table found = are_ready (reverse es) n e table found

-- what is ready at a place of a list of what may be ready
pub joined : {A B : Type 0} (f : A → Option B) (xs : List A) (i : ℕ) (found : Option B) → slice_get (map f xs) i ≡ Some found → option_and_then f (slice_get xs i) ≡ found
joined f [] i found e = absurd cc
joined f (x ∷ xs) zero found e = same_Some _ _ e
joined f (x ∷ xs) (suc i) found e = joined f xs i found e

pub joined_none : {A B : Type 0} (f : A → Option B) (xs : List A) (i : ℕ) → slice_get (map f xs) i ≡ None → option_and_then f (slice_get xs i) ≡ None
joined_none f [] i e = refl
joined_none f (x ∷ xs) zero e = absurd cc
joined_none f (x ∷ xs) (suc i) e = joined_none f xs i e
