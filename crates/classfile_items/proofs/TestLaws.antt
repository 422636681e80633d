-- The laws of a number of two bytes that must pass a test.
use Rattle.std.proofs.Common.{◌≡◌, ℕ, Bool, true, List, refl}
use Rattle.class_tree.specs.Ranges.{is_u2}
use Rattle.class_tree.specs.Spelling as bytes_of
use Rattle.classfile_items.specs.declared.fault.ReadClassFault.{ReadClassFault}
use Rattle.classfile_items.specs.Reading.{Found, ◌>>=◌, provided, offset, u2}
use Rattle.classfile_items.proofs.Laws.{IsSound, IsComplete, step_at, done, on_provided}
use Rattle.classfile_items.proofs.NumberLaws.{u2_sound, u2_complete}

abbrev pub tested : ℕ → (ℕ → Bool) → (ℕ → ReadClassFault) → List ℕ → Found ℕ
tested end holds fault bytes = u2 end bytes >>= λ n. provided (holds n.0) (fault (offset end bytes)) n

pub tested_sound : (end : ℕ) (holds : ℕ → Bool) (fault : ℕ → ReadClassFault) → IsSound (tested end holds fault) bytes_of.u2 holds
tested_sound end holds fault = step_at (u2_sound end) (λ began n _. on_provided (holds n) (fault (offset end began)) (λ h. done n refl h))

pub tested_complete : (end : ℕ) (holds : ℕ → Bool) (fault : ℕ → ReadClassFault) → ((n : ℕ) → holds n ≡ true → is_u2 n ≡ true) → IsComplete (tested end holds fault) bytes_of.u2 holds
tested_complete end holds fault fits n rest passes = rw (u2_complete end n rest (fits n passes), passes) refl
