-- What holds of each thread of a core holds on where one of them is changed, if it holds of that one.
use Rattle.std.proofs.Common.{◌≡◌, ℕ, zero, suc, ◌-◌, List, [], ◌∷◌, Option, Some, None, refl, subst, arith}
use Rattle.std.specs.Prelude.{slice_get, slice_set}
use Rattle.std.specs.List.{AllByRecursion}
use Rattle.std.specs.Option.{option_map_or}
use Rattle.ti_ids.specs.declared.number.ThreadNo.{ThreadNo}
use Rattle.machine_state.specs.Jobs.{at_number}
use Rattle.machine_state.specs.Core.{Core, Thread, thread_at, with_thread}

module _ (P : Thread → Type 0) where
  set_found : (threads : List Thread) (k : ℕ) (change : Thread → Thread) (found : Option Thread) → slice_get threads k ≡ found
      → ((t : Thread) → found ≡ Some t → P t → P (change t)) → AllByRecursion P threads
      → AllByRecursion P (option_map_or (λ t. slice_set threads k (change t)) found threads)
  set_found threads k change None e keep h = h
  set_found [] k change (Some t) e keep h = absurd cc
  set_found (u ∷ threads) zero change (Some t) e keep h = let same : u ≡ t = cc in (keep t refl (subst P same h.0), h.1)
  set_found (u ∷ threads) (suc k) change (Some t) e keep h = (h.0, set_found threads k change (Some t) e keep h.1)

  set_at : (threads : List Thread) (change : Thread → Thread) (k : ℕ)
      → ((u : Thread) → at_number threads k ≡ Some u → P u → P (change u)) → AllByRecursion P threads
      → AllByRecursion P (option_map_or (λ u. slice_set threads (k - 1) (change u)) (at_number threads k) threads)
  set_at threads change zero keep h = h
  set_at threads change (suc k) keep h =
      subst (λ (p : ℕ). AllByRecursion P (option_map_or (λ u. slice_set threads p (change u)) (slice_get threads k) threads))
      (let same : k ≡ suc k - 1 = omega arith in same) (set_found threads k change (slice_get threads k) refl keep h)

  -- the change may go by what the thread is
  pub with_found : (core : Core) (t : ThreadNo) (change : Thread → Thread)
      → ((u : Thread) → thread_at core t ≡ Some u → P u → P (change u)) → AllByRecursion P core.threads
      → AllByRecursion P (with_thread change t core).threads
  with_found core t change keep h = set_at core.threads change t.0 keep h

  pub with_each : (core : Core) (t : ThreadNo) (change : Thread → Thread) → ((u : Thread) → P u → P (change u))
      → AllByRecursion P core.threads
      → AllByRecursion P (with_thread change t core).threads
  with_each core t change keep h = with_found core t change (λ u e k. keep u k) h
