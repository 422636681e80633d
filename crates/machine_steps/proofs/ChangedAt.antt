-- A thread of a core is changed: how the core looks then, and what of it the others' changes leave alone.
use Rattle.std.proofs.Common.{◌≡◌, ◌∙◌, ℕ, zero, suc, ◌-◌, ◌++◌, List, [], ◌∷◌, Bool, true, false, cond, length, Option, Some, None, refl, sym, ap, subst, arith}
use Rattle.std.specs.Prelude.{slice_get, slice_set, nat_le, option_map}
use Rattle.std.specs.Option.{option_map_or}
use Rattle.ti_ids.specs.declared.number.ThreadNo.{ThreadNo}
use Rattle.ti_ids.specs.declared.number.ObjNo.{ObjNo}
use Rattle.machine_state.specs.Jobs.{at_number}
use Rattle.machine_state.specs.Core.{Core, Thread, most_threads, thread_at, with_thread}
use Rattle.machine_state.specs.Acts.{new_thread, with_made}

-- ---- the threads, one of which is changed

abbrev changed_at : (Thread → Thread) → ℕ → List Thread → List Thread
changed_at change k [] = []
changed_at change zero (u ∷ threads) = change u ∷ threads
changed_at change (suc k) (u ∷ threads) = u ∷ changed_at change k threads

abbrev with_numbered_thread : (Thread → Thread) → ℕ → List Thread → List Thread
with_numbered_thread change zero threads = threads
with_numbered_thread change (suc k) threads = changed_at change k threads

set_is : (change : Thread → Thread) (k : ℕ) (threads : List Thread) (found : Option Thread) → slice_get threads k ≡ found
    → option_map_or (λ u. slice_set threads k (change u)) found threads ≡ changed_at change k threads
set_is change k [] None e = refl
set_is change k [] (Some u) e = absurd cc
set_is change zero (v ∷ threads) None e = absurd cc
set_is change zero (v ∷ threads) (Some u) e = let same : v ≡ u = cc in ap (λ (x : Thread). change x ∷ threads) (sym same)
set_is change (suc k) (v ∷ threads) None e = ap (λ (l : List Thread). v ∷ l) (set_is change k threads None e)
set_is change (suc k) (v ∷ threads) (Some u) e = ap (λ (l : List Thread). v ∷ l) (set_is change k threads (Some u) e)

numbered_is : (change : Thread → Thread) (n : ℕ) (threads : List Thread)
    → option_map_or (λ u. slice_set threads (n - 1) (change u)) (at_number threads n) threads ≡ with_numbered_thread change n threads
numbered_is change zero threads = refl
numbered_is change (suc k) threads =
    subst (λ (p : ℕ). option_map_or (λ u. slice_set threads p (change u)) (slice_get threads k) threads ≡ changed_at change k threads)
    (let same : k ≡ suc k - 1 = omega arith in same) (set_is change k threads (slice_get threads k) refl)

with_is : (core : Core) (t : ThreadNo) (change : Thread → Thread)
    → with_thread change t core ≡ record core { threads = with_numbered_thread change t.0 core.threads }
with_is core t change = ap (λ (l : List Thread). (let c : Core = record core { threads = l } in c)) (numbered_is change t.0 core.threads)

-- ---- the one that was changed

get_changed : (change : Thread → Thread) (k : ℕ) (threads : List Thread)
    → slice_get (changed_at change k threads) k ≡ option_map change (slice_get threads k)
get_changed change k [] = refl
get_changed change zero (u ∷ threads) = refl
get_changed change (suc k) (u ∷ threads) = get_changed change k threads

number_changed : (change : Thread → Thread) (n : ℕ) (threads : List Thread)
    → at_number (with_numbered_thread change n threads) n ≡ option_map change (at_number threads n)
number_changed change zero threads = refl
number_changed change (suc k) threads = get_changed change k threads

pub thread_changed : (core : Core) (t : ThreadNo) (change : Thread → Thread)
    → thread_at (with_thread change t core) t ≡ option_map change (thread_at core t)
thread_changed core t change =
    ap (λ (l : List Thread). at_number l t.0) (numbered_is change t.0 core.threads) ∙ number_changed change t.0 core.threads

-- ---- two changes

twice_at : (f g : Thread → Thread) (k : ℕ) (threads : List Thread)
    → changed_at f k (changed_at g k threads) ≡ changed_at (λ u. f (g u)) k threads
twice_at f g k [] = refl
twice_at f g zero (u ∷ threads) = refl
twice_at f g (suc k) (u ∷ threads) = ap (λ (l : List Thread). u ∷ l) (twice_at f g k threads)

twice_numbered : (f g : Thread → Thread) (n : ℕ) (threads : List Thread)
    → with_numbered_thread f n (with_numbered_thread g n threads) ≡ with_numbered_thread (λ u. f (g u)) n threads
twice_numbered f g zero threads = refl
twice_numbered f g (suc k) threads = twice_at f g k threads

-- a thread is changed twice
pub with_twice : (core : Core) (t : ThreadNo) (f g : Thread → Thread) → with_thread f t (with_thread g t core) ≡ with_thread (λ u. f (g u)) t core
with_twice core t f g =
    with_is (with_thread g t core) t f
    ∙ ap (λ (l : List Thread). (let c : Core = record core { threads = with_numbered_thread f t.0 l } in c)) (numbered_is g t.0 core.threads)
    ∙ ap (λ (l : List Thread). (let c : Core = record core { threads = l } in c)) (twice_numbered f g t.0 core.threads)
    ∙ sym (with_is core t (λ u. f (g u)))

-- ---- a thread is changed where another one is made

as_many_at : (change : Thread → Thread) (k : ℕ) (threads : List Thread) → length (changed_at change k threads) ≡ length threads
as_many_at change k [] = refl
as_many_at change zero (u ∷ threads) = refl
as_many_at change (suc k) (u ∷ threads) = ap suc (as_many_at change k threads)

last_at : (change : Thread → Thread) (k : ℕ) (threads : List Thread) (new : Thread) → change new ≡ new
    → changed_at change k (threads ++ new ∷ []) ≡ changed_at change k threads ++ new ∷ []
last_at change zero [] new same = ap (λ (x : Thread). x ∷ []) same
last_at change (suc k) [] new same = refl
last_at change zero (u ∷ threads) new same = refl
last_at change (suc k) (u ∷ threads) new same = ap (λ (l : List Thread). u ∷ l) (last_at change k threads new same)

made_by : (change : Thread → Thread) (k : ℕ) (threads : List Thread) (new : Thread) (full : Bool) → change new ≡ new
    → changed_at change k (cond full threads (threads ++ new ∷ []))
    ≡ cond full (changed_at change k threads) (changed_at change k threads ++ new ∷ [])
made_by change k threads new true same = refl
made_by change k threads new false same = last_at change k threads new same

made_numbered : (change : Thread → Thread) (n : ℕ) (threads : List Thread) (o : ObjNo) → change (new_thread o) ≡ new_thread o
    → with_numbered_thread change n (with_made o threads) ≡ with_made o (with_numbered_thread change n threads)
made_numbered change zero threads o same = refl
made_numbered change (suc k) threads o same =
    made_by change k threads (new_thread o) (nat_le most_threads (length threads)) same
    ∙ ap (λ (n : ℕ). cond (nat_le most_threads n) (changed_at change k threads) (changed_at change k threads ++ new_thread o ∷ []))
    (sym (as_many_at change k threads))

-- a change that leaves new threads alone
pub with_made_is : (core : Core) (t : ThreadNo) (change : Thread → Thread) (o : ObjNo) → change (new_thread o) ≡ new_thread o
    → with_thread change t (record core { threads = with_made o core.threads })
    ≡ (let after : Core = with_thread change t core in record after { threads = with_made o after.threads })
with_made_is core t change o same =
    with_is (record core { threads = with_made o core.threads }) t change
    ∙ ap (λ (l : List Thread). (let c : Core = record core { threads = l } in c)) (made_numbered change t.0 core.threads o same)
    ∙ ap (λ (l : List Thread). (let c : Core = record core { threads = with_made o l } in c)) (sym (numbered_is change t.0 core.threads))
