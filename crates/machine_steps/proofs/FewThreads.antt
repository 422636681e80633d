-- There are no more threads than may be made.
use Rattle.std.proofs.Common.{◌≡◌, ◌≤◌, ℕ, ◌+◌, ◌-◌, Bool, true, false, cond, List, [], ◌∷◌, ◌++◌, length, length-append, length-set, Option, Some, None, refl, sym, subst, arith}
use Rattle.std.specs.Prelude.{fold, slice_set, nat_le}
use Rattle.std.specs.Option.{option_map_or}
use Rattle.std.proofs.lemmas.Bool.{leb-false}
use Rattle.ti_ids.specs.declared.number.ThreadNo.{ThreadNo}
use Rattle.ti_ids.specs.declared.number.ObjNo.{ObjNo}
use Rattle.ti_ids.specs.declared.actor.Actor.{Actor}
use Rattle.machine_state.specs.Jobs.{Job}
use Rattle.machine_state.specs.Core.{Core, Thread, most_threads, thread_at, with_thread}
use Rattle.machine_state.specs.Acts.{State, Act, Change, Changes, Notes, SetsTop, Pops, Pushes, PushesInit, SetsState, SetsActivity, MakesThread, new_thread, changed, acted, birth_after}
use Rattle.machine_steps.specs.World.{World}
use Rattle.machine_steps.specs.Actors.{next_acts}
use Rattle.machine_steps.specs.Replay.{opening, step, step_by, run_from}
use Rattle.machine_steps.specs.Laws.{FewThreads}

abbrev pub AreFew : Core → Type 0
AreFew core = length core.threads ≤ most_threads

-- ---- one change

pub as_many : (threads : List Thread) (k : ℕ) (found : Option Thread) (change : Thread → Thread)
    → length (option_map_or (λ thread. slice_set threads k (change thread)) found threads) ≡ length threads
as_many threads k None change = refl
as_many threads k (Some thread) change = length-set threads k (change thread)

with_few : (core : Core) (t : ThreadNo) (change : Thread → Thread) → AreFew core → AreFew (with_thread change t core)
with_few core t change h = subst (λ (n : ℕ). n ≤ most_threads) (sym (as_many core.threads (t.0 - 1) (thread_at core t) change)) h

made_few : (object : ObjNo) (threads : List Thread) (full : Bool) → nat_le most_threads (length threads) ≡ full → length threads ≤ most_threads
    → length (cond full threads (threads ++ new_thread object ∷ [])) ≤ most_threads
made_few object threads true is h = h
made_few object threads false is h =
    let one : length (threads ++ new_thread object ∷ []) ≡ length threads + 1 = length-append threads (new_thread object ∷ []) in
    omega (arith, one, leb-false most_threads (length threads) is)

change_few : (birth : ℕ) (c : Change) (core : Core) → AreFew core → AreFew (changed birth c core)
change_few birth (SetsTop t frame) core h = with_few core t _ h
change_few birth (Pops t) core h = with_few core t _ h
change_few birth (Pushes t frame) core h = with_few core t _ h
change_few birth (PushesInit t class) core h = with_few core t _ h
change_few birth (SetsState t state) core h = with_few core t _ h
change_few birth (SetsActivity t activity) core h = with_few core t _ h
change_few birth (MakesThread object) core h = made_few object core.threads (nat_le most_threads (length core.threads)) refl h
change_few birth c core h = h

-- ---- acts, steps and schedules

act_few : (job : Job) (actor : Actor) (birth : ℕ) (s : State) (a : Act) → AreFew s.core → AreFew (acted job actor birth s a).core
act_few job actor birth s (Changes c) h = change_few birth c s.core h
act_few job actor birth s (Notes what) h = h

acts_few : (job : Job) (actor : Actor) (birth : ℕ) (s : State) (acts : List Act) → AreFew s.core → AreFew (fold (acted job actor birth) s acts).core
acts_few job actor birth s [] h = h
acts_few job actor birth s (a ∷ acts) h = acts_few job actor birth (acted job actor birth s a) acts (act_few job actor birth s a h)

by_few : (w : World) (s : State) (actor : Actor) (next : Option (List Act)) → AreFew s.core → AreFew (step_by w s actor next).core
by_few w s actor None h = h
by_few w s actor (Some acts) h = acts_few w.job actor (birth_after s.trace acts) s acts h

pub step_few : (w : World) (s : State) (actor : Actor) → AreFew s.core → AreFew (step w s actor).core
step_few w s actor h = by_few w s actor (next_acts w s actor) h

run_few : (w : World) (s : State) (schedule : List Actor) → AreFew s.core → AreFew (run_from w s schedule).core
run_few w s [] h = h
run_few w s (actor ∷ schedule) h = run_few w (step w s actor) schedule (step_few w s actor h)

pub opening_few : (job : Job) → AreFew (opening job).core
unfolding opening
opening_few job = omega arith

pub few_threads : FewThreads
few_threads w schedule = run_few w (opening w.job) schedule (opening_few w.job)
