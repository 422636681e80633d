-- The core after acts is the same with any birth, but for births.
use Rattle.std.proofs.Common.{◌≡◌, ◌∙◌, ℕ, zero, suc, ◌-◌, Bool, true, false, cond, List, [], ◌∷◌, ◌++◌, map, length, Option, Some, None, refl, sym, ap}
use Rattle.std.specs.Prelude.{slice_get, slice_set, drop, nat_le, option_map}
use Rattle.std.specs.Option.{option_map_or}
use Rattle.ti_ids.specs.declared.number.ThreadNo.{ThreadNo}
use Rattle.ti_ids.specs.declared.number.ObjNo.{ObjNo}
use Rattle.thread_frames.specs.declared.frame.StackEntry.TheVariants.{Java, Init}
use Rattle.machine_state.specs.Jobs.{at_number}
use Rattle.machine_state.specs.Core.{Core, MethodFrame, StackFrame, Thread, is_of_classes, most_threads, with_thread}
use Rattle.machine_state.specs.Acts.{Act, Changes, Notes, Change, SetsTop, Pops, Pushes, PushesInit, SetsState, SetsActivity, MakesThread, going_on, born_at, with_born, new_thread, changed, core_after}
use Rattle.machine_state.specs.Births.{unborn_frame, unborn_thread, unborn, BirthsApart}

-- ---- frames

abbrev frames_unborn : List StackFrame → List StackFrame
frames_unborn frames = map unborn_frame frames

going_unborn : (f : MethodFrame) (frames : List StackFrame) → frames_unborn (going_on f frames) ≡ going_on f (frames_unborn frames)
going_unborn f [] = refl
going_unborn f (Java g ∷ below) = refl
going_unborn f (Init class ∷ below) = refl

popped_unborn : (frames : List StackFrame) → frames_unborn (drop 1 frames) ≡ drop 1 (frames_unborn frames)
popped_unborn [] = refl
popped_unborn (f ∷ below) = refl

pushed_unborn : (birth : ℕ) (f : MethodFrame) (frames : List StackFrame) (there : Bool)
    → frames_unborn (cond there (Java (born_at birth f) ∷ frames) frames) ≡ cond there (Java (born_at 0 f) ∷ frames_unborn frames) (frames_unborn frames)
pushed_unborn birth f frames true = refl
pushed_unborn birth f frames false = refl

-- ---- threads

-- a change of a thread is this other one, births put aside
abbrev IsSo : (Thread → Thread) → (Thread → Thread) → Type 0
IsSo change so = (u : Thread) → unborn_thread (change u) ≡ so (unborn_thread u)

abbrev threads_unborn : List Thread → List Thread
threads_unborn threads = map unborn_thread threads

get_unborn : (threads : List Thread) (k : ℕ) → slice_get (threads_unborn threads) k ≡ option_map unborn_thread (slice_get threads k)
get_unborn [] k = refl
get_unborn (t ∷ threads) zero = refl
get_unborn (t ∷ threads) (suc k) = get_unborn threads k

counted_unborn : (threads : List Thread) (n : ℕ) → at_number (threads_unborn threads) n ≡ option_map unborn_thread (at_number threads n)
counted_unborn threads zero = refl
counted_unborn threads (suc k) = get_unborn threads k

set_unborn : (threads : List Thread) (k : ℕ) (u : Thread) → threads_unborn (slice_set threads k u) ≡ slice_set (threads_unborn threads) k (unborn_thread u)
set_unborn [] k u = refl
set_unborn (t ∷ threads) zero u = refl
set_unborn (t ∷ threads) (suc k) u = ap (λ (l : List Thread). unborn_thread t ∷ l) (set_unborn threads k u)

-- the threads where the one that was found at a place is changed so
abbrev put : List Thread → ℕ → (Thread → Thread) → Option Thread → List Thread
put threads k change found = option_map_or (λ u. slice_set threads k (change u)) found threads

put_unborn : (threads : List Thread) (k : ℕ) (change so : Thread → Thread) (found : Option Thread) → IsSo change so
    → threads_unborn (put threads k change found) ≡ put (threads_unborn threads) k so (option_map unborn_thread found)
put_unborn threads k change so None is = refl
put_unborn threads k change so (Some u) is =
    set_unborn threads k (change u) ∙ ap (λ (v : Thread). slice_set (threads_unborn threads) k v) (is u)

with_unborn : (core : Core) (t : ThreadNo) (change so : Thread → Thread) → IsSo change so → unborn (with_thread change t core) ≡ with_thread so t (unborn core)
with_unborn core t change so is =
    ap (λ (l : List Thread). (let c : Core = record core { threads = l } in c))
    (put_unborn core.threads (t.0 - 1) change so (at_number core.threads t.0) is
    ∙ ap (λ (found : Option Thread). put (threads_unborn core.threads) (t.0 - 1) so found) (sym (counted_unborn core.threads t.0)))

-- with other frames
abbrev framed : (List StackFrame → List StackFrame) → Thread → Thread
framed change u = record u { frames = change u.frames }

framed_so : (change so : List StackFrame → List StackFrame) → ((frames : List StackFrame) → frames_unborn (change frames) ≡ so (frames_unborn frames))
    → IsSo (framed change) (framed so)
framed_so change so is u = ap (λ (l : List StackFrame). (let v : Thread = record u { frames = l } in v)) (is u.frames)

as_many : (threads : List Thread) → length (threads_unborn threads) ≡ length threads
as_many [] = refl
as_many (t ∷ threads) = ap (λ (n : ℕ). suc n) (as_many threads)

last_unborn : (threads : List Thread) (t : Thread) → threads_unborn (threads ++ t ∷ []) ≡ threads_unborn threads ++ unborn_thread t ∷ []
last_unborn [] t = refl
last_unborn (u ∷ threads) t = ap (λ (l : List Thread). unborn_thread u ∷ l) (last_unborn threads t)

made_unborn : (object : ObjNo) (threads : List Thread) (full : Bool)
    → threads_unborn (cond full threads (threads ++ new_thread object ∷ []))
    ≡ cond full (threads_unborn threads) (threads_unborn threads ++ new_thread object ∷ [])
made_unborn object threads true = refl
made_unborn object threads false = last_unborn threads (new_thread object)

-- ---- changes and acts

change_unborn : (birth : ℕ) (c : Change) (core : Core) → unborn (changed birth c core) ≡ changed 0 c (unborn core)
change_unborn birth (SetsTop t f) core =
    with_unborn core t (framed (going_on f)) (framed (going_on f)) (framed_so (going_on f) (going_on f) (going_unborn f))
change_unborn birth (Pops t) core =
    with_unborn core t (framed (drop 1)) (framed (drop 1)) (framed_so (drop 1) (drop 1) popped_unborn)
change_unborn birth (Pushes t f) core =
    let born : ℕ → List StackFrame → List StackFrame = λ n frames. with_born n core.classes f frames in
    with_unborn core t (framed (born birth)) (framed (born 0))
    (framed_so (born birth) (born 0) (λ frames. pushed_unborn birth f frames (is_of_classes core.classes f)))
change_unborn birth (PushesInit t class) core =
    let on : List StackFrame → List StackFrame = λ frames. Init class ∷ frames in
    with_unborn core t (framed on) (framed on) (framed_so on on (λ frames. refl))
change_unborn birth (SetsState t state) core = with_unborn core t _ (λ u. record u { state = state }) (λ u. refl)
change_unborn birth (SetsActivity t activity) core = with_unborn core t _ (λ u. record u { activity = activity }) (λ u. refl)
change_unborn birth (MakesThread object) core =
    ap (λ (l : List Thread). (let c : Core = record core { threads = l } in c))
    (made_unborn object core.threads (nat_le most_threads (length core.threads))
    ∙ ap (λ (n : ℕ). cond (nat_le most_threads n) (threads_unborn core.threads) (threads_unborn core.threads ++ new_thread object ∷ []))
    (sym (as_many core.threads)))
change_unborn birth c core = refl

after_unborn : (birth : ℕ) (core : Core) (acts : List Act) → unborn (core_after birth core acts) ≡ core_after 0 (unborn core) acts
after_unborn birth core [] = refl
after_unborn birth core (Changes c ∷ acts) =
    after_unborn birth (changed birth c core) acts ∙ ap (λ (k : Core). core_after 0 k acts) (change_unborn birth c core)
after_unborn birth core (Notes what ∷ acts) = after_unborn birth core acts

pub births_apart : BirthsApart
births_apart birth other core acts = after_unborn birth core acts ∙ sym (after_unborn other core acts)
