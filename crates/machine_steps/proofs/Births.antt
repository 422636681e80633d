-- Every frame was born by now, of classes that are there.
use Rattle.std.proofs.Common.{◌≡◌, ◌≤◌, ◌<◌, ℕ, suc, ◌+◌, ◌-◌, Bool, true, false, cond, List, [], ◌∷◌, ◌++◌, length, length-append, Option, Some, None, refl, sym, subst, arith}
use Rattle.jv_names.proofs.DescriptorPlaces.{and-left, and-right}
use Rattle.std.specs.Prelude.{fold, filter, drop, nat_le}
use Rattle.std.specs.List.{AllByRecursion}
use Rattle.std.proofs.lemmas.Bool.{leb-true}
use Rattle.std.proofs.lemmas.Bool.Decides.{nat_tests}
use Rattle.ti_ids.specs.declared.number.ThreadNo.{ThreadNo}
use Rattle.ti_ids.specs.declared.number.ClassNo.{ClassNo}
use Rattle.ti_ids.specs.declared.number.ObjNo.{ObjNo}
use Rattle.ti_ids.specs.declared.actor.Actor.{Actor}
use Rattle.thread_frames.specs.declared.frame.StackEntry.TheVariants.{Java, Init}
use Rattle.machine_state.specs.Jobs.{Job}
use Rattle.machine_state.specs.Core.{Core, CoreClass, MethodFrame, StackFrame, Thread, has_class, is_of_classes, most_threads, with_thread}
use Rattle.machine_state.specs.Trace.{Trace}
use Rattle.link_versions.specs.Classes.{with_numbered}
use Rattle.machine_state.specs.Acts.{State, Act, Change, Changes, Notes, Makes, PutsField, PutsElement, PutsSide, PutsBehind, PutsStatic, Enters, Leaves, GoesToWait, Notifies, NotifiesAll, TakesBack, Prints, SetsTop, Pops, Pushes, PushesInit, SetsState, SetsActivity, MakesThread, AddsClass, SetsClass, EntersInitializer, Fails, SetsPhase, MarksDeath, TakesCall, TakesScript, new_thread, is_barred, changed, acted, going_on, born_at, with_born, is_note, birth_after}
use Rattle.machine_steps.proofs.ChangedThreads.{with_each}
use Rattle.machine_steps.specs.World.{World}
use Rattle.machine_steps.specs.Actors.{next_acts}
use Rattle.machine_steps.specs.Replay.{opening, step, step_by, run_from, state}
use Rattle.machine_steps.specs.Laws.{WasBorn, AreBorn, FramesAreBorn}

-- ---- what holds of a frame: its birth is at most this, and of so many classes there are its own

pub record IsOldFrame (n c : ℕ) (f : MethodFrame) : Type 0 where
  pub birth : f.pin.birth ≤ n
  pub class : (0 < f.class.0) × (f.class.0 ≤ c)
  pub method : (0 < f.method.class.0) × (f.method.class.0 ≤ c)

abbrev pub IsOld : ℕ → ℕ → StackFrame → Type 0
IsOld n c (Java f) = IsOldFrame n c f
IsOld n c (Init class) = Unit {0}

abbrev pub OldFrames : ℕ → ℕ → List StackFrame → Type 0
OldFrames n c frames = AllByRecursion (IsOld n c) frames

abbrev pub OldThread : ℕ → ℕ → Thread → Type 0
OldThread n c t = OldFrames n c t.frames

abbrev pub AreOld : ℕ → ℕ → List Thread → Type 0
AreOld n c threads = AllByRecursion (OldThread n c) threads

-- ---- frames of one thread

later_frame : (n m c d : ℕ) (f : MethodFrame) → n ≤ m → c ≤ d → IsOldFrame n c f → IsOldFrame m d f
later_frame n m c d f le more h = record {
  birth = omega (arith, le, h.birth);
  class = (h.class.0, omega (arith, more, h.class.1));
  method = (h.method.0, omega (arith, more, h.method.1));
}

later_frames : (n m c d : ℕ) (frames : List StackFrame) → n ≤ m → c ≤ d → OldFrames n c frames → OldFrames m d frames
later_frames n m c d [] le more h = tt
later_frames n m c d (Java f ∷ below) le more h = (later_frame n m c d f le more h.0, later_frames n m c d below le more h.1)
later_frames n m c d (Init class ∷ below) le more h = (tt, later_frames n m c d below le more h.1)

going_frame : (n c : ℕ) (f g : MethodFrame) → IsOldFrame n c g
    → IsOldFrame n c (record g { pc = f.pc; locals = f.locals; stack = f.stack; announced = f.announced })
going_frame n c f g h = record { birth = h.birth; class = h.class; method = h.method }

going_old : (n c : ℕ) (f : MethodFrame) (frames : List StackFrame) → OldFrames n c frames → OldFrames n c (going_on f frames)
going_old n c f [] h = tt
going_old n c f (Java g ∷ below) h = (going_frame n c f g h.0, h.1)
going_old n c f (Init class ∷ below) h = h

popped_old : (n c : ℕ) (frames : List StackFrame) → OldFrames n c frames → OldFrames n c (drop 1 frames)
popped_old n c [] h = tt
popped_old n c (f ∷ below) h = h.1

class_there : (classes : List CoreClass) (class : ClassNo) → has_class classes class ≡ true → (0 < class.0) × (class.0 ≤ length classes)
class_there classes class e =
    let some = leb-true 1 class.0 (and-left (nat_le 1 class.0) (nat_le class.0 (length classes)) e) in
    (omega (arith, some), leb-true class.0 (length classes) (and-right (nat_le 1 class.0) (nat_le class.0 (length classes)) e))

born_old : (n : ℕ) (classes : List CoreClass) (f : MethodFrame) → is_of_classes classes f ≡ true → IsOldFrame n (length classes) (born_at n f)
born_old n classes f e = record {
  birth = omega arith;
  class = class_there classes f.class (and-left (has_class classes f.class) (has_class classes f.method.class) e);
  method = class_there classes f.method.class (and-right (has_class classes f.class) (has_class classes f.method.class) e);
}

pushed_by : (n : ℕ) (classes : List CoreClass) (f : MethodFrame) (frames : List StackFrame) (b : Bool) → is_of_classes classes f ≡ b
    → OldFrames n (length classes) frames
    → OldFrames n (length classes) (cond b (Java (born_at n f) ∷ frames) frames)
pushed_by n classes f frames true e h = (born_old n classes f e, h)
pushed_by n classes f frames false e h = h

pushed_old : (n : ℕ) (classes : List CoreClass) (f : MethodFrame) (frames : List StackFrame) → OldFrames n (length classes) frames
    → OldFrames n (length classes) (with_born n classes f frames)
pushed_old n classes f frames h = pushed_by n classes f frames (is_of_classes classes f) refl h

-- ---- all threads

later_threads : (n m c d : ℕ) (threads : List Thread) → n ≤ m → c ≤ d → AreOld n c threads → AreOld m d threads
later_threads n m c d [] le more h = tt
later_threads n m c d (t ∷ threads) le more h = (later_frames n m c d t.frames le more h.0, later_threads n m c d threads le more h.1)

with_old : (n c : ℕ) (core : Core) (t : ThreadNo) (change : Thread → Thread) → ((u : Thread) → OldThread n c u → OldThread n c (change u))
    → AreOld n c core.threads
    → AreOld n c (with_thread change t core).threads
with_old n c core t change keep h = with_each (OldThread n c) core t change keep h

append_old : (n c : ℕ) (threads : List Thread) (t : Thread) → OldThread n c t → AreOld n c threads → AreOld n c (threads ++ t ∷ [])
append_old n c [] t one h = (one, tt)
append_old n c (u ∷ threads) t one h = (h.0, append_old n c threads t one h.1)

made_old : (n c : ℕ) (object : ObjNo) (threads : List Thread) (full : Bool) → AreOld n c threads
    → AreOld n c (cond full threads (threads ++ new_thread object ∷ []))
made_old n c object threads true h = h
made_old n c object threads false h = append_old n c threads (new_thread object) tt h

-- ---- one change, with births up to this

abbrev pub IsOldCore : ℕ → Core → Type 0
IsOldCore n core = AreOld n (length core.classes) core.threads

numbered_length : (change : CoreClass → CoreClass) (classes : List CoreClass) (k : ℕ) → length (with_numbered change classes k) ≡ length classes
numbered_length change [] k = refl
numbered_length change (c ∷ older) k = grind (arith, nat_tests, numbered_length change older k)

as_many : (n : ℕ) (change : CoreClass → CoreClass) (core : Core) (k : ℕ) → IsOldCore n core
    → AreOld n (length (with_numbered change core.classes k)) core.threads
as_many n change core k h = subst (λ (c : ℕ). AreOld n c core.threads) (sym (numbered_length change core.classes k)) h

one_more : (n : ℕ) (core : Core) (there : Bool) (c : CoreClass) → IsOldCore n core
    → AreOld n (length (cond there core.classes (c ∷ core.classes))) core.threads
one_more n core true c h = h
one_more n core false c h = later_threads n n (length core.classes) (suc (length core.classes)) core.threads (omega arith) (omega arith) h

change_old : (birth : ℕ) (c : Change) (core : Core) → IsOldCore birth core → IsOldCore birth (changed birth c core)
change_old birth (SetsTop t frame) core h =
    with_old birth (length core.classes) core t (λ u. record u { frames = going_on frame u.frames })
    (λ u k. going_old birth (length core.classes) frame u.frames k) h
change_old birth (Pops t) core h =
    with_old birth (length core.classes) core t (λ u. record u { frames = drop 1 u.frames })
    (λ u k. popped_old birth (length core.classes) u.frames k) h
change_old birth (Pushes t frame) core h =
    with_old birth (length core.classes) core t (λ u. record u { frames = with_born birth core.classes frame u.frames })
    (λ u k. pushed_old birth core.classes frame u.frames k) h
change_old birth (PushesInit t class) core h = with_old birth (length core.classes) core t _ (λ u k. (tt, k)) h
change_old birth (SetsState t state) core h = with_old birth (length core.classes) core t (λ u. record u { state = state }) (λ u k. k) h
change_old birth (SetsActivity t activity) core h = with_old birth (length core.classes) core t (λ u. record u { activity = activity }) (λ u k. k) h
change_old birth (MakesThread object) core h = made_old birth (length core.classes) object core.threads (nat_le most_threads (length core.threads)) h
change_old birth (AddsClass name state) core h = one_more birth core (is_barred core name) _ h
change_old birth (SetsClass class state) core h = as_many birth _ core class.0 h
change_old birth (EntersInitializer class) core h = as_many birth _ core class.0 h
change_old birth (Makes object) core h = h
change_old birth (PutsField object place v) core h = h
change_old birth (PutsElement object place v) core h = h
change_old birth (PutsSide object side) core h = h
change_old birth (PutsBehind object units) core h = h
change_old birth (PutsStatic field v) core h = h
change_old birth (Enters object t) core h = h
change_old birth (Leaves object) core h = h
change_old birth (GoesToWait object t) core h = h
change_old birth (Notifies object) core h = h
change_old birth (NotifiesAll object) core h = h
change_old birth (TakesBack object t) core h = h
change_old birth (Prints bytes) core h = h
change_old birth (Fails class error) core h = h
change_old birth (SetsPhase phase) core h = h
change_old birth MarksDeath core h = h
change_old birth (TakesCall actor) core h = h
change_old birth (TakesScript env) core h = h

act_old : (job : Job) (actor : Actor) (birth : ℕ) (s : State) (a : Act) → IsOldCore birth s.core → IsOldCore birth (acted job actor birth s a).core
act_old job actor birth s (Changes c) h = change_old birth c s.core h
act_old job actor birth s (Notes what) h = h

acts_old : (job : Job) (actor : Actor) (birth : ℕ) (s : State) (acts : List Act) → IsOldCore birth s.core
    → IsOldCore birth (fold (acted job actor birth) s acts).core
acts_old job actor birth s [] h = h
acts_old job actor birth s (a ∷ acts) h = acts_old job actor birth (acted job actor birth s a) acts (act_old job actor birth s a h)

-- ---- the trace has the length of the birth when the step has ended

pub grown_length : (job : Job) (actor : Actor) (birth : ℕ) (s : State) (acts : List Act)
    → length (fold (acted job actor birth) s acts).trace ≡ length s.trace + length (filter is_note acts)
grown_length job actor birth s [] = omega arith
grown_length job actor birth s (Changes c ∷ acts) = grown_length job actor birth (acted job actor birth s (Changes c)) acts
grown_length job actor birth s (Notes what ∷ acts) =
    let next = acted job actor birth s (Notes what) in
    let one : length next.trace ≡ length s.trace + 1 = length-append s.trace _ in
    let rest = grown_length job actor birth next acts in omega (arith, one, rest)

-- ---- steps and schedules

abbrev pub IsBornIn : State → Type 0
IsBornIn s = IsOldCore (length s.trace) s.core

pub step_old : (w : World) (s : State) (actor : Actor) (next : Option (List Act)) → IsBornIn s → IsBornIn (step_by w s actor next)
step_old w s actor None h = h
step_old w s actor (Some acts) h =
    let birth = birth_after s.trace acts in
    let many = length s.core.classes in
    let old = acts_old w.job actor birth s acts (later_threads (length s.trace) birth many many s.core.threads (omega arith) (omega arith) h) in
    subst (λ (n : ℕ). IsOldCore n (fold (acted w.job actor birth) s acts).core) (sym (grown_length w.job actor birth s acts)) old

run_old : (w : World) (s : State) (schedule : List Actor) → IsBornIn s → IsBornIn (run_from w s schedule)
run_old w s [] h = h
run_old w s (actor ∷ schedule) h = run_old w (step w s actor) schedule (step_old w s actor (next_acts w s actor) h)

-- ---- as the law says it

frames_born : (trace : Trace) (classes : List CoreClass) (frames : List StackFrame) → OldFrames (length trace) (length classes) frames
    → AllByRecursion (WasBorn trace classes) frames
frames_born trace classes [] h = tt
frames_born trace classes (Java f ∷ below) h =
    (record { birth = h.0.birth; class = h.0.class; method = h.0.method }, frames_born trace classes below h.1)
frames_born trace classes (Init class ∷ below) h = (tt, frames_born trace classes below h.1)

pub threads_born : (trace : Trace) (classes : List CoreClass) (threads : List Thread) → AreOld (length trace) (length classes) threads
    → AreBorn trace classes threads
threads_born trace classes [] h = tt
threads_born trace classes (t ∷ threads) h = (frames_born trace classes t.frames h.0, threads_born trace classes threads h.1)

pub frames_are_born : FramesAreBorn
unfolding opening
frames_are_born w schedule =
    let s = state w schedule in threads_born s.trace s.core.classes s.core.threads (run_old w (opening w.job) schedule tt)
