-- The object whose monitor a frame entered is there for as long as the frame is: each act keeps it so, and births are no part of it.
use Rattle.std.proofs.Common.{◌≡◌, ◌≤◌, Bool, true, false, cond, List, [], ◌∷◌, ◌++◌, drop, length, map, subst}
use Rattle.std.specs.Prelude.{IfSome, nat_le}
use Rattle.std.specs.List.{AllByRecursion}
use Rattle.ti_ids.specs.declared.number.ObjNo.{ObjNo}
use Rattle.java_heap.specs.Heaps.{HeapValue, IsThere}
use Rattle.java_heap.proofs.References.{side_more}
use Rattle.thread_frames.specs.declared.frame.StackEntry.TheVariants.{Java, Init}
use Rattle.machine_state.specs.Births.{unborn, unborn_frame, unborn_thread}
use Rattle.machine_state.specs.Core.{Core, MethodFrame, StackFrame, Thread, is_of_classes, most_threads}
use Rattle.machine_state.specs.Acts.{Act, Change, Changes, MakesThread, Notes, Pops, Pushes, PushesInit, SetsActivity, SetsState, SetsTop, born_at, changed, going_on, new_thread, with_born}
use Rattle.instruction_effect.proofs.ActRules.{behind}
use Rattle.instruction_effect.proofs.FollowingForms.{all_both, all_held}
use Rattle.machine_steps.proofs.ChangedThreads.{with_each}
use Rattle.machine_steps.proofs.HeapActs.{KeepsHeap, as_many_objects}
use Rattle.machine_steps.proofs.StepRules.{seen}

module _ (heap : HeapValue) where
  abbrev pub PinThere : StackFrame → Type 0
  PinThere (Java f) = IfSome f.pin.monitor (IsThere heap)
  PinThere (Init class) = Unit {0}

  abbrev pub ArePinned : Thread → Type 0
  ArePinned thread = AllByRecursion PinThere thread.frames

  abbrev pub AllPinned : List Thread → Type 0
  AllPinned threads = AllByRecursion ArePinned threads

  -- ---- one change

  abbrev PinsThere : Change → Type 0
  PinsThere (Pushes t f) = IfSome f.pin.monitor (IsThere heap)
  PinsThere c = Unit {0}

  going_pinned : (f : MethodFrame) (frames : List StackFrame) → AllByRecursion PinThere frames → AllByRecursion PinThere (going_on f frames)
  going_pinned f [] h = tt
  going_pinned f (Java g ∷ below) h = (h.0, h.1)
  going_pinned f (Init class ∷ below) h = h

  popped_pinned : (frames : List StackFrame) → AllByRecursion PinThere frames → AllByRecursion PinThere (drop 1 frames)
  popped_pinned [] h = tt
  popped_pinned (f ∷ below) h = h.1

  pushed_pinned : (f : MethodFrame) (frames : List StackFrame) (there : Bool) → IfSome f.pin.monitor (IsThere heap) → AllByRecursion PinThere frames
      → AllByRecursion PinThere (cond there (Java (born_at 0 f) ∷ frames) frames)
  pushed_pinned f frames true ok h = (ok, h)
  pushed_pinned f frames false ok h = h

  made_pinned : (o : ObjNo) (threads : List Thread) (full : Bool) → AllPinned threads → AllPinned (cond full threads (threads ++ new_thread o ∷ []))
  made_pinned o threads true h = h
  made_pinned o threads false h = all_both ArePinned threads (new_thread o ∷ []) h (tt, tt)

  change_pinned : (c : Change) (core : Core) → PinsThere c → AllPinned core.threads → AllPinned (changed 0 c core).threads
  change_pinned (SetsTop t f) core ok h =
      with_each ArePinned core t (λ u. record u { frames = going_on f u.frames }) (λ u k. going_pinned f u.frames k) h
  change_pinned (Pops t) core ok h = with_each ArePinned core t (λ u. record u { frames = drop 1 u.frames }) (λ u k. popped_pinned u.frames k) h
  change_pinned (Pushes t f) core ok h =
      with_each ArePinned core t (λ u. record u { frames = with_born 0 core.classes f u.frames })
      (λ u k. pushed_pinned f u.frames (is_of_classes core.classes f) ok k) h
  change_pinned (PushesInit t class) core ok h = with_each ArePinned core t (λ u. record u { frames = Init class ∷ u.frames }) (λ u k. (tt, k)) h
  change_pinned (SetsState t state) core ok h = with_each ArePinned core t (λ u. record u { state = state }) (λ u k. k) h
  change_pinned (SetsActivity t activity) core ok h = with_each ArePinned core t (λ u. record u { activity = activity }) (λ u k. k) h
  change_pinned (MakesThread o) core ok h = made_pinned o core.threads (nat_le most_threads (length core.threads)) h
  change_pinned c core ok h = h

  -- ---- births

  unborn_frames : (frames : List StackFrame) → AllByRecursion PinThere frames → AllByRecursion PinThere (map unborn_frame frames)
  unborn_frames [] h = tt
  unborn_frames (Java f ∷ below) h = (h.0, unborn_frames below h.1)
  unborn_frames (Init class ∷ below) h = (tt, unborn_frames below h.1)

  born_frames : (frames : List StackFrame) → AllByRecursion PinThere (map unborn_frame frames) → AllByRecursion PinThere frames
  born_frames [] h = tt
  born_frames (Java f ∷ below) h = (h.0, born_frames below h.1)
  born_frames (Init class ∷ below) h = (tt, born_frames below h.1)

  unborn_pinned : (threads : List Thread) → AllPinned threads → AllPinned (map unborn_thread threads)
  unborn_pinned [] h = tt
  unborn_pinned (t ∷ threads) h = (unborn_frames t.frames h.0, unborn_pinned threads h.1)

  born_pinned : (threads : List Thread) → AllPinned (map unborn_thread threads) → AllPinned threads
  born_pinned [] h = tt
  born_pinned (t ∷ threads) h = (born_frames t.frames h.0, born_pinned threads h.1)

-- ---- cores

pinned_later : (old new : HeapValue) → length old.objects ≤ length new.objects → (f : StackFrame) → PinThere old f → PinThere new f
pinned_later old new more (Java f) h = side_more old new more f.pin.monitor h
pinned_later old new more (Init class) h = tt

keeps_pins : (now : Core) (c : Change) → KeepsHeap now (Changes c) → PinsThere (changed 0 c now).heap c
keeps_pins now (Pushes t f) ok = ok.1
keeps_pins now c ok = tt

pub pins_stay : (now : Core) (a : Act) → KeepsHeap now a → AllPinned now.heap now.threads → AllPinned (behind now a).heap (behind now a).threads
pins_stay now (Notes what) ok h = h
pins_stay now (Changes c) ok h =
    let next = (changed 0 c now).heap in
    let later = pinned_later now.heap next (as_many_objects now (Changes c)) in
    change_pinned next c now (keeps_pins now c ok)
    (all_held (ArePinned now.heap) (ArePinned next) now.threads (λ t k. all_held (PinThere now.heap) (PinThere next) t.frames later k) h)

pub pins_alike : (a b : Core) → unborn (seen a) ≡ unborn (seen b) → AllPinned a.heap a.threads → AllPinned b.heap b.threads
pins_alike a b same h =
    born_pinned b.heap b.threads (subst (λ (c : Core). AllPinned c.heap c.threads) same (unborn_pinned a.heap a.threads h))
