-- What each step keeps: frames have code, and the trace holds bytes.
use Rattle.class_code.specs.declared.instr.Instr.{Instr}
use Rattle.instruction_effect.proofs.FittingForms.{AllFit, Fits, IsBodied}
use Rattle.link_versions.specs.Classes.{Class}
use Rattle.machine_state.proofs.QuietRecords.{IsQuiet}
use Rattle.machine_state.specs.Acts.{Act, Change, Changes, MakesThread, Notes, Pops, Pushes, PushesInit, SetsActivity, SetsState, SetsTop, State, acted, born_at, changed, going_on, new_thread, raises, with_born}
use Rattle.machine_state.specs.Bytes.{AllHoldBytes, HoldsBytes}
use Rattle.machine_state.specs.Core.{CoreClass, Core, MethodFrame, StackFrame, Thread, is_of_classes, most_threads}
use Rattle.machine_state.specs.FrameCode.{code}
use Rattle.machine_state.specs.Laws.{IsBorn}
use Rattle.machine_state.specs.Trace.{Entry, Event, Raised, Record, Trace}
use Rattle.machine_steps.proofs.ChangedThreads.{with_each}
use Rattle.machine_steps.proofs.FittingSteps.{append_all}
use Rattle.machine_steps.specs.Laws.{AreBorn, WasBorn}
use Rattle.machine_steps.specs.Reachable.{FitsCall}
use Rattle.machine_steps.specs.Replay.{state, step}
use Rattle.machine_steps.specs.World.{World}
use Rattle.class_code.specs.declared.instr.Instr.{Instr}
use Rattle.std.proofs.Common.{append-nil, append_assoc, Bool, List, Option, [], cond, drop, false, length, refl, subst, sym, true, ℕ, ◌++◌, ◌∙◌, ◌∷◌, ◌≡◌}
use Rattle.std.specs.List.{AllByRecursion}
use Rattle.std.specs.Prelude.{IsSome, fold, nat_le}
use Rattle.thread_frames.specs.declared.frame.StackEntry.TheVariants.{Init, Java}
use Rattle.ti_ids.specs.declared.actor.Actor.{Actor}
use Rattle.ti_ids.specs.declared.number.ObjNo.{ObjNo}

-- ---- a frame that was there

-- by a trace and classes
abbrev pub Coded : World → Trace → List CoreClass → StackFrame → Type 0
Coded w trace classes (Java f) = IsSome (code w.job w.turns trace classes f)
Coded w trace classes (Init class) = Unit {0}

abbrev pub FramesCoded : World → Trace → List CoreClass → List StackFrame → Type 0
FramesCoded w trace classes frames = AllByRecursion (Coded w trace classes) frames

abbrev pub ThreadsCoded : World → Trace → List CoreClass → List Thread → Type 0
ThreadsCoded w trace classes threads = AllByRecursion (λ t. FramesCoded w trace classes t.frames) threads

module _ (w : World) (s : State) (after : State) (stays : (f : MethodFrame) → IsBorn s.trace s.core.classes f
    → code w.job w.turns after.trace after.core.classes f ≡ code w.job w.turns s.trace s.core.classes f) where
  pub frames_stay : (frames : List StackFrame) → AllByRecursion (WasBorn s.trace s.core.classes) frames → FramesCoded w s.trace s.core.classes frames
      → FramesCoded w after.trace after.core.classes frames
  frames_stay [] born coded = tt
  frames_stay (Java f ∷ frames) born coded =
      (subst (λ (o : Option (List (ℕ × Instr))). IsSome o) (sym (stays f born.0)) coded.0, frames_stay frames born.1 coded.1)
  frames_stay (Init class ∷ frames) born coded = (tt, frames_stay frames born.1 coded.1)

  pub threads_stay : (threads : List Thread) → AreBorn s.trace s.core.classes threads → ThreadsCoded w s.trace s.core.classes threads
      → ThreadsCoded w after.trace after.core.classes threads
  threads_stay [] born coded = tt
  threads_stay (t ∷ threads) born coded = (frames_stay t.frames born.0 coded.0, threads_stay threads born.1 coded.1)

-- ---- one change, where this trace and these classes are those after the step

module _ (w : World) (trace : Trace) (classes : List CoreClass) (birth : ℕ) where
  abbrev pub Each : List Thread → Type 0
  Each threads = ThreadsCoded w trace classes threads

  -- a frame that is pushed has code then
  abbrev pub IsFine : Act → Type 0
  IsFine (Changes (Pushes t f)) = IsSome (code w.job w.turns trace classes (born_at birth f))
  IsFine (Changes c) = Unit {0}
  IsFine (Notes what) = Unit {0}

  going_coded : (f : MethodFrame) (frames : List StackFrame) → FramesCoded w trace classes frames → FramesCoded w trace classes (going_on f frames)
  going_coded f [] h = tt
  going_coded f (Java g ∷ below) h = (h.0, h.1)
  going_coded f (Init class ∷ below) h = h

  popped_coded : (frames : List StackFrame) → FramesCoded w trace classes frames → FramesCoded w trace classes (drop 1 frames)
  popped_coded [] h = tt
  popped_coded (f ∷ below) h = h.1

  pushed_coded : (f : MethodFrame) (frames : List StackFrame) (there : Bool) → IsSome (code w.job w.turns trace classes (born_at birth f))
      → FramesCoded w trace classes frames → FramesCoded w trace classes (cond there (Java (born_at birth f) ∷ frames) frames)
  pushed_coded f frames true is h = (is, h)
  pushed_coded f frames false is h = h

  made_coded : (object : ObjNo) (threads : List Thread) (full : Bool) → Each threads → Each (cond full threads (threads ++ new_thread object ∷ []))
  made_coded object threads true h = h
  made_coded object threads false h = append_all (λ t. FramesCoded w trace classes t.frames) threads (new_thread object ∷ []) h (tt, tt)

  abbrev One : Thread → Type 0
  One t = FramesCoded w trace classes t.frames

  change_coded : (c : Change) (core : Core) → IsFine (Changes c) → Each core.threads → Each (changed birth c core).threads
  change_coded (SetsTop t frame) core fine h =
      with_each One core t (λ u. record u { frames = going_on frame u.frames }) (λ u k. going_coded frame u.frames k) h
  change_coded (Pops t) core fine h = with_each One core t (λ u. record u { frames = drop 1 u.frames }) (λ u k. popped_coded u.frames k) h
  change_coded (Pushes t frame) core fine h =
      with_each One core t (λ u. record u { frames = with_born birth core.classes frame u.frames })
      (λ u k. pushed_coded frame u.frames (is_of_classes core.classes frame) fine k) h
  change_coded (PushesInit t class) core fine h = with_each One core t (λ u. record u { frames = Init class ∷ u.frames }) (λ u k. (tt, k)) h
  change_coded (SetsState t state) core fine h = with_each One core t (λ u. record u { state = state }) (λ u k. k) h
  change_coded (SetsActivity t activity) core fine h = with_each One core t (λ u. record u { activity = activity }) (λ u k. k) h
  change_coded (MakesThread object) core fine h = made_coded object core.threads (nat_le most_threads (length core.threads)) h
  change_coded c core fine h = h

  act_coded : (actor : Actor) (s : State) (a : Act) → IsFine a → Each s.core.threads → Each (acted w.job actor birth s a).core.threads
  act_coded actor s (Changes c) fine h = change_coded c s.core fine h
  act_coded actor s (Notes what) fine h = h

  pub acts_coded : (actor : Actor) (s : State) (acts : List Act) → AllByRecursion IsFine acts → Each s.core.threads
      → Each (fold (acted w.job actor birth) s acts).core.threads
  acts_coded actor s [] fine h = h
  acts_coded actor s (a ∷ acts) fine h =
      acts_coded actor (acted w.job actor birth s a) acts fine.1 (act_coded actor s a fine.0 h)

  call_fine : (a : Act) → FitsCall a → IsFine a
  call_fine (Changes (Pushes t f)) h = absurd h
  call_fine (Changes c) h = tt
  call_fine (Notes what) h = tt

  pub calls_fine : (acts : List Act) → AllByRecursion FitsCall acts → AllByRecursion IsFine acts
  calls_fine [] h = tt
  calls_fine (a ∷ acts) h = (call_fine a h.0, calls_fine acts h.1)

  -- where a frame of a method with a body has code then
  module _ (now : List Class) (coded : (f : MethodFrame) → IsBodied now f → IsSome (code w.job w.turns trace classes (born_at birth f))) where
    event_fine : (a : Act) → Fits now a → IsFine a
    event_fine (Changes (Pushes t f)) h = coded f h
    event_fine (Changes c) h = tt
    event_fine (Notes what) h = tt

    pub events_fine : (acts : List Act) → AllFit now acts → AllByRecursion IsFine acts
    events_fine [] h = tt
    events_fine (a ∷ acts) h = (event_fine a h.0, events_fine acts h.1)

-- ---- what acts put into the trace

module _ (w : World) (actor : Actor) (birth : ℕ) where
  abbrev pub done : State → List Act → State
  done s acts = fold (acted w.job actor birth) s acts

  -- a trace goes on by records that make no version
  pub record GoesQuietly (s after : State) : Type 0 where
    pub more : Trace
    pub grown : after.trace ≡ s.trace ++ more
    pub quiet : AllByRecursion IsQuiet more

  quiet_more : (s : State) (e : Event) (after : State) → GoesQuietly (acted w.job actor birth s (raises e)) after → GoesQuietly s after
  quiet_more s e after g =
      let entry : Entry = record { step = s.steps; actor = actor; what = Raised e } in
      record { more = entry ∷ g.more; grown = g.grown ∙ append_assoc s.trace (entry ∷ []) g.more; quiet = (λ class. refl, g.quiet) }

  pub quiet_acts : (now : List Class) (s : State) (acts : List Act) → AllFit now acts → GoesQuietly s (done s acts)
  quiet_acts now s [] h = record { more = []; grown = sym (append-nil s.trace); quiet = tt }
  quiet_acts now s (Changes c ∷ acts) h =
      let g = quiet_acts now (acted w.job actor birth s (Changes c)) acts h.1 in record { more = g.more; grown = g.grown; quiet = g.quiet }
  quiet_acts now s (Notes (Raised e) ∷ acts) h = quiet_more s e (done s (raises e ∷ acts)) (quiet_acts now (acted w.job actor birth s (raises e)) acts h.1)
  quiet_acts now s (Notes _ ∷ acts) h = absurd h.0

  pub held_calls : (s : State) (acts : List Act) → AllByRecursion FitsCall acts → AllHoldBytes s.trace → AllHoldBytes (done s acts).trace
  held_calls s [] h k = k
  held_calls s (Changes c ∷ acts) h k = held_calls (acted w.job actor birth s (Changes c)) acts h.1 k
  held_calls s (Notes what ∷ acts) h k =
      held_calls (acted w.job actor birth s (Notes what)) acts h.1 (append_all (λ e. HoldsBytes e.what) s.trace _ k (holding s what h.0))
    where
      holding : (s : State) (what : Record) → HoldsBytes what → AllHoldBytes (record { step = s.steps; actor = actor; what = what } ∷ [])
      holding s what h = (h, tt)

  pub held_events : (now : List Class) (s : State) (acts : List Act) → AllFit now acts → AllHoldBytes s.trace → AllHoldBytes (done s acts).trace
  held_events now s [] h k = k
  held_events now s (Changes c ∷ acts) h k = held_events now (acted w.job actor birth s (Changes c)) acts h.1 k
  held_events now s (Notes (Raised e) ∷ acts) h k =
      let entry : Entry = record { step = s.steps; actor = actor; what = Raised e } in
      held_events now (acted w.job actor birth s (raises e)) acts h.1 (append_all (λ e. HoldsBytes e.what) s.trace (entry ∷ []) k (tt, tt))
  held_events now s (Notes _ ∷ acts) h k = absurd h.0
