-- The laws of the steps: what holds of every world, state and schedule.
use Rattle.std.specs.Prelude.{◌≡◌, ◌↔◌, ℕ, ◌+◌, ◌<◌, ◌≤◌, ◌^◌, List, ◌∷◌, ◌++◌, length, map, slice_get, Option, Some, None, Bool, true, false, bytes_eq, codes}
use Rattle.std.specs.List.{AllByRecursion, IsDistinct, list_any}
use Rattle.ti_ids.specs.declared.number.ThreadNo.{ThreadNo}
use Rattle.ti_ids.specs.declared.number.ClassNo.{ClassNo}
use Rattle.ti_ids.specs.declared.actor.Actor.{Actor}
use Rattle.ti_ids.specs.declared.actor.Actor.TheVariants as actors
use Rattle.ti_ids.specs.declared.actor.End.{End}
use Rattle.jv_names.specs.Names.{Name}
use Rattle.link_versions.specs.Classes.{Class, number_of}
use Rattle.report_text.specs.Named.{AllNamed}
use Rattle.report_text.specs.Stated.{stated}
use Rattle.machine_state.specs.Core.{Core, CoreClass, MethodFrame, StackFrame, Thread, failure_of, frames_at, most_threads}
use Rattle.machine_state.specs.Linked.{array_type, tree_of}
use Rattle.thread_frames.specs.declared.frame.StackEntry.TheVariants.{Java, Init}
use Rattle.machine_state.specs.FrameCode.{code}
use Rattle.machine_state.specs.Laws.{IsBorn}
use Rattle.machine_state.specs.Trace.{Entry, Trace}
use Rattle.machine_state.specs.Chains.{rules_do, chain}
use Rattle.transform_chain.specs.Turns.{fold_from}
use Rattle.machine_state.specs.Acts.{State, Act, Changes, TakesCall, TakesScript}
use Rattle.machine_steps.specs.World.{World}
use Rattle.machine_steps.specs.Sites.{classes_now}
use Rattle.machine_steps.specs.Loading.{next_load, Load, Loads, Refuses, bytes_given, is_accepted, load_step}
use Rattle.machine_steps.specs.Ends.{end, is_enabled, IsEnabled}
use Rattle.machine_steps.specs.Calls.{NextCall, performs}
use Rattle.machine_steps.specs.Actors.{next_call, next_acts, is_ready}
use Rattle.machine_steps.specs.Replay.{step, step_by, run_from, state, CanRun}
use Rattle.machine_steps.specs.Picks.{picked}
use Rattle.machine_steps.specs.Reports.{report}
use Rattle.machine_steps.specs.Bounds.{IsBounded}

-- ---- ends

-- After an end no actor is enabled.
abbrev pub NoneAfterEnd : Type 0
NoneAfterEnd = (w : World) (s : State) (e : End) (actor : Actor) → end w s ≡ Some e → is_enabled w s actor ≡ false

-- Where there is no end, a step is left.
abbrev pub HasStepLeft : Type 0
HasStepLeft = (w : World) (s : State) → end w s ≡ None → s.steps < w.job.limits.steps

-- Where there is no end, some actor is enabled.
abbrev pub SomeoneIsEnabled : Type 0
SomeoneIsEnabled = (w : World) (s : State) → end w s ≡ None → (actor : Actor) × IsEnabled w s actor

-- ---- steps

-- A step of an actor that is ready adds one to the number of steps.
abbrev pub CountsOne : Type 0
CountsOne = (w : World) (s : State) (actor : Actor) → is_ready w s actor ≡ true → (step w s actor).steps ≡ s.steps + 1

-- an entry has this step's number and its actor
abbrev pub IsOfStep : State → Actor → Entry → Type 0
IsOfStep s actor e = (e.step ≡ s.steps) × (e.actor ≡ actor)

-- a trace goes on by entries of this step
pub record GrowsBy (s : State) (actor : Actor) (after : State) : Type 0 where
  pub more : List Entry
  pub grown : after.trace ≡ s.trace ++ more
  pub own : AllByRecursion (IsOfStep s actor) more

-- It adds its records to the end of the trace, each with this step's number and its actor.
abbrev pub AddsRecords : Type 0
AddsRecords = (w : World) (s : State) (actor : Actor) → GrowsBy s actor (step w s actor)

-- The next call of an actor, if it has one, is what its next step performs.
abbrev pub PerformsNextCall : Type 0
PerformsNextCall =
    (w : World) (s : State) (actor : Actor) (c : NextCall) → next_call w s actor ≡ Some c → next_acts w s actor ≡ Some (performs w s actor c)

-- an act takes a call from the queue of an actor, or from a script
abbrev pub takes_call : Act → Bool
takes_call (Changes (TakesCall actor)) = true
takes_call (Changes (TakesScript env)) = true
takes_call _ = false

-- Where an actor has no next call, its next step takes none.
abbrev pub TakesNoOtherCall : Type 0
TakesNoOtherCall =
    (w : World) (s : State) (actor : Actor) (acts : List Act) → next_call w s actor ≡ None → next_acts w s actor ≡ Some acts
    → list_any takes_call acts ≡ false

-- ---- what only grows

-- a list goes on
pub record GoesOn {A : Type 0} (before after : List A) : Type 0 where
  pub more : List A
  pub grown : after ≡ before ++ more

abbrev pub OutputGrows : Type 0
OutputGrows = (w : World) (s : State) (actor : Actor) → GoesOn s.core.output (step w s actor).core.output

-- Objects keep their numbers: the classes of those that there were are those of the first objects there are.
abbrev pub classes_of_objects : State → List ClassNo
classes_of_objects s = map (λ o. o.class) s.core.heap.objects

abbrev pub ObjectsStay : Type 0
ObjectsStay = (w : World) (s : State) (actor : Actor) → GoesOn (classes_of_objects s) (classes_of_objects (step w s actor))

-- After every schedule there are no more threads than may be made.
abbrev pub FewThreads : Type 0
FewThreads = (w : World) (schedule : List Actor) → length (state w schedule).core.threads ≤ most_threads

-- ---- classes

-- Only a class that isn't there is loaded, and none whose load has failed.
pub record IsNew (core : Core) (classes : List Class) (name : Name) : Type 0 where
  pub absent : number_of classes name ≡ None
  pub untried : failure_of core name ≡ None

abbrev pub LoadsOnce : Type 0
LoadsOnce =
    (w : World) (core : Core) (classes : List Class) (wanted name : Name) → next_load w core classes wanted ≡ Loads name → IsNew core classes name

-- A class isn't there, and its load has failed with this class of error; an array class has no load.
pub record IsFailed (core : Core) (name error : Name) : Type 0 where
  pub absent : list_any (bytes_eq name) (map (λ c. c.name) core.classes) ≡ false
  pub failed : failure_of core name ≡ Some error
  pub plain : array_type name ≡ None

-- A class whose load has failed stays so after every schedule: it is never loaded, and its error stays.
abbrev pub StaysFailed : Type 0
StaysFailed =
    (w : World) (s : State) (schedule : List Actor) (name error : Name) → IsFailed s.core name error
    → IsFailed (run_from w s schedule).core name error

-- The load of a class comes next where a step needs a class of this name. The step began with the classes that are still there, and it knows
-- them as they were linked then. An array class has no load.
pub record NeedsNow (w : World) (began s : State) (wanted : Name) (load : Load) (name : Name) : Type 0 where
  pub same : s.core.classes ≡ began.core.classes
  pub next : next_load w s.core (classes_now w began) wanted ≡ load
  pub plain : array_type name ≡ None

-- what all active transformers make of its file's bytes isn't accepted
abbrev pub IsUnaccepted : World → State → ThreadNo → Name → Type 0
IsUnaccepted w s t name =
    let bytes = bytes_given w.job name in
    is_accepted name (tree_of bytes) (tree_of (fold_from name 1 (chain w.job (rules_do w.turns) s.trace (actors.Thread t)) bytes).made) ≡ false

-- A load that is refused, and one whose class isn't accepted, has failed, with that class of error.
pub record FailsLoads : Type 0 where
  pub refused : (w : World) (began s : State) (t : ThreadNo) (wanted name error : Name) → NeedsNow w began s wanted (Refuses name error) name
      → IsFailed (step_by w s (actors.Thread t) (load_step w s (classes_now w began) t (Refuses name error))).core name error
  pub unaccepted : (w : World) (began s : State) (t : ThreadNo) (wanted name : Name) → NeedsNow w began s wanted (Loads name) name
      → IsUnaccepted w s t name
      → IsFailed (step_by w s (actors.Thread t) (load_step w s (classes_now w began) t (Loads name))).core name (codes "java/lang/ClassFormatError")

-- After every schedule no two classes have the same name: none was loaded twice.
abbrev pub NamesDiffer : Type 0
NamesDiffer = (w : World) (schedule : List Actor) → IsDistinct bytes_eq (map (λ c. c.name) (state w schedule).core.classes)

-- The names of the classes that there were stay in their places: new ones come before them.
pub record ComesBefore (before after : List Name) : Type 0 where
  pub new : List Name
  pub grown : after ≡ new ++ before

abbrev pub ClassesStay : Type 0
ClassesStay =
    (w : World) (s : State) (actor : Actor) → ComesBefore (map (λ c. c.name) s.core.classes) (map (λ c. c.name) (step w s actor).core.classes)

-- ---- frames

-- a frame of a method was born in this trace, of classes that are there
abbrev pub WasBorn : Trace → List CoreClass → StackFrame → Type 0
WasBorn trace classes (Java f) = IsBorn trace classes f
WasBorn trace classes (Init class) = Unit {0}

abbrev pub AreBorn : Trace → List CoreClass → List Thread → Type 0
AreBorn trace classes threads = AllByRecursion (λ t. AllByRecursion (WasBorn trace classes) t.frames) threads

-- In the state after every schedule every frame was born by now, of classes that are there.
abbrev pub FramesAreBorn : Type 0
FramesAreBorn = (w : World) (schedule : List Actor) → let s = state w schedule in AreBorn s.trace s.core.classes s.core.threads

-- After every schedule, a step changes the code of no frame that a thread has.
abbrev pub CodeStays : Type 0
CodeStays = (w : World) (schedule : List Actor) (actor : Actor) (t : ThreadNo) (place : ℕ) (f : MethodFrame)
    → let s = state w schedule in slice_get (frames_at s.core t) place ≡ Some (Java f)
    → let after = step w s actor in code w.job w.turns after.trace after.core.classes f ≡ code w.job w.turns s.trace s.core.classes f

-- ---- schedules

-- The picked schedule can be run, whatever the slice.
abbrev pub PickedCanRun : Type 0
PickedCanRun = (slice : ℕ) (w : World) → CanRun w (picked slice w)

-- It stops at an end.
abbrev pub PickedEnds : Type 0
PickedEnds = (slice : ℕ) (w : World) → end w (state w (picked slice w)) ≡ None → ⊥

-- A schedule that can be run is no longer than the job's limit of steps.
abbrev pub FitsLimit : Type 0
FitsLimit = (w : World) (schedule : List Actor) → CanRun w schedule → length schedule ≤ w.job.limits.steps

-- No state before its last one has an end.
abbrev pub NoEndBefore : Type 0
NoEndBefore = (w : World) (front : List Actor) (actor : Actor) (back : List Actor) → CanRun w (front ++ actor ∷ back) → end w (state w front) ≡ None

-- The report of a schedule states it, where a line can name the actors and the number of steps.
abbrev pub StatesNamed : Type 0
StatesNamed =
    (w : World) (schedule : List Actor) (e : Option End) → AllNamed schedule → length schedule < 10 ^ 9 → stated (report w schedule e) ≡ Some schedule

-- The report of a schedule of an accepted job that can be run states it.
abbrev pub StatesSchedule : Type 0
StatesSchedule =
    (w : World) (schedule : List Actor) (e : Option End) → IsBounded w.job → CanRun w schedule → stated (report w schedule e) ≡ Some schedule
