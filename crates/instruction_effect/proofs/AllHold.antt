-- Where nothing is asked of values, all values of a core hold.
use Rattle.std.proofs.Common.{List, [], ◌∷◌}
use Rattle.std.specs.List.{AllByRecursion}
use Rattle.ti_ids.specs.declared.value.Value.{Value}
use Rattle.ti_ids.specs.declared.state.Activity.{Activity}
use Rattle.ti_ids.specs.declared.state.Activity.TheVariants.{Free, Throwing, Waiting, Joining, Wanting}
use Rattle.java_heap.specs.Objects.{values_of}
use Rattle.java_heap.specs.declared.object.Object.{Object}
use Rattle.thread_frames.specs.declared.frame.StackEntry.TheVariants.{Java, Init}
use Rattle.machine_state.specs.Core.{Core, StackFrame, Static, Thread}
use Rattle.instruction_effect.proofs.ActRules.{ActivityHolds, CoreHolds, FrameHolds, HoldAll, ObjectHolds, ThreadHolds}

-- nothing is asked of a value
abbrev pub Anything : Core → Value → Type 0
Anything now v = Unit {0}

module _ (now : Core) where
  pub values_hold : (values : List Value) → HoldAll Anything now values
  values_hold [] = tt
  values_hold (v ∷ values) = (tt, values_hold values)

  frames_hold : (frames : List StackFrame) → AllByRecursion (FrameHolds Anything now) frames
  frames_hold [] = tt
  frames_hold (Java f ∷ frames) = ((values_hold f.locals, values_hold f.stack.entries), frames_hold frames)
  frames_hold (Init class ∷ frames) = (tt, frames_hold frames)

  activity_holds : (activity : Activity) → ActivityHolds Anything now activity
  activity_holds Free = tt
  activity_holds (Throwing o) = tt
  activity_holds (Waiting o) = tt
  activity_holds (Joining of) = tt
  activity_holds (Wanting o) = tt

  threads_hold : (threads : List Thread) → AllByRecursion (ThreadHolds Anything now) threads
  threads_hold [] = tt
  threads_hold (t ∷ threads) =
      (record { object = tt; activity = activity_holds t.activity; frames = frames_hold t.frames }, threads_hold threads)

  statics_hold : (statics : List Static) → AllByRecursion (λ s. Anything now s.value) statics
  statics_hold [] = tt
  statics_hold (s ∷ statics) = (tt, statics_hold statics)

  objects_hold : (objects : List Object) → AllByRecursion (ObjectHolds Anything now) objects
  objects_hold [] = tt
  objects_hold (o ∷ objects) = (record { values = values_hold (values_of o.content); side = tt }, objects_hold objects)

pub all_hold : (core : Core) → CoreHolds Anything core
all_hold core = record {
  threads = threads_hold core core.threads;
  statics = statics_hold core core.statics;
  objects = objects_hold core core.heap.objects;
  kept = λ thread threads is. tt;
  owned = λ o owner is. tt;
}
