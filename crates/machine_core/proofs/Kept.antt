-- What stands stays where the trace grows.
use Rattle.std.proofs.Common.{◌≡◌, ◌∙◌, List, ◌++◌, map, reverse, Option, Some, None, Bool, true, ap, arith, length-append}
use Rattle.std.specs.List.{AllZip}
use Rattle.std.specs.Prelude.{is_some}
use Rattle.ti_ids.specs.declared.actor.Actor.{Actor}
use Rattle.ti_ids.specs.declared.state.InitState.{InitState}
use Rattle.machine_model.specs.Jobs.{Job}
use Rattle.machine_model.specs.Core as core
use Rattle.machine_model.specs.Trace.{Entry, Record, last_of}
use Rattle.machine_model.specs.Rules.{State}
use Rattle.machine_model.proofs.Growth.{IsSilent, versions_grown, tree_grown}
use Rattle.machine_core.specs.declared.frame.JavaFrame.{JavaFrame}
use Rattle.machine_core.specs.declared.frame.Frame.{Frame}
use Rattle.machine_core.specs.declared.frame.Frame.TheVariants.{Init, Java}
use Rattle.machine_core.specs.declared.thread.Thread.{Thread}
use Rattle.machine_core.specs.Stands.{JavaStands, FrameStands, ThreadStands, IsLoaded}
use Rattle.machine_core.proofs.Zips.{zip_map}

-- the entries of a step
abbrev pub entries : State → Actor → List Record → List Entry
entries s actor records = map (λ w. let e : Entry = record { step = s.steps; actor = actor; what = w } in e) records

pub java_kept : (job : Job) (trace new : List Entry) (f : JavaFrame) (g : core.JavaFrame) → JavaStands job trace f g → JavaStands job (trace ++ new) f g
java_kept job trace new f g h = record {
  pc = h.pc;
  locals = h.locals;
  stack = h.stack;
  announced = h.announced;
  born = omega (arith, length-append trace new, h.born);
  method = h.method;
  descriptor = h.descriptor;
  tree = tree_grown trace new g h.born ∙ h.tree;
}

pub frame_kept : (job : Job) (trace new : List Entry) (l m : Bool) → (l ≡ true → m ≡ true) → (f : Frame) (g : core.Frame) → FrameStands job trace l f g → FrameStands job (trace ++ new) m f g
frame_kept job trace new l m more (Java f) (core.Java g) h = java_kept job trace new f g h
frame_kept job trace new l m more Init (core.Init name place) h = (h.0, more h.1)
frame_kept job trace new l m more (Java f) (core.Init name place) h = absurd h
frame_kept job trace new l m more Init (core.Java g) h = absurd h

pub frames_kept : (job : Job) (trace new : List Entry) (l m : Bool) → (l ≡ true → m ≡ true) → (fs : List Frame) (gs : List core.Frame) → AllZip (FrameStands job trace l) fs gs → AllZip (FrameStands job (trace ++ new) m) fs gs
frames_kept job trace new l m more fs gs h = zip_map (FrameStands job trace l) (FrameStands job (trace ++ new) m) fs gs (frame_kept job trace new l m more) h

pub thread_kept : (job : Job) (trace new : List Entry) (l m : Bool) → (l ≡ true → m ≡ true) → (t : Thread) (u : core.Thread) → ThreadStands job trace l t u → ThreadStands job (trace ++ new) m t u
thread_kept job trace new l m more t u h = record { state = h.state; frames = frames_kept job trace new l m more (reverse t.frames.items) u.frames h.frames }

pub threads_kept : (job : Job) (trace new : List Entry) (l m : Bool) → (l ≡ true → m ≡ true) → (ts : List Thread) (us : List core.Thread) → AllZip (ThreadStands job trace l) ts us → AllZip (ThreadStands job (trace ++ new) m) ts us
threads_kept job trace new l m more ts us h = zip_map (ThreadStands job trace l) (ThreadStands job (trace ++ new) m) ts us (thread_kept job trace new l m more) h

pub loaded_kept : (job : Job) (trace new : List Entry) (class : Option InitState) → IsSilent job.main new → IsLoaded job trace class → IsLoaded job (trace ++ new) class
loaded_kept job trace new None silent h = tt
loaded_kept job trace new (Some state) silent h = ap last_of (versions_grown job.main trace new silent) ∙ h

-- a class that is loaded stays so
pub loaded_some : (job : Job) (trace : List Entry) (class : Option InitState) (new : InitState) → is_some class ≡ true → IsLoaded job trace class → IsLoaded job trace (Some new)
loaded_some job trace None new some h = absurd cc
loaded_some job trace (Some state) new some h = h
