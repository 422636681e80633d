-- What a step changes in a thread and in the output, as the code sees them.
use Rattle.std.specs.Prelude.{◌≡◌, ◌++◌, ◌∷◌, [], ℕ, List, Option, None, false, Vec}
use Rattle.std.specs.declared.alloc.Global.{Global}
use Rattle.std.specs.Option.{option_to_list}
use Rattle.ti_ids.specs.declared.state.ThreadState.{ThreadState}
use Rattle.ti_ids.specs.declared.state.ThreadState.TheVariants.{Unbegun, Running}
use Rattle.ti_codes.specs.declared.phase.Phase.TheVariants as phases
use Rattle.first_form.specs.ClassFiles.{MainClass}
use Rattle.machine_model.specs.Effects.{printed_int}
use Rattle.machine_core.specs.declared.frame.Frame.{Frame}
use Rattle.machine_core.specs.declared.thread.Thread.{Thread}
use Rattle.machine_core.specs.declared.parts.Parts.{Parts}
use Rattle.machine_core.specs.declared.operands.Done.{Done}
use Rattle.machine_core.specs.declared.operands.Done.TheVariants.{Goes, Prints, Leaves, Misfit}
use Rattle.machine_core.specs.Frames.{Executed}

-- before the first step
pub record IsOpening (p : Parts) : Type 0 where
  pub phase : p.phase ≡ phases.OnLoad
  pub died : p.died ≡ false
  pub threads : p.threads.items ≡ []
  pub class : p.class ≡ None
  pub objects : p.objects ≡ 0
  pub output : p.output.items ≡ []

-- thread 1 alone, which has not begun
pub record IsFirst (threads : Vec Thread Global) : Type 0 where
  pub thread : Thread
  pub alone : threads.items ≡ thread ∷ []
  pub state : thread.state ≡ Unbegun
  pub frames : thread.frames.items ≡ []

-- another state
pub record InState (state : ThreadState) (old new : Thread) : Type 0 where
  pub state_is : new.state ≡ state
  pub frames : new.frames.items ≡ old.frames.items

-- one frame more
pub record Pushed (frame : Frame) (old new : Thread) : Type 0 where
  pub state : new.state ≡ old.state
  pub frames : new.frames.items ≡ old.frames.items ++ frame ∷ []

-- the top frame less, where there is one
pub record Popped (old new : Thread) : Type 0 where
  pub top : Option Frame
  pub state : new.state ≡ old.state
  pub frames : old.frames.items ≡ new.frames.items ++ option_to_list top
  pub empty : top ≡ None → old.frames.items ≡ []

-- its method is entered
pub record Entered (frame : Frame) (old new : Thread) : Type 0 where
  pub state : new.state ≡ Running
  pub frames : new.frames.items ≡ old.frames.items ++ frame ∷ []

-- the top frame's instruction was performed
pub record Ran (c : MainClass) (done : Done) (old new : Thread) : Type 0 where
  pub state : new.state ≡ old.state
  pub frames : Executed c done old.frames.items new.frames.items

-- the output after an instruction
abbrev pub OutputAfter : Done → List ℕ → List ℕ → Type 0
OutputAfter Goes old new = new ≡ old
OutputAfter (Prints v) old new = new ≡ old ++ printed_int v
OutputAfter Leaves old new = new ≡ old
OutputAfter Misfit old new = new ≡ old
