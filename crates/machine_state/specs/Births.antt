-- What the birth of the frames that a step pushes leaves alone: everything of the core but these births. So the heap within a step, and
-- where its frames stand, can be looked at with any birth.
use Rattle.std.specs.Prelude.{◌≡◌, ℕ, List, map}
use Rattle.thread_frames.specs.declared.frame.StackEntry.TheVariants.{Java, Init}
use Rattle.machine_state.specs.Core.{Core, StackFrame, Thread}
use Rattle.machine_state.specs.Acts.{Act, born_at, core_after}

-- the frames of a core with their births put aside
abbrev pub unborn_frame : StackFrame → StackFrame
unborn_frame (Java f) = Java (born_at 0 f)
unborn_frame (Init class) = Init class

abbrev pub unborn_thread : Thread → Thread
unborn_thread thread = record thread { frames = map unborn_frame thread.frames }

abbrev pub unborn : Core → Core
unborn core = record core { threads = map unborn_thread core.threads }

-- The core after acts is the same with any birth, but for births.
abbrev pub BirthsApart : Type 0
BirthsApart = (birth other : ℕ) (core : Core) (acts : List Act) → unborn (core_after birth core acts) ≡ unborn (core_after other core acts)
