-- What holds of stacks and monitors after every schedule.
use Rattle.std.specs.Prelude.{◌≡◌, ◌≤◌, ◌==◌, List, map}
use Rattle.std.specs.List.{AllByRecursion, IsDistinct}
use Rattle.ti_ids.specs.declared.actor.Actor.{Actor}
use Rattle.ti_ids.specs.declared.number.ObjNo.{ObjNo}
use Rattle.thread_frames.specs.declared.frame.StackEntry.TheVariants.{Java, Init}
use Rattle.thread_frames.specs.Operands.{words_of}
use Rattle.thread_frames.specs.ThreadStack.{stack_words, IsWithinLimits}
use Rattle.monitor_table.specs.Monitors.{IsCounted}
use Rattle.monitor_table.specs.Table.{MonitorMap, state_of, IsLawful}
use Rattle.machine_state.specs.Core.{Core, StackFrame, ObjectMonitor, monitor_at}
use Rattle.machine_steps.specs.World.{World}
use Rattle.machine_steps.specs.Replay.{state}
use Rattle.machine_steps.specs.Reachable.{CallsRecord}

-- ---- stacks

-- the operands of a method's frame take no more words than its operand stack has room for
abbrev pub HasRoom : StackFrame → Type 0
HasRoom (Java f) = words_of f.stack.entries ≤ f.stack.room
HasRoom (Init class) = Unit {0}

-- The stack of a thread is within its limits, and each operand stack on it within its room (JVM specification 2.5.2 and 2.6.2).
pub record IsWithin (frames : List StackFrame) : Type 0 where
  pub limits : IsWithinLimits frames (stack_words frames)
  pub room : AllByRecursion HasRoom frames

-- After every schedule the stack of each thread is within its limits, where calls do what they do by their records.
abbrev pub StacksAreWithin : Type 0
StacksAreWithin = (w : World) (schedule : List Actor) → CallsRecord w → AllByRecursion (λ t. IsWithin t.frames) (state w schedule).core.threads

-- ---- monitors

-- each monitor has entries exactly while it is owned, each wait gave up one at least, and no object has two monitors
pub record AreCounted (monitors : List ObjectMonitor) : Type 0 where
  pub counted : AllByRecursion (λ m. IsCounted m.monitor) monitors
  pub differ : IsDistinct (λ a b. a == b) (map (λ m. m.object.0) monitors)

-- So it is after every schedule, where calls do what they do by their records.
abbrev pub MonitorsAreCounted : Type 0
MonitorsAreCounted = (w : World) (schedule : List Actor) → CallsRecord w → AreCounted (state w schedule).core.monitors

-- a table of monitors that stands for those of a core, and keeps what every table keeps
pub record HasTable (core : Core) : Type 0 where
  pub table : MonitorMap
  pub lawful : IsLawful table
  pub stands : (object : ObjNo) → state_of table object ≡ monitor_at core object

-- After every schedule there is such a table, where calls do what they do by their records.
abbrev pub MonitorsHaveTables : Type 0
MonitorsHaveTables = (w : World) (schedule : List Actor) → CallsRecord w → HasTable (state w schedule).core
