-- Entering the monitor of an object, as `monitorenter` and the calls of synchronized methods do (JVM specification 2.11.10 and 6.5), and
-- what JVM TI hears of it ("Monitor Contended Enter", "Monitor Contended Entered").
use Rattle.std.specs.Prelude.{Bool, true, false, ◌==◌, List, [], ◌∷◌, Option, Some, None, if◌then◌else◌}
use Rattle.ti_ids.specs.declared.number.ThreadNo.{ThreadNo}
use Rattle.ti_ids.specs.declared.number.ObjNo.{ObjNo}
use Rattle.ti_ids.specs.declared.state.Activity.{Activity}
use Rattle.ti_ids.specs.declared.state.Activity.TheVariants.{Free, Wanting}
use Rattle.machine_state.specs.Core.{monitor_at}
use Rattle.machine_state.specs.Trace.{MonitorContendedEnter, MonitorContendedEntered}
use Rattle.machine_state.specs.Acts.{Act, Changes, Enters, SetsActivity, raises}
use Rattle.instruction_effect.specs.Outcomes.{Site, Outcome, Goes}

-- the thread may enter a monitor of this owner: nobody owns it, or the thread itself does
abbrev pub may_enter : ThreadNo → Option ThreadNo → Bool
may_enter t None = true
may_enter t (Some owner) = owner.0 == t.0

-- the thread has met this monitor before, when another one owned it
abbrev pub wants : Activity → ObjNo → Bool
wants (Wanting wanted) object = wanted.0 == object.0
wants _ object = false

-- Whatever a thread performs ends its wish for a monitor, also for another one than it enters, if it enters one.
abbrev pub wish_ends : ThreadNo → Activity → List Act
wish_ends t (Wanting wanted) = Changes (SetsActivity t Free) ∷ []
wish_ends t _ = []

-- the acts that enter it, of a thread that wanted it or that did not
abbrev pub entering_acts : Site → ObjNo → List Act
entering_acts site object =
    if wants site.thread.activity object
    then Changes (Enters object site.t) ∷ raises (MonitorContendedEntered site.t object) ∷ []
    else Changes (Enters object site.t) ∷ []

-- The acts of a thread that finds it owned by another one: it wants it, and only the first time is that an event.
abbrev pub wanting_acts : Site → ObjNo → List Act
wanting_acts site object =
    let wanting = Changes (SetsActivity site.t (Wanting object)) ∷ [] in
    if wants site.thread.activity object then wanting else raises (MonitorContendedEnter site.t object) ∷ wanting

-- What is to come needs the monitor. While another thread owns it the frame stays at the instruction.
abbrev pub unless_owned : Site → ObjNo → Outcome → Outcome
unless_owned site object so = if may_enter site.t (monitor_at site.core object).owner then so else Goes (wanting_acts site object)

-- The monitor must be entered, and what comes then goes by the acts that enter it.
abbrev pub entering : Site → ObjNo → (List Act → Outcome) → Outcome
entering site object so = unless_owned site object (so (entering_acts site object))
