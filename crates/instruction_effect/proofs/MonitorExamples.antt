-- Entering and leaving monitors, case by case.
use Rattle.std.specs.Prelude.{codes}
use Rattle.std.proofs.Common.{◌≡◌, List, [], ◌∷◌, Some, None, refl}
use Rattle.ti_ids.specs.declared.number.ObjNo.{ObjNo}
use Rattle.bytecode_local.specs.Changes.{exchange}
use Rattle.ti_ids.specs.declared.state.Activity.{Activity}
use Rattle.ti_ids.specs.declared.state.Activity.TheVariants.{Free, Wanting}
use Rattle.machine_state.specs.Core.{monitor_at}
use Rattle.machine_state.specs.Trace.{MonitorContendedEnter, MonitorContendedEntered}
use Rattle.machine_state.specs.Acts.{Act, Changes, Enters, Leaves, SetsActivity, raises}
use Rattle.instruction_effect.specs.Outcomes.{Site, Outcome, Goes, Throws, goes}
use Rattle.instruction_effect.specs.Monitors.{entering}
use Rattle.instruction_effect.specs.Objects.{exited}

module _ (site : Site) (so : List Act → Outcome) where
  -- object 7, and the site for thread 1 with this activity
  abbrev object : ObjNo
  object = record { 0 = 7 }

  abbrev of_one : Activity → Site
  of_one activity = record site { t = record { 0 = 1 }; thread = record site.thread { activity = activity } }

  enter-free : (monitor_at site.core object).owner ≡ None → entering (of_one Free) object so ≡ so (Changes (Enters object (record { 0 = 1 })) ∷ [])
  enter-free e = rw e refl

  -- the second time
  enter-own : (monitor_at site.core object).owner ≡ Some (record { 0 = 1 })
      → entering (of_one Free) object so ≡ so (Changes (Enters object (record { 0 = 1 })) ∷ [])
  enter-own e = rw e refl

  enter-owned : (monitor_at site.core object).owner ≡ Some (record { 0 = 2 })
      → entering (of_one Free) object so
      ≡ Goes (raises (MonitorContendedEnter (record { 0 = 1 }) object) ∷ Changes (SetsActivity (record { 0 = 1 }) (Wanting object)) ∷ [])
  enter-owned e = rw e refl

  enter-still_owned : (monitor_at site.core object).owner ≡ Some (record { 0 = 2 })
      → entering (of_one (Wanting object)) object so ≡ Goes (Changes (SetsActivity (record { 0 = 1 }) (Wanting object)) ∷ [])
  enter-still_owned e = rw e refl

  enter-wanted : (monitor_at site.core object).owner ≡ None
      → entering (of_one (Wanting object)) object so
      ≡ so (Changes (Enters object (record { 0 = 1 })) ∷ raises (MonitorContendedEntered (record { 0 = 1 }) object) ∷ [])
  enter-wanted e = rw e refl

  -- leaving it
  exit-owned : (monitor_at site.core object).owner ≡ Some (record { 0 = 2 })
      → exited (of_one Free) object ≡ Throws [] (codes "java/lang/IllegalMonitorStateException")
  exit-owned e = rw e refl

  exit-free : (monitor_at site.core object).owner ≡ None → exited (of_one Free) object ≡ Throws [] (codes "java/lang/IllegalMonitorStateException")
  exit-free e = rw e refl

  exit-own : (monitor_at site.core object).owner ≡ Some (record { 0 = 1 })
      → exited (of_one Free) object ≡ goes (of_one Free) (Changes (Leaves object) ∷ []) (exchange 1 [])
  exit-own e = rw e refl
