-- A table of monitors stands for monitors that are counted.
use Rattle.std.proofs.Common.{◌≡◌, ◌∙◌, ℕ, ◌==◌, Bool, true, false, cond, List, [], ◌∷◌, Option, Some, ap, refl, sym, subst}
use Rattle.std.specs.Prelude.{find, unwrap_or}
use Rattle.std.specs.List.{AllByRecursion}
use Rattle.std.specs.Option.{option_map_or}
use Rattle.std.specs.Ordering.{nat_cmp}
use Rattle.std.specs.FinMap as finite
use Rattle.std.proofs.lemmas.Bool.{eqb-true, eq-eqb}
use Rattle.ti_ids.specs.declared.number.ObjNo.{ObjNo}
use Rattle.monitor_table.specs.Monitors.{IsCounted, Monitor, free}
use Rattle.monitor_table.specs.Table.{IsLawful, MonitorMap, state_of, with_state}
use Rattle.monitor_table.proofs.Laws.{IsLawful-empty, IsLawful-with_state, state_of-with_state-other, state_of-with_state-same}
use Rattle.machine_state.specs.Core.{Core, ObjectMonitor, is_monitor_of}
use Rattle.machine_steps.specs.WithinLimits.{AreCounted, HasTable}

abbrev table_of : List ObjectMonitor → MonitorMap
table_of [] = finite.empty
table_of (m ∷ monitors) = with_state (table_of monitors) m.object m.monitor

table_lawful : (monitors : List ObjectMonitor) → AllByRecursion (λ m. IsCounted m.monitor) monitors → IsLawful (table_of monitors)
table_lawful [] h = IsLawful-empty
table_lawful (m ∷ monitors) h = IsLawful-with_state (table_of monitors) m.object m.monitor (table_lawful monitors h.1) h.0

-- the first one of an object is the one that is found
first_stands : (m : ObjectMonitor) (table : MonitorMap) (object : ObjNo) (behind : Option ObjectMonitor) (same : Bool) → is_monitor_of object m ≡ same
    → IsCounted m.monitor → state_of table object ≡ option_map_or (λ x. x.monitor) behind free
    → state_of (with_state table m.object m.monitor) object ≡ option_map_or (λ x. x.monitor) (cond same (Some m) behind) free
first_stands m table object behind true is h rest =
    subst (λ (n : ℕ). unwrap_or (finite.get (with_state table m.object m.monitor) n) free ≡ m.monitor) (eqb-true m.object.0 object.0 is)
    (state_of-with_state-same table m.object m.monitor h)
first_stands m table object behind false is h rest =
    state_of-with_state-other table m.object object m.monitor
    (λ same. absurd (let yes : (m.object.0 == object.0) ≡ true = eq-eqb m.object.0 object.0 (sym same) in cc)) ∙ rest

table_stands : (monitors : List ObjectMonitor) (object : ObjNo) → AllByRecursion (λ m. IsCounted m.monitor) monitors
    → state_of (table_of monitors) object ≡ option_map_or (λ m. m.monitor) (find (is_monitor_of object) monitors) free
table_stands [] object h = ap (λ (o : Option Monitor). unwrap_or o free) (finite.get-empty nat_cmp object.0)
table_stands (m ∷ monitors) object h =
    first_stands m (table_of monitors) object (find (is_monitor_of object) monitors) (is_monitor_of object m) refl h.0
    (table_stands monitors object h.1)

pub has_table : (core : Core) → AreCounted core.monitors → HasTable core
has_table core h = record {
  table = table_of core.monitors;
  lawful = table_lawful core.monitors h.counted;
  stands = λ object. table_stands core.monitors object h.counted;
}
