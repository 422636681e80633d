-- The monitor of an object after that of one object was changed: the changed one where it is that object, else what it was.
use Rattle.std.proofs.Common.{◌≡◌, ◌∙◌, ◌⊎◌, ⊎_elim, inl, inr, ◌==◌, Bool, true, false, cond, List, [], ◌∷◌, Some, refl, sym, ap}
use Rattle.std.specs.Prelude.{find}
use Rattle.std.specs.Option.{option_map_or}
use Rattle.std.proofs.lemmas.Bool.{eqb-true}
use Rattle.ti_ids.specs.declared.number.ObjNo.{ObjNo}
use Rattle.monitor_table.specs.Monitors.{Monitor, free}
use Rattle.machine_state.specs.Core.{Core, ObjectMonitor, is_monitor_of, monitor_at, monitors_with, with_monitor}

abbrev monitor_in : List ObjectMonitor → ObjNo → Monitor
monitor_in monitors o = option_map_or (λ m. m.monitor) (find (is_monitor_of o) monitors) free

same_object : (a b : ObjNo) → a.0 ≡ b.0 → a ≡ b
same_object a b e = ap (λ n. let o : ObjNo = record { 0 = n } in o) e

in_first : (m : ObjectMonitor) (monitors : List ObjectMonitor) (o : ObjNo) (b : Bool) → (m.object.0 == o.0) ≡ b
    → monitor_in (m ∷ monitors) o ≡ cond b m.monitor (monitor_in monitors o)
in_first m monitors o true is = ap (λ b. option_map_or (λ x. x.monitor) (cond b (Some m) (find (is_monitor_of o) monitors)) free) is
in_first m monitors o false is = ap (λ b. option_map_or (λ x. x.monitor) (cond b (Some m) (find (is_monitor_of o) monitors)) free) is

module _ (change : Monitor → Monitor) (object : ObjNo) where
  -- what the monitor of an object is, where it was this and the object's own was that
  abbrev pub Becomes : ObjNo → Monitor → Monitor → Monitor → Type 0
  Becomes o new old own = (new ≡ old) ⊎ ((o ≡ object) × (new ≡ change own))

  same_of : (m : ObjectMonitor) (o : ObjNo) → (m.object.0 == object.0) ≡ true → (m.object.0 == o.0) ≡ true → o ≡ object
  same_of m o is own = same_object o object (sym (eqb-true m.object.0 o.0 own) ∙ eqb-true m.object.0 object.0 is)

  in_changed : (m : ObjectMonitor) (monitors : List ObjectMonitor) (o : ObjNo) (b : Bool) → (m.object.0 == object.0) ≡ true
      → (m.object.0 == o.0) ≡ b
      → Becomes o (monitor_in (record m { monitor = change m.monitor } ∷ monitors) o) (monitor_in (m ∷ monitors) o) (monitor_in (m ∷ monitors) object)
  in_changed m monitors o true is own =
      let new = in_first (record m { monitor = change m.monitor }) monitors o true own in
      inr (same_of m o is own, new ∙ ap change (sym (in_first m monitors object true is)))
  in_changed m monitors o false is own =
      let new = in_first (record m { monitor = change m.monitor }) monitors o false own in inl (new ∙ sym (in_first m monitors o false own))

  in_later : (m : ObjectMonitor) (monitors next : List ObjectMonitor) (o : ObjNo) (b : Bool) → (m.object.0 == object.0) ≡ false
      → (m.object.0 == o.0) ≡ b
      → Becomes o (monitor_in next o) (monitor_in monitors o) (monitor_in monitors object)
      → Becomes o (monitor_in (m ∷ next) o) (monitor_in (m ∷ monitors) o) (monitor_in (m ∷ monitors) object)
  in_later m monitors next o true is own rest = inl (in_first m next o true own ∙ sym (in_first m monitors o true own))
  in_later m monitors next o false is own rest =
      let new = in_first m next o false own in
      let old = in_first m monitors o false own in
      ⊎_elim (λ same. inl (new ∙ same ∙ sym old))
      (λ own. inr (own.0, new ∙ own.1 ∙ ap change (sym (in_first m monitors object false is)))) rest

  in_cons : (m : ObjectMonitor) (monitors next : List ObjectMonitor) (o : ObjNo) (b : Bool) → (m.object.0 == object.0) ≡ b
      → Becomes o (monitor_in next o) (monitor_in monitors o) (monitor_in monitors object)
      → Becomes o (monitor_in (cond b (record m { monitor = change m.monitor } ∷ monitors) (m ∷ next)) o) (monitor_in (m ∷ monitors) o)
      (monitor_in (m ∷ monitors) object)
  in_cons m monitors next o true is rest = in_changed m monitors o (m.object.0 == o.0) is refl
  in_cons m monitors next o false is rest = in_later m monitors next o (m.object.0 == o.0) is refl rest

  in_none : (o : ObjNo) (b : Bool) → (object.0 == o.0) ≡ b
      → Becomes o (monitor_in (record { object = object; monitor = change free } ∷ []) o) free free
  in_none o true is =
      let own = in_first (record { object = object; monitor = change free }) [] o true is in
      inr (same_object o object (sym (eqb-true object.0 o.0 is)), own)
  in_none o false is = inl (in_first (record { object = object; monitor = change free }) [] o false is)

  in_monitors : (monitors : List ObjectMonitor) (o : ObjNo)
      → Becomes o (monitor_in (monitors_with change object monitors) o) (monitor_in monitors o) (monitor_in monitors object)
  in_monitors [] o = in_none o (object.0 == o.0) refl
  in_monitors (m ∷ monitors) o =
      in_cons m monitors (monitors_with change object monitors) o (m.object.0 == object.0) refl (in_monitors monitors o)

  pub monitor_becomes : (core : Core) (o : ObjNo)
      → Becomes o (monitor_at (with_monitor change object core) o) (monitor_at core o) (monitor_at core object)
  monitor_becomes core o = in_monitors core.monitors o
