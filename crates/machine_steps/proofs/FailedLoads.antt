-- A class whose load has failed is never loaded, and its error stays.
use Rattle.std.proofs.Common.{◌≡◌, ◌∙◌, ℕ, Bool, true, false, ◌&&◌, ◌||◌, cond, List, [], ◌∷◌, ◌++◌, map, Option, Some, None, refl, sym, subst}
use Rattle.std.specs.Prelude.{fold, find, option_map, is_some, is_none, bytes_eq}
use Rattle.std.specs.List.{list_any}
use Rattle.std.proofs.lemmas.Slice.Eq.{bytes_eq-Decides}
use Rattle.jv_names.specs.Names.{Name}
use Rattle.jv_names.specs.declared.descriptor.FieldType.{FieldType}
use Rattle.ti_ids.specs.declared.actor.Actor.{Actor}
use Rattle.link_versions.specs.Classes.{with_numbered}
use Rattle.machine_state.specs.Jobs.{Job}
use Rattle.machine_state.specs.Linked.{array_type}
use Rattle.machine_state.specs.Core.{Core, CoreClass, Failure, failure_of}
use Rattle.machine_state.specs.Acts.{State, Act, Change, Changes, Notes, AddsClass, SetsClass, EntersInitializer, Fails, has_failed_load, is_barred, changed, acted, birth_after}
use Rattle.machine_steps.specs.World.{World}
use Rattle.machine_steps.specs.Actors.{next_acts}
use Rattle.machine_steps.specs.Replay.{step, step_by}
use Rattle.machine_steps.specs.Laws.{IsFailed, StaysFailed}
use Rattle.machine_steps.proofs.Growing.{names_same}

-- ---- no class of its name is added

failed_by : (failed : Option Name) (type : Option FieldType) (error : Name) → failed ≡ Some error → type ≡ None
    → (is_some failed && is_none type) ≡ true
failed_by None type error e plain = absurd cc
failed_by (Some error) None of e plain = refl
failed_by (Some error) (Some t) of e plain = absurd cc

or_also : (a b : Bool) → b ≡ true → (a || b) ≡ true
or_also true b e = refl
or_also false b e = e

barred : (core : Core) (name error : Name) → IsFailed core name error → is_barred core name ≡ true
barred core name error h =
    or_also (list_any (bytes_eq name) (map (λ c. c.name) core.classes)) (has_failed_load core name)
    (failed_by (failure_of core name) (array_type name) error h.failed h.plain)

or_none : (a b : Bool) → a ≡ false → b ≡ false → (a || b) ≡ false
or_none true b e h = absurd cc
or_none false b e h = h

-- a class that is added has another name
other_name : (core : Core) (name other error : Name) (same : Bool) → bytes_eq name other ≡ same → is_barred core other ≡ false
    → IsFailed core name error → same ≡ false
other_name core name other error false is free h = refl
other_name core name other error true is free h =
    let equal : name ≡ other = (bytes_eq-Decides name other).0 is in
    sym (subst (λ (x : Name). is_barred core x ≡ true) equal (barred core name error h)) ∙ free

added_absent : (core : Core) (name error : Name) (c : CoreClass) (full : Bool) → is_barred core c.name ≡ full → IsFailed core name error
    → list_any (bytes_eq name) (map (λ x. x.name) (cond full core.classes (c ∷ core.classes))) ≡ false
added_absent core name error c true is h = h.absent
added_absent core name error c false is h =
    or_none (bytes_eq name c.name) (list_any (bytes_eq name) (map (λ x. x.name) core.classes))
    (other_name core name c.name error (bytes_eq name c.name) refl is h) h.absent

same_absent : (core : Core) (name error : Name) (change : CoreClass → CoreClass) (n : ℕ) → ((c : CoreClass) → (change c).name ≡ c.name)
    → IsFailed core name error
    → list_any (bytes_eq name) (map (λ x. x.name) (with_numbered change core.classes n)) ≡ false
same_absent core name error change n same h =
    subst (λ (names : List Name). list_any (bytes_eq name) names ≡ false) (sym (names_same change core.classes n same)) h.absent

-- ---- its error stays

find_stays : (p : Failure → Bool) (failures more : List Failure) (error : Name) → option_map (λ f. f.error) (find p failures) ≡ Some error
    → option_map (λ f. f.error) (find p (failures ++ more)) ≡ Some error
find_stays p [] more error e = absurd cc
find_stays p (f ∷ failures) more error e =
    elim (p f) as (λ b. option_map (λ f. f.error) (cond b (Some f) (find p failures)) ≡ Some error
    → option_map (λ f. f.error) (cond b (Some f) (find p (failures ++ more))) ≡ Some error) [
      | true ↦ λ k. k
      | false ↦ λ k. find_stays p failures more error k
    ] e

-- ---- one change

change_failed : (birth : ℕ) (c : Change) (core : Core) (name error : Name) → IsFailed core name error → IsFailed (changed birth c core) name error
change_failed birth (AddsClass other state) core name error h = record {
  absent = added_absent core name error (record { name = other; state = state; entered = false }) (is_barred core other) refl h;
  failed = h.failed;
  plain = h.plain;
}
change_failed birth (SetsClass class state) core name error h =
    record { absent = same_absent core name error _ class.0 (λ c. refl) h; failed = h.failed; plain = h.plain }
change_failed birth (EntersInitializer class) core name error h =
    record { absent = same_absent core name error _ class.0 (λ c. refl) h; failed = h.failed; plain = h.plain }
change_failed birth (Fails class because) core name error h = record {
  absent = h.absent;
  failed = find_stays (λ f. bytes_eq f.class name) core.failures (record { class = class; error = because } ∷ []) error h.failed;
  plain = h.plain;
}
change_failed birth c core name error h = record { absent = h.absent; failed = h.failed; plain = h.plain }

-- ---- acts, steps and schedules

act_failed : (job : Job) (actor : Actor) (birth : ℕ) (s : State) (a : Act) (name error : Name) → IsFailed s.core name error
    → IsFailed (acted job actor birth s a).core name error
act_failed job actor birth s (Changes c) name error h = change_failed birth c s.core name error h
act_failed job actor birth s (Notes what) name error h = record { absent = h.absent; failed = h.failed; plain = h.plain }

pub acts_failed : (job : Job) (actor : Actor) (birth : ℕ) (s : State) (acts : List Act) (name error : Name) → IsFailed s.core name error
    → IsFailed (fold (acted job actor birth) s acts).core name error
acts_failed job actor birth s [] name error h = h
acts_failed job actor birth s (a ∷ acts) name error h =
    acts_failed job actor birth (acted job actor birth s a) acts name error (act_failed job actor birth s a name error h)

step_failed : (w : World) (s : State) (actor : Actor) (next : Option (List Act)) (name error : Name) → IsFailed s.core name error
    → IsFailed (step_by w s actor next).core name error
step_failed w s actor None name error h = h
step_failed w s actor (Some acts) name error h = acts_failed w.job actor (birth_after s.trace acts) s acts name error h

pub stays_failed : StaysFailed
stays_failed w s [] name error h = h
stays_failed w s (actor ∷ schedule) name error h =
    stays_failed w (step w s actor) schedule name error (step_failed w s actor (next_acts w s actor) name error h)
