-- What each step keeps of the classes: they are made as they should be, and the base classes are there once the machine has begun.
use Rattle.base_set.specs.BaseSet.{BaseClass, base_set}
use Rattle.jv_names.specs.Names.{Name}
use Rattle.link_versions.specs.Classes.{number_of}
use Rattle.machine_state.specs.Acts.{Act, AddsClass, Changes, MarksDeath, Notes, SetsPhase, State, acted, has_failed_load, is_barred, raises}
use Rattle.machine_state.specs.Core.{Core, CoreClass}
use Rattle.machine_state.specs.Jobs.{Job}
use Rattle.machine_state.specs.Laws.{names_of}
use Rattle.machine_state.specs.Trace.{Died, Started, VMDeath, VMStart}
use Rattle.machine_steps.proofs.ClassNames.{named_there}
use Rattle.machine_steps.proofs.KeptActs.{AddsArray, Among, GoesOnKept, Kept, acts_kept, names_with}
use Rattle.machine_steps.proofs.LoadSteps.{ArePlain}
use Rattle.machine_steps.proofs.LoadingSupers.{IsIn, in_any}
use Rattle.machine_steps.proofs.MadeClasses.{IsKept, base_made, base_names, base_there, with_names}
use Rattle.machine_steps.specs.Actors.{adds_base, inits, makes_first, starts}
use Rattle.machine_steps.specs.LawfulClasses.{HasBaseClasses}
use Rattle.machine_steps.specs.Replay.{state}
use Rattle.machine_steps.specs.Sites.{classes_now}
use Rattle.machine_steps.specs.World.{World}
use Rattle.std.proofs.Common.{Bool, List, [], ap, append_assoc, cond, false, inl, inr, map, refl, subst, sym, true, ℕ, ◌++◌, ◌||◌, ◌∙◌, ◌∷◌, ◌≡◌, ◌⊎◌}
use Rattle.std.proofs.lemmas.List.Sums.{fold-append}
use Rattle.std.specs.List.{AllByRecursion, list_any}
use Rattle.std.specs.Prelude.{IsSome, bytes_eq, fold}
use Rattle.ti_codes.specs.declared.phase.Phase.TheVariants as phases
use Rattle.ti_ids.specs.declared.actor.Actor.{Actor}
use Rattle.ti_ids.specs.declared.state.InitState.TheVariants as states

-- ---- the base classes

-- nothing was made yet
pub record IsUnbegun (core : Core) : Type 0 where
  pub phase : core.phase ≡ phases.OnLoad
  pub classes : core.classes ≡ []
  pub failures : core.failures ≡ []

abbrev pub AreThere : Core → Type 0
AreThere core = AllByRecursion (λ name. IsIn name (names_of core.classes)) base_names

abbrev pub AreBased : Core → Type 0
AreBased core = AreThere core ⊎ IsUnbegun core

-- of one phase, the same classes and the same failures
pub record AreSame (a b : Core) : Type 0 where
  pub phase : b.phase ≡ a.phase
  pub classes : b.classes ≡ a.classes
  pub failures : b.failures ≡ a.failures

pub same_based : (a b : Core) → AreSame a b → AreBased a → AreBased b
same_based a b same (inl there) =
    inl (subst (λ (l : List CoreClass). AllByRecursion (λ name. IsIn name (names_of l)) base_names) (sym same.classes) there)
same_based a b same (inr none) =
    inr (record { phase = same.phase ∙ none.phase; classes = same.classes ∙ none.classes; failures = same.failures ∙ none.failures })

pub all_among : (names these those : List Name) → Among these those → AllByRecursion (λ name. IsIn name these) names
    → AllByRecursion (λ name. IsIn name those) names
all_among [] these those among h = tt
all_among (name ∷ names) these those among h = (among name h.0, all_among names these those among h.1)

pub base_classes : (w : World) (s : State) → AreThere s.core → HasBaseClasses (classes_now w s)
base_classes w s there = by base_set there
  where
    by : (bases : List BaseClass) → AllByRecursion (λ name. IsIn name (names_of s.core.classes)) (map (λ c. c.name) bases)
        → AllByRecursion (λ c. IsSome (number_of (classes_now w s) c.name)) bases
    by [] h = tt
    by (c ∷ bases) h = (named_there w.job w.turns s.trace c.name s.core.classes h.0, by bases h.1)

-- ---- what the machine's own acts are

-- no version is made, and no class added
abbrev pub AddsNoClass : Act → Type 0
AddsNoClass (Changes (AddsClass name state)) = ⊥
AddsNoClass a = Unit {0}

no_arrays : (names : List Name) (acts : List Act) → AllByRecursion AddsNoClass acts → AllByRecursion (AddsArray names) acts
no_arrays names [] h = tt
no_arrays names (Changes (AddsClass name state) ∷ acts) h = absurd h.0
no_arrays names (Changes c ∷ acts) h = (tt, no_arrays names acts h.1)
no_arrays names (Notes what ∷ acts) h = (tt, no_arrays names acts h.1)

abbrev ending : List Act
ending = Changes (SetsPhase phases.Start) ∷ Notes Started ∷ raises VMStart ∷ []

first_plain : ArePlain makes_first
first_plain = (tt, (tt, (tt, (tt, tt))))

ending_plain : ArePlain ending
ending_plain = (tt, ((λ class. refl), ((λ class. refl), tt)))

pub inits_plain : ArePlain inits
inits_plain = (tt, (tt, ((λ class. refl), ((λ class. refl), tt))))

pub died_plain : ArePlain (Changes MarksDeath ∷ Notes Died ∷ raises VMDeath ∷ [])
died_plain = (tt, ((λ class. refl), ((λ class. refl), tt)))

-- ---- the base classes are added

barred_by : (names : List Name) (name : Name) (others : Bool) → list_any (bytes_eq name) names ≡ true → (list_any (bytes_eq name) names || others) ≡ true
barred_by names name others is = rw is refl

either_none : (b : Bool) → (b || false) ≡ b
either_none true = refl
either_none false = refl

unfailed : (core : Core) (name : Name) → core.failures ≡ [] → has_failed_load core name ≡ false
unfailed core name none = rw none refl

-- what the acts that add classes of these names come to
record Adds (s after : State) (names : List Name) : Type 0 where
  trace : after.trace ≡ s.trace
  named : names_of after.core.classes ≡ names

module _ (job : Job) (actor : Actor) (birth : ℕ) where
  abbrev adds_each : State → List BaseClass → State
  adds_each s bases = fold (acted job actor birth) s (map (λ c. Changes (AddsClass c.name states.Initialized)) bases)

  adds_new : (s : State) (bases : List BaseClass) → s.core.failures ≡ []
      → Adds s (adds_each s bases) (with_names (names_of s.core.classes) (map (λ c. c.name) bases))
  adds_new s [] none = record { trace = refl; named = refl }
  adds_new s (c ∷ bases) none =
      let next = acted job actor birth s (Changes (AddsClass c.name states.Initialized)) in
      let more = adds_new next bases none in
      let there = list_any (bytes_eq c.name) (names_of s.core.classes) in
      let is : is_barred s.core c.name ≡ there = ap (λ (b : Bool). there || b) (unfailed s.core c.name none) ∙ either_none there in
      record {
        trace = more.trace;
        named = more.named ∙ ap (λ (l : List Name). with_names l (map (λ c. c.name) bases)) (names_with c.name states.Initialized s.core
            ∙ ap (λ (b : Bool). cond b (names_of s.core.classes) (c.name ∷ names_of s.core.classes)) is);
      }

  adds_old : (s : State) (bases : List BaseClass) → AllByRecursion (λ name. IsIn name (names_of s.core.classes)) (map (λ c. c.name) bases)
      → Adds s (adds_each s bases) (names_of s.core.classes)
  adds_old s [] there = record { trace = refl; named = refl }
  adds_old s (c ∷ bases) there =
      let next = acted job actor birth s (Changes (AddsClass c.name states.Initialized)) in
      let same : names_of next.core.classes ≡ names_of s.core.classes =
      names_with c.name states.Initialized s.core
      ∙ ap (λ (b : Bool). cond b (names_of s.core.classes) (c.name ∷ names_of s.core.classes))
      (barred_by (names_of s.core.classes) c.name (has_failed_load s.core c.name) (in_any c.name (names_of s.core.classes) there.0)) in
      let more = adds_old next bases
      (subst (λ (l : List Name). AllByRecursion (λ name. IsIn name l) (map (λ c. c.name) bases)) (sym same) there.1) in
      record { trace = more.trace; named = more.named ∙ same }

-- ---- what holds after every schedule

pub record IsRight (w : World) (s : State) : Type 0 where
  pub kept : Kept w s
  pub based : AreBased s.core

module _ (w : World) (actor : Actor) (birth : ℕ) where
  abbrev pub done : State → List Act → State
  done s acts = fold (acted w.job actor birth) s acts

  pub itself_kept : (s : State) → Kept w s → GoesOnKept w (names_of s.core.classes) s
  itself_kept s kept = record { among = λ name there. there; kept = kept }

  -- acts that make nothing, and add no class
  pub idle_right : (s : State) (acts : List Act) → ArePlain acts → AllByRecursion AddsNoClass acts → Kept w s → AreThere s.core
      → IsRight w (done s acts)
  idle_right s acts plain idle kept there =
      let names = names_of s.core.classes in
      let after = acts_kept w actor birth names s acts plain (no_arrays names acts idle) (itself_kept s kept) in
      record { kept = after.kept; based = inl (all_among base_names names (names_of (done s acts).core.classes) after.among there) }

  abbrev based_state : State → State
  based_state s = done s adds_base

  starts_behind : (s : State) → Kept w (based_state s) → AreThere (based_state s).core → IsRight w (done s starts)
  starts_behind s kept there =
      subst (IsRight w)
      (sym (ap (done s) (append_assoc adds_base makes_first ending)
      ∙ fold-append (acted w.job actor birth) s adds_base (makes_first ++ ending)))
      (idle_right (based_state s) (makes_first ++ ending) (tt, (tt, (tt, (tt, ending_plain)))) (tt, (tt, (tt, (tt, (tt, (tt, (tt, tt)))))))
      kept there)

  pub starts_old : (s : State) → Kept w s → AreThere s.core → IsRight w (done s starts)
  starts_old s kept there =
      let a = adds_old w.job actor birth s base_set there in
      starts_behind s
      (subst (λ (t : _). IsKept w.job w.turns t (names_of (based_state s).core.classes)) (sym a.trace)
      (subst (IsKept w.job w.turns s.trace) (sym a.named) kept))
      (subst (λ (l : List Name). AllByRecursion (λ name. IsIn name l) base_names) (sym a.named) there)

  pub starts_new : (s : State) → Kept w s → IsUnbegun s.core → IsRight w (done s starts)
  starts_new s kept none =
      let a = adds_new w.job actor birth s base_set none.failures in
      let named : names_of (based_state s).core.classes ≡ with_names [] base_names =
      a.named ∙ ap (λ (l : List CoreClass). with_names (names_of l) base_names) none.classes in
      let all : IsKept w.job w.turns s.trace (with_names [] base_names) = record {
        made = base_made w.job w.turns s.trace;
        unmade = λ name absent. kept.unmade name (λ there. subst (λ (l : List CoreClass). IsIn name (names_of l)) none.classes there);
      } in
      starts_behind s
      (subst (λ (t : _). IsKept w.job w.turns t (names_of (based_state s).core.classes)) (sym a.trace)
      (subst (IsKept w.job w.turns s.trace) (sym named) all))
      (subst (λ (l : List Name). AllByRecursion (λ name. IsIn name l) base_names) (sym named) base_there)
