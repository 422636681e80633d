-- What acts keep of the classes: those that make no version and add none but array classes, those of a load, and those of calls.
use Rattle.jv_names.specs.Names.{Name}
use Rattle.jv_names.specs.declared.descriptor.FieldType.{FieldType}
use Rattle.machine_state.specs.Acts.{Act, AddsClass, Change, Changes, EntersInitializer, Notes, SetsClass, SetsTop, State, acted, changed, is_barred, with_added}
use Rattle.machine_state.specs.Chains.{chain, rules_do}
use Rattle.machine_state.specs.Core.{Core, CoreClass}
use Rattle.machine_state.specs.Laws.{names_of}
use Rattle.machine_state.specs.Linked.{array_type}
use Rattle.machine_state.specs.Trace.{Entry, Record}
use Rattle.machine_steps.proofs.AcceptedTrees.{chain_same, told_quiet}
use Rattle.machine_steps.proofs.AddedTrees.{kept_array, kept_quiet}
use Rattle.machine_steps.proofs.Growing.{names_same}
use Rattle.machine_steps.proofs.LoadSteps.{ArePlain, IsBefore, IsPlain}
use Rattle.machine_steps.proofs.LoadingSupers.{IsIn}
use Rattle.machine_steps.proofs.MadeClasses.{IsElementIn, IsKept}
use Rattle.machine_steps.specs.World.{World}
use Rattle.std.proofs.Common.{Bool, List, Some, [], cond, false, inr, refl, subst, sym, true, ℕ, ◌∙◌, ◌∷◌, ◌≡◌}
use Rattle.std.specs.List.{AllByRecursion}
use Rattle.std.specs.Prelude.{fold}
use Rattle.ti_ids.specs.declared.actor.Actor.{Actor}
use Rattle.ti_ids.specs.declared.state.InitState.{InitState}
use Rattle.ti_ids.specs.declared.state.InitState.TheVariants as states
use Rattle.jv_names.specs.declared.descriptor.ElementType.{ElementType}
use Rattle.jv_names.specs.declared.descriptor.ElementType.TheVariants as element_type

-- ---- changes and names

-- a change adds no class
abbrev pub AddsNone : Change → Type 0
AddsNone (AddsClass name state) = ⊥
AddsNone c = Unit {0}

pub names_stay : (birth : ℕ) (c : Change) (core : Core) → AddsNone c → names_of (changed birth c core).classes ≡ names_of core.classes
names_stay birth (AddsClass name state) core h = absurd h
names_stay birth (SetsClass class state) core h = names_same _ core.classes class.0 (λ c. refl)
names_stay birth (EntersInitializer class) core h = names_same _ core.classes class.0 (λ c. refl)
names_stay birth c core h = refl

names_added : (barred : Bool) (c : CoreClass) (classes : List CoreClass)
    → names_of (cond barred classes (c ∷ classes)) ≡ cond barred (names_of classes) (c.name ∷ names_of classes)
names_added true c classes = refl
names_added false c classes = refl

pub names_with : (name : Name) (state : InitState) (core : Core)
    → names_of (with_added name state core) ≡ cond (is_barred core name) (names_of core.classes) (name ∷ names_of core.classes)
names_with name state core = names_added (is_barred core name) (record { name = name; state = state; entered = false }) core.classes

abbrev pub Among : List Name → List Name → Type 0
Among these those = (name : Name) → IsIn name these → IsIn name those

element_among : (these those : List Name) (e : ElementType) → Among these those → IsElementIn these e → IsElementIn those e
element_among these those (element_type.Class name) among h = among name h
element_among these those element_type.Boolean among h = tt
element_among these those element_type.Byte among h = tt
element_among these those element_type.Char among h = tt
element_among these those element_type.Short among h = tt
element_among these those element_type.Int among h = tt
element_among these those element_type.Long among h = tt

-- an initialized class that is added is of an array whose element is among these
abbrev pub AddsArray : List Name → Act → Type 0
AddsArray names (Changes (AddsClass name state)) =
    state ≡ states.Initialized → (type : FieldType) × ((array_type name ≡ Some type) × IsElementIn names type.element)
AddsArray names (Changes c) = Unit {0}
AddsArray names (Notes what) = Unit {0}

module _ (w : World) where
  abbrev pub Kept : State → Type 0
  Kept s = IsKept w.job w.turns s.trace (names_of s.core.classes)

  abbrev pub entry_of : State → Actor → Record → Entry
  entry_of s actor what = record { step = s.steps; actor = actor; what = what }

  -- what is kept, with names that go on to be there
  pub record GoesOnKept (these : List Name) (s : State) : Type 0 where
    pub among : Among these (names_of s.core.classes)
    pub kept : Kept s

  module _ (actor : Actor) (birth : ℕ) (these : List Name) where
    same_names : (s : State) (core : Core) → names_of core.classes ≡ names_of s.core.classes → GoesOnKept these s
        → GoesOnKept these (record s { core = core })
    same_names s core same h = record {
      among = subst (Among these) (sym same) h.among;
      kept = subst (IsKept w.job w.turns s.trace) (sym same) h.kept;
    }

    array_by : (s : State) (name : Name) (barred : Bool) (type : FieldType) → array_type name ≡ Some type → IsElementIn these type.element
        → GoesOnKept these s
        → Among these (cond barred (names_of s.core.classes) (name ∷ names_of s.core.classes))
        × IsKept w.job w.turns s.trace (cond barred (names_of s.core.classes) (name ∷ names_of s.core.classes))
    array_by s name true type is there h = (h.among, h.kept)
    array_by s name false type is there h = (
      λ other among. inr (h.among other among),
      kept_array w.job w.turns s.trace (names_of s.core.classes) name type is
          (element_among these (names_of s.core.classes) type.element h.among there) h.kept,
    )

    adds_kept : (s : State) (name : Name) (state : InitState) → state ≡ states.Initialized → AddsArray these (Changes (AddsClass name state))
        → GoesOnKept these s → GoesOnKept these (acted w.job actor birth s (Changes (AddsClass name state)))
    adds_kept s name state is array h =
        let type = array is in
        let both = array_by s name (is_barred s.core name) type.0 type.1.0 type.1.1 h in
        let same = names_with name state s.core in
        record { among = subst (Among these) (sym same) both.0; kept = subst (IsKept w.job w.turns s.trace) (sym same) both.1 }

    one_kept : (s : State) (a : Act) → IsPlain a → AddsArray these a → GoesOnKept these s → GoesOnKept these (acted w.job actor birth s a)
    one_kept s (Changes (AddsClass name state)) plain array h = adds_kept s name state plain array h
    one_kept s (Changes c) plain array h = same_names s (changed birth c s.core) (names_stay birth c s.core tt) h
    one_kept s (Notes what) plain array h = record {
      among = h.among;
      kept = kept_quiet w.job w.turns s.trace (entry_of s actor what) (names_of s.core.classes) plain h.kept;
    }

    pub acts_kept : (s : State) (acts : List Act) → ArePlain acts → AllByRecursion (AddsArray these) acts → GoesOnKept these s
        → GoesOnKept these (fold (acted w.job actor birth) s acts)
    acts_kept s [] plain arrays h = h
    acts_kept s (a ∷ acts) plain arrays h =
        acts_kept (acted w.job actor birth s a) acts plain.1 arrays.1 (one_kept s a plain.0 arrays.0 h)

  -- ---- acts before a load

  -- classes and failures stay, and so do the transformers that are active
  pub record Stays (s after : State) : Type 0 where
    pub classes : after.core.classes ≡ s.core.classes
    pub failures : after.core.failures ≡ s.core.failures
    pub chains : (actor : Actor) → chain w.job (rules_do w.turns) after.trace actor ≡ chain w.job (rules_do w.turns) s.trace actor
    pub kept : Kept s → Kept after

  stay_both : (s t u : State) → Stays s t → Stays t u → Stays s u
  stay_both s t u a b = record {
    classes = b.classes ∙ a.classes;
    failures = b.failures ∙ a.failures;
    chains = λ actor. b.chains actor ∙ a.chains actor;
    kept = λ k. b.kept (a.kept k);
  }

  one_stays : (actor : Actor) (birth : ℕ) (s : State) (a : Act) → IsBefore a → Stays s (acted w.job actor birth s a)
  one_stays actor birth s (Changes (SetsTop t f)) h =
      record { classes = refl; failures = refl; chains = λ a. refl; kept = λ k. k }
  one_stays actor birth s (Changes c) h = absurd h
  one_stays actor birth s (Notes what) h = record {
    classes = refl;
    failures = refl;
    chains = λ a. chain_same w.job w.turns s.trace (entry_of s actor what) h a;
    kept = λ k.
        kept_quiet w.job w.turns s.trace (entry_of s actor what) (names_of s.core.classes) (λ name. told_quiet what name h) k;
  }

  pub before_stays : (actor : Actor) (birth : ℕ) (s : State) (acts : List Act) → AllByRecursion IsBefore acts
      → Stays s (fold (acted w.job actor birth) s acts)
  before_stays actor birth s [] h = record { classes = refl; failures = refl; chains = λ a. refl; kept = λ k. k }
  before_stays actor birth s (a ∷ acts) h =
      let next = acted w.job actor birth s a in
      stay_both s next (fold (acted w.job actor birth) next acts) (one_stays actor birth s a h.0) (before_stays actor birth next acts h.1)
