-- Where an actor has no next call, its next step takes none from a queue or a script.
use Rattle.std.proofs.Common.{◌≡◌, ◌∙◌, ◌||◌, Bool, true, false, List, [], ◌∷◌, ◌++◌, Option, Some, None, map, refl, ap, subst}
use Rattle.std.specs.List.{list_all, list_any}
use Rattle.ti_ids.specs.declared.number.ThreadNo.{ThreadNo}
use Rattle.ti_ids.specs.declared.state.InitState.TheVariants as states
use Rattle.ti_codes.specs.declared.phase.Phase.{Phase}
use Rattle.ti_codes.specs.declared.phase.Phase.TheVariants as phases
use Rattle.base_set.specs.BaseSet.{base_set}
use Rattle.link_versions.specs.Classes.{Class}
use Rattle.machine_state.specs.Core.{Core, has_ended}
use Rattle.machine_state.specs.Trace.{Died, Started, VMDeath, VMStart}
use Rattle.machine_state.specs.Acts.{Act, AddsClass, Changes, MarksDeath, Notes, SetsPhase, raises}
use Rattle.instruction_effect.proofs.ActRules.{ActRules, Follow, behind}
use Rattle.machine_steps.specs.World.{World}
use Rattle.machine_steps.specs.Actors.{adds_base, inits, live_acts, makes_first, next_call, phase_acts, starts}
use Rattle.machine_steps.specs.Calls.{NextCall}
use Rattle.machine_steps.specs.Laws.{TakesNoOtherCall, takes_call}
use Rattle.machine_steps.specs.Sites.{classes_now}
use Rattle.instruction_effect.proofs.AllHold.{Anything, all_hold}
use Rattle.machine_steps.proofs.Following.{steps_follow}
use Rattle.machine_steps.proofs.Seen.{follow_both}
use Rattle.machine_steps.proofs.StepRules.{StepRules, seen}

-- the act takes no call, in whatever core
abbrev TakesNone : Core → Act → Type 0
TakesNone now a = takes_call a ≡ false

act_rules : (classes : List Class) (t : ThreadNo) → ActRules classes t TakesNone Anything
act_rules classes t = record {
  int = λ now n. tt;
  long = λ now n. tt;
  null = λ now. tt;
  there = λ now o is. tt;
  later = λ now a v ok h. tt;
  keeps = λ now a ok h. all_hold (behind now a);
  raised = λ now e. refl;
  adds_array = λ now name is. refl;
  makes = λ now class content room new values. refl;
  puts_field = λ now o place v h. refl;
  puts_element = λ now o place v h. refl;
  puts_side = λ now o side h. refl;
  puts_behind = λ now o units room. refl;
  enters = λ now o may h. refl;
  leaves = λ now o owner is. refl;
  goes_to_wait = λ now o owner is. refl;
  notifies = λ now o. refl;
  notifies_all = λ now o. refl;
  prints = λ now bytes. refl;
  sets_top = λ now f g below top goes. refl;
  pops = λ now. refl;
  pushes = λ now f deep is. refl;
  sets_state = λ now state. refl;
  sets_activity = λ now activity h. refl;
  makes_thread = λ now o h kept. refl;
  puts_static = λ now field v h. refl;
}

step_rules : (w : World) (classes : List Class) (t : ThreadNo) → StepRules w classes t TakesNone Anything
step_rules w classes t = record {
  acts = act_rules classes t;
  pushes_init = λ now n deep. refl;
  sets_class = λ now n state. refl;
  enters_initializer = λ now n. refl;
  fails = λ now class error. refl;
  takes_back = λ now o has free h. refl;
  failed = λ now class error. refl;
  turned = λ now env class set k n changed. refl;
  loaded = λ now s name is. refl;
  adds_loaded = λ now s name is. refl;
}

-- ---- the machine

adds_follow : {A : Type 0} (f : A → Act) (bases : List A) → ((x : A) → takes_call (f x) ≡ false) → (now : Core) → Follow TakesNone now (map f bases)
adds_follow f [] none now = tt
adds_follow f (x ∷ bases) none now = (none x, adds_follow f bases none (behind now (f x)))

starts_follow : (now : Core) → Follow TakesNone now starts
starts_follow now =
    follow_both TakesNone now (adds_base ++ makes_first) (Changes (SetsPhase phases.Start) ∷ Notes Started ∷ raises VMStart ∷ [])
    (follow_both TakesNone now adds_base makes_first (adds_follow (λ c. Changes (AddsClass c.name states.Initialized)) base_set (λ c. refl) now)
    (refl, (refl, (refl, (refl, tt))))) (refl, (refl, (refl, tt)))

module _ (now : Core) where
  -- the acts of a step, if it has any
  abbrev Given : Option (List Act) → Type 0
  Given next = (acts : List Act) → next ≡ Some acts → Follow TakesNone now acts

  some_given : (given : List Act) → Follow TakesNone now given → Given (Some given)
  some_given given h acts is = let same : given ≡ acts = cc in subst (Follow TakesNone now) same h

  none_given : Given None
  none_given acts is = absurd cc

  live_given : (raised all_ended : Bool) → Given (live_acts raised all_ended)
  live_given true all_ended = some_given (Changes (SetsPhase phases.Dead) ∷ []) (refl, tt)
  live_given false true = some_given (Changes MarksDeath ∷ Notes Died ∷ raises VMDeath ∷ []) (refl, (refl, (refl, tt)))
  live_given false false = none_given

  phase_given : (core : Core) (phase : Phase) → Given (phase_acts core phase)
  phase_given core phases.OnLoad = some_given starts (starts_follow now)
  phase_given core phases.Primordial = none_given
  phase_given core phases.Start = some_given inits (refl, (refl, (refl, (refl, tt))))
  phase_given core phases.Live = live_given core.death_raised (list_all has_ended core.threads)
  phase_given core phases.Dead = none_given

-- ---- all actors

none_taken : (now : Core) (acts : List Act) → Follow TakesNone now acts → list_any takes_call acts ≡ false
none_taken now [] h = refl
none_taken now (a ∷ acts) h = ap (λ (taken : Bool). taken || list_any takes_call acts) h.0 ∙ none_taken (behind now a) acts h.1

pub takes_no_other_call : TakesNoOtherCall
takes_no_other_call w s actor acts none is =
    none_taken (seen s.core) acts
    (steps_follow w TakesNone Anything s actor (step_rules w (classes_now w s)) (all_hold (seen s.core))
    (λ c next. absurd (has_none (next_call w s actor) c none next)) (phase_given (seen s.core) s.core s.core.phase) acts is)
  where
    has_none : (next : Option NextCall) (c : NextCall) → next ≡ None → next ≡ Some c → ⊥
    has_none None c none some = absurd cc
    has_none (Some x) c none some = absurd cc
