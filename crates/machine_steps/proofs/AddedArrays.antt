-- An initialized class that a step of a thread adds is of an array whose element is there. So the classes are lawful as a whole.
use Rattle.instruction_effect.proofs.ActRules.{ActRules, Follow, behind}
use Rattle.instruction_effect.proofs.AllHold.{Anything, all_hold}
use Rattle.link_versions.specs.Classes.{Class}
use Rattle.machine_state.specs.Acts.{Act, Changes, MarksDeath, Notes, SetsPhase, State, raises}
use Rattle.machine_state.specs.Trace.{Died, VMDeath}
use Rattle.machine_state.specs.Core.{Core, has_ended}
use Rattle.machine_steps.proofs.Following.{steps_follow}
use Rattle.machine_steps.proofs.KeptSchedules.{AddsKnown, AddsKnownArrays}
use Rattle.machine_steps.proofs.LawfulAtOnce.{lawful_so}
use Rattle.machine_steps.proofs.StepRules.{StepRules, seen}
use Rattle.machine_steps.specs.Actors.{live_acts, next_call, phase_acts}
use Rattle.machine_steps.specs.Calls.{NextCall, performs}
use Rattle.machine_steps.specs.LawfulClasses.{ClassesAreLawful}
use Rattle.machine_steps.specs.Sites.{classes_now}
use Rattle.machine_steps.specs.ThreadRules.{is_live}
use Rattle.machine_steps.specs.World.{World}
use Rattle.std.proofs.Common.{Bool, List, None, Some, [], false, subst, sym, true, ◌∙◌, ◌∷◌, ◌≡◌}
use Rattle.std.specs.List.{AllByRecursion, list_all}
use Rattle.ti_codes.specs.declared.phase.Phase.{Phase}
use Rattle.ti_codes.specs.declared.phase.Phase.TheVariants as phases
use Rattle.ti_ids.specs.declared.actor.Actor.TheVariants as actors
use Rattle.ti_ids.specs.declared.number.ThreadNo.{ThreadNo}

module _ (w : World) (s : State) where
  abbrev now : List Class
  now = classes_now w s

  -- whatever the core is
  abbrev Ok : Core → Act → Type 0
  Ok core a = AddsKnown now a

  act_rules : (t : ThreadNo) → ActRules now t Ok Anything
  act_rules t = record {
    int = λ core n. tt;
    long = λ core n. tt;
    null = λ core. tt;
    there = λ core o is. tt;
    later = λ core a v ok holds. tt;
    keeps = λ core a ok whole. all_hold (behind core a);
    raised = λ core e. tt;
    adds_array = λ core name h is arrays. h arrays;
    makes = λ core class content room new values. tt;
    puts_field = λ core o place v h. tt;
    puts_element = λ core o place v h. tt;
    puts_side = λ core o side h. tt;
    puts_behind = λ core o units room. tt;
    enters = λ core o may h. tt;
    leaves = λ core o owner is. tt;
    goes_to_wait = λ core o owner is. tt;
    notifies = λ core o. tt;
    notifies_all = λ core o. tt;
    prints = λ core bytes. tt;
    sets_top = λ core f g below top as_it. tt;
    pops = λ core. tt;
    pushes = λ core f fits is. tt;
    sets_state = λ core state. tt;
    sets_activity = λ core activity h. tt;
    makes_thread = λ core o h kept. tt;
    puts_static = λ core field v h. tt;
  }

  step_rules : (t : ThreadNo) → StepRules w now t Ok Anything
  step_rules t = record {
    acts = act_rules t;
    pushes_init = λ core n deep. tt;
    sets_class = λ core n state. tt;
    enters_initializer = λ core n. tt;
    fails = λ core class error. tt;
    takes_back = λ core o notified free h. tt;
    failed = λ core class error. tt;
    turned = λ core env class set k n changed. tt;
    loaded = λ core at name is. tt;
    adds_loaded = λ core at name l is arrays. absurd cc;
  }

  each_known : (acts : List Act) (core : Core) → Follow Ok core acts → AllByRecursion (AddsKnown now) acts
  each_known [] core h = tt
  each_known (a ∷ acts) core h = (h.0, each_known acts (behind core a) h.1)

  -- the machine's own steps, while it is live, add no class
  ends_follow : (raised ended : Bool) (acts : List Act) → live_acts raised ended ≡ Some acts → Follow Ok (seen s.core) acts
  ends_follow true ended acts e = let same : Changes (SetsPhase phases.Dead) ∷ [] ≡ acts = cc in subst (Follow Ok (seen s.core)) same (tt, tt)
  ends_follow false true acts e =
      let same : Changes MarksDeath ∷ Notes Died ∷ raises VMDeath ∷ [] ≡ acts = cc in subst (Follow Ok (seen s.core)) same (tt, (tt, (tt, tt)))
  ends_follow false false acts e = absurd cc

  phase_follows : (phase : Phase) → is_live phase ≡ true → (acts : List Act) → phase_acts s.core phase ≡ Some acts → Follow Ok (seen s.core) acts
  phase_follows phases.Live live acts e = ends_follow s.core.death_raised (list_all has_ended s.core.threads) acts e
  phase_follows phases.OnLoad live acts e = absurd cc
  phase_follows phases.Primordial live acts e = absurd cc
  phase_follows phases.Start live acts e = absurd cc
  phase_follows phases.Dead live acts e = absurd cc

  no_call : (t : ThreadNo) → next_call w s (actors.Thread t) ≡ None → (c : NextCall) → next_call w s (actors.Thread t) ≡ Some c
      → Follow Ok (seen s.core) (performs w s (actors.Thread t) c)
  no_call t none c is = absurd (let bad : None ≡ Some c = sym none ∙ is in cc)

adds_known : (w : World) → AddsKnownArrays w
adds_known w s t acts live none e =
    each_known w s acts (seen s.core)
    (steps_follow w (Ok w s) Anything s (actors.Thread t) (step_rules w s) (all_hold (seen s.core)) (no_call w s t none)
    (phase_follows w s s.core.phase live) acts e)

pub classes_are_lawful : ClassesAreLawful
classes_are_lawful w schedule plain records installs few = lawful_so w schedule plain records installs (adds_known w) few
