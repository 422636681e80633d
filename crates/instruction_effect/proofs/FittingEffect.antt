-- The acts of every instruction fit, and so do those of a thread's entry.
use Rattle.class_code.specs.declared.instr.Instr.{Instr}
use Rattle.instruction_effect.proofs.ActRules.{ActRules, Follow, Stands, behind}
use Rattle.instruction_effect.proofs.AllHold.{Anything, all_hold}
use Rattle.instruction_effect.proofs.FittingForms.{AllFit, Fits, FitsOutcome}
use Rattle.instruction_effect.proofs.FollowingEffect.{effect_follows, entry_follows}
use Rattle.instruction_effect.proofs.FollowingForms.{IsOver, OutcomeFollows}
use Rattle.instruction_effect.specs.CallEntry.{entry_outcome}
use Rattle.instruction_effect.specs.Effect.{effect}
use Rattle.instruction_effect.specs.Outcomes.{Fills, Goes, NeedsInit, NeedsLink, NeedsLoad, Outcome, Site, Throws, ThrowsObject}
use Rattle.jv_names.specs.Names.{Name}
use Rattle.link_versions.specs.Classes.{Class}
use Rattle.machine_state.specs.Acts.{Act}
use Rattle.machine_state.specs.Core.{Core, MethodFrame, Thread, frames_at}
use Rattle.std.proofs.Common.{List, Option, [], refl, ℕ, ◌∷◌, ◌≡◌}
use Rattle.ti_ids.specs.declared.number.ThreadNo.{ThreadNo}

module _ (now : List Class) where
  -- whatever the core is
  abbrev Ok : Core → Act → Type 0
  Ok core a = Fits now a

  fits_rules : (classes : List Class) (t : ThreadNo) → IsOver now classes → ActRules classes t Ok Anything
  fits_rules classes t over = record {
    int = λ core n. tt;
    long = λ core n. tt;
    null = λ core. tt;
    there = λ core o is. tt;
    later = λ core a v ok holds. tt;
    keeps = λ core a ok whole. all_hold (behind core a);
    raised = λ core e. tt;
    adds_array = λ core name is. refl;
    makes = λ core class content room new values. tt;
    puts_field = λ core o place v h. tt;
    puts_element = λ core o place v h. tt;
    puts_side = λ core o side h. tt;
    puts_behind = λ core o units room. tt;
    enters = λ core o may h. tt;
    leaves = λ core o owner is. tt;
    goes_to_wait = λ core o owner is. tt;
    notifies = λ core o. tt;
    notifies_all = λ core o. tt;
    prints = λ core bytes. tt;
    sets_top = λ core f g below top as_it. tt;
    pops = λ core. tt;
    pushes = λ core f fits is. (is.class, (is.body, over f.method is.body is.newest));
    sets_state = λ core state. tt;
    sets_activity = λ core activity h. tt;
    makes_thread = λ core o h kept. tt;
    puts_static = λ core field v h. tt;
  }

  acts_fit : (acts : List Act) (core : Core) → Follow Ok core acts → AllFit now acts
  acts_fit [] core h = tt
  acts_fit (a ∷ acts) core h = (h.0, acts_fit acts (behind core a) h.1)

  outcome_fits : (core : Core) (o : Outcome) → OutcomeFollows Ok Anything core o → FitsOutcome now o
  outcome_fits core (Goes acts) h = acts_fit acts core h
  outcome_fits core (Throws acts name) h = acts_fit acts core h
  outcome_fits core (Fills acts) h = acts_fit acts core h
  outcome_fits core (ThrowsObject o) h = tt
  outcome_fits core (NeedsLoad name) h = tt
  outcome_fits core (NeedsLink n) h = tt
  outcome_fits core (NeedsInit n) h = tt

  pub effect_fits : (site : Site) → IsOver now site.classes → Stands site.core site.t site.thread site.frame
      → (behind_call : MethodFrame → Option ℕ) (code : List (ℕ × Instr)) (i : Instr) → FitsOutcome now (effect behind_call site code i)
  effect_fits site over stands behind_call code i =
      outcome_fits site.core (effect behind_call site code i)
      (effect_follows Ok Anything site (fits_rules site.classes site.t over) stands (all_hold site.core) behind_call code i)

  pub entry_fits : (core : Core) (classes : List Class) (t : ThreadNo) (thread : Thread) (main : Name) → IsOver now classes
      → thread.frames ≡ [] → frames_at core t ≡ [] → FitsOutcome now (entry_outcome core classes t thread main)
  entry_fits core classes t thread main over none empty =
      outcome_fits core (entry_outcome core classes t thread main)
      (entry_follows Ok Anything core classes t thread main (fits_rules classes t over) none empty tt (all_hold core))
