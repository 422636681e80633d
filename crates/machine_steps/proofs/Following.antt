-- The acts of every step of every actor follow one another as the rules of a thread's acts say, where those of calls and of the machine do.
use Rattle.std.proofs.Common.{◌≡◌, ◌∙◌, ℕ, Bool, true, false, List, ◌∷◌, ◌++◌, Option, Some, None, refl, sym, subst}
use Rattle.std.specs.Prelude.{option_map, unwrap_or, if◌then◌else◌}
use Rattle.ti_ids.specs.Maybe.{◌>>=◌}
use Rattle.ti_ids.specs.declared.number.ThreadNo.{ThreadNo}
use Rattle.ti_ids.specs.declared.actor.Actor.{Actor}
use Rattle.ti_ids.specs.declared.actor.Actor.TheVariants as actors
use Rattle.ti_ids.specs.declared.value.Value.{Value}
use Rattle.ti_ids.specs.declared.value.Value.TheVariants as value
use Rattle.ti_ids.specs.declared.state.ThreadState.TheVariants.{Entering, Ended}
use Rattle.bytecode_local.specs.Effect.{following, instr_at}
use Rattle.class_code.specs.declared.instr.Instr.{Instr}
use Rattle.class_tree.specs.Trees.{Tree}
use Rattle.link_versions.specs.Classes.{Class}
use Rattle.thread_frames.specs.declared.frame.StackEntry.TheVariants.{Java}
use Rattle.machine_state.specs.Core.{Core, MethodFrame, StackFrame, Thread, thread_at}
use Rattle.machine_state.specs.FrameCode.{code, tree_of_frame}
use Rattle.machine_state.specs.Trace.{ThreadEnd, ThreadStart}
use Rattle.machine_state.specs.Acts.{Act, State, core_after}
use Rattle.instruction_effect.specs.CallEntry.{entry_outcome}
use Rattle.instruction_effect.specs.Outcomes.{Site}
use Rattle.instruction_effect.proofs.ActRules.{CoreHolds, Follow, Stands}
use Rattle.instruction_effect.proofs.FollowingEffect.{effect_follows, entry_follows}
use Rattle.instruction_effect.proofs.FollowingReads.{thread_holds}
use Rattle.machine_steps.specs.World.{World}
use Rattle.machine_steps.specs.Throwing.{kept_error}
use Rattle.machine_steps.specs.Actors.{call_of_rule, machine_acts, next_acts, next_call, phase_acts}
use Rattle.machine_steps.specs.Announcing.{announced, announcing}
use Rattle.machine_steps.specs.Calls.{NextCall, has_calls, performs, queued}
use Rattle.machine_steps.specs.Sites.{Stop, classes_now, stop_of}
use Rattle.machine_steps.specs.ThreadRules.{Begins, Ends, EntersMethod, Executes, Initializes, Joins, Performs, Stays, ThreadRule, Unwinds, Wakes, rule_of}
use Rattle.machine_steps.specs.Threads.{announced_state, behind_instruction, executes, outcome_of, resolved, rule_acts, thread_acts_of}
use Rattle.machine_steps.proofs.AnnouncedFrames.{announced_stands}
use Rattle.machine_steps.proofs.FollowingLoads.{IfFollow, held_after, progress_follows}
use Rattle.machine_steps.proofs.FollowingThreads.{announced_core, first_follows, joins_follow, kept, resolved_follows, stack_is, unwinds_follow, wakes_follow}
use Rattle.machine_steps.proofs.OwnRules.{Own, OwnOk, SeenHolds, own_rules, seen_core}
use Rattle.machine_steps.proofs.RuleThreads.{IsOf, rule_is_of}
use Rattle.machine_steps.proofs.Seen.{follow_both, follow_keeps}
use Rattle.machine_steps.proofs.StepRules.{StepRules, seen}

module _ (w : World) (classes : List Class) (t : ThreadNo) (Ok : Core → Act → Type 0) (Holds : Core → Value → Type 0)
    (rules : StepRules w classes t Ok Holds) where
  abbrev If : Core → Option (List Act) → Type 0
  If core acts = IfFollow w classes t Ok Holds rules core acts

  -- ---- an instruction

  -- in the state in which it has been announced
  module _ (s : State) (whole : CoreHolds Holds (seen s.core)) (thread : Thread) (f : MethodFrame) (stands : Stands s.core t thread f) where
    abbrev Outcome : Option Stop → Type 0
    Outcome stop = Own classes t Ok Holds rules.acts s.core (outcome_of w s stop)

    abbrev site_in : List (ℕ × Instr) → Tree → Site
    site_in list tree = record {
      core = s.core;
      classes = classes;
      t = t;
      thread = thread;
      frame = f;
      pool = tree.pool;
      next = unwrap_or (following list f.pc) 65535;
    }

    abbrev stop_in : List (ℕ × Instr) → Instr → Tree → Option Stop
    stop_in list i tree = Some (record { site = site_in list tree; code = list; instr = i })

    tree_follows : (list : List (ℕ × Instr)) (i : Instr) (tree : Option Tree) → Outcome (tree >>= stop_in list i)
    tree_follows list i None = tt
    tree_follows list i (Some tree) =
        effect_follows (OwnOk classes t Ok Holds) (SeenHolds classes t Ok Holds) (site_in list tree) (own_rules classes t Ok Holds rules.acts) stands
        (seen_core classes t Ok Holds s.core whole) (behind_instruction w s) list i

    instr_follows : (list : List (ℕ × Instr)) (i : Option Instr)
        → Outcome (i >>= λ i. tree_of_frame w.job w.turns s.trace s.core.classes f >>= stop_in list i)
    instr_follows list None = tt
    instr_follows list (Some i) = tree_follows list i (tree_of_frame w.job w.turns s.trace s.core.classes f)

    code_follows : (list : Option (List (ℕ × Instr)))
        → Outcome (list >>= λ list. instr_at list f.pc >>= λ i. tree_of_frame w.job w.turns s.trace s.core.classes f >>= stop_in list i)
    code_follows None = tt
    code_follows (Some list) = instr_follows list (instr_at list f.pc)

    stop_follows : Outcome (stop_of w s classes t thread f)
    stop_follows = code_follows (code w.job w.turns s.trace s.core.classes f)

  -- it is performed behind what announces it, unless calls wait then
  performed_follows : (core : Core) (waits : Bool) (first : List Act) (acts : Option (List Act)) → Follow Ok core first
      → If (core_after 0 core first) acts → If core (acts >>= λ acts. Some (if waits then first else first ++ acts))
  performed_follows core waits first None h k = tt
  performed_follows core true first (Some acts) h k = h
  performed_follows core false first (Some acts) h k = follow_both Ok core first acts h k

  -- ---- what each rule does

  module _ (s : State) (whole : CoreHolds Holds (seen s.core)) (thread : Thread) (found : thread_at s.core t ≡ Some thread) where
    abbrev now : Core
    now = seen s.core

    executes_follow : (f : MethodFrame) (below : List StackFrame) → thread.frames ≡ Java f ∷ below → If now (executes w s classes t thread f)
    executes_follow f below top =
        let stop = stop_of w s classes t thread f in
        let first : List Act = announcing w s classes t f stop f.announced in
        let after : State = announced_state w s t first in
        let g : MethodFrame = announced f in
        let announces : Follow Ok now first = first_follows w classes t Ok Holds rules s whole thread found f below top stop f.announced in
        let same : core_after 0 now first ≡ seen after.core =
        announced_core w classes t Ok Holds rules s whole thread found f below top stop f.announced in
        let holds : CoreHolds Holds (seen after.core) =
        subst (CoreHolds Holds) same (follow_keeps Ok (CoreHolds Holds) rules.acts.keeps now first announces whole) in
        let stands : Stands after.core t thread g = announced_stands w s classes t thread found f below top stop f.announced refl in
        let o = outcome_of w after (stop_of w after classes t thread g) in
        performed_follows now (has_calls after.core (actors.Thread t)) first (resolved w after classes t o) announces
        (subst (λ (c : Core). If c (resolved w after classes t o)) (sym same)
        (resolved_follows w classes t Ok Holds rules after
        (kept_after first announces (seen after.core) same) o (stop_follows after holds thread g stands)))
      where
        kept_after : (first : List Act) → Follow Ok now first → (core : Core) → core_after 0 now first ≡ core
            → Holds core (value.Ref (Some kept_error))
        kept_after first h core same =
            subst (λ (c : Core). Holds c (value.Ref (Some kept_error))) same
            (held_after w classes t Ok Holds rules now first (value.Ref (Some kept_error)) h (kept w classes t Ok Holds rules s whole thread found))

    rule_follows : (rule : ThreadRule) → IsOf thread rule
        → ((p : NextCall) → call_of_rule t rule ≡ Some p → Follow Ok now (performs w s (actors.Thread t) p))
        → If now (rule_acts w s classes t thread rule)
    rule_follows (Performs p) is calls = calls (queued (actors.Thread t) p) refl
    rule_follows Begins is calls = (rules.acts.sets_state now Entering, (rules.acts.raised _ (ThreadStart t), tt))
    rule_follows (Unwinds o f) is calls = unwinds_follow w classes t Ok Holds rules s whole thread found f is.1 o is.0 is.2
    rule_follows (Wakes o) is calls = wakes_follow w classes t Ok Holds rules s whole thread found o is
    rule_follows (Joins other) is calls = joins_follow w classes t Ok Holds rules s whole thread found other
    rule_follows (Stays o) is calls = tt
    rule_follows (Initializes n) is calls = progress_follows w classes t Ok Holds rules s (kept w classes t Ok Holds rules s whole thread found) n
    rule_follows (Executes f) is calls = executes_follow f is.0 is.1
    rule_follows EntersMethod is calls =
        resolved_follows w classes t Ok Holds rules s (kept w classes t Ok Holds rules s whole thread found)
        (entry_outcome s.core classes t thread w.job.main)
        (entry_follows (OwnOk classes t Ok Holds) (SeenHolds classes t Ok Holds) s.core classes t thread w.job.main
        (own_rules classes t Ok Holds rules.acts) is (stack_is w classes t Ok Holds rules s whole thread found ∙ is)
        (let held = thread_holds Holds now whole t thread found in held.object) (seen_core classes t Ok Holds s.core whole))
    rule_follows Ends is calls = (rules.acts.sets_state now Ended, (rules.acts.raised _ (ThreadEnd t), tt))

    if_rule : (rule : Option ThreadRule) → rule_of s t thread ≡ rule
        → ((p : NextCall) → (rule >>= call_of_rule t) ≡ Some p → Follow Ok now (performs w s (actors.Thread t) p))
        → If now (rule >>= rule_acts w s classes t thread)
    if_rule None is calls = tt
    if_rule (Some rule) is calls = rule_follows rule (rule_is_of thread s t rule is) calls

  pub thread_follows : (s : State) → CoreHolds Holds (seen s.core) → (thread : Option Thread) → thread_at s.core t ≡ thread
      → ((p : NextCall) → ((thread >>= rule_of s t) >>= call_of_rule t) ≡ Some p → Follow Ok (seen s.core) (performs w s (actors.Thread t) p))
      → If (seen s.core) (thread >>= thread_acts_of w s classes t)
  thread_follows s whole None found calls = tt
  thread_follows s whole (Some thread) found calls = if_rule s whole thread found (rule_of s t thread) refl calls

-- ---- every actor

module _ (w : World) (Ok : Core → Act → Type 0) (Holds : Core → Value → Type 0) (s : State) where
  abbrev Gives : Option (List Act) → Type 0
  Gives next = (acts : List Act) → next ≡ Some acts → Follow Ok (seen s.core) acts

  given : (t : ThreadNo) (rules : StepRules w (classes_now w s) t Ok Holds) (next : Option (List Act))
      → IfFollow w (classes_now w s) t Ok Holds rules (seen s.core) next → Gives next
  given t rules None h acts is = absurd cc
  given t rules (Some found) h acts is = let same : found ≡ acts = cc in subst (Follow Ok (seen s.core)) same h

  abbrev CallsFollow : Actor → Option NextCall → Type 0
  CallsFollow actor next = (c : NextCall) → next ≡ Some c → Follow Ok (seen s.core) (performs w s actor c)

  machine_gives : (next : Option NextCall) → CallsFollow actors.Vm next → Gives (phase_acts s.core s.core.phase) → Gives (machine_acts w s next)
  machine_gives None calls phase acts is = phase acts is
  machine_gives (Some c) calls phase acts is =
      let same : performs w s actors.Vm c ≡ acts = cc in subst (Follow Ok (seen s.core)) same (calls c refl)

  agent_gives : (actor : Actor) (next : Option NextCall) → CallsFollow actor next → Gives (option_map (performs w s actor) next)
  agent_gives actor None calls acts is = absurd cc
  agent_gives actor (Some c) calls acts is =
      let same : performs w s actor c ≡ acts = cc in subst (Follow Ok (seen s.core)) same (calls c refl)

  pub steps_follow : (actor : Actor) → ((t : ThreadNo) → StepRules w (classes_now w s) t Ok Holds) → CoreHolds Holds (seen s.core)
      → ((c : NextCall) → next_call w s actor ≡ Some c → Follow Ok (seen s.core) (performs w s actor c))
      → ((acts : List Act) → phase_acts s.core s.core.phase ≡ Some acts → Follow Ok (seen s.core) acts)
      → (acts : List Act) → next_acts w s actor ≡ Some acts → Follow Ok (seen s.core) acts
  steps_follow actors.Vm rules whole calls phase = machine_gives (next_call w s actors.Vm) calls phase
  steps_follow (actors.Thread t) rules whole calls phase =
      given t (rules t) (next_acts w s (actors.Thread t))
      (thread_follows w (classes_now w s) t Ok Holds (rules t) s whole (thread_at s.core t) refl calls)
  steps_follow (actors.Agent env) rules whole calls phase = agent_gives (actors.Agent env) (next_call w s (actors.Agent env)) calls
