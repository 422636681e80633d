-- A step of a thread that performs no call either loads a class, or it makes no version of any class and adds none that isn't initialized.
use Rattle.instruction_effect.proofs.FittingEffect.{entry_fits}
use Rattle.instruction_effect.proofs.FittingForms.{AllFit, Fits, FitsOutcome}
use Rattle.instruction_effect.specs.CallEntry.{entry_outcome}
use Rattle.instruction_effect.specs.Monitors.{wish_ends}
use Rattle.instruction_effect.specs.Outcomes.{Fills, Goes, NeedsInit, NeedsLink, NeedsLoad, Outcome, Throws, ThrowsObject}
use Rattle.jv_names.specs.Names.{Name}
use Rattle.link_versions.specs.Classes.{Class}
use Rattle.machine_state.specs.Acts.{Act, AddsClass, Changes, Fails, Notes, SetsTop, State, raises}
use Rattle.machine_state.specs.Chains.{chain, rules_do}
use Rattle.machine_state.specs.Core.{MethodFrame, Thread, thread_at}
use Rattle.machine_state.specs.Linked.{tree_of}
use Rattle.machine_state.specs.Trace.{Event, LoadFailed, Raised}
use Rattle.machine_state.specs.Versions.{Nothing, making}
use Rattle.machine_steps.proofs.AcceptedTrees.{IsTold}
use Rattle.machine_steps.proofs.AnnouncedFrames.{announced_stands}
use Rattle.machine_steps.proofs.RuleThreads.{IsOf, rule_is_of}
use Rattle.machine_steps.proofs.FittingRules.{announced_fits, joins_fit, stop_fits, unwinds_fit, wakes_fit}
use Rattle.machine_steps.proofs.FittingSteps.{Raises, append_all, init_fits, link_fits, new_fit, new_fits, progress_fits, thrown_fits, wish_fits}
use Rattle.machine_steps.specs.Actors.{call_of_rule, next_call}
use Rattle.machine_steps.specs.Announcing.{announced, announcing, pre_events}
use Rattle.machine_steps.specs.Calls.{has_calls}
use Rattle.machine_steps.specs.Loading.{Load, Loads, Met, Refuses, Repeats, bytes_given, is_accepted, load_ends, load_step, loads, next_load, turn_notes, turns_from}
use Rattle.machine_steps.specs.Sites.{Stop, classes_now, stop_of}
use Rattle.machine_steps.specs.ThreadRules.{Begins, Ends, EntersMethod, Executes, Initializes, Joins, Performs, Stays, ThreadRule, Unwinds, Wakes, is_live, may_act, rule_of, thread_rules}
use Rattle.machine_steps.specs.Threads.{activity_of, announced_state, begins, ends_thread, executes, outcome_of, resolved, rule_acts, thread_acts, thread_acts_of}
use Rattle.machine_steps.specs.Throwing.{class_name_of, full_name, kept_error, throws, throws_new}
use Rattle.machine_steps.specs.World.{World}
use Rattle.std.proofs.Common.{Bool, List, None, Option, Some, [], ap, cond, false, inl, inr, length, map, refl, subst, sym, true, ℕ, ◌++◌, ◌+◌, ◌∙◌, ◌∷◌, ◌≡◌, ◌⊎◌}
use Rattle.std.specs.List.{AllByRecursion}
use Rattle.std.specs.Option.{option_map_or}
use Rattle.std.specs.Prelude.{codes, if◌then◌else◌, ◌&&◌}
use Rattle.ti_ids.specs.Maybe.{◌>>=◌}
use Rattle.ti_ids.specs.declared.actor.Actor.TheVariants as actors
use Rattle.ti_ids.specs.declared.number.ThreadNo.{ThreadNo}
use Rattle.ti_ids.specs.declared.state.Announced.{Announced}
use Rattle.ti_ids.specs.declared.state.Announced.TheVariants.{Caught, New, No, Yes}
use Rattle.ti_ids.specs.declared.state.InitState.TheVariants as states
use Rattle.transform_chain.specs.Turns.{fold_from}
use Rattle.transform_chain.specs.declared.folded.Turn.{Turn}
use Rattle.class_tree.specs.Tree.{first_of}

-- ---- what acts are

-- no version is made, and no class added but as initialized
abbrev pub IsPlain : Act → Type 0
IsPlain (Changes (AddsClass name state)) = state ≡ states.Initialized
IsPlain (Changes c) = Unit {0}
IsPlain (Notes what) = (class : Name) → making class what ≡ Nothing

abbrev pub ArePlain : List Act → Type 0
ArePlain acts = AllByRecursion IsPlain acts

-- what comes before a load in its step: a top frame goes on, events are raised, and transformers have turns
abbrev pub IsBefore : Act → Type 0
IsBefore (Changes (SetsTop t f)) = Unit {0}
IsBefore (Changes c) = ⊥
IsBefore (Notes what) = IsTold what

abbrev pub made_of : World → State → ThreadNo → Name → Bool
made_of w s t name =
    let bytes = bytes_given w.job name in
    is_accepted name (tree_of bytes) (tree_of (fold_from name 1 (chain w.job (rules_do w.turns) s.trace (actors.Thread t)) bytes).made)

-- the acts are those of a load that is accepted
pub record LoadsNow (w : World) (now : List Class) (s : State) (t : ThreadNo) (acts : List Act) : Type 0 where
  pub wanted : Name
  pub name : Name
  pub next : next_load w s.core now wanted ≡ Loads name
  pub accepted : made_of w s t name ≡ true
  pub is : acts ≡ loads w s now t name

-- so they are behind what announces an instruction
pub record Loading (w : World) (now : List Class) (s : State) (t : ThreadNo) (acts : List Act) : Type 0 where
  pub first : List Act
  pub more : List Act
  pub before : AllByRecursion IsBefore first
  pub loads : LoadsNow w now (announced_state w s t first) t more
  pub whole : acts ≡ first ++ more

plain_act : (now : List Class) (a : Act) → Fits now a → IsPlain a
plain_act now (Changes (AddsClass name state)) h = h
plain_act now (Changes c) h = tt
plain_act now (Notes (Raised e)) h = λ class. refl
plain_act now (Notes what) h = absurd h

fit_plain : (now : List Class) (acts : List Act) → AllFit now acts → ArePlain acts
fit_plain now [] h = tt
fit_plain now (a ∷ acts) h = (plain_act now a h.0, fit_plain now acts h.1)

-- ---- loads

turns_plain : (class : Name) (k n : ℕ) (turns : List Turn) → ArePlain (turns_from class k n turns)
turns_plain class k n [] = tt
turns_plain class k n (turn ∷ turns) = (λ other. refl, turns_plain class (k + 1) n turns)

pub turns_before : (class : Name) (k n : ℕ) (turns : List Turn) → AllByRecursion IsBefore (turns_from class k n turns)
turns_before class k n [] = tt
turns_before class k n (turn ∷ turns) = (tt, turns_before class (k + 1) n turns)

module _ (w : World) (s : State) (now : List Class) (t : ThreadNo) where
  -- acts that an answer gives are plain, or those of a load
  abbrev GoesNow : Option (List Act) → Type 0
  GoesNow next = (acts : List Act) → next ≡ Some acts → ArePlain acts ⊎ LoadsNow w now s t acts

  plain_now : (acts : List Act) → ArePlain acts → GoesNow (Some acts)
  plain_now acts h other is = let same : acts ≡ other = cc in inl (subst ArePlain same h)

  raised_now : (next : Option (List Act)) → Raises now next → GoesNow next
  raised_now next h acts is = inl (fit_plain now acts (h acts is))

  failing_plain : (before : List Act) (name error : Name) → ArePlain before
      → ArePlain (throws_new now s.core t (before ++ Notes (LoadFailed name error) ∷ Changes (Fails name error) ∷ []) error)
  failing_plain before name error h =
      let failing : List Act = Notes (LoadFailed name error) ∷ Changes (Fails name error) ∷ [] in
      new_fit IsPlain (λ t a. tt) (λ o. tt) (λ e class. refl) now s.core t (before ++ failing) error
      (append_all IsPlain before failing h (λ class. refl, (tt, tt)))

  loads_by : (wanted name : Name) (accepted : Bool) → next_load w s.core now wanted ≡ Loads name → made_of w s t name ≡ accepted
      → (let bytes = bytes_given w.job name in
      let all = fold_from name 1 (chain w.job (rules_do w.turns) s.trace (actors.Thread t)) bytes in
      GoesNow (Some (load_ends s.core now t name bytes (turn_notes name all.turns) accepted)))
  loads_by wanted name true next is acts e = inr (record {
    wanted = wanted;
    name = name;
    next = next;
    accepted = is;
    is = let bytes = bytes_given w.job name in
        let all = fold_from name 1 (chain w.job (rules_do w.turns) s.trace (actors.Thread t)) bytes in
        let same : load_ends s.core now t name bytes (turn_notes name all.turns) true ≡ acts = cc in
        sym same ∙ ap (load_ends s.core now t name bytes (turn_notes name all.turns)) (sym is);
  })
  loads_by wanted name false next is acts e =
      let all = fold_from name 1 (chain w.job (rules_do w.turns) s.trace (actors.Thread t)) (bytes_given w.job name) in
      plain_now _ (failing_plain (turn_notes name all.turns) name (codes "java/lang/ClassFormatError")
      (turns_plain name 1 (length all.turns) all.turns)) acts e

  load_goes : (wanted : Name) (load : Load) → next_load w s.core now wanted ≡ load → GoesNow (load_step w s now t load)
  load_goes wanted Met next acts e = absurd cc
  load_goes wanted (Loads name) next acts e = loads_by wanted name (made_of w s t name) next refl acts e
  load_goes wanted (Refuses name error) next acts e = plain_now _ (failing_plain [] name error tt) acts e
  load_goes wanted (Repeats error) next acts e = plain_now _ (fit_plain now _ (new_fits now now s.core t [] error tt)) acts e

  resolved_goes : (o : Outcome) → FitsOutcome now o → GoesNow (resolved w s now t o)
  resolved_goes (Goes acts) h =
      plain_now _ (fit_plain now _ (append_all (Fits now) (wish_ends t (activity_of s.core t)) acts (wish_fits now t (activity_of s.core t)) h))
  resolved_goes (Throws before name) h = plain_now _ (fit_plain now _ (new_fits now now s.core t before name h))
  resolved_goes (Fills before) h = plain_now _ (fit_plain now _ (thrown_fits now now s.core t before kept_error full_name h))
  resolved_goes (ThrowsObject o) h =
      let class = class_name_of now s.core o in
      let acts = throws now s.core t [] o class in plain_now acts (fit_plain now acts (thrown_fits now now s.core t [] o class tt))
  resolved_goes (NeedsLoad name) h = load_goes name (next_load w s.core now name) refl
  resolved_goes (NeedsLink n) h = plain_now _ (fit_plain now _ (link_fits now w s now t n))
  resolved_goes (NeedsInit n) h = raised_now _ (init_fits now s now t n)

-- ---- the rules of a thread

module _ (w : World) (s : State) (t : ThreadNo) where
  abbrev now : List Class
  now = classes_now w s

  abbrev pub StepGoes : List Act → Type 0
  StepGoes acts = ArePlain acts ⊎ Loading w now s t acts

  abbrev Goes_on : Option (List Act) → Type 0
  Goes_on next = (acts : List Act) → next ≡ Some acts → StepGoes acts

  raised_goes : (next : Option (List Act)) → Raises now next → Goes_on next
  raised_goes next h acts is = inl (fit_plain now acts (h acts is))

  fit_goes : (acts : List Act) → AllFit now acts → Goes_on (Some acts)
  fit_goes acts h other is = let same : acts ≡ other = cc in inl (subst ArePlain same (fit_plain now acts h))

  none_goes : Goes_on None
  none_goes acts is = absurd cc

  at_once : (next : Option (List Act)) → GoesNow w s now t next → Goes_on next
  at_once next h acts is = by (h acts is)
    where
      by : ArePlain acts ⊎ LoadsNow w now s t acts → StepGoes acts
      by (inl plain) = inl plain
      by (inr loads) = inr (record { first = []; more = acts; before = tt; loads = loads; whole = refl })

  events_before : (events : List Event) → AllByRecursion IsBefore (map raises events)
  events_before [] = tt
  events_before (e ∷ events) = (tt, events_before events)

  announced_before : (f : MethodFrame) (stop : Option Stop) (a : Announced) → AllByRecursion IsBefore (announcing w s now t f stop a)
  announced_before f stop Yes = tt
  announced_before f stop New = (tt, events_before (pre_events w s now t f stop))
  announced_before f stop Caught = (tt, events_before (pre_events w s now t f stop))
  announced_before f stop No = (tt, events_before (pre_events w s now t f stop))

  behind_first : (first acts : List Act) → AllFit now first → AllByRecursion IsBefore first
      → ArePlain acts ⊎ LoadsNow w now (announced_state w s t first) t acts → StepGoes (first ++ acts)
  behind_first first acts fit before (inl plain) = inl (append_all IsPlain first acts (fit_plain now first fit) plain)
  behind_first first acts fit before (inr loads) =
      inr (record { first = first; more = acts; before = before; loads = loads; whole = refl })

  performed_by : (calls : Bool) (first acts : List Act) → AllFit now first → StepGoes (first ++ acts)
      → Goes_on (Some (if calls then first else first ++ acts))
  performed_by true first acts fit goes other is = fit_goes first fit other is
  performed_by false first acts fit goes other is = let same : first ++ acts ≡ other = cc in subst StepGoes same goes

  performs_with : (calls : Bool) (first : List Act) (next : Option (List Act)) → AllFit now first → AllByRecursion IsBefore first
      → GoesNow w (announced_state w s t first) now t next → Goes_on (next >>= λ acts. Some (if calls then first else first ++ acts))
  performs_with calls first None fit before goes acts is = absurd cc
  performs_with calls first (Some acts) fit before goes other is =
      performed_by calls first acts fit (behind_first first acts fit before (goes acts refl)) other is

  executes_goes : (thread : Thread) (f : MethodFrame) → thread_at s.core t ≡ Some thread → IsOf thread (Executes f)
      → Goes_on (executes w s now t thread f)
  executes_goes thread f found on =
      let stop = stop_of w s now t thread f in
      let first = announcing w s now t f stop f.announced in
      let then_state = announced_state w s t first in
      let o = outcome_of w then_state (stop_of w then_state now t thread (announced f)) in
      performs_with (has_calls then_state.core (actors.Thread t)) first (resolved w then_state now t o)
      (announced_fits now w s now t f stop f.announced) (announced_before f stop f.announced)
      (resolved_goes w then_state now t o (stop_fits now w then_state now t thread (announced f) (λ m body is. is)
      (announced_stands w s now t thread found f on.0 on.1 stop f.announced refl)))

  rule_goes : (thread : Thread) (rule : ThreadRule) → call_of_rule t rule ≡ None → thread_at s.core t ≡ Some thread → IsOf thread rule
      → Goes_on (rule_acts w s now t thread rule)
  rule_goes thread (Performs p) none found on = absurd (let bad : call_of_rule t (Performs p) ≡ None = none in cc)
  rule_goes thread Begins none found on = fit_goes (begins t) (tt, (tt, tt))
  rule_goes thread (Unwinds o f) none found on = fit_goes _ (unwinds_fit now w s now t f o)
  rule_goes thread (Wakes object) none found on = raised_goes _ (wakes_fit now w s now t thread object)
  rule_goes thread (Joins of) none found on = raised_goes _ (joins_fit now w s now t thread of)
  rule_goes thread (Stays object) none found on = none_goes
  rule_goes thread (Initializes n) none found on = raised_goes _ (progress_fits now s now t n (λ m body is. is))
  rule_goes thread (Executes f) none found on = executes_goes thread f found on
  rule_goes thread EntersMethod none found on =
      at_once _ (resolved_goes w s now t (entry_outcome s.core now t thread w.job.main)
      (entry_fits now s.core now t thread w.job.main (λ m body is. is) on
      (ap (λ (x : Option Thread). option_map_or (λ u. u.frames) x []) found ∙ on)))
  rule_goes thread Ends none found on = fit_goes (ends_thread t) (tt, (tt, tt))

  -- the step goes so, and the machine is live
  pub record ThreadGoes (acts : List Act) : Type 0 where
    pub live : is_live s.core.phase ≡ true
    pub goes : StepGoes acts

  first_so : (a b : Bool) → (a && b) ≡ true → a ≡ true
  first_so true b e = refl
  first_so false b e = absurd cc

  live_by : (may : Bool) (x : Option ThreadRule) (rule : ThreadRule) → cond may x None ≡ Some rule → may ≡ true
  live_by true x rule e = refl
  live_by false x rule e = absurd cc

  by_rule : (thread : Thread) (rule : Option ThreadRule) → thread_at s.core t ≡ Some thread → rule_of s t thread ≡ rule → (rule >>= call_of_rule t) ≡ None → (acts : List Act)
      → (rule >>= rule_acts w s now t thread) ≡ Some acts → ThreadGoes acts
  by_rule thread None found is none acts e = absurd cc
  by_rule thread (Some rule) found is none acts e =
      let may : may_act s t thread ≡ true =
      live_by (may_act s t thread) (first_of (λ (r : Option ThreadRule). r) (thread_rules s.core t thread)) rule is in
      record { live = first_so _ _ (first_so _ _ (first_so _ _ may)); goes = rule_goes thread rule none found (rule_is_of thread s t rule is) acts e }

  by_thread : (found : Option Thread) → thread_at s.core t ≡ found → ((found >>= rule_of s t) >>= call_of_rule t) ≡ None → (acts : List Act)
      → (found >>= thread_acts_of w s now t) ≡ Some acts → ThreadGoes acts
  by_thread None at none acts e = absurd cc
  by_thread (Some thread) at none acts e = by_rule thread (rule_of s t thread) at refl none acts e

  pub thread_goes : next_call w s (actors.Thread t) ≡ None → (acts : List Act) → thread_acts w s now t ≡ Some acts → ThreadGoes acts
  thread_goes none acts e = by_thread (thread_at s.core t) refl none acts e
