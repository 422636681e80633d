-- What is kept of the classes after every schedule.
use Rattle.instruction_effect.proofs.ActRules.{AreArrays}
use Rattle.jv_names.specs.declared.descriptor.FieldType.{FieldType}
use Rattle.link_versions.specs.Changes.{IsElementThere}
use Rattle.link_versions.specs.Classes.{Class}
use Rattle.machine_state.specs.Acts.{Act, AddsClass, Changes, MarksDeath, Notes, SetsPhase, State, acted, birth_after, changed, raises, stepped}
use Rattle.machine_state.specs.Bytes.{AllHoldBytes}
use Rattle.machine_state.specs.Core.{Core, has_ended}
use Rattle.machine_state.specs.Laws.{names_of}
use Rattle.machine_state.specs.Linked.{array_type}
use Rattle.machine_state.specs.Trace.{Died, VMDeath}
use Rattle.machine_steps.proofs.FoundKinds.{all_arrays, there_element}
use Rattle.machine_steps.proofs.HavingParts.{traces_hold}
use Rattle.machine_steps.proofs.KeptActs.{AddsArray, Kept, acts_kept}
use Rattle.machine_steps.proofs.KeptCalls.{records_kept}
use Rattle.machine_steps.proofs.KeptLoads.{load_kept}
use Rattle.machine_steps.proofs.KeptSteps.{AddsNoClass, AreBased, AreSame, AreThere, IsRight, all_among, base_classes, died_plain, done, idle_right, inits_plain, itself_kept, same_based, starts_new, starts_old}
use Rattle.machine_steps.proofs.LoadSteps.{ArePlain, Loading, ThreadGoes, thread_goes}
use Rattle.machine_steps.proofs.LoadingSupers.{IsIn, in_second}
use Rattle.machine_steps.proofs.MadeClasses.{base_names}
use Rattle.machine_steps.proofs.NextCalls.{performs_next_call}
use Rattle.machine_steps.proofs.NextTakes.{next_takes}
use Rattle.machine_steps.proofs.Seen.{kept_after}
use Rattle.machine_steps.proofs.Stepping.{classes_stay}
use Rattle.machine_steps.specs.Actors.{inits, live_acts, machine_acts, next_acts, next_call, phase_acts, starts}
use Rattle.machine_steps.specs.Calls.{NextCall, answer_to, performs, refusal_of, refused, reply, taken}
use Rattle.machine_steps.specs.LawfulClasses.{CallsInstall, InstallsOnly}
use Rattle.machine_steps.specs.Laws.{ComesBefore}
use Rattle.machine_steps.specs.Reachable.{CallsRecord, IsOrderly, IsRecord}
use Rattle.machine_steps.specs.Replay.{opening, run_from, state, step, step_by}
use Rattle.machine_steps.specs.Sites.{classes_now}
use Rattle.machine_steps.specs.ThreadRules.{is_live}
use Rattle.machine_steps.specs.World.{Answer, World}
use Rattle.std.proofs.Common.{Bool, List, None, Option, Some, [], ap, false, inl, inr, refl, subst, sym, true, ℕ, ◌++◌, ◌∙◌, ◌∷◌, ◌≡◌, ◌⊎◌}
use Rattle.std.proofs.lemmas.List.Sums.{fold-append}
use Rattle.std.specs.List.{AllByRecursion, list_all}
use Rattle.std.specs.Prelude.{option_map}
use Rattle.ti_codes.specs.declared.error.ErrorCode.{ErrorCode}
use Rattle.ti_codes.specs.declared.phase.Phase.{Phase}
use Rattle.ti_codes.specs.declared.phase.Phase.TheVariants as phases
use Rattle.ti_ids.specs.declared.actor.Actor.{Actor}
use Rattle.ti_ids.specs.declared.actor.Actor.TheVariants.{Agent, Thread, Vm}
use Rattle.ti_ids.specs.declared.number.ThreadNo.{ThreadNo}
use Rattle.ti_ids.specs.declared.state.InitState.TheVariants as states

-- ---- calls

module _ (w : World) (records : CallsRecord w) (s : State) (actor : Actor) (birth : ℕ) where
  records_same : (x : State) (acts : List Act) → AllByRecursion IsRecord acts → AreSame x.core (done w actor birth x acts).core
  records_same x [] h = record { phase = refl; classes = refl; failures = refl }
  records_same x (Changes c ∷ acts) h = absurd h.0
  records_same x (Notes what ∷ acts) h =
      let rest = records_same (acted w.job actor birth x (Notes what)) acts h.1 in
      record { phase = rest.phase; classes = rest.classes; failures = rest.failures }

  module _ (c : NextCall) (is : next_call w s actor ≡ Some c) where
    answered_by : (refusal : Option ErrorCode) → AllByRecursion IsRecord (elim refusal as (λ _. Answer) [
      | Some code ↦ refused code
      | None ↦ w.answers (taken c s) c.pending.environment c.pending.call actor
    ]).acts
    answered_by (Some code) = tt
    answered_by None = records (taken c s) c.pending.environment c.pending.call actor

    abbrev does : List Act
    does = (answer_to w s actor c).acts

    answered : AllByRecursion IsRecord does
    answered = answered_by (refusal_of w s actor c)

    abbrev last : List Act
    last = reply c (answer_to w s actor c) ∷ []

    taken_same : AreSame s.core (changed 0 c.take s.core)
    taken_same =
        next_takes (λ change. AreSame s.core (changed 0 change s.core)) (λ a. record { phase = refl; classes = refl; failures = refl })
        (λ env. record { phase = refl; classes = refl; failures = refl }) w s actor c is

    taken_so : acted w.job actor birth s (Changes c.take) ≡ taken c s
    taken_so =
        ap (λ (core : Core). (let x : State = record s { core = core } in x))
        (next_takes (λ change. changed birth change s.core ≡ changed 0 change s.core) (λ a. refl) (λ env. refl) w s actor c is)

    abbrev performed : State
    performed = done w actor birth (taken c s) does

    whole : done w actor birth s (performs w s actor c) ≡ done w actor birth performed last
    whole =
        ap (λ (x : State). done w actor birth x (does ++ last)) taken_so ∙ fold-append (acted w.job actor birth) (taken c s) does last

    taken_kept : Kept w s → Kept w (taken c s)
    taken_kept kept = subst (λ (l : List _). Kept w (record s { core = record (changed 0 c.take s.core) { classes = l } })) (sym taken_same.classes) kept

    pub call_right : InstallsOnly w actor (taken c s) does → IsRight w s → IsRight w (done w actor birth s (performs w s actor c))
    call_right only right =
        subst (IsRight w) (sym whole) (record {
          kept = records_kept w actor birth performed last (tt, tt) ((λ name. tt), tt)
              (records_kept w actor birth (taken c s) does answered only (taken_kept right.kept));
          based = same_based performed.core (done w actor birth performed last).core (records_same performed last (tt, tt))
              (same_based (taken c s).core performed.core (records_same (taken c s) does answered)
              (same_based s.core (taken c s).core taken_same right.based));
        })

-- ---- the machine's own steps

module _ (w : World) (birth : ℕ) (s : State) (right : IsRight w s) where
  unbegun : (phase : Phase) → s.core.phase ≡ phase → (phases.OnLoad ≡ phase → ⊥) → AreBased s.core → AreThere s.core
  unbegun phase is other (inl there) = there
  unbegun phase is other (inr none) = absurd (other (sym none.phase ∙ is))

  starts_right : (acts : List Act) → starts ≡ acts → AreBased s.core → IsRight w (done w Vm birth s acts)
  starts_right acts same (inl there) =
      subst (λ (l : List Act). IsRight w (done w Vm birth s l)) same (starts_old w Vm birth s right.kept there)
  starts_right acts same (inr none) =
      subst (λ (l : List Act). IsRight w (done w Vm birth s l)) same (starts_new w Vm birth s right.kept none)

  idle : (own acts : List Act) → own ≡ acts → ArePlain own → AllByRecursion AddsNoClass own → AreThere s.core
      → IsRight w (done w Vm birth s acts)
  idle own acts same plain none there =
      subst (λ (l : List Act). IsRight w (done w Vm birth s l)) same (idle_right w Vm birth s own plain none right.kept there)

  live_right : (raised ended : Bool) (acts : List Act) → live_acts raised ended ≡ Some acts → AreThere s.core → IsRight w (done w Vm birth s acts)
  live_right true ended acts e there =
      idle (Changes (SetsPhase phases.Dead) ∷ []) acts (let same : Changes (SetsPhase phases.Dead) ∷ [] ≡ acts = cc in same) (tt, tt) (tt, tt) there
  live_right false true acts e there =
      let own : List Act = Changes MarksDeath ∷ Notes Died ∷ raises VMDeath ∷ [] in
      idle own acts (let same : own ≡ acts = cc in same) died_plain (tt, (tt, (tt, tt))) there
  live_right false false acts e there = absurd cc

  pub phase_right : (phase : Phase) → s.core.phase ≡ phase → (acts : List Act) → phase_acts s.core phase ≡ Some acts
      → IsRight w (done w Vm birth s acts)
  phase_right phases.OnLoad is acts e = starts_right acts (let same : starts ≡ acts = cc in same) right.based
  phase_right phases.Primordial is acts e = absurd cc
  phase_right phases.Start is acts e =
      idle inits acts (let same : inits ≡ acts = cc in same) inits_plain (tt, (tt, (tt, (tt, tt))))
      (unbegun phases.Start is (λ k. absurd cc) right.based)
  phase_right phases.Live is acts e =
      live_right s.core.death_raised (list_all has_ended s.core.threads) acts e (unbegun phases.Live is (λ k. absurd cc) right.based)
  phase_right phases.Dead is acts e = absurd cc

-- ---- steps of threads

-- an initialized class that is added is of an array whose element is there, where the array classes are as they should be
abbrev pub AddsKnown : List Class → Act → Type 0
AddsKnown now (Changes (AddsClass name state)) =
    state ≡ states.Initialized → AreArrays now → (type : FieldType) × (array_type name ≡ Some type) × IsElementThere now type.element
AddsKnown now (Changes c) = Unit {0}
AddsKnown now (Notes what) = Unit {0}

-- so is each that a step of a thread adds which performs no call
abbrev pub AddsKnownArrays : World → Type 0
AddsKnownArrays w = (s : State) (t : ThreadNo) (acts : List Act) → is_live s.core.phase ≡ true → next_call w s (Thread t) ≡ None
    → next_acts w s (Thread t) ≡ Some acts → AllByRecursion (AddsKnown (classes_now w s)) acts

module _ (w : World) (s : State) (t : ThreadNo) (birth : ℕ) (right : IsRight w s) where
  arrays_of : (acts : List Act) → AllByRecursion (AddsKnown (classes_now w s)) acts → AllByRecursion (AddsArray (names_of s.core.classes)) acts
  arrays_of [] h = tt
  arrays_of (Changes (AddsClass name state) ∷ acts) h = (
    λ is. (let k = h.0 is (all_arrays w.job w.turns s.trace s.core.classes right.kept.made) in
        (k.0, (k.1, there_element w.job w.turns s.trace s.core.classes k.0.element k.2))),
    arrays_of acts h.1,
  )
  arrays_of (Changes c ∷ acts) h = (tt, arrays_of acts h.1)
  arrays_of (Notes what ∷ acts) h = (tt, arrays_of acts h.1)

  live_based : is_live s.core.phase ≡ true → AreBased s.core → AreThere s.core
  live_based live (inl there) = there
  live_based live (inr none) =
      absurd (let bad : false ≡ true = ap is_live (sym none.phase) ∙ live in cc)

  pub thread_kept : (plain : IsOrderly w) (acts : List Act) → ThreadGoes w s t acts → AllByRecursion (AddsKnown (classes_now w s)) acts
      → AllHoldBytes (done w (Thread t) birth s acts).trace → Kept w (done w (Thread t) birth s acts)
  thread_kept plain acts goes known holds = by goes.goes
    where
      by : ArePlain acts ⊎ Loading w (classes_now w s) s t acts → Kept w (done w (Thread t) birth s acts)
      by (inl idle) =
          (acts_kept w (Thread t) birth (names_of s.core.classes) s acts idle (arrays_of acts known) (itself_kept w (Thread t) birth s right.kept)).kept
      by (inr h) =
          load_kept w plain s t birth (base_classes w s (live_based goes.live right.based)) acts h.first h.more h.before h.loads h.whole right.kept
          holds

  grown_there : (after : State) → ComesBefore (names_of s.core.classes) (names_of after.core.classes) → AreThere s.core → AreThere after.core
  grown_there after grown there =
      all_among base_names (names_of s.core.classes) (names_of after.core.classes)
      (λ name h. subst (IsIn name) (sym grown.grown) (in_second name grown.new (names_of s.core.classes) h)) there

-- ---- every step

last_step : (w : World) (s : State) (front : List Actor) (actor : Actor) → run_from w s (front ++ actor ∷ []) ≡ step w (run_from w s front) actor
last_step w s [] actor = refl
last_step w s (first ∷ front) actor = last_step w (step w s first) front actor

module _ (w : World) (plain : IsOrderly w) (records : CallsRecord w) (installs : CallsInstall w) (known : AddsKnownArrays w) where
  module _ (front : List Actor) (right : IsRight w (state w front)) where
    abbrev s : State
    s = state w front

    holds_then : (actor : Actor) (acts : List Act) → next_acts w s actor ≡ Some acts → AllHoldBytes (stepped w.job actor s acts).trace
    holds_then actor acts e =
        subst (λ (n : Option (List Act)). AllHoldBytes (step_by w s actor n).trace) e
        (subst (λ (x : State). AllHoldBytes x.trace) (last_step w (opening w.job) front actor) (traces_hold w (front ++ actor ∷ []) plain))

    named_then : (actor : Actor) (acts : List Act) → next_acts w s actor ≡ Some acts
        → ComesBefore (names_of s.core.classes) (names_of (stepped w.job actor s acts).core.classes)
    named_then actor acts e =
        subst (λ (n : Option (List Act)). ComesBefore (names_of s.core.classes) (names_of (step_by w s actor n).core.classes)) e
        (classes_stay w s actor)

    ended : (actor : Actor) (acts : List Act) → IsRight w (done w actor (birth_after s.trace acts) s acts) → IsRight w (stepped w.job actor s acts)
    ended actor acts r = record { kept = r.kept; based = r.based }

    own_right : (actor : Actor) (acts : List Act) → next_acts w s actor ≡ Some acts → next_call w s actor ≡ None → IsRight w (stepped w.job actor s acts)
    own_right Vm acts e none =
        ended Vm acts (phase_right w (birth_after s.trace acts) s right s.core.phase refl acts
        (sym (ap (machine_acts w s) none) ∙ e))
    own_right (Agent env) acts e none =
        absurd (let bad : None ≡ Some acts = sym (ap (option_map (performs w s (Agent env))) none) ∙ e in cc)
    own_right (Thread t) acts e none =
        let goes = thread_goes w s t none acts e in
        let after = stepped w.job (Thread t) s acts in record {
          kept = thread_kept w s t (birth_after s.trace acts) right plain acts goes (known s t acts goes.live none e) (holds_then (Thread t) acts e);
          based = inl (grown_there w s t 0 right after (named_then (Thread t) acts e) (live_based w s t 0 right goes.live right.based));
        }

    step_right : (actor : Actor) (acts : List Act) → next_acts w s actor ≡ Some acts → IsRight w (stepped w.job actor s acts)
    step_right actor acts e = by (next_call w s actor) refl
      where
        by : (next : Option NextCall) → next_call w s actor ≡ next → IsRight w (stepped w.job actor s acts)
        by None is = own_right actor acts e is
        by (Some c) is =
            let same : performs w s actor c ≡ acts = (let both : Some (performs w s actor c) ≡ Some acts = sym (performs_next_call w s actor c is) ∙ e in cc) in
            ended actor acts (subst (λ (l : List Act). IsRight w (done w actor (birth_after s.trace acts) s l)) same
            (call_right w records s actor (birth_after s.trace acts) c is (installs front actor c is) right))

  opens_right : IsRight w (opening w.job)
  unfolding opening
  opens_right = record {
    kept = record { made = tt; unmade = λ name absent. refl };
    based = inr (record { phase = refl; classes = refl; failures = refl });
  }

  pub all_right : (schedule : List Actor) → IsRight w (state w schedule)
  all_right schedule = kept_after w (IsRight w) opens_right (λ front actor acts right e. step_right front right actor acts e) schedule
