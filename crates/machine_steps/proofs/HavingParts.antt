-- After every schedule each frame has code, and so there are parts that stand for the state.
use Rattle.std.proofs.Math.Seq.{take-length}
use Rattle.std.proofs.lemmas.Bool.{eqb-true}
use Rattle.std.proofs.Common.{Bool, List, None, Option, Some, [], ap, arith, cond, false, inl, inr, length, refl, rules, subst, sym, take, true, ℕ, ◌<◌, ◌∙◌, ◌∷◌, ◌≡◌, ◌≤◌, ◌⊎◌}
use Rattle.class_tree.specs.Tree.{code_of}
use Rattle.class_tree.specs.declared.body.Code.{Code}
use Rattle.instruction_effect.proofs.ArrayClasses.{body_kept}
use Rattle.instruction_effect.proofs.FittingForms.{IsBodied}
use Rattle.instruction_effect.specs.Arguments.{newest_body}
use Rattle.link_versions.specs.Classes.{Class, newest_version, numbered, version_at, versions_of}
use Rattle.link_versions.specs.Members.{method_desc, method_name}
use Rattle.link_versions.specs.ReadyCode.{code_in}
use Rattle.link_versions.specs.Members.{method_in}
use Rattle.machine_state.proofs.Alike.{kind_at, linked_length}
use Rattle.machine_state.proofs.KeepingCode.{kind_stays}
use Rattle.machine_state.proofs.QuietRecords.{linked_quiet}
use Rattle.machine_state.specs.Acts.{Act, State, birth_after, born_at}
use Rattle.machine_state.specs.Bytes.{AllHoldBytes}
use Rattle.machine_state.specs.Core.{CoreClass, MethodFrame}
use Rattle.machine_state.specs.FrameCode.{code}
use Rattle.machine_state.specs.Laws.{IsThere, names_of}
use Rattle.machine_state.specs.Linked.{linked}
use Rattle.machine_state.specs.Trace.{Trace}
use Rattle.machine_steps.proofs.Births.{IsBornIn, grown_length, step_old, threads_born}
use Rattle.machine_steps.proofs.CodedFrames.{are_listed, body_coded}
use Rattle.machine_steps.proofs.FittingRules.{steps_fit}
use Rattle.machine_steps.proofs.FittingSteps.{StepFits}
use Rattle.machine_steps.proofs.ReachedFrames.{GoesQuietly, IsFine, ThreadsCoded, acts_coded, calls_fine, events_fine, held_calls, held_events, quiet_acts, threads_stay}
use Rattle.machine_steps.proofs.Standing.{parts_of_coded}
use Rattle.machine_steps.proofs.StayingCode.{born_stays, split}
use Rattle.machine_steps.proofs.Stepping.{classes_stay}
use Rattle.machine_steps.specs.Actors.{next_acts}
use Rattle.machine_steps.specs.Laws.{ComesBefore}
use Rattle.machine_steps.specs.Reachable.{AreCoded, FramesHaveCode, IsOrderly, StatesHaveParts}
use Rattle.machine_steps.specs.Replay.{opening, run_from, state, step, step_by}
use Rattle.machine_steps.specs.Sites.{classes_now}
use Rattle.machine_steps.specs.World.{World}
use Rattle.std.specs.List.{AllByRecursion}
use Rattle.std.specs.Option.{option_and_then}
use Rattle.std.specs.Prelude.{IsSome, slice_get, ◌==◌}
use Rattle.ti_ids.specs.Maybe.{◌>>=◌}
use Rattle.ti_ids.specs.declared.actor.Actor.{Actor}
use Rattle.ti_ids.specs.declared.number.ClassNo.{ClassNo}
use Rattle.ti_ids.specs.declared.number.MethodNo.{MethodNo}

-- ---- a class that has a method with a body is there

there_by : (c : Class) (older : List Class) (b : Bool) (n : ℕ) (x : Class) → (n == length (c ∷ older)) ≡ b
    → ((x : Class) → numbered older n ≡ Some x → (0 < n) × (n ≤ length older)) → cond b (Some c) (numbered older n) ≡ Some x
    → (0 < n) × (n ≤ length (c ∷ older))
there_by c older true n x is k e = let same : n ≡ length (c ∷ older) = eqb-true n (length (c ∷ older)) is in (omega (arith, same), omega (arith, same))
there_by c older false n x is k e = let h = k x e in (h.0, omega (arith, h.1))

numbered_there : (classes : List Class) (n : ℕ) (x : Class) → numbered classes n ≡ Some x → (0 < n) × (n ≤ length classes)
numbered_there [] n x e = absurd cc
numbered_there (c ∷ older) n x e = there_by c older (n == length (c ∷ older)) n x refl (numbered_there older n) e

bodied_there : (classes : List Class) (m : MethodNo) (body : Code) → newest_body classes m ≡ Some body
    → (0 < m.class.0) × (m.class.0 ≤ length classes)
unfolding version_at
bodied_there classes m body has = by (numbered classes m.class.0) refl has
  where
    by : (found : Option Class) → numbered classes m.class.0 ≡ found
        → (option_and_then (λ c. slice_get (versions_of c.kind) (newest_version classes m.class).place) found
        >>= λ t. method_in t (method_name classes m) (method_desc classes m) >>= λ member. code_of member.attrs) ≡ Some body
        → (0 < m.class.0) × (m.class.0 ≤ length classes)
    by None is e = absurd cc
    by (Some c) is e = numbered_there classes m.class.0 c is

-- ---- a frame that is pushed, at the end of its step

module _ (w : World) (plain : IsOrderly w) (actor : Actor) (birth : ℕ) (s after : State) (g : GoesQuietly w actor birth s after)
    (named : ComesBefore (names_of s.core.classes) (names_of after.core.classes)) (holds : AllHoldBytes after.trace)
    (now_is : birth ≡ length after.trace) where
  abbrev classes_then : List Class
  classes_then = linked w.job w.turns after.trace after.core.classes

  kind_then : (n : ClassNo) → IsThere s.core.classes n → kind_at classes_then n.0 ≡ kind_at (classes_now w s) n.0
  kind_then n there =
      let parts = split named.new (names_of s.core.classes) after.core.classes named.grown in
      ap (λ (t : Trace). kind_at (linked w.job w.turns t after.core.classes) n.0) g.grown
      ∙ ap (λ (cs : List Class). kind_at cs n.0) (linked_quiet w.job w.turns s.trace g.more after.core.classes g.quiet)
      ∙ ap (λ (cs : List CoreClass). kind_at (linked w.job w.turns s.trace cs) n.0) parts.whole
      ∙ kind_stays w.job w.turns s.trace s.core.classes parts.first parts.rest n there parts.named

  body_then : (m : MethodNo) (body : Code) → newest_body (classes_now w s) m ≡ Some body → newest_body classes_then m ≡ Some body
  body_then m body has =
      let at = bodied_there (classes_now w s) m body has in
      let there : IsThere s.core.classes m.class = (at.0, omega (arith, at.1, linked_length w.job w.turns s.trace s.core.classes)) in
      body_kept classes_then (classes_now w s) m (kind_then m.class there) ∙ has

  at_birth : (f : MethodFrame) → f.class ≡ f.method.class → IsSome (code_in classes_then (newest_version classes_then f.method.class) f.method)
      → IsSome (code w.job w.turns after.trace after.core.classes (born_at birth f))
  at_birth f same h =
      let whole : take birth after.trace ≡ after.trace = ap (λ (n : ℕ). take n after.trace) now_is ∙ take-length after.trace in
      subst (λ (t : Trace). IsSome (let born = linked w.job w.turns t after.core.classes in code_in born (newest_version born f.class) f.method))
      (sym whole) (subst (λ (n : ClassNo). IsSome (code_in classes_then (newest_version classes_then n) f.method)) (sym same) h)

  pushed_coded : (f : MethodFrame) → IsBodied (classes_now w s) f → IsSome (code w.job w.turns after.trace after.core.classes (born_at birth f))
  pushed_coded f bodied =
      at_birth f bodied.0
      (body_coded classes_then (are_listed w.job w.turns plain.rules after.trace holds after.core.classes) f.method bodied.1.0
      (body_then f.method bodied.1.0 bodied.1.1))

-- ---- steps and schedules

-- what every state has
record IsKept (w : World) (s : State) : Type 0 where
  holds : AllHoldBytes s.trace
  born : IsBornIn s
  coded : AreCoded w s

module _ (w : World) (plain : IsOrderly w) where
  module _ (s : State) (actor : Actor) (kept : IsKept w s) (acts : List Act) (is : next_acts w s actor ≡ Some acts) where
    abbrev after : State
    after = step_by w s actor (Some acts)

    abbrev birth : ℕ
    birth = birth_after s.trace acts

    old_coded : ThreadsCoded w after.trace after.core.classes s.core.threads
    old_coded =
        threads_stay w s after
        (λ f b. subst (λ (n : Option (List Act)). (let x = step_by w s actor n in
        code w.job w.turns x.trace x.core.classes f ≡ code w.job w.turns s.trace s.core.classes f)) is (born_stays w s actor f b))
        s.core.threads (threads_born s.trace s.core.classes s.core.threads kept.born) kept.coded

    with_acts : AllByRecursion (IsFine w after.trace after.core.classes birth) acts → AreCoded w after
    with_acts fine = acts_coded w after.trace after.core.classes birth actor s acts fine old_coded

    kept_so : AllHoldBytes after.trace → AllByRecursion (IsFine w after.trace after.core.classes birth) acts → IsKept w after
    kept_so holds fine = record { holds = holds; born = step_old w s actor (Some acts) kept.born; coded = with_acts fine }

    named : ComesBefore (names_of s.core.classes) (names_of after.core.classes)
    named = subst (λ (n : Option (List Act)). ComesBefore (names_of s.core.classes) (names_of (step_by w s actor n).core.classes)) is
        (classes_stay w s actor)

    fitting : StepFits (classes_now w s) acts → IsKept w after
    fitting (inl fit) =
        let holds = held_events w actor birth (classes_now w s) s acts fit kept.holds in
        let q = quiet_acts w actor birth (classes_now w s) s acts fit in
        let g : GoesQuietly w actor birth s after = record { more = q.more; grown = q.grown; quiet = q.quiet } in
        kept_so holds
        (events_fine w after.trace after.core.classes birth (classes_now w s)
        (pushed_coded w plain actor birth s after g named holds (sym (grown_length w.job actor birth s acts))) acts fit)
    fitting (inr fit) =
        kept_so (held_calls w actor birth s acts fit kept.holds) (calls_fine w after.trace after.core.classes birth acts fit)

  kept_by : (s : State) (actor : Actor) (next : Option (List Act)) → next_acts w s actor ≡ next → IsKept w s → IsKept w (step_by w s actor next)
  kept_by s actor None is kept = kept
  kept_by s actor (Some acts) is kept = fitting s actor kept acts is (steps_fit w s actor plain acts is)

  kept_from : (s : State) (schedule : List Actor) → IsKept w s → IsKept w (run_from w s schedule)
  kept_from s [] kept = kept
  kept_from s (actor ∷ schedule) kept = kept_from (step w s actor) schedule (kept_by s actor (next_acts w s actor) refl kept)

  opening_kept : IsKept w (opening w.job)
  unfolding opening
  opening_kept = record { holds = tt; born = tt; coded = tt }

pub frames_have_code : FramesHaveCode
frames_have_code w schedule plain = (let kept = kept_from w plain (opening w.job) schedule (opening_kept w plain) in kept.coded)

pub states_have_parts : StatesHaveParts
states_have_parts w schedule plain = parts_of_coded.made w (state w schedule) schedule (frames_have_code w schedule plain)

-- after every schedule the trace holds bytes
pub traces_hold : (w : World) (schedule : List Actor) → IsOrderly w → AllHoldBytes (state w schedule).trace
traces_hold w schedule plain = (let kept = kept_from w plain (opening w.job) schedule (opening_kept w plain) in kept.holds)
