-- The acts of every instruction follow one another as the rules say, and so do those of a thread's entry.
use Rattle.bytecode_local.specs.Effect as own
use Rattle.class_code.specs.declared.instr.Instr.{Instr}
use Rattle.class_tree.specs.declared.access.Flag.TheVariants as flags
use Rattle.instruction_effect.proofs.ActRules.{ActRules, CoreHolds, FrameHolds, Stands}
use Rattle.instruction_effect.proofs.FollowingArrays.{division_follows}
use Rattle.instruction_effect.proofs.FollowingBase.{run_holds}
use Rattle.instruction_effect.proofs.FollowingCalls.{call_follows}
use Rattle.instruction_effect.proofs.FollowingCores.{Has, Still, Walk, after, after_is, frames_stay}
use Rattle.instruction_effect.proofs.FollowingForms.{Based, IsFirst, OutcomeFollows, Stood, all_after, if_follows, loaded_follows, misfit_by, owned_follows, ready_follows, room_follows}
use Rattle.instruction_effect.proofs.FollowingLocals.{effect_goes}
use Rattle.instruction_effect.proofs.FollowingManyArrays.{array_outcome_follows}
use Rattle.instruction_effect.proofs.FollowingObjects.{constant_follows, field_follows, object_outcome_follows}
use Rattle.instruction_effect.proofs.FollowingPushes.{Takes, calls_follow, unselected_follows}
use Rattle.instruction_effect.proofs.FollowingReads.{framed_there, frames_hold, kept_holds, thread_holds}
use Rattle.instruction_effect.proofs.FollowingReturns.{return_follows}
use Rattle.instruction_effect.specs.Arguments.{is_deep}
use Rattle.instruction_effect.specs.BaseThreads.{LacksRun, NoRun, RunMethod, RunOf, run_at}
use Rattle.instruction_effect.specs.CallEntry.{calls_main, enters_first, enters_later, enters_main, enters_run, entry_outcome, entry_site, main_of, marks_entered, string_array, when_enterable, with_array}
use Rattle.instruction_effect.specs.Effect.{Array, Call, Constant, Division, Family, Field, Local, Object, Return, effect, effect_of, family}
use Rattle.instruction_effect.specs.Monitors.{unless_owned}
use Rattle.instruction_effect.specs.Outcomes.{Outcome, Site}
use Rattle.java_heap.specs.Heaps.{class_object_of, next_number}
use Rattle.java_heap.specs.declared.object.Content.TheVariants.{Elements}
use Rattle.jv_names.specs.Names.{Name}
use Rattle.link_versions.specs.Classes.{Class}
use Rattle.link_versions.specs.Members.{method_has}
use Rattle.machine_state.specs.Acts.{Act, core_after}
use Rattle.machine_state.specs.Core.{Core, MethodFrame, StackFrame, Thread, frames_at}
use Rattle.machine_state.specs.Trace.{VMObjectAlloc}
use Rattle.std.proofs.Common.{Bool, List, None, Option, Some, [], ap, drop, false, length, refl, subst, sym, true, ℕ, ◌∙◌, ◌∷◌, ◌≡◌}
use Rattle.std.specs.List.{AllByRecursion}
use Rattle.std.specs.Prelude.{if◌then◌else◌, ◌==◌}
use Rattle.thread_frames.specs.declared.frame.StackEntry.TheVariants.{Java}
use Rattle.ti_ids.specs.declared.number.ClassNo.{ClassNo}
use Rattle.ti_ids.specs.declared.number.MethodNo.{MethodNo}
use Rattle.ti_ids.specs.declared.number.ObjNo.{ObjNo}
use Rattle.ti_ids.specs.declared.number.ThreadNo.{ThreadNo}
use Rattle.ti_ids.specs.declared.state.ThreadState.TheVariants.{Running}
use Rattle.ti_ids.specs.declared.value.Value.{Value}
use Rattle.ti_ids.specs.declared.value.Value.TheVariants as value

-- ---- every instruction

module _ (w : Walk) where
  abbrev F : Outcome → Type 0
  F o = OutcomeFollows w.Ok w.Holds w.start o

  of_family : (behind_call : MethodFrame → Option ℕ) (site : Site) → Stood w site → IsFirst w site → (code : List (ℕ × Instr)) (i : Instr)
      (f : Family) → F (effect_of behind_call site code i f)
  of_family behind_call site s first code i Local =
      let d = first.none.apart.done in
      misfit_by w (own.effect code site.frame) _ (λ g is. (
        s.based.rules.sets_top w.start site.frame g (drop 1 site.thread.frames) (d.frames ∙ s.top)
            (effect_goes w site.t s.based.rules w.start code site.frame (all_after w site.core site.t [] site.frame.locals d s.based.locals)
            (all_after w site.core site.t [] site.frame.stack.entries d s.based.operands) g is),
        tt,
      ))
  of_family behind_call site s first code i Constant = constant_follows w site s first i
  of_family behind_call site s first code i Division = division_follows w site s first i
  of_family behind_call site s first code i Field = field_follows w site s first i
  of_family behind_call site s first code i Object = object_outcome_follows w site s first i
  of_family behind_call site s first code i Array = array_outcome_follows w site s first i
  of_family behind_call site s first code i Call = call_follows w site s first i
  of_family behind_call site s first code i Return = return_follows w behind_call site s first i

-- ---- the theorems

module _ (Ok : Core → Act → Type 0) (Holds : Core → Value → Type 0) where
  abbrev from : List Class → Core → Walk
  from classes core = record { classes = classes; Ok = Ok; Holds = Holds; start = core }

  nothing_done : (classes : List Class) (core : Core) (t : ThreadNo) → Still (from classes core) core t []
  nothing_done classes core t = record {
    apart = record { done = record { follows = tt; held = λ v h. h; frames = refl }; monitors = refl };
    heap = refl;
  }

  stands_so : (site : Site) → ActRules site.classes site.t Ok Holds → Stands site.core site.t site.thread site.frame → CoreHolds Holds site.core
      → Stood (from site.classes site.core) site
  stands_so site rules stands whole =
      let there = framed_there Holds site.core site.t (Java site.frame) (drop 1 site.thread.frames) stands.top in
      let thread : Thread = there.0 in
      let own : Holds site.core (value.Ref (Some thread.object)) = (thread_holds Holds site.core whole site.t thread there.1).object in
      let same : thread.object ≡ site.thread.object = sym (stands.object thread there.1) in
      let frames : AllByRecursion (FrameHolds Holds site.core) (Java site.frame ∷ drop 1 site.thread.frames) =
      subst (AllByRecursion (FrameHolds Holds site.core)) stands.top (frames_hold Holds site.core whole site.t) in
      record {
        based = record {
          rules = rules;
          over = λ m body is. is;
          deep = stands.deep;
          object = subst (λ (o : ObjNo). Holds site.core (value.Ref (Some o))) same own;
          locals = frames.0.0;
          operands = frames.0.1;
          whole = whole;
          monitors = refl;
        };
        whole = whole;
        top = stands.top;
        kept = kept_holds Holds site.core whole site.t thread there.1;
      }

  -- What comes of an instruction follows, from the core at which the thread stands there.
  pub effect_follows : (site : Site) → ActRules site.classes site.t Ok Holds → Stands site.core site.t site.thread site.frame
      → CoreHolds Holds site.core → (behind_call : MethodFrame → Option ℕ) (code : List (ℕ × Instr)) (i : Instr)
      → OutcomeFollows Ok Holds site.core (effect behind_call site code i)
  effect_follows site rules stands whole behind_call code i =
      of_family (from site.classes site.core) behind_call site (stands_so site rules stands whole)
      (record { same = refl; none = nothing_done site.classes site.core site.t }) code i (family i)

  -- ---- the entry of a thread

  module _ (core : Core) (classes : List Class) (t : ThreadNo) (thread : Thread) (rules : ActRules classes t Ok Holds) (none : thread.frames ≡ [])
      (empty : frames_at core t ≡ []) (own : Holds core (value.Ref (Some thread.object))) (whole : CoreHolds Holds core) where
    abbrev w : Walk
    w = from classes core

    abbrev site : Site
    site = entry_site core classes t thread

    abbrev G : Outcome → Type 0
    G o = OutcomeFollows Ok Holds core o

    based : Based w site
    based = record {
      rules = rules;
      over = λ m body is. is;
      deep = λ words. ap (λ (l : List StackFrame). is_deep l words) (empty ∙ sym none);
      object = own;
      locals = tt;
      operands = tt;
      whole = whole;
      monitors = refl;
    }

    first : IsFirst w site
    first = record { same = refl; none = nothing_done classes core t }

    marking : (here : Core) → Takes w (record site { core = here }) (marks_entered t)
    marking here acts d = record {
      follows = (rules.sets_state (after core acts) Running, tt);
      deep = λ words. ap (λ (l : List StackFrame). is_deep l words)
          (frames_stay (after core acts) t (λ u. record u { state = Running }) (λ u. refl) ∙ d.frames);
    }

    -- the array of no Strings was made, and `main` is called
    main_called : (m : MethodNo) (acts : List Act) (array : ObjNo) → Has w core t acts array → G (calls_main site m acts array)
    main_called m acts array has =
        let here : Core = core_after 0 core acts in
        let same : after core acts ≡ here = sym (after_is core acts) in
        let still : Still w here t acts = record {
          apart = record {
            done = record {
              follows = has.apart.done.follows;
              held = λ v h. subst (λ (c : Core). Holds c v) (sym same) h;
              frames = ap (λ (c : Core). frames_at c t) same;
            };
            monitors = ap (λ (c : Core). c.monitors) same;
          };
          heap = ap (λ (c : Core). c.heap) same;
        } in
        let there : Based w (record site { core = here }) = record {
          rules = rules;
          over = λ m body is. is;
          deep = λ words. ap (λ (l : List StackFrame). is_deep l words)
              (ap (λ (c : Core). frames_at c t) (sym same) ∙ has.apart.done.frames ∙ empty ∙ sym none);
          object = subst (λ (c : Core). Holds c (value.Ref (Some thread.object))) same (has.apart.done.held (value.Ref (Some thread.object)) own);
          locals = tt;
          operands = tt;
          whole = whole;
          monitors = sym (ap (λ (c : Core). c.monitors) (sym same) ∙ has.apart.monitors);
        } in
        calls_follow w (record site { core = here }) there
        (record { before = acts; taking = marks_entered t; method = m; arguments = value.Ref (Some array) ∷ [] })
        (record {
          before = still;
          taken = marking here;
          arguments = (subst (λ (c : Core). Holds c (value.Ref (Some array))) same has.there, tt);
        })

    array_follows : (m : MethodNo) (acts : List Act) (n : ClassNo) → Still w core t acts → G (with_array site m acts n)
    array_follows m acts n still =
        room_follows w site based acts n (Elements []) (VMObjectAlloc t (next_number core.heap) string_array ∷ []) (calls_main site m) still tt
        (λ now. tt) (λ all array has. main_called m all array has)

    enterable_by : (found : Option ObjNo) (so : Outcome) → G so
        → G (elim found as (λ _. Outcome) [ None ↦ so | Some object ↦ unless_owned site object so ])
    enterable_by None so h = h
    enterable_by (Some object) so h = owned_follows w site based object so (λ may. h)

    enterable_follows : (m : MethodNo) (so : Outcome) → G so → G (when_enterable site m so)
    enterable_follows m so h =
        if_follows w (method_has classes flags.Synchronized m) _ so (enterable_by (class_object_of core.heap m.class) so h) h

    main_follows : (m : Option MethodNo) → G (enters_main site m)
    main_follows None = tt
    main_follows (Some m) =
        if_follows w (method_has classes flags.Abstract m) _ _ tt
        (loaded_follows w site based first string_array _ (λ acts n still how. enterable_follows m _ (array_follows m acts n still)))

    first_follows : (main : Name) → G (enters_first site main)
    first_follows main =
        loaded_follows w site based first main _ (λ before n still how. ready_follows w site n _ (main_follows (main_of classes n)))

    run_follows : (run : RunMethod) → ((o : ObjNo) (m : MethodNo) → run ≡ RunOf o m → Holds core (value.Ref (Some o))) → G (enters_run site run)
    run_follows NoRun h = (rules.sets_state core Running, tt)
    run_follows (LacksRun fault) h = unselected_follows w [] fault tt
    run_follows (RunOf object m) h =
        calls_follow w site based (record { before = []; taking = marks_entered t; method = m; arguments = value.Ref (Some object) ∷ [] })
        (record { before = first.none; taken = marking core; arguments = (h object m refl, tt) })

    entered_at : (main : Name) (is_first : Bool) → G (if is_first then enters_first site main else enters_later site)
    entered_at main true = first_follows main
    entered_at main false = run_follows (run_at site thread.object) (run_holds w site whole (length core.heap.objects) thread.object own)

  -- So does the entry of a thread that has no frames.
  pub entry_follows : (core : Core) (classes : List Class) (t : ThreadNo) (thread : Thread) (main : Name) → ActRules classes t Ok Holds
      → thread.frames ≡ [] → frames_at core t ≡ [] → Holds core (value.Ref (Some thread.object)) → CoreHolds Holds core
      → OutcomeFollows Ok Holds core (entry_outcome core classes t thread main)
  entry_follows core classes t thread main rules none empty own whole =
      entered_at core classes t thread rules none empty own whole main (t.0 == 1)
