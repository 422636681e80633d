-- The acts of a thread follow one another as the rules say: where a frame is left, where it waits or joins, and where it performs.
use Rattle.std.proofs.Common.{◌≡◌, ◌∙◌, ◌≤◌, Bool, true, false, List, [], ◌∷◌, map, Option, Some, None, refl, sym, ap, subst, arith}
use Rattle.std.specs.Prelude.{◌==◌, ◌&&◌, find, is_none, nat_le, if◌then◌else◌}
use Rattle.std.specs.List.{AllByRecursion}
use Rattle.std.specs.Option.{option_map_or}
use Rattle.std.proofs.lemmas.Bool.{and_parts, leb-true}
use Rattle.ti_ids.specs.Maybe.{◌>>=◌}
use Rattle.ti_ids.specs.declared.number.ThreadNo.{ThreadNo}
use Rattle.ti_ids.specs.declared.number.ObjNo.{ObjNo}
use Rattle.ti_ids.specs.declared.number.ClassNo.{ClassNo}
use Rattle.ti_ids.specs.declared.value.Value.{Value}
use Rattle.ti_ids.specs.declared.value.Value.TheVariants as value
use Rattle.ti_ids.specs.declared.actor.Actor.TheVariants as actors
use Rattle.ti_ids.specs.declared.state.Activity.TheVariants.{Free, Throwing, Waiting}
use Rattle.ti_ids.specs.declared.state.Announced.{Announced}
use Rattle.ti_ids.specs.declared.state.Announced.TheVariants.{Caught, New, No, Yes}
use Rattle.ti_ids.specs.declared.state.InitState.TheVariants as states
use Rattle.class_tree.specs.declared.body.Code.{Code}
use Rattle.class_tree.specs.declared.body.Handler.{Handler}
use Rattle.class_tree.specs.Trees.{Tree}
use Rattle.link_versions.specs.Classes.{Class}
use Rattle.monitor_table.specs.Monitors.{has_wait}
use Rattle.thread_frames.specs.Operands.{without_top}
use Rattle.thread_frames.specs.declared.frame.StackEntry.TheVariants.{Java, Init}
use Rattle.machine_state.specs.Core.{Core, MethodFrame, StackFrame, Thread, frames_at, monitor_at, thread_at}
use Rattle.machine_state.specs.FrameCode.{body_of_frame, tree_of_frame}
use Rattle.machine_state.specs.Trace.{Event, MonitorWaited}
use Rattle.machine_state.specs.Acts.{Act, Changes, Leaves, Pops, SetsActivity, SetsClass, SetsTop, State, TakesBack, core_after, raises}
use Rattle.instruction_effect.specs.Outcomes.{Fills, Goes, NeedsInit, NeedsLink, NeedsLoad, Outcome, Throws, ThrowsObject}
use Rattle.instruction_effect.proofs.ActRules.{ActivityHolds, CoreHolds, Follow, FrameHolds, ThreadHolds, behind}
use Rattle.instruction_effect.proofs.FollowingCores.{frames_stay}
use Rattle.instruction_effect.proofs.FollowingForms.{all_drop, all_held}
use Rattle.instruction_effect.proofs.FollowingPushes.{words_dropped}
use Rattle.instruction_effect.proofs.FollowingReads.{kept_holds, thread_holds}
use Rattle.machine_steps.specs.World.{World}
use Rattle.machine_steps.specs.Announcing.{announced, announcing, pre_events}
use Rattle.machine_steps.specs.Sites.{Stop, stop_of}
use Rattle.machine_steps.specs.Throwing.{class_name_of, kept_error, throws_new, throws_new_among}
use Rattle.machine_steps.specs.Threads.{activity_of, announced_state, completed_top, has_thread_ended, joins, may_wake, resolved, wakes}
use Rattle.machine_steps.specs.Unwinding.{catches, covers, error_name, fails_init, handler_of, handling, initializer_error, is_instance, leaves_frame, left_events, monitor_name, owns_monitor, unwinds, unwinds_frame}
use Rattle.machine_steps.proofs.FollowingLoads.{IfFollow, full_follows, if_follows, init_follows, link_follows, loads_follow, new_among_follows, new_follows, raised_all, throws_follow}
use Rattle.machine_steps.proofs.OwnRules.{Own, own_follow, wish_follows}
use Rattle.machine_steps.proofs.Seen.{acted_after}
use Rattle.machine_steps.proofs.StepRules.{StepRules, seen}

-- ---- what tests say

is_owned : (t : ThreadNo) (owner : Option ThreadNo) → option_map_or (λ owner. owner.0 == t.0) owner false ≡ true
    → (by : ThreadNo) × (owner ≡ Some by)
is_owned t None is = absurd cc
is_owned t (Some by) is = (by, refl)

is_free : (owner : Option ThreadNo) → is_none owner ≡ true → owner ≡ None
is_free None is = refl
is_free (Some by) is = absurd cc

-- a handler is found only where the operand stack has room
has_handler : (tree : Option Tree) (body : Option Code) (so : Tree → Code → Option Handler) (fits : Bool) (h : Handler)
    → (tree >>= λ tree. body >>= λ body. if fits then so tree body else None) ≡ Some h → fits ≡ true
has_handler None body so fits h is = absurd cc
has_handler (Some tree) None so fits h is = absurd cc
has_handler (Some tree) (Some body) so true h is = refl
has_handler (Some tree) (Some body) so false h is = absurd cc

-- ---- the core behind acts that announce

raised_core : (core : Core) (events : List Event) → core_after 0 core (map raises events) ≡ core
raised_core core [] = refl
raised_core core (e ∷ events) = raised_core core events

module _ (w : World) (classes : List Class) (t : ThreadNo) (Ok : Core → Act → Type 0) (Holds : Core → Value → Type 0)
    (rules : StepRules w classes t Ok Holds) where
  abbrev F : Core → List Act → Type 0
  F core acts = Follow Ok core acts

  abbrev Refers : Core → ObjNo → Type 0
  Refers core o = Holds core (value.Ref (Some o))

  -- ---- outcomes

  pub resolved_follows : (s : State) → Refers (seen s.core) kept_error → (o : Outcome) → Own classes t Ok Holds rules.acts s.core o
      → IfFollow w classes t Ok Holds rules (seen s.core) (resolved w s classes t o)
  resolved_follows s kept (Goes acts) h = wish_follows classes t Ok Holds rules.acts s.core (activity_of s.core t) acts h
  resolved_follows s kept (Throws before name) h =
      new_follows w classes t Ok Holds rules s.core before name (own_follow classes t Ok Holds s.core before h).0 kept
  resolved_follows s kept (Fills before) h =
      full_follows w classes t Ok Holds rules s.core before (own_follow classes t Ok Holds s.core before h).0 kept
  resolved_follows s kept (ThrowsObject o) h = throws_follow w classes t Ok Holds rules s.core [] o (class_name_of classes s.core o) tt h
  resolved_follows s kept (NeedsLoad name) h = loads_follow w classes t Ok Holds rules s kept name
  resolved_follows s kept (NeedsLink n) h = link_follows w classes t Ok Holds rules s kept n
  resolved_follows s kept (NeedsInit n) h = init_follows w classes t Ok Holds rules s kept n

  -- ---- in a state in which the thread is there

  module _ (s : State) (whole : CoreHolds Holds (seen s.core)) (thread : Thread) (found : thread_at s.core t ≡ Some thread) where
    abbrev now : Core
    now = seen s.core

    abbrev If : Core → Option (List Act) → Type 0
    If core acts = IfFollow w classes t Ok Holds rules core acts

    pub kept : Refers now kept_error
    kept = kept_holds Holds now whole t thread found

    held : ThreadHolds Holds now thread
    held = thread_holds Holds now whole t thread found

    pub stack_is : frames_at s.core t ≡ thread.frames
    stack_is = ap (λ (x : Option Thread). option_map_or (λ u. u.frames) x []) found

    top_holds : (f : MethodFrame) (below : List StackFrame) → thread.frames ≡ Java f ∷ below → FrameHolds Holds now (Java f)
    top_holds f below top = (let all = subst (AllByRecursion (FrameHolds Holds now)) top held.frames in all.0)

    -- ---- a frame is left

    left_always : (f : MethodFrame) (core : Core) → F core (left_events classes t f)
    left_always f core = (rules.acts.raised core _, (rules.acts.raised core _, tt))

    leaves_follow : (f : MethodFrame) (monitor : Option ObjNo) → F now (leaves_frame s classes t f monitor)
    leaves_follow f None = (rules.acts.pops now, left_always f (behind now (Changes (Pops t))))
    leaves_follow f (Some object) =
        let popped : Core = behind now (Changes (Pops t)) in
        if_follows w classes t Ok Holds rules now (owns_monitor s.core t object)
        (Changes (Pops t) ∷ Changes (Leaves object) ∷ left_events classes t f)
        (throws_new_among classes s.core t (Changes (Pops t) ∷ []) (left_events classes t f) monitor_name)
        (λ owns. (let owner = is_owned t (monitor_at s.core object).owner owns in
        (rules.acts.pops now, (rules.acts.leaves popped object owner.0 owner.1, left_always f (behind popped (Changes (Leaves object)))))))
        (λ other. new_among_follows w classes t Ok Holds rules s.core (Changes (Pops t) ∷ []) (left_events classes t f) monitor_name
        (rules.acts.pops now, tt) (left_always f) kept)

    fails_follow : (n : ClassNo) (o : ObjNo) → F now (fails_init s classes t n o)
    fails_follow n o =
        let failing : List Act = Changes (SetsClass n states.Erroneous) ∷ Changes (Pops t) ∷ [] in
        let fails : F now failing = (rules.sets_class now n states.Erroneous, (rules.acts.pops _, tt)) in
        if_follows w classes t Ok Holds rules now (is_instance classes s.core o error_name) failing
        (throws_new classes s.core t failing initializer_error) (λ is. fails)
        (λ is. new_follows w classes t Ok Holds rules s.core failing initializer_error fails kept)

    handled_follows : (f : MethodFrame) (below : List StackFrame) (o : ObjNo) (h : Handler) → thread.frames ≡ Java f ∷ below → Refers now o
        → nat_le 1 f.stack.room ≡ true → F now (Changes (SetsTop t (handling f o h)) ∷ Changes (SetsActivity t Free) ∷ [])
    handled_follows f below o h top holds room =
        let one : 1 ≤ f.stack.room = leb-true 1 f.stack.room room in (
          rules.acts.sets_top now f (handling f o h) below (stack_is ∙ top) (record {
            locals = refl;
            room = refl;
            within = λ before. one;
            local_values = (top_holds f below top).0;
            operands = (holds, tt);
          }),
          (rules.acts.sets_activity _ Free tt, tt),
        )

    unwound_follows : (f : MethodFrame) (below : List StackFrame) (o : ObjNo) (h : Option Handler) → handler_of w s classes f o ≡ h
        → thread.frames ≡ Java f ∷ below → Refers now o → F now (unwinds_frame s classes t f o h)
    unwound_follows f below o None is top holds = leaves_follow f f.pin.monitor
    unwound_follows f below o (Some h) is top holds =
        handled_follows f below o h top holds
        (has_handler (tree_of_frame w.job w.turns s.trace s.core.classes f) (body_of_frame w.job w.turns s.trace s.core.classes f)
        (λ tree body. find (λ h. covers f.pc h && catches classes s.core tree.pool o h) body.handlers) (nat_le 1 f.stack.room) h is)

    pub unwinds_follow : (f : StackFrame) (below : List StackFrame) (o : ObjNo) → thread.activity ≡ Throwing o → thread.frames ≡ f ∷ below
        → F now (unwinds w s classes t f o)
    unwinds_follow (Java f) below o is top =
        unwound_follows f below o (handler_of w s classes f o) refl top (subst (ActivityHolds Holds now) is held.activity)
    unwinds_follow (Init n) below o is top = fails_follow n o

    -- ---- waiting and joining

    -- in a core in which the thread has its frames, and what held holds
    record IsStill (core : Core) : Type 0 where
      frames : frames_at core t ≡ thread.frames
      holds : (v : Value) → Holds now v → Holds core v

    completed_by : (core : Core) (f : MethodFrame) (below : List StackFrame) (stop : Option Stop) → thread.frames ≡ Java f ∷ below → IsStill core
        → F core (elim stop as (λ _. List Act) [
          | None ↦ []
          | Some stop ↦ Changes (SetsTop t (record f { pc = stop.site.next; stack = without_top f.stack; announced = No })) ∷ []
        ])
    completed_by core f below None top still = tt
    completed_by core f below (Some stop) top still =
        let holds = top_holds f below top in
        let g : MethodFrame = record f { pc = stop.site.next; stack = without_top f.stack; announced = No } in (
          rules.acts.sets_top core f g below (still.frames ∙ top) (record {
            locals = refl;
            room = refl;
            within = λ before. (let fewer = words_dropped 1 f.stack.entries in omega (arith, fewer, before));
            local_values = all_held (Holds now) (Holds core) f.locals still.holds holds.0;
            operands = all_drop (Holds core) 1 f.stack.entries (all_held (Holds now) (Holds core) f.stack.entries still.holds holds.1);
          }),
          tt,
        )

    completed_follows : (core : Core) (frames : List StackFrame) → thread.frames ≡ frames → IsStill core
        → F core (completed_top w s classes t thread frames)
    completed_follows core [] top still = tt
    completed_follows core (Init n ∷ below) top still = tt
    completed_follows core (Java f ∷ below) top still = completed_by core f below (stop_of w s classes t thread f) top still

    if_gives : (b : Bool) (acts : List Act) → (b ≡ true → F now acts) → If now (if b then Some acts else None)
    if_gives true acts h = h refl
    if_gives false acts h = tt

    freed_follows : (core : Core) → frames_at core t ≡ thread.frames → ((v : Value) → Holds now v → Holds core v)
        → F core (Changes (SetsActivity t Free) ∷ completed_top w s classes t thread thread.frames)
    freed_follows core frames holds =
        let ok = rules.acts.sets_activity core Free tt in
        let after : Core = behind core (Changes (SetsActivity t Free)) in (
          ok,
          completed_follows after thread.frames refl (record {
            frames = frames_stay core t (λ u. record u { activity = Free }) (λ u. refl) ∙ frames;
            holds = λ v h. rules.acts.later core (Changes (SetsActivity t Free)) v ok (holds v h);
          }),
        )

    abbrev woken : ObjNo → List Act
    woken object =
        Changes (TakesBack object t) ∷ Changes (SetsActivity t Free) ∷ raises (MonitorWaited t object)
        ∷ completed_top w s classes t thread thread.frames

    woken_follows : (object : ObjNo) → thread.activity ≡ Waiting object → may_wake s.core t object ≡ true
        → F now (woken object)
    woken_follows object is may =
        let m = monitor_at s.core object in
        let parts = and_parts (has_wait t m.notified) (is_none m.owner) may in
        let ok = rules.takes_back now object parts.0 (is_free m.owner parts.1) (subst (ActivityHolds Holds now) is held.activity) in
        let rest =
        freed_follows (behind now (Changes (TakesBack object t))) stack_is (λ v h. rules.acts.later now (Changes (TakesBack object t)) v ok h) in
        (ok, (rest.0, (rules.acts.raised _ (MonitorWaited t object), rest.1)))

    pub wakes_follow : (object : ObjNo) → thread.activity ≡ Waiting object → If now (wakes w s classes t thread object)
    wakes_follow object is =
        if_gives (may_wake s.core t object)
        (woken object)
        (woken_follows object is)

    pub joins_follow : (other : ThreadNo) → If now (joins w s classes t thread other)
    joins_follow other =
        if_gives (has_thread_ended s.core other) (Changes (SetsActivity t Free) ∷ completed_top w s classes t thread thread.frames)
        (λ ended. freed_follows now stack_is (λ v h. h))

    -- ---- what announces an instruction

    module _ (f : MethodFrame) (below : List StackFrame) (top : thread.frames ≡ Java f ∷ below) (stop : Option Stop) where
      abbrev first : Announced → List Act
      first a = announcing w s classes t f stop a

      abbrev begun : List Act
      begun = Changes (SetsTop t (announced f)) ∷ map raises (pre_events w s classes t f stop)

      begun_follows : F now begun
      begun_follows = (
        rules.acts.sets_top now f (announced f) below (stack_is ∙ top) (record {
          locals = refl;
          room = refl;
          within = λ before. before;
          local_values = (top_holds f below top).0;
          operands = (top_holds f below top).1;
        }),
        raised_all w classes t Ok Holds rules (pre_events w s classes t f stop) _,
      )

      pub first_follows : (a : Announced) → F now (first a)
      first_follows Yes = tt
      first_follows New = begun_follows
      first_follows Caught = begun_follows
      first_follows No = begun_follows

      abbrev marked : Core
      marked = behind now (Changes (SetsTop t (announced f)))

      begun_core : seen (core_after 0 s.core begun) ≡ core_after 0 now begun
      begun_core =
          let events = pre_events w s classes t f stop in
          ap seen (raised_core (behind s.core (Changes (SetsTop t (announced f)))) events) ∙ sym (raised_core marked events)

      first_core : (a : Announced) → seen (core_after 0 s.core (first a)) ≡ core_after 0 now (first a)
      first_core Yes = refl
      first_core New = begun_core
      first_core Caught = begun_core
      first_core No = begun_core

      pub announced_core : (a : Announced) → core_after 0 now (first a) ≡ seen (announced_state w s t (first a)).core
      announced_core a = sym (acted_after w.job (actors.Thread t) 0 s (first a) ∙ first_core a)
