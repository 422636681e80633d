-- What a thread does is judged alike where calls wait and where none do, and where it wants a monitor and where it doesn't: whatever it
-- performs ends its wish first. So rules of the cores without queues are rules of all cores, of acts that may come either way.
use Rattle.std.proofs.Common.{◌≡◌, ◌∙◌, ◌+◌, ℕ, length, true, false, List, [], ◌∷◌, ◌++◌, Some, refl, sym, ap, subst}
use Rattle.std.specs.Prelude.{nat_le}
use Rattle.ti_ids.specs.declared.number.ThreadNo.{ThreadNo}
use Rattle.ti_ids.specs.declared.number.ObjNo.{ObjNo}
use Rattle.ti_ids.specs.declared.value.Value.{Value}
use Rattle.ti_ids.specs.declared.value.Value.TheVariants as value
use Rattle.ti_ids.specs.declared.state.Activity.{Activity}
use Rattle.ti_ids.specs.declared.state.Activity.TheVariants.{Free, Throwing, Waiting, Joining, Wanting}
use Rattle.java_heap.specs.declared.object.Object.{Object}
use Rattle.java_heap.specs.declared.object.Content.{Content}
use Rattle.java_heap.specs.Heaps.{words_taken}
use Rattle.java_heap.specs.Objects.{fresh, values_of}
use Rattle.ti_ids.specs.declared.number.ClassNo.{ClassNo}
use Rattle.ti_ids.specs.declared.state.InitState.TheVariants as states
use Rattle.link_versions.specs.Classes.{Class}
use Rattle.thread_frames.specs.declared.frame.StackEntry.TheVariants.{Java, Init}
use Rattle.machine_state.specs.Core.{Core, MethodFrame, StackFrame, Thread, frames_at, monitor_at, with_thread}
use Rattle.machine_state.specs.Acts.{Act, Changes, Notes, raises, Makes, PutsField, PutsElement, PutsSide, PutsBehind, Enters, Leaves, GoesToWait, Notifies, NotifiesAll, Prints, MakesThread, SetsTop, Pops, Pushes, PushesInit, SetsState, SetsActivity, PutsStatic, AddsClass, TakesCall, going_on, with_born}
use Rattle.thread_frames.specs.ThreadStack.{pushed, popped}
use Rattle.instruction_effect.specs.Arguments.{is_deep}
use Rattle.thread_frames.specs.Frame.{frame_words}
use Rattle.instruction_effect.specs.Outcomes.{Outcome, heap_has_room}
use Rattle.instruction_effect.specs.Monitors.{may_enter, wish_ends}
use Rattle.instruction_effect.proofs.ActRules.{ActRules, ActivityHolds, CoreHolds, Follow, FrameHolds, GoesOnAs, HoldAll, IsNew, IsPushed, ObjectHolds, ThreadHolds, behind}
use Rattle.instruction_effect.proofs.FollowingCores.{frames_stay}
use Rattle.instruction_effect.proofs.FollowingForms.{OutcomeFollows, all_held}
use Rattle.machine_steps.proofs.ChangedAt.{with_made_is, with_twice}
use Rattle.machine_steps.proofs.StepRules.{seen}

-- ---- what holds in one core by the values that hold in another

module _ (P Q : Core → Value → Type 0) (a b : Core) (on : (v : Value) → P a v → Q b v) where
  pub values_on : (values : List Value) → HoldAll P a values → HoldAll Q b values
  values_on values h = all_held (P a) (Q b) values on h

  frame_on : (f : StackFrame) → FrameHolds P a f → FrameHolds Q b f
  frame_on (Java f) h = (values_on f.locals h.0, values_on f.stack.entries h.1)
  frame_on (Init n) h = tt

  activity_on : (activity : Activity) → ActivityHolds P a activity → ActivityHolds Q b activity
  activity_on (Throwing o) h = on (value.Ref (Some o)) h
  activity_on (Waiting o) h = on (value.Ref (Some o)) h
  activity_on (Wanting o) h = on (value.Ref (Some o)) h
  activity_on (Joining u) h = tt
  activity_on Free h = tt

  pub thread_on : (thread : Thread) → ThreadHolds P a thread → ThreadHolds Q b thread
  thread_on thread h = record {
    object = on (value.Ref (Some thread.object)) h.object;
    activity = activity_on thread.activity h.activity;
    frames = all_held (FrameHolds P a) (FrameHolds Q b) thread.frames frame_on h.frames;
  }

  pub object_on : (object : Object) → ObjectHolds P a object → ObjectHolds Q b object
  object_on object h = record { values = values_on (values_of object.content) h.values; side = on (value.Ref object.side) h.side }

  goes_on_so : (f g : MethodFrame) → GoesOnAs P a f g → GoesOnAs Q b f g
  goes_on_so f g h = record {
    locals = h.locals;
    room = h.room;
    within = h.within;
    local_values = values_on g.locals h.local_values;
    operands = values_on g.stack.entries h.operands;
  }

  pushed_so : (classes : List Class) (f : MethodFrame) → IsPushed P classes a f → IsPushed Q classes b f
  pushed_so classes f h = record {
    class = h.class;
    body = h.body;
    newest = h.newest;
    locals = h.locals;
    room = h.room;
    empty = h.empty;
    local_values = values_on f.locals h.local_values;
    monitor = on (value.Ref f.pin.monitor) h.monitor;
  }

-- ---- acts that may come either way

module _ (classes : List Class) (t : ThreadNo) (Ok : Core → Act → Type 0) (Holds : Core → Value → Type 0) where
  abbrev pub SeenHolds : Core → Value → Type 0
  SeenHolds now v = Holds (seen now) v

  -- the thread wants nothing, and nothing holds it up
  abbrev pub freed : Core → Core
  freed now = behind now (Changes (SetsActivity t Free))

  -- an act of this thread that takes no call
  abbrev IsOwn : Act → Type 0
  IsOwn (Changes (TakesCall actor)) = ⊥
  IsOwn (Changes (SetsTop u f)) = u ≡ t
  IsOwn (Changes (Pops u)) = u ≡ t
  IsOwn (Changes (Pushes u f)) = u ≡ t
  IsOwn (Changes (PushesInit u n)) = u ≡ t
  IsOwn (Changes (SetsState u state)) = u ≡ t
  IsOwn (Changes (SetsActivity u activity)) = u ≡ t
  IsOwn (Changes c) = Unit {0}
  IsOwn (Notes what) = Unit {0}

  pub record OwnOk (now : Core) (a : Act) : Type 0 where
    pub own : IsOwn a
    pub here : Ok (seen now) a
    pub free : Ok (seen (freed now)) a

  -- ---- behind such an act

  seen_behind : (now : Core) (a : Act) → IsOwn a → behind (seen now) a ≡ seen (behind now a)
  seen_behind now (Changes (TakesCall actor)) h = absurd h
  seen_behind now (Changes c) h = refl
  seen_behind now (Notes what) h = refl

  abbrev free : Thread → Thread
  free u = record u { activity = Free }

  -- a change of the thread beside its activity
  abbrev IsBeside : (Thread → Thread) → Type 0
  IsBeside change = ◌≡◌ {A = Thread → Thread} (λ x. change (free x)) (λ x. free (change x))

  beside : (now : Core) (u : ThreadNo) (change : Thread → Thread) → u ≡ t → IsBeside change
      → with_thread free t (with_thread change u (seen now)) ≡ with_thread change u (with_thread free t (seen now))
  beside now u change own same =
      subst (λ (x : ThreadNo). with_thread free t (with_thread change x (seen now)) ≡ with_thread change x (with_thread free t (seen now))) (sym own)
      (with_twice (seen now) t free change ∙ ap (λ (f : Thread → Thread). with_thread f t (seen now)) (sym same)
      ∙ sym (with_twice (seen now) t change free))

  -- the activity of a thread is set behind another one
  instead : (now : Core) (u : ThreadNo) (activity : Activity) → u ≡ t
      → seen (behind now (Changes (SetsActivity u activity))) ≡ behind (seen (freed now)) (Changes (SetsActivity u activity))
  instead now u activity own =
      subst (λ (x : ThreadNo). seen (behind now (Changes (SetsActivity x activity))) ≡ behind (seen (freed now)) (Changes (SetsActivity x activity)))
      (sym own) (sym (with_twice (seen now) t (λ x. record x { activity = activity }) free))

  next_follows : (now : Core) (a : Act) (acts : List Act) → IsOwn a → Follow Ok (seen (behind now a)) acts
      → Follow Ok (seen (freed (behind now a))) acts
      → Follow Ok (behind (seen (freed now)) a) acts
  next_follows now (Changes (TakesCall actor)) acts own h k = absurd own
  next_follows now (Changes (SetsActivity u activity)) acts own h k = subst (λ (c : Core). Follow Ok c acts) (instead now u activity own) h
  next_follows now (Changes (SetsTop u f)) acts own h k =
      subst (λ (c : Core). Follow Ok c acts) (beside now u (λ x. record x { frames = going_on f x.frames }) own refl) k
  next_follows now (Changes (Pops u)) acts own h k =
      subst (λ (c : Core). Follow Ok c acts) (beside now u (λ x. record x { frames = popped x.frames }) own refl) k
  next_follows now (Changes (Pushes u f)) acts own h k =
      subst (λ (c : Core). Follow Ok c acts) (beside now u (λ x. record x { frames = with_born 0 now.classes f x.frames }) own refl) k
  next_follows now (Changes (PushesInit u n)) acts own h k =
      subst (λ (c : Core). Follow Ok c acts) (beside now u (λ x. record x { frames = pushed (Init n) x.frames }) own refl) k
  next_follows now (Changes (SetsState u state)) acts own h k =
      subst (λ (c : Core). Follow Ok c acts) (beside now u (λ x. record x { state = state }) own refl) k
  next_follows now (Changes (MakesThread o)) acts own h k =
      subst (λ (c : Core). Follow Ok c acts) (with_made_is (seen now) t free o refl) k
  next_follows now (Changes c) acts own h k = k
  next_follows now (Notes what) acts own h k = k

  -- acts that may come either way follow one another from the core as it is seen, and behind the end of a wish
  pub own_follow : (now : Core) (acts : List Act) → Follow OwnOk now acts → Follow Ok (seen now) acts × Follow Ok (seen (freed now)) acts
  own_follow now [] h = (tt, tt)
  own_follow now (a ∷ acts) h =
      let rest = own_follow (behind now a) acts h.1 in (
        (h.0.here, subst (λ (c : Core). Follow Ok c acts) (sym (seen_behind now a h.0.own)) rest.0),
        (h.0.free, next_follows now a acts h.0.own rest.0 rest.1),
      )

  -- ---- what holds

  pub core_seen : (now : Core) → CoreHolds SeenHolds now → CoreHolds Holds (seen now)
  core_seen now h = record {
    threads = all_held (ThreadHolds SeenHolds now) (ThreadHolds Holds (seen now)) now.threads
        (thread_on SeenHolds Holds now (seen now) (λ v k. k)) h.threads;
    statics = h.statics;
    objects = all_held (ObjectHolds SeenHolds now) (ObjectHolds Holds (seen now)) now.heap.objects
        (object_on SeenHolds Holds now (seen now) (λ v k. k)) h.objects;
    owned = h.owned;
    kept = h.kept;
  }

  pub seen_core : (now : Core) → CoreHolds Holds (seen now) → CoreHolds SeenHolds now
  seen_core now h = record {
    threads = all_held (ThreadHolds Holds (seen now)) (ThreadHolds SeenHolds now) now.threads
        (thread_on Holds SeenHolds (seen now) now (λ v k. k)) h.threads;
    statics = h.statics;
    objects = all_held (ObjectHolds Holds (seen now)) (ObjectHolds SeenHolds now) now.heap.objects
        (object_on Holds SeenHolds (seen now) now (λ v k. k)) h.objects;
    owned = h.owned;
    kept = h.kept;
  }

  -- ---- the rules

  module _ (rules : ActRules classes t Ok Holds) where
    freely : (now : Core) (v : Value) → Holds (seen now) v → Holds (seen (freed now)) v
    freely now v h = rules.later (seen now) (Changes (SetsActivity t Free)) v (rules.sets_activity (seen now) Free tt) h

    both : (now : Core) (a : Act) → IsOwn a → Ok (seen now) a → Ok (seen (freed now)) a → OwnOk now a
    both now a own here free = record { own = own; here = here; free = free }

    -- an act that may come in every core
    always : (now : Core) (a : Act) → IsOwn a → ((c : Core) → Ok c a) → OwnOk now a
    always now a own ok = both now a own (ok (seen now)) (ok (seen (freed now)))

    -- one that is of a value that holds
    of_value : (now : Core) (a : Act) (v : Value) → IsOwn a → ((c : Core) → Holds c v → Ok c a) → Holds (seen now) v → OwnOk now a
    of_value now a v own ok h = record { own = own; here = ok (seen now) h; free = ok (seen (freed now)) (freely now v h) }

    same_frames : (now : Core) → frames_at now t ≡ frames_at (seen (freed now)) t
    same_frames now = sym (frames_stay now t free (λ u. refl))

    own_later : (now : Core) (a : Act) (v : Value) → OwnOk now a → SeenHolds now v → SeenHolds (behind now a) v
    own_later now a v ok h = subst (λ (c : Core). Holds c v) (seen_behind now a ok.own) (rules.later (seen now) a v ok.here h)

    own_keeps : (now : Core) (a : Act) → OwnOk now a → CoreHolds SeenHolds now → CoreHolds SeenHolds (behind now a)
    own_keeps now a ok h =
        seen_core (behind now a)
        (subst (CoreHolds Holds) (seen_behind now a ok.own) (rules.keeps (seen now) a ok.here (core_seen now h)))

    own_top : (now : Core) (f g : MethodFrame) (below : List StackFrame) → frames_at now t ≡ Java f ∷ below → GoesOnAs SeenHolds now f g
        → OwnOk now (Changes (SetsTop t g))
    own_top now f g below top goes = record {
      own = refl;
      here = rules.sets_top (seen now) f g below top (goes_on_so SeenHolds Holds now (seen now) (λ v k. k) f g goes);
      free = rules.sets_top (seen (freed now)) f g below (sym (same_frames now) ∙ top)
          (goes_on_so SeenHolds Holds now (seen (freed now)) (freely now) f g goes);
    }

    own_push : (now : Core) (f : MethodFrame) → is_deep (frames_at now t) (frame_words f) ≡ false → IsPushed SeenHolds classes now f
        → OwnOk now (Changes (Pushes t f))
    own_push now f deep is = record {
      own = refl;
      here = rules.pushes (seen now) f deep (pushed_so SeenHolds Holds now (seen now) (λ v k. k) classes f is);
      free = rules.pushes (seen (freed now)) f
          (subst (λ (frames : List StackFrame). is_deep frames (frame_words f) ≡ false) (same_frames now) deep)
          (pushed_so SeenHolds Holds now (seen (freed now)) (freely now) classes f is);
    }

    own_activity : (now : Core) (activity : Activity) → ActivityHolds SeenHolds now activity → OwnOk now (Changes (SetsActivity t activity))
    own_activity now activity h = record {
      own = refl;
      here = rules.sets_activity (seen now) activity (activity_on SeenHolds Holds now (seen now) (λ v k. k) activity h);
      free = rules.sets_activity (seen (freed now)) activity (activity_on SeenHolds Holds now (seen (freed now)) (freely now) activity h);
    }

    own_making : (now : Core) (class : ClassNo) (content : Content) → heap_has_room now.heap content ≡ true → IsNew now.heap content
        → HoldAll SeenHolds now (values_of content) → OwnOk now (Changes (Makes (fresh class content)))
    own_making now class content room new values = record {
      own = tt;
      here = rules.makes (seen now) class content room new values;
      free = rules.makes (seen (freed now)) class content room new
          (values_on SeenHolds Holds now (seen (freed now)) (freely now) (values_of content) values);
    }

    own_text : (now : Core) (o : ObjNo) (units : List ℕ) → nat_le (words_taken now.heap + length units) now.heap.limit ≡ true
        → OwnOk now (Changes (PutsBehind o units))
    own_text now o units room =
        both now (Changes (PutsBehind o units)) tt (rules.puts_behind (seen now) o units room) (rules.puts_behind (seen (freed now)) o units room)

    own_enter : (now : Core) (o : ObjNo) → may_enter t (monitor_at now o).owner ≡ true → Holds (seen now) (value.Ref (Some o))
        → OwnOk now (Changes (Enters o t))
    own_enter now o may h =
        both now (Changes (Enters o t)) tt (rules.enters (seen now) o may h)
        (rules.enters (seen (freed now)) o may (freely now (value.Ref (Some o)) h))

    own_wait : (now : Core) (o : ObjNo) (owner : ThreadNo) → (monitor_at now o).owner ≡ Some owner → OwnOk now (Changes (GoesToWait o t))
    own_wait now o owner is =
        both now (Changes (GoesToWait o t)) tt (rules.goes_to_wait (seen now) o owner is) (rules.goes_to_wait (seen (freed now)) o owner is)

    abbrev kept_error : Value
    kept_error = value.Ref (Some (record { 0 = 2 }))

    own_thread : (now : Core) (o : ObjNo) → Holds (seen now) (value.Ref (Some o)) → Holds (seen now) kept_error → OwnOk now (Changes (MakesThread o))
    own_thread now o h kept =
        both now (Changes (MakesThread o)) tt (rules.makes_thread (seen now) o h kept)
        (rules.makes_thread (seen (freed now)) o (freely now (value.Ref (Some o)) h) (freely now kept_error kept))

    pub own_rules : ActRules classes t OwnOk SeenHolds
    own_rules = record {
      int = λ now n. rules.int (seen now) n;
      long = λ now n. rules.long (seen now) n;
      null = λ now. rules.null (seen now);
      there = λ now o is. rules.there (seen now) o is;
      later = own_later;
      keeps = own_keeps;
      raised = λ now e. always now (raises e) tt (λ c. rules.raised c e);
      adds_array = λ now name is. always now (Changes (AddsClass name states.Initialized)) tt (λ c. rules.adds_array c name is);
      makes = own_making;
      puts_field = λ now o place v h. of_value now (Changes (PutsField o place v)) v tt (λ c. rules.puts_field c o place v) h;
      puts_element = λ now o place v h. of_value now (Changes (PutsElement o place v)) v tt (λ c. rules.puts_element c o place v) h;
      puts_side = λ now o side h. of_value now (Changes (PutsSide o side)) (value.Ref side) tt (λ c. rules.puts_side c o side) h;
      puts_behind = own_text;
      enters = own_enter;
      leaves = λ now o owner is. both now (Changes (Leaves o)) tt (rules.leaves (seen now) o owner is) (rules.leaves (seen (freed now)) o owner is);
      goes_to_wait = own_wait;
      notifies = λ now o. always now (Changes (Notifies o)) tt (λ c. rules.notifies c o);
      notifies_all = λ now o. always now (Changes (NotifiesAll o)) tt (λ c. rules.notifies_all c o);
      prints = λ now bytes. always now (Changes (Prints bytes)) tt (λ c. rules.prints c bytes);
      sets_top = own_top;
      pops = λ now. always now (Changes (Pops t)) refl (λ c. rules.pops c);
      pushes = own_push;
      sets_state = λ now state. always now (Changes (SetsState t state)) refl (λ c. rules.sets_state c state);
      sets_activity = own_activity;
      makes_thread = own_thread;
      puts_static = λ now field v h. of_value now (Changes (PutsStatic field v)) v tt (λ c. rules.puts_static c field v) h;
    }

    -- ---- outcomes

    abbrev pub Own : Core → Outcome → Type 0
    Own now o = OutcomeFollows OwnOk SeenHolds now o

    -- whatever is performed comes behind the end of a wish
    pub wish_follows : (now : Core) (activity : Activity) (acts : List Act) → Follow OwnOk now acts
        → Follow Ok (seen now) (wish_ends t activity ++ acts)
    wish_follows now (Wanting o) acts h = (rules.sets_activity (seen now) Free tt, (own_follow now acts h).1)
    wish_follows now (Throwing o) acts h = (own_follow now acts h).0
    wish_follows now (Waiting o) acts h = (own_follow now acts h).0
    wish_follows now (Joining u) acts h = (own_follow now acts h).0
    wish_follows now Free acts h = (own_follow now acts h).0
