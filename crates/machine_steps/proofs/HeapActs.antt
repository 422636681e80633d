-- Acts that keep the heap sound, and each reference that a core holds null or to an object that is there: rules that every instruction and
-- every other step of a thread keeps.
use Rattle.std.proofs.Common.{◌≡◌, ◌∙◌, ◌≤◌, ◌<◌, ⊎_elim, ℕ, ◌+◌, ◌-◌, ◌==◌, Bool, true, false, cond, List, [], ◌∷◌, ◌++◌, drop, length, length-append, Option, Some, None, refl, sym, ap, subst, arith}
use Rattle.std.specs.Prelude.{filter, not, nat_le, slice_set, All, IfSome, IsNone, IsTrue, is_some}
use Rattle.std.specs.List.{AllByRecursion}
use Rattle.std.specs.Option.{option_map_or}
use Rattle.std.proofs.lemmas.Bool.{eqb-true, leb-true}
use Rattle.std.proofs.lemmas.List.{length-map}
use Rattle.std.proofs.lemmas.List.Elements.{All-filter, All-from_recursion, All-set, recursion_from_All}
use Rattle.std.proofs.lemmas.Slice.Eq.{bytes_eq-Decides}
use Rattle.ti_ids.specs.declared.number.ThreadNo.{ThreadNo}
use Rattle.ti_ids.specs.declared.number.ObjNo.{ObjNo}
use Rattle.ti_ids.specs.declared.number.ClassNo.{ClassNo}
use Rattle.ti_ids.specs.declared.value.Value.{Value}
use Rattle.ti_ids.specs.declared.value.Value.TheVariants as value
use Rattle.ti_codes.specs.declared.phase.Phase.TheVariants as phases
use Rattle.java_heap.specs.declared.object.Object.{Object}
use Rattle.java_heap.specs.declared.object.Content.{Content}
use Rattle.java_heap.specs.declared.object.Content.TheVariants.{Fields, Elements, Text, Literal, ClassObject}
use Rattle.java_heap.specs.Objects.{fresh, is_class_object, is_literal, values_of}
use Rattle.java_heap.specs.Heaps.{HeapValue, IsSound, IsThere, NamesThere, RefersThere, class_object_of, literal_of, object_at, words_taken}
use Rattle.java_heap.specs.Changes.{put_behind, put_elem, put_field}
use Rattle.java_heap.proofs.Added.{MayAdd, sound_added}
use Rattle.java_heap.proofs.Lists.{All-slice_get}
use Rattle.java_heap.proofs.Numbers.{found_place}
use Rattle.java_heap.proofs.References.{names_more}
use Rattle.link_versions.specs.Classes.{Class}
use Rattle.monitor_table.specs.Monitors.{Monitor, entered, gone_to_wait, left, taken_back, with_all_notified, with_one_notified}
use Rattle.thread_frames.specs.declared.frame.StackEntry.TheVariants.{Java, Init}
use Rattle.machine_state.specs.Core.{Core, MethodFrame, StackFrame, Static, Thread, is_of_classes, monitor_at, most_threads, same_field, thread_at, with_monitor, with_thread}
use Rattle.machine_state.specs.Acts.{Act, Change, Changes, Notes, Makes, PutsField, PutsElement, PutsSide, PutsBehind, Enters, Leaves, GoesToWait, Notifies, NotifiesAll, TakesBack, SetsTop, Pops, Pushes, PushesInit, SetsState, SetsActivity, MakesThread, PutsStatic, SetsPhase, born_at, changed, going_on, new_thread, with_born}
use Rattle.instruction_effect.specs.Outcomes.{heap_has_room}
use Rattle.instruction_effect.proofs.ActRules.{ActRules, ActivityHolds, CoreHolds, FrameHolds, HoldAll, IsNew, ObjectHolds, ThreadHolds, behind}
use Rattle.instruction_effect.proofs.FollowingForms.{all_both, all_held}
use Rattle.machine_steps.specs.World.{World}
use Rattle.machine_steps.proofs.ChangedThreads.{with_each}
use Rattle.machine_steps.proofs.FewThreads.{as_many}
use Rattle.machine_steps.proofs.Growing.{change_keeps, object_classes}
use Rattle.machine_steps.proofs.OwnRules.{object_on, thread_on, values_on}
use Rattle.machine_steps.proofs.OwnedMonitors.{monitor_becomes}
use Rattle.machine_steps.proofs.SoundReplaced.{elem_sound, field_sound, more_sound, side_sound}
use Rattle.machine_steps.proofs.StepRules.{StepRules}

-- ---- values and acts

-- a reference is null or to an object that is there now
abbrev pub NamesNow : Core → Value → Type 0
NamesNow now v = NamesThere now.heap v

-- What is made has room, and is no second one where there is one each; what is put, held or owned is there. The kept error is there when a
-- thread is made. The machine never begins anew.
abbrev pub KeepsHeap : Core → Act → Type 0
KeepsHeap now (Changes (Makes o)) = MayAdd now.heap o × RefersThere now.heap o
KeepsHeap now (Changes (PutsField o place v)) = NamesThere now.heap v
KeepsHeap now (Changes (PutsElement o place v)) = NamesThere now.heap v
KeepsHeap now (Changes (PutsSide o side)) = IfSome side (IsThere now.heap)
KeepsHeap now (Changes (PutsBehind o units)) = words_taken now.heap + length units ≤ now.heap.limit
KeepsHeap now (Changes (Enters o t)) = IsThere now.heap o
KeepsHeap now (Changes (TakesBack o t)) = IsThere now.heap o
KeepsHeap now (Changes (SetsTop t f)) = FrameHolds NamesNow now (Java f)
KeepsHeap now (Changes (Pushes t f)) = FrameHolds NamesNow now (Java f) × IfSome f.pin.monitor (IsThere now.heap)
KeepsHeap now (Changes (SetsActivity t activity)) = ActivityHolds NamesNow now activity
KeepsHeap now (Changes (MakesThread o)) = IsThere now.heap o × IsThere now.heap (record { 0 = 2 })
KeepsHeap now (Changes (PutsStatic field v)) = NamesThere now.heap v
KeepsHeap now (Changes (SetsPhase phases.OnLoad)) = ⊥
KeepsHeap now (Changes c) = Unit {0}
KeepsHeap now (Notes what) = Unit {0}

-- ---- the heap

pub heap_stays : (now : Core) (a : Act) → KeepsHeap now a → IsSound now.heap → IsSound (behind now a).heap
heap_stays now (Changes (Makes o)) ok sound = sound_added now.heap o sound ok.0
heap_stays now (Changes (PutsField o place v)) ok sound = field_sound now.heap sound o place v
heap_stays now (Changes (PutsElement o place v)) ok sound = elem_sound now.heap sound o place v
heap_stays now (Changes (PutsSide o side)) ok sound = side_sound now.heap sound o side
heap_stays now (Changes (PutsBehind o units)) ok sound = more_sound now.heap sound o units ok
heap_stays now (Changes c) ok sound = sound
heap_stays now (Notes what) ok sound = sound

-- objects never become fewer
pub as_many_objects : (now : Core) (a : Act) → length now.heap.objects ≤ length (behind now a).heap.objects
as_many_objects now (Notes what) = omega arith
as_many_objects now (Changes c) =
    let next = changed 0 c now in
    let grown = (change_keeps 0 c now).objects in
    let all : length (object_classes next) ≡ length (object_classes now) + length grown.more =
    ap length grown.grown ∙ length-append (object_classes now) grown.more in
    omega (arith, all, length-map now.heap.objects (λ (o : Object). o.class), length-map next.heap.objects (λ (o : Object). o.class))

pub names_later : (now : Core) (a : Act) (v : Value) → KeepsHeap now a → NamesNow now v → NamesNow (behind now a) v
names_later now a v ok names = names_more now.heap (behind now a).heap (as_many_objects now a) v names

-- ---- threads

module _ (now : Core) (c : Change) where
  abbrev next : Core
  next = changed 0 c now

  abbrev ThreadNext : Thread → Type 0
  ThreadNext thread = ThreadHolds NamesNow next thread

  abbrev FrameNext : StackFrame → Type 0
  FrameNext f = FrameHolds NamesNow next f

  with_frames_of : (thread : Thread) (frames : List StackFrame) → ThreadNext thread → AllByRecursion FrameNext frames
      → ThreadNext (record thread { frames = frames })
  with_frames_of thread frames h k = record { object = h.object; activity = h.activity; frames = k }

  going : (f : MethodFrame) (frames : List StackFrame) → FrameNext (Java f) → AllByRecursion FrameNext frames
      → AllByRecursion FrameNext (going_on f frames)
  going f [] ok h = tt
  going f (Java g ∷ below) ok h = (ok, h.1)
  going f (Init class ∷ below) ok h = h

  popping : (frames : List StackFrame) → AllByRecursion FrameNext frames → AllByRecursion FrameNext (drop 1 frames)
  popping [] h = tt
  popping (f ∷ below) h = h.1

  pushing : (f : MethodFrame) (frames : List StackFrame) (there : Bool) → FrameNext (Java f) → AllByRecursion FrameNext frames
      → AllByRecursion FrameNext (cond there (Java (born_at 0 f) ∷ frames) frames)
  pushing f frames true ok h = (ok, h)
  pushing f frames false ok h = h

  making : (o : ObjNo) (threads : List Thread) (full : Bool) → IsThere next.heap o → AllByRecursion ThreadNext threads
      → AllByRecursion ThreadNext (cond full threads (threads ++ new_thread o ∷ []))
  making o threads true ok h = h
  making o threads false ok h = all_both ThreadNext threads (new_thread o ∷ []) h (record { object = ok; activity = tt; frames = tt }, tt)

threads_stay : (now : Core) (c : Change) → KeepsHeap now (Changes c) → AllByRecursion (ThreadHolds NamesNow (changed 0 c now)) now.threads
    → AllByRecursion (ThreadHolds NamesNow (changed 0 c now)) (changed 0 c now).threads
threads_stay now (SetsTop t f) ok h =
    let c : Change = SetsTop t f in
    with_each (ThreadNext now c) now t (λ u. record u { frames = going_on f u.frames })
    (λ u k. with_frames_of now c u (going_on f u.frames) k (going now c f u.frames ok k.frames)) h
threads_stay now (Pops t) ok h =
    let c : Change = Pops t in
    with_each (ThreadNext now c) now t (λ u. record u { frames = drop 1 u.frames })
    (λ u k. with_frames_of now c u (drop 1 u.frames) k (popping now c u.frames k.frames)) h
threads_stay now (Pushes t f) ok h =
    let c : Change = Pushes t f in
    with_each (ThreadNext now c) now t (λ u. record u { frames = with_born 0 now.classes f u.frames })
    (λ u k. with_frames_of now c u (with_born 0 now.classes f u.frames) k (pushing now c f u.frames (is_of_classes now.classes f) ok.0 k.frames)) h
threads_stay now (PushesInit t class) ok h =
    let c : Change = PushesInit t class in
    with_each (ThreadNext now c) now t (λ u. record u { frames = Init class ∷ u.frames })
    (λ u k. with_frames_of now c u (Init class ∷ u.frames) k (tt, k.frames)) h
threads_stay now (SetsState t state) ok h =
    let c : Change = SetsState t state in
    with_each (ThreadNext now c) now t (λ u. record u { state = state })
    (λ u k. record { object = k.object; activity = k.activity; frames = k.frames }) h
threads_stay now (SetsActivity t activity) ok h =
    let c : Change = SetsActivity t activity in
    with_each (ThreadNext now c) now t (λ u. record u { activity = activity })
    (λ u k. record { object = k.object; activity = ok; frames = k.frames }) h
threads_stay now (MakesThread o) ok h =
    making now (MakesThread o) o now.threads (nat_le most_threads (length now.threads)) ok.0 h
threads_stay now c ok h = h

-- ---- the first thread

module _ (now : Core) (h : CoreHolds NamesNow now) where
  -- it was there, so that the kept error is
  kept_by : (threads : List Thread) → now.threads ≡ threads → 0 < length threads → IsThere now.heap (record { 0 = 2 })
  kept_by [] is some = absurd (omega (arith, some))
  kept_by (thread ∷ threads) is some = h.kept thread threads is

  kept_with : (t : ThreadNo) (change : Thread → Thread) (thread : Thread) (threads : List Thread)
      → (with_thread change t now).threads ≡ thread ∷ threads → IsThere now.heap (record { 0 = 2 })
  kept_with t change thread threads is =
      let same : length (with_thread change t now).threads ≡ length now.threads = as_many now.threads (t.0 - 1) (thread_at now t) change in
      let some : 0 < length (with_thread change t now).threads = omega (arith, ap length is) in
      kept_by now.threads refl (omega (arith, same, some))

  kept_stays : (c : Change) → KeepsHeap now (Changes c) → (thread : Thread) (threads : List Thread) → (changed 0 c now).threads ≡ thread ∷ threads
      → IsThere now.heap (record { 0 = 2 })
  kept_stays (SetsTop t f) ok thread threads is = kept_with t _ thread threads is
  kept_stays (Pops t) ok thread threads is = kept_with t _ thread threads is
  kept_stays (Pushes t f) ok thread threads is = kept_with t _ thread threads is
  kept_stays (PushesInit t class) ok thread threads is = kept_with t _ thread threads is
  kept_stays (SetsState t state) ok thread threads is = kept_with t _ thread threads is
  kept_stays (SetsActivity t activity) ok thread threads is = kept_with t _ thread threads is
  kept_stays (MakesThread o) ok thread threads is = ok.1
  kept_stays c ok thread threads is = h.kept thread threads is

  -- ---- monitors that are owned

  abbrev Owned : Monitor → ObjNo → Type 0
  Owned m o = (owner : ThreadNo) → m.owner ≡ Some owner → IsThere now.heap o

  owned_with : (change : Monitor → Monitor) (object o : ObjNo) → Owned (change (monitor_at now object)) object
      → Owned (monitor_at (with_monitor change object now) o) o
  owned_with change object o ok owner is =
      ⊎_elim (λ same. h.owned o owner (sym (ap (λ (m : Monitor). m.owner) same) ∙ is))
      (λ own. subst (λ (x : ObjNo). IsThere now.heap x) (sym own.0) (ok owner (sym (ap (λ (m : Monitor). m.owner) own.1) ∙ is)))
      (monitor_becomes change object now o)

  left_by : (object : ObjNo) (last : Bool) (owner : ThreadNo) → cond last None (monitor_at now object).owner ≡ Some owner → IsThere now.heap object
  left_by object true owner is = absurd cc
  left_by object false owner is = h.owned object owner is

  owned_stays : (c : Change) → KeepsHeap now (Changes c) → (o : ObjNo) → Owned (monitor_at (changed 0 c now) o) o
  owned_stays (Enters object t) ok o = owned_with (entered t) object o (λ owner is. ok)
  owned_stays (TakesBack object t) ok o = owned_with (taken_back t) object o (λ owner is. ok)
  owned_stays (Leaves object) ok o =
      owned_with left object o (λ owner is. left_by object ((monitor_at now object).entries == 1) owner is)
  owned_stays (GoesToWait object t) ok o = owned_with (gone_to_wait t) object o (λ owner is. absurd cc)
  owned_stays (Notifies object) ok o = owned_with with_one_notified object o (λ owner is. h.owned object owner is)
  owned_stays (NotifiesAll object) ok o = owned_with with_all_notified object o (λ owner is. h.owned object owner is)
  owned_stays c ok o = h.owned o

-- ---- static fields

statics_stay : (now : Core) (c : Change) → KeepsHeap now (Changes c) → AllByRecursion (λ s. NamesNow (changed 0 c now) s.value) now.statics
    → AllByRecursion (λ s. NamesNow (changed 0 c now) s.value) (changed 0 c now).statics
statics_stay now (PutsStatic field v) ok h =
    let P = λ (s : Static). NamesThere now.heap s.value in
    let others = λ (s : Static). not (same_field s.field field) in
    (ok, recursion_from_All P (filter others now.statics) (All-filter others P now.statics (All-from_recursion P now.statics h)))
statics_stay now c ok h = h

-- ---- objects

module _ (P : Value → Type 0) where
  set_all : (values : List Value) (place : ℕ) (v : Value) → P v → AllByRecursion P values → AllByRecursion P (slice_set values place v)
  set_all values place v ok h = recursion_from_All P (slice_set values place v) (All-set P values place v ok (All-from_recursion P values h))

  put_field_all : (place : ℕ) (v : Value) (content : Content) → P v → AllByRecursion P (values_of content)
      → AllByRecursion P (values_of (put_field place v content))
  put_field_all place v (Fields values) ok h = set_all values place v ok h
  put_field_all place v content ok h = h

  put_elem_all : (place : ℕ) (v : Value) (content : Content) → P v → AllByRecursion P (values_of content)
      → AllByRecursion P (values_of (put_elem place v content))
  put_elem_all place v (Elements values) ok h = set_all values place v ok h
  put_elem_all place v content ok h = h

  put_behind_all : (units : List ℕ) (content : Content) → AllByRecursion P (values_of content)
      → AllByRecursion P (values_of (put_behind units content))
  put_behind_all units (Text old) h = h
  put_behind_all units content h = h

objects_with : (P : Object → Type 0) (heap : HeapValue) (n : ObjNo) (change : Object → Object) → ((o : Object) → P o → P (change o))
    → AllByRecursion P heap.objects
    → AllByRecursion P (option_map_or (λ o. slice_set heap.objects (n.0 - 1) (change o)) (object_at heap n) heap.objects)
objects_with P heap n change keep h = by (object_at heap n) refl
  where
    by : (found : Option Object) → object_at heap n ≡ found
        → AllByRecursion P (option_map_or (λ o. slice_set heap.objects (n.0 - 1) (change o)) found heap.objects)
    by None is = h
    by (Some o) is =
        let all : All P heap.objects = All-from_recursion P heap.objects h in
        let own : P o = All-slice_get P heap.objects (n.0 - 1) o all (found_place heap n o is).1 in
        recursion_from_All P (slice_set heap.objects (n.0 - 1) (change o)) (All-set P heap.objects (n.0 - 1) (change o) (keep o own) all)

module _ (now : Core) (c : Change) where
  abbrev ObjectNext : Object → Type 0
  ObjectNext o = ObjectHolds NamesNow (changed 0 c now) o

objects_stay : (now : Core) (c : Change) → KeepsHeap now (Changes c)
    → ((v : Value) → NamesNow now v → NamesNow (changed 0 c now) v)
    → AllByRecursion (ObjectHolds NamesNow (changed 0 c now)) now.heap.objects
    → AllByRecursion (ObjectHolds NamesNow (changed 0 c now)) (changed 0 c now).heap.objects
objects_stay now (Makes o) ok later h =
    let c : Change = Makes o in
    let values = recursion_from_All (NamesThere now.heap) (values_of o.content) ok.1.values in
    let own : ObjectNext now c o = record {
      values = values_on NamesNow NamesNow now (changed 0 c now) later (values_of o.content) values;
      side = later (value.Ref o.side) ok.1.side;
    } in
    all_both (ObjectNext now c) now.heap.objects (o ∷ []) h (own, tt)
objects_stay now (PutsField n place v) ok later h =
    let c : Change = PutsField n place v in
    objects_with (ObjectNext now c) now.heap n (λ o. record o { content = put_field place v o.content })
    (λ o k. record { values = put_field_all (NamesNow (changed 0 c now)) place v o.content (later v ok) k.values; side = k.side }) h
objects_stay now (PutsElement n place v) ok later h =
    let c : Change = PutsElement n place v in
    objects_with (ObjectNext now c) now.heap n (λ o. record o { content = put_elem place v o.content })
    (λ o k. record { values = put_elem_all (NamesNow (changed 0 c now)) place v o.content (later v ok) k.values; side = k.side }) h
objects_stay now (PutsSide n side) ok later h =
    let c : Change = PutsSide n side in
    objects_with (ObjectNext now c) now.heap n (λ o. record o { side = side })
    (λ o k. record { values = k.values; side = later (value.Ref side) ok }) h
objects_stay now (PutsBehind n units) ok later h =
    let c : Change = PutsBehind n units in
    objects_with (ObjectNext now c) now.heap n (λ o. record o { content = put_behind units o.content })
    (λ o k. record { values = put_behind_all (NamesNow (changed 0 c now)) units o.content k.values; side = k.side }) h
objects_stay now c ok later h = h

-- ---- all of it

pub values_stay : (now : Core) (a : Act) → KeepsHeap now a → CoreHolds NamesNow now → CoreHolds NamesNow (behind now a)
values_stay now (Notes what) ok h = h
values_stay now (Changes c) ok h =
    let next = changed 0 c now in
    let later = λ (v : Value) (names : NamesNow now v). names_later now (Changes c) v ok names in
    let thread = thread_on NamesNow NamesNow now next later in
    let object = object_on NamesNow NamesNow now next later in
    let static = λ (s : Static) (k : NamesNow now s.value). later s.value k in
    let threads = all_held (ThreadHolds NamesNow now) (ThreadHolds NamesNow next) now.threads thread h.threads in
    let objects = all_held (ObjectHolds NamesNow now) (ObjectHolds NamesNow next) now.heap.objects object h.objects in
    let statics = all_held (λ s. NamesNow now s.value) (λ s. NamesNow next s.value) now.statics static h.statics in
    record {
      threads = threads_stay now c ok threads;
      statics = statics_stay now c ok statics;
      objects = objects_stay now c ok later objects;
      kept = λ thread threads is. later (value.Ref (Some (record { 0 = 2 }))) (kept_stays now h c ok thread threads is);
      owned = λ o owner is. later (value.Ref (Some o)) (owned_stays now h c ok o owner is);
    }

-- ---- the rules

new_literal : (heap : HeapValue) (content : Content) → IsNew heap content → (units : List ℕ) → IsTrue (is_literal units content)
    → IsNone (literal_of heap units)
new_literal heap (Literal own) new units is =
    let same : units ≡ own = (bytes_eq-Decides units own).0 is in
    subst (λ (us : List ℕ). IsNone (literal_of heap us)) (sym same) (ap is_some new)
new_literal heap (Fields values) new units is = absurd cc
new_literal heap (Elements values) new units is = absurd cc
new_literal heap (Text text) new units is = absurd cc
new_literal heap (ClassObject class) new units is = absurd cc

new_class_object : (heap : HeapValue) (content : Content) → IsNew heap content → (class : ClassNo) → IsTrue (is_class_object class content)
    → IsNone (class_object_of heap class)
new_class_object heap (ClassObject own) new class is =
    let same : class ≡ own = ap (λ n. let c : ClassNo = record { 0 = n } in c) (eqb-true class.0 own.0 is) in
    subst (λ (c : ClassNo). IsNone (class_object_of heap c)) (sym same) (ap is_some new)
new_class_object heap (Fields values) new class is = absurd cc
new_class_object heap (Elements values) new class is = absurd cc
new_class_object heap (Text text) new class is = absurd cc
new_class_object heap (Literal units) new class is = absurd cc

may_add : (now : Core) (class : ClassNo) (content : Content) → heap_has_room now.heap content ≡ true → IsNew now.heap content
    → HoldAll NamesNow now (values_of content) → MayAdd now.heap (fresh class content) × RefersThere now.heap (fresh class content)
may_add now class content room new values = (
  record { room = leb-true _ _ room; literal = new_literal now.heap content new; class_object = new_class_object now.heap content new },
  record { values = All-from_recursion (NamesThere now.heap) (values_of content) values; side = tt },
)

pub heap_rules : (classes : List Class) (t : ThreadNo) → ActRules classes t KeepsHeap NamesNow
heap_rules classes t = record {
  int = λ now n. tt;
  long = λ now n. tt;
  null = λ now. tt;
  there = λ now o is. is;
  later = names_later;
  keeps = values_stay;
  raised = λ now e. tt;
  adds_array = λ now name array. tt;
  makes = may_add;
  puts_field = λ now o place v ok. ok;
  puts_element = λ now o place v ok. ok;
  puts_side = λ now o side ok. ok;
  puts_behind = λ now o units room. leb-true _ _ room;
  enters = λ now o may ok. ok;
  leaves = λ now o owner is. tt;
  goes_to_wait = λ now o owner is. tt;
  notifies = λ now o. tt;
  notifies_all = λ now o. tt;
  prints = λ now bytes. tt;
  sets_top = λ now f g below top on. (on.local_values, on.operands);
  pops = λ now. tt;
  pushes = λ now f fits pushed. (
    (pushed.local_values, subst (λ (vs : List Value). HoldAll NamesNow now vs) (sym pushed.empty) tt),
    pushed.monitor,
  );
  sets_state = λ now state. tt;
  sets_activity = λ now activity ok. ok;
  makes_thread = λ now o ok kept. (ok, kept);
  puts_static = λ now field v ok. ok;
}

pub heap_step_rules : (w : World) (classes : List Class) (t : ThreadNo) → StepRules w classes t KeepsHeap NamesNow
heap_step_rules w classes t = record {
  acts = heap_rules classes t;
  pushes_init = λ now n fits. tt;
  sets_class = λ now n state. tt;
  enters_initializer = λ now n. tt;
  fails = λ now class error. tt;
  takes_back = λ now o notified free ok. ok;
  failed = λ now class error. tt;
  turned = λ now env class set k n has_changed. tt;
  loaded = λ now s name is. tt;
  adds_loaded = λ now s name is. tt;
}
