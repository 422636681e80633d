-- Acts that come one behind the other: what is true of the core behind them. A walk over what instructions do begins at one core, and says
-- of the acts so far which facts about that core they leave alone.
use Rattle.std.proofs.Common.{◌≡◌, ◌∙◌, ◌+◌, ◌-◌, ◌<◌, ◌≤◌, ℕ, zero, suc, Bool, true, false, cond, List, [], ◌∷◌, ◌++◌, length, map, Option, Some, None, refl, sym, ap, subst, arith, length-append}
use Rattle.std.specs.Prelude.{slice_get, slice_set, nat_le, option_map}
use Rattle.std.specs.List.{AllByRecursion, position_from}
use Rattle.std.specs.Option.{option_map_or}
use Rattle.ti_ids.specs.declared.number.ThreadNo.{ThreadNo}
use Rattle.ti_ids.specs.declared.number.ObjNo.{ObjNo}
use Rattle.ti_ids.specs.declared.number.ClassNo.{ClassNo}
use Rattle.ti_ids.specs.declared.value.Value.{Value}
use Rattle.ti_ids.specs.declared.value.Value.TheVariants as value
use Rattle.java_heap.specs.declared.object.Object.{Object}
use Rattle.java_heap.specs.declared.object.Content.{Content}
use Rattle.java_heap.specs.Objects.{fresh, values_of}
use Rattle.java_heap.specs.Heaps.{HeapValue, IsThere, next_number, first_number}
use Rattle.link_versions.specs.Classes.{Class}
use Rattle.machine_state.specs.Jobs.{at_number}
use Rattle.machine_state.specs.Core.{Core, StackFrame, Thread, frames_at, most_threads, thread_at, with_frames, with_thread}
use Rattle.machine_state.specs.Trace.{Event}
use Rattle.machine_state.specs.Acts.{Act, Changes, Notes, Makes, MakesThread, core_after, new_thread, raises}
use Rattle.instruction_effect.specs.Outcomes.{heap_has_room}
use Rattle.instruction_effect.proofs.ActRules.{ActRules, Follow, HoldAll, IsNew, behind}

-- ---- the core behind acts

abbrev pub after : Core → List Act → Core
after now [] = now
after now (a ∷ acts) = after (behind now a) acts

pub after_both : (now : Core) (xs ys : List Act) → after now (xs ++ ys) ≡ after (after now xs) ys
after_both now [] ys = refl
after_both now (x ∷ xs) ys = after_both (behind now x) xs ys

-- it is the core that the entry of a thread looks at
pub after_is : (now : Core) (acts : List Act) → core_after 0 now acts ≡ after now acts
after_is now [] = refl
after_is now (Changes c ∷ acts) = after_is (behind now (Changes c)) acts
after_is now (Notes what ∷ acts) = after_is now acts

pub after_raised : (now : Core) (events : List Event) → after now (map raises events) ≡ now
after_raised now [] = refl
after_raised now (e ∷ events) = after_raised now events

-- ---- the frames of a thread

set_read : (threads : List Thread) (k : ℕ) (change : Thread → Thread) (found : Option Thread) → slice_get threads k ≡ found
    → slice_get (option_map_or (λ u. slice_set threads k (change u)) found threads) k ≡ option_map change found
set_read threads k change None e = e
set_read [] k change (Some u) e = absurd cc
set_read (v ∷ threads) zero change (Some u) e = refl
set_read (v ∷ threads) (suc k) change (Some u) e = set_read threads k change (Some u) e

at_read : (threads : List Thread) (n : ℕ) (change : Thread → Thread)
    → at_number (option_map_or (λ u. slice_set threads (n - 1) (change u)) (at_number threads n) threads) n ≡ option_map change (at_number threads n)
at_read threads zero change = refl
at_read threads (suc k) change =
    subst (λ (p : ℕ). slice_get (option_map_or (λ u. slice_set threads p (change u)) (slice_get threads k) threads) k
    ≡ option_map change (slice_get threads k)) (let same : k ≡ suc k - 1 = omega arith in same)
    (set_read threads k change (slice_get threads k) refl)

pub thread_changed : (core : Core) (t : ThreadNo) (change : Thread → Thread)
    → thread_at (with_thread change t core) t ≡ option_map change (thread_at core t)
thread_changed core t change = at_read core.threads t.0 change

abbrev frames_of : Option Thread → List StackFrame
frames_of found = option_map_or (λ u. u.frames) found []

abbrev framed : (List StackFrame → List StackFrame) → Thread → Thread
framed change u = record u { frames = change u.frames }

pub frames_changed : (core : Core) (t : ThreadNo) (change : List StackFrame → List StackFrame) → change [] ≡ []
    → frames_at (with_frames change t core) t ≡ change (frames_at core t)
frames_changed core t change none =
    ap frames_of (at_read core.threads t.0 (framed change)) ∙ by (thread_at core t)
  where
    by : (found : Option Thread) → frames_of (option_map (framed change) found) ≡ change (frames_of found)
    by None = sym none
    by (Some u) = refl

pub frames_stay : (core : Core) (t : ThreadNo) (change : Thread → Thread) → ((u : Thread) → (change u).frames ≡ u.frames)
    → frames_at (with_thread change t core) t ≡ frames_at core t
frames_stay core t change same = ap frames_of (at_read core.threads t.0 change) ∙ by (thread_at core t)
  where
    by : (found : Option Thread) → frames_of (option_map change found) ≡ frames_of found
    by None = refl
    by (Some u) = same u

get_made : (threads : List Thread) (k : ℕ) (o : ObjNo)
    → frames_of (slice_get (threads ++ new_thread o ∷ []) k) ≡ frames_of (slice_get threads k)
get_made [] zero o = refl
get_made [] (suc k) o = refl
get_made (u ∷ threads) zero o = refl
get_made (u ∷ threads) (suc k) o = get_made threads k o

at_made : (threads : List Thread) (n : ℕ) (o : ObjNo)
    → frames_of (at_number (threads ++ new_thread o ∷ []) n) ≡ frames_of (at_number threads n)
at_made threads zero o = refl
at_made threads (suc k) o = get_made threads k o

made_by : (full : Bool) (threads : List Thread) (n : ℕ) (o : ObjNo)
    → frames_of (at_number (cond full threads (threads ++ new_thread o ∷ [])) n) ≡ frames_of (at_number threads n)
made_by true threads n o = refl
made_by false threads n o = at_made threads n o

pub frames_made : (core : Core) (t : ThreadNo) (o : ObjNo) → frames_at (behind core (Changes (MakesThread o))) t ≡ frames_at core t
frames_made core t o = made_by (nat_le most_threads (length core.threads)) core.threads t.0 o

-- the act leaves the frames of a thread alone
abbrev pub Leaves : ThreadNo → Act → Type 0
Leaves t a = (now : Core) → frames_at (behind now a) t ≡ frames_at now t

pub frames_left : (t : ThreadNo) (acts : List Act) (now : Core) → AllByRecursion (Leaves t) acts → frames_at (after now acts) t ≡ frames_at now t
frames_left t [] now h = refl
frames_left t (a ∷ acts) now h = frames_left t acts (behind now a) h.1 ∙ h.0 now

-- ---- objects of which there is one each

found_by : {A : Type 0} (p : A → Bool) (x : A) (xs : List A) (first k : ℕ) (b : Bool)
    → (position_from p (first + 1) xs ≡ Some k → (first + 1 ≤ k) × (k < first + 1 + length xs))
    → cond b (Some first) (position_from p (first + 1) xs) ≡ Some k
    → (first ≤ k) × (k < first + suc (length xs))
found_by p x xs first k true rest e = let same : first ≡ k = cc in (omega (arith, same), omega (arith, same))
found_by p x xs first k false rest e = let more = rest e in (omega (arith, more.0), omega (arith, more.1))

found_within : {A : Type 0} (p : A → Bool) (first : ℕ) (xs : List A) (k : ℕ) → position_from p first xs ≡ Some k
    → (first ≤ k) × (k < first + length xs)
found_within p first [] k e = absurd cc
found_within p first (x ∷ xs) k e = found_by p x xs first k (p x) (found_within p (first + 1) xs k) e

first_by : (heap : HeapValue) (o : ObjNo) (found : Option ℕ) → ((k : ℕ) → found ≡ Some k → (1 ≤ k) × (k < 1 + length heap.objects))
    → option_map (λ n. (let number : ObjNo = record { 0 = n } in number)) found ≡ Some o → IsThere heap o
first_by heap o None within e = absurd cc
first_by heap o (Some k) within e =
    let same : (let number : ObjNo = record { 0 = k } in number) ≡ o = cc in
    let h = within k refl in
    subst (IsThere heap) same (omega (arith, h.0), omega (arith, h.1))

pub first_there : (test : Content → Bool) (heap : HeapValue) (o : ObjNo) → first_number test heap ≡ Some o → IsThere heap o
first_there test heap o e =
    first_by heap o (position_from (λ (x : Object). test x.content) 1 heap.objects)
    (λ k is. found_within (λ (x : Object). test x.content) 1 heap.objects k is) e

-- ---- a walk

-- The classes when the step begins, what is said of acts and of values, and the core at the first act.
pub record Walk : Type 1 where
  pub classes : List Class
  pub Ok : Core → Act → Type 0
  pub Holds : Core → Value → Type 0
  pub start : Core

-- the acts that make an object and raise these events
abbrev pub making : ClassNo → Content → List Event → List Act
making class content events = Changes (Makes (fresh class content)) ∷ map raises events

module _ (w : Walk) where
  abbrev pub Rules : ThreadNo → Type 0
  Rules t = ActRules w.classes t w.Ok w.Holds

  abbrev pub Follows : Core → List Act → Type 0
  Follows now acts = Follow w.Ok now acts

  pub follow_both : (now : Core) (xs ys : List Act) → Follows now xs → Follows (after now xs) ys → Follows now (xs ++ ys)
  follow_both now [] ys h k = k
  follow_both now (x ∷ xs) ys h k = (h.0, follow_both (behind now x) xs ys h.1 k)

  pub held_behind : (t : ThreadNo) → Rules t → (acts : List Act) (now : Core) (v : Value) → Follows now acts → w.Holds now v
      → w.Holds (after now acts) v
  held_behind t rules [] now v h holds = holds
  held_behind t rules (a ∷ acts) now v h holds = held_behind t rules acts (behind now a) v h.1 (rules.later now a v h.0 holds)

  pub raised_all : (t : ThreadNo) → Rules t → (now : Core) (events : List Event) → Follows now (map raises events)
  raised_all t rules now [] = tt
  raised_all t rules now (e ∷ events) = (rules.raised now e, raised_all t rules now events)

  -- These acts were done, and what holds of a core's values holds behind them, where the thread has the frames that it has there.
  pub record Done (core : Core) (t : ThreadNo) (acts : List Act) : Type 0 where
    pub follows : Follows w.start acts
    pub held : (v : Value) → w.Holds core v → w.Holds (after w.start acts) v
    pub frames : frames_at (after w.start acts) t ≡ frames_at core t

  -- Behind them, the monitors are those of that core, too.
  pub record Apart (core : Core) (t : ThreadNo) (acts : List Act) : Type 0 where
    pub done : Done core t acts
    pub monitors : (after w.start acts).monitors ≡ core.monitors

  -- And so is the heap.
  pub record Still (core : Core) (t : ThreadNo) (acts : List Act) : Type 0 where
    pub apart : Apart core t acts
    pub heap : (after w.start acts).heap ≡ core.heap

  -- Behind them this object is there.
  pub record Has (core : Core) (t : ThreadNo) (acts : List Act) (o : ObjNo) : Type 0 where
    pub apart : Apart core t acts
    pub there : w.Holds (after w.start acts) (value.Ref (Some o))

  -- ---- further acts

  pub done_more : (core : Core) (t : ThreadNo) → Rules t → (acts more : List Act) → Done core t acts → Follows (after w.start acts) more
      → AllByRecursion (Leaves t) more → Done core t (acts ++ more)
  done_more core t rules acts more d follows left =
      let same = sym (after_both w.start acts more) in
      record {
        follows = follow_both w.start acts more d.follows follows;
        held = λ v h. subst (λ (c : Core). w.Holds c v) same (held_behind t rules more (after w.start acts) v follows (d.held v h));
        frames = subst (λ (c : Core). frames_at c t ≡ frames_at core t) same (frames_left t more (after w.start acts) left ∙ d.frames);
      }

  pub done_one : (core : Core) (t : ThreadNo) → Rules t → (acts : List Act) (a : Act) → Done core t acts → w.Ok (after w.start acts) a
      → Leaves t a → Done core t (acts ++ a ∷ [])
  done_one core t rules acts a d ok left = done_more core t rules acts (a ∷ []) d (ok, tt) (left, tt)

  -- ---- an object is made

  after_making : (acts : List Act) (class : ClassNo) (content : Content) (events : List Event)
      → after w.start (acts ++ making class content events) ≡ behind (after w.start acts) (Changes (Makes (fresh class content)))
  after_making acts class content events =
      after_both w.start acts (making class content events)
      ∙ after_raised (behind (after w.start acts) (Changes (Makes (fresh class content)))) events

  raised_leave : (t : ThreadNo) (events : List Event) → AllByRecursion (Leaves t) (map raises events)
  raised_leave t [] = tt
  raised_leave t (e ∷ events) = (λ now. refl, raised_leave t events)

  next_there : (heap other : HeapValue) (object : Object) → heap ≡ other
      → IsThere (record heap { objects = heap.objects ++ object ∷ [] }) (next_number other)
  next_there heap other object same =
      subst (λ (h : HeapValue). IsThere (record heap { objects = heap.objects ++ object ∷ [] }) (next_number h)) same
      (omega arith, omega (arith, length-append heap.objects (object ∷ [])))

  -- What the content of an object holds may be whatever holds of every core.
  pub made_follows : (core : Core) (t : ThreadNo) → Rules t → (acts : List Act) (class : ClassNo) (content : Content) (events : List Event)
      → Still core t acts → heap_has_room core.heap content ≡ true → IsNew core.heap content
      → ((now : Core) → HoldAll w.Holds now (values_of content)) → Has core t (acts ++ making class content events) (next_number core.heap)
  made_follows core t rules acts class content events still room new values =
      let now : Core = after w.start acts in
      let object : Object = fresh class content in
      let more : List Act = making class content events in
      let back : core.heap ≡ now.heap = sym still.heap in
      let ok : w.Ok now (Changes (Makes object)) =
      rules.makes now class content (subst (λ (h : HeapValue). heap_has_room h content ≡ true) back room)
      (subst (λ (h : HeapValue). IsNew h content) back new) (values now) in
      let follows : Follows now more = (ok, raised_all t rules (behind now (Changes (Makes object))) events) in
      let left : AllByRecursion (Leaves t) more = (λ c. refl, raised_leave t events) in
      let same = after_making acts class content events in
      let held : w.Holds (behind now (Changes (Makes object))) (value.Ref (Some (next_number core.heap))) =
      rules.there (behind now (Changes (Makes object))) (next_number core.heap) (next_there now.heap core.heap object still.heap) in
      record {
        apart = record {
          done = done_more core t rules acts more still.apart.done follows left;
          monitors = ap (λ (c : Core). c.monitors) same ∙ still.apart.monitors;
        };
        there = subst (λ (c : Core). w.Holds c (value.Ref (Some (next_number core.heap)))) (sym same) held;
      }
