-- What is read from a core whose values hold, holds.
use Rattle.std.proofs.Common.{◌≡◌, ◌∙◌, ◌-◌, ℕ, zero, suc, Bool, true, false, cond, List, [], ◌∷◌, Option, Some, None, refl, sym, subst}
use Rattle.std.specs.Prelude.{slice_get, find, option_map, unwrap_or}
use Rattle.std.specs.List.{AllByRecursion}
use Rattle.std.specs.Option.{option_and_then, option_map_or}
use Rattle.ti_ids.specs.declared.number.ThreadNo.{ThreadNo}
use Rattle.ti_ids.specs.declared.number.ObjNo.{ObjNo}
use Rattle.ti_ids.specs.declared.number.FieldNo.{FieldNo}
use Rattle.ti_ids.specs.declared.value.Value.{Value}
use Rattle.ti_ids.specs.declared.value.Value.TheVariants as value
use Rattle.java_heap.specs.declared.object.Object.{Object}
use Rattle.java_heap.specs.declared.object.Content.{Content}
use Rattle.java_heap.specs.declared.object.Content.TheVariants.{Fields, Elements, Text, Literal, ClassObject}
use Rattle.java_heap.specs.Objects.{elements_of, fields_of, values_of}
use Rattle.java_heap.specs.Heaps.{elem_at, field_at, object_at, side_at}
use Rattle.java_heap.proofs.Numbers.{found_place}
use Rattle.machine_state.specs.Jobs.{at_number}
use Rattle.machine_state.specs.Core.{Core, StackFrame, Static, Thread, frames_at, same_field, static_set, thread_at}
use Rattle.instruction_effect.proofs.ActRules.{CoreHolds, FrameHolds, HoldAll, ObjectHolds, ThreadHolds}

pub all_get : {A : Type 0} (P : A → Type 0) (xs : List A) (place : ℕ) (x : A) → AllByRecursion P xs → slice_get xs place ≡ Some x → P x
all_get P [] place x h is = absurd cc
all_get P (y ∷ xs) zero x h is = let same : y ≡ x = cc in subst P same h.0
all_get P (y ∷ xs) (suc place) x h is = all_get P xs place x h.1 is

find_by : {A : Type 0} (P : A → Type 0) (b : Bool) (y x : A) (rest : Option A) → P y → (rest ≡ Some x → P x) → cond b (Some y) rest ≡ Some x → P x
find_by P true y x rest h k is = let same : y ≡ x = cc in subst P same h
find_by P false y x rest h k is = k is

pub all_find : {A : Type 0} (P : A → Type 0) (p : A → Bool) (xs : List A) (x : A) → AllByRecursion P xs → find p xs ≡ Some x → P x
all_find P p [] x h is = absurd cc
all_find P p (y ∷ xs) x h is = find_by P (p y) y x (find p xs) h.0 (all_find P p xs x h.1) is

module _ (Holds : Core → Value → Type 0) (core : Core) where
  -- ---- threads

  numbered_holds : (P : Thread → Type 0) (threads : List Thread) (n : ℕ) (u : Thread) → AllByRecursion P threads → at_number threads n ≡ Some u → P u
  numbered_holds P threads zero u h is = absurd cc
  numbered_holds P threads (suc k) u h is = all_get P threads k u h is

  pub thread_holds : CoreHolds Holds core → (t : ThreadNo) (u : Thread) → thread_at core t ≡ Some u → ThreadHolds Holds core u
  thread_holds h t u is = numbered_holds (ThreadHolds Holds core) core.threads t.0 u h.threads is

  pub frames_hold : CoreHolds Holds core → (t : ThreadNo) → AllByRecursion (FrameHolds Holds core) (frames_at core t)
  frames_hold h t = by (thread_at core t) refl
    where
      by : (found : Option Thread) → thread_at core t ≡ found → AllByRecursion (FrameHolds Holds core) (option_map_or (λ u. u.frames) found [])
      by None is = tt
      by (Some u) is = (thread_holds h t u is).frames

  -- a thread with frames is there
  pub framed_there : (t : ThreadNo) (f : StackFrame) (below : List StackFrame) → frames_at core t ≡ f ∷ below
      → (u : Thread) × (thread_at core t ≡ Some u)
  framed_there t f below is = by (thread_at core t) refl is
    where
      by : (found : Option Thread) → thread_at core t ≡ found → option_map_or (λ u. u.frames) found [] ≡ f ∷ below
          → (u : Thread) × (thread_at core t ≡ Some u)
      by None is has = absurd cc
      by (Some u) is has = (u, is)

  -- the kept error is there where a thread is
  pub kept_holds : CoreHolds Holds core → (t : ThreadNo) (u : Thread) → thread_at core t ≡ Some u → Holds core (value.Ref (Some (record { 0 = 2 })))
  kept_holds h t u is = by core.threads refl t.0 is
    where
      none_at : (n : ℕ) → at_number {A = Thread} [] n ≡ None
      none_at zero = refl
      none_at (suc k) = refl

      by : (threads : List Thread) → core.threads ≡ threads → (n : ℕ) → at_number threads n ≡ Some u
          → Holds core (value.Ref (Some (record { 0 = 2 })))
      by [] same n is = absurd (let none : None ≡ Some u = sym (none_at n) ∙ is in cc)
      by (v ∷ threads) same n is = h.kept v threads same

  -- ---- objects

  pub object_holds : CoreHolds Holds core → (o : ObjNo) (x : Object) → object_at core.heap o ≡ Some x → ObjectHolds Holds core x
  object_holds h o x is =
      all_get (ObjectHolds Holds core) core.heap.objects (o.0 - 1) x h.objects (found_place core.heap o x is).1

  side_by : (found : Option Object) → ((x : Object) → found ≡ Some x → ObjectHolds Holds core x) → (side : Option ObjNo)
      → option_map (λ x. x.side) found ≡ Some side → Holds core (value.Ref side)
  side_by None h side is = absurd cc
  side_by (Some x) h side is = let same : x.side ≡ side = cc in subst (λ (r : Option ObjNo). Holds core (value.Ref r)) same (h x refl).side

  pub side_holds : CoreHolds Holds core → (o : ObjNo) (side : Option ObjNo) → side_at core.heap o ≡ Some side → Holds core (value.Ref side)
  side_holds h o side is = side_by (object_at core.heap o) (λ x found. object_holds h o x found) side is

  -- what an object has, as fields or as elements, is among all its values
  abbrev IsPart : (Content → Option (List Value)) → Type 0
  IsPart part = (content : Content) (values : List Value) → part content ≡ Some values → values_of content ≡ values

  part_by : (part : Content → Option (List Value)) → IsPart part → (content : Content) (found : Option (List Value)) → part content ≡ found
      → (place : ℕ) (v : Value) → HoldAll Holds core (values_of content) → option_and_then (λ values. slice_get values place) found ≡ Some v
      → Holds core v
  part_by part is content None found place v h at = absurd cc
  part_by part is content (Some values) found place v h at =
      all_get (Holds core) values place v (subst (HoldAll Holds core) (is content values found) h) at

  value_by : (part : Content → Option (List Value)) → IsPart part → (found : Option Object)
      → ((x : Object) → found ≡ Some x → ObjectHolds Holds core x) → (place : ℕ) (v : Value)
      → option_and_then (λ values. slice_get values place) (option_and_then part (option_map (λ x. x.content) found)) ≡ Some v → Holds core v
  value_by part is None h place v at = absurd cc
  value_by part is (Some x) h place v at = part_by part is x.content (part x.content) refl place v (h x refl).values at

  are_fields : IsPart fields_of
  are_fields (Fields values) other is = cc
  are_fields (Elements values) other is = absurd cc
  are_fields (Text units) other is = absurd cc
  are_fields (Literal units) other is = absurd cc
  are_fields (ClassObject class) other is = absurd cc

  are_elements : IsPart elements_of
  are_elements (Fields values) other is = absurd cc
  are_elements (Elements values) other is = cc
  are_elements (Text units) other is = absurd cc
  are_elements (Literal units) other is = absurd cc
  are_elements (ClassObject class) other is = absurd cc

  pub field_holds : CoreHolds Holds core → (o : ObjNo) (place : ℕ) (v : Value) → field_at core.heap o place ≡ Some v → Holds core v
  field_holds h o place v is = value_by fields_of are_fields (object_at core.heap o) (λ x found. object_holds h o x found) place v is

  pub element_holds : CoreHolds Holds core → (o : ObjNo) (place : ℕ) (v : Value) → elem_at core.heap o place ≡ Some v → Holds core v
  element_holds h o place v is = value_by elements_of are_elements (object_at core.heap o) (λ x found. object_holds h o x found) place v is

  -- ---- static fields

  static_by : (found : Option Static) → ((s : Static) → found ≡ Some s → Holds core s.value) → (other : Value) → Holds core other
      → Holds core (unwrap_or (option_map (λ s. s.value) found) other)
  static_by None h other k = k
  static_by (Some s) h other k = h s refl

  pub static_holds : CoreHolds Holds core → (field : FieldNo) (other : Value) → Holds core other
      → Holds core (unwrap_or (static_set core field) other)
  static_holds h field other k =
      static_by (find (λ s. same_field s.field field) core.statics)
      (λ s is. all_find (λ (s : Static). Holds core s.value) (λ s. same_field s.field field) core.statics s h.statics is) other k
