-- What comes of an instruction, and the forms in which the families of instructions say it.
use Rattle.std.specs.Prelude.{ℕ, ◌+◌, Bool, ◌==◌, nat_le, List, [], ◌∷◌, ◌++◌, length, Option, Some, None, codes, if◌then◌else◌}
use Rattle.ti_ids.specs.declared.number.ThreadNo.{ThreadNo}
use Rattle.ti_ids.specs.declared.number.ObjNo.{ObjNo}
use Rattle.ti_ids.specs.declared.number.ClassNo.{ClassNo}
use Rattle.jv_names.specs.Names.{Name}
use Rattle.jv_names.specs.declared.descriptor.ElementType.{ElementType}
use Rattle.jv_names.specs.declared.descriptor.ElementType.TheVariants as element_type
use Rattle.jv_names.specs.declared.descriptor.FieldType.{FieldType}
use Rattle.class_tree.specs.declared.pool.Const.{Const}
use Rattle.java_heap.specs.declared.object.Content.{Content}
use Rattle.java_heap.specs.Objects.{words_of, fresh}
use Rattle.java_heap.specs.Heaps.{HeapValue, words_taken, next_number}
use Rattle.ti_ids.specs.declared.state.InitState.{InitState}
use Rattle.ti_ids.specs.declared.state.InitState.TheVariants as states
use Rattle.link_versions.specs.Classes.{Class, class_at, number_of}
use Rattle.bytecode_local.specs.Changes.{Change, can_take, changed}
use Rattle.machine_state.specs.Core.{Core, Thread, MethodFrame}
use Rattle.machine_state.specs.Linked.{array_type}
use Rattle.machine_state.specs.Trace.{VMObjectAlloc}
use Rattle.machine_state.specs.Acts.{Act, Changes, Makes, SetsTop, AddsClass, raises}

-- Where a thread stands at an instruction: the thread and its top frame, the constant pool that the instruction's indices name, and
-- the offset of the instruction behind it.
pub record Site : Type 0 where
  pub core : Core
  pub classes : List Class
  pub t : ThreadNo
  pub thread : Thread
  pub frame : MethodFrame
  pub pool : List Const
  pub next : ℕ

pub data Outcome : Type 0 where
  -- it is performed, by these acts
  Goes : List Act → Outcome
  -- after these acts it throws a new exception of this class (section 2.10)
  Throws : List Act → Name → Outcome
  -- after these acts it throws the error that is kept for a full heap
  Fills : List Act → Outcome
  -- it throws this object
  ThrowsObject : ObjNo → Outcome
  -- before it can be performed a class must be loaded, linked, initialized (5.3 to 5.5)
  NeedsLoad : Name → Outcome
  NeedsLink : ClassNo → Outcome
  NeedsInit : ClassNo → Outcome

-- operands, local variables or the room of the stack are not as the instruction needs them
abbrev pub misfit : Outcome
misfit = Throws [] (codes "java/lang/InternalError")

-- what is to come of it, where there is something; else it is a misfit
abbrev pub or_misfit : {A : Type 0} → Option A → (A → Outcome) → Outcome
or_misfit None so = misfit
or_misfit (Some x) so = so x

-- ---- what it leaves

-- After these acts the frame is changed so, and goes on behind the instruction; a misfit where its stack has no room.
abbrev pub goes : Site → List Act → Change → Outcome
goes site before change =
    if can_take site.frame change then Goes (before ++ Changes (SetsTop site.t (changed site.frame change site.next)) ∷ []) else misfit

-- ---- needs

-- the state of a class that is there
abbrev pub state_at : Site → ClassNo → InitState
state_at site n = elim (class_at site.classes n) [ None ↦ states.Loaded | Some c ↦ c.state ]

-- the class must be linked
abbrev pub when_linked_in : InitState → ClassNo → Outcome → Outcome
when_linked_in states.Loaded n so = NeedsLink n
when_linked_in _ n so = so

abbrev pub when_linked : Site → ClassNo → Outcome → Outcome
when_linked site n so = when_linked_in (state_at site n) n so

-- the class must be initialized, or be in progress by this thread
abbrev pub when_ready_in : ThreadNo → InitState → ClassNo → Outcome → Outcome
when_ready_in t states.Loaded n so = NeedsLink n
when_ready_in t states.Linked n so = NeedsInit n
when_ready_in t (states.InProgress by) n so = if by.0 == t.0 then so else NeedsInit n
when_ready_in t states.Initialized n so = so
when_ready_in t states.Erroneous n so = NeedsInit n

abbrev pub when_ready : Site → ClassNo → Outcome → Outcome
when_ready site n so = when_ready_in site.t (state_at site n) n so

-- the class that an array type needs: that of its elements
abbrev pub element_name : ElementType → Option Name
element_name (element_type.Class name) = Some name
element_name _ = None

-- the number that the next class gets
abbrev pub next_class : List Class → ClassNo
next_class classes = record { 0 = length classes + 1 }

-- an array class that isn't there is made, without an event
abbrev pub when_element : Site → Name → Option Name → (List Act → ClassNo → Outcome) → Outcome
when_element site name None so = so (Changes (AddsClass name states.Initialized) ∷ []) (next_class site.classes)
when_element site name (Some element) so = elim (number_of site.classes element) [
  | None ↦ NeedsLoad element
  | Some n ↦ so (Changes (AddsClass name states.Initialized) ∷ []) (next_class site.classes)
]

abbrev pub when_made : Site → Name → Option FieldType → (List Act → ClassNo → Outcome) → Outcome
when_made site name None so = NeedsLoad name
when_made site name (Some t) so = when_element site name (element_name t.element) so

-- The class of a name must be loaded, or the class of its elements; what comes then goes by the acts that make it, and its number.
abbrev pub when_loaded : Site → Name → (List Act → ClassNo → Outcome) → Outcome
when_loaded site name so = elim (number_of site.classes name) [
  | Some n ↦ so [] n
  | None ↦ when_made site name (array_type name) so
]

-- ---- objects

-- whether the heap has room for one more object with this content
abbrev pub heap_has_room : HeapValue → Content → Bool
heap_has_room heap content = nat_le (words_taken heap + words_of content) heap.limit

-- the acts that make an object that is announced by VMObjectAlloc, as all are but those of `new` and of the array instructions
abbrev pub makes_announced : ThreadNo → HeapValue → ClassNo → Content → Name → List Act
makes_announced t heap class content name =
    Changes (Makes (fresh class content)) ∷ raises (VMObjectAlloc t (next_number heap) name) ∷ []

-- After these acts an object is made where there is room, and what comes then goes by all acts and its number.
abbrev pub when_room : HeapValue → List Act → List Act → Content → (List Act → ObjNo → Outcome) → Outcome
when_room heap before making content so = if heap_has_room heap content then so (before ++ making) (next_number heap) else Fills before
