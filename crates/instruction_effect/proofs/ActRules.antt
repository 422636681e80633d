-- What a thread's acts may be, one behind the other, as rules. Whatever keeps them holds of the acts of every instruction and of every
-- other step of a thread: `Ok` of an act by the core that it changes, and `Holds` of a value by the core in which it is used.
use Rattle.std.specs.Prelude.{◌≡◌, ℕ, ℤ, ◌+◌, ◌<◌, ◌≤◌, true, false, nat_le, List, [], ◌∷◌, length, drop, Option, Some, None}
use Rattle.std.specs.List.{AllByRecursion}
use Rattle.ti_ids.specs.declared.number.ThreadNo.{ThreadNo}
use Rattle.ti_ids.specs.declared.number.ObjNo.{ObjNo}
use Rattle.ti_ids.specs.declared.number.ClassNo.{ClassNo}
use Rattle.ti_ids.specs.declared.number.FieldNo.{FieldNo}
use Rattle.ti_ids.specs.declared.value.Value.{Value}
use Rattle.ti_ids.specs.declared.value.Value.TheVariants as value
use Rattle.ti_ids.specs.declared.state.ThreadState.{ThreadState}
use Rattle.ti_ids.specs.declared.state.InitState.TheVariants as states
use Rattle.ti_ids.specs.declared.state.Activity.{Activity}
use Rattle.ti_ids.specs.declared.state.Activity.TheVariants.{Throwing, Waiting, Wanting}
use Rattle.jv_names.specs.Names.{Name}
use Rattle.jv_names.specs.declared.descriptor.FieldType.{FieldType}
use Rattle.class_tree.specs.declared.body.Code.{Code}
use Rattle.java_heap.specs.declared.object.Object.{Object}
use Rattle.java_heap.specs.declared.object.Content.{Content}
use Rattle.java_heap.specs.declared.object.Content.TheVariants.{ClassObject, Literal}
use Rattle.java_heap.specs.Objects.{fresh, values_of}
use Rattle.java_heap.specs.Heaps as heaps
use Rattle.java_heap.specs.Heaps.{HeapValue, words_taken, literal_of, class_object_of}
use Rattle.link_versions.specs.Classes.{Class, number_of}
use Rattle.link_versions.specs.Changes.{IsElementThere}
use Rattle.link_versions.specs.Subtypes.{type_of}
use Rattle.thread_frames.specs.Operands.{words_of}
use Rattle.thread_frames.specs.Frame.{frame_words}
use Rattle.thread_frames.specs.declared.frame.StackEntry.TheVariants.{Java, Init}
use Rattle.machine_state.specs.Core.{Core, MethodFrame, StackFrame, Thread, frames_at, monitor_at, thread_at}
use Rattle.machine_state.specs.Linked.{array_type}
use Rattle.machine_state.specs.Trace.{Event}
use Rattle.machine_state.specs.Acts.{Act, Changes, Notes, changed, raises, Makes, PutsField, PutsElement, PutsSide, PutsBehind, Enters, Leaves, GoesToWait, Notifies, NotifiesAll, Prints, SetsTop, Pops, Pushes, SetsState, SetsActivity, MakesThread, PutsStatic, AddsClass}
use Rattle.instruction_effect.specs.Arguments.{newest_body, is_deep}
use Rattle.instruction_effect.specs.Monitors.{may_enter}
use Rattle.instruction_effect.specs.Outcomes.{heap_has_room}

-- ---- one act behind others

-- the core behind an act. No birth is looked at, and no queue: what waits for an actor isn't seen by what a thread does.
abbrev pub behind : Core → Act → Core
behind now (Changes c) = changed 0 c now
behind now (Notes what) = now

module _ (Ok : Core → Act → Type 0) where
  -- each of these acts may come, one behind the other, from this core on
  abbrev pub Follow : Core → List Act → Type 0
  Follow now [] = Unit {0}
  Follow now (a ∷ acts) = Ok now a × Follow (behind now a) acts

-- ---- what holds of the values of a core

module _ (Holds : Core → Value → Type 0) where
  abbrev pub HoldAll : Core → List Value → Type 0
  HoldAll now values = AllByRecursion (Holds now) values

  abbrev pub FrameHolds : Core → StackFrame → Type 0
  FrameHolds now (Java f) = HoldAll now f.locals × HoldAll now f.stack.entries
  FrameHolds now (Init class) = Unit {0}

  -- the object of an activity, seen as a value
  abbrev pub ActivityHolds : Core → Activity → Type 0
  ActivityHolds now (Throwing o) = Holds now (value.Ref (Some o))
  ActivityHolds now (Waiting o) = Holds now (value.Ref (Some o))
  ActivityHolds now (Wanting o) = Holds now (value.Ref (Some o))
  ActivityHolds now _ = Unit {0}

  pub record ThreadHolds (now : Core) (thread : Thread) : Type 0 where
    pub object : Holds now (value.Ref (Some thread.object))
    pub activity : ActivityHolds now thread.activity
    pub frames : AllByRecursion (FrameHolds now) thread.frames

  pub record ObjectHolds (now : Core) (object : Object) : Type 0 where
    pub values : HoldAll now (values_of object.content)
    pub side : Holds now (value.Ref object.side)

  pub record CoreHolds (now : Core) : Type 0 where
    pub threads : AllByRecursion (ThreadHolds now) now.threads
    pub statics : AllByRecursion (λ s. Holds now s.value) now.statics
    pub objects : AllByRecursion (ObjectHolds now) now.heap.objects
    -- the object of each monitor that is owned
    pub owned : (o : ObjNo) (owner : ThreadNo) → (monitor_at now o).owner ≡ Some owner → Holds now (value.Ref (Some o))
    -- the error that is kept for a full heap, which is there before the first thread is
    pub kept : (thread : Thread) (threads : List Thread) → now.threads ≡ thread ∷ threads → Holds now (value.Ref (Some (record { 0 = 2 })))

  -- This frame goes on as that one: it takes as many words, and its values hold.
  pub record GoesOnAs (now : Core) (f g : MethodFrame) : Type 0 where
    pub locals : length g.locals ≡ length f.locals
    pub room : g.stack.room ≡ f.stack.room
    pub within : words_of f.stack.entries ≤ f.stack.room → words_of g.stack.entries ≤ g.stack.room
    pub local_values : HoldAll now g.locals
    pub operands : HoldAll now g.stack.entries

  -- the frame that is pushed is that of a method with a body
  pub record IsPushed (classes : List Class) (now : Core) (f : MethodFrame) : Type 0 where
    pub class : f.class ≡ f.method.class
    pub body : Code
    pub newest : newest_body classes f.method ≡ Some body
    pub locals : length f.locals ≡ body.max_locals
    pub room : f.stack.room ≡ body.max_stack
    pub empty : f.stack.entries ≡ []
    pub local_values : HoldAll now f.locals
    pub monitor : Holds now (value.Ref f.pin.monitor)

-- ---- objects of which there is one each

abbrev pub IsNew : HeapValue → Content → Type 0
IsNew heap (Literal units) = literal_of heap units ≡ None
IsNew heap (ClassObject class) = class_object_of heap class ≡ None
IsNew heap _ = Unit {0}

-- ---- array classes

-- An array class has a name that says so, and its element is there: a law of all reachable classes.
abbrev pub AreArrays : List Class → Type 0
AreArrays classes =
    (name : Name) (n : ClassNo) → number_of classes name ≡ Some n → 0 < (type_of classes n).0
    → (type : FieldType) × (array_type name ≡ Some type) × (type.dimensions ≡ (type_of classes n).0) × IsElementThere classes type.element

-- ---- the rules

-- Those of the acts of a thread's instruction, and of its entry, where these are the classes when the step began.
pub record ActRules (classes : List Class) (t : ThreadNo) (Ok : Core → Act → Type 0) (Holds : Core → Value → Type 0) : Type 0 where
  -- ---- values

  pub int : (now : Core) (n : ℤ) → Holds now (value.Int n)
  pub long : (now : Core) (n : ℤ) → Holds now (value.Long n)
  pub null : (now : Core) → Holds now (value.Ref None)
  -- a reference to an object that is there
  pub there : (now : Core) (o : ObjNo) → heaps.IsThere now.heap o → Holds now (value.Ref (Some o))
  -- what holds goes on to hold
  pub later : (now : Core) (a : Act) (v : Value) → Ok now a → Holds now v → Holds (behind now a) v
  pub keeps : (now : Core) (a : Act) → Ok now a → CoreHolds Holds now → CoreHolds Holds (behind now a)
  -- ---- acts

  pub raised : (now : Core) (e : Event) → Ok now (raises e)
  pub adds_array : (now : Core) (name : Name)
      → (AreArrays classes → (type : FieldType) × (array_type name ≡ Some type) × IsElementThere classes type.element)
      → Ok now (Changes (AddsClass name states.Initialized))
  pub makes : (now : Core) (class : ClassNo) (content : Content) → heap_has_room now.heap content ≡ true → IsNew now.heap content
      → HoldAll Holds now (values_of content) → Ok now (Changes (Makes (fresh class content)))
  pub puts_field : (now : Core) (o : ObjNo) (place : ℕ) (v : Value) → Holds now v → Ok now (Changes (PutsField o place v))
  pub puts_element : (now : Core) (o : ObjNo) (place : ℕ) (v : Value) → Holds now v → Ok now (Changes (PutsElement o place v))
  pub puts_side : (now : Core) (o : ObjNo) (side : Option ObjNo) → Holds now (value.Ref side) → Ok now (Changes (PutsSide o side))
  pub puts_behind : (now : Core) (o : ObjNo) (units : List ℕ) → nat_le (words_taken now.heap + length units) now.heap.limit ≡ true
      → Ok now (Changes (PutsBehind o units))
  pub enters : (now : Core) (o : ObjNo) → may_enter t (monitor_at now o).owner ≡ true → Holds now (value.Ref (Some o))
      → Ok now (Changes (Enters o t))
  -- of a monitor that the thread owns
  pub leaves : (now : Core) (o : ObjNo) (owner : ThreadNo) → (monitor_at now o).owner ≡ Some owner → Ok now (Changes (Leaves o))
  pub goes_to_wait : (now : Core) (o : ObjNo) (owner : ThreadNo) → (monitor_at now o).owner ≡ Some owner → Ok now (Changes (GoesToWait o t))
  pub notifies : (now : Core) (o : ObjNo) → Ok now (Changes (Notifies o))
  pub notifies_all : (now : Core) (o : ObjNo) → Ok now (Changes (NotifiesAll o))
  pub prints : (now : Core) (bytes : List ℕ) → Ok now (Changes (Prints bytes))
  -- the top frame of the thread goes on
  pub sets_top : (now : Core) (f g : MethodFrame) (below : List StackFrame) → frames_at now t ≡ Java f ∷ below → GoesOnAs Holds now f g
      → Ok now (Changes (SetsTop t g))
  pub pops : (now : Core) → Ok now (Changes (Pops t))
  -- a frame that isn't refused
  pub pushes : (now : Core) (f : MethodFrame) → is_deep (frames_at now t) (frame_words f) ≡ false → IsPushed Holds classes now f
      → Ok now (Changes (Pushes t f))
  pub sets_state : (now : Core) (state : ThreadState) → Ok now (Changes (SetsState t state))
  pub sets_activity : (now : Core) (activity : Activity) → ActivityHolds Holds now activity → Ok now (Changes (SetsActivity t activity))
  pub makes_thread : (now : Core) (o : ObjNo) → Holds now (value.Ref (Some o)) → Holds now (value.Ref (Some (record { 0 = 2 })))
      → Ok now (Changes (MakesThread o))
  pub puts_static : (now : Core) (field : FieldNo) (v : Value) → Holds now v → Ok now (Changes (PutsStatic field v))

-- ---- where the thread stands

-- Its top frame is this one. What was asked of the frames that the step knows is true of those of the core, too: they may differ in what the
-- top has announced.
pub record Stands (core : Core) (t : ThreadNo) (thread : Thread) (frame : MethodFrame) : Type 0 where
  pub top : frames_at core t ≡ Java frame ∷ drop 1 thread.frames
  pub deep : (words : ℕ) → is_deep (frames_at core t) words ≡ is_deep thread.frames words
  pub object : (found : Thread) → thread_at core t ≡ Some found → thread.object ≡ found.object
