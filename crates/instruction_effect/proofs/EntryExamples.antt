-- The entry of thread 1 into a synchronized `main`, computed: with the monitor owned or free, and the heap full or not.
use Rattle.std.specs.Prelude.{◌≡◌, refl, ℕ, List, [], ◌∷◌, Option, Some, None, codes}
use Rattle.ti_ids.specs.declared.number.ThreadNo.{ThreadNo}
use Rattle.ti_ids.specs.declared.number.ObjNo.{ObjNo}
use Rattle.ti_ids.specs.declared.number.ClassNo.{ClassNo}
use Rattle.ti_ids.specs.declared.value.Value.TheVariants.{Ref}
use Rattle.ti_ids.specs.declared.state.Announced.TheVariants.{New}
use Rattle.ti_ids.specs.declared.state.ThreadState.TheVariants.{Entering, Running}
use Rattle.ti_ids.specs.declared.state.InitState.TheVariants as states
use Rattle.ti_ids.specs.declared.state.Activity.{Activity}
use Rattle.ti_ids.specs.declared.state.Activity.TheVariants.{Free, Wanting}
use Rattle.jv_names.specs.Names.{Name}
use Rattle.base_set.specs.BaseSet.{BaseClass, object as object_class, string as string_class}
use Rattle.base_set.specs.BaseTrees.{base_tree}
use Rattle.java_heap.specs.declared.object.Content.TheVariants.{Fields, Elements, ClassObject}
use Rattle.java_heap.specs.Objects.{fresh}
use Rattle.java_heap.specs.Heaps.{HeapValue}
use Rattle.link_versions.specs.Classes.{Class, OfFile}
use Rattle.machine_state.specs.Core.{ObjectMonitor, Core, Thread}
use Rattle.machine_state.specs.Trace.{VMObjectAlloc, MonitorContendedEnter, MonitorContendedEntered}
use Rattle.machine_state.specs.Acts.{Changes, Makes, AddsClass, Enters, Pushes, SetsState, SetsActivity, raises}
use Rattle.instruction_effect.specs.Outcomes.{Outcome, Goes, Fills}
use Rattle.instruction_effect.specs.CallEntry.{entry_outcome}
use Rattle.instruction_effect.proofs.ExampleSites.{descriptors, members, resolution, subtypes}

-- ---- classes: 1 is Object, 2 is M, which has a static synchronized `main`, and 3 is String

abbrev m : BaseClass
m = record {
  name = codes "M";
  flags = 0x0021;
  super = Some (codes "java/lang/Object");
  interfaces = [];
  fields = [];
  methods = record { flags = 0x0029; name = codes "main"; desc = codes "([Ljava/lang/String;)V" } ∷ [];
}

abbrev class : Name → Option ClassNo → BaseClass → Class
class name parent c = record { name = name; parent = parent; interfaces = []; kind = OfFile (base_tree c ∷ []); state = states.Initialized }

abbrev classes : List Class
classes =
    class (codes "java/lang/String") (Some (record { 0 = 1 })) string_class ∷ class (codes "M") (Some (record { 0 = 1 })) m
    ∷ class (codes "java/lang/Object") None object_class ∷ []

-- ---- threads and objects: 1 is the Thread of thread 1, and 2 is the Class object of M. They take 4 words, and the array takes 2.

abbrev me : ThreadNo
me = record { 0 = 1 }

abbrev other : ThreadNo
other = record { 0 = 2 }

abbrev class_of_m : ObjNo
class_of_m = record { 0 = 2 }

abbrev thread : Activity → Thread
thread activity = record { object = record { 0 = 1 }; state = Entering; activity = activity; frames = [] }

module _ (core : Core) where
  abbrev heap_of : ℕ → HeapValue
  heap_of limit = record {
    limit = limit;
    objects = fresh (record { 0 = 1 }) (Fields []) ∷ fresh (record { 0 = 3 }) (ClassObject (record { 0 = 2 })) ∷ [];
  }

  -- the monitor of M's Class object, where the other thread has entered it, and where it has left it
  abbrev owned : ObjectMonitor
  owned = record { object = class_of_m; monitor = record { owner = Some other; entries = 1; notified = []; waiting = [] } }

  abbrev free : ObjectMonitor
  free = record { object = class_of_m; monitor = record { owner = None; entries = 0; notified = []; waiting = [] } }

  -- in a heap of so many words
  abbrev enters : ℕ → ObjectMonitor → Activity → Outcome
  enters limit monitor activity =
      entry_outcome (record core {
        heap = heap_of limit;
        monitors = monitor ∷ [];
        threads = thread activity ∷ [];
      }) classes me (thread activity) (codes "M")

  -- it is wanted, and that is an event once
  abbrev contended : Outcome
  contended = Goes (raises (MonitorContendedEnter me class_of_m) ∷ Changes (SetsActivity me (Wanting class_of_m)) ∷ [])

  owned-full : enters 5 owned Free ≡ contended
  unfolding descriptors members resolution subtypes
  owned-full = refl

  owned-room : enters 6 owned Free ≡ contended
  unfolding descriptors members resolution subtypes
  owned-room = refl

  still_owned-full : enters 5 owned (Wanting class_of_m) ≡ Goes (Changes (SetsActivity me (Wanting class_of_m)) ∷ [])
  unfolding descriptors members resolution subtypes
  still_owned-full = refl

  -- nothing is entered
  free-full : enters 5 free (Wanting class_of_m) ≡ Fills (Changes (AddsClass (codes "[Ljava/lang/String;") states.Initialized) ∷ [])
  unfolding descriptors members resolution subtypes
  free-full = refl

  -- the array is made, and then the monitor is entered
  free-room : enters 6 free (Wanting class_of_m) ≡ Goes (
      Changes (AddsClass (codes "[Ljava/lang/String;") states.Initialized) ∷ Changes (Makes (fresh (record { 0 = 4 }) (Elements [])))
      ∷ raises (VMObjectAlloc me (record { 0 = 3 }) (codes "[Ljava/lang/String;"))
      ∷ Changes (Enters class_of_m me) ∷ raises (MonitorContendedEntered me class_of_m) ∷ Changes (SetsState me Running)
      ∷ Changes (Pushes me (record {
        class = record { 0 = 2 };
        method = record { class = record { 0 = 2 }; place = 0 };
        pin = record { birth = 0; monitor = Some class_of_m };
        pc = 0;
        locals = Ref (Some (record { 0 = 3 })) ∷ [];
        stack = record { entries = []; room = 1 };
        announced = New;
      })) ∷ [])
  unfolding descriptors members resolution subtypes
  free-room = refl
