-- Base methods and the entries of threads, computed.
use Rattle.std.specs.Prelude.{◌≡◌, refl, ℕ, pos, negsuc, List, [], ◌∷◌, ◌++◌, Option, Some, None, codes, true, not, map, filter, flat_map, length, is_some}
use Rattle.std.specs.List.{list_all, list_any}
use Rattle.class_tree.specs.declared.access.Flag.TheVariants as flags
use Rattle.class_tree.specs.Flags.{has_flag}
use Rattle.std.specs.Fmt.{digits}
use Rattle.std.specs.Char.Utf16.{utf16_chars}
use Rattle.ti_ids.specs.declared.number.ThreadNo.{ThreadNo}
use Rattle.ti_ids.specs.declared.number.ClassNo.{ClassNo}
use Rattle.ti_ids.specs.declared.value.Value.{Value}
use Rattle.ti_ids.specs.declared.value.Value.TheVariants.{Int, Ref}
use Rattle.ti_ids.specs.declared.state.Announced.TheVariants.{New, No, Yes}
use Rattle.ti_ids.specs.declared.state.ThreadState.TheVariants.{Entering, Running}
use Rattle.jv_names.specs.Names.{Name}
use Rattle.base_set.specs.BaseSet.{BaseClass, base_set, object as object_class, thread as thread_class, string as string_class}
use Rattle.base_set.specs.BaseTrees.{base_tree}
use Rattle.java_heap.specs.declared.object.Object.{Object}
use Rattle.java_heap.specs.declared.object.Content.TheVariants.{Fields, Elements, Text}
use Rattle.java_heap.specs.Objects.{fresh}
use Rattle.thread_frames.specs.declared.frame.StackEntry.TheVariants.{Java}
use Rattle.ti_ids.specs.declared.state.InitState.TheVariants as states
use Rattle.link_versions.specs.Classes.{Class, OfFile}
use Rattle.ti_ids.specs.declared.state.Activity.TheVariants.{Free, Waiting, Joining}
use Rattle.machine_state.specs.Core.{Core, Thread, MethodFrame}
use Rattle.machine_state.specs.Trace.{MethodName, MonitorWait, VMObjectAlloc}
use Rattle.machine_state.specs.Acts.{Act, Changes, Makes, GoesToWait, MakesThread, Prints, PutsBehind, Pushes, SetsActivity, SetsState, SetsTop, AddsClass, raises}
use Rattle.instruction_effect.specs.Outcomes.{Site, Outcome, Goes, Throws, Fills}
use Rattle.instruction_effect.specs.BaseMethods.{base_row, base_rows, is_row_of, base_outcome}
use Rattle.instruction_effect.specs.BaseForms.{BaseCall}
use Rattle.instruction_effect.specs.BaseObjects.{waits}
use Rattle.instruction_effect.specs.BaseTexts.{int_text, string_text, char_at, appends, prints}
use Rattle.instruction_effect.specs.CallEntry.{entry_outcome}
use Rattle.instruction_effect.proofs.ExampleSites.{descriptors, members, resolution, subtypes}

-- ---- the table: each base method that isn't abstract has a row, and there is no other row

abbrev concrete : BaseClass → List MethodName
concrete c = map (λ m. record { class = c.name; name = m.name; desc = m.desc }) (filter (λ m. not (has_flag m.flags flags.Abstract)) c.methods)

all_have_rows : list_all (λ m. is_some (base_row m)) (flat_map concrete base_set) ≡ true
all_have_rows = refl

as_many : length base_rows ≡ length (flat_map concrete base_set)
as_many = refl

all_are_concrete : list_all (λ r. list_any (λ m. is_row_of m r) (flat_map concrete base_set)) base_rows ≡ true
all_are_concrete = refl

-- ---- classes: 1 is Object, 2 is Thread, 3 is M, which has a `run` and a static `main`, and 4 is String

abbrev m : BaseClass
m = record {
  name = codes "M";
  flags = 0x0021;
  super = Some (codes "java/lang/Object");
  interfaces = [];
  fields = [];
  methods =
      record { flags = 0x0001; name = codes "run"; desc = codes "()V" }
      ∷ record { flags = 0x0009; name = codes "main"; desc = codes "([Ljava/lang/String;)V" }
      ∷ [];
}

abbrev class : Name → Option ClassNo → BaseClass → Class
class name parent c = record { name = name; parent = parent; interfaces = []; kind = OfFile (base_tree c ∷ []); state = states.Initialized }

abbrev classes : List Class
classes =
    class (codes "java/lang/String") (Some (record { 0 = 1 })) string_class ∷ class (codes "M") (Some (record { 0 = 1 })) m
    ∷ class (codes "java/lang/Thread") (Some (record { 0 = 1 })) thread_class ∷ class (codes "java/lang/Object") None object_class ∷ []

-- ---- objects: 1 is the Thread of thread 1, 2 and 3 are Threads of which each is the other's target, 4 is a Thread with the target 5,
-- which is an M, 6 is a text, and 7 is a Thread without a target

abbrev with_target : ClassNo → ℕ → Object
with_target n target = record (fresh n (Fields [])) { side = Some (record { 0 = target }) }

abbrev objects : List Object
objects =
    fresh (record { 0 = 2 }) (Fields []) ∷ with_target (record { 0 = 2 }) 3 ∷ with_target (record { 0 = 2 }) 2 ∷ with_target (record { 0 = 2 }) 5
    ∷ fresh (record { 0 = 3 }) (Fields []) ∷ fresh (record { 0 = 4 }) (Text (codes "ab")) ∷ fresh (record { 0 = 2 }) (Fields []) ∷ []

-- ---- a thread

abbrev me : ThreadNo
me = record { 0 = 1 }

abbrev reference : ℕ → Value
reference n = Ref (Some (record { 0 = n }))

abbrev frame : List Value → MethodFrame
frame entries = record {
  class = record { 0 = 3 };
  method = record { class = record { 0 = 3 }; place = 0 };
  pin = record { birth = 7; monitor = None };
  pc = 4;
  locals = [];
  stack = record { entries = entries; room = 10 };
  announced = Yes;
}

abbrev gone_on : List Value → MethodFrame
gone_on entries = record (frame entries) { pc = 7; announced = No }

abbrev started : MethodFrame → Thread
started f = record { object = record { 0 = 1 }; state = Running; activity = Free; frames = Java f ∷ [] }

module _ (core : Core) where
  abbrev core_of : ℕ → Core
  core_of limit = record core { heap = record { limit = limit; objects = objects }; monitors = []; threads = started (frame []) ∷ [] }

  -- where these arguments lie on the stack, the last on top
  abbrev at : ℕ → List Value → Site
  at limit entries =
      record { core = core_of limit; classes = classes; t = me; thread = started (frame entries); frame = frame entries; pool = []; next = 7 }

  abbrev call : ℕ → List Value → List Value → BaseCall
  call limit entries arguments = record { site = at limit entries; before = []; arguments = arguments }

  -- a method of Thread, by its place, on an object
  abbrev on : ℕ → ℕ → Outcome
  on place object = base_outcome (at 100 (reference object ∷ [])) [] (record { class = record { 0 = 2 }; place = place }) (reference object ∷ [])

  abbrev leaves : List Act → List Value → Outcome
  leaves acts entries = Goes (acts ++ Changes (SetsTop me (gone_on entries)) ∷ [])

  prints_int : prints int_text (10 ∷ []) (call 100 (Int (negsuc 4) ∷ reference 1 ∷ []) (reference 1 ∷ Int (negsuc 4) ∷ []))
      (reference 1 ∷ Int (negsuc 4) ∷ [])
      ≡ leaves (Changes (Prints (codes "-5" ++ 10 ∷ [])) ∷ []) []
  unfolding descriptors members resolution subtypes utf16_chars digits lib.Utf8.encode
  prints_int = refl

  prints_null : prints string_text [] (call 100 (Ref None ∷ reference 1 ∷ []) (reference 1 ∷ Ref None ∷ [])) (reference 1 ∷ Ref None ∷ [])
      ≡ leaves (Changes (Prints (codes "null")) ∷ []) []
  unfolding descriptors members resolution subtypes utf16_chars digits lib.Utf8.encode
  prints_null = refl

  past_the_end : char_at (call 100 (Int (pos 2) ∷ reference 6 ∷ []) (reference 6 ∷ Int (pos 2) ∷ [])) (reference 6 ∷ Int (pos 2) ∷ [])
      ≡ Throws (Changes (SetsTop me (frame [])) ∷ []) (codes "java/lang/StringIndexOutOfBoundsException")
  unfolding descriptors members resolution subtypes utf16_chars digits lib.Utf8.encode
  past_the_end = refl

  -- the objects take 16 words, and 5 would be more than the 20 that there are
  no_room : appends int_text (call 20 (Int (pos 12345) ∷ reference 6 ∷ []) (reference 6 ∷ Int (pos 12345) ∷ []))
      (reference 6 ∷ Int (pos 12345) ∷ [])
      ≡ Fills (Changes (SetsTop me (frame [])) ∷ [])
  unfolding descriptors members resolution subtypes utf16_chars digits lib.Utf8.encode
  no_room = refl

  just_room : appends int_text (call 20 (Int (pos 1234) ∷ reference 6 ∷ []) (reference 6 ∷ Int (pos 1234) ∷ [])) (reference 6 ∷ Int (pos 1234) ∷ [])
      ≡ leaves (Changes (PutsBehind (record { 0 = 6 }) (codes "1234")) ∷ []) (reference 6 ∷ [])
  unfolding descriptors members resolution subtypes utf16_chars digits lib.Utf8.encode
  just_room = refl

  starts_twice : on 2 1 ≡ Throws (Changes (SetsTop me (frame [])) ∷ []) (codes "java/lang/IllegalThreadStateException")
  unfolding descriptors members resolution subtypes utf16_chars digits lib.Utf8.encode
  starts_twice = refl

  starts_one : on 2 7 ≡ leaves (Changes (MakesThread (record { 0 = 7 })) ∷ []) []
  unfolding descriptors members resolution subtypes utf16_chars digits lib.Utf8.encode
  starts_one = refl

  -- an M is no Thread
  wrong_receiver : on 2 5 ≡ Throws [] (codes "java/lang/IncompatibleClassChangeError")
  unfolding descriptors members resolution subtypes utf16_chars digits lib.Utf8.encode
  wrong_receiver = refl

  in_a_circle : on 3 2 ≡ leaves [] []
  unfolding descriptors members resolution subtypes utf16_chars digits lib.Utf8.encode
  in_a_circle = refl

  abbrev pushes_run : Act
  pushes_run = Changes (Pushes me (record {
    class = record { 0 = 3 };
    method = record { class = record { 0 = 3 }; place = 0 };
    pin = record { birth = 0; monitor = None };
    pc = 0;
    locals = reference 5 ∷ [];
    stack = record { entries = []; room = 1 };
    announced = New;
  }))

  runs_target : on 3 4 ≡ Goes (Changes (SetsTop me (frame [])) ∷ pushes_run ∷ [])
  unfolding descriptors members resolution subtypes utf16_chars digits lib.Utf8.encode
  runs_target = refl

  joins_itself : on 4 1 ≡ Goes (Changes (SetsActivity me (Joining me)) ∷ [])
  unfolding descriptors members resolution subtypes utf16_chars digits lib.Utf8.encode
  joins_itself = refl

  joins_none : on 4 7 ≡ leaves [] []
  unfolding descriptors members resolution subtypes utf16_chars digits lib.Utf8.encode
  joins_none = refl

  waits_unowned : waits (call 100 (reference 1 ∷ []) (reference 1 ∷ [])) (reference 1 ∷ [])
      ≡ Throws (Changes (SetsTop me (frame [])) ∷ []) (codes "java/lang/IllegalMonitorStateException")
  unfolding descriptors members resolution subtypes utf16_chars digits lib.Utf8.encode
  waits_unowned = refl

  -- the owner of the monitor of object 1 waits, and its argument stays
  waits_owned : waits (record {
    site = record (at 100 (reference 1 ∷ [])) {
      core = record (core_of 100) {
        monitors = record { object = record { 0 = 1 }; monitor = record { owner = Some me; entries = 2; notified = []; waiting = [] } } ∷ [];
      };
    };
    before = [];
    arguments = reference 1 ∷ [];
  }) (reference 1 ∷ [])
      ≡ Goes (
      Changes (GoesToWait (record { 0 = 1 }) me) ∷ Changes (SetsActivity me (Waiting (record { 0 = 1 })))
      ∷ raises (MonitorWait me (record { 0 = 1 })) ∷ []
      )
  unfolding descriptors members resolution subtypes utf16_chars digits lib.Utf8.encode
  waits_owned = refl

  -- ---- entries

  abbrev entering : ℕ → ℕ → Thread
  entering object frames = record { object = record { 0 = object }; state = Entering; activity = Free; frames = [] }

  -- `main` gets the array that was made, of a class that was made
  enters_main : entry_outcome (core_of 100) classes me (entering 1 0) (codes "M") ≡ Goes (
      Changes (AddsClass (codes "[Ljava/lang/String;") states.Initialized) ∷ Changes (Makes (fresh (record { 0 = 5 }) (Elements [])))
      ∷ raises (VMObjectAlloc me (record { 0 = 8 }) (codes "[Ljava/lang/String;")) ∷ Changes (SetsState me Running)
      ∷ Changes (Pushes me (record {
        class = record { 0 = 3 };
        method = record { class = record { 0 = 3 }; place = 1 };
        pin = record { birth = 0; monitor = None };
        pc = 0;
        locals = reference 8 ∷ [];
        stack = record { entries = []; room = 1 };
        announced = New;
      })) ∷ [])
  unfolding descriptors members resolution subtypes utf16_chars digits lib.Utf8.encode
  enters_main = refl

  without_main : entry_outcome (core_of 100) classes me (entering 1 0) (codes "java/lang/Object") ≡ Throws [] (codes "java/lang/NoSuchMethodError")
  unfolding descriptors members resolution subtypes utf16_chars digits lib.Utf8.encode
  without_main = refl

  enters_run : entry_outcome (core_of 100) classes (record { 0 = 2 }) (entering 4 0) (codes "M")
      ≡ Goes (Changes (SetsState (record { 0 = 2 }) Running) ∷ Changes (Pushes (record { 0 = 2 }) (record {
        class = record { 0 = 3 };
        method = record { class = record { 0 = 3 }; place = 0 };
        pin = record { birth = 0; monitor = None };
        pc = 0;
        locals = reference 5 ∷ [];
        stack = record { entries = []; room = 1 };
        announced = New;
      })) ∷ [])
  unfolding descriptors members resolution subtypes utf16_chars digits lib.Utf8.encode
  enters_run = refl

  enters_nothing : entry_outcome (core_of 100) classes (record { 0 = 2 }) (entering 7 0) (codes "M")
      ≡ Goes (Changes (SetsState (record { 0 = 2 }) Running) ∷ [])
  unfolding descriptors members resolution subtypes utf16_chars digits lib.Utf8.encode
  enters_nothing = refl
