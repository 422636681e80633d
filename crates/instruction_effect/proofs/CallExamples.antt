-- Calls and returns, computed.
use Rattle.std.specs.Prelude.{◌≡◌, refl, ℕ, ◌+◌, pos, List, [], ◌∷◌, replicate, Option, Some, None, codes}
use Rattle.ti_ids.specs.declared.number.ThreadNo.{ThreadNo}
use Rattle.ti_ids.specs.declared.number.ObjNo.{ObjNo}
use Rattle.ti_ids.specs.declared.number.ClassNo.{ClassNo}
use Rattle.ti_ids.specs.declared.value.Value.{Value}
use Rattle.ti_ids.specs.declared.value.Value.TheVariants.{Int, Long, Ref}
use Rattle.ti_ids.specs.declared.state.Announced.TheVariants.{New, No, Yes}
use Rattle.ti_ids.specs.declared.state.ThreadState.TheVariants.{Running}
use Rattle.jv_names.specs.Names.{Name}
use Rattle.class_code.specs.declared.instr.PoolOp.{PoolOp}
use Rattle.class_code.specs.declared.instr.PoolOp.TheVariants as pool_op
use Rattle.class_code.specs.declared.instr.Simple.TheVariants as simple
use Rattle.class_code.specs.declared.instr.Kind.TheVariants as kind
use Rattle.class_code.specs.declared.instr.Instr.{Instr}
use Rattle.class_code.specs.declared.instr.Instr.TheVariants as instr
use Rattle.class_tree.specs.declared.pool.Const.{Const}
use Rattle.class_tree.specs.declared.pool.Const.TheVariants as const
use Rattle.base_set.specs.BaseSet.{BaseMethod, BaseClass, object as object_class}
use Rattle.base_set.specs.BaseTrees.{base_tree}
use Rattle.java_heap.specs.declared.object.Content.TheVariants.{Fields, ClassObject}
use Rattle.java_heap.specs.Objects.{fresh}
use Rattle.thread_frames.specs.declared.frame.StackEntry.TheVariants.{Java, Init}
use Rattle.ti_ids.specs.declared.state.InitState.TheVariants as states
use Rattle.link_versions.specs.Classes.{Class, OfFile}
use Rattle.ti_ids.specs.declared.state.Activity.TheVariants.{Free, Wanting}
use Rattle.machine_state.specs.Core.{ObjectMonitor, Core, Thread, MethodFrame, StackFrame}
use Rattle.machine_state.specs.Trace.{VMObjectAlloc, MethodExit, FramePop, Returned, MonitorContendedEnter}
use Rattle.machine_state.specs.Acts.{Act, Changes, Makes, Enters, Pops, Pushes, SetsTop, raises, SetsActivity}
use Rattle.instruction_effect.specs.Outcomes.{Site, Outcome, Goes, Throws, NeedsLoad}
use Rattle.instruction_effect.specs.Calls.{call_outcome}
use Rattle.instruction_effect.specs.Returns.{return_outcome}
use Rattle.instruction_effect.proofs.ExampleSites.{descriptors, members, resolution, subtypes}

-- ---- classes: 1 is Object, 2 is A, and 3 is B, which extends A

abbrev method : ℕ → Name → Name → BaseMethod
method flags name desc = record { flags = flags; name = name; desc = desc }

-- A has a static synchronized `f`, a synchronized `g`, and an abstract static `h`; B has a `g`
abbrev a : BaseClass
a = record {
  name = codes "A";
  flags = 0x0021;
  super = Some (codes "java/lang/Object");
  interfaces = [];
  fields = [];
  methods = method 0x0029 (codes "f") (codes "(JI)J") ∷ method 0x0021 (codes "g") (codes "()V") ∷ method 0x0409 (codes "h") (codes "()V") ∷ [];
}

abbrev b : BaseClass
b = record {
  name = codes "B";
  flags = 0x0021;
  super = Some (codes "A");
  interfaces = [];
  fields = [];
  methods = method 0x0001 (codes "g") (codes "()V") ∷ [];
}

abbrev class : Name → Option ClassNo → BaseClass → Class
class name parent c = record { name = name; parent = parent; interfaces = []; kind = OfFile (base_tree c ∷ []); state = states.Initialized }

abbrev classes : List Class
classes =
    class (codes "B") (Some (record { 0 = 2 })) b ∷ class (codes "A") (Some (record { 0 = 1 })) a ∷ class (codes "java/lang/Object") None object_class
    ∷ []

-- ---- constants: 6 is `A.f`, 10 is `A.g`, 11 is `g` of A as of an interface, 14 is `A.h`, 18 is `A.hashCode`, 21 is `X.g`

abbrev pool : List Const
pool =
    const.Utf8 (codes "A") ∷ const.Class 1 ∷ const.Utf8 (codes "f") ∷ const.Utf8 (codes "(JI)J") ∷ const.NameType 3 4 ∷ const.Method 2 5
    ∷ const.Utf8 (codes "g") ∷ const.Utf8 (codes "()V") ∷ const.NameType 7 8 ∷ const.Method 2 9 ∷ const.InterfaceMethod 2 9
    ∷ const.Utf8 (codes "h") ∷ const.NameType 12 8 ∷ const.Method 2 13
    ∷ const.Utf8 (codes "hashCode") ∷ const.Utf8 (codes "()I") ∷ const.NameType 15 16 ∷ const.Method 2 17
    ∷ const.Utf8 (codes "X") ∷ const.Class 19 ∷ const.Method 20 9 ∷ []

-- ---- a thread in `B.g`, over frames; object 1 is an A, and object 2 is a B

abbrev frame : List Value → MethodFrame
frame entries = record {
  class = record { 0 = 3 };
  method = record { class = record { 0 = 3 }; place = 0 };
  pin = record { birth = 7; monitor = None };
  pc = 4;
  locals = [];
  stack = record { entries = entries; room = 10 };
  announced = Yes;
}

abbrev me : ThreadNo
me = record { 0 = 1 }

abbrev thread : MethodFrame → List StackFrame → Thread
thread f below = record { object = record { 0 = 1 }; state = Running; activity = Free; frames = Java f ∷ below }

abbrev reference : ℕ → Value
reference n = Ref (Some (record { 0 = n }))

-- nobody owns a monitor

module _ (core : Core) where
  abbrev core_of : Thread → Core
  core_of t = record core {
    heap = record { limit = 100; objects = fresh (record { 0 = 2 }) (Fields []) ∷ fresh (record { 0 = 3 }) (Fields []) ∷ [] };
    monitors = [];
    threads = t ∷ [];
  }

  abbrev at : MethodFrame → List StackFrame → Site
  at f below = record { core = core_of (thread f below); classes = classes; t = me; thread = thread f below; frame = f; pool = pool; next = 7 }

  abbrev calls : PoolOp → ℕ → List Value → Outcome
  calls op index entries = call_outcome (at (frame entries) []) (instr.Pool op index)

  -- the frame of a method of A
  abbrev pushed : ℕ → Option ObjNo → List Value → Act
  pushed place monitor locals = Changes (Pushes me (record {
    class = record { 0 = 2 };
    method = record { class = record { 0 = 2 }; place = place };
    pin = record { birth = 0; monitor = monitor };
    pc = 0;
    locals = locals;
    stack = record { entries = []; room = 1 };
    announced = New;
  }))

  -- The Class object of A is made, and its monitor entered.
  static_synchronized : calls pool_op.InvokeStatic 6 (Int (pos 3) ∷ Long (pos 5) ∷ reference 1 ∷ []) ≡ Goes (
      Changes (Makes (fresh (record { 0 = 6 }) (ClassObject (record { 0 = 2 }))))
      ∷ raises (VMObjectAlloc me (record { 0 = 3 }) (codes "java/lang/Class"))
      ∷ Changes (Enters (record { 0 = 3 }) me) ∷ Changes (SetsTop me (frame (reference 1 ∷ [])))
      ∷ pushed 0 (Some (record { 0 = 3 })) (Long (pos 5) ∷ Int (pos 0) ∷ Int (pos 3) ∷ []) ∷ [])
  unfolding descriptors members resolution subtypes
  static_synchronized = refl

  few_operands : calls pool_op.InvokeStatic 6 (Int (pos 3) ∷ []) ≡ Throws [] (codes "java/lang/InternalError")
  unfolding descriptors members resolution subtypes
  few_operands = refl

  virtual_synchronized : calls pool_op.InvokeVirtual 10 (reference 1 ∷ []) ≡ Goes (
      Changes (Enters (record { 0 = 1 }) me) ∷ Changes (SetsTop me (frame [])) ∷ pushed 1 (Some (record { 0 = 1 })) (reference 1 ∷ []) ∷ [])
  unfolding descriptors members resolution subtypes
  virtual_synchronized = refl

  abbrev site_with : List ObjectMonitor → Site
  site_with monitors =
      record (at (frame (reference 1 ∷ [])) []) { core = record (core_of (thread (frame (reference 1 ∷ [])) [])) { monitors = monitors } }

  -- Another thread owns the monitor of object 1.
  contended : call_outcome (site_with (record {
    object = record { 0 = 1 };
    monitor = record { owner = Some (record { 0 = 2 }); entries = 1; notified = []; waiting = [] };
  } ∷ [])) (instr.Pool pool_op.InvokeVirtual 10)
      ≡ Goes (raises (MonitorContendedEnter me (record { 0 = 1 })) ∷ Changes (SetsActivity me (Wanting (record { 0 = 1 }))) ∷ [])
  unfolding descriptors members resolution subtypes
  contended = refl

  -- a B has its own `g`
  overridden : calls pool_op.InvokeVirtual 10 (reference 2 ∷ []) ≡ Goes (
      Changes (SetsTop me (frame []))
      ∷ Changes (Pushes me (record {
        class = record { 0 = 3 };
        method = record { class = record { 0 = 3 }; place = 0 };
        pin = record { birth = 0; monitor = None };
        pc = 0;
        locals = reference 2 ∷ [];
        stack = record { entries = []; room = 1 };
        announced = New;
      })) ∷ [])
  unfolding descriptors members resolution subtypes
  overridden = refl

  -- of B's superclass, also on a B
  super_call : calls pool_op.InvokeSpecial 10 (reference 2 ∷ []) ≡ Goes (
      Changes (Enters (record { 0 = 2 }) me) ∷ Changes (SetsTop me (frame [])) ∷ pushed 1 (Some (record { 0 = 2 })) (reference 2 ∷ []) ∷ [])
  unfolding descriptors members resolution subtypes
  super_call = refl

  null_receiver : calls pool_op.InvokeVirtual 10 (Ref None ∷ []) ≡ Throws [] (codes "java/lang/NullPointerException")
  unfolding descriptors members resolution subtypes
  null_receiver = refl

  not_static : calls pool_op.InvokeStatic 10 [] ≡ Throws [] (codes "java/lang/IncompatibleClassChangeError")
  unfolding descriptors members resolution subtypes
  not_static = refl

  no_interface : call_outcome (at (frame (reference 1 ∷ [])) []) (instr.InvokeInterface 11 1)
      ≡ Throws [] (codes "java/lang/IncompatibleClassChangeError")
  unfolding descriptors members resolution subtypes
  no_interface = refl

  is_abstract : calls pool_op.InvokeStatic 14 [] ≡ Throws [] (codes "java/lang/AbstractMethodError")
  unfolding descriptors members resolution subtypes
  is_abstract = refl

  needs_load : calls pool_op.InvokeStatic 21 [] ≡ NeedsLoad (codes "X")
  unfolding descriptors members resolution subtypes
  needs_load = refl

  base_method : calls pool_op.InvokeVirtual 18 (reference 2 ∷ Int (pos 9) ∷ []) ≡ Goes (
      Changes (SetsTop me (record (frame (Int (pos 2) ∷ Int (pos 9) ∷ [])) { pc = 7; announced = No })) ∷ [])
  unfolding descriptors members resolution subtypes
  base_method = refl

  -- with these further frames beneath, a call of `A.f`, and one of `B.g`
  abbrev calls_over : List StackFrame → Outcome
  calls_over below = call_outcome (at (frame (Int (pos 3) ∷ Long (pos 5) ∷ [])) below) (instr.Pool pool_op.InvokeStatic 6)

  -- The 1,025th frame is refused, and no Class object made.
  too_many_frames : calls_over (replicate 1023 (Init (record { 0 = 1 }))) ≡ Throws [] (codes "java/lang/StackOverflowError")
  unfolding descriptors members resolution subtypes
  too_many_frames = refl

  abbrev large : ℕ → StackFrame
  large room = Java (record (frame []) { stack = record { entries = []; room = room } })

  -- The call takes 4 words, and the frame on top 10.
  too_many_words : calls_over (large 131070 ∷ large 131061 ∷ []) ≡ Throws [] (codes "java/lang/StackOverflowError")
  unfolding descriptors members resolution subtypes
  too_many_words = refl

  all_words : calls_over (large 131070 ∷ large 131060 ∷ []) ≡ Goes (
      Changes (Makes (fresh (record { 0 = 6 }) (ClassObject (record { 0 = 2 }))))
      ∷ raises (VMObjectAlloc me (record { 0 = 3 }) (codes "java/lang/Class"))
      ∷ Changes (Enters (record { 0 = 3 }) me) ∷ Changes (SetsTop me (frame []))
      ∷ pushed 0 (Some (record { 0 = 3 })) (Long (pos 5) ∷ Int (pos 0) ∷ Int (pos 3) ∷ []) ∷ [])
  unfolding descriptors members resolution subtypes
  all_words = refl

  -- ---- returns of `B.g` and of `A.f`

  abbrev returns_from : MethodFrame → List StackFrame → Instr → Outcome
  returns_from f below i = return_outcome (λ caller. Some (caller.pc + 3)) (at f below) i

  void_return : returns_from (frame []) (Java (frame (reference 1 ∷ [])) ∷ []) (instr.Simple simple.ReturnVoid) ≡ Goes (
      Changes (Pops me) ∷ Changes (SetsTop me (record (frame (reference 1 ∷ [])) { pc = 7; announced = No }))
      ∷ raises (MethodExit me (record { class = codes "B"; name = codes "g"; desc = codes "()V" }) Returned)
      ∷ raises (FramePop me (record { class = codes "B"; name = codes "g"; desc = codes "()V" }) Returned 7) ∷ [])
  unfolding descriptors members resolution subtypes
  void_return = refl

  wrong_kind : returns_from (frame (Int (pos 1) ∷ [])) [] (instr.Simple (simple.Return kind.Int)) ≡ Throws [] (codes "java/lang/InternalError")
  unfolding descriptors members resolution subtypes
  wrong_kind = refl

  abbrev in_f : Option ObjNo → List Value → MethodFrame
  in_f monitor entries =
      record (frame entries) {
        class = record { 0 = 2 };
        method = record { class = record { 0 = 2 }; place = 0 };
        pin = record { birth = 9; monitor = monitor };
      }

  long_return : returns_from (in_f None (Long (pos 8) ∷ [])) (Java (frame []) ∷ []) (instr.Simple (simple.Return kind.Long)) ≡ Goes (
      Changes (Pops me) ∷ Changes (SetsTop me (record (frame (Long (pos 8) ∷ [])) { pc = 7; announced = No }))
      ∷ raises (MethodExit me (record { class = codes "A"; name = codes "f"; desc = codes "(JI)J" }) Returned)
      ∷ raises (FramePop me (record { class = codes "A"; name = codes "f"; desc = codes "(JI)J" }) Returned 9) ∷ [])
  unfolding descriptors members resolution subtypes
  long_return = refl

  not_owned : returns_from (in_f (Some (record { 0 = 1 })) (Long (pos 8) ∷ [])) [] (instr.Simple (simple.Return kind.Long))
      ≡ Throws [] (codes "java/lang/IllegalMonitorStateException")
  unfolding descriptors members resolution subtypes
  not_owned = refl
