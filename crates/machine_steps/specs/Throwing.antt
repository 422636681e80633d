-- How a thread throws (JVM specification 2.10), and what becomes of an instruction's outcome.
use Rattle.std.specs.Prelude.{List, [], ◌∷◌, ◌++◌, Option, Some, None, unwrap_or, codes, if◌then◌else◌}
use Rattle.std.specs.Option.{option_map_or}
use Rattle.ti_ids.specs.declared.number.ThreadNo.{ThreadNo}
use Rattle.ti_ids.specs.declared.number.ObjNo.{ObjNo}
use Rattle.ti_ids.specs.declared.number.ClassNo.{ClassNo}
use Rattle.ti_ids.specs.declared.number.MethodNo.{MethodNo}
use Rattle.jv_names.specs.Names.{Name}
use Rattle.java_heap.specs.Heaps as heaps
use Rattle.java_heap.specs.declared.object.Content.TheVariants.{Fields}
use Rattle.thread_frames.specs.declared.frame.StackEntry.TheVariants.{Java, Init}
use Rattle.link_versions.specs.Classes.{Class, class_at, number_of}
use Rattle.link_versions.specs.Members.{method_name, method_desc}
use Rattle.ti_ids.specs.declared.state.Activity.TheVariants.{Throwing}
use Rattle.machine_state.specs.Core.{Core, MethodFrame, StackFrame, frames_at}
use Rattle.machine_state.specs.Trace.{MethodName, Place, Exception}
use Rattle.machine_state.specs.Acts.{Act, Changes, SetsActivity, raises, core_after}
use Rattle.instruction_effect.specs.Outcomes.{heap_has_room, makes_announced}

-- ---- names

-- the name of a class that is there
abbrev pub name_of : List Class → ClassNo → Name
name_of classes n = option_map_or (λ c. c.name) (class_at classes n) []

-- a method that is there, as records name it
abbrev pub method_named : List Class → ClassNo → MethodNo → MethodName
method_named classes class m = record {
  class = name_of classes class;
  name = unwrap_or (method_name classes m) [];
  desc = unwrap_or (method_desc classes m) [];
}

abbrev pub method_of : List Class → MethodFrame → MethodName
method_of classes f = method_named classes f.class f.method

abbrev pub place_of : List Class → MethodFrame → Place
place_of classes f = record { method = method_of classes f; pc = f.pc }

-- the topmost frame of a method
abbrev pub top_method : List StackFrame → Option MethodFrame
top_method [] = None
top_method (Java f ∷ below) = Some f
top_method (Init n ∷ below) = top_method below

-- ---- an exception is thrown

-- the class of an object
abbrev pub class_name_of : List Class → Core → ObjNo → Name
class_name_of classes core o = option_map_or (name_of classes) (heaps.class_at core.heap o) []

-- The event, where the thread has the frame of a method: its location is that of the topmost one.
abbrev pub exception_raised : List Class → ThreadNo → Name → Option MethodFrame → List Act
exception_raised classes t class None = []
exception_raised classes t class (Some f) = raises (Exception t (place_of classes f) class) ∷ []

-- After these acts a thread throws an object: these are the other events of its step, and Exception comes behind them. Of the core after
-- the acts only the heap and where a frame stands is looked at, and no birth.
abbrev pub throws_among : List Class → Core → ThreadNo → List Act → List Act → ObjNo → Name → List Act
throws_among classes core t before events o class =
    before ++ Changes (SetsActivity t (Throwing o)) ∷ events
    ++ exception_raised classes t class (top_method (frames_at (core_after 0 core before) t))

abbrev pub throws : List Class → Core → ThreadNo → List Act → ObjNo → Name → List Act
throws classes core t before o class = throws_among classes core t before [] o class

-- the error that is kept for a full heap
abbrev pub kept_error : ObjNo
kept_error = record { 0 = 2 }

abbrev pub full_name : Name
full_name = codes "java/lang/OutOfMemoryError"

abbrev pub throws_full : List Class → Core → ThreadNo → List Act → List Act
throws_full classes core t before = throws classes core t before kept_error full_name

-- the number of a base class
abbrev pub base_number : List Class → Name → ClassNo
base_number classes name = unwrap_or (number_of classes name) (record { 0 = 0 })

-- After these acts a thread throws a new exception of a base class; where the heap has no room for it, the kept error.
abbrev pub throws_new_among : List Class → Core → ThreadNo → List Act → List Act → Name → List Act
throws_new_among classes core t before events name =
    let heap = (core_after 0 core before).heap in
    let making = makes_announced t heap (base_number classes name) (Fields []) name in
    if heap_has_room heap (Fields [])
    then throws_among classes core t (before ++ making) events (heaps.next_number heap) name
    else throws_among classes core t before events kept_error full_name

abbrev pub throws_new : List Class → Core → ThreadNo → List Act → Name → List Act
throws_new classes core t before name = throws_new_among classes core t before [] name
