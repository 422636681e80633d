-- The entry of a thread: what a thread that has begun does first, without a frame. That of thread 1 calls `main` (JVM specification 5.2),
-- that of a later thread `run` of its Thread object (the Java library, `java.lang.Thread`).
use Rattle.std.specs.Prelude.{◌==◌, List, [], ◌∷◌, Option, Some, None, codes, if◌then◌else◌}
use Rattle.std.specs.Option.{option_and_then}
use Rattle.ti_ids.specs.declared.number.ObjNo.{ObjNo}
use Rattle.ti_ids.specs.declared.number.ThreadNo.{ThreadNo}
use Rattle.ti_ids.specs.declared.number.ClassNo.{ClassNo}
use Rattle.ti_ids.specs.declared.number.MethodNo.{MethodNo}
use Rattle.ti_ids.specs.declared.state.ThreadState.TheVariants.{Running}
use Rattle.ti_ids.specs.declared.value.Value.TheVariants as value
use Rattle.jv_names.specs.Names.{Name}
use Rattle.class_tree.specs.declared.access.Flag.TheVariants as flags
use Rattle.java_heap.specs.declared.object.Content.TheVariants.{Elements}
use Rattle.java_heap.specs.Heaps.{class_object_of}
use Rattle.thread_frames.specs.Frame.{new_frame}
use Rattle.link_versions.specs.Classes.{Class}
use Rattle.link_versions.specs.Members.{declared_method, method_has}
use Rattle.machine_state.specs.Core.{Core, Thread}
use Rattle.machine_state.specs.Acts.{Act, Changes, SetsState, core_after}
use Rattle.instruction_effect.specs.Outcomes.{Site, Outcome, Goes, when_loaded, when_ready, when_room, makes_announced}
use Rattle.instruction_effect.specs.Monitors.{unless_owned}
use Rattle.instruction_effect.specs.Arguments.{unborn}
use Rattle.instruction_effect.specs.Invoking.{abstract_method, no_method, unselected, calls}
use Rattle.instruction_effect.specs.BaseThreads.{RunMethod, NoRun, RunOf, LacksRun, run_at, calls_run}

-- ---- where a thread without frames stands

-- It has no frame and is at no instruction: its site has an empty frame, of which nothing comes.
abbrev pub entry_site : Core → List Class → ThreadNo → Thread → Site
entry_site core classes t thread = record {
  core = core;
  classes = classes;
  t = t;
  thread = thread;
  frame = new_frame (record { 0 = 0 }) (record { class = record { 0 = 0 }; place = 0 }) unborn [] 0;
  pool = [];
  next = 0;
}

-- it goes on as one that has entered its method
abbrev pub marks_entered : ThreadNo → List Act
marks_entered t = Changes (SetsState t Running) ∷ []

-- ---- thread 1

abbrev pub main_desc : Name
main_desc = codes "([Ljava/lang/String;)V"

-- the static `main` that a class itself declares
abbrev pub main_of : List Class → ClassNo → Option MethodNo
main_of classes n =
    option_and_then (λ m. if method_has classes flags.Static m then Some m else None) (declared_method classes (codes "main") main_desc n)

-- `main` is called with an array of no Strings, which was made before. No frame was pushed for that, so no birth is looked at.
abbrev pub calls_main : Site → MethodNo → List Act → ObjNo → Outcome
calls_main site m made array =
    calls (record site { core = core_after 0 site.core made }) (record {
      before = made;
      taking = marks_entered site.t;
      method = m;
      arguments = value.Ref (Some array) ∷ [];
    })

abbrev pub string_array : Name
string_array = codes "[Ljava/lang/String;"

abbrev pub with_array : Site → MethodNo → List Act → ClassNo → Outcome
with_array site m before n =
    when_room site.core.heap before (makes_announced site.t site.core.heap n (Elements []) string_array) (Elements []) (calls_main site m)

-- A synchronized `main` needs the monitor of its class's Class object, which nobody owns before it is made. While another thread owns it
-- no array is made, and no room is asked for. A thread without frames is refused no frame, so that the monitor is seen first.
abbrev pub when_enterable : Site → MethodNo → Outcome → Outcome
when_enterable site m so =
    if method_has site.classes flags.Synchronized m
    then elim (class_object_of site.core.heap m.class) [ None ↦ so | Some object ↦ unless_owned site object so ]
    else so

-- Without a static `main`, and where it is abstract, no array is made.
abbrev pub enters_main : Site → Option MethodNo → Outcome
enters_main site None = no_method []
enters_main site (Some m) =
    if method_has site.classes flags.Abstract m then abstract_method []
    else when_loaded site string_array (λ before n. when_enterable site m (with_array site m before n))

-- The main class, of this name, must be loaded and initialized.
abbrev pub enters_first : Site → Name → Outcome
enters_first site main = when_loaded site main (λ before n. when_ready site n (enters_main site (main_of site.classes n)))

-- ---- a later thread

abbrev pub enters_run : Site → RunMethod → Outcome
enters_run site NoRun = Goes (marks_entered site.t)
enters_run site (LacksRun fault) = unselected [] fault
enters_run site (RunOf object m) = calls_run site [] (marks_entered site.t) object m

-- `run` is selected for its Thread object. That of Thread itself runs the target.
abbrev pub enters_later : Site → Outcome
enters_later site = enters_run site (run_at site site.thread.object)

-- ---- the whole

abbrev pub entry_at : Site → Name → Outcome
entry_at site main = if site.t.0 == 1 then enters_first site main else enters_later site

abbrev pub entry_outcome : Core → List Class → ThreadNo → Thread → Name → Outcome
entry_outcome core classes t thread main = entry_at (entry_site core classes t thread) main
