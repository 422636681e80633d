-- What the methods of Thread do (the Java library, `java.lang`; the language, chapter 17).
use Rattle.std.specs.Prelude.{ℕ, zero, suc, ◌+◌, Bool, false, nat_le, List, [], ◌∷◌, ◌++◌, length, position, Option, Some, None, Result, Ok, Err, codes, if◌then◌else◌}
use Rattle.std.specs.Option.{option_map_or, option_and_then}
use Rattle.ti_ids.specs.declared.number.ObjNo.{ObjNo}
use Rattle.ti_ids.specs.declared.number.MethodNo.{MethodNo}
use Rattle.ti_ids.specs.declared.value.Value.{Value}
use Rattle.ti_ids.specs.declared.value.Value.TheVariants as value
use Rattle.base_set.specs.BaseSet.{is_base}
use Rattle.java_heap.specs.Heaps.{HeapValue, class_at, side_at}
use Rattle.link_versions.specs.Classes as link
use Rattle.link_versions.specs.Classes.{Class}
use Rattle.link_versions.specs.declared.fault.LinkFault.{LinkFault}
use Rattle.link_versions.specs.declared.fault.LinkFault.TheVariants as faults
use Rattle.link_versions.specs.Resolution.{selected_by}
use Rattle.ti_ids.specs.declared.state.Activity.TheVariants.{Joining}
use Rattle.machine_state.specs.Core.{was_started, is_of_object, most_threads}
use Rattle.machine_state.specs.Acts.{Act, Changes, MakesThread, SetsActivity}
use Rattle.instruction_effect.specs.Outcomes.{Site, Outcome, Goes, misfit}
use Rattle.instruction_effect.specs.Arguments.{takes_arguments}
use Rattle.instruction_effect.specs.Invoking.{unselected, calls}
use Rattle.instruction_effect.specs.BaseForms.{BaseCall, done_by, gives_made, fails, fills, arguments_taken}

-- ---- `start`

-- A thread that was started throws, also where no further thread can be made. Else the thread is made, and where there are too many
-- the error is thrown that is kept for a full heap.
abbrev pub starts : BaseCall → List Value → Outcome
starts c (value.Ref (Some o) ∷ []) =
    if was_started c.site.core o then fails c (codes "java/lang/IllegalThreadStateException")
    else if nat_le most_threads (length c.site.core.threads) then fills c
    else done_by c (Changes (MakesThread o) ∷ [])
starts c _ = misfit

-- ---- `run`

-- a method is one of a base class
abbrev pub is_base_method : List Class → MethodNo → Bool
is_base_method classes m = option_map_or (λ c. is_base c.name) (link.class_at classes m.class) false

-- What a run of an object comes to: nothing, a method of an object, or a selection that selects nothing.
pub data RunMethod : Type 0 where
  NoRun : RunMethod
  RunOf : ObjNo → MethodNo → RunMethod
  LacksRun : LinkFault → RunMethod

-- the `run()V` that is selected for an object, as by `invokevirtual`
abbrev pub selected_run : List Class → HeapValue → ObjNo → Result MethodNo LinkFault
selected_run classes heap o = elim (class_at heap o) [
  | None ↦ Err faults.NoMethod
  | Some n ↦ selected_by classes n (codes "run") (codes "()V")
]

-- the target of a Thread
abbrev pub target_of : HeapValue → ObjNo → Option ObjNo
target_of heap o = option_and_then (λ side. side) (side_at heap o)

-- The run of an object is the method that is selected for it. That of Thread itself is the run of its target, or nothing without one.
-- So targets are followed in turn, as many as these steps.
abbrev pub run_of : List Class → HeapValue → ℕ → ObjNo → RunMethod
run_of classes heap zero o = NoRun
run_of classes heap (suc steps) o = elim (selected_run classes heap o) [
  | Err fault ↦ LacksRun fault
  | Ok m ↦ if is_base_method classes m then option_map_or (run_of classes heap steps) (target_of heap o) NoRun else RunOf o m
]

-- No more targets are followed than there are objects: more would go round in a circle.
abbrev pub run_at : Site → ObjNo → RunMethod
run_at site o = run_of site.classes site.core.heap (length site.core.heap.objects) o

-- The method of the run is called, and `taking` is what takes the arguments from the caller, or lets the thread go on.
abbrev pub calls_run : Site → List Act → List Act → ObjNo → MethodNo → Outcome
calls_run site before taking o m = calls site (record { before = before; taking = taking; method = m; arguments = value.Ref (Some o) ∷ [] })

-- Where there is nothing to run the method was performed, and has taken its arguments. A run whose frame is refused leaves them, as every
-- call does.
abbrev pub runs_by : BaseCall → RunMethod → Outcome
runs_by c NoRun = done_by c []
runs_by c (LacksRun fault) = unselected (arguments_taken c) fault
runs_by c (RunOf o m) = calls_run c.site c.before (takes_arguments c.site c.arguments) o m

-- `run` of Thread: the run of the target
abbrev pub runs : BaseCall → List Value → Outcome
runs c (value.Ref (Some o) ∷ []) = option_map_or (λ target. runs_by c (run_at c.site target)) (target_of c.site.core.heap o) (done_by c [])
runs c _ = misfit

-- ---- `join` and `currentThread`

-- A thread that wasn't started is joined at once. Every other one, also one that has ended, is joined by a later step of the thread, and
-- the arguments are taken then.
abbrev pub joins_thread : BaseCall → Option ℕ → Outcome
joins_thread c None = done_by c []
joins_thread c (Some place) = Goes (c.before ++ Changes (SetsActivity c.site.t (Joining (record { 0 = place + 1 }))) ∷ [])

abbrev pub joins : BaseCall → List Value → Outcome
joins c (value.Ref (Some o) ∷ []) = joins_thread c (position (is_of_object o) c.site.core.threads)
joins c _ = misfit

abbrev pub gives_current : BaseCall → Outcome
gives_current c = gives_made c [] c.site.thread.object
