-- Breakpoints, watched fields and suspended threads (JVM TI, "Breakpoint", "Watched Field", "Thread"), as the trace has them by names: they
-- are shared by all environments, and stay when one is disposed.
use Rattle.std.specs.Prelude.{Bool, false, ◌==◌, ◌&&◌, Option, Some, None, bytes_eq, if◌then◌else◌}
use Rattle.ti_ids.specs.declared.number.ThreadNo.{ThreadNo}
use Rattle.ti_codes.specs.declared.event.EventKind.{EventKind}
use Rattle.jv_names.specs.Names.{Name}
use Rattle.change_list.specs.Changes.{last_said}
use Rattle.breakpoint_table.specs.Breakpoints as breakpoints
use Rattle.breakpoint_table.specs.Breakpoints.{Sets, Clears, ClearsClass}
use Rattle.breakpoint_table.specs.Watches as watches
use Rattle.machine_state.specs.Trace.{MethodName, Place, FieldName, Record, Trace}
use Rattle.machine_state.specs.Trace.{Loaded, Redefined, Retransformed, BreakSet, BreakCleared, WatchSet, SuspendSet}
use Rattle.machine_state.specs.Environments.{changes_in}

abbrev pub is_method : MethodName → MethodName → Bool
is_method a b = bytes_eq a.class b.class && bytes_eq a.name b.name && bytes_eq a.desc b.desc

abbrev pub same_place : Place → Place → Bool
same_place a b = is_method a.method b.method && a.pc == b.pc

abbrev pub is_in_class : Name → Place → Bool
is_in_class class place = bytes_eq class place.method.class

abbrev pub same_field_name : FieldName → FieldName → Bool
same_field_name a b = bytes_eq a.class b.class && bytes_eq a.name b.name && bytes_eq a.desc b.desc

-- ---- breakpoints: a version of its class clears a breakpoint

abbrev pub break_change : Record → Option (breakpoints.Change Place Name)
break_change (BreakSet at) = Some (Sets at)
break_change (BreakCleared at) = Some (Clears at)
break_change (Loaded class bytes) = Some (ClearsClass class)
break_change (Redefined class bytes) = Some (ClearsClass class)
break_change (Retransformed class) = Some (ClearsClass class)
break_change _ = None

abbrev pub has_breakpoint : Trace → Place → Bool
has_breakpoint trace place = breakpoints.has_breakpoint same_place is_in_class place (changes_in break_change trace)

-- ---- watches, each for FieldAccess or for FieldModification

abbrev pub watch_change : Record → Option (watches.Change FieldName)
watch_change (WatchSet field kind on) = Some (record { field = field; kind = kind; on = on })
watch_change _ = None

abbrev pub is_watched : Trace → FieldName → EventKind → Bool
is_watched trace field kind = watches.is_watched same_field_name field kind (changes_in watch_change trace)

-- ---- suspended threads

abbrev pub suspension_said : ThreadNo → Record → Option Bool
suspension_said thread (SuspendSet of on) = if of.0 == thread.0 then Some on else None
suspension_said thread _ = None

-- what the last record that speaks of the thread says
abbrev pub is_suspended : Trace → ThreadNo → Bool
is_suspended trace thread = last_said (λ e. suspension_said thread e.what) false trace
