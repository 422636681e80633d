-- Which events an environment is told of (JVM TI, "SetEventNotificationMode"): of each event there is a setting for all threads, and one
-- for each thread.
use Rattle.std.specs.Prelude.{Bool, true, false, ◌==◌, ◌&&◌, ◌||◌, List, Option, Some, None, if◌then◌else◌}
use Rattle.std.specs.Option.{option_eq, option_map_or}
use Rattle.ti_ids.specs.declared.number.ThreadNo.{ThreadNo}
use Rattle.ti_codes.specs.declared.capability.Capability.{Capability}
use Rattle.ti_codes.specs.declared.event.EventKind.{EventKind}
use Rattle.ti_codes.specs.Events.{event_needs, is_same_event}
use Rattle.capability_set.specs.Held.{has_capability}
use Rattle.change_list.specs.Changes.{last_said}

-- a thread, or all threads
abbrev pub Scope : Type 0
Scope = Option ThreadNo

abbrev pub same_scope : Scope → Scope → Bool
same_scope a b = option_eq (λ (t u : ThreadNo). t.0 == u.0) a b

-- what changes the settings of an environment
pub data Change : Type 0 where
  -- an event is set on or off
  Sets : EventKind → Scope → Bool → Change
  -- the environment holds these capabilities from now on
  Holds : List Capability → Change
  -- it is disposed
  Ends : Change

-- what an event needs is among these
abbrev pub suffices : List Capability → EventKind → Bool
suffices held kind = option_map_or (λ wanted. has_capability wanted held) (event_needs kind) true

-- what a change says of a setting, where it speaks of it
abbrev pub setting_said : EventKind → Scope → Change → Option Bool
setting_said kind scope (Sets what for on) = if is_same_event what kind && same_scope for scope then Some on else None
setting_said kind scope (Holds caps) = if suffices caps kind then None else Some false
setting_said kind scope Ends = Some false

-- what the last change that speaks of it says; in the beginning all is off
abbrev pub setting : EventKind → Scope → List Change → Bool
setting kind scope changes = last_said (setting_said kind scope) false changes

-- An event is on for a thread where the setting for all or that of the thread is. Without a thread only the one for all counts.
abbrev pub mask : EventKind → Scope → List Change → Bool
mask kind None changes = setting kind None changes
mask kind (Some t) changes = setting kind None changes || setting kind (Some t) changes
