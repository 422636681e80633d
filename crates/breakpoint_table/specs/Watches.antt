-- Watched fields (JVM TI, "Watched Field"), whatever tells fields apart: `same` says whether two are one.
use Rattle.std.specs.Prelude.{Bool, false, ◌&&◌, List, Option, Some, None, if◌then◌else◌}
use Rattle.ti_codes.specs.declared.event.EventKind.{EventKind}
use Rattle.ti_codes.specs.Events.{is_same_event}
use Rattle.change_list.specs.Changes.{last_said}

-- a field is watched for an event, FieldAccess or FieldModification, or no more
pub record Change (F : Type 0) : Type 0 where
  pub field : F
  pub kind : EventKind
  pub on : Bool

module _ {F : Type 0} (same : F → F → Bool) where
  -- what a change says of a field, where it speaks of it
  abbrev pub watch_said : F → EventKind → Change F → Option Bool
  watch_said field kind change = if same change.field field && is_same_event change.kind kind then Some change.on else None

  -- what the last change that speaks of it says
  abbrev pub is_watched : F → EventKind → List (Change F) → Bool
  is_watched field kind changes = last_said (watch_said field kind) false changes
