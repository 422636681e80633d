-- Tags (JVM TI, "Heap"), as the trace has them: each environment has its own.
use Rattle.std.specs.Prelude.{ℤ, Option, Some, None, if◌then◌else◌}
use Rattle.ti_ids.specs.declared.number.EnvNo.{EnvNo}
use Rattle.ti_ids.specs.declared.number.ObjNo.{ObjNo}
use Rattle.tag_map.specs.Tags as tags
use Rattle.tag_map.specs.Tags.{Sets, Ends}
use Rattle.machine_state.specs.Trace.{Record, Trace, Tagged, Disposed}
use Rattle.machine_state.specs.Environments.{same_environment, changes_in}

abbrev pub tag_change : EnvNo → Record → Option tags.Change
tag_change env (Tagged of object new) = if same_environment of env then Some (Sets object new) else None
tag_change env (Disposed of) = if same_environment of env then Some Ends else None
tag_change env _ = None

-- the tag of an object in an environment: 0 where it has none
abbrev pub tag : Trace → EnvNo → ObjNo → ℤ
tag trace env object = tags.tag_of object (changes_in (tag_change env) trace)
