-- The tags of one environment (JVM TI, "SetTag" and "GetTag"). An object that has none has the tag 0.
use Rattle.std.specs.Prelude.{ℤ, pos, ◌==◌, List, Option, Some, None, if◌then◌else◌}
use Rattle.ti_ids.specs.declared.number.ObjNo.{ObjNo}
use Rattle.change_list.specs.Changes.{last_said}

pub data Change : Type 0 where
  -- an object gets a tag; 0 takes it away
  Sets : ObjNo → ℤ → Change
  -- the environment is disposed, and all its tags with it
  Ends : Change

-- what a change says of an object's tag, where it speaks of it
abbrev pub tag_said : ObjNo → Change → Option ℤ
tag_said object (Sets to tag) = if to.0 == object.0 then Some tag else None
tag_said object Ends = Some (pos 0)

-- what the last change that speaks of it says
abbrev pub tag_of : ObjNo → List Change → ℤ
tag_of object changes = last_said (tag_said object) (pos 0) changes
