-- The Class object of a class, which is made when it is first needed.
use Rattle.std.specs.Prelude.{List, Some, None, codes}
use Rattle.ti_ids.specs.declared.number.ObjNo.{ObjNo}
use Rattle.ti_ids.specs.declared.number.ClassNo.{ClassNo}
use Rattle.java_heap.specs.declared.object.Content.TheVariants.{ClassObject}
use Rattle.java_heap.specs.declared.object.TheConstants.{CLASS}
use Rattle.java_heap.specs.Heaps.{class_object_of}
use Rattle.machine_state.specs.Acts.{Act}
use Rattle.instruction_effect.specs.Outcomes.{Site, Outcome, makes_announced, when_room}

-- the acts that make it
abbrev pub makes_class_object : Site → ClassNo → List Act
makes_class_object site class = makes_announced site.t site.core.heap CLASS (ClassObject class) (codes "java/lang/Class")

-- What comes after these acts goes by all acts and the object's number.
abbrev pub when_class_object : Site → List Act → ClassNo → (List Act → ObjNo → Outcome) → Outcome
when_class_object site before class so = elim (class_object_of site.core.heap class) [
  | Some object ↦ so before object
  | None ↦ when_room site.core.heap before (makes_class_object site class) (ClassObject class) so
]
