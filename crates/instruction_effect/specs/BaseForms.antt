-- The forms in which the methods of the base classes say what they do. A base method is performed inside the step of its invocation and
-- has no frame.
use Rattle.std.specs.Prelude.{Some, List, [], ◌∷◌, ◌++◌, length, codes, if◌then◌else◌}
use Rattle.ti_ids.specs.declared.number.ObjNo.{ObjNo}
use Rattle.ti_ids.specs.declared.number.ClassNo.{ClassNo}
use Rattle.ti_ids.specs.declared.value.Value.{Value}
use Rattle.ti_ids.specs.declared.value.Value.TheVariants as value
use Rattle.jv_names.specs.Names.{Name}
use Rattle.java_heap.specs.declared.object.Content.{Content}
use Rattle.java_heap.specs.Heaps.{next_number}
use Rattle.bytecode_local.specs.Changes.{exchange}
use Rattle.machine_state.specs.Acts.{Act}
use Rattle.instruction_effect.specs.Outcomes.{Site, Outcome, Throws, Fills, goes, heap_has_room, makes_announced}
use Rattle.instruction_effect.specs.Objects.{owns}
use Rattle.instruction_effect.specs.Arguments.{takes_arguments}

-- The invocation of a base method: what was done before it, and its arguments, the receiver first.
pub record BaseCall : Type 0 where
  pub site : Site
  pub before : List Act
  pub arguments : List Value

-- ---- what comes of it

-- It is performed by these acts and gives this result, or none. The caller goes on behind its instruction.
abbrev pub gives_by : BaseCall → List Act → List Value → Outcome
gives_by c acts result = goes c.site (c.before ++ acts) (exchange (length c.arguments) result)

-- it gives nothing, this value, this object
abbrev pub done_by : BaseCall → List Act → Outcome
done_by c acts = gives_by c acts []

abbrev pub gives_value : BaseCall → Value → Outcome
gives_value c v = gives_by c [] (v ∷ [])

abbrev pub gives_made : BaseCall → List Act → ObjNo → Outcome
gives_made c acts object = gives_by c acts (value.Ref (Some object) ∷ [])

-- a method that was performed and throws has taken its arguments
abbrev pub arguments_taken : BaseCall → List Act
arguments_taken c = c.before ++ takes_arguments c.site c.arguments

abbrev pub fails : BaseCall → Name → Outcome
fails c error = Throws (arguments_taken c) error

abbrev pub fills : BaseCall → Outcome
fills c = Fills (arguments_taken c)

-- ---- objects and monitors

-- It makes an object, announced by VMObjectAlloc, and gives it.
abbrev pub makes : BaseCall → ClassNo → Content → Name → Outcome
makes c class content name =
    let heap = c.site.core.heap in
    if heap_has_room heap content then gives_made c (makes_announced c.site.t heap class content name) (next_number heap) else fills c

-- Only the owner of an object's monitor may do it (the language, 17.2).
abbrev pub when_owner : BaseCall → ObjNo → Outcome → Outcome
when_owner c object so =
    if owns c.site object then so
    else fails c (codes "java/lang/IllegalMonitorStateException")
