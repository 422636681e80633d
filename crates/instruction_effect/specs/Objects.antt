-- `new`, `checkcast`, `instanceof`, `athrow`, `monitorenter` and `monitorexit` (JVM specification 6.5).
use Rattle.std.specs.Prelude.{ℕ, pos, Bool, false, not, ◌&&◌, ◌||◌, ◌==◌, List, [], ◌∷◌, Option, Some, None, codes, if◌then◌else◌}
use Rattle.std.specs.Option.{option_map_or}
use Rattle.ti_ids.specs.declared.number.ObjNo.{ObjNo}
use Rattle.ti_ids.specs.declared.number.ClassNo.{ClassNo}
use Rattle.ti_ids.specs.declared.value.Value.{Value}
use Rattle.ti_ids.specs.declared.value.Value.TheVariants as value
use Rattle.class_code.specs.declared.instr.Kind.TheVariants as kind
use Rattle.class_code.specs.declared.instr.PoolOp.TheVariants as pool_op
use Rattle.class_code.specs.declared.instr.Simple.TheVariants as simple
use Rattle.class_code.specs.declared.instr.Instr.{Instr}
use Rattle.class_code.specs.declared.instr.Instr.TheVariants as instr
use Rattle.class_tree.specs.declared.access.Flag.TheVariants as flags
use Rattle.class_tree.specs.Flags.{has_flag}
use Rattle.class_tree.specs.Tree.{class_at}
use Rattle.java_heap.specs.declared.object.Content.{Content}
use Rattle.java_heap.specs.declared.object.Content.TheVariants.{Fields, Text}
use Rattle.java_heap.specs.declared.object.TheConstants.{STRING, STRING_BUILDER}
use Rattle.java_heap.specs.Objects.{fresh}
use Rattle.java_heap.specs.Heaps as heaps
use Rattle.link_versions.specs.Classes.{Class, is_same_class, first_version, number_of}
use Rattle.link_versions.specs.Subtypes.{is_subclass}
use Rattle.bytecode_local.specs.Changes.{Change, exchange}
use Rattle.bytecode_local.specs.Kinds.{operand_at, reference_at}
use Rattle.machine_state.specs.Core.{monitor_at}
use Rattle.machine_state.specs.Acts.{Act, Changes, Makes, Leaves}
use Rattle.instruction_effect.specs.Outcomes.{Site, Outcome, Throws, ThrowsObject, misfit, or_misfit, goes, when_ready, when_room}
use Rattle.instruction_effect.specs.Operands.{when_fits, gives_object, unless_null, incompatible, when_there}
use Rattle.instruction_effect.specs.Fields.{fresh_fields}
use Rattle.instruction_effect.specs.Monitors.{entering}

-- ---- new

-- what a new instance of a class holds: a String or a StringBuilder no text, and every other one its fields
abbrev pub new_content : List Class → ClassNo → Content
new_content classes n = if is_same_class n STRING || is_same_class n STRING_BUILDER then Text [] else Fields (fresh_fields classes n)

-- a class of which there are instances: neither abstract nor an interface, nor of an array
abbrev pub has_instances : List Class → ClassNo → Bool
has_instances classes n =
    option_map_or (λ t. not (has_flag t.flags.bits flags.Abstract) && not (has_flag t.flags.bits flags.Interface)) (first_version classes n) false

-- an object of this content is made without an event, where there is room, and stands in the place of so many operands
abbrev pub makes : Site → List Act → ℕ → ClassNo → Content → Outcome
makes site before taken n content =
    when_room site.core.heap before (Changes (Makes (fresh n content)) ∷ []) content (λ acts. gives_object site acts taken)

abbrev pub new_instance : Site → List Act → ClassNo → Outcome
new_instance site acts n =
    if has_instances site.classes n then makes site acts 0 n (new_content site.classes n) else Throws acts (codes "java/lang/InstantiationError")

-- The class must be initialized before it is looked at whether it has instances.
abbrev pub new_outcome : Site → ℕ → Outcome
new_outcome site index = or_misfit (class_at site.pool index) (λ name. when_there site name (λ there acts n.
    when_ready there n (when_fits there 0 kind.Reference (new_instance there acts n))))

-- ---- checkcast and instanceof

-- an object is of a class, or of one that extends or implements it
abbrev pub is_of : Site → ObjNo → ClassNo → Bool
is_of site object n = option_map_or (λ class. is_subclass site.classes class n) (heaps.class_at site.core.heap object) false

abbrev pub cast : Site → List Act → ClassNo → ObjNo → Outcome
cast site acts n object = if is_of site object n then goes site acts (exchange 0 []) else Throws acts (codes "java/lang/ClassCastException")

abbrev pub tested : Site → List Act → ClassNo → ObjNo → Outcome
tested site acts n object = goes site acts (exchange 1 (value.Int (if is_of site object n then pos 1 else pos 0) ∷ []))

-- Null passes at once, with this change. Of an object the class that the entry names must be there; and so it must of an operand of
-- another kind, and where there is none, before it is a misfit.
abbrev pub unless_null_top : Site → ℕ → Change → (Site → List Act → ClassNo → ObjNo → Outcome) → Option Value → Outcome
unless_null_top site index null so (Some (value.Ref None)) = goes site [] null
unless_null_top site index null so (Some (value.Ref (Some object))) =
    or_misfit (class_at site.pool index) (λ name. when_there site name (λ there acts n. so there acts n object))
unless_null_top site index null so _ = or_misfit (class_at site.pool index) (λ name. when_there site name (λ there acts n. misfit))

abbrev pub checkcast_outcome : Site → ℕ → Outcome
checkcast_outcome site index = unless_null_top site index (exchange 0 []) cast (operand_at site.frame.stack 0)

abbrev pub instanceof_outcome : Site → ℕ → Outcome
instanceof_outcome site index = unless_null_top site index (exchange 1 (value.Int (pos 0) ∷ [])) tested (operand_at site.frame.stack 0)

-- ---- athrow

abbrev pub is_throwable : Site → ObjNo → Bool
is_throwable site object = option_map_or (is_of site object) (number_of site.classes (codes "java/lang/Throwable")) false

abbrev pub thrown : Site → ObjNo → Outcome
thrown site object = if is_throwable site object then ThrowsObject object else incompatible []

-- ---- monitorenter and monitorexit

abbrev pub owns : Site → ObjNo → Bool
owns site object = option_map_or (λ owner. owner.0 == site.t.0) (monitor_at site.core object).owner false

abbrev pub entered : Site → ObjNo → Outcome
entered site object = entering site object (λ acts. goes site acts (exchange 1 []))

abbrev pub exited : Site → ObjNo → Outcome
exited site object =
    if owns site object then goes site (Changes (Leaves object) ∷ []) (exchange 1 []) else Throws [] (codes "java/lang/IllegalMonitorStateException")

-- ---- the family

-- of the object that is the top operand
abbrev pub of_object : Site → (ObjNo → Outcome) → Outcome
of_object site so = or_misfit (reference_at site.frame.stack 0) (λ reference. unless_null [] reference so)

abbrev pub object_outcome : Site → Instr → Outcome
object_outcome site (instr.Pool pool_op.New index) = new_outcome site index
object_outcome site (instr.Pool pool_op.CheckCast index) = checkcast_outcome site index
object_outcome site (instr.Pool pool_op.InstanceOf index) = instanceof_outcome site index
object_outcome site (instr.Simple simple.Throw) = of_object site (thrown site)
object_outcome site (instr.Simple simple.MonitorEnter) = of_object site (entered site)
object_outcome site (instr.Simple simple.MonitorExit) = of_object site (exited site)
object_outcome site i = misfit
