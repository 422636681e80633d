-- What the methods of Object and of Throwable do (the packages of the Java library, `java.lang`; the language, 17.2).
use Rattle.std.specs.Prelude.{Bool, true, false, ◌==◌, pos, List, [], ◌∷◌, ◌++◌, Option, Some, None, codes}
use Rattle.ti_ids.specs.declared.number.ObjNo.{ObjNo}
use Rattle.ti_ids.specs.declared.number.ClassNo.{ClassNo}
use Rattle.ti_ids.specs.declared.value.Value.{Value}
use Rattle.ti_ids.specs.declared.value.Value.TheVariants as value
use Rattle.java_heap.specs.declared.object.Content.TheVariants.{ClassObject}
use Rattle.java_heap.specs.declared.object.TheConstants.{CLASS}
use Rattle.java_heap.specs.Heaps.{class_at, class_object_of, side_at}
use Rattle.ti_ids.specs.declared.state.Activity.TheVariants.{Waiting}
use Rattle.machine_state.specs.Trace.{MonitorWait}
use Rattle.machine_state.specs.Acts.{Changes, PutsSide, GoesToWait, Notifies, NotifiesAll, SetsActivity, raises}
use Rattle.instruction_effect.specs.Outcomes.{Outcome, Goes, misfit, or_misfit}
use Rattle.instruction_effect.specs.BaseForms.{BaseCall, done_by, gives_value, gives_made, makes, when_owner}

-- what a boolean is as an int (2.3.4)
abbrev pub bit : Bool → Value
bit true = value.Int (pos 1)
bit false = value.Int (pos 0)

-- both refer to one object, or to none
abbrev pub same_reference : Option ObjNo → Option ObjNo → Bool
same_reference None None = true
same_reference None (Some b) = false
same_reference (Some a) None = false
same_reference (Some a) (Some b) = a.0 == b.0

-- ---- Object

-- a constructor that does nothing
abbrev pub constructs : BaseCall → Outcome
constructs c = done_by c []

-- `getClass`: the Class object of the receiver's class, which is made at its first use
abbrev pub gives_class : BaseCall → ClassNo → Outcome
gives_class c n = elim (class_object_of c.site.core.heap n) [
  | Some object ↦ gives_made c [] object
  | None ↦ makes c CLASS (ClassObject n) (codes "java/lang/Class")
]

abbrev pub class_of_receiver : BaseCall → List Value → Outcome
class_of_receiver c (value.Ref (Some o) ∷ []) = or_misfit (class_at c.site.core.heap o) (gives_class c)
class_of_receiver c _ = misfit

-- `equals`: the same object
abbrev pub equal_objects : BaseCall → List Value → Outcome
equal_objects c (value.Ref a ∷ value.Ref b ∷ []) = gives_value c (bit (same_reference a b))
equal_objects c _ = misfit

-- `hashCode`: the object's number
abbrev pub hash_code : BaseCall → List Value → Outcome
hash_code c (value.Ref (Some o) ∷ []) = gives_value c (value.Int (pos o.0))
hash_code c _ = misfit

-- `wait`: the thread gives up all its entries and goes into the wait set. The arguments are taken when the wait is over.
abbrev pub waits_for : BaseCall → ObjNo → Outcome
waits_for c o =
    Goes (c.before ++ Changes (GoesToWait o c.site.t) ∷ Changes (SetsActivity c.site.t (Waiting o)) ∷ raises (MonitorWait c.site.t o) ∷ [])

abbrev pub waits : BaseCall → List Value → Outcome
waits c (value.Ref (Some o) ∷ []) = when_owner c o (waits_for c o)
waits c _ = misfit

-- `notify` and `notifyAll`
abbrev pub notifies : BaseCall → List Value → Outcome
notifies c (value.Ref (Some o) ∷ []) = when_owner c o (done_by c (Changes (Notifies o) ∷ []))
notifies c _ = misfit

abbrev pub notifies_all : BaseCall → List Value → Outcome
notifies_all c (value.Ref (Some o) ∷ []) = when_owner c o (done_by c (Changes (NotifiesAll o) ∷ []))
notifies_all c _ = misfit

-- ---- Throwable and the errors: the message stands at the object's side

-- `<init>` with a message, and likewise that of a Thread with its target
abbrev pub constructs_with : BaseCall → List Value → Outcome
constructs_with c (value.Ref (Some o) ∷ value.Ref side ∷ []) = done_by c (Changes (PutsSide o side) ∷ [])
constructs_with c _ = misfit

-- `getMessage`
abbrev pub gives_message : BaseCall → List Value → Outcome
gives_message c (value.Ref (Some o) ∷ []) = or_misfit (side_at c.site.core.heap o) (λ side. gives_value c (value.Ref side))
gives_message c _ = misfit
