-- The invocation of a method that has a frame (JVM specification 2.5.2, 2.6, 2.11.10 and 6.5): its frame is pushed, and before that
-- the monitor of a synchronized method is entered.
use Rattle.std.specs.Prelude.{List, [], ◌∷◌, ◌++◌, Some, codes, if◌then◌else◌}
use Rattle.ti_ids.specs.declared.number.ObjNo.{ObjNo}
use Rattle.ti_ids.specs.declared.number.MethodNo.{MethodNo}
use Rattle.ti_ids.specs.declared.value.Value.{Value}
use Rattle.ti_ids.specs.declared.value.Value.TheVariants as value
use Rattle.class_tree.specs.declared.access.Flag.TheVariants as flags
use Rattle.class_tree.specs.declared.body.Code.{Code}
use Rattle.link_versions.specs.declared.fault.LinkFault.{LinkFault}
use Rattle.link_versions.specs.declared.fault.LinkFault.TheVariants as faults
use Rattle.link_versions.specs.Members.{method_has}
use Rattle.machine_state.specs.Core.{MethodFrame}
use Rattle.machine_state.specs.Acts.{Act, Changes, Pushes}
use Rattle.instruction_effect.specs.Outcomes.{Site, Outcome, Goes, Throws, misfit, or_misfit, when_linked}
use Rattle.instruction_effect.specs.Operands.{incompatible}
use Rattle.instruction_effect.specs.Monitors.{entering}
use Rattle.instruction_effect.specs.ClassObjects.{when_class_object}
use Rattle.instruction_effect.specs.Arguments.{newest_body, frame_of, overflows, is_refused}

-- A call: what is done before it, what takes the arguments from the caller or else lets the thread go on, the method, and the
-- arguments, the receiver first.
pub record Call : Type 0 where
  pub before : List Act
  pub taking : List Act
  pub method : MethodNo
  pub arguments : List Value

-- ---- errors

abbrev pub abstract_method : List Act → Outcome
abstract_method acts = Throws acts (codes "java/lang/AbstractMethodError")

abbrev pub no_method : List Act → Outcome
no_method acts = Throws acts (codes "java/lang/NoSuchMethodError")

-- what comes of a selection that selects nothing
abbrev pub unselected : List Act → LinkFault → Outcome
unselected acts faults.Incompatible = incompatible acts
unselected acts _ = abstract_method acts

-- ---- the frame

-- After these acts the frame is pushed.
abbrev pub pushed : Site → Call → MethodFrame → List Act → Outcome
pushed site call frame acts = Goes (call.before ++ acts ++ call.taking ++ Changes (Pushes site.t frame) ∷ [])

-- the frame, which remembers the monitor that was entered for it
abbrev pub with_monitor : ObjNo → MethodFrame → MethodFrame
with_monitor object frame = record frame { pin = record { birth = frame.pin.birth; monitor = Some object } }

-- A synchronized method enters the monitor of its receiver, and a static one that of its class's Class object, which may have to be
-- made.
abbrev pub entered_receiver : Site → Call → MethodFrame → List Value → Outcome
entered_receiver site call frame (value.Ref (Some object) ∷ arguments) = entering site object (pushed site call (with_monitor object frame))
entered_receiver site call frame _ = misfit

abbrev pub entered_class : Site → Call → MethodFrame → Outcome
entered_class site call frame =
    when_class_object site call.before call.method.class (λ made object.
    entering site object (pushed site (record call { before = made }) (with_monitor object frame)))

abbrev pub synchronized : Site → Call → MethodFrame → Outcome
synchronized site call frame =
    if method_has site.classes flags.Static call.method then entered_class site call frame
    else entered_receiver site call frame call.arguments

-- Where the thread's stack takes the frame it is pushed. A call whose frame is refused enters no monitor, wants none, and makes no Class
-- object.
abbrev pub framed : Site → Call → MethodFrame → Outcome
framed site call frame =
    if is_refused site.thread.frames frame then Throws call.before (codes "java/lang/StackOverflowError")
    else if method_has site.classes flags.Synchronized call.method then synchronized site call frame
    else pushed site call frame []

-- More arguments than local variables are a misfit.
abbrev pub with_body : Site → Call → Code → Outcome
with_body site call body =
    if overflows body call.arguments then misfit else framed site call (frame_of call.method body call.arguments)

-- The call of a method with a body: the class that declares it must be linked.
abbrev pub calls : Site → Call → Outcome
calls site call = when_linked site call.method.class (or_misfit (newest_body site.classes call.method) (with_body site call))
