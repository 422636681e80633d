-- The events before an instruction (JVM TI, "Event Index"): each is raised once, however often the instruction is tried.
use Rattle.std.specs.Prelude.{not, ◌&&◌, List, [], ◌∷◌, ◌++◌, map, Option, Some, None, if◌then◌else◌}
use Rattle.ti_ids.specs.declared.number.ThreadNo.{ThreadNo}
use Rattle.ti_ids.specs.declared.value.Value.{Value}
use Rattle.ti_ids.specs.declared.value.Value.TheVariants as value
use Rattle.ti_ids.specs.declared.state.Announced.{Announced}
use Rattle.ti_ids.specs.declared.state.Announced.TheVariants.{New, Caught, No, Yes}
use Rattle.ti_codes.specs.declared.event.EventKind.{EventKind}
use Rattle.ti_codes.specs.declared.event.EventKind.TheVariants as kinds
use Rattle.jv_names.specs.Names.{Name}
use Rattle.link_versions.specs.Classes.{Class}
use Rattle.machine_state.specs.Core.{Core, MethodFrame}
use Rattle.machine_state.specs.Trace.{FieldName, Place, Trace, Event, MethodEntry, ExceptionCatch, SingleStep, Breakpoint, FieldAccess, FieldModification}
use Rattle.machine_state.specs.Places.{has_breakpoint, is_watched}
use Rattle.machine_state.specs.Obsolete.{is_obsolete}
use Rattle.machine_state.specs.Acts.{State, Act, Changes, SetsTop, raises}
use Rattle.instruction_effect.specs.Fields.{accessed_field, modified_field}
use Rattle.machine_steps.specs.World.{World}
use Rattle.machine_steps.specs.Throwing.{method_of, place_of, class_name_of}
use Rattle.machine_steps.specs.Sites.{Stop}

-- the class of the exception that a handler was entered with, which is alone on the operand stack
abbrev pub caught_class_in : List Class → Core → List Value → Name
caught_class_in classes core (value.Ref (Some o) ∷ rest) = class_name_of classes core o
caught_class_in classes core _ = []

abbrev pub caught_class : List Class → Core → MethodFrame → Name
caught_class classes core f = caught_class_in classes core f.stack.entries

-- of a frame none of whose instructions was announced, and where a handler was just entered
abbrev pub entry_events : List Class → Core → ThreadNo → MethodFrame → Announced → List Event
entry_events classes core t f New = MethodEntry t (method_of classes f) ∷ []
entry_events classes core t f Caught = ExceptionCatch t (place_of classes f) (caught_class classes core f) ∷ []
entry_events classes core t f No = []
entry_events classes core t f Yes = []

-- an obsolete frame meets no breakpoint
abbrev pub break_events : World → State → List Class → ThreadNo → MethodFrame → List Event
break_events w s classes t f =
    let place = place_of classes f in
    if has_breakpoint s.trace place && not (is_obsolete w.job w.turns s.trace s.core.classes f) then Breakpoint t place ∷ [] else []

-- the instruction's field is watched, and resolves without loading a class
abbrev pub if_watched : Trace → EventKind → (FieldName → Event) → Option FieldName → List Event
if_watched trace kind event None = []
if_watched trace kind event (Some field) = if is_watched trace field kind then event field ∷ [] else []

abbrev pub access_events : Trace → ThreadNo → Place → Option Stop → List Event
access_events trace t place None = []
access_events trace t place (Some stop) =
    if_watched trace kinds.FieldAccess (FieldAccess t place) (accessed_field stop.site stop.instr)
    ++ if_watched trace kinds.FieldModification (FieldModification t place) (modified_field stop.site stop.instr)

abbrev pub pre_events : World → State → List Class → ThreadNo → MethodFrame → Option Stop → List Event
pre_events w s classes t f stop =
    entry_events classes s.core t f f.announced
    ++ SingleStep t (place_of classes f) ∷ break_events w s classes t f ++ access_events s.trace t (place_of classes f) stop

abbrev pub announced : MethodFrame → MethodFrame
announced f = record f { announced = Yes }

-- the acts that announce the instruction of a frame; none where it is announced already
abbrev pub announcing : World → State → List Class → ThreadNo → MethodFrame → Option Stop → Announced → List Act
announcing w s classes t f stop Yes = []
announcing w s classes t f stop _ = Changes (SetsTop t (announced f)) ∷ map raises (pre_events w s classes t f stop)
