-- `ireturn`, `lreturn`, `areturn` and `return` (JVM specification 2.6.4, 2.11.10 and 6.5), and what JVM TI hears of them ("Method Exit",
-- "Frame Pop"). A result isn't narrowed to the method's type.
use Rattle.std.specs.Prelude.{ℕ, Bool, true, false, List, [], ◌∷◌, ◌++◌, drop, Option, Some, None, option_map, codes, if◌then◌else◌}
use Rattle.ti_ids.specs.declared.number.ThreadNo.{ThreadNo}
use Rattle.ti_ids.specs.declared.number.ObjNo.{ObjNo}
use Rattle.ti_ids.specs.declared.value.Value.{Value}
use Rattle.class_code.specs.declared.instr.Instr.{Instr}
use Rattle.class_code.specs.declared.instr.Instr.TheVariants as instr
use Rattle.class_code.specs.declared.instr.Simple.TheVariants as simple
use Rattle.class_code.specs.declared.instr.Kind.{Kind}
use Rattle.class_code.specs.declared.instr.Kind.TheVariants as kind
use Rattle.thread_frames.specs.declared.frame.StackEntry.TheVariants.{Java, Init}
use Rattle.bytecode_local.specs.Changes.{exchange, can_take, changed}
use Rattle.bytecode_local.specs.Kinds.{kind_at}
use Rattle.machine_state.specs.Core.{MethodFrame, StackFrame}
use Rattle.machine_state.specs.Trace.{MethodName, MethodExit, FramePop, Returned}
use Rattle.machine_state.specs.Acts.{Act, Changes, Leaves, Pops, SetsTop, raises}
use Rattle.instruction_effect.specs.Outcomes.{Site, Outcome, Goes, Throws, misfit, or_misfit}
use Rattle.instruction_effect.specs.Objects.{owns}
use Rattle.instruction_effect.specs.Arguments.{name_of_method, result_kind}

-- ---- the result

abbrev pub is_same_kind : Kind → Kind → Bool
is_same_kind kind.Int kind.Int = true
is_same_kind kind.Long kind.Long = true
is_same_kind kind.Reference kind.Reference = true
is_same_kind k l = false

-- What a return instruction hands on, by what it returns and what the method's descriptor says: nothing, or the top of the stack.
-- Where these differ, or where no such value is there, it is a misfit.
abbrev pub handed_on : Site → Option Kind → Option Kind → Option (List Value)
handed_on site None None = Some []
handed_on site (Some k) (Some wanted) = if is_same_kind k wanted then option_map (λ v. v ∷ []) (kind_at k site.frame.stack 0) else None
handed_on site returned wanted = None

abbrev pub result_of : Site → Option Kind → MethodName → Option (List Value)
result_of site returned m = handed_on site returned (result_kind m.desc)

-- ---- the monitor: section 2.11.10

-- the frames beneath the current one
abbrev pub beneath : Site → List StackFrame
beneath site = drop 1 site.thread.frames

-- A synchronized method gives up the monitor that was entered for it. A thread that doesn't own it any more throws.
abbrev pub not_owner : Outcome
not_owner = Throws [] (codes "java/lang/IllegalMonitorStateException")

abbrev pub given_up : Site → Option ObjNo → (List Act → Outcome) → Outcome
given_up site None so = so []
given_up site (Some object) so = if owns site object then so (Changes (Leaves object) ∷ []) else not_owner

abbrev pub leaving : Site → (List Act → Outcome) → Outcome
leaving site so = given_up site site.frame.pin.monitor so

-- ---- the caller

-- The caller goes on behind its invoke instruction, with the result on its stack. Without room for it the return is a misfit.
abbrev pub caller_goes_on : ThreadNo → MethodFrame → List Value → Option ℕ → Option (List Act)
caller_goes_on t caller result None = None
caller_goes_on t caller result (Some pc) =
    if can_take caller (exchange 0 result) then Some (Changes (SetsTop t (changed caller (exchange 0 result) pc)) ∷ []) else None

-- An initialization, or the end of the thread's frames, is handed nothing.
abbrev pub handed_to : (MethodFrame → Option ℕ) → ThreadNo → List Value → List StackFrame → Option (List Act)
handed_to behind t result [] = Some []
handed_to behind t result (Init class ∷ rest) = Some []
handed_to behind t result (Java caller ∷ rest) = caller_goes_on t caller result (behind caller)

-- ---- the whole

abbrev pub exit_events : Site → MethodName → List Act
exit_events site m = raises (MethodExit site.t m Returned) ∷ raises (FramePop site.t m Returned site.frame.pin.birth) ∷ []

-- The monitor is given up, the frame popped, and the caller goes on.
abbrev pub popping : Site → MethodName → List Act → List Act → Outcome
popping site m handing leaves = Goes (leaves ++ Changes (Pops site.t) ∷ handing ++ exit_events site m)

-- A return of a value of this kind, or of none. For the frame of the caller, which stands at an invoke instruction, `behind` gives the
-- offset behind that instruction.
abbrev pub returns_named : (MethodFrame → Option ℕ) → Site → Option Kind → MethodName → Outcome
returns_named behind site returned m = or_misfit (result_of site returned m) (λ result.
    or_misfit (handed_to behind site.t result (beneath site)) (λ handing. leaving site (popping site m handing)))

abbrev pub returns : (MethodFrame → Option ℕ) → Site → Option Kind → Outcome
returns behind site returned = or_misfit (name_of_method site.classes site.frame.method) (returns_named behind site returned)

-- ---- the family

abbrev pub return_outcome : (MethodFrame → Option ℕ) → Site → Instr → Outcome
return_outcome behind site (instr.Simple (simple.Return k)) = returns behind site (Some k)
return_outcome behind site (instr.Simple simple.ReturnVoid) = returns behind site None
return_outcome behind site i = misfit
