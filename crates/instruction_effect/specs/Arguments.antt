-- What a call takes from the stack, and the frame that it pushes (JVM specification 2.6, 4.3.3 and 6.5).
use Rattle.std.specs.Prelude.{ℕ, ◌+◌, ◌-◌, Bool, true, false, ◌&&◌, ◌||◌, ◌==◌, nat_le, nat_lt, pos, List, [], ◌∷◌, ◌++◌, length, map, reverse, take, drop, replicate, flat_map, Option, Some, None, option_map, unwrap_or, if◌then◌else◌}
use Rattle.std.specs.Option.{option_and_then}
use Rattle.ti_ids.specs.Maybe.{◌>>=◌}
use Rattle.ti_ids.specs.declared.number.MethodNo.{MethodNo}
use Rattle.ti_ids.specs.declared.value.Value.{Value}
use Rattle.ti_ids.specs.declared.value.Value.TheVariants as value
use Rattle.jv_names.specs.Names.{Name}
use Rattle.jv_names.specs.declared.descriptor.ElementType.{ElementType}
use Rattle.jv_names.specs.declared.descriptor.ElementType.TheVariants as element_type
use Rattle.jv_names.specs.declared.descriptor.FieldType.{FieldType}
use Rattle.jv_names.specs.DescriptorReading.{kept_type, kept_types}
use Rattle.jv_names.specs.DescriptorFlaws.{read_method}
use Rattle.class_code.specs.declared.instr.Kind.{Kind}
use Rattle.class_code.specs.declared.instr.Kind.TheVariants as kind
use Rattle.class_tree.specs.declared.body.Code.{Code}
use Rattle.class_tree.specs.Tree.{code_of}
use Rattle.thread_frames.specs.Operands.{OperandStack}
use Rattle.thread_frames.specs.Frame.{new_frame, frame_words}
use Rattle.thread_frames.specs.ThreadStack.{most_frames, most_words, stack_words}
use Rattle.bytecode_local.specs.Kinds.{is_kind}
use Rattle.link_versions.specs.Classes.{Class, class_at, newest_version, version_at}
use Rattle.link_versions.specs.Members.{method_name, method_desc, method_in}
use Rattle.machine_state.specs.Core.{Pin, MethodFrame, StackFrame}
use Rattle.machine_state.specs.Trace.{MethodName}
use Rattle.machine_state.specs.Acts.{Act, Changes, SetsTop}
use Rattle.instruction_effect.specs.Outcomes.{Site, Outcome, or_misfit}

-- ---- names and descriptors

-- the class, the name and the descriptor of a method
abbrev pub name_of_method : List Class → MethodNo → Option MethodName
name_of_method classes m =
    class_at classes m.class >>= λ c. method_name classes m >>= λ name. method_desc classes m >>= λ desc.
    Some (record { class = c.name; name = name; desc = desc })

-- table 4.3-A and section 2.11.1: what holds a value of a type
abbrev pub element_kind : ElementType → Kind
element_kind element_type.Long = kind.Long
element_kind (element_type.Class name) = kind.Reference
element_kind _ = kind.Int

abbrev pub type_kind : FieldType → Kind
type_kind t = if t.dimensions == 0 then element_kind t.element else kind.Reference

-- the types of a method's parameters, in order
abbrev pub parameters_of : Name → List FieldType
parameters_of desc = unwrap_or (option_and_then (λ m. kept_types m.parameters) (read_method desc)) []

-- what holds a method's result; nothing for void
abbrev pub result_kind : Name → Option Kind
result_kind desc = option_map type_kind (option_and_then kept_type (option_and_then (λ m. m.result) (read_method desc)))

-- ---- operands

-- what a call takes: the receiver, unless the method is static, and the parameters
abbrev pub static_kinds : Name → List Kind
static_kinds desc = map type_kind (parameters_of desc)

abbrev pub instance_kinds : Name → List Kind
instance_kinds desc = kind.Reference ∷ static_kinds desc

-- as many values, each of its kind
abbrev pub are_kinds : List Kind → List Value → Bool
are_kinds [] [] = true
are_kinds [] (v ∷ values) = false
are_kinds (k ∷ kinds) [] = false
are_kinds (k ∷ kinds) (v ∷ values) = is_kind k v && are_kinds kinds values

-- the topmost operands, of which the last lies on top, where they are of these kinds (2.6.2)
abbrev pub topmost : List Kind → OperandStack → List Value
topmost kinds stack = reverse (take (length kinds) stack.entries)

abbrev pub arguments_at : List Kind → OperandStack → Option (List Value)
arguments_at kinds stack = if are_kinds kinds (topmost kinds stack) then Some (topmost kinds stack) else None

-- What comes goes by the arguments; without them it is a misfit.
abbrev pub when_arguments : Site → List Kind → (List Value → Outcome) → Outcome
when_arguments site kinds so = or_misfit (arguments_at kinds site.frame.stack) so

-- the frame without so many operands, at the same instruction, which stays announced
abbrev pub without_operands : ℕ → MethodFrame → MethodFrame
without_operands n frame = record frame { stack = record { entries = drop n frame.stack.entries; room = frame.stack.room } }

-- A call takes its arguments from the caller, which stays at its instruction.
abbrev pub takes_arguments : Site → List Value → List Act
takes_arguments site values = Changes (SetsTop site.t (without_operands (length values) site.frame)) ∷ []

-- ---- local variables: section 2.6.1

-- A long takes two local variables, of which the second holds the int 0.
abbrev pub places_of : Value → List Value
places_of (value.Int n) = value.Int n ∷ []
places_of (value.Long n) = value.Long n ∷ value.Int (pos 0) ∷ []
places_of (value.Ref r) = value.Ref r ∷ []

-- so many local variables, of which those without a value hold the int 0
abbrev pub filled : ℕ → List Value → List Value
filled count places = places ++ replicate (count - length places) (value.Int (pos 0))

-- ---- frames

-- the body of a method in the newest version of its class
abbrev pub newest_body : List Class → MethodNo → Option Code
newest_body classes m =
    version_at classes (newest_version classes m.class) >>= λ t. method_in t (method_name classes m) (method_desc classes m) >>= λ member.
    code_of member.attrs

-- what a frame is pinned to before it is pushed, which gives it its birth
abbrev pub unborn : Pin
unborn = record { birth = 0; monitor = None }

-- the frame of a method with this body
abbrev pub frame_of : MethodNo → Code → List Value → MethodFrame
frame_of m body values = new_frame m.class m unborn (filled body.max_locals (flat_map places_of values)) body.max_stack

-- the local variables that values take are more than a body has
abbrev pub overflows : Code → List Value → Bool
overflows body values = nat_lt body.max_locals (length (flat_map places_of values))

-- A stack takes no further frame of so many words: it has as many frames as it may have, or its words would be more than they may be.
-- Initializations of classes are counted as frames.
abbrev pub is_deep : List StackFrame → ℕ → Bool
is_deep frames words = nat_le most_frames (length frames) || nat_lt most_words (stack_words frames + words)

abbrev pub is_refused : List StackFrame → MethodFrame → Bool
is_refused frames frame = is_deep frames (frame_words frame)
