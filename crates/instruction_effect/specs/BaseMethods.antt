-- What each method of the base classes does when it is invoked, as one table.
use Rattle.std.specs.Prelude.{ℕ, Bool, true, false, ◌&&◌, List, [], ◌∷◌, ◌++◌, map, flat_map, find, Option, Some, None, bytes_eq, codes, if◌then◌else◌}
use Rattle.std.specs.Option.{option_map_or}
use Rattle.ti_ids.specs.declared.number.ObjNo.{ObjNo}
use Rattle.ti_ids.specs.declared.number.ClassNo.{ClassNo}
use Rattle.ti_ids.specs.declared.number.MethodNo.{MethodNo}
use Rattle.ti_ids.specs.declared.value.Value.{Value}
use Rattle.ti_ids.specs.declared.value.Value.TheVariants as value
use Rattle.jv_names.specs.Names.{Name}
use Rattle.jv_names.specs.declared.descriptor.ElementType.{ElementType}
use Rattle.jv_names.specs.declared.descriptor.ElementType.TheVariants as element_type
use Rattle.jv_names.specs.declared.descriptor.FieldType.{FieldType}
use Rattle.base_set.specs.BaseSet.{errors}
use Rattle.class_tree.specs.declared.access.Flag.TheVariants as flags
use Rattle.link_versions.specs.Classes.{number_of, is_interface}
use Rattle.link_versions.specs.Members.{method_has}
use Rattle.machine_state.specs.Trace.{MethodName}
use Rattle.machine_state.specs.Acts.{Act}
use Rattle.instruction_effect.specs.Outcomes.{Site, Outcome, or_misfit}
use Rattle.instruction_effect.specs.Objects.{is_of}
use Rattle.instruction_effect.specs.Arguments.{parameters_of, name_of_method}
use Rattle.instruction_effect.specs.Operands.{incompatible}
use Rattle.instruction_effect.specs.BaseForms.{BaseCall}
use Rattle.instruction_effect.specs.BaseObjects.{constructs, class_of_receiver, equal_objects, hash_code, waits, notifies, notifies_all, constructs_with, gives_message}
use Rattle.instruction_effect.specs.BaseTexts.{int_text, long_text, char_text, boolean_text, string_text, string_length, char_at, equal_strings, appends, makes_string, prints, prints_line}
use Rattle.instruction_effect.specs.BaseThreads.{starts, runs, joins, gives_current}

-- ---- the table

-- a method and what it does with its arguments, the receiver first
pub record BaseRow : Type 0 where
  pub name : MethodName
  pub does : BaseCall → List Value → Outcome

abbrev pub row : Name → Name → Name → (BaseCall → List Value → Outcome) → BaseRow
row class name desc does = record { name = record { class = class; name = name; desc = desc }; does = does }

-- of java/lang
abbrev pub object_rows : List BaseRow
object_rows = let of = row (codes "java/lang/Object") in
    of (codes "<init>") (codes "()V") (λ c _. constructs c)
    ∷ of (codes "getClass") (codes "()Ljava/lang/Class;") class_of_receiver
    ∷ of (codes "equals") (codes "(Ljava/lang/Object;)Z") equal_objects
    ∷ of (codes "hashCode") (codes "()I") hash_code
    ∷ of (codes "wait") (codes "()V") waits
    ∷ of (codes "notify") (codes "()V") notifies
    ∷ of (codes "notifyAll") (codes "()V") notifies_all
    ∷ []

abbrev pub string_rows : List BaseRow
string_rows = let of = row (codes "java/lang/String") in
    of (codes "length") (codes "()I") string_length
    ∷ of (codes "charAt") (codes "(I)C") char_at
    ∷ of (codes "equals") (codes "(Ljava/lang/Object;)Z") equal_strings
    ∷ []

abbrev pub builder_rows : List BaseRow
builder_rows = let of = row (codes "java/lang/StringBuilder") in
    of (codes "<init>") (codes "()V") (λ c _. constructs c)
    ∷ of (codes "append") (codes "(I)Ljava/lang/StringBuilder;") (appends int_text)
    ∷ of (codes "append") (codes "(J)Ljava/lang/StringBuilder;") (appends long_text)
    ∷ of (codes "append") (codes "(C)Ljava/lang/StringBuilder;") (appends char_text)
    ∷ of (codes "append") (codes "(Z)Ljava/lang/StringBuilder;") (appends boolean_text)
    ∷ of (codes "append") (codes "(Ljava/lang/String;)Ljava/lang/StringBuilder;") (appends string_text)
    ∷ of (codes "toString") (codes "()Ljava/lang/String;") makes_string
    ∷ []

abbrev pub thread_rows : List BaseRow
thread_rows = let of = row (codes "java/lang/Thread") in
    of (codes "<init>") (codes "()V") (λ c _. constructs c)
    ∷ of (codes "<init>") (codes "(Ljava/lang/Runnable;)V") constructs_with
    ∷ of (codes "start") (codes "()V") starts
    ∷ of (codes "run") (codes "()V") runs
    ∷ of (codes "join") (codes "()V") joins
    ∷ of (codes "currentThread") (codes "()Ljava/lang/Thread;") (λ c _. gives_current c)
    ∷ []

-- `println` puts a line feed behind what `print` writes
abbrev pub printing_rows : Name → List ℕ → List BaseRow
printing_rows name end = let of = row (codes "java/io/PrintStream") name in
    of (codes "(I)V") (prints int_text end)
    ∷ of (codes "(J)V") (prints long_text end)
    ∷ of (codes "(C)V") (prints char_text end)
    ∷ of (codes "(Z)V") (prints boolean_text end)
    ∷ of (codes "(Ljava/lang/String;)V") (prints string_text end)
    ∷ []

abbrev pub stream_rows : List BaseRow
stream_rows =
    printing_rows (codes "print") [] ++ printing_rows (codes "println") (10 ∷ [])
    ++ row (codes "java/io/PrintStream") (codes "println") (codes "()V") (λ c _. prints_line c) ∷ []

-- of Throwable, and of an error
abbrev pub constructor_rows : Name → List BaseRow
constructor_rows class =
    row class (codes "<init>") (codes "()V") (λ c _. constructs c) ∷ row class (codes "<init>") (codes "(Ljava/lang/String;)V") constructs_with ∷ []

abbrev pub throwable_rows : List BaseRow
throwable_rows =
    row (codes "java/lang/Throwable") (codes "getMessage") (codes "()Ljava/lang/String;") gives_message
    ∷ flat_map constructor_rows (codes "java/lang/Throwable" ∷ map (λ error. error.0) errors)

abbrev pub base_rows : List BaseRow
base_rows = object_rows ++ string_rows ++ builder_rows ++ thread_rows ++ stream_rows ++ throwable_rows

abbrev pub is_row_of : MethodName → BaseRow → Bool
is_row_of m r = bytes_eq m.class r.name.class && bytes_eq m.name r.name.name && bytes_eq m.desc r.name.desc

-- ---- what the arguments must be

-- null, and each object of the class; an interface takes every object
abbrev pub accepts_object : Site → ClassNo → Option ObjNo → Bool
accepts_object site n None = true
accepts_object site n (Some o) = if is_interface site.classes n then true else is_of site o n

-- an argument for a parameter of a base method, where each that is a reference is of a class
abbrev pub accepts_value : Site → ElementType → Value → Bool
accepts_value site (element_type.Class name) (value.Ref r) =
    option_map_or (λ n. accepts_object site n r) (number_of site.classes name) false
accepts_value site e v = true

abbrev pub accepts_values : Site → List FieldType → List Value → Bool
accepts_values site (t ∷ types) (v ∷ values) = accepts_value site t.element v && accepts_values site types values
accepts_values site types values = true

-- The receiver of a method that isn't static counts as a first parameter, of the method's class.
abbrev pub argument_types : Bool → MethodName → List FieldType
argument_types true m = parameters_of m.desc
argument_types false m = record { dimensions = 0; element = element_type.Class m.class } ∷ parameters_of m.desc

abbrev pub accepts_all : Site → MethodNo → MethodName → List Value → Bool
accepts_all site m name values = accepts_values site (argument_types (method_has site.classes flags.Static m) name) values

-- ---- the whole

abbrev pub base_row : MethodName → Option BaseRow
base_row m = find (is_row_of m) base_rows

-- What a base method does with arguments of the right kinds, of which the receiver isn't null. Where one of them isn't of its class,
-- nothing is performed.
abbrev pub base_outcome : Site → List Act → MethodNo → List Value → Outcome
base_outcome site before m values = or_misfit (name_of_method site.classes m) (λ name. or_misfit (base_row name) (λ r.
    if accepts_all site m name values then r.does (record { site = site; before = before; arguments = values }) values else incompatible before))
