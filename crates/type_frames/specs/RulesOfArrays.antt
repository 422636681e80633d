-- The rules of the instructions on arrays (JVM specification 4.10.1.9). Null is an array of every sort.
use Rattle.std.specs.Prelude.{ℕ, Bool, true, false, ◌&&◌, ◌||◌, [], ◌∷◌, replicate, nat_lt, nat_le, Option, Some, None, codes, bytes_eq, if◌then◌else◌}
use Rattle.ti_ids.specs.Maybe.{◌>>=◌}
use Rattle.jv_names.specs.Names.{Name}
use Rattle.class_code.specs.declared.instr.Element.{Element}
use Rattle.class_code.specs.declared.instr.Element.TheVariants as element
use Rattle.class_code.specs.declared.instr.Primitive.{Primitive}
use Rattle.class_code.specs.declared.instr.Primitive.TheVariants as primitive
use Rattle.class_tree.specs.Tree.{class_at}
use Rattle.type_frames.specs.declared.vtype.VType.{VType}
use Rattle.type_frames.specs.declared.vtype.VType.TheVariants as vtype
use Rattle.type_frames.specs.Types.{is_array, array_of, component_class, dimensions}
use Rattle.type_frames.specs.Hierarchies.{Known}
use Rattle.type_frames.specs.Assignable.{object_name, is_assignable}
use Rattle.type_frames.specs.States.{State, top_if, taken, all_taken, put}
use Rattle.type_frames.specs.Environments.{Environment}
use Rattle.type_frames.specs.RulesOfNumbers.{moved}

abbrev pub objects : VType
objects = vtype.Object (array_of object_name)

-- an array of bytes or of booleans
abbrev pub is_small : VType → Bool
is_small vtype.Null = true
is_small (vtype.Object name) = bytes_eq name (codes "[B") || bytes_eq name (codes "[Z")
is_small t = false

-- an array of such elements
abbrev pub holds : Known → Element → VType → Bool
holds h element.Int t = is_assignable h t (vtype.Object (codes "[I"))
holds h element.Long t = is_assignable h t (vtype.Object (codes "[J"))
holds h element.Reference t = is_assignable h t objects
holds h element.Byte t = is_small t
holds h element.Char t = is_assignable h t (vtype.Object (codes "[C"))
holds h element.Short t = is_assignable h t (vtype.Object (codes "[S"))

-- the component of an array of references, which of null is null
abbrev pub component : VType → Option VType
component vtype.Null = Some vtype.Null
component (vtype.Object name) = component_class name >>= λ c. Some (vtype.Object c)
component t = None

-- what is loaded of an array
abbrev pub loaded : Element → VType → Option VType
loaded element.Long array = Some vtype.Long
loaded element.Reference array = component array
loaded e array = Some vtype.Integer

-- `iaload` to `saload`
abbrev pub array_load_rule : Environment → Element → State → Option State
array_load_rule env e s =
    taken env.hierarchy vtype.Integer s >>= λ a. top_if (holds env.hierarchy e) a >>= λ array. loaded e array.0 >>= λ t. put env.max_stack t array.1

-- what is stored in an array: in one of references, any reference to an initialized object
abbrev pub stored_type : Element → VType
stored_type element.Long = vtype.Long
stored_type element.Reference = vtype.Object object_name
stored_type e = vtype.Integer

-- `iastore` to `sastore`
abbrev pub array_store_rule : Environment → Element → State → Option State
array_store_rule env e s =
    all_taken env.hierarchy (stored_type e ∷ vtype.Integer ∷ []) s >>= λ a. top_if (holds env.hierarchy e) a >>= λ array. Some array.1

abbrev pub is_any_array : VType → Bool
is_any_array vtype.Null = true
is_any_array (vtype.Object name) = is_array name
is_any_array t = false

-- `arraylength`
abbrev pub array_length_rule : Environment → State → Option State
array_length_rule env s = top_if is_any_array s >>= λ array. put env.max_stack vtype.Integer array.1

abbrev pub primitive_array : Primitive → Name
primitive_array primitive.Boolean = codes "[Z"
primitive_array primitive.Char = codes "[C"
primitive_array primitive.Byte = codes "[B"
primitive_array primitive.Short = codes "[S"
primitive_array primitive.Int = codes "[I"
primitive_array primitive.Long = codes "[J"

-- `newarray`
abbrev pub new_array_rule : Environment → Primitive → State → Option State
new_array_rule env p s = moved env (vtype.Integer ∷ []) (vtype.Object (primitive_array p) ∷ []) s

-- `anewarray`
abbrev pub new_reference_array_rule : Environment → ℕ → State → Option State
new_reference_array_rule env index s = class_at env.pool index >>= λ c. moved env (vtype.Integer ∷ []) (vtype.Object (array_of c) ∷ []) s

-- `multianewarray`, of so many lengths, from one to as many as the class has dimensions
abbrev pub multi_array_rule : Environment → ℕ → ℕ → State → Option State
multi_array_rule env index lengths s =
    class_at env.pool index >>= λ c. if nat_lt 0 lengths && nat_le lengths (dimensions c) then moved env (replicate lengths vtype.Integer) (vtype.Object c ∷ []) s else None
