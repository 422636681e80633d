-- What the rules know of a method (JVM specification 4.10.1.1), and what entries of the constant pool stand for.
use Rattle.std.specs.Prelude.{ℕ, Bool, List, find, ◌==◌, Option, Some, None, option_map, map}
use Rattle.std.specs.Option.{option_and_then}
use Rattle.ti_ids.specs.Maybe.{◌>>=◌}
use Rattle.jv_names.specs.Names.{Name}
use Rattle.jv_names.specs.declared.descriptor.FieldType.{FieldType}
use Rattle.jv_names.specs.declared.descriptor.MethodType.{MethodType}
use Rattle.jv_names.specs.Descriptors.{AnyMethod}
use Rattle.jv_names.specs.DescriptorReading.{kept_type, kept_types}
use Rattle.jv_names.specs.DescriptorFlaws.{read_field, read_method}
use Rattle.class_code.specs.declared.instr.Instr.{Instr}
use Rattle.class_code.specs.declared.instr.Instr.TheVariants as instr
use Rattle.class_code.specs.declared.instr.PoolOp.TheVariants as pool_op
use Rattle.class_tree.specs.declared.pool.Const.{Const}
use Rattle.class_tree.specs.declared.pool.Const.TheVariants as const
use Rattle.class_tree.specs.Tree.{entry_at, class_at, name_type_at}
use Rattle.type_frames.specs.Hierarchies.{Known}
use Rattle.type_frames.specs.declared.vtype.VType.{VType}
use Rattle.type_frames.specs.Types.{field_vtype}

-- the classes, the class's constant pool, its name and its superclass's, whether the method is an `<init>`, the type of its
-- result, its greatest stack in words, and its instructions
pub record Environment : Type 0 where
  pub hierarchy : Known
  pub pool : List Const
  pub class : Name
  pub parent : Option Name
  pub is_init : Bool
  pub result : Option VType
  pub max_stack : ℕ
  pub instrs : List (ℕ × Instr)

-- ---- descriptors: section 4.3

abbrev pub field_type : Name → Option FieldType
field_type text = option_and_then kept_type (read_field text)

-- a method's parameters and its result, where there is one
abbrev pub parameter_types : AnyMethod → Option (List FieldType)
parameter_types m = kept_types m.parameters

abbrev pub result_type : AnyMethod → Option (Option FieldType)
result_type m = elim m.result [ None ↦ Some None | Some t ↦ option_map (λ r. Some r) (kept_type t) ]

abbrev pub method_type : Name → Option MethodType
method_type text =
    read_method text >>= λ m. parameter_types m >>= λ parameters. result_type m >>= λ result. Some (record { parameters = parameters; result = result })

-- the types of a method's parameters and of its result
pub record MethodVType : Type 0 where
  pub parameters : List VType
  pub result : Option VType

abbrev pub method_vtypes : MethodType → MethodVType
method_vtypes m = record { parameters = map field_vtype m.parameters; result = option_map field_vtype m.result }

abbrev pub method_vtype : Name → Option MethodVType
method_vtype text = option_map method_vtypes (method_type text)

-- ---- fields and methods that the pool names: section 4.4.2

-- a class, a name and a descriptor
pub record Reference : Type 0 where
  pub class : Name
  pub name : Name
  pub desc : Name

abbrev pub reference_of : List Const → ℕ → ℕ → Option Reference
reference_of pool class pair = class_at pool class >>= λ c. name_type_at pool pair >>= λ p. Some (record { class = c; name = p.0; desc = p.1 })

abbrev pub field_of : List Const → Const → Option Reference
field_of pool (const.Field class pair) = reference_of pool class pair
field_of pool c = None

abbrev pub field_at : List Const → ℕ → Option Reference
field_at pool index = entry_at pool index >>= field_of pool

-- a class's method or an interface's
abbrev pub method_of : List Const → Const → Option Reference
method_of pool (const.Method class pair) = reference_of pool class pair
method_of pool (const.InterfaceMethod class pair) = reference_of pool class pair
method_of pool c = None

abbrev pub method_at : List Const → ℕ → Option Reference
method_at pool index = entry_at pool index >>= method_of pool

-- ---- the object that a `new` made

-- the class that the `new` at an offset names
abbrev pub made_class : List Const → Instr → Option Name
made_class pool (instr.Pool pool_op.New index) = class_at pool index
made_class pool i = None

abbrev pub made_at : Environment → ℕ → Option Name
made_at env at = find (λ p. p.0 == at) env.instrs >>= λ p. made_class env.pool p.1
