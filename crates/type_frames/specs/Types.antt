-- Verification types, and those of descriptors (JVM specification 4.10.1.2 and 4.3).
use Rattle.std.specs.Prelude.{ℕ, zero, suc, ◌==◌, Bool, true, false, List, [], ◌∷◌, ◌++◌, Option, Some, None, replicate, if◌then◌else◌}
use Rattle.std.specs.List.{flat_map}
use Rattle.jv_names.specs.Names.{Name}
use Rattle.jv_names.specs.declared.descriptor.ElementType.{ElementType}
use Rattle.jv_names.specs.declared.descriptor.ElementType.TheVariants as element
use Rattle.jv_names.specs.declared.descriptor.FieldType.{FieldType}
use Rattle.jv_names.specs.Descriptors.{kept_text}
use Rattle.type_frames.specs.declared.vtype.VType.{VType}
use Rattle.type_frames.specs.declared.vtype.VType.TheVariants as vtype

-- ---- the types of descriptors: sections 4.3.2 and 2.11.1

-- a type without dimensions: what is held in 32 bits counts as an int
abbrev pub element_type : ElementType → VType
element_type element.Boolean = vtype.Integer
element_type element.Byte = vtype.Integer
element_type element.Char = vtype.Integer
element_type element.Short = vtype.Integer
element_type element.Int = vtype.Integer
element_type element.Long = vtype.Long
element_type (element.Class name) = vtype.Object name

-- a field, a parameter or a result of this type; an array class is named by its descriptor
abbrev pub under_dimensions : ℕ → ElementType → VType
under_dimensions zero e = element_type e
under_dimensions (suc n) e = vtype.Object (replicate (suc n) 91 ++ kept_text e)

abbrev pub field_vtype : FieldType → VType
field_vtype t = under_dimensions t.dimensions t.element

-- ---- classes by their names: one that begins with `[` is the descriptor of an array class

abbrev pub is_array : Name → Bool
is_array [] = false
is_array (unit ∷ units) = unit == 91

-- the array class whose components are of this class
abbrev pub array_of : Name → Name
array_of name = if is_array name then 91 ∷ name else 91 ∷ 76 ∷ name ++ 59 ∷ []

-- what an array's elements are when all dimensions are taken off: numbers of a sort, told by the unit of its descriptor, or
-- objects of a class
pub data Base : Type 0 where
  Number : ℕ → Base
  Class : Name → Base

-- how many dimensions a class has, which are 0 where it is no array
abbrev pub dimensions : Name → ℕ
dimensions [] = zero
dimensions (unit ∷ units) = if unit == 91 then suc (dimensions units) else zero

-- without its last unit
abbrev pub front : Name → Name
front [] = []
front (unit ∷ []) = []
front (unit ∷ next ∷ units) = unit ∷ front (next ∷ units)

-- what a descriptor without dimensions names
abbrev pub base_of_text : Name → Base
base_of_text [] = Class []
base_of_text (unit ∷ units) = if unit == 76 then Class (front units) else Number unit

-- behind the dimensions
abbrev pub base_behind : Name → Base
base_behind [] = Class []
base_behind (unit ∷ units) = if unit == 91 then base_behind units else base_of_text (unit ∷ units)

abbrev pub base_of : Name → Base
base_of name = if is_array name then base_behind name else Class name

-- the class of an array's components, where they are no numbers
abbrev pub component_class : Name → Option Name
component_class [] = None
component_class (unit ∷ []) = None
component_class (unit ∷ next ∷ units) = if next == 91 then Some (next ∷ units) else if next == 76 then Some (front units) else None

-- ---- sorts of types

-- a value of one word that can be used: all but a long and `Top`
abbrev pub is_one_word : VType → Bool
is_one_word vtype.Top = false
is_one_word vtype.Long = false
is_one_word t = true

abbrev pub is_long : VType → Bool
is_long vtype.Long = true
is_long t = false

abbrev pub is_uninit_this : VType → Bool
is_uninit_this vtype.UninitThis = true
is_uninit_this t = false

-- whatever refers to an object, initialized or not, or is null
abbrev pub is_reference : VType → Bool
is_reference vtype.Null = true
is_reference vtype.UninitThis = true
is_reference (vtype.Object name) = true
is_reference (vtype.Uninit at) = true
is_reference t = false

-- ---- words: a long takes two, the second of which is `Top`

abbrev pub type_words : VType → List VType
type_words vtype.Long = vtype.Long ∷ vtype.Top ∷ []
type_words t = t ∷ []

abbrev pub expanded : List VType → List VType
expanded types = flat_map type_words types
