-- Descriptors: JVM specification 4.3.2 and 4.3.3, of every type that they spell, with float and double. The limits of 255,
-- on dimensions (4.3.2) and on the length of parameters (4.3.3), are rules apart from these texts.
use Rattle.std.specs.Prelude.{◌≡◌, List, [], ◌∷◌, ◌++◌, replicate, map, flat_map, ℕ, Bool, true, false, ◌||◌, IsTrue, Option, Some, None, option_map, Result, Ok, Err}
use Rattle.std.specs.List.{list_any, AllByRecursion}
use Rattle.jv_names.specs.declared.descriptor.ElementType.{ElementType}
use Rattle.jv_names.specs.declared.descriptor.ElementType.TheVariants.{Boolean, Byte, Char, Short, Int, Long, Class}
use Rattle.jv_names.specs.declared.descriptor.FieldType.{FieldType}
use Rattle.jv_names.specs.declared.descriptor.MethodType.{MethodType}
use Rattle.jv_names.specs.declared.descriptor.Desc.{Desc}
use Rattle.jv_names.specs.declared.descriptor.Desc.TheVariants.{Field, Method}
use Rattle.jv_names.specs.declared.descriptor.DescFault.{DescFault}
use Rattle.jv_names.specs.declared.descriptor.DescFault.TheVariants.{Bad, Floating, Memory}
use Rattle.jv_names.specs.Names.{Name, is_class_name}

-- ---- the types that descriptors spell

-- what a type is without its dimensions: one of the profile, or one of floating point
pub data AnyElement : Type 0 where
  Kept : ElementType → AnyElement
  Float : AnyElement
  Double : AnyElement

-- an element under so many dimensions
pub record AnyType : Type 0 where
  pub dimensions : ℕ
  pub element : AnyElement

-- a method's parameters and its result, which is `None` for void
pub record AnyMethod : Type 0 where
  pub parameters : List AnyType
  pub result : Option AnyType

-- ---- their texts

-- table 4.3-A: `Z B C S I J`, and `L` name `;`
abbrev pub kept_text : ElementType → Name
kept_text Boolean = 90 ∷ []
kept_text Byte = 66 ∷ []
kept_text Char = 67 ∷ []
kept_text Short = 83 ∷ []
kept_text Int = 73 ∷ []
kept_text Long = 74 ∷ []
kept_text (Class name) = 76 ∷ name ++ 59 ∷ []

-- the same table's `F` and `D`
abbrev pub element_text : AnyElement → Name
element_text (Kept element) = kept_text element
element_text Float = 70 ∷ []
element_text Double = 68 ∷ []

-- section 4.3.2: a `[` for each dimension
abbrev pub type_text : AnyType → Name
type_text t = replicate t.dimensions 91 ++ element_text t.element

-- section 4.3.3: `V` for void
abbrev pub result_text : Option AnyType → Name
result_text None = 86 ∷ []
result_text (Some t) = type_text t

-- section 4.3.3: `(` parameters `)` result
abbrev pub method_text : AnyMethod → Name
method_text m = 40 ∷ flat_map type_text m.parameters ++ 41 ∷ result_text m.result

-- ---- class names and floating point in them

-- section 4.2.1: a class is named by a class name
abbrev pub IsNamed : AnyElement → Type 0
IsNamed (Kept (Class name)) = IsTrue (is_class_name name)
IsNamed element = Unit {0}

abbrev pub IsNamedType : AnyType → Type 0
IsNamedType t = IsNamed t.element

abbrev pub IsNamedResult : Option AnyType → Type 0
IsNamedResult None = Unit {0}
IsNamedResult (Some t) = IsNamedType t

abbrev pub is_floating : AnyElement → Bool
is_floating (Kept element) = false
is_floating Float = true
is_floating Double = true

abbrev pub is_floating_type : AnyType → Bool
is_floating_type t = is_floating t.element

abbrev pub is_floating_result : Option AnyType → Bool
is_floating_result None = false
is_floating_result (Some t) = is_floating_type t

-- in a parameter or in the result
abbrev pub is_floating_method : AnyMethod → Bool
is_floating_method m = list_any is_floating_type m.parameters || is_floating_result m.result

-- ---- what a text is the descriptor of

pub record IsFieldText (text : Name) (t : AnyType) : Type 0 where
  pub named : IsNamedType t
  pub spelled : text ≡ type_text t

pub record IsMethodText (text : Name) (m : AnyMethod) : Type 0 where
  pub parameters_named : AllByRecursion IsNamedType m.parameters
  pub result_named : IsNamedResult m.result
  pub spelled : text ≡ method_text m

-- a type of the profile among all types
abbrev pub any_type : FieldType → AnyType
any_type t = record { dimensions = t.dimensions; element = Kept t.element }

abbrev pub any_method : MethodType → AnyMethod
any_method m = record { parameters = map any_type m.parameters; result = option_map any_type m.result }

abbrev pub IsFieldDesc : Name → Desc → Type 0
IsFieldDesc text (Field t) = IsFieldText text (any_type t)
IsFieldDesc text (Method m) = ⊥

abbrev pub IsMethodDesc : Name → Desc → Type 0
IsMethodDesc text (Field t) = ⊥
IsMethodDesc text (Method m) = IsMethodText text (any_method m)

-- ---- why a text is no descriptor of the profile

-- it is that of no type, or of one that has a float or a double
abbrev pub FieldFault : Name → DescFault → Type 0
FieldFault text Bad = (t : AnyType) → ¬ IsFieldText text t
FieldFault text Floating = (t : AnyType) × IsFieldText text t × IsTrue (is_floating_type t)
FieldFault text Memory = ⊥

abbrev pub MethodFault : Name → DescFault → Type 0
MethodFault text Bad = (m : AnyMethod) → ¬ IsMethodText text m
MethodFault text Floating = (m : AnyMethod) × IsMethodText text m × IsTrue (is_floating_method m)
MethodFault text Memory = ⊥

-- ---- what a call answers, want of memory apart

-- this value
abbrev pub GivesDesc : Result Desc DescFault → Desc → Type 0
GivesDesc (Ok answer) d = answer ≡ d
GivesDesc (Err Memory) d = Unit {0}
GivesDesc (Err fault) d = ⊥

-- this fault
abbrev pub RefusesFor : Result Desc DescFault → DescFault → Type 0
RefusesFor (Ok answer) f = ⊥
RefusesFor (Err Memory) f = Unit {0}
RefusesFor (Err fault) f = fault ≡ f

-- a fact of the fault, unless it is want of memory
abbrev pub IfFault : DescFault → (DescFault → Type 0) → Type 0
IfFault Memory P = Unit {0}
IfFault fault P = P fault
