-- What defining a class, installing a version and making an array class do, and what they ask.
use Rattle.std.specs.Prelude.{◌≡◌, ℕ, ◌<◌, ◌≤◌, ◌^◌, if◌then◌else◌, List, [], ◌∷◌, ◌++◌, length, map, All, Option, Some, None, IsSome, IfSome, is_none, IsTrue, unwrap_or, IsPermutation}
use Rattle.std.specs.List.{filter_map, AllByRecursion}
use Rattle.std.specs.Option.{option_and_then}
use Rattle.ti_ids.specs.declared.number.ClassNo.{ClassNo}
use Rattle.jv_names.specs.declared.descriptor.ElementType.{ElementType}
use Rattle.jv_names.specs.declared.descriptor.ElementType.TheVariants as element_type
use Rattle.jv_names.specs.declared.descriptor.FieldType.{FieldType}
use Rattle.jv_names.specs.Names.{Name}
use Rattle.jv_names.specs.Descriptors.{IsFieldText, any_type}
use Rattle.class_tree.specs.declared.access.Flags.{Flags}
use Rattle.class_tree.specs.declared.pool.Const.{Const}
use Rattle.class_tree.specs.declared.members.Member.{Member}
use Rattle.class_tree.specs.Trees.{Tree}
use Rattle.class_tree.specs.Tree.{text_at, class_at as name_at}
use Rattle.class_tree.specs.WellFormed.{is_well_formed}
use Rattle.link_versions.specs.declared.class.Element.{Element}
use Rattle.link_versions.specs.declared.class.Element.TheVariants as element
use Rattle.ti_ids.specs.declared.state.InitState.{InitState}
use Rattle.ti_ids.specs.declared.state.InitState.TheVariants as states
use Rattle.link_versions.specs.Classes.{Class, Kind, OfFile, OfArray, with_numbered, number_of, first_version, version_at, newest_version}
use Rattle.link_versions.specs.Subtypes.{object_name, array_interface_names}

-- ---- numbers

-- a class has this number
abbrev pub IsThere : List Class → ClassNo → Type 0
IsThere classes n = (0 < n.0) × (n.0 ≤ length classes)

-- the classes with a change of the one of this number
abbrev pub with_class : (Class → Class) → ClassNo → List Class → List Class
with_class change n classes = with_numbered change classes n.0

-- how far a class is
abbrev pub with_state : InitState → Class → Class
with_state state c = record c { state = state }

-- ---- a class of a file

-- the superclass and the interfaces that a file names, where `find` has the number of each name
abbrev pub parent_by : (Name → Option ClassNo) → Tree → Option ClassNo
parent_by find t = option_and_then find (name_at t.pool t.super_class)

abbrev pub interfaces_by : (Name → Option ClassNo) → Tree → List ClassNo
interfaces_by find t = filter_map (λ index. option_and_then find (name_at t.pool index)) t.interfaces

-- No class has the file's name, and its superclass and its interfaces are there.
pub record CanDefine (classes : List Class) (t : Tree) : Type 0 where
  pub fresh : IfSome (name_at t.pool t.this_class) (λ name. number_of classes name ≡ None)
  pub parent : IfSome (name_at t.pool t.super_class) (λ name. IsSome (number_of classes name))
  pub interfaces : All (λ index. IfSome (name_at t.pool index) (λ name. IsSome (number_of classes name))) t.interfaces

-- the class of a file, with its first version
abbrev pub file_class : (Name → Option ClassNo) → Tree → Class
file_class find t = record {
  name = unwrap_or (name_at t.pool t.this_class) [];
  parent = parent_by find t;
  interfaces = interfaces_by find t;
  kind = OfFile (t ∷ []);
  state = states.Loaded;
}

-- ---- a version

-- a field or a method by its name, its descriptor and its flags
abbrev pub signature : List Const → Member → Option Name × Option Name × Flags
signature pool m = (text_at pool m.name, text_at pool m.desc, m.flags)

-- A version has the name, superclass, interfaces and flags of one before it, its fields in their order, and its methods in any
-- order.
pub record Keeps (first t : Tree) : Type 0 where
  pub name : name_at t.pool t.this_class ≡ name_at first.pool first.this_class
  pub parent : name_at t.pool t.super_class ≡ name_at first.pool first.super_class
  pub interfaces : map (name_at t.pool) t.interfaces ≡ map (name_at first.pool) first.interfaces
  pub flags : t.flags ≡ first.flags
  pub fields : map (signature t.pool) t.fields ≡ map (signature first.pool) first.fields
  pub methods : IsPermutation (map (signature first.pool) first.methods) (map (signature t.pool) t.methods)

-- a class is there, and is one of a file, which has a first version
abbrev pub IsOfFile : List Class → ClassNo → Type 0
IsOfFile classes n = IsSome (first_version classes n)

-- A version may be installed: the class is of a file, and the version keeps what its newest one has.
pub record CanInstall (classes : List Class) (n : ClassNo) (t : Tree) : Type 0 where
  pub newest : Tree
  pub is_newest : version_at classes (newest_version classes n) ≡ Some newest
  pub keeps : Keeps newest t

-- one version more, after the others
abbrev pub kind_with_version : Tree → Kind → Kind
kind_with_version t (OfFile versions) = OfFile (versions ++ t ∷ [])
kind_with_version t (OfArray dimensions e) = OfArray dimensions e

abbrev pub with_version : Tree → Class → Class
with_version t c = record c { kind = kind_with_version t c.kind }

-- ---- array classes

-- the element of a descriptor, where `find` has the number of each name
abbrev pub element_by : (Name → Option ClassNo) → ElementType → Element
element_by find element_type.Boolean = element.Boolean
element_by find element_type.Byte = element.Byte
element_by find element_type.Char = element.Char
element_by find element_type.Short = element.Short
element_by find element_type.Int = element.Int
element_by find element_type.Long = element.Long
element_by find (element_type.Class name) = element.Class (unwrap_or (find name) (record { 0 = 0 }))

-- the class that an element names is there
abbrev pub IsElementThere : List Class → ElementType → Type 0
IsElementThere classes (element_type.Class name) = IsSome (number_of classes name)
IsElementThere classes e = Unit {0}

-- A name is the descriptor of this array type (section 4.3.2).
pub record IsArrayName (name : Name) (t : FieldType) : Type 0 where
  pub text : IsFieldText name (any_type t)
  pub array : 0 < t.dimensions

-- A name is that of an array type whose element is there. A name has one type at most.
pub record CanMakeArray (classes : List Class) (name : Name) : Type 0 where
  pub type : FieldType
  pub named : IsArrayName name type
  pub there : IsElementThere classes type.element

-- the class of an array type; its superclass and its interfaces as far as they are there
abbrev pub array_class : (Name → Option ClassNo) → Name → FieldType → Class
array_class find name t = record {
  name = name;
  parent = find object_name;
  interfaces = filter_map find array_interface_names;
  kind = OfArray t.dimensions (element_by find t.element);
  state = states.Initialized;
}

-- the classes with that of an array type, which is made where no class has the name
abbrev pub with_array : List Class → Name → FieldType → List Class
with_array classes name t = if is_none (number_of classes name) then array_class (number_of classes) name t ∷ classes else classes

-- ---- what every list of classes keeps

-- A class of a file is what its first version says, over classes that were defined before it. Each version is well-formed and
-- keeps the first one; a version's place fits 32 bits.
pub record IsOfVersions (older : List Class) (c : Class) (first : Tree) (later : List Tree) : Type 0 where
  pub name : name_at first.pool first.this_class ≡ Some c.name
  pub defined : CanDefine older first
  pub parent : c.parent ≡ parent_by (number_of older) first
  pub interfaces : c.interfaces ≡ interfaces_by (number_of older) first
  pub keep : AllByRecursion (Keeps first) later
  pub well_formed : AllByRecursion (λ t. IsTrue (is_well_formed t)) (first ∷ later)
  pub few : length (first ∷ later) < 2 ^ 32

-- An array class is what its name says, over an element that was defined before it.
pub record IsOfArray (older : List Class) (c : Class) (dimensions : ℕ) (e : Element) : Type 0 where
  pub type : FieldType
  pub named : IsArrayName c.name type
  pub there : IsElementThere older type.element
  pub deep : dimensions ≡ type.dimensions
  pub over : e ≡ element_by (number_of older) type.element
  pub parent : c.parent ≡ number_of older object_name
  pub interfaces : c.interfaces ≡ filter_map (number_of older) array_interface_names

abbrev pub IsOfKind : List Class → Class → Kind → Type 0
IsOfKind older c (OfFile []) = ⊥
IsOfKind older c (OfFile (first ∷ later)) = IsOfVersions older c first later
IsOfKind older c (OfArray dimensions e) = IsOfArray older c dimensions e

-- A class has a name of its own, and what it refers to was defined before it.
pub record IsLawful (older : List Class) (c : Class) : Type 0 where
  pub fresh : number_of older c.name ≡ None
  pub parent : IfSome c.parent (IsThere older)
  pub interfaces : AllByRecursion (IsThere older) c.interfaces
  pub kind : IsOfKind older c c.kind

abbrev pub AreLawful : List Class → Type 0
AreLawful [] = Unit {0}
AreLawful (c ∷ older) = IsLawful older c × AreLawful older
