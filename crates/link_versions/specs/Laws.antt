-- Laws of the lists of classes: what an installed version and a defined class add, and what they leave as it was.
use Rattle.std.specs.Prelude.{◌≡◌, ◌≢◌, ◌+◌, List, ◌∷◌, length, All, Option, Some, None, option_map}
use Rattle.ti_ids.specs.declared.number.ClassNo.{ClassNo}
use Rattle.ti_ids.specs.declared.number.VersionNo.{VersionNo}
use Rattle.ti_ids.specs.declared.number.MethodNo.{MethodNo}
use Rattle.jv_names.specs.Names.{Name}
use Rattle.class_tree.specs.declared.members.Member.{Member}
use Rattle.class_tree.specs.Trees.{Tree}
use Rattle.class_tree.specs.Tree.{IsNamed}
use Rattle.ti_ids.specs.declared.state.InitState.{InitState}
use Rattle.link_versions.specs.Classes.{Class, class_at, number_of, version_at, newest_version, next_version}
use Rattle.link_versions.specs.Orders.{lookup_order, superclasses}
use Rattle.link_versions.specs.Members.{NameAndType, names_in, method_names, name_and_type_at, method_in, method_at, declared_method}
use Rattle.link_versions.specs.Changes.{IsThere, IsOfFile, with_class, with_version, file_class}

-- the classes after an install
abbrev pub installed : List Class → ClassNo → Tree → List Class
installed classes n t = with_class (with_version t) n classes

-- ---- what is added

-- An installed version is there.
abbrev pub IsInstalled : Type 0
IsInstalled = (classes : List Class) (n : ClassNo) (t : Tree)
    → IsOfFile classes n → version_at (installed classes n t) (next_version classes n) ≡ Some t

-- It is the newest one of its class.
abbrev pub IsNewest : Type 0
IsNewest = (classes : List Class) (n : ClassNo) (t : Tree) → IsOfFile classes n → newest_version (installed classes n t) n ≡ next_version classes n

-- ---- what an install leaves as it was

-- All other versions of all classes.
abbrev pub KeepsVersions : Type 0
KeepsVersions = (classes : List Class) (n : ClassNo) (t : Tree) (v : VersionNo)
    → v ≢ next_version classes n → version_at (installed classes n t) v ≡ version_at classes v

-- Which class has a name.
abbrev pub KeepsNumbers : Type 0
KeepsNumbers = (classes : List Class) (n : ClassNo) (t : Tree) (name : Name) → number_of (installed classes n t) name ≡ number_of classes name

-- The lookup order of each class.
abbrev pub KeepsOrders : Type 0
KeepsOrders = (classes : List Class) (n : ClassNo) (t : Tree) (m : ClassNo) → lookup_order (installed classes n t) m ≡ lookup_order classes m

-- The superclasses of each class.
abbrev pub KeepsSuperclasses : Type 0
KeepsSuperclasses = (classes : List Class) (n : ClassNo) (t : Tree) (m : ClassNo)
    → superclasses (installed classes n t) m ≡ superclasses classes m

-- how far a class is
abbrev pub state_at : List Class → ClassNo → Option InitState
state_at classes m = option_map (λ c. c.state) (class_at classes m)

-- How far each class is.
abbrev pub KeepsStates : Type 0
KeepsStates = (classes : List Class) (n : ClassNo) (t : Tree) (m : ClassNo) → state_at (installed classes n t) m ≡ state_at classes m

-- ---- numbers of methods

-- The name and the descriptor that a method's number stands for, whether the new version has the method or not.
abbrev pub KeepsMethodNumbers : Type 0
KeepsMethodNumbers = (classes : List Class) (n : ClassNo) (t : Tree) (m : MethodNo) (x : NameAndType)
    → name_and_type_at classes m ≡ Some x → name_and_type_at (installed classes n t) m ≡ Some x

-- A class declares a method of the name and the descriptor that are asked for, and of its own.
abbrev pub IsDeclaredAs : Type 0
IsDeclaredAs = (classes : List Class) (name desc : Name) (n : ClassNo) (m : MethodNo)
    → declared_method classes name desc n ≡ Some m → (m.class ≡ n) × (name_and_type_at classes m ≡ Some (Some name, Some desc))

-- After an install it declares none that the new version lacks.
abbrev pub LetsGo : Type 0
LetsGo = (classes : List Class) (n : ClassNo) (t : Tree) (name desc : Name)
    → IsOfFile classes n → All (λ m. ¬ IsNamed t.pool name desc m) t.methods → declared_method (installed classes n t) name desc n ≡ None

-- It declares each that the new version has, and what is asked of that by its number is asked of the new version.
abbrev pub LetsIn : Type 0
LetsIn = (classes : List Class) (n : ClassNo) (t : Tree) (name desc : Name) (member : Member)
    → IsOfFile classes n → method_in t (Some name) (Some desc) ≡ Some member
    → (m : MethodNo) × (declared_method (installed classes n t) name desc n ≡ Some m) × (method_at (installed classes n t) m ≡ Some member)

-- ---- a defined class

-- Each class that was there keeps its number.
abbrev pub KeepsClasses : Type 0
KeepsClasses = (c : Class) (classes : List Class) (m : ClassNo) → IsThere classes m → class_at (c ∷ classes) m ≡ class_at classes m

-- the number of the next class
abbrev pub next_class : List Class → ClassNo
next_class classes = record { 0 = length classes + 1 }

-- The new one has its tree as its first version.
abbrev pub IsDefined : Type 0
IsDefined = (find : Name → Option ClassNo) (t : Tree) (classes : List Class)
    → version_at (file_class find t ∷ classes) (record { class = next_class classes; place = 0 }) ≡ Some t

-- Its methods are numbered in the order of its file.
abbrev pub IsNumbered : Type 0
IsNumbered = (find : Name → Option ClassNo) (t : Tree) (classes : List Class)
    → method_names (file_class find t ∷ classes) (next_class classes) ≡ names_in t

-- By its name the new one has the next number, be it of a file or of an array, and every other name keeps the number that it had.
pub record NumbersNew : Type 0 where
  pub new : (c : Class) (classes : List Class) → number_of (c ∷ classes) c.name ≡ Some (next_class classes)
  pub others : (c : Class) (classes : List Class) (name : Name) → name ≢ c.name → number_of (c ∷ classes) name ≡ number_of classes name
