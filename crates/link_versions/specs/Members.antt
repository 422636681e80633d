-- The fields and the methods of a class (JVM specification 4.5 and 4.6), by their names and descriptors.
use Rattle.std.specs.Prelude.{Bool, false, not, ◌&&◌, if◌then◌else◌, List, [], ◌++◌, map, filter, fold, reverse, Option, Some, None, option_map, slice_get, position, bytes_eq}
use Rattle.std.specs.List.{list_any}
use Rattle.std.specs.Option.{option_and_then, option_map_or, option_eq}
use Rattle.ti_ids.specs.declared.number.ClassNo.{ClassNo}
use Rattle.ti_ids.specs.declared.number.MethodNo.{MethodNo}
use Rattle.ti_ids.specs.declared.number.FieldNo.{FieldNo}
use Rattle.jv_names.specs.Names.{Name}
use Rattle.class_tree.specs.declared.access.Flag.{Flag}
use Rattle.class_tree.specs.declared.access.Flag.TheVariants as flags
use Rattle.class_tree.specs.declared.members.Member.{Member}
use Rattle.class_tree.specs.Flags.{has_flag}
use Rattle.class_tree.specs.Trees.{Tree}
use Rattle.class_tree.specs.Tree.{is_named, is_text, text_at, first_of}
use Rattle.link_versions.specs.Classes.{Class, versions_in, first_version, newest_version, version_at}

-- the field of this name and descriptor that a class declares
unfoldable pub declared_field : List Class → Name → Name → ClassNo → Option FieldNo
declared_field classes name desc n =
    option_and_then (λ t. option_map (λ place. record { class = n; place = place }) (position (is_named t.pool name desc) t.fields))
    (first_version classes n)

-- ---- numbers of methods

-- a name and a descriptor (section 4.4.6); an index at which no text stands gives none
abbrev pub NameAndType : Type 0
NameAndType = Option Name × Option Name

abbrev pub same_name_and_type : NameAndType → NameAndType → Bool
same_name_and_type a b = option_eq bytes_eq a.0 b.0 && option_eq bytes_eq a.1 b.1

abbrev pub is_name_and_type : Name → Name → NameAndType → Bool
is_name_and_type name desc x = is_text x.0 name && is_text x.1 desc

-- those of a version's methods, in the order of its file
abbrev pub names_in : Tree → List NameAndType
names_in t = map (λ m. (text_at t.pool m.name, text_at t.pool m.desc)) t.methods

-- those that there were before a version, and behind them the new ones of its methods
abbrev pub names_after : List NameAndType → Tree → List NameAndType
names_after before t = before ++ filter (λ x. not (list_any (same_name_and_type x) before)) (names_in t)

-- All names and descriptors of methods that a class ever had: those of the first version in the order of its file, then of each
-- later version those that are new, in the order of its file. A method's number is its place among them, and stays what it is.
abbrev pub method_names : List Class → ClassNo → List NameAndType
method_names classes n = fold names_after [] (versions_in classes n)

-- those of a method
abbrev pub name_and_type_at : List Class → MethodNo → Option NameAndType
name_and_type_at classes m = slice_get (method_names classes m.class) m.place

-- its name and its descriptor
unfoldable pub method_name : List Class → MethodNo → Option Name
method_name classes m = option_and_then (λ x. x.0) (name_and_type_at classes m)

unfoldable pub method_desc : List Class → MethodNo → Option Name
method_desc classes m = option_and_then (λ x. x.1) (name_and_type_at classes m)

-- ---- what the versions say of methods

-- the method of a name and a descriptor in a version, where both are there
abbrev pub method_in : Tree → Option Name → Option Name → Option Member
method_in t (Some name) (Some desc) = option_and_then (λ place. slice_get t.methods place) (position (is_named t.pool name desc) t.methods)
method_in t name desc = None

-- a method in the newest version that has it
unfoldable pub method_at : List Class → MethodNo → Option Member
method_at classes m = option_and_then (λ x. first_of (λ t. method_in t x.0 x.1) (reverse (versions_in classes m.class))) (name_and_type_at classes m)

-- the newest version of a class has a method of this name and descriptor
abbrev pub has_method : List Class → Name → Name → ClassNo → Bool
has_method classes name desc n =
    option_map_or (λ t. list_any (is_named t.pool name desc) t.methods) (version_at classes (newest_version classes n)) false

-- The method of this name and descriptor that a class declares. New invocations are of the newest version (JVM TI,
-- RedefineClasses), so a method that this one lacks is declared no more. It keeps its number, and has it again if it comes back.
unfoldable pub declared_method : List Class → Name → Name → ClassNo → Option MethodNo
declared_method classes name desc n =
    if has_method classes name desc n then
    option_map (λ place. record { class = n; place = place }) (position (is_name_and_type name desc) (method_names classes n))
    else None

-- a method has a flag (table 4.6-A)
unfoldable pub method_has : List Class → Flag → MethodNo → Bool
method_has classes flag m = option_map_or (λ member. has_flag member.flags.bits flag) (method_at classes m) false

-- neither private nor static, so that it may be selected in the place of another
abbrev pub is_virtual : List Class → MethodNo → Bool
is_virtual classes m = not (method_has classes flags.Private m) && not (method_has classes flags.Static m)

-- what a class declares of this name and descriptor, where that is neither private nor static
unfoldable pub declared_virtual : List Class → Name → Name → ClassNo → Option MethodNo
declared_virtual classes name desc n = option_and_then (λ m. if is_virtual classes m then Some m else None) (declared_method classes name desc n)
