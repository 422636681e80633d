-- What a class file states of its class to the type check, and what is known of a list of class files: JVM specification 4.1, 4.6
-- and 4.10.1.
use Rattle.std.specs.Prelude.{ℕ, Bool, not, ◌&&◌, if◌then◌else◌, List, [], ◌∷◌, ◌++◌, map, filter, is_none, bytes_eq, unwrap_or}
use Rattle.jv_names.specs.Names.{Name}
use Rattle.class_tree.specs.declared.access.Flag.TheVariants as flags
use Rattle.class_tree.specs.declared.members.Member.{Member}
use Rattle.class_tree.specs.Flags.{has_flag}
use Rattle.class_tree.specs.Trees.{Tree}
use Rattle.class_tree.specs.Tree.{text_at, class_at}
use Rattle.type_frames.specs.declared.hierarchy.Signature.{Signature}
use Rattle.type_frames.specs.declared.hierarchy.HierarchyClass.{HierarchyClass}
use Rattle.type_frames.specs.Hierarchies.{Known, class_named}
use Rattle.type_frames.specs.TypeChecks.{class_name, name_in}

-- ---- a class: each index of a class file names what it must

-- the names of the classes at these indices of the pool
abbrev pub names_at : Tree → List ℕ → List Name
names_at t indices = map (λ index. unwrap_or (class_at t.pool index) []) indices

-- a method that no subclass may override: section 4.10.1.5
abbrev pub is_final_method : Member → Bool
is_final_method m = has_flag m.flags.bits flags.Final && not (has_flag m.flags.bits flags.Private) && not (has_flag m.flags.bits flags.Static)

-- the name and the descriptor of a method: section 4.6
abbrev pub signature : Tree → Member → Signature
signature t m = record { name = name_in t m; desc = unwrap_or (text_at t.pool m.desc) [] }

-- those of the final ones among these methods, in their order
abbrev pub final_signatures : Tree → List Member → List Signature
final_signatures t methods = map (signature t) (filter is_final_method methods)

abbrev pub stated_class : Tree → HierarchyClass
stated_class t = record {
  name = class_name t;
  superclass = class_at t.pool t.super_class;
  interfaces = names_at t t.interfaces;
  is_interface = has_flag t.flags.bits flags.Interface;
  is_final = has_flag t.flags.bits flags.Final;
  final_methods = final_signatures t t.methods;
}

-- ---- classes

-- a class besides, unless one of its name is known
abbrev pub with_class : Known → HierarchyClass → Known
with_class known class = if is_none (class_named known class.name) then known ++ class ∷ [] else known

-- without the class of a name
abbrev pub without_class : Name → Known → Known
without_class name known = filter (λ c. not (bytes_eq c.name name)) known

-- of several class files of one name the first counts
abbrev pub stated : List Tree → Known
stated [] = []
stated (t ∷ trees) = stated_class t ∷ without_class (class_name t) (stated trees)
