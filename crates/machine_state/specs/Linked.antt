-- The classes of the machine as linking sees them (JVM specification 5.3 to 5.5 and 6.5): those that the core names, with the versions
-- that the trace has of them. So resolution, selection and the test of `checkcast` are those of `link_versions`.
use Rattle.std.specs.Prelude.{ℕ, ◌==◌, List, [], ◌∷◌, find, Option, Some, None, option_map, if◌then◌else◌, Ok, Err}
use Rattle.std.specs.List.{filter_map}
use Rattle.std.specs.Option.{option_and_then}
use Rattle.ti_ids.specs.declared.number.ClassNo.{ClassNo}
use Rattle.jv_names.specs.Names.{Name}
use Rattle.jv_names.specs.declared.descriptor.FieldType.{FieldType}
use Rattle.jv_names.specs.DescriptorReading.{kept_type}
use Rattle.jv_names.specs.DescriptorFlaws.{read_field}
use Rattle.class_tree.specs.Trees.{Tree}
use Rattle.classfile_read.specs.ClassReading.{class_of}
use Rattle.base_set.specs.BaseSet.{base_set, has_name}
use Rattle.base_set.specs.BaseTrees.{base_tree}
use Rattle.link_versions.specs.Classes.{Class, OfFile, number_of}
use Rattle.link_versions.specs.Changes.{file_class, array_class}
use Rattle.machine_state.specs.Jobs.{Job}
use Rattle.machine_state.specs.Core.{CoreClass}
use Rattle.machine_state.specs.Trace.{Trace}
use Rattle.machine_state.specs.Versions.{Turns, versions}

-- ---- trees

-- the tree of bytes that are an accepted class file
abbrev pub tree_of : List ℕ → Option Tree
tree_of bytes = elim (class_of bytes) [ Ok t ↦ Some t | Err fault ↦ None ]

-- the tree of a base class
abbrev pub base_tree_of : Name → Option Tree
base_tree_of name = option_map base_tree (find (has_name name) base_set)

-- the array type of which a name is the descriptor (section 4.3.2)
abbrev pub if_array : FieldType → Option FieldType
if_array t = if t.dimensions == 0 then None else Some t

abbrev pub array_type : Name → Option FieldType
array_type name = option_and_then if_array (option_and_then kept_type (read_field name))

-- ---- classes

module _ (job : Job) (turns : Turns) where
  -- the trees of a class's versions: a base class has one
  abbrev pub trees : Trace → Name → List Tree
  trees trace name = elim (base_tree_of name) [ Some t ↦ t ∷ [] | None ↦ filter_map (λ v. tree_of v.bytes) (versions job turns name trace) ]

  -- a class of a file, over those that were there before it
  abbrev pub class_of_trees : (Name → Option ClassNo) → CoreClass → List Tree → Class
  class_of_trees find c [] = record { name = c.name; parent = None; interfaces = []; kind = OfFile []; state = c.state }
  class_of_trees find c (first ∷ later) = record (file_class find first) { name = c.name; kind = OfFile (first ∷ later); state = c.state }

  abbrev pub linked_class : Trace → (Name → Option ClassNo) → CoreClass → Class
  linked_class trace find c = elim (array_type c.name) [
    | Some t ↦ record (array_class find c.name t) { state = c.state }
    | None ↦ class_of_trees find c (trees trace c.name)
  ]

  -- all of them, the newest first
  unfoldable pub linked : Trace → List CoreClass → List Class
  linked trace [] = []
  linked trace (c ∷ older) = let before = linked trace older in linked_class trace (number_of before) c ∷ before
