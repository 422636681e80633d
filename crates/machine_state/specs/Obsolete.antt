-- Obsolete frames (JVM TI, "IsMethodObsolete"): a later version of the class lacks the frame's method, or has one in its place that isn't
-- equivalent.
use Rattle.std.specs.Prelude.{Bool, false, not, List, [], length, drop, take, Some, unwrap_or}
use Rattle.std.specs.List.{list_any}
use Rattle.std.specs.Option.{option_map_or}
use Rattle.ti_ids.specs.Maybe.{◌>>=◌}
use Rattle.jv_names.specs.Names.{Name}
use Rattle.class_tree.specs.Trees.{Tree}
use Rattle.link_versions.specs.Classes.{class_at}
use Rattle.link_versions.specs.Members.{method_name, method_desc}
use Rattle.redefine_check.specs.Equivalence.{same_method}
use Rattle.machine_state.specs.Jobs.{Job}
use Rattle.machine_state.specs.Core.{CoreClass, MethodFrame}
use Rattle.machine_state.specs.Trace.{Trace}
use Rattle.machine_state.specs.Chains.{Turns}
use Rattle.machine_state.specs.Linked.{trees}
use Rattle.machine_state.specs.FrameCode.{classes_at_birth, tree_of_frame}

module _ (job : Job) (turns : Turns) (trace : Trace) (classes : List CoreClass) where
  abbrev pub class_name_of : MethodFrame → Name
  class_name_of f = option_map_or (λ c. c.name) (class_at (classes_at_birth job turns trace classes f) f.class) []

  -- the versions of a frame's class that were made after its birth
  abbrev pub later_trees : MethodFrame → List Tree
  later_trees f = let class = class_name_of f in drop (length (trees job turns (take f.pin.birth trace) class)) (trees job turns trace class)

  abbrev pub is_obsolete : MethodFrame → Bool
  is_obsolete f =
      let born = classes_at_birth job turns trace classes f in
      unwrap_or
      (tree_of_frame job turns trace classes f >>= λ own. method_name born f.method >>= λ name. method_desc born f.method >>= λ desc.
      Some (list_any (λ later. not (same_method own later name desc)) (later_trees f)))
      false
