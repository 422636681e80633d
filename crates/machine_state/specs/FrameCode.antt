-- The code that a frame runs: that of the version of its class that was newest when the frame was pushed, for as long as the frame
-- lives (JVM TI, "RedefineClasses").
use Rattle.std.specs.Prelude.{ℕ, List, Option, take}
use Rattle.std.specs.Option.{option_and_then}
use Rattle.class_code.specs.declared.instr.Instr.{Instr}
use Rattle.class_tree.specs.declared.body.Code.{Code}
use Rattle.class_tree.specs.declared.members.Member.{Member}
use Rattle.class_tree.specs.Trees.{Tree}
use Rattle.class_tree.specs.Tree.{code_of}
use Rattle.link_versions.specs.Classes.{Class, newest_version, version_at}
use Rattle.link_versions.specs.Members.{method_name, method_desc, method_in}
use Rattle.link_versions.specs.ReadyCode.{code_in}
use Rattle.machine_state.specs.Jobs.{Job}
use Rattle.machine_state.specs.Core.{CoreClass, MethodFrame}
use Rattle.machine_state.specs.Trace.{Trace}
use Rattle.machine_state.specs.Versions.{Turns}
use Rattle.machine_state.specs.Linked.{linked}

module _ (job : Job) (turns : Turns) (trace : Trace) (classes : List CoreClass) where
  -- the classes as they were at a frame's birth
  abbrev pub classes_at_birth : MethodFrame → List Class
  classes_at_birth f = linked job turns (take f.pin.birth trace) classes

  -- the tree of the version that was newest then
  abbrev pub tree_of_frame : MethodFrame → Option Tree
  tree_of_frame f = let born = classes_at_birth f in version_at born (newest_version born f.class)

  -- its instructions, made ready for running
  abbrev pub code : MethodFrame → Option (List (ℕ × Instr))
  code f = let born = classes_at_birth f in code_in born (newest_version born f.class) f.method

  -- its method in that version, and the body of that: the exception table, the sizes of locals and stack
  abbrev pub member_of_frame : MethodFrame → Option Member
  member_of_frame f = let born = classes_at_birth f in option_and_then (λ t. method_in t (method_name born f.method) (method_desc born f.method)) (tree_of_frame f)

  abbrev pub body_of_frame : MethodFrame → Option Code
  body_of_frame f = option_and_then (λ m. code_of m.attrs) (member_of_frame f)
