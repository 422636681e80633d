-- Where a thread stands, and what its top frame's instruction is.
use Rattle.std.specs.Prelude.{ℕ, List, Option, Some, unwrap_or}
use Rattle.ti_ids.specs.Maybe.{◌>>=◌}
use Rattle.ti_ids.specs.declared.number.ThreadNo.{ThreadNo}
use Rattle.class_code.specs.declared.instr.Instr.{Instr}
use Rattle.bytecode_local.specs.Effect.{instr_at, following}
use Rattle.link_versions.specs.Classes.{Class}
use Rattle.machine_state.specs.Core.{Thread, MethodFrame}
use Rattle.machine_state.specs.Linked.{linked}
use Rattle.machine_state.specs.FrameCode.{code, tree_of_frame}
use Rattle.machine_state.specs.Acts.{State}
use Rattle.instruction_effect.specs.Outcomes.{Site}
use Rattle.machine_steps.specs.World.{World}

-- the classes as they are now
abbrev pub classes_now : World → State → List Class
classes_now w s = linked w.job w.turns s.trace s.core.classes

-- an instruction of a frame: where it stands, the code that it stands in, and itself
pub record Stop : Type 0 where
  pub site : Site
  pub code : List (ℕ × Instr)
  pub instr : Instr

-- that at a frame's pc, if one begins there
abbrev pub stop_of : World → State → List Class → ThreadNo → Thread → MethodFrame → Option Stop
stop_of w s classes t thread f = do
  list ← code w.job w.turns s.trace s.core.classes f
  i ← instr_at list f.pc
  tree ← tree_of_frame w.job w.turns s.trace s.core.classes f
  Some (record {
    site = record {
      core = s.core;
      classes = classes;
      t = t;
      thread = thread;
      frame = f;
      pool = tree.pool;
      next = unwrap_or (following list f.pc) 65535;
    };
    code = list;
    instr = i;
  })
