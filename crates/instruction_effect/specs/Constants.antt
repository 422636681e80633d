-- The constants of `ldc` and `ldc_w` that are objects (JVM specification 5.1 and 6.5): the String of a text, and the Class object of a
-- class. Where code is made ready for running, loads of numbers have become pushes.
use Rattle.std.specs.Prelude.{ℕ, List, [], Some, None, codes}
use Rattle.ti_ids.specs.declared.number.ObjNo.{ObjNo}
use Rattle.ti_ids.specs.declared.number.ClassNo.{ClassNo}
use Rattle.class_code.specs.declared.instr.Kind.TheVariants as kind
use Rattle.class_code.specs.declared.instr.PoolOp.TheVariants as pool_op
use Rattle.class_code.specs.declared.instr.Instr.{Instr}
use Rattle.class_code.specs.declared.instr.Instr.TheVariants as instr
use Rattle.class_tree.specs.declared.pool.Const.{Const}
use Rattle.class_tree.specs.declared.pool.Const.TheVariants as const
use Rattle.class_tree.specs.Tree.{entry_at, text_at}
use Rattle.java_heap.specs.declared.object.Content.TheVariants.{Literal}
use Rattle.java_heap.specs.declared.object.TheConstants.{STRING}
use Rattle.java_heap.specs.Heaps.{literal_of}
use Rattle.machine_state.specs.Acts.{Act}
use Rattle.instruction_effect.specs.ClassObjects.{when_class_object}
use Rattle.instruction_effect.specs.Outcomes.{Site, Outcome, misfit, or_misfit, makes_announced, when_room}
use Rattle.instruction_effect.specs.Operands.{when_fits, gives_object, when_there}

-- ---- the String of a text: Strings of equal constants are one object

-- It must be there: it is made where it isn't, and what comes then goes by the acts that make it, and its number.
abbrev pub when_literal : Site → List ℕ → (List Act → ObjNo → Outcome) → Outcome
when_literal site units so = elim (literal_of site.core.heap units) [
  | Some object ↦ so [] object
  | None ↦ when_room site.core.heap [] (makes_announced site.t site.core.heap STRING (Literal units) (codes "java/lang/String")) (Literal units) so
]

-- ---- the instructions

abbrev pub load_literal : Site → List ℕ → Outcome
load_literal site units = when_fits site 0 kind.Reference (when_literal site units (λ acts. gives_object site acts 0))

abbrev pub load_class : Site → List Act → ClassNo → Outcome
load_class site acts n = when_fits site 0 kind.Reference (when_class_object site acts n (λ all. gives_object site all 0))

-- a String by the text that it names (section 4.4.3), a Class by its name
abbrev pub load_entry : Site → Const → Outcome
load_entry site (const.Text text) = or_misfit (text_at site.pool text) (load_literal site)
load_entry site (const.Class name) = or_misfit (text_at site.pool name) (λ class. when_there site class load_class)
load_entry site _ = misfit

abbrev pub constant_outcome : Site → Instr → Outcome
constant_outcome site (instr.LoadConst index) = or_misfit (entry_at site.pool index) (load_entry site)
constant_outcome site (instr.Pool pool_op.LoadConstWide index) = or_misfit (entry_at site.pool index) (load_entry site)
constant_outcome site i = misfit
