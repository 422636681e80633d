-- `idiv`, `irem`, `ldiv` and `lrem` (JVM specification 6.5): of all arithmetic they alone throw.
use Rattle.std.specs.Prelude.{[], Result, Ok, Err, codes}
use Rattle.ti_ids.specs.declared.value.Value.{Value}
use Rattle.class_code.specs.declared.instr.Arithmetic.{Arithmetic}
use Rattle.class_code.specs.declared.instr.Arithmetic.TheVariants as arithmetic
use Rattle.class_code.specs.declared.instr.Width.{Width}
use Rattle.class_code.specs.declared.instr.Simple.TheVariants as simple
use Rattle.class_code.specs.declared.instr.Instr.{Instr}
use Rattle.class_code.specs.declared.instr.Instr.TheVariants as instr
use Rattle.jv_number.specs.declared.binary.Zero.{Zero}
use Rattle.jv_number.specs.Values.{answer}
use Rattle.bytecode_local.specs.Kinds.{kind_at}
use Rattle.bytecode_local.specs.Computing.{kind_of}
use Rattle.instruction_effect.specs.Outcomes.{Site, Outcome, Throws, misfit, or_misfit}
use Rattle.instruction_effect.specs.Operands.{gives}

abbrev pub unless_zero : Site → Result Value Zero → Outcome
unless_zero site (Ok v) = gives site [] 2 v
unless_zero site (Err zero) = Throws [] (codes "java/lang/ArithmeticException")

-- of two numbers of one width: `value2`, the divisor, is the top
abbrev pub divided : Site → Arithmetic → Width → Outcome
divided site op w =
    or_misfit (kind_at (kind_of w) site.frame.stack 0) (λ value2. or_misfit (kind_at (kind_of w) site.frame.stack 1) (λ value1.
    unless_zero site (answer op value1 value2)))

abbrev pub division_outcome : Site → Instr → Outcome
division_outcome site (instr.Simple (simple.Arithmetic arithmetic.Div w)) = divided site arithmetic.Div w
division_outcome site (instr.Simple (simple.Arithmetic arithmetic.Rem w)) = divided site arithmetic.Rem w
division_outcome site i = misfit
