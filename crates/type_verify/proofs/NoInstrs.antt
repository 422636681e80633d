-- A method without code has no instructions.
use Rattle.std.proofs.Common.{ℕ, ◌<◌, ◌^◌, List, [], arith}
use Rattle.std.specs.Prelude.{All}
use Rattle.std.specs.List.Sorted.{IsNonDecreasingBy}
use Rattle.std.proofs.lemmas.List.Elements.{All-nil}
use Rattle.class_code.specs.declared.instr.Instr.{Instr}

pub none_low : All (λ p. p.0 < 2 ^ 16) (let instrs : List (ℕ × Instr) = [] in instrs)
none_low = All-nil (λ (p : ℕ × Instr). p.0 < 2 ^ 16)

pub none_rise : IsNonDecreasingBy (λ p. p.0) (let instrs : List (ℕ × Instr) = [] in instrs)
none_rise i j d le lt = absurd (omega (arith, lt))
