-- Instructions found by their offsets in a list of them.
use Rattle.std.specs.Prelude.{ℕ, List, Option, option_map, find, nat_lt, ◌==◌}
use Rattle.class_code.specs.declared.instr.Instr.{Instr}

-- the instruction at an offset
abbrev pub instr_at : List (ℕ × Instr) → ℕ → Option Instr
instr_at code pc = option_map (λ p. p.1) (find (λ p. p.0 == pc) code)

-- the offset of the instruction that follows the one at this offset
abbrev pub following : List (ℕ × Instr) → ℕ → Option ℕ
following code pc = option_map (λ p. p.0) (find (λ p. nat_lt pc p.0) code)
