use Rattle.std.proofs.Common.{ℕ, List, ◌<◌, ◌^◌, length, sym, subst}
use Rattle.type_states.proofs.Begun.{rising_of, offsets_of}
use Rattle.type_frames.proofs.Formed.{short_code}
use Rattle.type_verify.proofs.code.instrs_of.Goals as goal

pub returns-in-Ok-clause-ordered : goal.returns-in-Ok-clause-ordered
returns-in-Ok-clause-ordered c = rising_of _ _ c.in-Ok.ensures.found

pub returns-in-Ok-clause-offsets : goal.returns-in-Ok-clause-offsets
returns-in-Ok-clause-offsets c =
    offsets_of _ _ c.in-Ok.ensures.found
    (subst (λ (bytes : List ℕ). length bytes < 2 ^ 16) (sym c.as_slice.ensures) (short_code _ _ c.args.code.now c.requires))
