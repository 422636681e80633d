use Rattle.std.proofs.Common.{ℕ, List, sym, subst}
use Rattle.std.specs.List.Sorted.{IsNonDecreasingBy}
use Rattle.class_code.specs.declared.instr.Instr.{Instr}
use Rattle.type_frames.specs.TypeChecks.{checked}
use Rattle.type_verify.specs.Checkers.{checked_of}
use Rattle.type_verify.proofs.Passing.{begun_passes}
use Rattle.type_verify.proofs.again.code_frames.Goals as goal

pub begin_again-requires-clause-ordered : goal.begin_again-requires-clause-ordered
begin_again-requires-clause-ordered c = subst (λ (ps : List (ℕ × Instr)). IsNonDecreasingBy (λ p. p.0) ps) (sym c.as_slice.ensures.value) c.in_ok-instrs.ensures.ordered

pub all_frames-requires-clause-passes : goal.all_frames-requires-clause-passes
all_frames-requires-clause-passes c =
    let m = checked c.args.hierarchy.now c.args.tree.now c.args.member.now c.args.code.now in
    let is = c.in_ok-checker.ensures in
    begun_passes m (checked_of c.in_ok-checker.checker) c.in_ok-checker.state is.checked is.begun c.requires.passes.1.0 c.requires.passes.1.1
