use Rattle.std.proofs.Common.{◌≡◌, ℕ, List, [], Option, sym, subst}
use Rattle.std.specs.Prelude.{◌==◌, IfOk, find, unwrap_or}
use Rattle.std.specs.List.Sorted.{IsNonDecreasingBy}
use Rattle.class_code.specs.declared.instr.Instr.{Instr}
use Rattle.type_frames.specs.declared.frame.MapFrame.{MapFrame}
use Rattle.type_frames.specs.TypeChecks.{checked}
use Rattle.type_verify.specs.Checkers.{checked_of}
use Rattle.type_verify.proofs.Passing.{begun_passes, typed_again}
use Rattle.type_verify.proofs.again.code_frame.Goals as goal

pub begin_again-requires-clause-ordered : goal.begin_again-requires-clause-ordered
begin_again-requires-clause-ordered c = subst (λ (ps : List (ℕ × Instr)). IsNonDecreasingBy (λ p. p.0) ps) (sym c.as_slice.ensures.value) c.in_ok-instrs.ensures.ordered

pub one_frame-requires-clause-passes : goal.one_frame-requires-clause-passes
one_frame-requires-clause-passes c =
    let m = checked c.args.hierarchy.now c.args.tree.now c.args.member.now c.args.code.now in
    let is = c.in_ok-checker.ensures in
    begun_passes m (checked_of c.in_ok-checker.checker) c.in_ok-checker.state is.checked is.begun c.requires.passes.1.0 c.requires.passes.1.1

pub returns : goal.returns
returns c =
    let m = checked c.args.hierarchy.now c.args.tree.now c.args.member.now c.args.code.now in
    let is = c.in_ok-checker.ensures in
    subst (λ (o : Option (List MapFrame)). IfOk c.one_frame.result (λ f. f ≡ find (λ x. x.at == c.args.at) (unwrap_or o [])))
    (typed_again m (checked_of c.in_ok-checker.checker) c.in_ok-checker.state is.checked is.begun) c.one_frame.ensures
