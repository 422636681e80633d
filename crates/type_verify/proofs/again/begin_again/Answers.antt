use Rattle.std.proofs.Common.{◌∙◌, ◌<◌, ℕ, List, length, sym, subst}
use Rattle.class_code.specs.declared.instr.Instr.{Instr}
use Rattle.type_frames.specs.TypeChecks.{checked}
use Rattle.type_frames.proofs.TypeStates.{never_nothing}
use Rattle.type_verify.specs.Checkers.{checked_of}
use Rattle.type_verify.proofs.again.begin_again.Goals as goal

pub unreachable-requires-in_default : goal.unreachable-requires-in_default
unreachable-requires-in_default c =
    let m = checked c.args.hierarchy.now c.args.tree.now c.args.member.now c.args.code.now in
    let some = subst (λ (ps : List (ℕ × Instr)). 0 < length ps) (sym c.requires.listed) c.requires.some in
    never_nothing m c.requires.passes.1.0 (checked_of c.in-Ok.checker) c.in-Ok.ensures.1 c.requires.passes.1.1 some (sym c.in_ok-state.ensures.state ∙ c.in_default.is)
