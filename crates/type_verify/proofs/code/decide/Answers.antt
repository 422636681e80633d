use Rattle.std.proofs.Common.{◌∙◌, ℕ, refl, sym, subst}
use Rattle.std.proofs.lemmas.Option.{slice_get_read}
use Rattle.class_code.specs.declared.instr.Instr.{Instr}
use Rattle.type_frames.specs.TypeChecks.{IsOffending}
use Rattle.type_frames.proofs.Reached.{offends_at_first}
use Rattle.type_verify.specs.Checkers.{checked_of}
use Rattle.type_verify.proofs.code.decide.Goals as goal

pub returns-in-None : goal.returns-in-None
returns-in-None c =
    let m = checked_of c.args.checker.now in
    let here = slice_get_read c.args.checker.now.method.instrs.now _ 0 c.index-checker-0.result refl c.requires.some c.index-checker-0.is in
    subst (λ (p : ℕ × Instr). IsOffending m p.0) c.index-checker-0.is (offends_at_first m c.index-checker-0.result here (sym c.in_ok-state.ensures.state ∙ c.in-None.is))
