use Rattle.std.proofs.Common.{◌≡◌, ◌∙◌, sym, ap, subst, Some}
use Rattle.std.specs.Prelude.{slice_index_or}
use Rattle.class_code.specs.Listing.{IsRising}
use Rattle.code_index.proofs.Finding.{instr_placed}
use Rattle.code_index.proofs.code.Code.entry_at.Goals as goal

pub returns-clause-instr : goal.returns-clause-instr
returns-clause-instr c =
    let entry = c.index.result.now in
    let place = c.in_ok-place.place in
    let at = subst (λ code. entry ≡ slice_index_or code place entry) c.self.view_is c.index.ensures in
    instr_placed c.args.self.now place c.args.pc entry (subst (λ code. IsRising code) c.self.view_is c.self.invariant.rising) c.in_ok-place.ensures.found
    ∙ ap (λ p. Some p.1) (sym at)
