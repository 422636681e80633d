use Rattle.std.proofs.Common.{◌∷◌, [], ◌∙◌, sym}
use Rattle.std.proofs.lemmas.Bool.{false≢true}
use Rattle.std.proofs.lemmas.Bool.Decides.{Decides-eqb}
use Rattle.std.proofs.lemmas.Result.{err_from_is_err_and}
use Rattle.std.proofs.lemmas.Slice.Eq.{slice_eq-Decides}
use Rattle.jv_names.proofs.Descriptors.{void_or}
use Rattle.jv_names.proofs.descriptor.result_of.Goals as goal

pub returns-in_err-type_of-clause-fault : goal.returns-in_err-type_of-clause-fault
returns-in_err-type_of-clause-fault c =
    let p = err_from_is_err_and c.from_residual.result c.from_residual.ensures.1 in
    let decides = slice_eq-Decides Decides-eqb c.args.units.now (86 ∷ []) c.eq.result (rw c.as_slice.ensures at c.eq.ensures) in
    rw (p.1, p.2) (void_or c.args.units.now c.in_err-type_of.field-0.0 (λ e. false≢true (sym c.if-eq.false ∙ decides.1 e)) c.in_err-type_of.ensures.fault)
