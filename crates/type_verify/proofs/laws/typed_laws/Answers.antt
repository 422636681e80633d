use Rattle.std.proofs.Common.{◌∙◌, sym}
use Rattle.type_verify.specs.Laws.{TypedInOneWay}
use Rattle.type_verify.proofs.Passing.{typed_only}
use Rattle.type_verify.proofs.laws.typed_laws.Goals as goal

pub returns : goal.returns
returns c = by_both
  where
    by_both : TypedInOneWay
    by_both h t place frames others is also = typed_only h t place frames is ∙ sym (typed_only h t place others also)
