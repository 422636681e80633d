use Rattle.std.proofs.Common.{◌∷◌, []}
use Rattle.std.proofs.lemmas.Bool.Decides.{Decides-eqb}
use Rattle.std.proofs.lemmas.Slice.Eq.{strip_prefix_is}
use Rattle.type_descriptors.proofs.method.after.Goals as goal

pub returns : goal.returns
returns c = strip_prefix_is Decides-eqb c.args.units.now (c.args.unit ∷ []) c.strip_prefix.result c.strip_prefix.ensures.cases
