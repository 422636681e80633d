use Rattle.std.proofs.lemmas.Bool.Decides.{same_from_decides}
use Rattle.std.proofs.lemmas.Slice.Eq.{bytes_eq-Decides}
use Rattle.type_frames.proofs.assigning.is_text.Goals as goal

pub returns : goal.returns
returns c = same_from_decides _ _ c.is_same.ensures (bytes_eq-Decides _ _)
