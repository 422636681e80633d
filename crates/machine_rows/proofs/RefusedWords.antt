-- The refusals of words, computed.
use Rattle.std.proofs.Common.{refl}
use Rattle.std.specs.Str.{chars}
use Rattle.std.specs.Fmt.{digits}
use Rattle.machine_rows.specs.RefusedRows.{WordsRefused, CountsRefused}

pub words : WordsRefused
unfolding chars digits
words = record { none = λ r. refl; no_class = λ r. refl }

pub counts : CountsRefused
unfolding chars digits
counts = record { classes = λ r. refl; donors = λ r. refl; agents = λ r. refl; most = λ r. refl }
