-- Methods compared, computed.
use Rattle.std.proofs.Common.{refl}
use Rattle.class_code.specs.Spelling.{s4}
use Rattle.machine_rows.specs.MethodRows.{BodiesCompared, ConstantsCompared, CallsCompared, PaddingCounts, HandlersCompared}
use Rattle.machine_rows.proofs.Computing.{computing}

pub bodies : BodiesCompared
unfolding computing s4
bodies = record { same = refl; other = refl; none = refl; missing = refl }

pub constants : ConstantsCompared
unfolding computing s4
constants = record { moved = refl; other = refl; kind = refl }

pub calls : CallsCompared
unfolding computing s4
calls = record { moved = refl; other = refl }

pub padding : PaddingCounts
unfolding computing s4
padding = record { same = refl; other = refl }

pub handlers : HandlersCompared
unfolding computing s4
handlers = record { moved = refl; order = refl; other = refl; range = refl; missing = refl }
