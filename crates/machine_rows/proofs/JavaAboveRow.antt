-- The program Above, computed.
use Rattle.std.proofs.Common.{◌≡◌, true, refl}
use Rattle.std.specs.List.{list_all}
use Rattle.machine_state.specs.Core.{has_ended}
use Rattle.machine_rows.specs.Printed.{ran}
use Rattle.jv_names.specs.Names.{printed}
use Rattle.machine_rows.specs.JavaAbove.{above, AbovePrint}
use Rattle.machine_rows.proofs.Computing.{computing}

ended : list_all has_ended (ran above).core.threads ≡ true
unfolding computing
ended = refl

pub row : AbovePrint
unfolding computing
row = record { ended = ended; printed = refl }
