-- The program Shared, computed.
use Rattle.std.proofs.Common.{◌≡◌, true, refl}
use Rattle.std.specs.Prelude.{length}
use Rattle.std.specs.List.{list_all}
use Rattle.machine_state.specs.Core.{has_ended}
use Rattle.jv_names.specs.Names.{printed}
use Rattle.machine_steps.specs.Replay.{state}
use Rattle.machine_rows.specs.JavaShared.{shared, shared_schedule, SharedPrint}
use Rattle.machine_rows.proofs.Computing.{computing}

taken : (state shared shared_schedule).steps ≡ length shared_schedule
unfolding computing
taken = refl

ended : list_all has_ended (state shared shared_schedule).core.threads ≡ true
unfolding computing
ended = refl

pub row : SharedPrint
unfolding computing
row = record { taken = taken; ended = ended; printed = refl }
