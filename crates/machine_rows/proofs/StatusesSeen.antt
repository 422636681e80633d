-- What tool calls see of classes and threads, computed.
use Rattle.std.proofs.Common.{refl}
use Rattle.machine_rows.specs.StatusRows.{ClassStatuses, ThreadStates}
use Rattle.machine_rows.proofs.Computing.{computing}

pub classes : ClassStatuses
unfolding computing
classes = record { absent = refl; loaded = refl; linked = refl; begun = refl; initialized = refl; erroneous = refl; unchecked = refl }

pub threads : ThreadStates
unfolding computing
threads = record {
  unbegun = refl;
  entering = refl;
  running = refl;
  throwing = refl;
  wanting = refl;
  waiting = refl;
  notified = refl;
  joining = refl;
  ended = refl;
  suspended = refl;
  wanting_suspended = refl;
  waiting_suspended = refl;
  resumed = refl;
}
