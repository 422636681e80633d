-- The refusals of fetches, computed.
use Rattle.std.proofs.Common.{refl, length}
use Rattle.std.proofs.lemmas.Bool.{lt-ltb}
use Rattle.std.specs.Str.{chars}
use Rattle.std.specs.Fmt.{digits}
use Rattle.machine_rows.specs.RefusedRows.{FetchesRefused, LengthsRefused}

pub fetches : FetchesRefused
unfolding chars digits
fetches = record {
  absent = λ r. refl;
  unnamed = λ r. refl;
  donor_absent = λ r. refl;
  agent_absent = λ r. refl;
  schedule_absent = λ r. refl;
  unreadable = λ r. refl;
  unreadable_again = λ r. refl;
}

pub lengths : LengthsRefused
unfolding chars digits
lengths = record {
  class_too_large = λ bytes long r. rw (lt-ltb 1048576 (length bytes) long) refl;
  class_just_fits = λ bytes long r. simp (long) refl;
  donor_too_large = λ bytes long r. rw (lt-ltb 1048576 (length bytes) long) refl;
  agent_too_large = λ bytes long r. rw (lt-ltb 65536 (length bytes) long) refl;
  schedule_too_large = λ bytes long r. rw (lt-ltb 134217728 (length bytes) long) refl;
  total_too_large = λ bytes long r. simp (long) refl;
  total_just_fits = λ bytes long r. simp (long) refl;
}
