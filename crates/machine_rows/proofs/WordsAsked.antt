-- What words ask for, computed.
use Rattle.std.proofs.Common.{refl}
use Rattle.std.specs.Str.{chars}
use Rattle.machine_rows.specs.WordRows.{RequestsAsked}
use Rattle.machine_rows.specs.RefusedWordRows.{ShapesRefused, ValuesRefused}
use Rattle.machine_rows.specs.WorkerRows.{WorkersWanted}

pub requests : RequestsAsked
unfolding chars
requests = record { plain = refl; least = refl; greatest = refl; files = refl; name = refl; replayed = refl; replayed_within = refl; made = refl; made_greatest = refl; ranges_kept = refl }

pub shapes : ShapesRefused
unfolding chars
shapes = record { commands = refl; behind_run = refl; behind_replay = refl; behind_make = refl; lacking = refl }

pub values : ValuesRefused
unfolding chars
values = record { names = refl; numbers = refl }

pub workers : WorkersWanted
unfolding chars
workers = record { many = refl; one = refl }
