use Rattle.breakpoint_table.proofs.Standing.{breakpoints_as_set, watches_as_set, none_watched}
use Rattle.breakpoint_table.proofs.laws.place_laws.Goals as goal

pub returns-clause-breakpoints : goal.returns-clause-breakpoints
returns-clause-breakpoints g c = breakpoints_as_set

pub returns-clause-watches : goal.returns-clause-watches
returns-clause-watches g c = watches_as_set

pub returns-clause-unwatched : goal.returns-clause-unwatched
returns-clause-unwatched g c = none_watched
