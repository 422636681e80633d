use Rattle.machine_rows.proofs.BreakpointTwice.{row as twice_row}
use Rattle.machine_rows.proofs.InstallingClearsBreakpoints.{row as clearing_row}
use Rattle.machine_rows.proofs.TagsOfEachEnvironment.{row as tags_row}
use Rattle.machine_rows.proofs.TransformerRemoved.{row as removed_row}
use Rattle.machine_rows.proofs.BytesOfAMethod.{row as bytes_row}
use Rattle.machine_rows.proofs.agents.call_rows.Goals as goal

pub returns-clause-twice : goal.returns-clause-twice
returns-clause-twice c = twice_row

pub returns-clause-clearing : goal.returns-clause-clearing
returns-clause-clearing c = clearing_row

pub returns-clause-tags : goal.returns-clause-tags
returns-clause-tags c = tags_row

pub returns-clause-removed : goal.returns-clause-removed
returns-clause-removed c = removed_row

pub returns-clause-bytes : goal.returns-clause-bytes
returns-clause-bytes c = bytes_row
