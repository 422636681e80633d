use Rattle.rule_file.proofs.FilesRead.{says_one, faults_told}
use Rattle.rule_file.proofs.laws.file_rows.Goals as goal

pub returns-clause-says : goal.returns-clause-says
returns-clause-says c = says_one

pub returns-clause-faults : goal.returns-clause-faults
returns-clause-faults c = faults_told
