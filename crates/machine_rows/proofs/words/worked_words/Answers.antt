use Rattle.machine_rows.proofs.WordsAsked.{requests, shapes, values, workers}
use Rattle.machine_rows.proofs.words.worked_words.Goals as goal

pub returns-clause-requests : goal.returns-clause-requests
returns-clause-requests c = requests

pub returns-clause-shapes : goal.returns-clause-shapes
returns-clause-shapes c = shapes

pub returns-clause-values : goal.returns-clause-values
returns-clause-values c = values

pub returns-clause-workers : goal.returns-clause-workers
returns-clause-workers c = workers
