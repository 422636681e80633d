use Rattle.job_words.proofs.ManyWorkers.{many_are_many}
use Rattle.job_words.proofs.laws.word_laws.Goals as goal

pub returns : goal.returns
returns c = record { many = many_are_many }
