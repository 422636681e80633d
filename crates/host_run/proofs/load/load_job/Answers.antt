use Rattle.std.proofs.Common.{◌∙◌}
use Rattle.host_run.specs.Words.{texts}
use Rattle.host_run.proofs.Loading.{found_told}
use Rattle.host_run.proofs.load.load_job.Goals as goal

pub returns-in-Ok-Found-clause-told : goal.returns-in-Ok-Found-clause-told
returns-in-Ok-Found-clause-told g c =
    found_told c.job_of.result (texts c.args.words.now) c.in-Some.request.main.now c.in-Some.request.file.now c.in-Ok-Found.bytes.items c.from-most.result (g.S.Store.files c.args.store.now)
    c.in-Some.ensures (c.from-most.ensures ∙ c.most.ensures) (rw c.in-Ok-Found.field-0-is at c.in-Ok-Found.ensures.content) c.job_of.ensures.told
