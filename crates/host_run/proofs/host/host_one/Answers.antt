use Rattle.host_run.specs.Words.{texts}
use Rattle.host_run.proofs.Promises.{run_not_usage, run_store_counts, run_told}
use Rattle.host_run.proofs.Refused.{refused_told}
use Rattle.host_run.proofs.host.host_one.Goals as goal

pub returns-in-Ok-clause-written : goal.returns-in-Ok-clause-written
returns-in-Ok-clause-written g c =
    run_told c.in-Ok.job (texts c.args.words.now) (g.S.Store.files c.args.store.now) c.run_and_write.result (g.S.Store.faults c.args.store.now) (g.S.Store.faults c.load_job.new.store)
    (g.K.Sink.held c.args.sink.now) (g.K.Sink.held c.run_and_write.new.sink) c.in-Ok.ensures.told c.run_and_write.ensures.answer c.run_and_write.ensures.written

pub returns-in-Ok-clause-only_usage : goal.returns-in-Ok-clause-only_usage
returns-in-Ok-clause-only_usage g c = λ is. absurd (run_not_usage c.in-Ok.job c.run_and_write.result c.run_and_write.ensures.answer is)

pub returns-in-Ok-clause-store_count : goal.returns-in-Ok-clause-store_count
returns-in-Ok-clause-store_count g c = run_store_counts c.in-Ok.job _ c.run_and_write.result _ _ _ _ c.run_and_write.ensures.answer c.in-Ok.ensures.count

pub returns-in-Err-Refused-clause-written : goal.returns-in-Err-Refused-clause-written
returns-in-Err-Refused-clause-written g c =
    refused_told c.in-Err-Refused.field-0 c.in-Err-Refused.refusal (texts c.args.words.now) (g.S.Store.files c.args.store.now) c.refuse.result
    (g.S.Store.faults c.args.store.now) (g.S.Store.faults c.load_job.new.store) (g.S.Store.failed c.args.store.now) (g.S.Store.failed c.load_job.new.store)
    (g.K.Sink.held c.args.sink.now) (g.K.Sink.held c.refuse.new.sink)
    c.in-Err-Refused.field-0-is c.in-Err-Refused.ensures.told c.in-Err-Refused.ensures.count c.refuse.ensures.answer c.refuse.ensures.written
