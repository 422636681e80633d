use Rattle.host_run.proofs.Loading.{refused_other, not_yet_told}
use Rattle.host_run.proofs.load.first_job.Goals as goal

pub returns-in-Ok-clause-told : goal.returns-in-Ok-clause-told
returns-in-Ok-clause-told c =
    not_yet_told _ _ c.bad_class.ensures (refused_other c.args.main.now c.args.bytes.items c.deref.result.now c.name.result.now c.as_bytes.result.now c.in-Ok.class c.is_text.result
    c.deref.ensures.value c.name.ensures.same c.as_bytes.ensures.value c.in-Ok.ensures.exact c.is_text.ensures c.if-is_text.false)
