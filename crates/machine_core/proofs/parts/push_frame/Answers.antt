use Rattle.std.proofs.Common.{vec_len, refl, arith}
use Rattle.machine_core.proofs.Zips.{changed_by}
use Rattle.machine_core.proofs.parts.push_frame.Goals as goal

pub returns : goal.returns
returns c = changed_by c.args.index _ c.args.threads.now.items (vec_len c.args.threads.now) c.index_mut.result.now _ (omega (arith, c.args.threads.now.ok.0)) c.requires c.index_mut.ensures.value (record { state = refl; frames = c.in_ok-push.ensures.items })
