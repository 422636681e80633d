use Rattle.std.proofs.Common.{◌∙◌}
use Rattle.host_run.proofs.Sent.{told_more, within_more}
use Rattle.host_run.proofs.write.write_all.Goals as goal

pub loop-sent-preserved : goal.loop-sent-preserved
loop-sent-preserved g c = record {
  within = within_more c.args.text.now c.loop-sent.sent c.in-Took.count c.in-Took.ensures.count.1 c.loop-sent-test.true;
  held = told_more c.args.text.now c.loop-sent.sent c.in-Took.count _ _ _ c.loop-sent.invariant.held c.in-Took.ensures.content;
  same = c.in-Took.ensures.count.2 ∙ c.loop-sent.invariant.same;
}
