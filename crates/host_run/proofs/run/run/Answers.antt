use Rattle.host_run.proofs.Reported.{picked_told}
use Rattle.host_run.proofs.run.run.Goals as goal

pub returns : goal.returns
returns c =
    picked_told c.args.job c.new-machine.result c.run_to_end.new.machine c.in_ok-parts.parts c.in_ok-text.text.items c.in-Some.end c.new-machine.ensures.fresh c.in_ok-run_to_end.ensures.picked (record {
      told = c.in_ok-parts.ensures.told;
      legal = c.in_ok-parts.ensures.legal;
      named = c.in_ok-parts.ensures.named;
      few = c.in_ok-parts.ensures.few;
      written = c.in_ok-text.ensures.text;
      states = c.in_ok-text.ensures.states;
    }) c.in-Some.is
