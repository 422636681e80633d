use Rattle.std.proofs.Common.{arith}
use Rattle.host_run.proofs.Picked.{stops, goes_on, longer}
use Rattle.host_run.proofs.run.run_to_end.Goals as goal

pub returns-in_default-clause-picked : goal.returns-in_default-clause-picked
returns-in_default-clause-picked c =
    stops c.loop.machine c.args.machine.now _ c.loop.current c.loop.made c.requires.live c.loop.invariant.way c.in_default.ensures.told

pub loop-preserved : goal.loop-preserved
loop-preserved c =
    let live = c.loop.invariant.way.live in
    let grew = c.in-Ok.ensures.told.2 in record {
      way = goes_on c.loop.machine c.step.new.self c.args.machine.now.job c.limits-steps.result.steps c.loop.counter c.loop.current c.loop.made (c.in-Some.actor, c.in-Some.row) c.loop-test.true
          c.loop.invariant.way c.in-Some.ensures.told grew;
      row = omega (arith, c.in-Some.ensures.row live, c.loop.invariant.row);
      done = longer c.loop.machine c.step.new.self c.loop.counter c.in-Some.actor grew c.loop.invariant.done;
    }
