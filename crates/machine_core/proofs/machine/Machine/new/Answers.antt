use Rattle.std.proofs.Common.{refl, subst, arith}
use Rattle.machine_model.specs.Jobs.{AreInRange}
use Rattle.machine_model.specs.Replay.{opening}
use Rattle.machine_core.specs.Stands.{IsKnown}
use Rattle.machine_core.proofs.Opening.{opening_stands, some_tree}
use Rattle.machine_core.proofs.machine.Machine.new.Goals as goal

pub invariant_of-result : goal.invariant_of-result
unfolding opening
invariant_of-result c =
    let known : IsKnown c.args.job = record {
      tree = some_tree _ _ c.file.ensures.tree;
      no_agents = c.file.ensures.no_agents;
      in_range = subst AreInRange c.limits.ensures.same c.limits.ensures.in_range;
    } in
    rw c.new.ensures.items (record { stands = λ e. opening_stands c.args.job c.opening.result known c.opening.ensures; known = known; runs = tt; steps = refl; few = omega arith; named = tt })
