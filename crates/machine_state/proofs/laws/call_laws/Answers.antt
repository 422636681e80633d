use Rattle.machine_state.proofs.CallLaws.{objects_are_given}
use Rattle.machine_state.proofs.laws.call_laws.Goals as goal

pub returns : goal.returns
returns c = objects_are_given
