use Rattle.std.proofs.Common.{Some, ◌∙◌, ap}
use Rattle.machine_model.specs.declared.MachineRule.{MachineRule}
use Rattle.machine_core.proofs.Stepped.{start_stands, init_stands, raise_death_stands, die_stands}
use Rattle.machine_core.proofs.parts.Parts.step_machine.Goals as goal

pub returns-in-Start : goal.returns-in-Start
returns-in-Start c = λ job s h is. start_stands job c.args.self.now s h (is ∙ ap (λ (r : MachineRule). Some r) c.in-Start.is)

pub returns-in_ok-self-in-Init : goal.returns-in_ok-self-in-Init
returns-in_ok-self-in-Init c = λ job s h is.
    init_stands job c.args.self.now s c.in_ok-self-in-Init.field-0 h c.in_ok-self-in-Init.ensures (is ∙ ap (λ (r : MachineRule). Some r) c.in-Init.is)

pub returns-in-RaiseDeath : goal.returns-in-RaiseDeath
returns-in-RaiseDeath c = λ job s h is. raise_death_stands job c.args.self.now s h (is ∙ ap (λ (r : MachineRule). Some r) c.in-RaiseDeath.is)

pub returns-in-Die : goal.returns-in-Die
returns-in-Die c = λ job s h is. die_stands job c.args.self.now s h (is ∙ ap (λ (r : MachineRule). Some r) c.in-Die.is)
