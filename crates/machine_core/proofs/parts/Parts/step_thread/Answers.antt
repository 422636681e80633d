use Rattle.std.proofs.Common.{◌-◌, arith}
use Rattle.machine_model.specs.declared.ThreadRule.TheVariants as rules
use Rattle.machine_core.proofs.Stepped.{at_number, begin_stands, load_stands, link_stands, end_init_stands, finish_stands}
use Rattle.machine_core.proofs.parts.Parts.step_thread.Goals as goal

pub returns-in-Begin : goal.returns-in-Begin
returns-in-Begin c = λ s h is.
    at_number c.args.job.now s _ rules.Begin c.args.number (c.args.number - 1) (omega arith) (begin_stands c.args.job.now c.args.self.now s (c.args.number - 1) c.set_state.new.threads h c.set_state.ensures) (rw (← c.in-Begin.is) is)

pub returns-in-Load : goal.returns-in-Load
returns-in-Load c = λ s h is.
    at_number c.args.job.now s _ rules.Load c.args.number (c.args.number - 1) (omega arith) (load_stands c.args.job.now c.args.self.now s (c.args.number - 1) h) (rw (← c.in-Load.is) is)

pub returns-in-Link : goal.returns-in-Link
returns-in-Link c = λ s h is.
    at_number c.args.job.now s _ rules.Link c.args.number (c.args.number - 1) (omega arith) (link_stands c.args.job.now c.args.self.now s (c.args.number - 1) h) (rw (← c.in-Link.is) is)

pub returns-in-EndInit : goal.returns-in-EndInit
returns-in-EndInit c = λ s h is.
    at_number c.args.job.now s _ rules.EndInit c.args.number (c.args.number - 1) (omega arith) (end_init_stands c.args.job.now c.args.self.now s (c.args.number - 1) c.pop_frame.new.threads h c.pop_frame.ensures) (rw (← c.in-EndInit.is) is)

pub returns-in-Finish : goal.returns-in-Finish
returns-in-Finish c = λ s h is.
    at_number c.args.job.now s _ rules.Finish c.args.number (c.args.number - 1) (omega arith) (finish_stands c.args.job.now c.args.self.now s (c.args.number - 1) c.set_state-in-Finish.new.threads h c.set_state-in-Finish.ensures) (rw (← c.in-Finish.is) is)
