use Rattle.std.proofs.Common.{Some, ◌∙◌, sym, subst}
use Rattle.machine_core.specs.declared.frame.Frame.{Frame}
use Rattle.machine_core.specs.Frames.{TopDone}
use Rattle.machine_core.proofs.Stacks.{stays_on}
use Rattle.machine_core.proofs.thread.execute_top.Goals as goal

pub returns-in_ok-push-in-Java : goal.returns-in_ok-push-in-Java
returns-in_ok-push-in-Java c =
    subst (λ (t : Frame). TopDone c.args.file.now c.in_ok-done-in-Java.done (Some t) c.args.frames.now.items c.push-in-Java.new.self.items) (sym c.in-Java.is)
    (c.step_frame.new.frame, c.in_ok-done-in-Java.ensures, c.in_ok-push-in-Java.ensures.items ∙ stays_on c.in_ok-done-in-Java.done c.args.frames.now.items c.step_frame.new.frame c.in_default.not-Leaves)
