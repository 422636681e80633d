use Rattle.std.proofs.Common.{◌∙◌, ap, List, map}
use Rattle.machine_model.specs.Reports.{standing}
use Rattle.machine_core.specs.declared.thread.Thread.{Thread}
use Rattle.machine_core.proofs.Seen.{lines_told}
use Rattle.machine_core.proofs.parts.Parts.thread_lines.Goals as goal

pub returns : goal.returns
returns c = λ job s h.
    c.new.ensures ∙ c.in_ok-lines_of.ensures ∙ ap (λ (w : List Thread). map (λ t. standing t.state) w) c.deref.ensures.value ∙ lines_told job c.args.self.now s h
