use Rattle.std.proofs.Common.{◌≡◌, ◌∙◌, ap, arith}
use Rattle.std.proofs.lemmas.Grind.{common_steps}
use Rattle.report_text.specs.Stated.{stated}
use Rattle.report_text.specs.Texts.{report_text}
use Rattle.report_text.proofs.Stating.{stated-report_text}
use Rattle.report_text.proofs.text.report.Goals as goal

pub returns-clause-states : goal.returns-clause-states
unfolding report_text
returns-clause-states c =
    λ schedule runs named few.
    let written : c.put_back.new.text.items ≡ report_text c.args.parts.now = grind (arith, common_steps) in
    ap stated written ∙ stated-report_text c.args.parts.now schedule runs named few
