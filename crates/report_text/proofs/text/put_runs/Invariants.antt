use Rattle.std.proofs.Common.{◌≡◌, ◌++◌, drop}
use Rattle.std.specs.Prelude.{flat_map}
use Rattle.report_text.specs.Texts.{run_text}
use Rattle.report_text.proofs.text.put_runs.Given as goal

abbrev pub invariant-loop-run : goal.invariant-loop-run
invariant-loop-run l = l.text.items ++ flat_map run_text (drop l.run-index l.runs) ≡ l.fn.text.items ++ flat_map run_text l.runs
