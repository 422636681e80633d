use Rattle.std.proofs.Common.{◌≡◌, ◌≤◌, ◌+◌, drop, length, reverse}
use Rattle.std.specs.Prelude.{sum_by}
use Rattle.report_text.specs.Runs.{runs_of}
use Rattle.report_text.proofs.schedule.runs_of.Given as goal

abbrev pub invariant-loop-i : goal.invariant-loop-i
invariant-loop-i l = record {
  within : l.i ≤ length l.actors;
  so_far : reverse l.runs.items ≡ runs_of (drop l.i l.actors);
  count : sum_by (λ r. r.count) l.runs.items + l.i ≡ length l.actors;
}

abbrev pub decreases-loop-i : goal.decreases-loop-i
decreases-loop-i l = l.i
