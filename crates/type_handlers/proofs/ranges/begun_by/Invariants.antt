use Rattle.std.proofs.Common.{ℕ, ◌<◌, ◌≤◌, slice_index}
use Rattle.type_handlers.specs.Ranges.{start_at}
use Rattle.type_handlers.proofs.ranges.begun_by.Given as goal

abbrev pub invariant-loop-place : goal.invariant-loop-place
invariant-loop-place l = (k : ℕ) → l.counted ≤ k → k < l.place → start_at l.handlers (slice_index l.order k) ≤ l.at
