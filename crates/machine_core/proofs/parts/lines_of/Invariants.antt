use Rattle.std.proofs.Common.{◌≡◌, map, take}
use Rattle.machine_model.specs.Reports.{standing}
use Rattle.machine_core.proofs.parts.lines_of.Given as goal

abbrev pub invariant-loop-thread : goal.invariant-loop-thread
invariant-loop-thread l = l.lines.items ≡ map (λ t. standing t.state) (take l.thread-index l.fn.threads)
