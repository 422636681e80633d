use Rattle.std.proofs.Common.{◌≡◌, ◌++◌, ◌+◌, drop}
use Rattle.std.specs.Prelude.{flat_map}
use Rattle.report_text.specs.Texts.{line, thread_texts}
use Rattle.report_text.proofs.text.put_threads.Given as goal

abbrev pub invariant-loop-i : goal.invariant-loop-i
invariant-loop-i l = l.text.items ++ flat_map line (thread_texts (l.i + 1) (drop l.i l.threads)) ≡ l.fn.text.items ++ flat_map line (thread_texts 1 l.threads)
