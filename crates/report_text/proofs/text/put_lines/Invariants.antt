use Rattle.std.proofs.Common.{◌≡◌, ◌++◌, drop}
use Rattle.std.specs.Prelude.{flat_map}
use Rattle.report_text.specs.Texts.{line}
use Rattle.report_text.proofs.text.put_lines.Given as goal

abbrev pub invariant-loop-bytes : goal.invariant-loop-bytes
invariant-loop-bytes l = l.text.items ++ flat_map line (drop l.bytes-index l.lines) ≡ l.fn.text.items ++ flat_map line l.lines
