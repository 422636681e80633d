-- The bytes of a line.
use Rattle.std.specs.Prelude.{ℕ, List}
use Rattle.host_run.specs.declared.line.Line.{Line}
use Rattle.host_run.specs.declared.line.Line.TheVariants.{Short, Long}

abbrev pub line_bytes : Line → List ℕ
line_bytes (Short text) = text.bytes
line_bytes (Long text) = text.items
