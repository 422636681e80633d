use Rattle.std.proofs.Common.{arith}
use Rattle.std.proofs.KnownBytes.{Consumes-trans}
use Rattle.ti_port.proofs.Reading.{too_long}
use Rattle.ti_port.proofs.file_store.read_within.Goals as goal

pub returns-then-len-limit-clause-content : goal.returns-then-len-limit-clause-content
returns-then-len-limit-clause-content g c =
    too_long _ (g.F.Read.remaining c.read.new.self) c.extend_from_slice.new.self.items _ (grind (arith, Consumes-trans)) (omega arith)
