use Rattle.ti_port.proofs.Reading.{ReadSoFar}
use Rattle.ti_port.proofs.file_store.read_within.Given as goal

abbrev pub invariant-loop-turn : goal.invariant-loop-turn
invariant-loop-turn g l =
    ReadSoFar (g.F.Read.remaining l.initial.file) (g.F.Read.remaining l.file) l.bytes.items l._turn l.limit
