-- Bytes in memory: what a sink holds, and what a put makes of it.
use Rattle.std.specs.Prelude.{ℕ, ◌+◌, ◌<◌, ◌≤◌, ◌⊎◌, min, List, [], ◌++◌, length, take, Contains}
use Rattle.ti_port.specs.Port.{next_count}
use Rattle.ti_port.specs.declared.sink.Put.{Put}
use Rattle.ti_port.specs.declared.sink.Put.TheVariants.{Took, Failed}

-- the bytes, the room for them, the most that a put takes, the numbers of the puts that fail, the puts made, and those of them that failed
pub record SinkState : Type 0 where
  pub bytes : List ℕ
  pub room : ℕ
  pub most : ℕ
  pub failing : List ℕ
  pub calls : ℕ
  pub faults : ℕ

-- a sink before its first put
abbrev pub new_sink : ℕ → ℕ → List ℕ → SinkState
new_sink room most failing = record { bytes = []; room = room; most = most; failing = failing; calls = 0; faults = 0 }

-- how many bytes of a piece a put takes, where it takes any
abbrev pub part_len : SinkState → List ℕ → ℕ
part_len sink piece = min (length piece) sink.most

-- the next put fails: by its number, or since the room that is left is too small
abbrev pub FailsNext : SinkState → List ℕ → Type 0
FailsNext sink piece = Contains sink.failing (next_count sink.calls) ⊎ (sink.room < length sink.bytes + part_len sink piece)

-- the sink after a put of this piece with this answer
abbrev pub after_put : SinkState → List ℕ → Put → SinkState
after_put sink piece (Took n) = record sink { bytes = sink.bytes ++ take n piece; calls = next_count sink.calls }
after_put sink piece Failed = record sink { calls = next_count sink.calls; faults = next_count sink.faults }

-- the room is there, what is held is within it, and a put takes something
pub record IsReserved (held room capacity most : ℕ) : Type 0 where
  pub within : held ≤ room
  pub reserved : room ≤ capacity
  pub takes_some : 1 ≤ most
