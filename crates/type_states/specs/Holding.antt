-- How the code holds a type state: the stack with its top last, and its words counted.
use Rattle.std.specs.Prelude.{◌≡◌, ℕ, ◌<◌, ◌^◌, Bool, List, map, reverse, length}
use Rattle.type_frames.specs.declared.seen.VTypeRef.{VTypeRef}
use Rattle.type_frames.specs.Types.{expanded}
use Rattle.type_frames.specs.States.{State}
use Rattle.type_frames.specs.Seen.{type_seen}

abbrev pub state_held : List VTypeRef → List VTypeRef → Bool → State
state_held locals stack this_uninit = record { locals = map type_seen locals; stack = map type_seen (reverse stack); this_uninit = this_uninit }

-- it takes fewer than 2^16 words
abbrev pub counts_words : List VTypeRef → ℕ → Type 0
counts_words stack words = (words ≡ length (expanded (map type_seen (reverse stack)))) × (words < 2 ^ 16)
