-- What a text that was put left in the sink.
use Rattle.std.specs.Prelude.{◌≡◌, ◌<◌, ◌≤◌, ◌++◌, ℕ, List, length, take, Bool, true, false}
use Rattle.ti_port.specs.Port.{Rose}

-- the sink got the whole text
abbrev pub Grew : List ℕ → List ℕ → List ℕ → Type 0
Grew text before now = now ≡ before ++ text

-- the sink got a front of the text, which lacks at least its last byte
abbrev pub GrewInPart : List ℕ → List ℕ → List ℕ → Type 0
GrewInPart text before now = (n : ℕ) × (n < length text) × (now ≡ before ++ take n text)

-- after a put of the whole text, or where a put failed
abbrev pub Puts : Bool → List ℕ → List ℕ → List ℕ → Type 0
Puts true text = Grew text
Puts false text = GrewInPart text

-- only a failed put counts
abbrev pub PutsCount : Bool → ℕ → ℕ → Type 0
PutsCount true before now = now ≡ before
PutsCount false before now = Rose before now × (before ≤ now)
