-- How a fault is told: by its name, and the offset at which it shows.
use Rattle.std.specs.Prelude.{ℕ, List, ◌∷◌, ◌++◌, Option, Some, None, codes, decimal}
use Rattle.classfile_items.specs.declared.fault.ReadClassFault.{ReadClassFault}
use Rattle.classfile_items.specs.declared.fault.ReadClassFault.TheVariants.{Magic, Version, Truncated, Trailing, BadTag, BadIndex, BadText, BadLength, BadMember, Floating, Unsupported, BadCode, Duplicate, Memory}

-- a name, a space and an offset
abbrev pub named_at : List ℕ → ℕ → List ℕ
named_at name offset = name ++ 32 ∷ decimal offset

-- the text of a fault; reading never finds `Memory`
abbrev pub fault_text : ReadClassFault → List ℕ
fault_text (Magic offset) = named_at (codes "magic") offset
fault_text (Version offset) = named_at (codes "version") offset
fault_text (Truncated offset) = named_at (codes "truncated") offset
fault_text (Trailing offset) = named_at (codes "trailing") offset
fault_text (BadTag offset) = named_at (codes "bad-tag") offset
fault_text (BadIndex offset) = named_at (codes "bad-index") offset
fault_text (BadText offset) = named_at (codes "bad-text") offset
fault_text (BadLength offset) = named_at (codes "bad-length") offset
fault_text (BadMember offset) = named_at (codes "bad-member") offset
fault_text (Floating offset) = named_at (codes "floating") offset
fault_text (Unsupported offset) = named_at (codes "unsupported") offset
fault_text (BadCode offset) = named_at (codes "bad-code") offset
fault_text (Duplicate offset) = named_at (codes "duplicate") offset
fault_text Memory = codes "memory"

-- a name, and an offset if there is one
abbrev pub shown : List ℕ → Option ℕ → List ℕ
shown name (Some offset) = named_at name offset
shown name None = name
