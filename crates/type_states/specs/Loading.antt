-- An operand stack as the code holds it.
use Rattle.std.specs.Prelude.{◌≡◌, ℕ, ◌<◌, ◌^◌, List, map, length}
use Rattle.type_frames.specs.declared.seen.VTypeRef.{VTypeRef}
use Rattle.type_frames.specs.declared.vtype.VType.{VType}
use Rattle.type_frames.specs.Types.{expanded}
use Rattle.type_frames.specs.Seen.{type_seen}

-- these types from the bottom up, and their words
pub record IsStack (types : List VType) (stack : List VTypeRef) (words : ℕ) : Type 0 where
  pub types_are : map type_seen stack ≡ types
  pub words_are : words ≡ length (expanded types)
  pub short : words < 2 ^ 16
