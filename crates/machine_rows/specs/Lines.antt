-- Texts line by line.
use Rattle.std.specs.Prelude.{ℕ, List, ◌++◌, flat_map, codes}

-- each of these with a line feed behind it
abbrev pub lines : List (List ℕ) → List ℕ
lines texts = flat_map (λ text. text ++ codes "\n") texts
