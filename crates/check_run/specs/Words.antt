-- Which words are accepted, and what they ask for.
use Rattle.std.specs.Prelude.{◌≡◌, ◌≢◌, ◌⊎◌, ℕ, ◌≤◌, ◌<◌, ◌^◌, List, [], ◌∷◌, length, map, All, String, string_bytes, codes}
use Rattle.std.specs.declared.alloc.Global.{Global}
use Rattle.std.specs.Str.Parse.{IsNumeral, digits_value, without_leading_plus}

abbrev pub texts : List (String Global) → List (List ℕ)
texts words = map string_bytes words

-- a name that doesn't begin with a hyphen
abbrev pub IsFile : List ℕ → Type 0
IsFile [] = Unit {0}
IsFile (first ∷ rest) = first ≢ 45

-- the number that the digits write
abbrev pub times_value : List ℕ → ℕ
times_value word = digits_value 10 (without_leading_plus word)

-- a whole number from 1 on
abbrev pub IsTimes : List ℕ → Type 0
IsTimes word = IsNumeral 10 (without_leading_plus word) × (1 ≤ times_value word) × (times_value word < 2 ^ 32)

-- The words ask for these files, so many times each.
abbrev pub Names : List (List ℕ) → ℕ → List (List ℕ) → Type 0
Names words times files = ((words ≡ files) × (times ≡ 1)) ⊎ ((number : List ℕ) × (words ≡ codes "--times" ∷ number ∷ files) × IsTimes number × (times ≡ times_value number))

abbrev pub Asks : List (List ℕ) → ℕ → List (List ℕ) → Type 0
Asks words times files = Names words times files × (0 < length files) × All IsFile files

-- whatever the words ask for, it is these files, so many times each
abbrev pub AsksOnly : List (List ℕ) → ℕ → List (List ℕ) → Type 0
AsksOnly words times files = (n : ℕ) (names : List (List ℕ)) → Asks words n names → (n ≡ times) × (names ≡ files)

-- the words ask for nothing
abbrev pub AsksNothing : List (List ℕ) → Type 0
AsksNothing words = (times : ℕ) (files : List (List ℕ)) → ¬ Asks words times files

-- the words ask for something
abbrev pub AsksSome : List (List ℕ) → Type 0
AsksSome words = (times : ℕ) × (files : List (List ℕ)) × Asks words times files
