-- What is said of many files.
use Rattle.std.specs.Prelude.{◌≡◌, ◌⊎◌, ℕ, ◌<◌, ◌≤◌, Bool, List, Option, None, Some, IfSome, All, length, take, map, flat_map}
use Rattle.std.specs.List.{list_all}
use Rattle.std.specs.Io.KnownBytes.{Appends}
use Rattle.ti_port.specs.Port.{Rose}
use Rattle.check_run.specs.declared.status.Status.{Status}
use Rattle.check_run.specs.declared.status.Status.TheVariants.{WriteFault, OutOfMemory}
use Rattle.check_run.specs.declared.line.Answer.{Answer}
use Rattle.check_run.specs.declared.line.Answer.TheVariants.{Unreadable}
use Rattle.check_run.specs.Lines.{Says, IsAccepted, is_accepted, line_of}
use Rattle.check_run.specs.Words.{Asks}

-- a line could not be written, or memory ran out
abbrev pub IsFault : Status → Type 0
IsFault status = (status ≡ WriteFault) ⊎ (status ≡ OutOfMemory)

-- each of these names has a class file, where the store tells
abbrev pub AreAccepted : Option (List ℕ → Option (List ℕ)) → List (List ℕ) → Type 0
AreAccepted None names = Unit {0}
AreAccepted (Some files) names = All (λ name. IsAccepted (files name)) names

-- The words name files, and each is a class file.
abbrev pub AcceptsAll : Option (List ℕ → Option (List ℕ)) → List (List ℕ) → Type 0
AcceptsAll files words = (times : ℕ) × (names : List (List ℕ)) × Asks words times names × AreAccepted files names

-- a name, and what is told of it
abbrev pub Told : Type 0
Told = List ℕ × Answer

-- it is said of the file of this name, where the store tells
abbrev pub IsSaid : Option (List ℕ → Option (List ℕ)) → Told → Type 0
IsSaid files told = IfSome files (λ files. Says (files told.0) told.1)

-- a file is told to be unreadable only where a fetch failed, of this file or another
abbrev pub IsReadable : ℕ → ℕ → Told → Type 0
IsReadable faults now told = told.1 ≡ Unreadable → Rose faults now

abbrev pub told_lines : List Told → List ℕ
told_lines told = flat_map (λ t. line_of t.0 t.1) told

-- Each of these names is told of, in their order, and what the writer holds grows by their lines. It is known whether all
-- are accepted.
pub record TellsFiles (files : Option (List ℕ → Option (List ℕ))) (names : List (List ℕ)) (held holds : Option (List ℕ)) (faults now : ℕ) (all : Bool) : Type 0 where
  pub told : List Told
  pub in_order : map (λ t. t.0) told ≡ names
  pub said : All (IsSaid files) told
  pub readable : All (IsReadable faults now) told
  pub written : Appends held holds (told_lines told)
  pub accepted : all ≡ list_all (λ t. is_accepted t.1) told
  pub risen : faults ≤ now

-- The words ask for files, and each is told of.
pub record TellsAll (files : Option (List ℕ → Option (List ℕ))) (words : List (List ℕ)) (held holds : Option (List ℕ)) (faults now : ℕ) (all : Bool) : Type 0 where
  pub times : ℕ
  pub names : List (List ℕ)
  pub asked : Asks words times names
  pub tells : TellsFiles files names held holds faults now all

-- The first of these names are told of, and not all.
abbrev pub TellsFirst : Option (List ℕ → Option (List ℕ)) → List (List ℕ) → Option (List ℕ) → Option (List ℕ) → ℕ → ℕ → Type 0
TellsFirst files names held holds faults now = (count : ℕ) × (all : Bool) × (count < length names) × TellsFiles files (take count names) held holds faults now all

-- The words ask for files, and the first are told of, and not all.
abbrev pub TellsSome : Option (List ℕ → Option (List ℕ)) → List (List ℕ) → Option (List ℕ) → Option (List ℕ) → ℕ → ℕ → Type 0
TellsSome files words held holds faults now = (times : ℕ) × (names : List (List ℕ)) × Asks words times names × TellsFirst files names held holds faults now
