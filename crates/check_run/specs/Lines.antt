-- How an answer is told.
use Rattle.std.specs.Prelude.{ℕ, Bool, true, false, ◌<◌, List, [], ◌∷◌, ◌++◌, length, Option, None, Some, codes, decimal}
use Rattle.classfile_items.specs.FaultTexts.{fault_text}
use Rattle.check_run.specs.declared.check.Checked.TheVariants.{Accepted, Refused}
use Rattle.check_run.specs.Checks.{IsClassFile, Tells}
use Rattle.check_run.specs.declared.line.Answer.{Answer}
use Rattle.check_run.specs.declared.line.Answer.TheVariants.{Read, Absent, TooLarge, Unreadable}

abbrev pub answer_text : Answer → List ℕ
answer_text (Read (Accepted count)) = codes "accepted " ++ decimal count
answer_text (Read (Refused fault)) = fault_text fault
answer_text Absent = codes "absent"
answer_text TooLarge = codes "too-large"
answer_text Unreadable = codes "unreadable"

-- a name, a space, what is told of it, and a line feed
abbrev pub joined : List ℕ → List ℕ → List ℕ
joined name text = name ++ 32 ∷ (text ++ 10 ∷ [])

abbrev pub line_of : List ℕ → Answer → List ℕ
line_of name answer = joined name (answer_text answer)

-- What is said of a file of this content, or of none. A store may fail to tell.
abbrev pub Says : Option (List ℕ) → Answer → Type 0
Says (Some bytes) (Read checked) = Tells bytes checked
Says (Some bytes) TooLarge = 1048576 < length bytes
Says None Absent = Unit {0}
Says file Unreadable = Unit {0}
Says file answer = ⊥

abbrev pub is_accepted : Answer → Bool
is_accepted (Read (Accepted count)) = true
is_accepted answer = false

-- the file is there, and is a class file
abbrev pub IsAccepted : Option (List ℕ) → Type 0
IsAccepted None = ⊥
IsAccepted (Some bytes) = IsClassFile bytes
