-- Words of calls, and what they ask for.
use Rattle.std.specs.Prelude.{◌≡◌, ℕ, List, [], ◌∷◌, ◌++◌, Some, is_none, Bool, true, not, ◌&&◌, codes}
use Rattle.std.specs.List.{list_all}
use Rattle.ti_ids.specs.declared.limits.Limits.{Limits}
use Rattle.job_words.specs.Options.{Word}
use Rattle.job_words.specs.Words.{Given, Request, RunRequest, ReplayRequest, MakeRequest, request_of}

abbrev pub is_refused : List Word → Bool
is_refused words = is_none (request_of words)

abbrev pub Asks : List Word → Request → Type 0
Asks words request = request_of words ≡ Some request

-- ---- calls

-- of one class, which are accepted
abbrev pub job : List Word
job = codes "--main" ∷ codes "Add" ∷ codes "--class" ∷ codes "Add.class" ∷ []

abbrev pub run : List Word
run = codes "run" ∷ job

abbrev pub replay : List Word
replay = codes "replay" ∷ (job ++ codes "--schedule" ∷ codes "s" ∷ [])

abbrev pub make : List Word
make = codes "make" ∷ codes "--number" ∷ codes "0" ∷ codes "--size" ∷ codes "1" ∷ []

-- what they ask for, with these limits
abbrev pub with_limits : Limits → Given
with_limits limits = record { main = codes "Add"; classes = codes "Add.class" ∷ []; donors = []; agents = []; limits = limits }

-- those that stand where none are given
abbrev pub no_limits : Limits
no_limits = record { steps = 1000000; lines = 10000; output = 1048576; heap = 1000000; slice = 1000 }

abbrev pub no_limits_given : Given
no_limits_given = with_limits no_limits

-- ---- ranges

-- an option that stands behind these words, and words for a number just below its range, the least one, the greatest one, and one just above
pub record Range : Type 0 where
  pub before : List Word
  pub option : Word
  pub below : Word
  pub least : Word
  pub greatest : Word
  pub above : Word

abbrev pub with_number : Range → Word → List Word
with_number range number = range.before ++ range.option ∷ number ∷ []

abbrev pub is_kept : Range → Bool
is_kept range =
    is_refused (with_number range range.below) && not (is_refused (with_number range range.least)) && not (is_refused (with_number range range.greatest)) && is_refused (with_number range range.above)

abbrev pub number : List Word
number = codes "make" ∷ codes "--size" ∷ codes "1" ∷ []

abbrev pub size : List Word
size = codes "make" ∷ codes "--number" ∷ codes "0" ∷ []

abbrev pub ranges : List Range
ranges =
    record { before = run; option = codes "--workers"; below = codes "0"; least = codes "1"; greatest = codes "64"; above = codes "65" }
    ∷ record { before = run; option = codes "--slice"; below = codes "0"; least = codes "1"; greatest = codes "1000000"; above = codes "1000001" }
    ∷ record { before = run; option = codes "--steps"; below = codes "0"; least = codes "1"; greatest = codes "4000000"; above = codes "4000001" }
    ∷ record { before = run; option = codes "--lines"; below = codes "0"; least = codes "1"; greatest = codes "100000"; above = codes "100001" }
    ∷ record { before = run; option = codes "--output"; below = codes "0"; least = codes "1"; greatest = codes "16777216"; above = codes "16777217" }
    ∷ record { before = run; option = codes "--heap"; below = codes "63"; least = codes "64"; greatest = codes "16000000"; above = codes "16000001" }
    -- a number from 0 on has none below it, and nine digits at most
    ∷ record { before = number; option = codes "--number"; below = codes "-1"; least = codes "0"; greatest = codes "999999999"; above = codes "1000000000" }
    ∷ record { before = size; option = codes "--size"; below = codes "0"; least = codes "1"; greatest = codes "10000"; above = codes "10001" }
    ∷ []

-- ---- names of classes

abbrev pub with_main : Word → List Word
with_main name = codes "run" ∷ codes "--class=Add.class" ∷ (codes "--main=" ++ name) ∷ []

-- `Ä` and a face, in UTF-8 and in UTF-16
abbrev pub two_letters : Word
two_letters = 195 ∷ 132 ∷ 240 ∷ 159 ∷ 152 ∷ 128 ∷ []

abbrev pub two_letters_in_units : List ℕ
two_letters_in_units = 196 ∷ 55357 ∷ 56832 ∷ []

abbrev pub with_main_in_units : List ℕ → Given
with_main_in_units name = record { main = name; classes = codes "Add.class" ∷ []; donors = []; agents = []; limits = no_limits }

-- ---- many files

-- in both shapes of a pair, in any order; a value may have `=`, be empty, and behind `=` begin with `-`
abbrev pub many_files : List Word
many_files =
    codes "run" ∷ codes "--agent=a" ∷ codes "--donor" ∷ codes "d" ∷ codes "--class=x=y" ∷ codes "--class" ∷ codes "" ∷ codes "--main" ∷ codes "a/B" ∷ codes "--class=-z" ∷ codes "--class=" ∷ codes "--donor=e" ∷ codes "--agent" ∷ codes "b=c" ∷ []

abbrev pub many_files_given : Given
many_files_given = record {
  main = codes "a/B";
  classes = codes "x=y" ∷ codes "" ∷ codes "-z" ∷ codes "" ∷ [];
  donors = codes "d" ∷ codes "e" ∷ [];
  agents = codes "a" ∷ codes "b=c" ∷ [];
  limits = no_limits;
}

-- ---- what is asked

pub record RequestsAsked : Type 0 where
  pub plain : Asks run (RunRequest no_limits_given 1)
  pub least :
      Asks (run ++ codes "--workers=1" ∷ codes "--slice=1" ∷ codes "--steps=1" ∷ codes "--lines=1" ∷ codes "--output=1" ∷ codes "--heap=64" ∷ []) (RunRequest (with_limits (record { steps = 1; lines = 1; output = 1; heap = 64; slice = 1 })) 1)
  pub greatest :
      Asks (codes "run" ∷ codes "--heap=16000000" ∷ codes "--output=16777216" ∷ codes "--lines=100000" ∷ codes "--steps=4000000" ∷ codes "--slice=1000000" ∷ codes "--workers=64" ∷ job) (RunRequest (with_limits (record { steps = 4000000; lines = 100000; output = 16777216; heap = 16000000; slice = 1000000 })) 64)
  pub files : Asks many_files (RunRequest many_files_given 1)
  pub name : Asks (with_main two_letters) (RunRequest (with_main_in_units two_letters_in_units) 1)
  pub replayed : Asks replay (ReplayRequest no_limits_given (codes "s"))
  pub replayed_within : Asks (replay ++ codes "--steps" ∷ codes "7" ∷ codes "--heap" ∷ codes "90" ∷ []) (ReplayRequest (with_limits (record { steps = 7; lines = 10000; output = 1048576; heap = 90; slice = 1000 })) (codes "s"))
  pub made : Asks make (MakeRequest 0 1)
  pub made_greatest : Asks (codes "make" ∷ codes "--size" ∷ codes "10000" ∷ codes "--number" ∷ codes "999999999" ∷ []) (MakeRequest 999999999 10000)
  -- each option is accepted from its least number to its greatest, and no further
  pub ranges_kept : list_all is_kept ranges ≡ true
