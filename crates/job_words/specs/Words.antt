-- The words of a call. Behind the command stand pairs: two words, `--name` and a value that doesn't begin with `-`, or one word,
-- `--name=value`. Whatever has another shape is refused.
use Rattle.std.specs.Prelude.{ℕ, ◌+◌, List, [], ◌∷◌, map, filter, length, take, drop, Option, Some, None, option_map, unwrap_or, Bool, true, false, not, ◌&&◌, ◌||◌, ◌==◌, nat_le, nat_eq, bytes_eq, codes, if◌then◌else◌, find, position, slice_get}
use Rattle.std.specs.List.{list_all, list_any, starts_with}
use Rattle.std.specs.Option.{option_map_or, option_and_then}
use Rattle.ti_ids.specs.Maybe.{◌>>=◌}
use Rattle.ti_ids.specs.declared.limits.Limits.{Limits}
use Rattle.jv_names.specs.Names.{Name}
use Rattle.job_words.specs.Options.{Word, units_of, Command, RunCommand, ReplayCommand, MakeCommand, Often, Once, OnceOrMore, AnyTimes, OnceOr, Choice, choices, number, is_in, has_form}

-- ---- pairs

pub record Pair : Type 0 where
  pub name : Word
  pub value : Word

-- the pair in one word: what stands before and behind its first `=`
abbrev pub pair_in : Word → Option Pair
pair_in word = option_map (λ place. record { name = take place word; value = drop (place + 1) word }) (position (λ byte. byte == 61) word)

-- a value that stands in a word of its own doesn't begin with `-`
abbrev pub is_value : Word → Bool
is_value [] = true
is_value (byte ∷ bytes) = not (byte == 45)

abbrev pub onto : Pair → Option (List Pair) → Option (List Pair)
onto pair pairs = option_map (λ others. pair ∷ others) pairs

abbrev pub pairs_of : List Word → Option (List Pair)
pairs_of [] = Some []
pairs_of (word ∷ []) = option_map (λ pair. pair ∷ []) (pair_in word)
pairs_of (word ∷ (next ∷ words)) = elim (pair_in word) [
  | Some pair ↦ onto pair (pairs_of (next ∷ words))
  | None ↦ if is_value next then onto (record { name = word; value = next }) (pairs_of words) else None
]

-- ---- options as often as they may stand

-- the values of an option, in their order
abbrev pub values : Word → List Pair → List Word
values name pairs = map (λ p. p.value) (filter (λ p. bytes_eq p.name name) pairs)

abbrev pub stands_so : Often → List Word → Bool
stands_so Once found = length found == 1
stands_so OnceOrMore found = nat_le 1 (length found)
stands_so AnyTimes found = true
stands_so (OnceOr otherwise) found = nat_le (length found) 1

-- an option of the command stands as often as it may, and an option of another command doesn't stand at all
abbrev pub is_met : Command → List Pair → Choice → Bool
is_met command pairs choice =
    let found = values choice.name pairs in
    if choice.is_of command then stands_so choice.often found && list_all (has_form choice.form) found else length found == 0

-- the name is an option's
abbrev pub is_known : Pair → Bool
is_known pair = list_any (λ choice. bytes_eq choice.name pair.name) choices

abbrev pub are_accepted : Command → List Pair → Bool
are_accepted command pairs = list_all is_known pairs && list_all (is_met command pairs) choices

-- ---- what the words ask for

-- what a run and a replay are given; a class's name by its units, files by their names
pub record Given : Type 0 where
  pub main : Name
  pub classes : List Word
  pub donors : List Word
  pub agents : List Word
  pub limits : Limits

pub data Request : Type 0 where
  -- with so many workers
  RunRequest : Given → ℕ → Request
  -- by the schedule in the file of this name
  ReplayRequest : Given → Word → Request
  -- with this number and this size
  MakeRequest : ℕ → ℕ → Request

-- the first value of an option, which is there where it must be
abbrev pub value_of : Word → List Pair → Word
value_of name pairs = unwrap_or (slice_get (values name pairs) 0) []

abbrev pub otherwise : Often → ℕ
otherwise (OnceOr n) = n
otherwise _ = 0

-- the number that is taken where the option doesn't stand
abbrev pub default_of : Word → ℕ
default_of name = option_map_or (λ choice. otherwise choice.often) (find (λ choice. bytes_eq choice.name name) choices) 0

abbrev pub number_of : Word → List Pair → ℕ
number_of name pairs = unwrap_or (option_and_then number (slice_get (values name pairs) 0)) (default_of name)

abbrev pub limits_of : List Pair → Limits
limits_of pairs = record {
  steps = number_of (codes "--steps") pairs;
  lines = number_of (codes "--lines") pairs;
  output = number_of (codes "--output") pairs;
  heap = number_of (codes "--heap") pairs;
  slice = number_of (codes "--slice") pairs;
}

abbrev pub given_by : List Pair → Given
given_by pairs = record {
  main = units_of (value_of (codes "--main") pairs);
  classes = values (codes "--class") pairs;
  donors = values (codes "--donor") pairs;
  agents = values (codes "--agent") pairs;
  limits = limits_of pairs;
}

abbrev pub asked_by : Command → List Pair → Request
asked_by RunCommand pairs = RunRequest (given_by pairs) (number_of (codes "--workers") pairs)
asked_by ReplayCommand pairs = ReplayRequest (given_by pairs) (value_of (codes "--schedule") pairs)
asked_by MakeCommand pairs = MakeRequest (number_of (codes "--number") pairs) (number_of (codes "--size") pairs)

abbrev pub command_of : Word → Option Command
command_of word =
    if bytes_eq word (codes "run") then Some RunCommand
    else if bytes_eq word (codes "replay") then Some ReplayCommand
    else if bytes_eq word (codes "make") then Some MakeCommand
    else None

abbrev pub request_of : List Word → Option Request
request_of [] = None
request_of (first ∷ words) = do
  command ← command_of first
  pairs ← pairs_of words
  if are_accepted command pairs then Some (asked_by command pairs) else None

-- ---- whether a call asks for more than one worker

abbrev pub many : Word → Bool
many value = is_in 2 64 value

abbrev pub is_pair_of_many : Word → Bool
is_pair_of_many word = starts_with nat_eq word (codes "--workers=") && many (drop 10 word)

abbrev pub many_in : List Word → Bool
many_in [] = false
many_in (word ∷ []) = is_pair_of_many word
many_in (word ∷ (next ∷ words)) = is_pair_of_many word || (bytes_eq word (codes "--workers") && many next) || many_in (next ∷ words)

-- The first word is `run`, and a later one is `--workers` before a number from 2 to 64, or `--workers=` with such a number.
abbrev pub wants_many : List Word → Bool
wants_many [] = false
wants_many (first ∷ later) = bytes_eq first (codes "run") && many_in later
