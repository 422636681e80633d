-- Which accepted words ask for more than one worker.
use Rattle.std.proofs.Common.{◌≡◌, ◌∙◌, ℕ, ◌≤◌, List, [], ◌∷◌, length, drop, Option, Some, None, Bool, true, false, ◌&&◌, ◌||◌, zero, suc, refl, sym, ap, subst, arith}
use Rattle.jv_names.proofs.DescriptorPlaces.{and-left, and-right}
use Rattle.std.specs.Prelude.{slice_get, unwrap_or, nat_le, codes, bytes_eq, if◌then◌else◌}
use Rattle.std.specs.List.{list_any, list_all}
use Rattle.std.specs.Option.{option_and_then, option_map_or}
use Rattle.std.proofs.lemmas.Bool.{leb-true, false≢true}
use Rattle.std.proofs.Math.Bool.{and-true}
use Rattle.ti_ids.specs.Maybe.{◌>>=◌}
use Rattle.job_words.specs.Options.{Word, Command, RunCommand, ReplayCommand, MakeCommand, Choice, choices, number, is_in}
use Rattle.job_words.specs.Words.{Pair, pairs_of, many, values, is_met, is_known, are_accepted, number_of, command_of, asked_by, wants_many, Request}
use Rattle.job_words.specs.WordLaws.{asks_many, ManyAreMany}
use Rattle.job_words.proofs.WorkerWords.{workers, is_many, or_none, counts}

-- ---- accepted pairs

named_value : (p : Pair) (pairs : List Pair) (named : Bool) → named ≡ bytes_eq p.name workers → list_any is_many pairs ≡ list_any many (values workers pairs)
    → list_any is_many (p ∷ pairs) ≡ list_any many (values workers (p ∷ pairs))
named_value p pairs true e rest = rw (sym e) (ap (λ l. many p.value || l) rest)
named_value p pairs false e rest = rw (sym e) rest

-- one of the values asks for many workers
named_values : (pairs : List Pair) → list_any is_many pairs ≡ list_any many (values workers pairs)
named_values [] = refl
named_values (p ∷ pairs) = named_value p pairs (bytes_eq p.name workers) refl (named_values pairs)

-- a number of workers that is accepted is many from 2 on
many_number : (value : Word) (found : Option ℕ) → found ≡ number value → option_map_or (λ n. nat_le 1 n && nat_le n 64) found false ≡ true → many value ≡ nat_le 2 (unwrap_or found 1)
many_number value None e ok = absurd (false≢true ok)
many_number value (Some n) e ok = rw (sym e, and-right (nat_le 1 n) (nat_le n 64) ok) (and-true (nat_le 2 n))

accepted_values : (found : List Word) → (nat_le (length found) 1 && list_all (is_in 1 64) found) ≡ true → list_any many found ≡ nat_le 2 (unwrap_or (option_and_then number (slice_get found 0)) 1)
accepted_values [] ok = refl
accepted_values (value ∷ []) ok = or_none (many value) ∙ many_number value (number value) refl (and-left (is_in 1 64 value) true (and-right true (is_in 1 64 value && true) ok))
accepted_values (value ∷ (next ∷ others)) ok =
    let found : List Word = value ∷ (next ∷ others) in
    let few : length found ≤ 1 = leb-true (length found) 1 (and-left (nat_le (length found) 1) (list_all (is_in 1 64) found) ok) in
    absurd (omega arith)

-- what holds of all choices holds of those behind the first ones
behind_first : (met : Choice → Bool) (n : ℕ) (all : List Choice) → list_all met all ≡ true → list_all met (drop n all) ≡ true
behind_first met zero all e = e
behind_first met (suc n) [] e = refl
behind_first met (suc n) (c ∷ others) e = behind_first met n others (and-right (met c) (list_all met others) e)

accepted : (pairs : List Pair) → are_accepted RunCommand pairs ≡ true → list_any is_many pairs ≡ nat_le 2 (number_of workers pairs)
accepted pairs ok =
    let met : Choice → Bool = is_met RunCommand pairs in
    let behind = behind_first met 5 choices (and-right (list_all is_known pairs) (list_all met choices) ok) in
    let found : List Word = values workers pairs in
    named_values pairs ∙ accepted_values found (and-left (nat_le (length found) 1 && list_all (is_in 1 64) found) (list_all met (drop 6 choices)) behind)

-- ---- requests

-- the command of a first word that is `run`, or `replay`, or `make`
abbrev command_by : Bool → Bool → Bool → Option Command
command_by run replay make = if run then Some RunCommand else if replay then Some ReplayCommand else if make then Some MakeCommand else None

is_run : (run replay make : Bool) → command_by run replay make ≡ Some RunCommand → run ≡ true
is_run true replay make e = refl
is_run false true make e = absurd cc
is_run false false true e = absurd cc
is_run false false false e = absurd cc

is_replay : (run replay make : Bool) → command_by run replay make ≡ Some ReplayCommand → run ≡ false
is_replay true replay make e = absurd cc
is_replay false replay make e = refl

is_make : (run replay make : Bool) → command_by run replay make ≡ Some MakeCommand → run ≡ false
is_make true replay make e = absurd cc
is_make false replay make e = refl

-- the request of pairs that are accepted
taken : (command : Command) (pairs : List Pair) (request : Request) (ok : Bool) → ok ≡ are_accepted command pairs → (if ok then Some (asked_by command pairs) else None) ≡ Some request
    → (are_accepted command pairs ≡ true) × (asked_by command pairs ≡ request)
taken command pairs request true is e = (sym is, cc)
taken command pairs request false is e = absurd cc

abbrev run_word : Word → Bool
run_word first = bytes_eq first (codes "run")

abbrev replay_word : Word → Bool
replay_word first = bytes_eq first (codes "replay")

abbrev make_word : Word → Bool
make_word first = bytes_eq first (codes "make")

asked : (first : Word) (words : List Word) (pairs : List Pair) (command : Command) (request : Request) → command_of first ≡ Some command → pairs_of words ≡ Some pairs
    → (are_accepted command pairs ≡ true) × (asked_by command pairs ≡ request) → wants_many (first ∷ words) ≡ asks_many request
asked first words pairs RunCommand request named found is =
    subst (λ r. wants_many (first ∷ words) ≡ asks_many r) is.1 (rw (is_run (run_word first) (replay_word first) (make_word first) named) (counts words pairs found ∙ accepted pairs is.0))
asked first words pairs ReplayCommand request named found is =
    subst (λ r. wants_many (first ∷ words) ≡ asks_many r) is.1 (rw (is_replay (run_word first) (replay_word first) (make_word first) named) refl)
asked first words pairs MakeCommand request named found is =
    subst (λ r. wants_many (first ∷ words) ≡ asks_many r) is.1 (rw (is_make (run_word first) (replay_word first) (make_word first) named) refl)

asked_from : (first : Word) (words : List Word) (pairs : Option (List Pair)) (command : Option Command) (request : Request) → command_of first ≡ command → pairs_of words ≡ pairs
    → (command >>= λ c. pairs >>= λ ps. if are_accepted c ps then Some (asked_by c ps) else None) ≡ Some request → wants_many (first ∷ words) ≡ asks_many request
asked_from first words pairs None request named found e = absurd cc
asked_from first words None (Some command) request named found e = absurd cc
asked_from first words (Some pairs) (Some command) request named found e = asked first words pairs command request named found (taken command pairs request (are_accepted command pairs) refl e)

pub many_are_many : ManyAreMany
many_are_many [] request e = absurd cc
many_are_many (first ∷ words) request e = asked_from first words (pairs_of words) (command_of first) request refl refl e
