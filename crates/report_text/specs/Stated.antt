-- The schedule that a text states, in the first of its lines that begins with `schedule`. The line is that word and
-- runs, each behind one space: an actor (`v`, `t` and a number, or `a` and a number), a colon, and the number of the
-- steps that it makes in a row. A number is from 1 to 999999999, with no leading zero, and neighbouring runs have
-- different actors. No other line is read, and the last line feed may be missing.
use Rattle.std.specs.Prelude.{ℕ, ◌+◌, ◌-◌, ◌*◌, List, [], ◌∷◌, Option, Some, None, Bool, true, false, not, ◌&&◌, ◌==◌, nat_lt, nat_le, if◌then◌else◌, length, codes, flat_map, replicate, bytes_eq, nat_eq}
use Rattle.std.specs.List.{list_all, starts_with}
use Rattle.ti_ids.specs.declared.actor.Actor.{Actor}
use Rattle.ti_ids.specs.declared.actor.Actor.TheVariants.{Vm, Thread, Agent}
use Rattle.ti_ids.specs.Actors.{same_actor}
use Rattle.ti_ids.specs.Maybe.{◌>>=◌}
use Rattle.jv_names.specs.Names.{parts}
use Rattle.report_text.specs.declared.run.Run.{Run}

abbrev pub is_digit : ℕ → Bool
is_digit byte = nat_le 48 byte && nat_le byte 57

-- the number that digits write behind a number
abbrev pub value_behind : ℕ → List ℕ → ℕ
value_behind front [] = front
value_behind front (digit ∷ digits) = value_behind (front * 10 + (digit - 48)) digits

-- one to nine digits, the first not 0
abbrev pub is_numeral : List ℕ → Bool
is_numeral [] = false
is_numeral (digit ∷ digits) = list_all is_digit (digit ∷ digits) && nat_lt 48 digit && nat_lt (length digits) 9

abbrev pub numeral : List ℕ → Option ℕ
numeral text = if is_numeral text then Some (value_behind 0 text) else None

abbrev pub stated_thread : List ℕ → Option Actor
stated_thread text = do
  number ← numeral text
  Some (Thread (record { 0 = number }))

abbrev pub stated_agent : List ℕ → Option Actor
stated_agent text = do
  number ← numeral text
  Some (Agent (record { 0 = number }))

abbrev pub stated_actor : List ℕ → Option Actor
stated_actor [] = None
stated_actor (kind ∷ number) =
    if bytes_eq (kind ∷ number) (codes "v") then Some Vm
    else if kind == 116 then stated_thread number
    else if kind == 97 then stated_agent number
    else None

-- an actor and a number, with a colon between them
abbrev pub stated_pair : List (List ℕ) → Option Run
stated_pair (actor ∷ number ∷ []) = do
  who ← stated_actor actor
  count ← numeral number
  Some (record { actor = who; count = count })
stated_pair _ = None

abbrev pub stated_runs : List (List ℕ) → Option (List Run)
stated_runs [] = Some []
stated_runs (word ∷ words) = do
  run ← stated_pair (parts 58 word)
  runs ← stated_runs words
  Some (run ∷ runs)

-- whether neighbouring runs have different actors
abbrev pub are_parted : List Run → Bool
are_parted [] = true
are_parted (run ∷ []) = true
are_parted (run ∷ (next ∷ runs)) = not (same_actor run.actor next.actor) && are_parted (next ∷ runs)

-- the actors of all steps
abbrev pub expanded : List Run → List Actor
expanded runs = flat_map (λ run. replicate run.count run.actor) runs

-- the word `schedule`, and a run behind each space
abbrev pub stated_words : List (List ℕ) → Option (List Actor)
stated_words [] = None
stated_words (word ∷ words) = if bytes_eq word (codes "schedule") then (stated_runs words >>= (λ runs. if are_parted runs then Some (expanded runs) else None)) else None

-- the first line that begins so
abbrev pub first_line : List ℕ → List (List ℕ) → Option (List ℕ)
first_line front [] = None
first_line front (text ∷ texts) = if starts_with nat_eq text front then Some text else first_line front texts

unfoldable pub stated : List ℕ → Option (List Actor)
stated text = do
  schedule ← first_line (codes "schedule") (parts 10 text)
  stated_words (parts 32 schedule)
