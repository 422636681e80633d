-- Which files words name, and what is found of them: their bytes, or the first refusal with its place. The numbers of files are looked at
-- before any fetch; files are fetched in the order classes, donors, agents.
use Rattle.std.specs.Prelude.{ℕ, ◌+◌, List, [], ◌∷◌, ◌++◌, length, map, take, drop, Option, Some, None, nat_lt, if◌then◌else◌, Result, Ok, Err}
use Rattle.job_words.specs.declared.input_limit.InputLimit.{InputLimit}
use Rattle.job_words.specs.declared.input_limit.InputLimit.TheVariants.{Classes, Donors, Agents, ClassBytes, AgentBytes, TotalBytes}
use Rattle.job_words.specs.declared.refusal.Refusal.{Refusal}
use Rattle.job_words.specs.declared.refusal.Refusal.TheVariants.{Absent, ReadFault, TooLarge}
use Rattle.job_words.specs.Options.{Word}
use Rattle.job_words.specs.Words.{Given}
use Rattle.job_words.specs.Refusals.{most}

-- what is asked for, or the first refusal
abbrev pub Admitted : Type 0 → Type 0
Admitted A = Result A Refusal

infixl 10 ◌>>=◌
abbrev pub ◌>>=◌ : {A B : Type 0} → Admitted A → (A → Admitted B) → Admitted B
(Ok x) >>= f = f x
(Err refusal) >>= f = Err refusal

-- ---- the numbers of files

abbrev pub within : InputLimit → ℕ → Admitted ℕ
within limit n = if nat_lt (most limit) n then Err (TooLarge limit n) else Ok n

-- how many classes, donors and agents there are together
abbrev pub number_of_files : Given → Admitted ℕ
number_of_files given =
    within Classes (length given.classes) >>= λ classes. within Donors (length given.donors) >>= λ donors.
    within Agents (length given.agents) >>= λ agents. Ok (classes + donors + agents)

-- ---- fetches

-- what is told of a name
pub data Fetched : Type 0 where
  Found : List ℕ → Fetched
  NotThere : Fetched
  Failed : Fetched

-- what the fetch at a place tells of a name; of two fetches of one name one may fail
abbrev pub Files : Type 0
Files = ℕ → Word → Fetched

-- those of a store that never fails: each name has these bytes, or is not there, at every place
abbrev pub steady : (Word → Option (List ℕ)) → Files
steady files place name = elim (files name) [ None ↦ NotThere | Some bytes ↦ Found bytes ]

-- the bytes of a file at a place, which are no more than a limit allows
abbrev pub fetched : InputLimit → ℕ → Fetched → Admitted (List ℕ)
fetched limit place NotThere = Err (Absent place)
fetched limit place Failed = Err (ReadFault place)
fetched limit place (Found bytes) = if nat_lt (most limit) (length bytes) then Err (TooLarge limit place) else Ok bytes

-- the total with those of a file at a place
abbrev pub totalled : ℕ → ℕ → Admitted ℕ
totalled place total = if nat_lt (most TotalBytes) total then Err (TooLarge TotalBytes place) else Ok total

-- the name of a file, and the limit for its bytes
pub record Fetch : Type 0 where
  pub limit : InputLimit
  pub name : Word

-- The contents of these files, fetched one after the other, or the first refusal: of each file its own comes before that of the total. The
-- first file has this place, and those before it have so many bytes.
abbrev pub fetched_all : Files → ℕ → ℕ → List Fetch → Admitted (List (List ℕ))
fetched_all files place total [] = Ok []
fetched_all files place total (fetch ∷ others) =
    fetched fetch.limit place (files place fetch.name) >>= λ bytes. totalled place (total + length bytes) >>= λ sum.
    fetched_all files (place + 1) sum others >>= λ rest. Ok (bytes ∷ rest)

abbrev pub all_within : InputLimit → List Word → List Fetch
all_within limit names = map (λ name. record { limit = limit; name = name }) names

-- classes, donors and agents
abbrev pub fetches : Given → List Fetch
fetches given = all_within ClassBytes given.classes ++ all_within ClassBytes given.donors ++ all_within AgentBytes given.agents

-- what was found, in the same order
abbrev pub class_contents : Given → List (List ℕ) → List (List ℕ)
class_contents given contents = take (length given.classes) contents

abbrev pub donor_contents : Given → List (List ℕ) → List (List ℕ)
donor_contents given contents = take (length given.donors) (drop (length given.classes) contents)

abbrev pub agent_contents : Given → List (List ℕ) → List (List ℕ)
agent_contents given contents = drop (length given.classes + length given.donors) contents
