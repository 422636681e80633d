-- What is accepted is within its bounds.
use Rattle.std.proofs.Common.{◌≡◌, ◌∙◌, ◌≤◌, ◌+◌, ◌==◌, ℕ, zero, suc, Bool, true, false, ◌&&◌, cond, List, [], ◌∷◌, ◌++◌, length, length-append, length-take, length-drop, drop, Option, Some, None, ltb-false, refl, sym, ap, subst, arith}
use Rattle.jv_names.proofs.DescriptorPlaces.{and-left, and-right}
use Rattle.std.specs.Prelude.{slice_get, unwrap_or, nat_le, nat_lt, codes, Result, Ok, Err, if◌then◌else◌}
use Rattle.std.specs.List.{list_all}
use Rattle.std.specs.Option.{option_and_then, option_map_or}
use Rattle.ti_ids.specs.Maybe as maybe
use Rattle.ti_ids.specs.declared.limits.Limits.{Limits}
use Rattle.jv_names.specs.Names.{Name}
use Rattle.agent_types.specs.declared.agent.Agent as agent_type
use Rattle.machine_state.specs.Jobs.{Job, File}
use Rattle.job_words.specs.declared.input_limit.InputLimit.{InputLimit}
use Rattle.job_words.specs.declared.input_limit.InputLimit.TheVariants.{Classes, Donors, Agents, ClassBytes, AgentBytes, ScheduleBytes}
use Rattle.job_words.specs.declared.refusal.Refusal.TheVariants.{Usage, TooLarge}
use Rattle.job_words.specs.Options.{Word, Command, RunCommand, ReplayCommand, MakeCommand, Choice, choices, number, is_in}
use Rattle.job_words.specs.Words.{Pair, pairs_of, values, is_met, is_known, are_accepted, command_of, asked_by, Given, Request, RunRequest, ReplayRequest, MakeRequest, request_of}
use Rattle.job_words.specs.Refusals.{most}
use Rattle.job_words.specs.Fetches.{Admitted, ◌>>=◌, within, number_of_files, Files, fetched, totalled, Fetch, fetched_all, all_within, fetches, class_contents, donor_contents, agent_contents}
use Rattle.job_words.specs.Contents.{class_name, class_names, schedule_in}
use Rattle.machine_steps.specs.Results.{named, agent_file, agent_files, job_of, Task, RunTask, ReplayTask, MakeTask, task_of}
use Rattle.machine_steps.specs.World.{AgentReading}
use Rattle.machine_steps.specs.Bounds.{allows, IsBounded, IsBoundedTask, TasksAreBounded}

-- ---- the numbers of accepted words

abbrev lies : ℕ → ℕ → ℕ → Bool
lies least most n = nat_le least n && nat_le n most

value_lies : (least most otherwise : ℕ) (found : Option ℕ) → option_map_or (lies least most) found false ≡ true
    → lies least most (unwrap_or found otherwise) ≡ true
value_lies least most otherwise None e = absurd cc
value_lies least most otherwise (Some n) e = e

-- an option that may be missing stands once at most, with a number that lies so
abbrev stands_once : ℕ → ℕ → List Word → Bool
stands_once least most found = nat_le (length found) 1 && list_all (is_in least most) found

number_lies : (least most otherwise : ℕ) (found : List Word) → lies least most otherwise ≡ true → stands_once least most found ≡ true
    → lies least most (unwrap_or (option_and_then number (slice_get found 0)) otherwise) ≡ true
number_lies least most otherwise [] ok e = ok
number_lies least most otherwise (value ∷ others) ok e =
    let found : List Word = value ∷ others in
    let all : list_all (is_in least most) found ≡ true = and-right (nat_le (length found) 1) (list_all (is_in least most) found) e in
    value_lies least most otherwise (number value) (and-left (is_in least most value) (list_all (is_in least most) others) all)

-- an option that must stand does so once, with a number that lies so
abbrev stands_just_once : ℕ → ℕ → List Word → Bool
stands_just_once least most found = length found == 1 && list_all (is_in least most) found

given_lies : (least most otherwise : ℕ) (found : List Word) → stands_just_once least most found ≡ true
    → lies least most (unwrap_or (option_and_then number (slice_get found 0)) otherwise) ≡ true
given_lies least most otherwise [] e = absurd cc
given_lies least most otherwise (value ∷ others) e =
    let found : List Word = value ∷ others in
    let all : list_all (is_in least most) found ≡ true = and-right (length found == 1) (list_all (is_in least most) found) e in
    value_lies least most otherwise (number value) (and-left (is_in least most value) (list_all (is_in least most) others) all)

-- the limits that are given, but for the slice
record AreBounded (limits : Limits) : Type 0 where
  steps : allows (codes "--steps") limits.steps ≡ true
  lines : allows (codes "--lines") limits.lines ≡ true
  output : allows (codes "--output") limits.output ≡ true
  heap : allows (codes "--heap") limits.heap ≡ true

abbrev IsBoundedRequest : Request → Type 0
IsBoundedRequest (RunRequest given workers) =
    AreBounded given.limits × (allows (codes "--slice") given.limits.slice ≡ true) × (allows (codes "--workers") workers ≡ true)
IsBoundedRequest (ReplayRequest given name) = AreBounded given.limits
IsBoundedRequest (MakeRequest number size) = (allows (codes "--number") number ≡ true) × (allows (codes "--size") size ≡ true)

-- what holds of all choices holds of those behind the first ones
behind : (met : Choice → Bool) (n : ℕ) (all : List Choice) → list_all met all ≡ true → list_all met (drop n all) ≡ true
behind met zero all e = e
behind met (suc n) [] e = refl
behind met (suc n) (c ∷ others) e = behind met n others (and-right (met c) (list_all met others) e)

module _ (pairs : List Pair) where
  -- the choices from this one on are met by the pairs of a command that are accepted
  met_from : (command : Command) (n : ℕ) → are_accepted command pairs ≡ true → list_all (is_met command pairs) (drop n choices) ≡ true
  met_from command n ok =
      behind (is_met command pairs) n choices (and-right (list_all is_known pairs) (list_all (is_met command pairs) choices) ok)

  run_bounded : are_accepted RunCommand pairs ≡ true → IsBoundedRequest (asked_by RunCommand pairs)
  run_bounded ok =
      let met : Choice → Bool = is_met RunCommand pairs in
      let found : Word → List Word = λ name. values name pairs in (
        record {
          steps = number_lies 1 4000000 1000000 (found (codes "--steps")) refl
              (and-left (stands_once 1 4000000 (found (codes "--steps"))) (list_all met (drop 8 choices)) (met_from RunCommand 7 ok));
          lines = number_lies 1 100000 10000 (found (codes "--lines")) refl
              (and-left (stands_once 1 100000 (found (codes "--lines"))) (list_all met (drop 9 choices)) (met_from RunCommand 8 ok));
          output = number_lies 1 16777216 1048576 (found (codes "--output")) refl
              (and-left (stands_once 1 16777216 (found (codes "--output"))) (list_all met (drop 10 choices)) (met_from RunCommand 9 ok));
          heap = number_lies 64 16000000 1000000 (found (codes "--heap")) refl
              (and-left (stands_once 64 16000000 (found (codes "--heap"))) (list_all met (drop 11 choices)) (met_from RunCommand 10 ok));
        },
        number_lies 1 1000000 1000 (found (codes "--slice")) refl
            (and-left (stands_once 1 1000000 (found (codes "--slice"))) (list_all met (drop 7 choices)) (met_from RunCommand 6 ok)),
        number_lies 1 64 1 (found (codes "--workers")) refl
            (and-left (stands_once 1 64 (found (codes "--workers"))) (list_all met (drop 6 choices)) (met_from RunCommand 5 ok)),
      )

  replay_bounded : are_accepted ReplayCommand pairs ≡ true → IsBoundedRequest (asked_by ReplayCommand pairs)
  replay_bounded ok =
      let met : Choice → Bool = is_met ReplayCommand pairs in
      let found : Word → List Word = λ name. values name pairs in
      record {
        steps = number_lies 1 4000000 1000000 (found (codes "--steps")) refl
            (and-left (stands_once 1 4000000 (found (codes "--steps"))) (list_all met (drop 8 choices)) (met_from ReplayCommand 7 ok));
        lines = number_lies 1 100000 10000 (found (codes "--lines")) refl
            (and-left (stands_once 1 100000 (found (codes "--lines"))) (list_all met (drop 9 choices)) (met_from ReplayCommand 8 ok));
        output = number_lies 1 16777216 1048576 (found (codes "--output")) refl
            (and-left (stands_once 1 16777216 (found (codes "--output"))) (list_all met (drop 10 choices)) (met_from ReplayCommand 9 ok));
        heap = number_lies 64 16000000 1000000 (found (codes "--heap")) refl
            (and-left (stands_once 64 16000000 (found (codes "--heap"))) (list_all met (drop 11 choices)) (met_from ReplayCommand 10 ok));
      }

  make_bounded : are_accepted MakeCommand pairs ≡ true → IsBoundedRequest (asked_by MakeCommand pairs)
  make_bounded ok =
      let met : Choice → Bool = is_met MakeCommand pairs in
      let found : Word → List Word = λ name. values name pairs in (
        given_lies 0 999999999 0 (found (codes "--number"))
            (and-left (stands_just_once 0 999999999 (found (codes "--number"))) (list_all met (drop 12 choices)) (met_from MakeCommand 11 ok)),
        given_lies 1 10000 0 (found (codes "--size"))
            (and-left (stands_just_once 1 10000 (found (codes "--size"))) (list_all met (drop 13 choices)) (met_from MakeCommand 12 ok)),
      )

  asked_bounded : (command : Command) → are_accepted command pairs ≡ true → IsBoundedRequest (asked_by command pairs)
  asked_bounded RunCommand ok = run_bounded ok
  asked_bounded ReplayCommand ok = replay_bounded ok
  asked_bounded MakeCommand ok = make_bounded ok

  if_accepted : (command : Command) (ok : Bool) (request : Request) → are_accepted command pairs ≡ ok
      → (if ok then Some (asked_by command pairs) else None) ≡ Some request → IsBoundedRequest request
  if_accepted command true request is e =
      let same : asked_by command pairs ≡ request = cc in subst (λ (x : Request). IsBoundedRequest x) same (asked_bounded command is)
  if_accepted command false request is e = absurd cc

-- what is asked by the pairs of a command
abbrev asked_of : Command → List Pair → Option Request
asked_of command pairs = if are_accepted command pairs then Some (asked_by command pairs) else None

if_pairs : (command : Command) (pairs : Option (List Pair)) (request : Request) → maybe.◌>>=◌ pairs (asked_of command) ≡ Some request
    → IsBoundedRequest request
if_pairs command None request e = absurd cc
if_pairs command (Some pairs) request e = if_accepted pairs command (are_accepted command pairs) request refl e

if_command : (command : Option Command) (pairs : Option (List Pair)) (request : Request)
    → maybe.◌>>=◌ command (λ c. maybe.◌>>=◌ pairs (asked_of c)) ≡ Some request → IsBoundedRequest request
if_command None pairs request e = absurd cc
if_command (Some command) pairs request e = if_pairs command pairs request e

request_bounded : (words : List Word) (request : Request) → request_of words ≡ Some request → IsBoundedRequest request
request_bounded [] request e = absurd cc
request_bounded (first ∷ words) request e = if_command (command_of first) (pairs_of words) request e

-- ---- answers one after the other

-- the first has answered, and what follows goes by that
pub record Came {A B : Type 0} (first : Admitted A) (so : A → Admitted B) (last : B) : Type 0 where
  pub value : A
  pub is : first ≡ Ok value
  pub rest : so value ≡ Ok last

pub came : {A B : Type 0} (first : Admitted A) (so : A → Admitted B) (last : B) → (first >>= so) ≡ Ok last → Came first so last
came (Ok x) so last e = record { value = x; is = refl; rest = e }
came (Err refusal) so last e = absurd cc

-- ---- the numbers of files

within_by : (limit : InputLimit) (n m : ℕ) (over : Bool) → nat_lt (most limit) n ≡ over → cond over (Err (TooLarge limit n)) (Ok n) ≡ Ok m → n ≤ most limit
within_by limit n m true is e = absurd cc
within_by limit n m false is e = ltb-false (most limit) n is

within_few : (limit : InputLimit) (n m : ℕ) → within limit n ≡ Ok m → n ≤ most limit
within_few limit n m e = within_by limit n m (nat_lt (most limit) n) refl e

record AreFew (given : Given) : Type 0 where
  classes : length given.classes ≤ most Classes
  donors : length given.donors ≤ most Donors
  agents : length given.agents ≤ most Agents

counted_few : (given : Given) (n : ℕ) → number_of_files given ≡ Ok n → AreFew given
counted_few given n e =
    let a = came (within Classes (length given.classes)) _ n e in
    let b = came (within Donors (length given.donors)) _ n a.rest in
    let c = came (within Agents (length given.agents)) _ n b.rest in
    record {
      classes = within_few Classes (length given.classes) a.value a.is;
      donors = within_few Donors (length given.donors) b.value b.is;
      agents = within_few Agents (length given.agents) c.value c.is;
    }

-- ---- as many contents as fetches

fetched_length : (files : Files) (place total : ℕ) (ws : List Fetch) (contents : List (List ℕ)) → fetched_all files place total ws ≡ Ok contents
    → length contents ≡ length ws
fetched_length files place total [] contents e = let none : [] ≡ contents = cc in ap (λ (l : List (List ℕ)). length l) (sym none)
fetched_length files place total (w ∷ others) contents e =
    let a = came (fetched w.limit place (files place w.name)) _ contents e in
    let b = came (totalled place (total + length a.value)) _ contents a.rest in
    let c = came (fetched_all files (place + 1) b.value others) _ contents b.rest in
    let whole : a.value ∷ c.value ≡ contents = cc in
    ap (λ (l : List (List ℕ)). length l) (sym whole) ∙ ap (λ (n : ℕ). suc n) (fetched_length files (place + 1) b.value others c.value c.is)

all_length : (limit : InputLimit) (names : List Word) → length (all_within limit names) ≡ length names
all_length limit [] = refl
all_length limit (name ∷ names) = ap (λ (n : ℕ). suc n) (all_length limit names)

append_length : (xs ys zs : List Fetch) (a b c : ℕ) → length xs ≡ a → length ys ≡ b → length zs ≡ c → length (xs ++ ys ++ zs) ≡ a + (b + c)
append_length xs ys zs a b c x y z =
    let all : length (xs ++ ys ++ zs) ≡ length (xs ++ ys) + length zs = length-append (xs ++ ys) zs in
    let front : length (xs ++ ys) ≡ length xs + length ys = length-append xs ys in omega (arith, all, front, x, y, z)

fetches_length : (given : Given) → length (fetches given) ≡ length given.classes + (length given.donors + length given.agents)
fetches_length given =
    append_length (all_within ClassBytes given.classes) (all_within ClassBytes given.donors) (all_within AgentBytes given.agents)
    (length given.classes) (length given.donors) (length given.agents)
    (all_length ClassBytes given.classes) (all_length ClassBytes given.donors) (all_length AgentBytes given.agents)

class_length : (place : ℕ) (earlier : List Name) (contents : List (List ℕ)) (names : List Name) → class_names place earlier contents ≡ Ok names
    → length (named names contents) ≡ length contents
class_length place earlier [] names e =
    let none : [] ≡ names = cc in ap (λ (l : List Name). length (named l [])) (sym none)
class_length place earlier (bytes ∷ others) names e =
    let a = came (class_name place earlier bytes) _ names e in
    let b = came (class_names (place + 1) (a.value ∷ earlier) others) _ names a.rest in
    let whole : a.value ∷ b.value ≡ names = cc in
    ap (λ (l : List Name). length (named l (bytes ∷ others))) (sym whole)
    ∙ ap (λ (n : ℕ). suc n) (class_length (place + 1) (a.value ∷ earlier) others b.value b.is)

module _ (read_agent : AgentReading) where
  agents_length : (donors place : ℕ) (contents : List (List ℕ)) (agents : List agent_type.Agent) → agent_files read_agent donors place contents ≡ Ok agents
      → length agents ≡ length contents
  agents_length donors place [] agents e = let none : [] ≡ agents = cc in ap (λ (l : List agent_type.Agent). length l) (sym none)
  agents_length donors place (bytes ∷ others) agents e =
      let a = came (agent_file read_agent donors place bytes) _ agents e in
      let b = came (agent_files read_agent donors (place + 1) others) _ agents a.rest in
      let whole : a.value ∷ b.value ≡ agents = cc in
      ap (λ (l : List agent_type.Agent). length l) (sym whole) ∙ ap (λ (n : ℕ). suc n) (agents_length donors (place + 1) others b.value b.is)

  -- ---- jobs and tasks

  job_bounded : (given : Given) (contents : List (List ℕ)) (job : Job) → AreBounded given.limits → AreFew given
      → length contents ≡ length (fetches given)
      → job_of read_agent given contents ≡ Ok job → IsBounded job
  job_bounded given contents job limits few long e =
      let a = came (class_names 1 [] (class_contents given contents)) _ job e in
      let b = came (agent_files read_agent (length given.donors) 1 (agent_contents given contents)) _ job a.rest in
      let made : Job =
      record {
        main = given.main;
        files = named a.value (class_contents given contents);
        donors = donor_contents given contents;
        agents = b.value;
        limits = given.limits;
      } in
      let whole : made ≡ job = cc in
      let front : ℕ = length given.classes + length given.donors in
      subst (λ (x : Job). IsBounded x) whole (record {
        steps = limits.steps;
        lines = limits.lines;
        output = limits.output;
        heap = limits.heap;
        files = omega (
          arith,
          few.classes,
          class_length 1 [] (class_contents given contents) a.value a.is,
          length-take (length given.classes) contents,
        );
        donors = omega (arith, few.donors, length-take (length given.donors) (drop (length given.classes) contents));
        agents = omega (
          arith,
          few.agents,
          agents_length (length given.donors) 1 (agent_contents given contents) b.value b.is,
          length-drop front contents,
          long,
          fetches_length given,
        );
      })

  -- its slice is the one that is given
  with_slice : (given : Given) (contents : List (List ℕ)) (job : Job) → job_of read_agent given contents ≡ Ok job
      → allows (codes "--slice") given.limits.slice ≡ true → allows (codes "--slice") job.limits.slice ≡ true
  with_slice given contents job e is =
      let a = came (class_names 1 [] (class_contents given contents)) _ job e in
      let b = came (agent_files read_agent (length given.donors) 1 (agent_contents given contents)) _ job a.rest in
      let made : Job =
      record {
        main = given.main;
        files = named a.value (class_contents given contents);
        donors = donor_contents given contents;
        agents = b.value;
        limits = given.limits;
      } in
      let whole : made ≡ job = cc in
      subst (λ (x : Job). allows (codes "--slice") x.limits.slice ≡ true) whole is

  task_bounded : (files : Files) (request : Request) (task : Task) → IsBoundedRequest request → task_of read_agent files request ≡ Ok task
      → IsBoundedTask task
  task_bounded files (RunRequest given workers) task limits e =
      let a = came (number_of_files given) _ task e in
      let b = came (fetched_all files 1 0 (fetches given)) _ task a.rest in
      let c = came (job_of read_agent given b.value) _ task b.rest in
      let long = fetched_length files 1 0 (fetches given) b.value b.is in
      let bounded = job_bounded given b.value c.value limits.0 (counted_few given a.value a.is) long c.is in
      let whole : RunTask c.value workers ≡ task = cc in
      subst (λ (x : Task). IsBoundedTask x) whole (bounded, with_slice given b.value c.value c.is limits.1, limits.2)
  task_bounded files (ReplayRequest given name) task limits e =
      let a = came (number_of_files given) _ task e in
      let b = came (fetched_all files 1 0 (fetches given)) _ task a.rest in
      let c = came (fetched ScheduleBytes (a.value + 1) (files (a.value + 1) name)) _ task b.rest in
      let d = came (job_of read_agent given b.value) _ task c.rest in
      let f = came (schedule_in c.value) _ task d.rest in
      let long = fetched_length files 1 0 (fetches given) b.value b.is in
      let bounded = job_bounded given b.value d.value limits (counted_few given a.value a.is) long d.is in
      let whole : ReplayTask d.value f.value ≡ task = cc in
      subst (λ (x : Task). IsBoundedTask x) whole bounded
  task_bounded files (MakeRequest number size) task limits e =
      let whole : MakeTask number size ≡ task = cc in subst (λ (x : Task). IsBoundedTask x) whole limits

  if_request : (files : Files) (request : Option Request) (task : Task) → ((r : Request) → request ≡ Some r → IsBoundedRequest r)
      → (elim request as (λ _. Admitted Task) [ None ↦ Err Usage | Some r ↦ task_of read_agent files r ]) ≡ Ok task → IsBoundedTask task
  if_request files None task limits e = absurd cc
  if_request files (Some request) task limits e = task_bounded files request task (limits request refl) e

pub tasks_are_bounded : TasksAreBounded
tasks_are_bounded read_agent words files task e =
    if_request read_agent files (request_of words) task (λ request is. request_bounded words request is) e
