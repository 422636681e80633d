-- What is accepted has class files of classes that differ.
use Rattle.std.proofs.Common.{◌≡◌, ◌∙◌, ℕ, ◌+◌, Bool, true, false, cond, List, [], ◌∷◌, ◌++◌, length, Option, Some, None, refl, sym, ap, subst}
use Rattle.std.specs.Prelude.{◌||◌, map, bytes_eq, Result, Ok, Err}
use Rattle.std.specs.List.{AllByRecursion, IsDistinct, list_any}
use Rattle.std.proofs.lemmas.Map.Keys.{IsDistinct-cons}
use Rattle.std.proofs.lemmas.Slice.Eq.{bytes_eq-Decides}
use Rattle.ti_ids.specs.declared.actor.Actor.{Actor}
use Rattle.jv_names.specs.Names.{Name}
use Rattle.class_tree.specs.Trees.{Tree}
use Rattle.classfile_items.specs.declared.fault.ReadClassFault.{ReadClassFault}
use Rattle.classfile_items.specs.declared.fault.ReadClassFault.TheVariants.{Duplicate}
use Rattle.classfile_items.specs.Reading.{Checked}
use Rattle.classfile_read.specs.ClassReading.{class_of}
use Rattle.base_set.specs.BaseSet.{is_base}
use Rattle.agent_types.specs.declared.agent.Agent as agent_type
use Rattle.job_words.specs.Options.{Word}
use Rattle.job_words.specs.declared.input_limit.InputLimit.TheVariants.{ScheduleBytes}
use Rattle.job_words.specs.declared.refusal.Refusal.TheVariants.{BadClass, Usage}
use Rattle.job_words.specs.Words.{Given, Request, RunRequest, ReplayRequest, MakeRequest, request_of}
use Rattle.job_words.specs.Fetches.{Admitted, Files, number_of_files, class_contents, donor_contents, agent_contents, fetched, fetched_all, fetches}
use Rattle.job_words.specs.Contents.{own_name, own_name_offset, is_taken, free_name, class_name, class_names, schedule_in}
use Rattle.machine_state.specs.Jobs.{File, Job}
use Rattle.machine_steps.specs.World.{AgentReading}
use Rattle.machine_steps.specs.Results.{Task, RunTask, ReplayTask, MakeTask, agent_files, job_of, named, task_of}
use Rattle.machine_steps.specs.Bounds.{IsClassFile, HasOwnFiles, HasOwnFilesOfTask, TasksHaveOwnFiles}
use Rattle.machine_steps.proofs.Bounded.{came}

-- ---- one file

-- its class is none of these, and no base class
record IsFree (earlier : List Name) (bytes : List ℕ) (name : Name) : Type 0 where
  file : IsClassFile (record { name = name; bytes = bytes })
  fresh : list_any (bytes_eq name) earlier ≡ false

neither : (a b : Bool) → (a || b) ≡ false → (a ≡ false) × (b ≡ false)
neither true b e = absurd cc
neither false b e = (refl, e)

-- the tree that was read
abbrev as_tree : Result Tree ReadClassFault → Option Tree
as_tree found = elim found [ Ok t ↦ Some t | Err fault ↦ None ]

-- what is answered of the name of a class
abbrev answered : ℕ → Checked Name → Admitted Name
answered place found = elim found [ Err fault ↦ Err (BadClass place fault) | Ok name ↦ Ok name ]

free_by : (place : ℕ) (earlier : List Name) (bytes : List ℕ) (t : Tree) (name : Name) (taken : Bool) → class_of bytes ≡ Ok t
    → is_taken earlier (own_name t) ≡ taken → answered place (cond taken (Err (Duplicate (own_name_offset t))) (Ok (own_name t))) ≡ Ok name
    → IsFree earlier bytes name
free_by place earlier bytes t name true read is e = absurd cc
free_by place earlier bytes t name false read is e =
    let same : own_name t ≡ name = cc in
    let parts = neither (is_base (own_name t)) (list_any (bytes_eq (own_name t)) earlier) is in
    record {
      file = record { tree = t; read = ap as_tree read; named = same; own = subst (λ (n : Name). is_base n ≡ false) same parts.0 };
      fresh = subst (λ (n : Name). list_any (bytes_eq n) earlier ≡ false) same parts.1;
    }

read_by : (place : ℕ) (earlier : List Name) (bytes : List ℕ) (name : Name) (found : Result Tree ReadClassFault) → class_of bytes ≡ found
    → answered place (elim found as (λ _. Checked Name) [ Err fault ↦ Err fault | Ok t ↦ free_name earlier t ]) ≡ Ok name → IsFree earlier bytes name
read_by place earlier bytes name (Err fault) read e = absurd cc
read_by place earlier bytes name (Ok t) read e = free_by place earlier bytes t name (is_taken earlier (own_name t)) read refl e

is_free : (place : ℕ) (earlier : List Name) (bytes : List ℕ) (name : Name) → class_name place earlier bytes ≡ Ok name → IsFree earlier bytes name
is_free place earlier bytes name e = read_by place earlier bytes name (class_of bytes) refl e

-- ---- all of them

-- each is a class file, they differ, and none is of these names
record AreFree (earlier : List Name) (files : List File) : Type 0 where
  classes : AllByRecursion IsClassFile files
  distinct : IsDistinct bytes_eq (map (λ f. f.name) files)
  fresh : AllByRecursion (λ f. list_any (bytes_eq f.name) earlier ≡ false) files

differ : (a b : Name) → bytes_eq a b ≡ false → bytes_eq b a ≡ false
differ a b e = by (bytes_eq b a) refl
  where
    by : (same : Bool) → bytes_eq b a ≡ same → bytes_eq b a ≡ false
    by false is = is
    by true is =
        absurd (let back : bytes_eq a b ≡ true = (bytes_eq-Decides a b).1 (sym ((bytes_eq-Decides b a).0 is)) in cc)

others_differ : (name : Name) (earlier : List Name) (files : List File) → AllByRecursion (λ f. list_any (bytes_eq f.name) (name ∷ earlier) ≡ false) files
    → AllByRecursion (λ other. bytes_eq name other ≡ false) (map (λ (f : File). f.name) files)
others_differ name earlier [] h = tt
others_differ name earlier (f ∷ files) h =
    (differ f.name name (neither (bytes_eq f.name name) (list_any (bytes_eq f.name) earlier) h.0).0, others_differ name earlier files h.1)

earlier_fresh : (name : Name) (earlier : List Name) (files : List File) → AllByRecursion (λ f. list_any (bytes_eq f.name) (name ∷ earlier) ≡ false) files
    → AllByRecursion (λ f. list_any (bytes_eq f.name) earlier ≡ false) files
earlier_fresh name earlier [] h = tt
earlier_fresh name earlier (f ∷ files) h =
    ((neither (bytes_eq f.name name) (list_any (bytes_eq f.name) earlier) h.0).1, earlier_fresh name earlier files h.1)

are_free : (place : ℕ) (earlier : List Name) (contents : List (List ℕ)) (names : List Name) → class_names place earlier contents ≡ Ok names
    → AreFree earlier (named names contents)
unfolding IsDistinct
are_free place earlier [] names e =
    let none : [] ≡ names = cc in
    subst (λ (l : List Name). AreFree earlier (named l [])) none (record { classes = tt; distinct = tt; fresh = tt })
are_free place earlier (bytes ∷ others) names e =
    let a = came (class_name place earlier bytes) _ names e in
    let b = came (class_names (place + 1) (a.value ∷ earlier) others) _ names a.rest in
    let whole : a.value ∷ b.value ≡ names = cc in
    let first = is_free place earlier bytes a.value a.is in
    let rest = are_free (place + 1) (a.value ∷ earlier) others b.value b.is in
    let files = named b.value others in
    subst (λ (l : List Name). AreFree earlier (named l (bytes ∷ others))) whole (record {
      classes = (first.file, rest.classes);
      distinct = IsDistinct-cons bytes_eq a.value (map (λ (f : File). f.name) files) (others_differ a.value earlier files rest.fresh) rest.distinct;
      fresh = (first.fresh, earlier_fresh a.value earlier files rest.fresh);
    })

-- ---- jobs and tasks

module _ (read_agent : AgentReading) where
  job_free : (given : Given) (contents : List (List ℕ)) (job : Job) → job_of read_agent given contents ≡ Ok job → HasOwnFiles job
  job_free given contents job e =
      let a = came (class_names 1 [] (class_contents given contents)) _ job e in
      let b = came (agent_files read_agent (length given.donors) 1 (agent_contents given contents)) _ job a.rest in
      let made : Job =
      record {
        main = given.main;
        files = named a.value (class_contents given contents);
        donors = donor_contents given contents;
        agents = b.value;
        limits = given.limits;
      } in
      let whole : made ≡ job = cc in
      let free = are_free 1 [] (class_contents given contents) a.value a.is in
      subst (λ (x : Job). HasOwnFiles x) whole (record { classes = free.classes; distinct = free.distinct })

  task_free : (files : Files) (request : Request) (task : Task) → task_of read_agent files request ≡ Ok task → HasOwnFilesOfTask task
  task_free files (RunRequest given workers) task e =
      let a = came (number_of_files given) _ task e in
      let b = came (fetched_all files 1 0 (fetches given)) _ task a.rest in
      let c = came (job_of read_agent given b.value) _ task b.rest in
      let whole : RunTask c.value workers ≡ task = cc in
      subst (λ (x : Task). HasOwnFilesOfTask x) whole (job_free given b.value c.value c.is)
  task_free files (ReplayRequest given name) task e =
      let a = came (number_of_files given) _ task e in
      let b = came (fetched_all files 1 0 (fetches given)) _ task a.rest in
      let c = came (fetched ScheduleBytes (a.value + 1) (files (a.value + 1) name)) _ task b.rest in
      let d = came (job_of read_agent given b.value) _ task c.rest in
      let f = came (schedule_in c.value) _ task d.rest in
      let whole : ReplayTask d.value f.value ≡ task = cc in
      subst (λ (x : Task). HasOwnFilesOfTask x) whole (job_free given b.value d.value d.is)
  task_free files (MakeRequest number size) task e =
      let whole : MakeTask number size ≡ task = cc in subst (λ (x : Task). HasOwnFilesOfTask x) whole tt

  if_request : (files : Files) (request : Option Request) (task : Task)
      → (elim request as (λ _. Admitted Task) [ None ↦ Err Usage | Some r ↦ task_of read_agent files r ]) ≡ Ok task → HasOwnFilesOfTask task
  if_request files None task e = absurd cc
  if_request files (Some request) task e = task_free files request task e

pub tasks_have_own_files : TasksHaveOwnFiles
tasks_have_own_files read_agent words files task e = if_request read_agent files (request_of words) task e
