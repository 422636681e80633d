-- Words of calls that are refused.
use Rattle.std.specs.Prelude.{◌≡◌, List, [], ◌∷◌, ◌++◌, true, codes}
use Rattle.std.specs.List.{list_all}
use Rattle.job_words.specs.Options.{Word}
use Rattle.machine_rows.specs.WordRows.{is_refused, job, run, replay, make, number, size, with_main}

-- ---- shapes

abbrev pub refused_commands : List (List Word)
refused_commands =
    [] ∷ (codes "run" ∷ []) ∷ (codes "Run" ∷ job) ∷ (codes "walk" ∷ job) ∷ (codes "--run" ∷ job) ∷ job ∷ (codes "" ∷ job) ∷ (codes "make" ∷ []) ∷ []

-- behind a run that is accepted: a value is missing, a word belongs to no pair, no option has the name, or it may stand once and stands twice
abbrev pub refused_behind_run : List (List Word)
refused_behind_run =
    (codes "--steps" ∷ [])
    ∷ (codes "--steps" ∷ codes "--lines" ∷ codes "5" ∷ [])
    ∷ (codes "--steps" ∷ codes "-5" ∷ [])
    ∷ (codes "--class" ∷ codes "-b.class" ∷ [])
    ∷ (codes "stray" ∷ [])
    ∷ (codes "stray" ∷ codes "word" ∷ [])
    ∷ (codes "--" ∷ [])
    ∷ (codes "--" ∷ codes "5" ∷ [])
    ∷ (codes "-s" ∷ codes "5" ∷ [])
    ∷ (codes "--help" ∷ [])
    ∷ (codes "--version" ∷ [])
    ∷ (codes "--step=5" ∷ [])
    ∷ (codes "--Steps=5" ∷ [])
    ∷ (codes "steps=5" ∷ [])
    ∷ (codes "--steps=5" ∷ codes "--steps=5" ∷ [])
    ∷ (codes "--slice" ∷ codes "5" ∷ codes "--slice=6" ∷ [])
    ∷ (codes "--workers=1" ∷ codes "--workers=1" ∷ [])
    ∷ (codes "--main=Add" ∷ [])
    ∷ (codes "--schedule" ∷ codes "s" ∷ [])
    ∷ (codes "--number=0" ∷ [])
    ∷ []

abbrev pub refused_behind_replay : List Word
refused_behind_replay = codes "--workers=1" ∷ codes "--slice=1000" ∷ codes "--schedule=s" ∷ codes "--size=1" ∷ []

abbrev pub refused_behind_make : List Word
refused_behind_make = codes "--main=Add" ∷ codes "--class=Add.class" ∷ codes "--steps=5" ∷ codes "--workers=1" ∷ codes "--number=0" ∷ codes "--size=1" ∷ []

-- what must stand is missing: the main class, the class files, the schedule, the number, the size
abbrev pub refused_as_lacking : List (List Word)
refused_as_lacking =
    (codes "run" ∷ codes "--class" ∷ codes "Add.class" ∷ [])
    ∷ (codes "run" ∷ codes "--main" ∷ codes "Add" ∷ [])
    ∷ (codes "run" ∷ codes "--main" ∷ codes "Add" ∷ codes "--donor" ∷ codes "Add.class" ∷ [])
    ∷ (codes "replay" ∷ job)
    ∷ number
    ∷ size
    ∷ []

-- ---- values

-- a part is empty, or has `.`, `;` or `[`
abbrev pub no_names : List Word
no_names = [] ∷ codes "/" ∷ codes "/Add" ∷ codes "Add/" ∷ codes "a//Add" ∷ codes "a.Add" ∷ codes "LAdd;" ∷ codes "[Add" ∷ []

-- no number between 1 and 4000000: with zeros in front, a sign, another base, a part, a space, a letter, or nothing
abbrev pub no_numbers : List Word
no_numbers = codes "--steps=01" ∷ codes "--steps=00" ∷ codes "--steps=000000001" ∷ codes "--steps=+1" ∷ codes "--steps=-1" ∷ codes "--steps=0x1" ∷ codes "--steps=1.0" ∷ codes "--steps= 1" ∷ codes "--steps=1_000" ∷ codes "--steps=1e3" ∷ codes "--steps=" ∷ codes "--steps=one" ∷ []

-- ---- all of them

pub record ShapesRefused : Type 0 where
  pub commands : list_all is_refused refused_commands ≡ true
  pub behind_run : list_all (λ words. is_refused (run ++ words)) refused_behind_run ≡ true
  pub behind_replay : list_all (λ word. is_refused (replay ++ word ∷ [])) refused_behind_replay ≡ true
  pub behind_make : list_all (λ word. is_refused (make ++ word ∷ [])) refused_behind_make ≡ true
  pub lacking : list_all is_refused refused_as_lacking ≡ true

pub record ValuesRefused : Type 0 where
  pub names : list_all (λ name. is_refused (with_main name)) no_names ≡ true
  pub numbers : list_all (λ word. is_refused (run ++ word ∷ [])) no_numbers ≡ true
