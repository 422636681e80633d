-- Which calls ask for more than one worker.
use Rattle.std.specs.Prelude.{◌≡◌, List, [], ◌∷◌, ◌++◌, true, not, codes}
use Rattle.std.specs.List.{list_all}
use Rattle.job_words.specs.Options.{Word}
use Rattle.job_words.specs.Words.{wants_many}
use Rattle.machine_rows.specs.WordRows.{job, run}

-- of these some aren't accepted, which is another question
abbrev pub calls_of_many : List (List Word)
calls_of_many =
    (run ++ codes "--workers" ∷ codes "2" ∷ [])
    ∷ (run ++ codes "--workers" ∷ codes "64" ∷ [])
    ∷ (run ++ codes "--workers=2" ∷ [])
    ∷ (codes "run" ∷ codes "--workers=64" ∷ job)
    ∷ (codes "run" ∷ codes "--workers" ∷ codes "64" ∷ [])
    ∷ (codes "run" ∷ codes "--workers=1" ∷ codes "--workers=2" ∷ [])
    ∷ (codes "run" ∷ codes "--main" ∷ codes "--workers" ∷ codes "2" ∷ [])
    ∷ []

abbrev pub calls_of_one : List (List Word)
calls_of_one =
    []
    ∷ run
    ∷ (run ++ codes "--workers" ∷ codes "1" ∷ [])
    ∷ (run ++ codes "--workers=1" ∷ [])
    ∷ (run ++ codes "--workers=65" ∷ [])
    ∷ (run ++ codes "--workers=02" ∷ [])
    ∷ (run ++ codes "--workers=" ∷ codes "2" ∷ [])
    ∷ (run ++ codes "--workers" ∷ [])
    ∷ (run ++ codes "--worker=2" ∷ [])
    ∷ (codes "--workers=2" ∷ run)
    ∷ (codes "replay" ∷ codes "--workers=2" ∷ job)
    ∷ (codes "run=" ∷ codes "--workers=2" ∷ job)
    ∷ []

pub record WorkersWanted : Type 0 where
  pub many : list_all wants_many calls_of_many ≡ true
  pub one : list_all (λ words. not (wants_many words)) calls_of_one ≡ true
