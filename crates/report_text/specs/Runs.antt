-- A schedule as runs: the steps that one actor makes in a row are one run, so neighbouring runs have different actors.
use Rattle.std.specs.Prelude.{◌+◌, List, [], ◌∷◌, if◌then◌else◌}
use Rattle.ti_ids.specs.declared.actor.Actor.{Actor}
use Rattle.ti_ids.specs.Actors.{same_actor}
use Rattle.report_text.specs.declared.run.Run.{Run}

-- one step more at the front: in the first run, where that is the actor's, and else in a run of its own
abbrev pub with_step : Actor → List Run → List Run
with_step actor [] = record { actor = actor; count = 1 } ∷ []
with_step actor (run ∷ runs) =
    if same_actor actor run.actor then record { actor = actor; count = run.count + 1 } ∷ runs
    else record { actor = actor; count = 1 } ∷ run ∷ runs

-- the runs of a schedule, which is the list of the actors of all steps
abbrev pub runs_of : List Actor → List Run
runs_of [] = []
runs_of (actor ∷ schedule) = with_step actor (runs_of schedule)
