-- The laws of one step.
use Rattle.std.proofs.Common.{◌≡◌, ◌+◌, List, Option, Some, None, true, refl}
use Rattle.std.specs.Prelude.{is_some}
use Rattle.ti_ids.specs.declared.actor.Actor.{Actor}
use Rattle.machine_state.specs.Acts.{State, Act, birth_after}
use Rattle.machine_steps.specs.World.{World}
use Rattle.machine_steps.specs.Actors.{next_acts}
use Rattle.machine_steps.specs.Replay.{step, step_by}
use Rattle.machine_steps.specs.Laws.{CountsOne, AddsRecords, OutputGrows, ObjectsStay, ClassesStay, GrowsBy}
use Rattle.machine_steps.proofs.Growing.{Keeps, keep_itself, acts_keep, going_none, going_acts}

-- ---- one step, of acts or without any

keeps_by : (w : World) (s : State) (actor : Actor) (next : Option (List Act)) → Keeps s.core (step_by w s actor next).core
keeps_by w s actor None = keep_itself s.core
keeps_by w s actor (Some acts) = acts_keep w.job actor (birth_after s.trace acts) s acts

step_keeps : (w : World) (s : State) (actor : Actor) → Keeps s.core (step w s actor).core
step_keeps w s actor = keeps_by w s actor (next_acts w s actor)

going_by : (w : World) (s : State) (actor : Actor) (acts : List Act) → GrowsBy s actor (step_by w s actor (Some acts))
going_by w s actor acts =
    let g = (going_acts w.job (birth_after s.trace acts) s actor s acts (going_none s actor)).grows in
    record { more = g.more; grown = g.grown; own = g.own }

grows_by : (w : World) (s : State) (actor : Actor) (next : Option (List Act)) → GrowsBy s actor (step_by w s actor next)
grows_by w s actor None = (going_none s actor).grows
grows_by w s actor (Some acts) = going_by w s actor acts

counts_by : (w : World) (s : State) (actor : Actor) (next : Option (List Act)) → is_some next ≡ true → (step_by w s actor next).steps ≡ s.steps + 1
counts_by w s actor None e = absurd cc
counts_by w s actor (Some acts) e = refl

-- ---- the laws

pub counts_one : CountsOne
counts_one w s actor e = counts_by w s actor (next_acts w s actor) e

pub adds_records : AddsRecords
adds_records w s actor = grows_by w s actor (next_acts w s actor)

pub output_grows : OutputGrows
output_grows w s actor = (step_keeps w s actor).output

pub objects_stay : ObjectsStay
objects_stay w s actor = (step_keeps w s actor).objects

pub classes_stay : ClassesStay
classes_stay w s actor = (step_keeps w s actor).classes
