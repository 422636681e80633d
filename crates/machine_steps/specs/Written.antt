-- What a call of the program writes, and the status that it ends with, where memory is granted and no device fails.
use Rattle.std.specs.Prelude.{◌≡◌, ℕ, ◌+◌, ◌==◌, false, List, [], ◌∷◌, ◌++◌, length, Option, Some, None, option_map, flat_map, codes, decimal, Result, Ok, Err, if◌then◌else◌}
use Rattle.ti_ids.specs.declared.actor.Actor.{Actor}
use Rattle.ti_ids.specs.declared.actor.End.{End}
use Rattle.ti_ids.specs.declared.actor.End.TheVariants as ends
use Rattle.report_text.specs.declared.thread_line.ThreadLine.{ThreadLine}
use Rattle.report_text.specs.declared.thread_line.ThreadLine.TheVariants as lines
use Rattle.report_text.specs.declared.parts.ReportParts.{ReportParts}
use Rattle.report_text.specs.Texts.{line, end_texts}
use Rattle.job_words.specs.declared.refusal.Refusal.{Refusal}
use Rattle.job_words.specs.declared.refusal.Refusal.TheVariants.{BadEntry}
use Rattle.job_words.specs.declared.status.Status.{Status}
use Rattle.job_words.specs.declared.status.Status.TheVariants.{Done, Uncaught, Stuck, Limit}
use Rattle.job_words.specs.Options.{Word}
use Rattle.job_words.specs.Refusals.{refusal_text}
use Rattle.job_words.specs.Statuses.{refusal_status}
use Rattle.job_words.specs.Fetches.{Admitted, Files}
use Rattle.machine_state.specs.Acts.{State}
use Rattle.machine_steps.specs.World.{World, Meaning, world_of}
use Rattle.machine_steps.specs.Ends.{end, is_enabled}
use Rattle.machine_steps.specs.Replay.{step, state, opening, CanRun}
use Rattle.machine_steps.specs.Picks.{picked}
use Rattle.machine_steps.specs.Reports.{report_parts, report}
use Rattle.machine_steps.specs.Headline.{IsReport}
use Rattle.machine_steps.specs.MadeJob.{made_job}
use Rattle.machine_steps.specs.Results.{Task, RunTask, ReplayTask, MakeTask, result_of}

-- ---- a schedule that can't be performed

-- The first entry that can't be performed, told by how many stand before it: the first one whose actor isn't enabled in the state after
-- the entries before it. After an end no actor is. From this state, behind so many entries.
abbrev pub barred_from : World → State → ℕ → List Actor → Option ℕ
barred_from w s place [] = None
barred_from w s place (actor ∷ actors) = if is_enabled w s actor then barred_from w (step w s actor) (place + 1) actors else Some place

abbrev pub barred_at : World → List Actor → Option ℕ
barred_at w schedule = barred_from w (opening w.job) 0 schedule

-- So it reads: the entries before it can be run, so many as they are, and in the state after them its actor isn't enabled.
pub record IsBarred (w : World) (schedule : List Actor) (n : ℕ) : Type 0 where
  pub front : List Actor
  pub actor : Actor
  pub back : List Actor
  pub split : schedule ≡ front ++ actor ∷ back
  pub place : length front ≡ n
  pub can_run : CanRun w front
  pub barred : is_enabled w (state w front) actor ≡ false

-- the refusal of a replay, which comes with the run
abbrev pub replay_refusal : World → List Actor → Option Refusal
replay_refusal w schedule = option_map BadEntry (barred_at w schedule)

-- ---- the status of a run's end

-- by how thread 1 stands
abbrev pub dead_status : List ThreadLine → Status
dead_status (lines.Uncaught class ∷ others) = Uncaught
dead_status _ = Done

abbrev pub end_status : List ThreadLine → Option End → Status
end_status threads (Some ends.Dead) = dead_status threads
end_status threads (Some ends.StepLimit) = Limit
end_status threads (Some ends.LineLimit) = Limit
end_status threads (Some ends.OutputLimit) = Limit
end_status threads (Some ends.Stuck) = Stuck
end_status threads None = Done

-- ---- what is written

pub record Written : Type 0 where
  pub status : Status
  pub text : List ℕ

abbrev pub refused : Refusal → Written
refused refusal = record { status = refusal_status refusal; text = refusal_text refusal }

-- the report of a schedule that can be run, run to its end or to where it is cut
abbrev pub reported_by : World → List Actor → Option End → Written
reported_by w schedule e = record { status = end_status (report_parts w schedule e).threads e; text = report w schedule e }

abbrev pub reported : World → List Actor → Written
reported w schedule = reported_by w schedule (end w (state w schedule))

-- a schedule that is given
abbrev pub replayed_by : World → List Actor → Option Refusal → Written
replayed_by w schedule (Some refusal) = refused refusal
replayed_by w schedule None = reported w schedule

abbrev pub replayed : World → List Actor → Written
replayed w schedule = replayed_by w schedule (replay_refusal w schedule)

-- ---- the made job

-- The last line of an output: what stands before its last line feed and behind the one before that, if there is one. Of the bytes that are
-- left, this is the last line so far, and this the front of the next one.
abbrev pub last_line_in : List ℕ → List ℕ → List ℕ → List ℕ
last_line_in last front [] = last
last_line_in last front (byte ∷ bytes) = if byte == 10 then last_line_in front [] bytes else last_line_in last (front ++ byte ∷ []) bytes

abbrev pub last_line : List ℕ → List ℕ
last_line output = last_line_in [] [] output

-- which job it was, how its run ended, and what it printed last
abbrev pub summary_texts : ℕ → ℕ → ReportParts → List (List ℕ)
summary_texts number size parts =
    (codes "made " ++ decimal number ++ 32 ∷ decimal size)
    ∷ end_texts parts.steps parts.end
    ++ (codes "output " ++ decimal (length parts.output))
    ∷ (codes "last " ++ last_line parts.output)
    ∷ []

-- One worker runs it along the schedule that it picks.
abbrev pub made_by : World → ℕ → ℕ → List Actor → Option End → Written
made_by w number size schedule e =
    let parts = report_parts w schedule e in
    record { status = end_status parts.threads e; text = flat_map line (summary_texts number size parts) }

abbrev pub made : Meaning → ℕ → ℕ → Written
made meaning number size =
    let job = made_job number size in
    let w = world_of meaning job in
    let schedule = picked job.limits.slice w in
    made_by w number size schedule (end w (state w schedule))

-- ---- with any number of workers

-- a run: its text is the report of the schedule that it states, and its status that of the end
pub record IsReported (w : World) (it : Written) : Type 0 where
  pub report : IsReport w it.text
  pub status : it.status ≡ end_status (report_parts w report.schedule (Some report.end)).threads (Some report.end)

-- What is written of a task. Several workers may choose any actors that are enabled, and so write any such report; one worker writes that of
-- the schedule that it picks.
abbrev pub IsWrittenOf : Meaning → Task → Written → Type 0
IsWrittenOf meaning (RunTask job workers) it =
    let w = world_of meaning job in IsReported w it × (workers ≡ 1 → it ≡ reported w (picked job.limits.slice w))
IsWrittenOf meaning (ReplayTask job schedule) it = it ≡ replayed (world_of meaning job) schedule
IsWrittenOf meaning (MakeTask number size) it = it ≡ made meaning number size

abbrev pub IsWrittenBy : Meaning → Admitted Task → Written → Type 0
IsWrittenBy meaning (Err refusal) it = it ≡ refused refusal
IsWrittenBy meaning (Ok task) it = IsWrittenOf meaning task it

-- What is written of words and files.
abbrev pub IsWritten : Meaning → List Word → Files → Written → Type 0
IsWritten meaning words files it = IsWrittenBy meaning (result_of meaning.read_agent words files) it

-- ---- where there is no choice: with one worker, of a schedule that is given, and of the made job

abbrev pub written_of : Meaning → Task → Option Written
written_of meaning (RunTask job workers) =
    let w = world_of meaning job in if workers == 1 then Some (reported w (picked job.limits.slice w)) else None
written_of meaning (ReplayTask job schedule) = Some (replayed (world_of meaning job) schedule)
written_of meaning (MakeTask number size) = Some (made meaning number size)

abbrev pub written_by : Meaning → Admitted Task → Option Written
written_by meaning (Err refusal) = Some (refused refusal)
written_by meaning (Ok task) = written_of meaning task

abbrev pub written : Meaning → List Word → Files → Option Written
written meaning words files = written_by meaning (result_of meaning.read_agent words files)
