-- What is written is a report by the headline, and a replay writes it again.
use Rattle.std.proofs.Common.{◌≡◌, ◌∙◌, ℕ, ◌==◌, Bool, true, false, List, Option, Some, None, refl, sym, ap, subst}
use Rattle.std.specs.Prelude.{Ok, Err, option_map, if◌then◌else◌}
use Rattle.ti_ids.specs.declared.actor.Actor.{Actor}
use Rattle.ti_ids.specs.declared.actor.End.{End}
use Rattle.report_text.specs.Stated.{stated}
use Rattle.machine_state.specs.Jobs.{Job}
use Rattle.machine_steps.specs.World.{World, Meaning, unsliced, world_in, world_of}
use Rattle.machine_steps.specs.Ends.{end}
use Rattle.machine_steps.specs.Replay.{opening, state, CanRun}
use Rattle.machine_steps.specs.Picks.{picked}
use Rattle.job_words.specs.declared.refusal.Refusal.{Refusal}
use Rattle.job_words.specs.declared.refusal.Refusal.TheVariants.{BadEntry}
use Rattle.job_words.specs.Fetches.{Admitted}
use Rattle.machine_steps.specs.Results.{Task, RunTask, ReplayTask, MakeTask, result_of}
use Rattle.machine_steps.specs.Bounds.{IsBounded, IsBoundedTask}
use Rattle.machine_steps.specs.Written.{replay_refusal, Written, refused, reported_by, reported, replayed_by, replayed, IsReported, IsWrittenBy, written_by, made}
use Rattle.machine_steps.specs.ReportLaws.{PickedIsReported, WrittenIsWritten, ReplaysSame}
use Rattle.machine_steps.proofs.Ending.{picked_can_run, picked_ends}
use Rattle.machine_steps.proofs.Statable.{states_schedule}
use Rattle.machine_steps.proofs.Barring.{unbarred_from}
use Rattle.machine_steps.proofs.Bounded.{tasks_are_bounded}

same_some : {A : Type 0} (x y : A) → Some x ≡ Some y → x ≡ y
same_some x y e = cc

-- ---- what one worker writes

reported_at : (w : World) (schedule : List Actor) (found : Option End) → end w (state w schedule) ≡ found → (found ≡ None → ⊥) → IsBounded w.job
    → CanRun w schedule
    → IsReported w (reported_by w schedule found)
reported_at w schedule None is some bounded can = absurd (some refl)
reported_at w schedule (Some e) is some bounded can = record {
  report = record {
    schedule = schedule;
    states = states_schedule w schedule (Some e) bounded can;
    can_run = can;
    end = e;
    ends = is;
    reports = refl;
  };
  status = refl;
}

pub picked_is_reported : PickedIsReported
picked_is_reported slice w bounded =
    let schedule = picked slice w in
    reported_at w schedule (end w (state w schedule)) refl (picked_ends slice w) bounded (picked_can_run slice w)

-- ---- where there is no choice

-- the world of a job is within the bounds of the job
unsliced_bounded : (job : Job) → IsBounded job → IsBounded (unsliced job)
unsliced_bounded job b =
    record { steps = b.steps; lines = b.lines; output = b.output; heap = b.heap; files = b.files; donors = b.donors; agents = b.agents }

one_worker : (w : World) (workers : ℕ) (schedule : List Actor) (it : Written) (one : Bool) → IsReported w (reported w schedule)
    → (if one then Some (reported w schedule) else None) ≡ Some it → IsReported w it × (workers ≡ 1 → it ≡ reported w schedule)
one_worker w workers schedule it true h e =
    let same : reported w schedule ≡ it = same_some (reported w schedule) it e in (subst (λ (x : Written). IsReported w x) same h, λ one. sym same)
one_worker w workers schedule it false h e = absurd cc

by_task : (meaning : Meaning) (task : Task) (it : Written) → IsBoundedTask task → written_by meaning (Ok task) ≡ Some it
    → IsWrittenBy meaning (Ok task) it
by_task meaning (RunTask job workers) it bounded e =
    let w = world_of meaning job in
    one_worker w workers (picked job.limits.slice w) it (workers == 1) (picked_is_reported job.limits.slice w (unsliced_bounded job bounded.0)) e
by_task meaning (ReplayTask job schedule) it bounded e = sym (same_some (replayed (world_of meaning job) schedule) it e)
by_task meaning (MakeTask number size) it bounded e = sym (same_some (made meaning number size) it e)

by_answer : (meaning : Meaning) (answer : Admitted Task) (it : Written) → ((task : Task) → answer ≡ Ok task → IsBoundedTask task)
    → written_by meaning answer ≡ Some it → IsWrittenBy meaning answer it
by_answer meaning (Err refusal) it bounded e = sym (same_some (refused refusal) it e)
by_answer meaning (Ok task) it bounded e = by_task meaning task it (bounded task refl) e

pub written_is_written : WrittenIsWritten
written_is_written meaning words files it e =
    by_answer meaning (result_of meaning.read_agent words files) it (tasks_are_bounded meaning.read_agent words files) e

-- ---- replays

unrefused : (w : World) (schedule : List Actor) → CanRun w schedule → replay_refusal w schedule ≡ None
unrefused w schedule can = ap (λ (n : Option ℕ). option_map BadEntry n) (unbarred_from w (opening w.job) 0 schedule can)

-- what a replay of the schedule of a report writes is the report
writes_again : (w : World) (it : Written) (r : IsReported w it) → replayed w r.report.schedule ≡ it
writes_again w it r =
    let schedule : List Actor = r.report.schedule in
    let back : it ≡ reported_by w schedule (Some r.report.end) = λ i. record { status = r.status i; text = r.report.reports i } in
    ap (λ (refusal : Option Refusal). replayed_by w schedule refusal) (unrefused w schedule r.report.can_run)
    ∙ ap (λ (e : Option End). reported_by w schedule e) r.report.ends ∙ sym back

in_world : (meaning : Meaning) (job : Job) (schedule : List Actor) (it : Written) (r : IsReported (world_in meaning job) it)
    → stated it.text ≡ Some schedule → replayed (world_in meaning job) schedule ≡ it
in_world meaning job schedule it r is =
    let same : r.report.schedule ≡ schedule = same_some r.report.schedule schedule (sym r.report.states ∙ is) in
    subst (λ (x : List Actor). replayed (world_in meaning job) x ≡ it) same (writes_again (world_in meaning job) it r)

pub replays_same : ReplaysSame
replays_same meaning job other schedule it same r is =
    ap (λ (whole : Job). Some (replayed (world_in meaning whole) schedule)) same
    ∙ ap (λ (x : Written). Some x) (in_world meaning (unsliced job) schedule it r is)
