-- Further worked rows: another sum, a limit of steps that is met and one that is just not met, and a class that fails its type check.
use Rattle.std.specs.Prelude.{ℕ, List, [], ◌∷◌, ◌++◌, codes, replicate}
use Rattle.ti_ids.specs.declared.actor.Actor.{Actor}
use Rattle.ti_ids.specs.declared.actor.Actor.TheVariants.{Vm}
use Rattle.ti_ids.specs.declared.actor.End.TheVariants.{Dead, StepLimit}
use Rattle.machine_state.specs.Jobs.{Job}
use Rattle.machine_steps.specs.World.{World}
use Rattle.machine_rows.specs.Rows.{job_of, world_of, thread, IsRow, add_add}

-- a job with another limit of steps
abbrev pub with_steps : ℕ → Job → Job
with_steps steps job = record job { limits = record job.limits { steps = steps } }

abbrev pub add_job : Job
add_job = job_of (codes "Add") (record { name = codes "Add"; bytes = add_add } ∷ []) 1000

-- ---- add isub prints minus one

abbrev pub isub_add : List ℕ
isub_add =
    202 ∷ 254 ∷ 186 ∷ 190 ∷ 0 ∷ 0 ∷ 0 ∷ 52 ∷ 0 ∷ 20 ∷ 1 ∷ 0 ∷ 3 ∷ 65 ∷ 100 ∷ 100 ∷ 7 ∷ 0 ∷ 1 ∷ 1 ∷ 0 ∷ 16 ∷ 106 ∷ 97 ∷ 118 ∷ 97 ∷ 47 ∷ 108 ∷ 97 ∷ 110 ∷ 103 ∷ 47 ∷
    79 ∷ 98 ∷ 106 ∷ 101 ∷ 99 ∷ 116 ∷ 7 ∷ 0 ∷ 3 ∷ 1 ∷ 0 ∷ 4 ∷ 109 ∷ 97 ∷ 105 ∷ 110 ∷ 1 ∷ 0 ∷ 22 ∷ 40 ∷ 91 ∷ 76 ∷ 106 ∷ 97 ∷ 118 ∷ 97 ∷ 47 ∷ 108 ∷ 97 ∷ 110 ∷ 103 ∷ 47 ∷
    83 ∷ 116 ∷ 114 ∷ 105 ∷ 110 ∷ 103 ∷ 59 ∷ 41 ∷ 86 ∷ 1 ∷ 0 ∷ 4 ∷ 67 ∷ 111 ∷ 100 ∷ 101 ∷ 1 ∷ 0 ∷ 16 ∷ 106 ∷ 97 ∷ 118 ∷ 97 ∷ 47 ∷ 108 ∷ 97 ∷ 110 ∷ 103 ∷ 47 ∷ 83 ∷ 121 ∷ 115 ∷
    116 ∷ 101 ∷ 109 ∷ 7 ∷ 0 ∷ 8 ∷ 1 ∷ 0 ∷ 3 ∷ 111 ∷ 117 ∷ 116 ∷ 1 ∷ 0 ∷ 21 ∷ 76 ∷ 106 ∷ 97 ∷ 118 ∷ 97 ∷ 47 ∷ 105 ∷ 111 ∷ 47 ∷ 80 ∷ 114 ∷ 105 ∷ 110 ∷ 116 ∷ 83 ∷ 116 ∷ 114 ∷
    101 ∷ 97 ∷ 109 ∷ 59 ∷ 12 ∷ 0 ∷ 10 ∷ 0 ∷ 11 ∷ 9 ∷ 0 ∷ 9 ∷ 0 ∷ 12 ∷ 1 ∷ 0 ∷ 19 ∷ 106 ∷ 97 ∷ 118 ∷ 97 ∷ 47 ∷ 105 ∷ 111 ∷ 47 ∷ 80 ∷ 114 ∷ 105 ∷ 110 ∷ 116 ∷ 83 ∷ 116 ∷
    114 ∷ 101 ∷ 97 ∷ 109 ∷ 7 ∷ 0 ∷ 14 ∷ 1 ∷ 0 ∷ 7 ∷ 112 ∷ 114 ∷ 105 ∷ 110 ∷ 116 ∷ 108 ∷ 110 ∷ 1 ∷ 0 ∷ 4 ∷ 40 ∷ 73 ∷ 41 ∷ 86 ∷ 12 ∷ 0 ∷ 16 ∷ 0 ∷ 17 ∷ 10 ∷ 0 ∷ 15 ∷
    0 ∷ 18 ∷ 0 ∷ 33 ∷ 0 ∷ 2 ∷ 0 ∷ 4 ∷ 0 ∷ 0 ∷ 0 ∷ 0 ∷ 0 ∷ 1 ∷ 0 ∷ 9 ∷ 0 ∷ 5 ∷ 0 ∷ 6 ∷ 0 ∷ 1 ∷ 0 ∷ 7 ∷ 0 ∷ 0 ∷ 0 ∷ 22 ∷ 0 ∷ 3 ∷ 0 ∷ 1 ∷
    0 ∷ 0 ∷ 0 ∷ 10 ∷ 178 ∷ 0 ∷ 13 ∷ 5 ∷ 6 ∷ 100 ∷ 182 ∷ 0 ∷ 19 ∷ 177 ∷ 0 ∷ 0 ∷ 0 ∷ 0 ∷ 0 ∷ 0 ∷ []

abbrev pub isub : World
isub = world_of (job_of (codes "Add") (record { name = codes "Add"; bytes = isub_add } ∷ []) 1000)

abbrev pub isub_schedule : List Actor
isub_schedule = replicate 2 Vm ++ replicate 13 (thread 1) ++ replicate 2 Vm

abbrev pub isub_text : List ℕ
isub_text = codes "report 1\nprofile 1\nmain Add\nschedule v:2 t1:13 v:2\nsteps 17\nend dead\nthread 1 ended\noutput 3\n-1\n\nagents 0\n"

abbrev pub AddIsubPrintsMinusOne : Type 0
AddIsubPrintsMinusOne = IsRow isub isub_schedule Dead isub_text

-- ---- step limit

abbrev pub limit : World
limit = world_of (with_steps 16 add_job)

abbrev pub limit_schedule : List Actor
limit_schedule = replicate 2 Vm ++ replicate 13 (thread 1) ++ replicate 1 Vm

abbrev pub limit_text : List ℕ
limit_text = codes "report 1\nprofile 1\nmain Add\nschedule v:2 t1:13 v:1\nsteps 16\nend step-limit\nthread 1 ended\noutput 2\n5\n\nagents 0\n"

abbrev pub StepLimitMet : Type 0
StepLimitMet = IsRow limit limit_schedule StepLimit limit_text

-- ---- step limit not met

abbrev pub exact : World
exact = world_of (with_steps 17 add_job)

abbrev pub exact_schedule : List Actor
exact_schedule = replicate 2 Vm ++ replicate 13 (thread 1) ++ replicate 2 Vm

abbrev pub exact_text : List ℕ
exact_text = codes "report 1\nprofile 1\nmain Add\nschedule v:2 t1:13 v:2\nsteps 17\nend dead\nthread 1 ended\noutput 2\n5\n\nagents 0\n"

abbrev pub StepLimitNotMet : Type 0
StepLimitNotMet = IsRow exact exact_schedule Dead exact_text

-- ---- verify error

abbrev pub verify_add : List ℕ
verify_add =
    202 ∷ 254 ∷ 186 ∷ 190 ∷ 0 ∷ 0 ∷ 0 ∷ 52 ∷ 0 ∷ 20 ∷ 1 ∷ 0 ∷ 3 ∷ 65 ∷ 100 ∷ 100 ∷ 7 ∷ 0 ∷ 1 ∷ 1 ∷ 0 ∷ 16 ∷ 106 ∷ 97 ∷ 118 ∷ 97 ∷ 47 ∷ 108 ∷ 97 ∷ 110 ∷ 103 ∷ 47 ∷
    79 ∷ 98 ∷ 106 ∷ 101 ∷ 99 ∷ 116 ∷ 7 ∷ 0 ∷ 3 ∷ 1 ∷ 0 ∷ 4 ∷ 109 ∷ 97 ∷ 105 ∷ 110 ∷ 1 ∷ 0 ∷ 22 ∷ 40 ∷ 91 ∷ 76 ∷ 106 ∷ 97 ∷ 118 ∷ 97 ∷ 47 ∷ 108 ∷ 97 ∷ 110 ∷ 103 ∷ 47 ∷
    83 ∷ 116 ∷ 114 ∷ 105 ∷ 110 ∷ 103 ∷ 59 ∷ 41 ∷ 86 ∷ 1 ∷ 0 ∷ 4 ∷ 67 ∷ 111 ∷ 100 ∷ 101 ∷ 1 ∷ 0 ∷ 16 ∷ 106 ∷ 97 ∷ 118 ∷ 97 ∷ 47 ∷ 108 ∷ 97 ∷ 110 ∷ 103 ∷ 47 ∷ 83 ∷ 121 ∷ 115 ∷
    116 ∷ 101 ∷ 109 ∷ 7 ∷ 0 ∷ 8 ∷ 1 ∷ 0 ∷ 3 ∷ 111 ∷ 117 ∷ 116 ∷ 1 ∷ 0 ∷ 21 ∷ 76 ∷ 106 ∷ 97 ∷ 118 ∷ 97 ∷ 47 ∷ 105 ∷ 111 ∷ 47 ∷ 80 ∷ 114 ∷ 105 ∷ 110 ∷ 116 ∷ 83 ∷ 116 ∷ 114 ∷
    101 ∷ 97 ∷ 109 ∷ 59 ∷ 12 ∷ 0 ∷ 10 ∷ 0 ∷ 11 ∷ 9 ∷ 0 ∷ 9 ∷ 0 ∷ 12 ∷ 1 ∷ 0 ∷ 19 ∷ 106 ∷ 97 ∷ 118 ∷ 97 ∷ 47 ∷ 105 ∷ 111 ∷ 47 ∷ 80 ∷ 114 ∷ 105 ∷ 110 ∷ 116 ∷ 83 ∷ 116 ∷
    114 ∷ 101 ∷ 97 ∷ 109 ∷ 7 ∷ 0 ∷ 14 ∷ 1 ∷ 0 ∷ 7 ∷ 112 ∷ 114 ∷ 105 ∷ 110 ∷ 116 ∷ 108 ∷ 110 ∷ 1 ∷ 0 ∷ 4 ∷ 40 ∷ 73 ∷ 41 ∷ 86 ∷ 12 ∷ 0 ∷ 16 ∷ 0 ∷ 17 ∷ 10 ∷ 0 ∷ 15 ∷
    0 ∷ 18 ∷ 0 ∷ 33 ∷ 0 ∷ 2 ∷ 0 ∷ 4 ∷ 0 ∷ 0 ∷ 0 ∷ 0 ∷ 0 ∷ 1 ∷ 0 ∷ 9 ∷ 0 ∷ 5 ∷ 0 ∷ 6 ∷ 0 ∷ 1 ∷ 0 ∷ 7 ∷ 0 ∷ 0 ∷ 0 ∷ 22 ∷ 0 ∷ 2 ∷ 0 ∷ 1 ∷
    0 ∷ 0 ∷ 0 ∷ 10 ∷ 178 ∷ 0 ∷ 13 ∷ 5 ∷ 6 ∷ 96 ∷ 182 ∷ 0 ∷ 19 ∷ 177 ∷ 0 ∷ 0 ∷ 0 ∷ 0 ∷ 0 ∷ 0 ∷ []

abbrev pub verify : World
verify = world_of (job_of (codes "Add") (record { name = codes "Add"; bytes = verify_add } ∷ []) 1000)

abbrev pub verify_schedule : List Actor
verify_schedule = replicate 2 Vm ++ replicate 4 (thread 1) ++ replicate 2 Vm

abbrev pub verify_text : List ℕ
verify_text = codes "report 1\nprofile 1\nmain Add\nschedule v:2 t1:4 v:2\nsteps 8\nend dead\nthread 1 uncaught java/lang/VerifyError\noutput 0\n\nagents 0\n"

abbrev pub VerifyErrorThrown : Type 0
VerifyErrorThrown = IsRow verify verify_schedule Dead verify_text
