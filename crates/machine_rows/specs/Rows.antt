-- Worked rows: class files, and what their runs report.
use Rattle.std.specs.Prelude.{◌≡◌, ℕ, List, [], ◌∷◌, ◌++◌, Some, None, codes, replicate}
use Rattle.ti_ids.specs.declared.actor.End.{End}
use Rattle.ti_ids.specs.declared.actor.End.TheVariants.{Dead, Stuck}
use Rattle.machine_steps.specs.Ends.{end}
use Rattle.machine_steps.specs.Replay.{state}
use Rattle.machine_steps.specs.Picks.{picked}
use Rattle.machine_steps.specs.Reports.{report}
use Rattle.ti_ids.specs.declared.actor.Actor.{Actor}
use Rattle.ti_ids.specs.declared.actor.Actor.TheVariants.{Vm, Thread, Agent}
use Rattle.machine_state.specs.Jobs.{File, Job}
use Rattle.machine_steps.specs.World.{World, world_in}
use Rattle.tool_answer.specs.JobWorld.{meaning}

-- a job with these files and the limits that stand where none are given, but for the slice
abbrev pub job_of : List ℕ → List File → ℕ → Job
job_of main files slice = record {
  main = main;
  files = files;
  donors = [];
  agents = [];
  limits = record { steps = 1000000; lines = 10000; output = 1048576; heap = 1000000; slice = slice };
}

-- its world, with the slice that it has
abbrev pub world_of : Job → World
world_of job = world_in meaning job

abbrev pub thread : ℕ → Actor
thread n = Thread (record { 0 = n })

abbrev pub agent : ℕ → Actor
agent n = Agent (record { 0 = n })

-- One worker picks this schedule, it ends so, and this text is the report of it.
pub record IsRow (w : World) (schedule : List Actor) (e : End) (text : List ℕ) : Type 0 where
  pub picks : picked w.job.limits.slice w ≡ schedule
  pub ends : end w (state w schedule) ≡ Some e
  pub writes : report w schedule (Some e) ≡ text

-- ---- add prints five

abbrev pub add_add : List ℕ
add_add =
    202 ∷ 254 ∷ 186 ∷ 190 ∷ 0 ∷ 0 ∷ 0 ∷ 52 ∷ 0 ∷ 20 ∷ 1 ∷ 0 ∷ 3 ∷ 65 ∷ 100 ∷ 100 ∷ 7 ∷ 0 ∷ 1 ∷ 1 ∷ 0 ∷ 16 ∷ 106 ∷ 97 ∷ 118 ∷ 97 ∷ 47 ∷ 108 ∷ 97 ∷ 110 ∷ 103 ∷ 47 ∷
    79 ∷ 98 ∷ 106 ∷ 101 ∷ 99 ∷ 116 ∷ 7 ∷ 0 ∷ 3 ∷ 1 ∷ 0 ∷ 4 ∷ 109 ∷ 97 ∷ 105 ∷ 110 ∷ 1 ∷ 0 ∷ 22 ∷ 40 ∷ 91 ∷ 76 ∷ 106 ∷ 97 ∷ 118 ∷ 97 ∷ 47 ∷ 108 ∷ 97 ∷ 110 ∷ 103 ∷ 47 ∷
    83 ∷ 116 ∷ 114 ∷ 105 ∷ 110 ∷ 103 ∷ 59 ∷ 41 ∷ 86 ∷ 1 ∷ 0 ∷ 4 ∷ 67 ∷ 111 ∷ 100 ∷ 101 ∷ 1 ∷ 0 ∷ 16 ∷ 106 ∷ 97 ∷ 118 ∷ 97 ∷ 47 ∷ 108 ∷ 97 ∷ 110 ∷ 103 ∷ 47 ∷ 83 ∷ 121 ∷ 115 ∷
    116 ∷ 101 ∷ 109 ∷ 7 ∷ 0 ∷ 8 ∷ 1 ∷ 0 ∷ 3 ∷ 111 ∷ 117 ∷ 116 ∷ 1 ∷ 0 ∷ 21 ∷ 76 ∷ 106 ∷ 97 ∷ 118 ∷ 97 ∷ 47 ∷ 105 ∷ 111 ∷ 47 ∷ 80 ∷ 114 ∷ 105 ∷ 110 ∷ 116 ∷ 83 ∷ 116 ∷ 114 ∷
    101 ∷ 97 ∷ 109 ∷ 59 ∷ 12 ∷ 0 ∷ 10 ∷ 0 ∷ 11 ∷ 9 ∷ 0 ∷ 9 ∷ 0 ∷ 12 ∷ 1 ∷ 0 ∷ 19 ∷ 106 ∷ 97 ∷ 118 ∷ 97 ∷ 47 ∷ 105 ∷ 111 ∷ 47 ∷ 80 ∷ 114 ∷ 105 ∷ 110 ∷ 116 ∷ 83 ∷ 116 ∷
    114 ∷ 101 ∷ 97 ∷ 109 ∷ 7 ∷ 0 ∷ 14 ∷ 1 ∷ 0 ∷ 7 ∷ 112 ∷ 114 ∷ 105 ∷ 110 ∷ 116 ∷ 108 ∷ 110 ∷ 1 ∷ 0 ∷ 4 ∷ 40 ∷ 73 ∷ 41 ∷ 86 ∷ 12 ∷ 0 ∷ 16 ∷ 0 ∷ 17 ∷ 10 ∷ 0 ∷ 15 ∷
    0 ∷ 18 ∷ 0 ∷ 33 ∷ 0 ∷ 2 ∷ 0 ∷ 4 ∷ 0 ∷ 0 ∷ 0 ∷ 0 ∷ 0 ∷ 1 ∷ 0 ∷ 9 ∷ 0 ∷ 5 ∷ 0 ∷ 6 ∷ 0 ∷ 1 ∷ 0 ∷ 7 ∷ 0 ∷ 0 ∷ 0 ∷ 22 ∷ 0 ∷ 3 ∷ 0 ∷ 1 ∷
    0 ∷ 0 ∷ 0 ∷ 10 ∷ 178 ∷ 0 ∷ 13 ∷ 5 ∷ 6 ∷ 96 ∷ 182 ∷ 0 ∷ 19 ∷ 177 ∷ 0 ∷ 0 ∷ 0 ∷ 0 ∷ 0 ∷ 0 ∷ []

abbrev pub add : World
add = world_of (job_of (codes "Add") (record { name = codes "Add"; bytes = add_add } ∷ []) 1000)

abbrev pub add_schedule : List Actor
add_schedule = replicate 2 Vm ++ replicate 13 (thread 1) ++ replicate 2 Vm

abbrev pub add_text : List ℕ
add_text = codes "report 1\nprofile 1\nmain Add\nschedule v:2 t1:13 v:2\nsteps 17\nend dead\nthread 1 ended\noutput 2\n5\n\nagents 0\n"

abbrev pub AddPrintsFive : Type 0
AddPrintsFive = IsRow add add_schedule Dead add_text

-- ---- number edges

abbrev pub edges_five : List ℕ
edges_five =
    202 ∷ 254 ∷ 186 ∷ 190 ∷ 0 ∷ 0 ∷ 0 ∷ 52 ∷ 0 ∷ 21 ∷ 1 ∷ 0 ∷ 4 ∷ 70 ∷ 105 ∷ 118 ∷ 101 ∷ 7 ∷ 0 ∷ 1 ∷ 1 ∷ 0 ∷ 16 ∷ 106 ∷ 97 ∷ 118 ∷ 97 ∷ 47 ∷ 108 ∷ 97 ∷ 110 ∷ 103 ∷
    47 ∷ 79 ∷ 98 ∷ 106 ∷ 101 ∷ 99 ∷ 116 ∷ 7 ∷ 0 ∷ 3 ∷ 1 ∷ 0 ∷ 4 ∷ 109 ∷ 97 ∷ 105 ∷ 110 ∷ 1 ∷ 0 ∷ 22 ∷ 40 ∷ 91 ∷ 76 ∷ 106 ∷ 97 ∷ 118 ∷ 97 ∷ 47 ∷ 108 ∷ 97 ∷ 110 ∷ 103 ∷
    47 ∷ 83 ∷ 116 ∷ 114 ∷ 105 ∷ 110 ∷ 103 ∷ 59 ∷ 41 ∷ 86 ∷ 1 ∷ 0 ∷ 4 ∷ 67 ∷ 111 ∷ 100 ∷ 101 ∷ 1 ∷ 0 ∷ 16 ∷ 106 ∷ 97 ∷ 118 ∷ 97 ∷ 47 ∷ 108 ∷ 97 ∷ 110 ∷ 103 ∷ 47 ∷ 83 ∷ 121 ∷
    115 ∷ 116 ∷ 101 ∷ 109 ∷ 7 ∷ 0 ∷ 8 ∷ 1 ∷ 0 ∷ 3 ∷ 111 ∷ 117 ∷ 116 ∷ 1 ∷ 0 ∷ 21 ∷ 76 ∷ 106 ∷ 97 ∷ 118 ∷ 97 ∷ 47 ∷ 105 ∷ 111 ∷ 47 ∷ 80 ∷ 114 ∷ 105 ∷ 110 ∷ 116 ∷ 83 ∷ 116 ∷
    114 ∷ 101 ∷ 97 ∷ 109 ∷ 59 ∷ 12 ∷ 0 ∷ 10 ∷ 0 ∷ 11 ∷ 9 ∷ 0 ∷ 9 ∷ 0 ∷ 12 ∷ 3 ∷ 128 ∷ 0 ∷ 0 ∷ 0 ∷ 1 ∷ 0 ∷ 19 ∷ 106 ∷ 97 ∷ 118 ∷ 97 ∷ 47 ∷ 105 ∷ 111 ∷ 47 ∷ 80 ∷
    114 ∷ 105 ∷ 110 ∷ 116 ∷ 83 ∷ 116 ∷ 114 ∷ 101 ∷ 97 ∷ 109 ∷ 7 ∷ 0 ∷ 15 ∷ 1 ∷ 0 ∷ 7 ∷ 112 ∷ 114 ∷ 105 ∷ 110 ∷ 116 ∷ 108 ∷ 110 ∷ 1 ∷ 0 ∷ 4 ∷ 40 ∷ 73 ∷ 41 ∷ 86 ∷ 12 ∷ 0 ∷
    17 ∷ 0 ∷ 18 ∷ 10 ∷ 0 ∷ 16 ∷ 0 ∷ 19 ∷ 0 ∷ 33 ∷ 0 ∷ 2 ∷ 0 ∷ 4 ∷ 0 ∷ 0 ∷ 0 ∷ 0 ∷ 0 ∷ 1 ∷ 0 ∷ 9 ∷ 0 ∷ 5 ∷ 0 ∷ 6 ∷ 0 ∷ 1 ∷ 0 ∷ 7 ∷ 0 ∷ 0 ∷
    0 ∷ 43 ∷ 0 ∷ 3 ∷ 0 ∷ 1 ∷ 0 ∷ 0 ∷ 0 ∷ 31 ∷ 178 ∷ 0 ∷ 13 ∷ 18 ∷ 14 ∷ 2 ∷ 108 ∷ 182 ∷ 0 ∷ 20 ∷ 178 ∷ 0 ∷ 13 ∷ 18 ∷ 14 ∷ 2 ∷ 112 ∷ 182 ∷ 0 ∷ 20 ∷ 178 ∷ 0 ∷
    13 ∷ 4 ∷ 16 ∷ 33 ∷ 120 ∷ 182 ∷ 0 ∷ 20 ∷ 177 ∷ 0 ∷ 0 ∷ 0 ∷ 0 ∷ 0 ∷ 0 ∷ []

abbrev pub edges : World
edges = world_of (job_of (codes "Five") (record { name = codes "Five"; bytes = edges_five } ∷ []) 1000)

abbrev pub edges_schedule : List Actor
edges_schedule = replicate 2 Vm ++ replicate 23 (thread 1) ++ replicate 2 Vm

abbrev pub edges_text : List ℕ
edges_text = codes "report 1\nprofile 1\nmain Five\nschedule v:2 t1:23 v:2\nsteps 27\nend dead\nthread 1 ended\noutput 16\n-2147483648\n0\n2\n\nagents 0\n"

abbrev pub NumberEdges : Type 0
NumberEdges = IsRow edges edges_schedule Dead edges_text

-- ---- superclass initializer

abbrev pub superclass_a : List ℕ
superclass_a =
    202 ∷ 254 ∷ 186 ∷ 190 ∷ 0 ∷ 0 ∷ 0 ∷ 52 ∷ 0 ∷ 20 ∷ 1 ∷ 0 ∷ 1 ∷ 65 ∷ 7 ∷ 0 ∷ 1 ∷ 1 ∷ 0 ∷ 16 ∷ 106 ∷ 97 ∷ 118 ∷ 97 ∷ 47 ∷ 108 ∷ 97 ∷ 110 ∷ 103 ∷ 47 ∷ 79 ∷ 98 ∷
    106 ∷ 101 ∷ 99 ∷ 116 ∷ 7 ∷ 0 ∷ 3 ∷ 1 ∷ 0 ∷ 8 ∷ 60 ∷ 99 ∷ 108 ∷ 105 ∷ 110 ∷ 105 ∷ 116 ∷ 62 ∷ 1 ∷ 0 ∷ 3 ∷ 40 ∷ 41 ∷ 86 ∷ 1 ∷ 0 ∷ 4 ∷ 67 ∷ 111 ∷ 100 ∷ 101 ∷ 1 ∷
    0 ∷ 16 ∷ 106 ∷ 97 ∷ 118 ∷ 97 ∷ 47 ∷ 108 ∷ 97 ∷ 110 ∷ 103 ∷ 47 ∷ 83 ∷ 121 ∷ 115 ∷ 116 ∷ 101 ∷ 109 ∷ 7 ∷ 0 ∷ 8 ∷ 1 ∷ 0 ∷ 3 ∷ 111 ∷ 117 ∷ 116 ∷ 1 ∷ 0 ∷ 21 ∷ 76 ∷ 106 ∷
    97 ∷ 118 ∷ 97 ∷ 47 ∷ 105 ∷ 111 ∷ 47 ∷ 80 ∷ 114 ∷ 105 ∷ 110 ∷ 116 ∷ 83 ∷ 116 ∷ 114 ∷ 101 ∷ 97 ∷ 109 ∷ 59 ∷ 12 ∷ 0 ∷ 10 ∷ 0 ∷ 11 ∷ 9 ∷ 0 ∷ 9 ∷ 0 ∷ 12 ∷ 1 ∷ 0 ∷ 19 ∷
    106 ∷ 97 ∷ 118 ∷ 97 ∷ 47 ∷ 105 ∷ 111 ∷ 47 ∷ 80 ∷ 114 ∷ 105 ∷ 110 ∷ 116 ∷ 83 ∷ 116 ∷ 114 ∷ 101 ∷ 97 ∷ 109 ∷ 7 ∷ 0 ∷ 14 ∷ 1 ∷ 0 ∷ 7 ∷ 112 ∷ 114 ∷ 105 ∷ 110 ∷ 116 ∷ 108 ∷ 110 ∷
    1 ∷ 0 ∷ 4 ∷ 40 ∷ 73 ∷ 41 ∷ 86 ∷ 12 ∷ 0 ∷ 16 ∷ 0 ∷ 17 ∷ 10 ∷ 0 ∷ 15 ∷ 0 ∷ 18 ∷ 0 ∷ 33 ∷ 0 ∷ 2 ∷ 0 ∷ 4 ∷ 0 ∷ 0 ∷ 0 ∷ 0 ∷ 0 ∷ 1 ∷ 0 ∷ 8 ∷ 0 ∷
    5 ∷ 0 ∷ 6 ∷ 0 ∷ 1 ∷ 0 ∷ 7 ∷ 0 ∷ 0 ∷ 0 ∷ 20 ∷ 0 ∷ 2 ∷ 0 ∷ 0 ∷ 0 ∷ 0 ∷ 0 ∷ 8 ∷ 178 ∷ 0 ∷ 13 ∷ 4 ∷ 182 ∷ 0 ∷ 19 ∷ 177 ∷ 0 ∷ 0 ∷ 0 ∷ 0 ∷ 0 ∷
    0 ∷ []

abbrev pub superclass_b : List ℕ
superclass_b =
    202 ∷ 254 ∷ 186 ∷ 190 ∷ 0 ∷ 0 ∷ 0 ∷ 52 ∷ 0 ∷ 8 ∷ 1 ∷ 0 ∷ 1 ∷ 66 ∷ 7 ∷ 0 ∷ 1 ∷ 1 ∷ 0 ∷ 1 ∷ 65 ∷ 7 ∷ 0 ∷ 3 ∷ 1 ∷ 0 ∷ 4 ∷ 109 ∷ 97 ∷ 105 ∷ 110 ∷ 1 ∷
    0 ∷ 22 ∷ 40 ∷ 91 ∷ 76 ∷ 106 ∷ 97 ∷ 118 ∷ 97 ∷ 47 ∷ 108 ∷ 97 ∷ 110 ∷ 103 ∷ 47 ∷ 83 ∷ 116 ∷ 114 ∷ 105 ∷ 110 ∷ 103 ∷ 59 ∷ 41 ∷ 86 ∷ 1 ∷ 0 ∷ 4 ∷ 67 ∷ 111 ∷ 100 ∷ 101 ∷ 0 ∷
    33 ∷ 0 ∷ 2 ∷ 0 ∷ 4 ∷ 0 ∷ 0 ∷ 0 ∷ 0 ∷ 0 ∷ 1 ∷ 0 ∷ 9 ∷ 0 ∷ 5 ∷ 0 ∷ 6 ∷ 0 ∷ 1 ∷ 0 ∷ 7 ∷ 0 ∷ 0 ∷ 0 ∷ 13 ∷ 0 ∷ 0 ∷ 0 ∷ 1 ∷ 0 ∷ 0 ∷ 0 ∷
    1 ∷ 177 ∷ 0 ∷ 0 ∷ 0 ∷ 0 ∷ 0 ∷ 0 ∷ []

abbrev pub superclass : World
superclass = world_of (job_of (codes "B") (record { name = codes "A"; bytes = superclass_a } ∷ record { name = codes "B"; bytes = superclass_b } ∷ []) 1000)

abbrev pub superclass_schedule : List Actor
superclass_schedule = replicate 2 Vm ++ replicate 17 (thread 1) ++ replicate 2 Vm

abbrev pub superclass_text : List ℕ
superclass_text = codes "report 1\nprofile 1\nmain B\nschedule v:2 t1:17 v:2\nsteps 21\nend dead\nthread 1 ended\noutput 2\n1\n\nagents 0\n"

abbrev pub SuperclassInitializer : Type 0
SuperclassInitializer = IsRow superclass superclass_schedule Dead superclass_text

-- ---- uncaught exception

abbrev pub uncaught_z : List ℕ
uncaught_z =
    202 ∷ 254 ∷ 186 ∷ 190 ∷ 0 ∷ 0 ∷ 0 ∷ 52 ∷ 0 ∷ 8 ∷ 1 ∷ 0 ∷ 1 ∷ 90 ∷ 7 ∷ 0 ∷ 1 ∷ 1 ∷ 0 ∷ 16 ∷ 106 ∷ 97 ∷ 118 ∷ 97 ∷ 47 ∷ 108 ∷ 97 ∷ 110 ∷ 103 ∷ 47 ∷ 79 ∷ 98 ∷
    106 ∷ 101 ∷ 99 ∷ 116 ∷ 7 ∷ 0 ∷ 3 ∷ 1 ∷ 0 ∷ 4 ∷ 109 ∷ 97 ∷ 105 ∷ 110 ∷ 1 ∷ 0 ∷ 22 ∷ 40 ∷ 91 ∷ 76 ∷ 106 ∷ 97 ∷ 118 ∷ 97 ∷ 47 ∷ 108 ∷ 97 ∷ 110 ∷ 103 ∷ 47 ∷ 83 ∷ 116 ∷
    114 ∷ 105 ∷ 110 ∷ 103 ∷ 59 ∷ 41 ∷ 86 ∷ 1 ∷ 0 ∷ 4 ∷ 67 ∷ 111 ∷ 100 ∷ 101 ∷ 0 ∷ 33 ∷ 0 ∷ 2 ∷ 0 ∷ 4 ∷ 0 ∷ 0 ∷ 0 ∷ 0 ∷ 0 ∷ 1 ∷ 0 ∷ 9 ∷ 0 ∷ 5 ∷ 0 ∷ 6 ∷
    0 ∷ 1 ∷ 0 ∷ 7 ∷ 0 ∷ 0 ∷ 0 ∷ 17 ∷ 0 ∷ 2 ∷ 0 ∷ 1 ∷ 0 ∷ 0 ∷ 0 ∷ 5 ∷ 4 ∷ 3 ∷ 108 ∷ 87 ∷ 177 ∷ 0 ∷ 0 ∷ 0 ∷ 0 ∷ 0 ∷ 0 ∷ []

abbrev pub uncaught : World
uncaught = world_of (job_of (codes "Z") (record { name = codes "Z"; bytes = uncaught_z } ∷ []) 1000)

abbrev pub uncaught_schedule : List Actor
uncaught_schedule = replicate 2 Vm ++ replicate 11 (thread 1) ++ replicate 2 Vm

abbrev pub uncaught_text : List ℕ
uncaught_text = codes "report 1\nprofile 1\nmain Z\nschedule v:2 t1:11 v:2\nsteps 15\nend dead\nthread 1 uncaught java/lang/ArithmeticException\noutput 0\n\nagents 0\n"

abbrev pub UncaughtException : Type 0
UncaughtException = IsRow uncaught uncaught_schedule Dead uncaught_text

-- ---- deadlock is stuck

abbrev pub deadlock_d : List ℕ
deadlock_d =
    202 ∷ 254 ∷ 186 ∷ 190 ∷ 0 ∷ 0 ∷ 0 ∷ 52 ∷ 0 ∷ 23 ∷ 1 ∷ 0 ∷ 1 ∷ 68 ∷ 7 ∷ 0 ∷ 1 ∷ 1 ∷ 0 ∷ 16 ∷ 106 ∷ 97 ∷ 118 ∷ 97 ∷ 47 ∷ 108 ∷ 97 ∷ 110 ∷ 103 ∷ 47 ∷ 84 ∷ 104 ∷
    114 ∷ 101 ∷ 97 ∷ 100 ∷ 7 ∷ 0 ∷ 3 ∷ 1 ∷ 0 ∷ 6 ∷ 60 ∷ 105 ∷ 110 ∷ 105 ∷ 116 ∷ 62 ∷ 1 ∷ 0 ∷ 3 ∷ 40 ∷ 41 ∷ 86 ∷ 1 ∷ 0 ∷ 4 ∷ 67 ∷ 111 ∷ 100 ∷ 101 ∷ 12 ∷ 0 ∷ 5 ∷
    0 ∷ 6 ∷ 10 ∷ 0 ∷ 4 ∷ 0 ∷ 8 ∷ 1 ∷ 0 ∷ 4 ∷ 109 ∷ 97 ∷ 105 ∷ 110 ∷ 1 ∷ 0 ∷ 22 ∷ 40 ∷ 91 ∷ 76 ∷ 106 ∷ 97 ∷ 118 ∷ 97 ∷ 47 ∷ 108 ∷ 97 ∷ 110 ∷ 103 ∷ 47 ∷ 83 ∷ 116 ∷
    114 ∷ 105 ∷ 110 ∷ 103 ∷ 59 ∷ 41 ∷ 86 ∷ 1 ∷ 0 ∷ 2 ∷ 103 ∷ 111 ∷ 12 ∷ 0 ∷ 12 ∷ 0 ∷ 6 ∷ 10 ∷ 0 ∷ 2 ∷ 0 ∷ 13 ∷ 10 ∷ 0 ∷ 2 ∷ 0 ∷ 8 ∷ 1 ∷ 0 ∷ 5 ∷ 115 ∷ 116 ∷
    97 ∷ 114 ∷ 116 ∷ 12 ∷ 0 ∷ 16 ∷ 0 ∷ 6 ∷ 10 ∷ 0 ∷ 2 ∷ 0 ∷ 17 ∷ 1 ∷ 0 ∷ 3 ∷ 114 ∷ 117 ∷ 110 ∷ 1 ∷ 0 ∷ 1 ∷ 115 ∷ 12 ∷ 0 ∷ 20 ∷ 0 ∷ 6 ∷ 10 ∷ 0 ∷ 2 ∷ 0 ∷
    21 ∷ 0 ∷ 33 ∷ 0 ∷ 2 ∷ 0 ∷ 4 ∷ 0 ∷ 0 ∷ 0 ∷ 0 ∷ 0 ∷ 5 ∷ 0 ∷ 1 ∷ 0 ∷ 5 ∷ 0 ∷ 6 ∷ 0 ∷ 1 ∷ 0 ∷ 7 ∷ 0 ∷ 0 ∷ 0 ∷ 17 ∷ 0 ∷ 1 ∷ 0 ∷ 1 ∷ 0 ∷
    0 ∷ 0 ∷ 5 ∷ 42 ∷ 183 ∷ 0 ∷ 9 ∷ 177 ∷ 0 ∷ 0 ∷ 0 ∷ 0 ∷ 0 ∷ 9 ∷ 0 ∷ 10 ∷ 0 ∷ 11 ∷ 0 ∷ 1 ∷ 0 ∷ 7 ∷ 0 ∷ 0 ∷ 0 ∷ 16 ∷ 0 ∷ 0 ∷ 0 ∷ 1 ∷ 0 ∷ 0 ∷
    0 ∷ 4 ∷ 184 ∷ 0 ∷ 14 ∷ 177 ∷ 0 ∷ 0 ∷ 0 ∷ 0 ∷ 0 ∷ 41 ∷ 0 ∷ 12 ∷ 0 ∷ 6 ∷ 0 ∷ 1 ∷ 0 ∷ 7 ∷ 0 ∷ 0 ∷ 0 ∷ 27 ∷ 0 ∷ 2 ∷ 0 ∷ 1 ∷ 0 ∷ 0 ∷ 0 ∷ 15 ∷
    187 ∷ 0 ∷ 2 ∷ 89 ∷ 183 ∷ 0 ∷ 15 ∷ 75 ∷ 42 ∷ 182 ∷ 0 ∷ 18 ∷ 42 ∷ 194 ∷ 177 ∷ 0 ∷ 0 ∷ 0 ∷ 0 ∷ 0 ∷ 33 ∷ 0 ∷ 19 ∷ 0 ∷ 6 ∷ 0 ∷ 1 ∷ 0 ∷ 7 ∷ 0 ∷ 0 ∷ 0 ∷
    16 ∷ 0 ∷ 0 ∷ 0 ∷ 1 ∷ 0 ∷ 0 ∷ 0 ∷ 4 ∷ 184 ∷ 0 ∷ 22 ∷ 177 ∷ 0 ∷ 0 ∷ 0 ∷ 0 ∷ 0 ∷ 41 ∷ 0 ∷ 20 ∷ 0 ∷ 6 ∷ 0 ∷ 1 ∷ 0 ∷ 7 ∷ 0 ∷ 0 ∷ 0 ∷ 13 ∷ 0 ∷
    0 ∷ 0 ∷ 0 ∷ 0 ∷ 0 ∷ 0 ∷ 1 ∷ 177 ∷ 0 ∷ 0 ∷ 0 ∷ 0 ∷ 0 ∷ 0 ∷ []

abbrev pub deadlock : World
deadlock = world_of (job_of (codes "D") (record { name = codes "D"; bytes = deadlock_d } ∷ []) 16)

abbrev pub deadlock_schedule : List Actor
deadlock_schedule = replicate 2 Vm ++ replicate 16 (thread 1) ++ replicate 3 (thread 2) ++ replicate 2 (thread 1)

abbrev pub deadlock_text : List ℕ
deadlock_text = codes "report 1\nprofile 1\nmain D\nschedule v:2 t1:16 t2:3 t1:2\nsteps 23\nend stuck\nthread 1 live\nthread 2 live\noutput 0\n\nagents 0\n"

abbrev pub DeadlockIsStuck : Type 0
DeadlockIsStuck = IsRow deadlock deadlock_schedule Stuck deadlock_text
