-- The number of each status, and the status of each refusal.
use Rattle.std.specs.Prelude.{ℕ}
use Rattle.job_words.specs.declared.refusal.Refusal.{Refusal}
use Rattle.job_words.specs.declared.refusal.Refusal.TheVariants as refusals
use Rattle.job_words.specs.declared.status.Status.{Status}
use Rattle.job_words.specs.declared.status.Status.TheVariants.{Done, Uncaught, Usage, Absent, BadClass, BadAgent, ReadFault, WriteFault, OutOfMemory, TooLarge, Stuck, Limit, BadSchedule}

-- the number that the program ends with
abbrev pub status_number : Status → ℕ
status_number Done = 0
status_number Uncaught = 1
status_number Usage = 2
status_number Absent = 3
status_number BadClass = 4
status_number BadAgent = 5
status_number ReadFault = 6
status_number WriteFault = 7
status_number OutOfMemory = 8
status_number TooLarge = 9
status_number Stuck = 10
status_number Limit = 11
status_number BadSchedule = 12

abbrev pub refusal_status : Refusal → Status
refusal_status refusals.Usage = Usage
refusal_status (refusals.Absent place) = Absent
refusal_status (refusals.ReadFault place) = ReadFault
refusal_status (refusals.TooLarge limit n) = TooLarge
refusal_status (refusals.BadClass place fault) = BadClass
refusal_status (refusals.BadAgent place fault) = BadAgent
refusal_status refusals.BadText = BadSchedule
refusal_status (refusals.BadEntry before) = BadSchedule
