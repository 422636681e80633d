-- Reports and schedule lines, computed.
use Rattle.std.proofs.Common.{◌≡◌, ◌++◌, ℕ, List, [], ◌∷◌, Some, None, refl}
use Rattle.std.specs.Prelude.{codes, replicate}
use Rattle.ti_ids.specs.declared.actor.Actor.{Actor}
use Rattle.ti_ids.specs.declared.actor.Actor.TheVariants.{Vm, Thread}
use Rattle.ti_ids.specs.declared.actor.End.TheVariants.{Dead}
use Rattle.std.specs.Fmt.{digits}
use Rattle.jv_names.specs.Names.{printed}
use Rattle.report_text.specs.declared.thread_line.ThreadLine.TheVariants.{Ended}
use Rattle.report_text.specs.declared.parts.ReportParts.{ReportParts}
use Rattle.report_text.specs.Runs.{runs_of}
use Rattle.report_text.specs.Texts.{report_text}
use Rattle.report_text.specs.Stated.{stated}

abbrev first_thread : Actor
first_thread = Thread (record { 0 = 1 })

-- two steps of the machine, thirteen of the first thread, and two of the machine
abbrev schedule_of_add : List Actor
schedule_of_add = Vm ∷ Vm ∷ (replicate 13 first_thread ++ Vm ∷ Vm ∷ [])

abbrev report_of_add : ReportParts
report_of_add = record {
  main = codes "Add";
  runs = runs_of schedule_of_add;
  steps = 17;
  end = Some Dead;
  threads = Ended ∷ [];
  output = codes "5\n";
  agents = [];
}

abbrev text_of_add : List ℕ
text_of_add = codes "report 1\nprofile 1\nmain Add\nschedule v:2 t1:13 v:2\nsteps 17\nend dead\nthread 1 ended\noutput 2\n5\n\nagents 0\n"

pub report_text-of_add : report_text report_of_add ≡ text_of_add
unfolding report_text printed digits
report_text-of_add = refl

pub stated-of_add : stated text_of_add ≡ Some schedule_of_add
unfolding stated
stated-of_add = refl

-- two neighbouring runs of one actor
pub stated-not_joined : stated (codes "schedule v:2 v:1") ≡ None
unfolding stated
stated-not_joined = refl

pub stated-leading_zero : stated (codes "schedule v:02") ≡ None
unfolding stated
stated-leading_zero = refl

pub stated-empty : stated (codes "schedule") ≡ Some []
unfolding stated
stated-empty = refl

-- no line begins with `schedule`
pub stated-no_line : stated (codes "x\n") ≡ None
unfolding stated
stated-no_line = refl

-- with no line feed
pub stated-one : stated (codes "schedule t1:1") ≡ Some (first_thread ∷ [])
unfolding stated
stated-one = refl

pub stated-two_spaces : stated (codes "schedule  v:1") ≡ None
unfolding stated
stated-two_spaces = refl

pub stated-ten_digits : stated (codes "schedule v:1 t1234567890:1") ≡ None
unfolding stated
stated-ten_digits = refl

pub stated-another_word : stated (codes "scheduled v:1") ≡ None
unfolding stated
stated-another_word = refl
