-- The definitions, computed at the run of a class that prints the sum of 2 and 3.
use Rattle.std.proofs.Common.{◌≡◌, ℕ, List, [], ◌∷◌, ◌++◌, take, Option, Some, None, refl}
use Rattle.std.specs.Prelude.{codes, replicate, bytes_eq, slice_set, if◌then◌else◌}
use Rattle.std.specs.Fmt.{digits}
use Rattle.std.specs.Int.{int_wrap}
use Rattle.ti_ids.specs.declared.actor.Actor.{Actor}
use Rattle.ti_ids.specs.declared.actor.Actor.TheVariants.{Vm, Thread}
use Rattle.ti_ids.specs.declared.actor.End.TheVariants.{Dead}
use Rattle.jv_names.specs.Names.{printed}
use Rattle.jv_names.specs.Utf8.{unit_bytes}
use Rattle.jv_names.specs.TextReading.{unit_at}
use Rattle.jv_names.specs.DescriptorReading.{class_end, dimensions, split_class, split_dimensions, read_class, read_element, read_type}
use Rattle.jv_names.specs.DescriptorFlaws.{read_field, read_result, read_method, field_flaw, method_flaw}
use Rattle.class_code.specs.FormSearch.{form_at}
use Rattle.class_tree.specs.Spelling as bytes_of
use Rattle.classfile_items.specs.Reading.{u1, u2, u4, raw, many, counted}
use Rattle.first_form.specs.ClassFiles.{MainClass, spelling, tree_of}
use Rattle.first_form.specs.Reading.{class_of, name_and_code, after, counted_at, number_at}
use Rattle.report_text.specs.Texts.{report_text}
use Rattle.report_text.specs.Stated.{stated}
use Rattle.machine_model.specs.Jobs.{Job}
use Rattle.machine_model.specs.Replay.{opening}
use Rattle.machine_model.specs.Picks.{picked}
use Rattle.job_words.specs.declared.refusal.Refusal.TheVariants as refusals
use Rattle.machine_model.specs.Results.{Result, Refused, Accepted, not_yet, result_of, result_of_file, result_text, job_of, picked_end}

abbrev add : MainClass
add = record { name = codes "Add"; code = 178 ∷ 0 ∷ 13 ∷ 5 ∷ 6 ∷ 96 ∷ 182 ∷ 0 ∷ 19 ∷ 177 ∷ [] }

abbrev file : List ℕ
file = spelling (tree_of add)

abbrev job : Job
job = job_of (codes "Add") file

abbrev first : Actor
first = Thread (record { 0 = 1 })

abbrev schedule : List Actor
schedule = Vm ∷ Vm ∷ replicate 13 first ++ Vm ∷ Vm ∷ []

-- the one worker's schedule, from start to death
picked-job : picked job ≡ schedule
unfolding digits int_wrap opening class_of name_and_code after counted_at number_at
picked-job = refl

picked_end-job : picked_end job ≡ Some Dead
unfolding digits int_wrap opening class_of name_and_code after counted_at number_at
picked_end-job = refl

-- ---- words and files

abbrev words : List (List ℕ)
words = codes "run" ∷ codes "--main" ∷ codes "Add" ∷ codes "--class" ∷ codes "Add.class" ∷ []

abbrev files : List ℕ → Option (List ℕ)
files name = if bytes_eq name (codes "Add.class") then Some file else None

result_of-words : result_of words files ≡ Accepted job
unfolding class_of name_and_code after counted_at number_at u1 u2 u4 raw many counted class_end dimensions split_class split_dimensions read_class read_element read_type read_field read_result read_method field_flaw method_flaw unit_at unit_bytes form_at bytes_of.u2
result_of-words = refl

-- the report, byte for byte
result_text-words : result_text (result_of words files)
    ≡ codes "report 1\nprofile 1\nmain Add\nschedule v:2 t1:13 v:2\nsteps 17\nend dead\nthread 1 ended\noutput 2\n5\n\nagents 0\n"
unfolding digits int_wrap opening class_of name_and_code after counted_at number_at report_text printed
result_text-words = rw result_of-words refl

-- it states the schedule that was picked
stated-report : stated (result_text (result_of words files)) ≡ Some schedule
unfolding stated
stated-report = rw result_text-words refl

-- another name is the file's fault, and an absent file is told before it
result_of-other : result_of (codes "run" ∷ codes "--main" ∷ codes "Sub" ∷ codes "--class" ∷ codes "Add.class" ∷ []) files ≡ Refused (refusals.BadClass 1 not_yet)
unfolding class_of name_and_code after counted_at number_at u1 u2 u4 raw many counted class_end dimensions split_class split_dimensions read_class read_element read_type read_field read_result read_method field_flaw method_flaw unit_at unit_bytes form_at bytes_of.u2
result_of-other = refl

result_of-absent : result_of (codes "run" ∷ codes "--main" ∷ codes "Add" ∷ codes "--class" ∷ codes "Sub.class" ∷ []) files ≡ Refused (refusals.Absent 1)
result_of-absent = refl

result_of-few : result_of (codes "run" ∷ codes "--main" ∷ codes "Add" ∷ []) files ≡ Refused refusals.Usage
result_of-few = refl

-- ---- files with a fault

-- what is told of these bytes
abbrev told_of : List ℕ → List ℕ
told_of bytes = result_text (result_of_file (codes "Add") (Some bytes))

told_of-front : told_of (take 40 file) ≡ codes "refused class 1 truncated 40\n"
unfolding digits class_of name_and_code after counted_at number_at u1 u2 u4 raw many counted class_end dimensions split_class split_dimensions read_class read_element read_type read_field read_result read_method field_flaw method_flaw unit_at unit_bytes form_at bytes_of.u2
told_of-front = refl

told_of-longer : told_of (file ++ 0 ∷ []) ≡ codes "refused class 1 trailing 244\n"
unfolding digits class_of name_and_code after counted_at number_at u1 u2 u4 raw many counted class_end dimensions split_class split_dimensions read_class read_element read_type read_field read_result read_method field_flaw method_flaw unit_at unit_bytes form_at bytes_of.u2
told_of-longer = refl

-- `fadd` in place of `iadd`
told_of-fadd : told_of (slice_set file 233 98) ≡ codes "refused class 1 floating 233\n"
unfolding digits class_of name_and_code after counted_at number_at u1 u2 u4 raw many counted class_end dimensions split_class split_dimensions read_class read_element read_type read_field read_result read_method field_flaw method_flaw unit_at unit_bytes form_at bytes_of.u2
told_of-fadd = refl

-- `irem` in place of `iadd`, which the grammar accepts
told_of-irem : told_of (slice_set file 233 112) ≡ codes "refused class 1 unsupported 0\n"
unfolding digits class_of name_and_code after counted_at number_at u1 u2 u4 raw many counted class_end dimensions split_class split_dimensions read_class read_element read_type read_field read_result read_method field_flaw method_flaw unit_at unit_bytes form_at bytes_of.u2
told_of-irem = refl
