use Rattle.std.proofs.Common.{◌≡◌, ◌≢◌, ℕ, List, inl, inr, sym, ◌∙◌}
use Rattle.check_run.specs.declared.status.Status.{Status}
use Rattle.check_run.specs.declared.status.Status.TheVariants.{Accepted, NotAccepted, Usage, WriteFault, OutOfMemory}
use Rattle.check_run.specs.Files.{IsFault}
use Rattle.check_run.specs.Words.{texts, Asks, AsksNothing}
use Rattle.check_run.proofs.files.check_all.Goals as goal

-- another status, where the words ask for something
other : (words : List (List ℕ)) (times : ℕ) (files : List (List ℕ)) (status : Status) → Asks words times files → status ≢ Usage → (status ≡ Usage → AsksNothing words) × (AsksNothing words → status ≡ Usage)
other words times files status asked differs = (λ same. absurd (differs same), λ nothing. absurd (nothing times files asked))

accepted_differs : Accepted ≢ Usage
accepted_differs same = cc

not_accepted_differs : NotAccepted ≢ Usage
not_accepted_differs same = cc

write_fault_differs : WriteFault ≢ Usage
write_fault_differs same = cc

out_of_memory_differs : OutOfMemory ≢ Usage
out_of_memory_differs same = cc

fault_differs : (status : Status) → IsFault status → status ≢ Usage
fault_differs status (inl fault) same = write_fault_differs (sym fault ∙ same)
fault_differs status (inr fault) same = out_of_memory_differs (sym fault ∙ same)

pub returns-in-Ok-true-clause-usage : goal.returns-in-Ok-true-clause-usage
returns-in-Ok-true-clause-usage g c = other _ c.in-Some.request.times (texts c.in-Some.request.files.now) Accepted c.in-Some.ensures.asked accepted_differs

pub returns-in-Ok-false-clause-usage : goal.returns-in-Ok-false-clause-usage
returns-in-Ok-false-clause-usage g c = other _ c.in-Some.request.times (texts c.in-Some.request.files.now) NotAccepted c.in-Some.ensures.asked not_accepted_differs

pub returns-in-Err-clause-usage : goal.returns-in-Err-clause-usage
returns-in-Err-clause-usage g c = other _ c.in-Some.request.times (texts c.in-Some.request.files.now) c.in-Err.status c.in-Some.ensures.asked (fault_differs c.in-Err.status c.in-Err.ensures.fault)
