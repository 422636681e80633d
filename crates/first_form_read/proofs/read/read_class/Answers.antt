use Rattle.std.proofs.Common.{ℕ, List, Result, Ok, Err, arith}
use Rattle.std.specs.Prelude.{IfOk}
use Rattle.first_form.specs.ClassFiles.{MainClass, Spells}
use Rattle.first_form.specs.Reading.{class_of}
use Rattle.first_form_read.specs.declared.read.ReadClassFault.{ReadClassFault}
use Rattle.first_form_read.specs.Reads.{Reads}
use Rattle.first_form_read.proofs.Spelled.{IsBytes, class_taken, class_again}
use Rattle.first_form_read.proofs.read.read_class.Goals as goal

-- what is read is spelled so
found_of : (bytes : List ℕ) (r : Result MainClass ReadClassFault) → IsBytes bytes → Reads r (class_of bytes) → IfOk r (λ c. Spells c bytes)
found_of bytes (Ok c) fits e = class_taken bytes c fits e
found_of bytes (Err f) fits e = tt

pub returns-clause-found : goal.returns-clause-found
returns-clause-found c = found_of c.args.bytes.now c.class_from.result (λ i. omega (arith, c.type_inv.bytes i)) c.class_from.ensures

pub returns-clause-only : goal.returns-clause-only
returns-clause-only c = λ k s. rw (← class_again c.args.bytes.now k s) c.class_from.ensures
