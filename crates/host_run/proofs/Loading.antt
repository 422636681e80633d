-- What the grammar and the first form find of a class file.
use Rattle.std.proofs.Common.{◌≡◌, ◌∙◌, ◌↔◌, ◌≤◌, ℕ, List, length, Option, None, Some, Ok, Err, Bool, true, false, refl, sym, ap, subst, Decides}
use Rattle.std.specs.Prelude as std
use Rattle.std.specs.Prelude.{IsTrue, IsOk, IfSome, nat_lt}
use Rattle.std.specs.Str.{bytes_eq}
use Rattle.std.proofs.lemmas.Bool.{le-ltb}
use Rattle.std.proofs.lemmas.Slice.Eq.{bytes_eq-Decides}
use Rattle.class_tree.specs.Trees.{Tree}
use Rattle.classfile_items.specs.Reading.{Checked}
use Rattle.classfile_read.specs.ClassReading as grammar
use Rattle.first_form.specs.ClassFiles.{MainClass}
use Rattle.first_form.specs.Reading.{class_of}
use Rattle.job_words.specs.declared.input_limit.InputLimit.TheVariants.{ClassBytes}
use Rattle.job_words.specs.declared.refusal.Refusal.TheVariants.{BadClass}
use Rattle.job_words.specs.Refusals.{most}
use Rattle.machine_model.specs.Jobs.{Job}
use Rattle.machine_model.specs.Results.{Result, Refused, request_of, result_of, result_of_request, result_of_file, result_of_class, result_of_first, not_yet}
use Rattle.host_run.specs.declared.load.JobFault.{JobFault}
use Rattle.host_run.specs.declared.load.JobFault.TheVariants as faults
use Rattle.host_run.specs.Words.{as_request}
use Rattle.host_run.specs.Loads.{Loads}

-- a file that the grammar accepts
pub accepted : (main bytes : List ℕ) (found : Checked Tree) (first : Option MainClass) → IsOk found → result_of_class main bytes found first ≡ result_of_first main bytes first
accepted main bytes (Ok t) first is = refl
accepted main bytes (Err fault) first is = cc

differs : (b t : Bool) (x y : List ℕ) → Decides t (x ≡ y) → (IsTrue b ↔ (x ≡ y)) → b ≡ false → t ≡ false
differs b false x y d is unequal = refl
differs b true x y d is unequal = let yes = is.1 (d.0 refl) in absurd cc

-- a class was read, and its name is not the word: it is refused
pub refused_other : (main items bytes name word : List ℕ) (class : MainClass) (b : Bool) → bytes ≡ items → name ≡ class.name → word ≡ main
    → class_of bytes ≡ Some class → (IsTrue b ↔ (name ≡ word)) → b ≡ false → result_of_first main items (class_of items) ≡ Refused (BadClass 1 not_yet)
refused_other main items bytes name word class b same named worded read is unequal =
    let read' : class_of items ≡ Some class = subst (λ (x : List ℕ). class_of x ≡ Some class) same read in
    let is' : IsTrue b ↔ (class.name ≡ main) = subst (λ (x : List ℕ). IsTrue b ↔ (x ≡ main)) named (subst (λ (x : List ℕ). IsTrue b ↔ (name ≡ x)) worded is) in
    let other : bytes_eq class.name main ≡ false = differs b (bytes_eq class.name main) class.name main (bytes_eq-Decides class.name main) is' unequal in
    ap (result_of_first main items) read' ∙ rw other refl

-- a fault that is told of what can't be run yet
pub not_yet_told : (fault : JobFault) (asked : Result) → fault ≡ faults.Refused (BadClass 1 not_yet) → asked ≡ Refused (BadClass 1 not_yet) → Loads (Err fault) asked
not_yet_told fault asked told refused = subst (λ (f : JobFault). Loads (Err f) asked) (sym told) refused

-- a file that was found, with no more bytes than a class file may have
pub found_told : (answer : std.Result Job JobFault) (words : List (List ℕ)) (main file bytes : List ℕ) (limit : ℕ) (files : Option (List ℕ → Option (List ℕ)))
    → Some (as_request main file) ≡ request_of words → limit ≡ most ClassBytes → IfSome files (λ f. (f file ≡ Some bytes) × (length bytes ≤ limit))
    → Loads answer (result_of_class main bytes (grammar.class_of bytes) (class_of bytes)) → IfSome files (λ f. Loads answer (result_of words f))
found_told answer words main file bytes limit None asked allowed found loads = tt
found_told answer words main file bytes limit (Some f) asked allowed found loads =
    let few : length bytes ≤ 1048576 = subst (λ (n : ℕ). length bytes ≤ n) allowed found.1 in
    let fits : nat_lt 1048576 (length bytes) ≡ false = le-ltb 1048576 (length bytes) few in
    let read : result_of_file main (Some bytes) ≡ result_of_class main bytes (grammar.class_of bytes) (class_of bytes) = rw fits refl in
    let whole : result_of words f ≡ result_of_class main bytes (grammar.class_of bytes) (class_of bytes) =
    ap (λ r. result_of_request r f) (sym asked) ∙ ap (result_of_file main) found.0 ∙ read in
    subst (λ (r : Result). Loads answer r) (sym whole) loads
