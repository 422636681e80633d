use Rattle.std.proofs.Common.{◌≡◌, ◌∙◌, ℕ, List, Option, Some, sym, ap}
use Rattle.std.specs.Prelude.{slice_get}
use Rattle.std.proofs.lemmas.Option.{slice_get-get_or}
use Rattle.classfile_read.specs.Repeats.{index_of}
use Rattle.classfile_read.proofs.Repeats.{stands_noted, stands_found}
use Rattle.classfile_read.proofs.seen.standing_index.Goals as goal

pub returns-in-Some-Some : goal.returns-in-Some-Some
returns-in-Some-Some c = λ pool there knows.
    let lookup = c.in-Some-Some.ensures.lookup in
    let list = c.deref.result.now in
    let place = c.from.result in
    let found = c.in-Some-Some.field-0.now in
    let here : slice_get list place ≡ Some found = slice_get-get_or list place found lookup.3.0 ∙ ap Some (sym (lookup.3.1 found)) in
    let own : slice_get c.args.known.now.items c.args.index ≡ slice_get list place = ap (λ (l : List (Option ℕ)). slice_get l c.args.index) (sym c.deref.ensures.value) ∙ ap (λ (i : ℕ). slice_get list i) (sym c.from.ensures) in
    stands_noted pool c.args.known.now.items (index_of c.args.texts.now) c.args.text.now c.args.index c.in-Some-Some.standing knows there (own ∙ here ∙ ap Some c.in-Some-Some.field-0-is)

pub returns : goal.returns
returns c = λ pool there knows.
    stands_found pool c.args.known.now.items c.note.new.known.items (index_of c.args.texts.now) (index_of c.index_of_text.new.texts) c.args.text.now c.args.index c.in_ok-standing.standing knows there
    c.in_ok-standing.ensures.found c.in_ok-standing.ensures.noted c.note.ensures
