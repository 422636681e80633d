use Rattle.std.proofs.Common.{◌≡◌, ◌≢◌, ◌<◌, ◌≤◌, ℕ, List, map, get_or, length, ◌∙◌, sym, arith}
use Rattle.std.proofs.lemmas.List.{length-map}
use Rattle.jv_names.proofs.ClassNames.{named_start, no_part_at, slash_at, good_at, bad_at, end_at, letter_at}
use Rattle.jv_names.proofs.name.has_class_form.Goals as goal
use Rattle.jv_names.proofs.name.has_class_form.Goals.{then-unit-from+else-not-begun, else-unit-from+else-not-is_part_unit}

pub loop-letter-init : goal.loop-letter-init
loop-letter-init g c = named_start (map g.T.Letter.unit_of c.args.text.now)

pub returns-then-not-begun : goal.returns-then-not-begun
returns-then-not-begun g c =
    let units : List ℕ = map g.T.Letter.unit_of c.args.text.now in
    let i = c.loop-letter.letter-index in
    let here : get_or units i 0 ≡ c.unit-unit.result = letter_at g.T.Letter.unit_of c.args.text.now i c.letter-item.result c.loop-letter-test.true c.letter-item.is ∙ sym c.unit-unit.ensures in
    let within : i < length units = omega (arith, length-map c.args.text.now g.T.Letter.unit_of) in
    sym (c.loop-letter.invariant ∙ no_part_at units i c.loop-letter.begun within (here ∙ c.if-unit-from.true ∙ c.from.ensures) c.if-not-begun.true)

pub returns-then-not-is_part_unit : goal.returns-then-not-is_part_unit
returns-then-not-is_part_unit g c =
    let units : List ℕ = map g.T.Letter.unit_of c.args.text.now in
    let i = c.loop-letter.letter-index in
    let here : get_or units i 0 ≡ c.unit-unit.result = letter_at g.T.Letter.unit_of c.args.text.now i c.letter-item.result c.loop-letter-test.true c.letter-item.is ∙ sym c.unit-unit.ensures in
    let within : i < length units = omega (arith, length-map c.args.text.now g.T.Letter.unit_of) in
    let other : get_or units i 0 ≢ 47 = λ e. c.if-unit-from.false (sym here ∙ e ∙ sym c.from.ensures) in
    sym (c.loop-letter.invariant ∙ bad_at units i c.loop-letter.begun within other (rw here (sym c.is_part_unit.ensures ∙ c.if-not-is_part_unit.true)))

pub loop-letter-preserved : goal.loop-letter-preserved
loop-letter-preserved g c =
    let units : List ℕ = map g.T.Letter.unit_of c.args.text.now in
    let i = c.loop-letter.letter-index in
    let here : get_or units i 0 ≡ c.unit-unit.result = letter_at g.T.Letter.unit_of c.args.text.now i c.letter-item.result c.loop-letter-test.true c.letter-item.is ∙ sym c.unit-unit.ensures in
    let within : i < length units = omega (arith, length-map c.args.text.now g.T.Letter.unit_of) in
    elim c.if-unit-from.branch [
      | then-unit-from+else-not-begun w ↦
          rw w.begun-is (c.loop-letter.invariant ∙ slash_at units i c.loop-letter.begun within (here ∙ w.if-unit-from.true ∙ c.from.ensures) w.if-not-begun.false)
      | else-unit-from+else-not-is_part_unit w ↦
          let other : get_or units i 0 ≢ 47 = λ e. w.if-unit-from.false (sym here ∙ e ∙ sym c.from.ensures) in
          rw w.begun-is (c.loop-letter.invariant ∙ good_at units i c.loop-letter.begun within other (rw here (sym w.is_part_unit.ensures ∙ w.if-not-is_part_unit.false)))
    ]

pub returns : goal.returns
returns g c =
    let units : List ℕ = map g.T.Letter.unit_of c.args.text.now in
    let i = c.loop-letter.letter-index in
    let past : length units ≤ i = omega (arith, length-map c.args.text.now g.T.Letter.unit_of) in
    sym (c.loop-letter.invariant ∙ end_at units i c.loop-letter.begun past)
