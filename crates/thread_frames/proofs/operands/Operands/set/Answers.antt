use Rattle.std.proofs.Common.{◌≡◌, ◌∙◌, ◌+◌, ◌-◌, ◌<◌, ◌≤◌, List, length, reverse, ap, sym, subst, arith}
use Rattle.std.specs.Prelude.{slice_set}
use Rattle.std.proofs.lemmas.List.{length-reverse}
use Rattle.ti_ids.specs.declared.value.Value.{Value}
use Rattle.thread_frames.specs.Operands.{OperandStack, words_of}
use Rattle.thread_frames.proofs.OperandWords.{words_written}
use Rattle.thread_frames.proofs.Reversed.{reverse-set}
use Rattle.thread_frames.proofs.operands.Operands.set.Goals as goal

pub overflow_sub-self : goal.overflow_sub-self
overflow_sub-self c =
    let held = c.self.inside.values.items in
    let Deeper : OperandStack → Type 0 = λ stack. c.args.depth < length stack.entries in
    let deeper : c.args.depth < length (reverse held) = subst Deeper (sym c.self.view_is) c.requires.within in
    let place : c.len.result - 1 - c.args.depth + c.args.depth + 1 ≡ length held = omega (arith, deeper, length-reverse held, c.len.ensures, c.self.inside.values.ok.0) in
    let words = words_written held (c.len.result - 1 - c.args.depth) c.args.depth c.self.inside.words c.index-old.result.now c.args.value place c.index-old.ensures c.self.invariant.counted in
    omega (arith, words.0, c.words_of_value.ensures)

pub overflow_add-self : goal.overflow_add-self
overflow_add-self c =
    let held = c.self.inside.values.items in
    let Deeper : OperandStack → Type 0 = λ stack. c.args.depth < length stack.entries in
    let deeper : c.args.depth < length (reverse held) = subst Deeper (sym c.self.view_is) c.requires.within in
    let Fitting : OperandStack → Type 0 = λ stack. words_of (slice_set stack.entries c.args.depth c.args.value) ≤ stack.room in
    let fits : words_of (slice_set (reverse held) c.args.depth c.args.value) ≤ c.self.inside.room = subst Fitting (sym c.self.view_is) c.requires.fits in
    let place : c.len.result - 1 - c.args.depth + c.args.depth + 1 ≡ length held = omega (arith, deeper, length-reverse held, c.len.ensures, c.self.inside.values.ok.0) in
    let words = words_written held (c.len.result - 1 - c.args.depth) c.args.depth c.self.inside.words c.index-old.result.now c.args.value place c.index-old.ensures c.self.invariant.counted in
    omega (arith, words.0, words.1, fits, c.words_of_value.ensures, c.words_of_value-2.ensures)

pub invariant_of-self : goal.invariant_of-self
invariant_of-self c =
    let held = c.self.inside.values.items in
    let Deeper : OperandStack → Type 0 = λ stack. c.args.depth < length stack.entries in
    let deeper : c.args.depth < length (reverse held) = subst Deeper (sym c.self.view_is) c.requires.within in
    let Fitting : OperandStack → Type 0 = λ stack. words_of (slice_set stack.entries c.args.depth c.args.value) ≤ stack.room in
    let fits : words_of (slice_set (reverse held) c.args.depth c.args.value) ≤ c.self.inside.room = subst Fitting (sym c.self.view_is) c.requires.fits in
    let place : c.len.result - 1 - c.args.depth + c.args.depth + 1 ≡ length held = omega (arith, deeper, length-reverse held, c.len.ensures, c.self.inside.values.ok.0) in
    let words = words_written held (c.len.result - 1 - c.args.depth) c.args.depth c.self.inside.words c.index-old.result.now c.args.value place c.index-old.ensures c.self.invariant.counted in
    let put = ap (λ (values : List Value). words_of values) (reverse-set held (c.len.result - 1 - c.args.depth) c.args.depth c.args.value place) in
    record {
      counted = omega (arith, words.0, words.1, put, c.words_of_value.ensures, c.words_of_value-2.ensures);
      within = omega (arith, words.0, words.1, fits, c.words_of_value.ensures, c.words_of_value-2.ensures);
      granted = c.self.invariant.granted;
    }

pub returns : goal.returns
returns c =
    let held = c.self.inside.values.items in
    let Deeper : OperandStack → Type 0 = λ stack. c.args.depth < length stack.entries in
    let deeper : c.args.depth < length (reverse held) = subst Deeper (sym c.self.view_is) c.requires.within in
    let place : c.len.result - 1 - c.args.depth + c.args.depth + 1 ≡ length held = omega (arith, deeper, length-reverse held, c.len.ensures, c.self.inside.values.ok.0) in
    let with_entries : List Value → OperandStack = λ entries. record { entries = entries; room = c.self.inside.room } in
    ap with_entries (reverse-set held (c.len.result - 1 - c.args.depth) c.args.depth c.args.value place)
    ∙ ap (λ (stack : OperandStack). record stack { entries = slice_set stack.entries c.args.depth c.args.value }) c.self.view_is
