use Rattle.std.proofs.Common.{◌≡◌, ◌∙◌, ℕ, ◌-◌, List, length, take, drop, reverse, ap, arith}
use Rattle.std.proofs.lemmas.List.{take_rest}
use Rattle.ti_ids.specs.declared.value.Value.{Value}
use Rattle.thread_frames.specs.Operands.{OperandStack}
use Rattle.thread_frames.specs.Arguments.{topmost}
use Rattle.thread_frames.proofs.Reversed.{topmost-held}
use Rattle.thread_frames.proofs.operands.Operands.topmost.Goals as goal

pub returns : goal.returns
returns c =
    let held = c.deref.result.now in
    let below : c.saturating_sub-below.result ≡ length held - c.args.count = omega (arith, c.saturating_sub-below.ensures, c.len.ensures, c.deref.ensures.len) in
    take_rest held c.saturating_sub-below.result
    ∙ ap (λ (n : ℕ). drop n held) below
    ∙ topmost-held held c.args.count
    ∙ ap (λ (values : List Value). reverse (take c.args.count (reverse values))) c.deref.ensures.value
    ∙ ap (λ (stack : OperandStack). topmost c.args.count stack) c.self.view_is
