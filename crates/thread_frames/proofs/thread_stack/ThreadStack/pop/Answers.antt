use Rattle.std.proofs.Common.{◌≡◌, ◌∙◌, ◌-◌, ◌<◌, List, take, reverse, ap, arith}
use Rattle.thread_frames.specs.ThreadStack.{top_words, popped}
use Rattle.thread_frames.specs.declared.frame.StackEntry.{StackEntry}
use Rattle.thread_frames.proofs.Slots.{held_popped, seen_popped}
use Rattle.thread_frames.proofs.thread_stack.ThreadStack.pop.Goals as goal

pub overflow_sub-self-2 : goal.overflow_sub-self-2
overflow_sub-self-2 g c =
    let held = c.self.inside.slots.items in
    let some : 0 < c.self.inside.depth = omega (arith, c.if-self-eq0.false) in
    let counted : c.last_words.result ≡ top_words (reverse (take (c.self.inside.depth - 1) held)) = c.last_words.ensures ∙ ap (λ (entries : List (StackEntry g.row.P.Denot)). top_words (reverse (take (c.self.inside.depth - 1) entries))) c.deref.ensures.value in
    (held_popped held c.self.inside.depth c.self.inside.words_below c.last_words.result some c.self.invariant counted).0

pub invariant_of-self : goal.invariant_of-self
invariant_of-self g c =
    let held = c.self.inside.slots.items in
    let some : 0 < c.self.inside.depth = omega (arith, c.if-self-eq0.false) in
    let counted : c.last_words.result ≡ top_words (reverse (take (c.self.inside.depth - 1) held)) = c.last_words.ensures ∙ ap (λ (entries : List (StackEntry g.row.P.Denot)). top_words (reverse (take (c.self.inside.depth - 1) entries))) c.deref.ensures.value in
    (held_popped held c.self.inside.depth c.self.inside.words_below c.last_words.result some c.self.invariant counted).1

pub returns : goal.returns
returns g c =
    seen_popped c.self.inside.slots.items c.self.inside.depth (omega (arith, c.if-self-eq0.false)) c.self.invariant.within
    ∙ ap (λ (stack : List (StackEntry g.row.P.Denot)). popped stack) c.self.view_is
