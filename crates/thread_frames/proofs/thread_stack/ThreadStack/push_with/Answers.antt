use Rattle.std.proofs.Common.{◌≡◌, ◌∙◌, List, take, reverse, ap}
use Rattle.thread_frames.specs.Arguments.{begun_frame}
use Rattle.thread_frames.specs.ThreadStack.{top_words}
use Rattle.thread_frames.specs.declared.frame.StackEntry.{StackEntry}
use Rattle.thread_frames.specs.declared.frame.StackEntry.TheVariants.{Java}
use Rattle.thread_frames.proofs.Slots.{held_pushed}
use Rattle.thread_frames.proofs.thread_stack.ThreadStack.push_with.Goals as goal

pub invariant_of-self-2 : goal.invariant_of-self-2
invariant_of-self-2 g c =
    let held = c.self.inside.slots.items in
    let depth = c.self.inside.depth in
    let counted : c.last_words-covered.result ≡ top_words (reverse (take depth held)) = c.last_words-covered.ensures ∙ ap (λ (entries : List (StackEntry g.row.P.Denot)). top_words (reverse (take depth entries))) c.deref.ensures.value in
    let deep = rw (← c.self.view_is) at c.requires in
    held_pushed held c.begin_at.new.slots.items depth c.self.inside.words_below c.last_words-covered.result (Java (begun_frame c.args.call c.args.locals)) c.self.invariant counted deep c.in_ok-begin_at.ensures.put
