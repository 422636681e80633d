use Rattle.std.proofs.Common.{◌≡◌, ◌∙◌, ◌+◌, ◌-◌, ◌<◌, List, length, take, reverse, ap, arith}
use Rattle.std.proofs.lemmas.List.{length-reverse, length-take-le, length-set}
use Rattle.thread_frames.specs.ThreadStack.{without_arguments_below}
use Rattle.thread_frames.specs.declared.frame.StackEntry.{StackEntry}
use Rattle.thread_frames.proofs.Slots.{caller_at, arguments_gone, held_without}
use Rattle.thread_frames.proofs.StackWords.{two_below_java, java_below_is}
use Rattle.thread_frames.proofs.thread_stack.ThreadStack.drop_arguments.Goals as goal

pub frame_mut-caller-requires : goal.frame_mut-caller-requires
frame_mut-caller-requires g c =
    let held = c.self.inside.slots.items in
    let depth = c.self.inside.depth in
    let java = rw (← c.self.view_is) at c.requires in
    let two : 1 < length (reverse (take depth held)) = two_below_java (reverse (take depth held)) java in
    let below : depth - 2 + 2 ≡ depth = omega (arith, two, length-reverse (take depth held), length-take-le depth held c.self.invariant.within) in
    java_below_is (reverse (take depth held)) c.index_mut.result.now java (caller_at held depth (depth - 2) c.index_mut.result.now below c.self.invariant.within c.index_mut.ensures.value)

pub invariant_of-self : goal.invariant_of-self
invariant_of-self g c =
    let held = c.self.inside.slots.items in
    let depth = c.self.inside.depth in
    let java = rw (← c.self.view_is) at c.requires in
    let two : 1 < length (reverse (take depth held)) = two_below_java (reverse (take depth held)) java in
    let below : depth - 2 + 2 ≡ depth = omega (arith, two, length-reverse (take depth held), length-take-le depth held c.self.invariant.within) in
    let gone = arguments_gone held depth (depth - 2) c.args.count c.index_mut.result.now c.frame_mut-caller.result.now c.drop_top.new.self below c.self.invariant.within c.index_mut.ensures.value c.frame_mut-caller.ensures.value c.drop_top.ensures in
    held_without held _ depth c.self.inside.words_below c.args.count (length-set held (depth - 2) _) gone c.self.invariant

pub returns : goal.returns
returns g c =
    let held = c.self.inside.slots.items in
    let depth = c.self.inside.depth in
    let java = rw (← c.self.view_is) at c.requires in
    let two : 1 < length (reverse (take depth held)) = two_below_java (reverse (take depth held)) java in
    let below : depth - 2 + 2 ≡ depth = omega (arith, two, length-reverse (take depth held), length-take-le depth held c.self.invariant.within) in
    arguments_gone held depth (depth - 2) c.args.count c.index_mut.result.now c.frame_mut-caller.result.now c.drop_top.new.self below c.self.invariant.within c.index_mut.ensures.value c.frame_mut-caller.ensures.value c.drop_top.ensures
    ∙ ap (λ (stack : List (StackEntry g.row.P.Denot)). without_arguments_below c.args.count stack) c.self.view_is
