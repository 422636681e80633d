use Rattle.std.proofs.Common.{◌<◌, length, ap, arith}
use Rattle.thread_frames.specs.Arguments.{begun_frame}
use Rattle.thread_frames.proofs.Slots.{put_begun, place_within}
use Rattle.thread_frames.proofs.thread_stack.begin_at.Goals as goal

pub returns-then-has_frame_at-clause-put : goal.returns-then-has_frame_at-clause-put
returns-then-has_frame_at-clause-put g c =
    let slots = c.args.slots.now.items in
    let within : c.args.place < length slots = omega (arith, place_within c.deref.result.now c.args.place (c.has_frame_at.ensures c.if-has_frame_at.true), ap length c.deref.ensures.value) in
    put_begun c.begin.result slots c.args.place c.begin.new.self (begun_frame c.args.call c.args.locals) within c.begin.ensures
