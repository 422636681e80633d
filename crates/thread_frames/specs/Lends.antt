-- What a stack ends as, where a `&mut` to the frame on top was returned.
use Rattle.std.specs.Prelude.{List, Option}
use Rattle.std.specs.Borrow.{Lends, LendsIf, Fml, RattleType, MutBor}
use Rattle.thread_frames.specs.ThreadStack.{replaced}
use Rattle.thread_frames.specs.declared.frame.Frame.{Frame}
use Rattle.thread_frames.specs.declared.frame.StackEntry.{StackEntry}
use Rattle.thread_frames.specs.declared.frame.StackEntry.TheVariants.{Java}
use Rattle.thread_frames.specs.contracts.frame.Frame.{the_row as frame_row}
use Rattle.thread_frames.specs.contracts.frame.StackEntry.{the_row as entry_row}
use Rattle.thread_frames.specs.contracts.thread_stack.ThreadStack.{the_row as stack_row}

module _ (P : RattleType) where
  -- once the borrow r ends, the entry is the frame last written through r
  abbrev pub lends_frame : MutBor (StackEntry P.Denot) → MutBor (Frame P.Denot) → Fml
  lends_frame entry r = Lends (entry_row P) (frame_row P) entry r Java

  -- the same of the entry on top, and all below it stays
  abbrev pub lends_known_top : MutBor (List (StackEntry P.Denot)) → MutBor (Frame P.Denot) → Fml
  lends_known_top stack r = Lends (stack_row P) (frame_row P) stack r (λ frame. replaced frame stack.now)

  -- the same where r is a reference, and at `None` the stack stays as it is
  abbrev pub lends_top : MutBor (List (StackEntry P.Denot)) → Option (MutBor (Frame P.Denot)) → Fml
  lends_top stack r = LendsIf (stack_row P) (frame_row P) stack r (λ frame. replaced frame stack.now) stack.now
