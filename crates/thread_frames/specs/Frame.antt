-- Frames (JVM specification 2.6).
use Rattle.std.specs.Prelude.{ℕ, ◌+◌, List, length}
use Rattle.ti_ids.specs.declared.number.ClassNo.{ClassNo}
use Rattle.ti_ids.specs.declared.number.MethodNo.{MethodNo}
use Rattle.ti_ids.specs.declared.value.Value.{Value}
use Rattle.ti_ids.specs.declared.state.Announced.TheVariants.{New}
use Rattle.thread_frames.specs.Operands.{empty_stack}
use Rattle.thread_frames.specs.declared.frame.Frame.{Frame}
use Rattle.thread_frames.specs.declared.frame.StackEntry.{StackEntry}
use Rattle.thread_frames.specs.declared.frame.StackEntry.TheVariants.{Java, Init}

module _ {P : Type 0} where
  -- the frame of a method that was just invoked
  abbrev pub new_frame : ClassNo → MethodNo → P → List Value → ℕ → Frame P
  new_frame class method pin locals room = record {
    class = class;
    method = method;
    pin = pin;
    pc = 0;
    locals = locals;
    stack = empty_stack room;
    announced = New;
  }

  -- a frame takes the words of its local variables, and those of its operand stack's room
  abbrev pub frame_words : Frame P → ℕ
  frame_words frame = length frame.locals + frame.stack.room

  -- an initialization takes none
  abbrev pub entry_words : StackEntry P → ℕ
  entry_words (Java frame) = frame_words frame
  entry_words (Init class) = 0

  -- it is the frame of a method
  abbrev pub IsJava : StackEntry P → Type 0
  IsJava (Java frame) = Unit {0}
  IsJava (Init class) = ⊥
