-- What the entries of a stack map must be: JVM specification 4.7.4.
use Rattle.std.specs.Prelude.{Bool, true, ◌&&◌, nat_lt, List}
use Rattle.class_tree.specs.declared.pool.Const.{Const}
use Rattle.class_tree.specs.declared.frames.VerificationType.{VerificationType}
use Rattle.class_tree.specs.declared.frames.VerificationType.TheVariants as type
use Rattle.class_tree.specs.declared.frames.Appended.{Appended}
use Rattle.class_tree.specs.declared.frames.Appended.TheVariants as appended
use Rattle.class_tree.specs.declared.frames.StackMapFrame.{StackMapFrame}
use Rattle.class_tree.specs.declared.frames.StackMapFrame.TheVariants as frame
use Rattle.class_tree.specs.Ranges.{is_u2, are_counted}
use Rattle.class_tree.specs.Tree.{names_class}

abbrev pub is_type : List Const → VerificationType → Bool
is_type pool (type.Object class) = names_class pool class
is_type pool (type.Uninitialized at) = is_u2 at
is_type pool _ = true

abbrev pub are_appended : List Const → Appended → Bool
are_appended pool (appended.One a) = is_type pool a
are_appended pool (appended.Two a b) = is_type pool a && is_type pool b
are_appended pool (appended.Three a b c) = is_type pool a && is_type pool b && is_type pool c

abbrev pub is_frame : List Const → StackMapFrame → Bool
is_frame pool (frame.Same delta) = nat_lt delta 64
is_frame pool (frame.SameLocals1StackItem delta stack) = nat_lt delta 64 && is_type pool stack
is_frame pool (frame.SameLocals1StackItemExtended delta stack) = is_u2 delta && is_type pool stack
is_frame pool (frame.Chop delta count) = is_u2 delta
is_frame pool (frame.SameExtended delta) = is_u2 delta
is_frame pool (frame.Append delta locals) = is_u2 delta && are_appended pool locals
is_frame pool (frame.Full delta locals stack) = is_u2 delta && are_counted (is_type pool) locals && are_counted (is_type pool) stack
