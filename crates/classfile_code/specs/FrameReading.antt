-- Reading stack maps: JVM specification 4.7.4.
use Rattle.std.specs.Prelude.{ℕ, ◌-◌, ◌||◌, ◌==◌, nat_lt, if◌then◌else◌, List, Ok, Err}
use Rattle.class_tree.specs.declared.pool.Const.{Const}
use Rattle.class_tree.specs.declared.frames.VerificationType.{VerificationType}
use Rattle.class_tree.specs.declared.frames.VerificationType.TheVariants as type
use Rattle.class_tree.specs.declared.frames.Chopped.{Chopped}
use Rattle.class_tree.specs.declared.frames.Chopped.TheVariants as chopped
use Rattle.class_tree.specs.declared.frames.Appended.TheVariants as appended
use Rattle.class_tree.specs.declared.frames.StackMapFrame.{StackMapFrame}
use Rattle.class_tree.specs.declared.frames.StackMapFrame.TheVariants as frame
use Rattle.class_tree.specs.Tree.{names_class}
use Rattle.classfile_items.specs.declared.fault.ReadClassFault.TheVariants.{BadTag, BadIndex, Floating}
use Rattle.classfile_items.specs.Reading.{Found, ◌>>=◌, provided, offset, u1, u2, counted}

abbrev pub class_index : List Const → ℕ → List ℕ → Found ℕ
class_index pool end bytes = u2 end bytes >>= λ n. provided (names_class pool n.0) (BadIndex (offset end bytes)) n

abbrev pub object_type : List Const → ℕ → List ℕ → Found VerificationType
object_type pool end bytes = class_index pool end bytes >>= λ n. Ok (type.Object n.0, n.1)

abbrev pub uninitialized_type : ℕ → List ℕ → Found VerificationType
uninitialized_type end bytes = u2 end bytes >>= λ n. Ok (type.Uninitialized n.0, n.1)

-- the type of a tag, which stands at this offset; 2 and 3 are float and double
abbrev pub tagged_type : List Const → ℕ → ℕ → ℕ → List ℕ → Found VerificationType
tagged_type pool end at tag bytes =
    if tag == 0 then Ok (type.Top, bytes)
    else if tag == 1 then Ok (type.Integer, bytes)
    else if tag == 2 || tag == 3 then Err (Floating at)
    else if tag == 4 then Ok (type.Long, bytes)
    else if tag == 5 then Ok (type.Null, bytes)
    else if tag == 6 then Ok (type.UninitializedThis, bytes)
    else if tag == 7 then object_type pool end bytes
    else if tag == 8 then uninitialized_type end bytes
    else Err (BadTag at)

unfoldable pub type_at : List Const → ℕ → List ℕ → Found VerificationType
type_at pool end bytes = u1 end bytes >>= λ tag. tagged_type pool end (offset end bytes) tag.0 tag.1

abbrev pub chop : ℕ → Chopped → List ℕ → Found StackMapFrame
chop end count bytes = u2 end bytes >>= λ d. Ok (frame.Chop d.0 count, d.1)

abbrev pub same_extended : ℕ → List ℕ → Found StackMapFrame
same_extended end bytes = u2 end bytes >>= λ d. Ok (frame.SameExtended d.0, d.1)

abbrev pub one_item : List Const → ℕ → ℕ → List ℕ → Found StackMapFrame
one_item pool end delta bytes = type_at pool end bytes >>= λ t. Ok (frame.SameLocals1StackItem delta t.0, t.1)

abbrev pub extended : List Const → ℕ → List ℕ → Found StackMapFrame
extended pool end bytes = u2 end bytes >>= λ d. type_at pool end d.1 >>= λ t. Ok (frame.SameLocals1StackItemExtended d.0 t.0, t.1)

abbrev pub append_one : List Const → ℕ → List ℕ → Found StackMapFrame
append_one pool end bytes = u2 end bytes >>= λ d. type_at pool end d.1 >>= λ a. Ok (frame.Append d.0 (appended.One a.0), a.1)

abbrev pub append_two : List Const → ℕ → List ℕ → Found StackMapFrame
append_two pool end bytes = u2 end bytes >>= λ d. type_at pool end d.1 >>= λ a. type_at pool end a.1 >>= λ b. Ok (frame.Append d.0 (appended.Two a.0 b.0), b.1)

abbrev pub append_three : List Const → ℕ → List ℕ → Found StackMapFrame
append_three pool end bytes =
    u2 end bytes >>= λ d. type_at pool end d.1 >>= λ a. type_at pool end a.1 >>= λ b. type_at pool end b.1 >>= λ c. Ok (frame.Append d.0 (appended.Three a.0 b.0 c.0), c.1)

abbrev pub full : List Const → ℕ → List ℕ → Found StackMapFrame
full pool end bytes =
    u2 end bytes >>= λ d. counted end (type_at pool end) d.1 >>= λ locals. counted end (type_at pool end) locals.1 >>= λ stack. Ok (frame.Full d.0 locals.0 stack.0, stack.1)

-- the frame of a tag, which stands at this offset
abbrev pub tagged_frame : List Const → ℕ → ℕ → ℕ → List ℕ → Found StackMapFrame
tagged_frame pool end at tag bytes =
    if nat_lt tag 64 then Ok (frame.Same tag, bytes)
    else if nat_lt tag 128 then one_item pool end (tag - 64) bytes
    else if nat_lt tag 247 then Err (BadTag at)
    else if tag == 247 then extended pool end bytes
    else if tag == 248 then chop end chopped.Three bytes
    else if tag == 249 then chop end chopped.Two bytes
    else if tag == 250 then chop end chopped.One bytes
    else if tag == 251 then same_extended end bytes
    else if tag == 252 then append_one pool end bytes
    else if tag == 253 then append_two pool end bytes
    else if tag == 254 then append_three pool end bytes
    else full pool end bytes

unfoldable pub frame_at : List Const → ℕ → List ℕ → Found StackMapFrame
frame_at pool end bytes = u1 end bytes >>= λ tag. tagged_frame pool end (offset end bytes) tag.0 tag.1
