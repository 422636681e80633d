-- How the code of a method is edited (JVM specification 4.7.3 and 4.7.4). Of its attributes an edited code keeps the stack map alone.
use Rattle.std.specs.Prelude.{ℕ, ◌+◌, Bool, true, false, nat_lt, if◌then◌else◌, List, [], ◌∷◌, ◌++◌, map, filter, Some, None, codes}
use Rattle.std.specs.List.{list_any, flat_map}
use Rattle.jv_names.specs.Names.{Name}
use Rattle.class_code.specs.declared.instr.Instr.{Instr}
use Rattle.class_code.specs.declared.instr.Instr.TheVariants as instr
use Rattle.class_code.specs.declared.instr.Simple.TheVariants as simple
use Rattle.class_code.specs.declared.instr.PoolOp.TheVariants as pool_op
use Rattle.class_code.specs.Spelling.{spelling}
use Rattle.class_tree.specs.declared.pool.Const.{Const}
use Rattle.class_tree.specs.declared.frames.VerificationType.{VerificationType}
use Rattle.class_tree.specs.declared.frames.VerificationType.TheVariants as type
use Rattle.class_tree.specs.declared.frames.Appended.{Appended}
use Rattle.class_tree.specs.declared.frames.Appended.TheVariants as appended
use Rattle.class_tree.specs.declared.frames.StackMapFrame.{StackMapFrame}
use Rattle.class_tree.specs.declared.frames.StackMapFrame.TheVariants as frame
use Rattle.class_tree.specs.declared.body.Handler.{Handler}
use Rattle.class_tree.specs.declared.body.Code.{Code}
use Rattle.class_tree.specs.declared.body.CodeAttr.{CodeAttr}
use Rattle.class_tree.specs.declared.body.CodeAttr.TheVariants as code_attr
use Rattle.class_tree.specs.Tree.{frames_of}
use Rattle.redefine_check.specs.Equivalence.{instructions}
use Rattle.rule_edit.specs.Constants.{Makes, plain, given, each, Method, index_of, text_index, imported}

-- ---- parts of a code

abbrev pub is_stack_map : CodeAttr → Bool
is_stack_map (code_attr.Frames name entries) = true
is_stack_map (code_attr.Raw name bytes) = false

-- the code with these bytes, and of its attributes the stack map alone
abbrev pub with_bytes : Code → List ℕ → Code
with_bytes code bytes = record code { bytes = bytes; attrs = filter is_stack_map code.attrs }

-- the bytes of instructions, one after the other
abbrev pub spelled_all : List Instr → List ℕ
spelled_all is = flat_map spelling is

-- the instructions of a code
abbrev pub instrs_of : Code → List Instr
instrs_of code = map (λ p. p.1) (instructions code)

-- ---- instructions in the place of others

-- Each instruction that passes the test is replaced by what is made of it, which is as long. A code of which none does is not edited.
abbrev pub replaced_in : (Instr → Bool) → (Instr → Makes Instr) → Code → Makes Code
replaced_in is makes code =
    if list_any is (instrs_of code)
    then given (each (λ i. if is i then makes i else plain i) (instrs_of code)) (λ is. plain (with_bytes code (spelled_all is)))
    else plain code

-- ---- a call in front

-- a stack map entry whose offset, in one of the two short forms, has become so great; past 63 it takes the long form
abbrev pub same_frame : ℕ → StackMapFrame
same_frame delta = if nat_lt delta 64 then frame.Same delta else frame.SameExtended delta

abbrev pub same_locals_frame : ℕ → VerificationType → StackMapFrame
same_locals_frame delta stack = if nat_lt delta 64 then frame.SameLocals1StackItem delta stack else frame.SameLocals1StackItemExtended delta stack

module _ (by : ℕ) where
  -- the entry with another offset from the one before
  abbrev pub moved_frame : StackMapFrame → StackMapFrame
  moved_frame (frame.Same delta) = same_frame (delta + by)
  moved_frame (frame.SameLocals1StackItem delta stack) = same_locals_frame (delta + by) stack
  moved_frame (frame.SameLocals1StackItemExtended delta stack) = frame.SameLocals1StackItemExtended (delta + by) stack
  moved_frame (frame.Chop delta count) = frame.Chop (delta + by) count
  moved_frame (frame.SameExtended delta) = frame.SameExtended (delta + by)
  moved_frame (frame.Append delta locals) = frame.Append (delta + by) locals
  moved_frame (frame.Full delta locals stack) = frame.Full (delta + by) locals stack

  -- only the first entry's offset is one from the code's beginning
  abbrev pub moved_first : List StackMapFrame → List StackMapFrame
  moved_first [] = []
  moved_first (f ∷ fs) = moved_frame f ∷ fs

  -- the type of an object that isn't initialized names the place of its `new`
  abbrev pub moved_type : VerificationType → VerificationType
  moved_type (type.Uninitialized at) = type.Uninitialized (at + by)
  moved_type t = t

  abbrev pub moved_handler : Handler → Handler
  moved_handler h = record { start = h.start + by; end = h.end + by; target = h.target + by; catch_type = h.catch_type }

-- the types of an entry, each made anew, those of the local variables first
abbrev pub appended_by : (VerificationType → Makes VerificationType) → Appended → Makes Appended
appended_by makes (appended.One a) = given (makes a) (λ x. plain (appended.One x))
appended_by makes (appended.Two a b) = given (makes a) (λ x. given (makes b) (λ y. plain (appended.Two x y)))
appended_by makes (appended.Three a b c) = given (makes a) (λ x. given (makes b) (λ y. given (makes c) (λ z. plain (appended.Three x y z))))

abbrev pub frame_by : (VerificationType → Makes VerificationType) → StackMapFrame → Makes StackMapFrame
frame_by makes (frame.SameLocals1StackItem delta stack) = given (makes stack) (λ s. plain (frame.SameLocals1StackItem delta s))
frame_by makes (frame.SameLocals1StackItemExtended delta stack) = given (makes stack) (λ s. plain (frame.SameLocals1StackItemExtended delta s))
frame_by makes (frame.Append delta locals) = given (appended_by makes locals) (λ l. plain (frame.Append delta l))
frame_by makes (frame.Full delta locals stack) = given (each makes locals) (λ l. given (each makes stack) (λ s. plain (frame.Full delta l s)))
frame_by makes f = plain f

-- a stack map is made anew, entry by entry; what is no stack map stays
abbrev pub attr_by : (List StackMapFrame → Makes (List StackMapFrame)) → CodeAttr → Makes CodeAttr
attr_by makes (code_attr.Frames name entries) = given (makes entries) (λ es. plain (code_attr.Frames name es))
attr_by makes (code_attr.Raw name bytes) = plain (code_attr.Raw name bytes)

-- how many bytes the call and the `nop` behind it have, so that the padding of switches stays
abbrev pub call_length : ℕ
call_length = 4

abbrev pub moved_entries : List StackMapFrame → Makes (List StackMapFrame)
moved_entries entries = each (frame_by (λ t. plain (moved_type call_length t))) (moved_first call_length entries)

-- the code with a call of the method at this index in front
abbrev pub called_first : ℕ → Code → Makes Code
called_first index code =
    let bytes = spelled_all (instr.Pool pool_op.InvokeStatic index ∷ instr.Simple simple.Nop ∷ []) ++ code.bytes in
    let longer = with_bytes code bytes in
    given (each (attr_by moved_entries) longer.attrs) (λ attrs.
    plain (record longer { handlers = map (moved_handler call_length) code.handlers; attrs = attrs }))

abbrev pub entered : Name → Name → Code → Makes Code
entered class method code = given (index_of (Method class method (codes "()V"))) (λ index. called_first index code)

-- ---- the code of another class

module _ (donor : List Const) where
  abbrev pub imported_instr : Instr → Makes Instr
  imported_instr (instr.LoadConst index) = given (imported donor index) (λ n. plain (instr.LoadConst n))
  imported_instr (instr.Pool op index) = given (imported donor index) (λ n. plain (instr.Pool op n))
  imported_instr (instr.InvokeInterface index count) = given (imported donor index) (λ n. plain (instr.InvokeInterface n count))
  imported_instr (instr.MultiNewArray index dimensions) = given (imported donor index) (λ n. plain (instr.MultiNewArray n dimensions))
  imported_instr i = plain i

  abbrev pub imported_handler : Handler → Makes Handler
  imported_handler h = given (imported donor h.catch_type) (λ n. plain (record h { catch_type = n }))

  abbrev pub imported_type : VerificationType → Makes VerificationType
  imported_type (type.Object class) = given (imported donor class) (λ n. plain (type.Object n))
  imported_type t = plain t

  -- the text of its name, and then what its entries name
  abbrev pub imported_map : List StackMapFrame → Makes CodeAttr
  imported_map entries =
      given (text_index (codes "StackMapTable")) (λ name. given (each (frame_by imported_type) entries) (λ es. plain (code_attr.Frames name es)))

  -- the stack map, where the code has one
  abbrev pub imported_attrs : List CodeAttr → Makes (List CodeAttr)
  imported_attrs attrs = elim (frames_of attrs) [ None ↦ plain [] | Some entries ↦ given (imported_map entries) (λ a. plain (a ∷ [])) ]

  -- what its instructions name comes first, then its catch types, then its stack map
  abbrev pub imported_code : Code → Makes Code
  imported_code code =
      given (each imported_instr (instrs_of code)) (λ is. given (each imported_handler code.handlers) (λ handlers.
      given (imported_attrs code.attrs) (λ attrs. plain (record code { bytes = spelled_all is; handlers = handlers; attrs = attrs }))))
