-- Rules and relations at worked examples of the standard.
use Rattle.std.proofs.Common.{◌≡◌, ℕ, Bool, true, false, List, [], ◌∷◌, map, Some, None, Result, Ok, Err, refl}
use Rattle.std.specs.Prelude.{codes}
use Rattle.jv_names.specs.Names.{Name}
use Rattle.class_code.specs.declared.instr.Element.TheVariants as element
use Rattle.class_code.specs.declared.instr.StackOp.TheVariants as stack_op
use Rattle.class_tree.specs.declared.frames.StackMapFrame.TheVariants as entry
use Rattle.class_code.specs.declared.instr.Instr.{Instr}
use Rattle.class_code.specs.declared.instr.Instr.TheVariants as instr
use Rattle.class_code.specs.declared.instr.Simple.TheVariants as simple
use Rattle.class_tree.specs.declared.frames.Appended.TheVariants as appended
use Rattle.class_tree.specs.declared.frames.Chopped.TheVariants as chopped
use Rattle.class_tree.specs.declared.frames.VerificationType.TheVariants as listed
use Rattle.type_frames.specs.declared.frame.MapFrame.{MapFrame}
use Rattle.type_frames.specs.declared.hierarchy.HierarchyClass.{HierarchyClass}
use Rattle.type_frames.specs.declared.vtype.VType.{VType}
use Rattle.type_frames.specs.declared.vtype.VType.TheVariants as vtype
use Rattle.type_frames.specs.Hierarchies.{Known}
use Rattle.type_frames.specs.Assignable.{is_assignable}
use Rattle.type_frames.specs.States.{State}
use Rattle.type_frames.specs.StackMaps.{Bounds, locals_after, frames_from}
use Rattle.type_frames.specs.Environments.{Environment}
use Rattle.type_frames.specs.RulesOfLocals.{stored}
use Rattle.type_frames.specs.RulesOfStack.{stack_rule}
use Rattle.type_frames.specs.RulesOfArrays.{array_load_rule}

abbrev with_stack : List VType → State
with_stack stack = record { locals = []; stack = stack; this_uninit = false }

abbrev a_string : VType
a_string = vtype.Object (codes "java/lang/String")

-- section 6.5, dup2_x2: each of its four forms
longs : stack_rule 6 stack_op.Dup2X2 (with_stack (vtype.Long ∷ vtype.Long ∷ [])) ≡ Some (with_stack (vtype.Long ∷ vtype.Long ∷ vtype.Long ∷ []))
unfolding stack_rule
longs = refl

long_over_words : stack_rule 6 stack_op.Dup2X2 (with_stack (vtype.Long ∷ vtype.Integer ∷ vtype.Null ∷ [])) ≡ Some (with_stack (vtype.Long ∷ vtype.Integer ∷ vtype.Null ∷ vtype.Long ∷ []))
unfolding stack_rule
long_over_words = refl

words_over_long : stack_rule 6 stack_op.Dup2X2 (with_stack (vtype.Integer ∷ vtype.Null ∷ vtype.Long ∷ [])) ≡ Some (with_stack (vtype.Integer ∷ vtype.Null ∷ vtype.Long ∷ vtype.Integer ∷ vtype.Null ∷ []))
unfolding stack_rule
words_over_long = refl

words_over_words : stack_rule 6 stack_op.Dup2X2 (with_stack (vtype.Integer ∷ vtype.Null ∷ a_string ∷ vtype.UninitThis ∷ []))
    ≡ Some (with_stack (vtype.Integer ∷ vtype.Null ∷ a_string ∷ vtype.UninitThis ∷ vtype.Integer ∷ vtype.Null ∷ []))
unfolding stack_rule
words_over_words = refl

-- there is no room for a word more
no_room : stack_rule 5 stack_op.Dup2X2 (with_stack (vtype.Long ∷ vtype.Long ∷ [])) ≡ None
unfolding stack_rule
no_room = refl

-- a word cannot be taken from a long
half_a_long : stack_rule 6 stack_op.Pop (with_stack (vtype.Long ∷ [])) ≡ None
unfolding stack_rule
half_a_long = refl

-- a store into the second place of a long leaves no long
over_second : stored 1 vtype.Integer (vtype.Long ∷ vtype.Top ∷ vtype.Null ∷ []) ≡ Some (vtype.Top ∷ vtype.Integer ∷ vtype.Null ∷ [])
over_second = refl

-- a long has no room in the last place
at_the_end : stored 2 vtype.Long (vtype.Null ∷ vtype.Null ∷ vtype.Null ∷ []) ≡ None
at_the_end = refl

abbrev an_interface : HierarchyClass
an_interface = record { name = codes "Shape"; superclass = Some (codes "java/lang/Object"); interfaces = []; is_interface = true; is_final = false; final_methods = [] }

abbrev a_class : Name → Name → HierarchyClass
a_class name parent = record { name = name; superclass = Some parent; interfaces = []; is_interface = false; is_final = false; final_methods = [] }

abbrev known : Known
known = an_interface ∷ a_class (codes "Circle") (codes "Round") ∷ a_class (codes "Round") (codes "java/lang/Object") ∷ a_class (codes "Loop") (codes "Loop") ∷ []

abbrev env : Environment
env = record { hierarchy = known; pool = []; class = codes "Circle"; parent = Some (codes "Round"); is_init = false; result = None; max_stack = 2; instrs = [] }

-- `aaload` of an array of arrays of ints leaves an array of ints, and of null it leaves null
of_arrays : array_load_rule env element.Reference (with_stack (vtype.Integer ∷ vtype.Object (codes "[[I") ∷ [])) ≡ Some (with_stack (vtype.Object (codes "[I") ∷ []))
unfolding is_assignable
of_arrays = refl

of_null : array_load_rule env element.Reference (with_stack (vtype.Integer ∷ vtype.Null ∷ [])) ≡ Some (with_stack (vtype.Null ∷ []))
unfolding is_assignable
of_null = refl

of_ints : array_load_rule env element.Reference (with_stack (vtype.Integer ∷ vtype.Object (codes "[I") ∷ [])) ≡ None
unfolding is_assignable
of_ints = refl

abbrev may : Name → Name → Bool
may a b = is_assignable known (vtype.Object a) (vtype.Object b)

above : may (codes "Circle") (codes "Round") ≡ true
unfolding is_assignable
above = refl

below : may (codes "Round") (codes "Circle") ≡ false
unfolding is_assignable
below = refl

-- an interface is taken for `Object`, but not by arrays
to_interface : may (codes "Unknown") (codes "Shape") ≡ true
unfolding is_assignable
to_interface = refl

array_to_interface : may (codes "[I") (codes "Shape") ≡ false
unfolding is_assignable
array_to_interface = refl

arrays : may (codes "[LCircle;") (codes "[LRound;") ≡ true
unfolding is_assignable
arrays = refl

arrays_back : may (codes "[LRound;") (codes "[LCircle;") ≡ false
unfolding is_assignable
arrays_back = refl

to_objects : may (codes "[[I") (codes "[Ljava/lang/Object;") ≡ true
unfolding is_assignable
to_objects = refl

ints_to_objects : may (codes "[I") (codes "[Ljava/lang/Object;") ≡ false
unfolding is_assignable
ints_to_objects = refl

to_cloneable : may (codes "[I") (codes "java/lang/Cloneable") ≡ true
unfolding is_assignable
to_cloneable = refl

-- superclasses that lead round in a circle
round : may (codes "Loop") (codes "Round") ≡ false
unfolding is_assignable
round = refl

-- a chop drops a long whole
chopped_long : locals_after [] (entry.Chop 0 chopped.One) (vtype.Integer ∷ vtype.Long ∷ []) ≡ Some (vtype.Integer ∷ [])
chopped_long = refl

chopped_too_far : locals_after [] (entry.Chop 0 chopped.Three) (vtype.Integer ∷ vtype.Long ∷ []) ≡ None
chopped_too_far = refl

-- ---- a stack map, as `javap` prints it: of a method `run` of two words of locals, with an int from offset 2 to 18

abbrev begun_at : ℕ → ℕ × Instr
begun_at at = (at, instr.Simple simple.Nop)

abbrev run : Bounds
run = record { pool = []; max_locals = 2; max_stack = 2; instrs = map begun_at (0 ∷ 1 ∷ 2 ∷ 3 ∷ 6 ∷ 9 ∷ 12 ∷ 15 ∷ 18 ∷ []) }

abbrev this : VType
this = vtype.Object (codes "Count")

abbrev frame : ℕ → List VType → MapFrame
frame at locals = record { at = at; locals = locals; stack = []; this_uninit = false }

run_map : frames_from run 0 None (this ∷ []) (entry.Append 2 (appended.One listed.Integer) ∷ entry.Chop 15 chopped.One ∷ [])
    ≡ Ok (frame 2 (this ∷ vtype.Integer ∷ []) ∷ frame 18 (this ∷ vtype.Top ∷ []) ∷ [])
run_map = refl

-- at 17 no instruction begins
run_between : frames_from run 0 None (this ∷ []) (entry.Append 2 (appended.One listed.Integer) ∷ entry.Chop 14 chopped.One ∷ []) ≡ Err 1
run_between = refl

-- a long has no room beside `this`
run_too_large : frames_from run 0 None (this ∷ []) (entry.Append 2 (appended.One listed.Long) ∷ []) ≡ Err 0
run_too_large = refl

-- another one, whose only entry lists all local variables anew: an int in the place of the argument
spin : Bounds → Result (List MapFrame) ℕ
spin b = frames_from b 0 None (vtype.Object (codes "[Ljava/lang/String;") ∷ []) (entry.Full 2 (listed.Integer ∷ []) [] ∷ [])

spin_map : spin (record { pool = []; max_locals = 1; max_stack = 1; instrs = map begun_at (0 ∷ 1 ∷ 2 ∷ 5 ∷ []) }) ≡ Ok (frame 2 (vtype.Integer ∷ []) ∷ [])
unfolding spin
spin_map = refl
