-- What the entries of a stack map stand for (JVM specification 4.7.4 and 4.10.1.4).
use Rattle.std.specs.Prelude.{ℕ, ◌+◌, ◌-◌, Bool, ◌&&◌, List, [], ◌∷◌, ◌++◌, map, take, length, replicate, nat_le, Option, Some, None, pos, unwrap_or, Result, Ok, Err, if◌then◌else◌}
use Rattle.std.specs.List.{list_any}
use Rattle.ti_ids.specs.Maybe.{◌>>=◌}
use Rattle.class_code.specs.declared.instr.Instr.{Instr}
use Rattle.class_code.specs.Listing.{begins}
use Rattle.class_tree.specs.declared.pool.Const.{Const}
use Rattle.class_tree.specs.declared.frames.VerificationType.{VerificationType}
use Rattle.class_tree.specs.declared.frames.VerificationType.TheVariants as listed
use Rattle.class_tree.specs.declared.frames.Chopped.{Chopped}
use Rattle.class_tree.specs.declared.frames.Chopped.TheVariants as chopped
use Rattle.class_tree.specs.declared.frames.Appended.{Appended}
use Rattle.class_tree.specs.declared.frames.Appended.TheVariants as appended
use Rattle.class_tree.specs.declared.frames.StackMapFrame.{StackMapFrame}
use Rattle.class_tree.specs.declared.frames.StackMapFrame.TheVariants as entry
use Rattle.class_tree.specs.Tree.{class_at}
use Rattle.type_frames.specs.declared.vtype.VType.{VType}
use Rattle.type_frames.specs.declared.vtype.VType.TheVariants as vtype
use Rattle.type_frames.specs.declared.frame.MapFrame.{MapFrame}
use Rattle.type_frames.specs.Types.{expanded, is_uninit_this}

-- ---- types

abbrev pub type_listed : List Const → VerificationType → VType
type_listed pool listed.Top = vtype.Top
type_listed pool listed.Integer = vtype.Integer
type_listed pool listed.Long = vtype.Long
type_listed pool listed.Null = vtype.Null
type_listed pool listed.UninitializedThis = vtype.UninitThis
type_listed pool (listed.Object class) = vtype.Object (unwrap_or (class_at pool class) [])
type_listed pool (listed.Uninitialized at) = vtype.Uninit at

abbrev pub types_listed : List Const → List VerificationType → List VType
types_listed pool types = map (type_listed pool) types

-- ---- entries

abbrev pub delta : StackMapFrame → ℕ
delta (entry.Same d) = d
delta (entry.SameLocals1StackItem d stack) = d
delta (entry.SameLocals1StackItemExtended d stack) = d
delta (entry.Chop d count) = d
delta (entry.SameExtended d) = d
delta (entry.Append d locals) = d
delta (entry.Full d locals stack) = d

-- the first entry's offset is its delta, each later one's is the one before, its delta and one
abbrev pub offset_after : Option ℕ → StackMapFrame → ℕ
offset_after None e = delta e
offset_after (Some before) e = before + delta e + 1

abbrev pub chop_count : Chopped → ℕ
chop_count chopped.One = 1
chop_count chopped.Two = 2
chop_count chopped.Three = 3

abbrev pub added : Appended → List VerificationType
added (appended.One a) = a ∷ []
added (appended.Two a b) = a ∷ b ∷ []
added (appended.Three a b c) = a ∷ b ∷ c ∷ []

-- The local variables that an entry lists, from those listed before; a long is listed once. No more can be chopped than there
-- are.
abbrev pub locals_after : List Const → StackMapFrame → List VType → Option (List VType)
locals_after pool (entry.Chop d count) before = if nat_le (chop_count count) (length before) then Some (take (length before - chop_count count) before) else None
locals_after pool (entry.Append d locals) before = Some (before ++ types_listed pool (added locals))
locals_after pool (entry.Full d locals stack) before = Some (types_listed pool locals)
locals_after pool e before = Some before

-- the operand stack that it lists, from the bottom up
abbrev pub stack_after : List Const → StackMapFrame → List VType
stack_after pool (entry.SameLocals1StackItem d stack) = type_listed pool stack ∷ []
stack_after pool (entry.SameLocals1StackItemExtended d stack) = type_listed pool stack ∷ []
stack_after pool (entry.Full d locals stack) = types_listed pool stack
stack_after pool e = []

-- ---- type states

-- each local variable has a type; one that isn't listed has `Top`
abbrev pub filled : ℕ → List VType → List VType
filled max_locals types = expanded types ++ replicate (max_locals - length (expanded types)) vtype.Top

-- what the map of a method is read against: the constant pool, the words of its locals and of its stack, and its instructions
pub record Bounds : Type 0 where
  pub pool : List Const
  pub max_locals : ℕ
  pub max_stack : ℕ
  pub instrs : List (ℕ × Instr)

-- what is listed is no more than there is room for, and an instruction begins there
abbrev pub is_within : Bounds → ℕ → List VType → List VType → Bool
is_within b at locals stack = nat_le (length (expanded locals)) b.max_locals && nat_le (length (expanded stack)) b.max_stack && begins b.instrs (pos at)

abbrev pub state_listed : Bounds → ℕ → List VType → List VType → MapFrame
state_listed b at locals stack = record { at = at; locals = filled b.max_locals locals; stack = stack; this_uninit = list_any is_uninit_this locals }

-- the state that an entry stands for, and the locals that it lists
abbrev pub frame_after : Bounds → Option ℕ → List VType → StackMapFrame → Option (MapFrame × List VType)
frame_after b last before e = locals_after b.pool e before >>= λ locals.
    if is_within b (offset_after last e) locals (stack_after b.pool e) then Some (state_listed b (offset_after last e) locals (stack_after b.pool e), locals) else None

abbrev pub with_first : {A B : Type 0} → A → Result (List A) B → Result (List A) B
with_first x (Ok xs) = Ok (x ∷ xs)
with_first x (Err e) = Err e

-- The states that entries stand for; or the place of the first entry that is bad, where the first one's is given.
abbrev pub frames_from : Bounds → ℕ → Option ℕ → List VType → List StackMapFrame → Result (List MapFrame) ℕ
frames_from b place last before [] = Ok []
frames_from b place last before (e ∷ entries) = elim (frame_after b last before e) [
  | None ↦ Err place
  | Some f ↦ with_first f.0 (frames_from b (place + 1) (Some f.0.at) f.1 entries)
]
