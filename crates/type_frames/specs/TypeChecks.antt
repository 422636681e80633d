-- What the type check of a method and of a class is (JVM specification 4.10.1.1, 4.10.1.5 and 4.10.1.6): a list of type states, one
-- for each instruction, fits. Left out are protected members and what is asked of handlers in an `<init>` besides.
use Rattle.std.specs.Prelude.{◌≡◌, ℕ, zero, suc, ◌+◌, ◌==◌, ◌<◌, ◌≤◌, Bool, true, false, not, ◌&&◌, ◌||◌, ℤ, pos, ◌+ℤ◌, List, [], ◌∷◌, ◌++◌, map, reverse, find, length, nat_le, nat_lt, Option, Some, None, IsTrue, slice_get, unwrap_or, Result, Ok, Err, codes, bytes_eq, if◌then◌else◌, is_none}
use Rattle.std.specs.List.{list_any, list_all}
use Rattle.std.specs.Option.{option_map_or}
use Rattle.ti_ids.specs.Maybe.{◌>>=◌}
use Rattle.jv_names.specs.Names.{Name}
use Rattle.class_code.specs.declared.instr.Instr.{Instr}
use Rattle.class_code.specs.Listing.{jumps}
use Rattle.class_code.specs.CodeReading.{list_of}
use Rattle.class_tree.specs.declared.access.Flag.TheVariants as flags
use Rattle.class_tree.specs.declared.body.Handler.{Handler}
use Rattle.class_tree.specs.declared.body.Code.{Code}
use Rattle.class_tree.specs.declared.members.Member.{Member}
use Rattle.class_tree.specs.Flags.{has_flag}
use Rattle.class_tree.specs.Trees.{Tree}
use Rattle.class_tree.specs.Tree.{text_at, class_at, code_of, frames_of}
use Rattle.type_frames.specs.declared.vtype.VType.{VType}
use Rattle.type_frames.specs.declared.vtype.VType.TheVariants as vtype
use Rattle.type_frames.specs.declared.frame.MapFrame.{MapFrame}
use Rattle.type_frames.specs.Types.{expanded, field_vtype}
use Rattle.type_frames.specs.Hierarchies.{Known, chain, is_final, has_final}
use Rattle.type_frames.specs.Assignable.{object_name, is_assignable, are_assignable, are_words_assignable}
use Rattle.type_frames.specs.States.{State}
use Rattle.type_frames.specs.StackMaps.{Bounds, filled, frames_from}
use Rattle.type_frames.specs.Environments.{Environment, method_type}
use Rattle.type_frames.specs.RulesOfCalls.{is_init_name}
use Rattle.type_frames.specs.Rules.{rule, falls_through}

-- ---- a method with code

-- a method with code as the check sees it: what its rules know, whether it has `this`, the types that its descriptor lists, its
-- locals in words, the states of its stack map, and its handlers
pub record Checked : Type 0 where
  pub env : Environment
  pub this : Option (List VType)
  pub parameters : List VType
  pub max_locals : ℕ
  pub map : Result (List MapFrame) ℕ
  pub handlers : List Handler

abbrev pub name_in : Tree → Member → Name
name_in t m = unwrap_or (text_at t.pool m.name) []

abbrev pub class_name : Tree → Name
class_name t = unwrap_or (class_at t.pool t.this_class) []

abbrev pub is_init : Tree → Member → Bool
is_init t m = is_init_name (name_in t m)

-- the type of `this`: in an `<init>` it isn't initialized, but of `Object`
abbrev pub this_type : Tree → Member → VType
this_type t m = if is_init t m && not (bytes_eq (class_name t) object_name) then vtype.UninitThis else vtype.Object (class_name t)

-- `this`, if the method has it; a static `<init>` has no state to begin with
abbrev pub this_types : Tree → Member → Option (List VType)
this_types t m = if has_flag m.flags.bits flags.Static then (if is_init t m then None else Some []) else Some (this_type t m ∷ [])

abbrev pub parameters_in : Tree → Member → List VType
parameters_in t m = option_map_or (λ d. map field_vtype d.parameters) (text_at t.pool m.desc >>= method_type) []

abbrev pub result_in : Tree → Member → Option VType
result_in t m = text_at t.pool m.desc >>= method_type >>= λ d. d.result >>= λ r. Some (field_vtype r)

abbrev pub instrs_in : Code → List (ℕ × Instr)
instrs_in code = unwrap_or (list_of code.bytes) []

abbrev pub environment : Known → Tree → Member → Code → Environment
environment h t m code = record {
  hierarchy = h;
  pool = t.pool;
  class = class_name t;
  parent = class_at t.pool t.super_class;
  is_init = is_init t m;
  result = result_in t m;
  max_stack = code.max_stack;
  instrs = instrs_in code;
}

abbrev pub bounds : Tree → Code → Bounds
bounds t code = record { pool = t.pool; max_locals = code.max_locals; max_stack = code.max_stack; instrs = instrs_in code }

-- the states of its stack map, if it has one; the locals before the first entry are those of the descriptor
abbrev pub map_in : Tree → Member → Code → Result (List MapFrame) ℕ
map_in t m code = frames_from (bounds t code) 0 None (unwrap_or (this_types t m) [] ++ parameters_in t m) (unwrap_or (frames_of code.attrs) [])

abbrev pub checked : Known → Tree → Member → Code → Checked
checked h t m code = record {
  env = environment h t m code;
  this = this_types t m;
  parameters = parameters_in t m;
  max_locals = code.max_locals;
  map = map_in t m code;
  handlers = code.handlers;
}

-- ---- type states

abbrev pub is_uninit_list : List VType → Bool
is_uninit_list (vtype.UninitThis ∷ []) = true
is_uninit_list ts = false

-- the state that the descriptor gives, where it has room in the locals: section 4.10.1.6
abbrev pub begun : Checked → List VType → Option State
begun m this = let types = this ++ m.parameters in
    if nat_le (length (expanded types)) m.max_locals then Some (record { locals = filled m.max_locals types; stack = []; this_uninit = is_uninit_list this }) else None

abbrev pub initial : Checked → Option State
initial m = m.this >>= begun m

-- the state that the stack map gives at an offset
abbrev pub state_of : MapFrame → State
state_of f = record { locals = f.locals; stack = reverse f.stack; this_uninit = f.this_uninit }

abbrev pub map_frames : Result (List MapFrame) ℕ → List MapFrame
map_frames (Ok frames) = frames
map_frames (Err place) = []

abbrev pub mapped : Checked → ℕ → Option State
mapped m at = find (λ f. f.at == at) (map_frames m.map) >>= λ f. Some (state_of f)

-- A state may be taken for another one: section 4.10.1.4. Locals are listed by words already, the stack by values.
abbrev pub is_state_assignable : Known → State → State → Bool
is_state_assignable h s of = are_assignable h s.locals of.locals && are_words_assignable h s.stack of.stack && (not s.this_uninit || of.this_uninit)

-- the stack map has a state at an offset for which this one may be taken
abbrev pub is_accepted_at : Checked → ℤ → State → Bool
is_accepted_at m (pos at) s = option_map_or (is_state_assignable m.env.hierarchy s) (mapped m at) false
is_accepted_at m target s = false

-- ---- handlers: section 4.10.1.6

abbrev pub covers : ℕ → Handler → Bool
covers at h = nat_le h.start at && nat_lt at h.end

abbrev pub throwable_name : Name
throwable_name = codes "java/lang/Throwable"

-- the class that a handler catches
abbrev pub caught : Checked → Handler → Name
caught m h = unwrap_or (class_at m.env.pool h.catch_type) throwable_name

-- what a handler begins with: the locals before the instruction, and what is thrown
abbrev pub thrown : Name → State → State
thrown class s = record s { stack = vtype.Object class ∷ [] }

abbrev pub is_handled : Checked → State → Handler → Bool
is_handled m s h =
    is_assignable m.env.hierarchy (vtype.Object (caught m h)) (vtype.Object throwable_name)
    && is_accepted_at m (pos h.target) (thrown (caught m h) s)

-- ---- a list of states

-- the first instruction's state: that of the descriptor, or that of the stack map, for which it may be taken
abbrev pub IsFirst : Checked → State → Option State → Type 0
IsFirst m s None = initial m ≡ Some s
IsFirst m s (Some given) = (s ≡ given) × IsTrue (option_map_or (λ i. is_state_assignable m.env.hierarchy i given) (initial m) false)

-- the state that an instruction leaves
abbrev pub left_at : Checked → List State → ℕ → Option State
left_at m states place = slice_get m.env.instrs place >>= λ p. slice_get states place >>= rule m.env p.0 p.1

-- a later instruction's state: that of the stack map, or what the one before leaves
abbrev pub IsLater : Checked → List State → ℕ → State → Option State → Type 0
IsLater m states before s None = left_at m states before ≡ Some s
IsLater m states before s (Some given) = s ≡ given

abbrev pub IsGiven : Checked → List State → ℕ → ℕ → State → Type 0
IsGiven m states zero at s = IsFirst m s (mapped m at)
IsGiven m states (suc before) at s = IsLater m states before s (mapped m at)

-- where it falls through there is a next instruction, and if that has a state of the stack map, what is left may be taken for it;
-- where it doesn't, it is the last one or the next one has a state of the stack map
abbrev pub may_follow : Checked → Bool → State → Option (ℕ × Instr) → Bool
may_follow m true left (Some next) = option_map_or (is_state_assignable m.env.hierarchy left) (mapped m next.0) true
may_follow m true left None = false
may_follow m false left (Some next) = not (is_none (mapped m next.0))
may_follow m false left None = true

-- The instruction at a place fits: it has its state, its rule accepts that, and what it leaves is accepted wherever it leads.
pub record FitsAt (m : Checked) (states : List State) (place : ℕ) : Type 0 where
  pub at : ℕ
  pub instr : Instr
  pub state : State
  pub left : State
  pub is_instr : slice_get m.env.instrs place ≡ Some (at, instr)
  pub is_state : slice_get states place ≡ Some state
  pub given : IsGiven m states place at state
  pub accepted : rule m.env at instr state ≡ Some left
  pub followed : may_follow m (falls_through instr) left (slice_get m.env.instrs (place + 1)) ≡ true
  pub targets : list_all (λ by. is_accepted_at m (pos at +ℤ by) left) (jumps instr) ≡ true
  pub handlers : list_all (λ h. not (covers at h) || is_handled m state h) m.handlers ≡ true

-- Up to a place each instruction fits.
abbrev pub FitsUpTo : Checked → List State → ℕ → Type 0
FitsUpTo m states place = (k : ℕ) → k ≤ place → FitsAt m states k

-- some list does
abbrev pub CanFit : Checked → ℕ → Type 0
CanFit m place = (states : List State) × FitsUpTo m states place

-- The type states of a method with code: one for each instruction, and they fit to the last.
pub record AreStates (m : Checked) (states : List State) : Type 0 where
  pub count : length states ≡ length m.env.instrs
  pub fit : (place : ℕ) → place < length states → FitsAt m states place

-- ---- methods and classes

-- a method is neither private nor static, and a superclass has a final one of its name and descriptor: section 4.10.1.5
abbrev pub overrides_final : Known → Tree → Member → Bool
overrides_final h t m =
    not (has_flag m.flags.bits flags.Private) && not (has_flag m.flags.bits flags.Static)
    && option_map_or (λ parent. list_any (has_final h (name_in t m) (unwrap_or (text_at t.pool m.desc) [])) (chain h parent)) (class_at t.pool t.super_class) false

-- the superclass is final, which is laid to the first method
abbrev pub extends_final : Known → Tree → ℕ → Bool
extends_final h t zero = option_map_or (is_final h) (class_at t.pool t.super_class) false
extends_final h t (suc place) = false

abbrev pub is_bad_map : Result (List MapFrame) ℕ → Bool
is_bad_map (Ok frames) = false
is_bad_map (Err place) = true

-- nothing of the method's instructions is looked at before these
abbrev pub offends_at_once : Known → Tree → ℕ → Member → Bool
offends_at_once h t place m = overrides_final h t m || extends_final h t place

-- the least offset up to which no list fits, of a method with code
pub record IsOffending (m : Checked) (offset : ℕ) : Type 0 where
  pub place : ℕ
  pub instr : Instr
  pub is_instr : slice_get m.env.instrs place ≡ Some (offset, instr)
  pub none : CanFit m place → ⊥
  pub least : (k : ℕ) → k < place → CanFit m k

-- what offends at once offends at 0
abbrev pub IsOffendingIn : Bool → Checked → ℕ → Type 0
IsOffendingIn true m offset = offset ≡ 0
IsOffendingIn false m offset = IsOffending m offset

abbrev pub FailsIn : Known → Tree → ℕ → Member → Option Code → ℕ → Type 0
FailsIn h t place m None offset = (offset ≡ 0) × IsTrue (offends_at_once h t place m)
FailsIn h t place m (Some code) offset = IsOffendingIn (offends_at_once h t place m || is_bad_map (map_in t m code)) (checked h t m code) offset

-- The method at a place fails its type check, first at this offset.
abbrev pub Fails : Known → Tree → ℕ → ℕ → Type 0
Fails h t place offset = (m : Member) × (slice_get t.methods place ≡ Some m) × FailsIn h t place m (code_of m.attrs) offset

abbrev pub ChecksIn : Known → Tree → ℕ → Member → Option Code → List State → Type 0
ChecksIn h t place m None states = (states ≡ []) × IsTrue (not (offends_at_once h t place m))
ChecksIn h t place m (Some code) states = IsTrue (not (offends_at_once h t place m || is_bad_map (map_in t m code))) × AreStates (checked h t m code) states

-- The method at a place passes its type check, with these type states.
abbrev pub TypeChecks : Known → Tree → ℕ → List State → Type 0
TypeChecks h t place states = (m : Member) × (slice_get t.methods place ≡ Some m) × ChecksIn h t place m (code_of m.attrs) states

-- some states are those of the method at a place
abbrev pub Passes : Known → Tree → ℕ → Type 0
Passes h t place = (states : List State) × TypeChecks h t place states

-- The class passes its type check: each of its methods does.
abbrev pub ClassPasses : Known → Tree → Type 0
ClassPasses h t = (place : ℕ) → place < length t.methods → Passes h t place

-- The class fails its type check, first in the method at this place, in the order of the file, and there at this offset.
pub record ClassFails (h : Known) (t : Tree) (place offset : ℕ) : Type 0 where
  pub fails : Fails h t place offset
  pub earlier : (k : ℕ) → k < place → Passes h t k
