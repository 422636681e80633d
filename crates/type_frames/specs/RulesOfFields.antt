-- The rules of the instructions on constants of the pool, fields and objects (JVM specification 4.10.1.9), without what protected
-- members ask.
use Rattle.std.specs.Prelude.{ℕ, Bool, false, not, ◌&&◌, [], ◌∷◌, map, Option, Some, None, bytes_eq, if◌then◌else◌, codes, ◌==◌}
use Rattle.std.specs.List.{list_any}
use Rattle.std.specs.Option.{option_or}
use Rattle.ti_ids.specs.Maybe.{◌>>=◌}
use Rattle.class_tree.specs.declared.pool.Const.{Const}
use Rattle.class_tree.specs.declared.pool.Const.TheVariants as const
use Rattle.class_tree.specs.Tree.{entry_at, class_at}
use Rattle.type_frames.specs.declared.vtype.VType.{VType}
use Rattle.type_frames.specs.declared.vtype.VType.TheVariants as vtype
use Rattle.type_frames.specs.Types.{is_array, field_vtype, is_uninit_this}
use Rattle.type_frames.specs.Assignable.{object_name}
use Rattle.type_frames.specs.States.{State, top_if, taken, put}
use Rattle.type_frames.specs.Environments.{Environment, Reference, field_at, field_type}
use Rattle.type_frames.specs.RulesOfNumbers.{moved}

-- ---- constants

-- what `ldc` and `ldc_w` push
abbrev pub constant_type : Const → Option VType
constant_type (const.Integer n) = Some vtype.Integer
constant_type (const.Text text) = Some (vtype.Object (codes "java/lang/String"))
constant_type (const.Class name) = Some (vtype.Object (codes "java/lang/Class"))
constant_type c = None

abbrev pub constant_rule : Environment → ℕ → State → Option State
constant_rule env index s = entry_at env.pool index >>= constant_type >>= λ t. put env.max_stack t s

-- what `ldc2_w` pushes
abbrev pub long_constant_type : Const → Option VType
long_constant_type (const.Long n) = Some vtype.Long
long_constant_type c = None

abbrev pub long_constant_rule : Environment → ℕ → State → Option State
long_constant_rule env index s = entry_at env.pool index >>= long_constant_type >>= λ t. put env.max_stack t s

-- ---- fields

-- the field that the pool names and its type
abbrev pub typed_field : Environment → ℕ → Option (Reference × VType)
typed_field env index = field_at env.pool index >>= λ f. field_type f.desc >>= λ t. Some (f, field_vtype t)

abbrev pub get_static_rule : Environment → ℕ → State → Option State
get_static_rule env index s = typed_field env index >>= λ f. put env.max_stack f.1 s

abbrev pub put_static_rule : Environment → ℕ → State → Option State
put_static_rule env index s = typed_field env index >>= λ f. taken env.hierarchy f.1 s

abbrev pub get_field_rule : Environment → ℕ → State → Option State
get_field_rule env index s = typed_field env index >>= λ f. moved env (vtype.Object f.0.class ∷ []) (f.1 ∷ []) s

-- An `<init>` may set a field of the current class before it calls another `<init>`.
abbrev pub put_own_field : Environment → Reference → State → Option State
put_own_field env f s = if env.is_init && bytes_eq f.class env.class then (top_if is_uninit_this s >>= λ p. Some p.1) else None

abbrev pub put_field_rule : Environment → ℕ → State → Option State
put_field_rule env index s =
    typed_field env index >>= λ f. taken env.hierarchy f.1 s >>= λ a. option_or (taken env.hierarchy (vtype.Object f.0.class) a) (put_own_field env f.0 a)

-- ---- objects

abbrev pub is_uninit_at : ℕ → VType → Bool
is_uninit_at at (vtype.Uninit from) = from == at
is_uninit_at at t = false

-- what an earlier `new` here made can't be used any more
abbrev pub topped : ℕ → VType → VType
topped at t = if is_uninit_at at t then vtype.Top else t

-- `new`, at an offset, of a class that is no array
abbrev pub new_rule : Environment → ℕ → ℕ → State → Option State
new_rule env at index s = class_at env.pool index >>= λ c.
    if not (is_array c) && not (list_any (is_uninit_at at) s.stack) then put env.max_stack (vtype.Uninit at) (record s { locals = map (topped at) s.locals }) else None

-- `checkcast` and `instanceof`
abbrev pub cast_rule : Environment → ℕ → State → Option State
cast_rule env index s = class_at env.pool index >>= λ c. moved env (vtype.Object object_name ∷ []) (vtype.Object c ∷ []) s

abbrev pub instance_rule : Environment → ℕ → State → Option State
instance_rule env index s = class_at env.pool index >>= λ c. moved env (vtype.Object object_name ∷ []) (vtype.Integer ∷ []) s
