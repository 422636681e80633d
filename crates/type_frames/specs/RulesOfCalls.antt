-- The rules of calls and returns (JVM specification 4.10.1.9), without what protected members ask.
use Rattle.std.specs.Prelude.{ℕ, ◌+◌, ◌==◌, Bool, true, false, not, ◌&&◌, ◌||◌, List, [], ◌∷◌, ◌++◌, map, reverse, length, Option, Some, None, bytes_eq, codes, if◌then◌else◌}
use Rattle.std.specs.Option.{option_map_or}
use Rattle.ti_ids.specs.Maybe.{◌>>=◌}
use Rattle.jv_names.specs.Names.{Name}
use Rattle.class_code.specs.declared.instr.Kind.{Kind}
use Rattle.type_frames.specs.declared.vtype.VType.{VType}
use Rattle.type_frames.specs.declared.vtype.VType.TheVariants as vtype
use Rattle.type_frames.specs.Types.{expanded, is_uninit_this}
use Rattle.type_frames.specs.Assignable.{is_assignable}
use Rattle.type_frames.specs.States.{State, top_if, taken, all_taken}
use Rattle.type_frames.specs.Environments.{Environment, Reference, MethodVType, method_at, method_vtype, made_at}
use Rattle.type_frames.specs.RulesOfNumbers.{moved}
use Rattle.type_frames.specs.RulesOfLocals.{is_of_kind}

abbrev pub is_init_name : Name → Bool
is_init_name name = bytes_eq name (codes "<init>")

-- `<init>` and `<clinit>`
abbrev pub is_special : Name → Bool
is_special name = is_init_name name || bytes_eq name (codes "<clinit>")

-- ---- arguments and results

-- the types of arguments as they lie on the stack, the last one on top
abbrev pub arguments : MethodVType → List VType
arguments m = reverse m.parameters

-- what a call pushes, which is nothing for void
abbrev pub results : Option VType → List VType
results None = []
results (Some t) = t ∷ []

-- ---- calls of methods that are neither `<init>` nor `<clinit>`

abbrev pub named_method : Environment → ℕ → Option (Reference × MethodVType)
named_method env index = method_at env.pool index >>= λ r. method_vtype r.desc >>= λ m. Some (r, m)

abbrev pub plain_method : Environment → ℕ → Option (Reference × MethodVType)
plain_method env index = named_method env index >>= λ x. if is_special x.0.name then None else Some x

abbrev pub invoke_static_rule : Environment → ℕ → State → Option State
invoke_static_rule env index s = plain_method env index >>= λ x. moved env (arguments x.1) (results x.1.result) s

-- the arguments, and below them an object of this class, are taken
abbrev pub called : Environment → Name → MethodVType → State → Option State
called env class m s = moved env (arguments m ++ vtype.Object class ∷ []) (results m.result) s

abbrev pub invoke_virtual_rule : Environment → ℕ → State → Option State
invoke_virtual_rule env index s = plain_method env index >>= λ x. called env x.0.class x.1 s

-- the words of arguments and of the object, which `invokeinterface` counts
abbrev pub argument_words : MethodVType → ℕ
argument_words m = length (expanded (arguments m)) + 1

abbrev pub invoke_interface_rule : Environment → ℕ → ℕ → State → Option State
invoke_interface_rule env index count s =
    plain_method env index >>= λ x. if count == argument_words x.1 then called env x.0.class x.1 s else None

-- `invokespecial` of another method than an `<init>`: of the current class or one that it may stand for; the object is of
-- the current class, and so of the other
abbrev pub invoke_super_rule : Environment → Reference × MethodVType → State → Option State
invoke_super_rule env x s =
    if is_assignable env.hierarchy (vtype.Object env.class) (vtype.Object x.0.class)
    then (called env env.class x.1 s >>= λ left. called env x.0.class x.1 s >>= λ other. Some left) else None

-- ---- `invokespecial` of an `<init>`

-- the type that an object gets: that of `this`, by an `<init>` of the current class or of its superclass, and that of a new object,
-- by an `<init>` of the very class that its `new` names
abbrev pub is_parent : Environment → Name → Bool
is_parent env class = option_map_or (bytes_eq class) env.parent false

abbrev pub initialized : Environment → Name → VType → Option VType
initialized env class vtype.UninitThis = if bytes_eq class env.class || is_parent env class then Some (vtype.Object env.class) else None
initialized env class (vtype.Uninit at) = made_at env at >>= λ made. if bytes_eq class made then Some (vtype.Object made) else None
initialized env class t = None

-- both are one object that is not initialized
abbrev pub is_same_uninit : VType → VType → Bool
is_same_uninit vtype.UninitThis vtype.UninitThis = true
is_same_uninit (vtype.Uninit a) (vtype.Uninit b) = a == b
is_same_uninit t of = false

abbrev pub replaced : VType → VType → VType → VType
replaced uninit made t = if is_same_uninit uninit t then made else t

-- wherever the object is, it has its type now
abbrev pub with_initialized : VType → VType → State → State
with_initialized uninit made s = record {
  locals = map (replaced uninit made) s.locals;
  stack = map (replaced uninit made) s.stack;
  this_uninit = s.this_uninit && not (is_uninit_this uninit);
}

abbrev pub is_any : VType → Bool
is_any t = true

abbrev pub without_result : Option VType → State → Option State
without_result None s = Some s
without_result (Some t) s = None

abbrev pub invoke_init_rule : Environment → Reference × MethodVType → State → Option State
invoke_init_rule env x s = without_result x.1.result s >>= λ u. all_taken env.hierarchy (arguments x.1) u >>= λ a. top_if is_any a >>= λ p.
    initialized env x.0.class p.0 >>= λ made. Some (with_initialized p.0 made p.1)

abbrev pub invoke_special_rule : Environment → ℕ → State → Option State
invoke_special_rule env index s = named_method env index >>= λ x.
    if is_init_name x.0.name then invoke_init_rule env x s else (if is_special x.0.name then None else invoke_super_rule env x s)

-- ---- returns

-- `ireturn`, `lreturn`, `areturn`: the method's result is of this kind
abbrev pub return_rule : Environment → Kind → State → Option State
return_rule env k s = env.result >>= λ t. if is_of_kind k t then taken env.hierarchy t s else None

abbrev pub is_void : Option VType → Bool
is_void None = true
is_void (Some t) = false

-- `return`: of a method without a result; an `<init>` has called another one
abbrev pub return_void_rule : Environment → State → Option State
return_void_rule env s = if is_void env.result && not s.this_uninit then Some s else None
