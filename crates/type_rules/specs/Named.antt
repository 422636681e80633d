-- How the code holds the fields and methods that the constant pool names (JVM specification 4.4.2).
use Rattle.std.specs.Prelude.{Bool, ◌&&◌, bytes_eq, Option, Some}
use Rattle.ti_ids.specs.Maybe.{◌>>=◌}
use Rattle.jv_names.specs.Names.{Name}
use Rattle.type_descriptors.specs.declared.method.MethodRefs.{MethodRefs}
use Rattle.type_descriptors.specs.Methods.{method_seen as vtypes_seen}
use Rattle.type_frames.specs.declared.seen.VTypeRef.{VTypeRef}
use Rattle.type_frames.specs.declared.vtype.VType.{VType}
use Rattle.type_frames.specs.Types.{is_uninit_this}
use Rattle.type_frames.specs.Environments.{Environment, Reference, MethodVType}
use Rattle.type_frames.specs.States.{State}
use Rattle.type_frames.specs.RulesOfCalls.{called}
use Rattle.type_frames.specs.Seen.{type_seen}
use Rattle.type_rules.specs.declared.fields.MemberRef.{MemberRef}

abbrev pub reference_seen : MemberRef → Reference
reference_seen r = record { class = r.class.now; name = r.name.now; desc = r.desc.now }

abbrev pub field_seen : MemberRef × VTypeRef → Reference × VType
field_seen f = (reference_seen f.0, type_seen f.1)

-- an `<init>` may set a field of the current class on the object that it is to initialize
abbrev pub may_put_own : Environment → Reference → VType → Bool
may_put_own env f object = env.is_init && bytes_eq f.class env.class && is_uninit_this object

abbrev pub member_seen : MemberRef → MethodRefs → Reference × MethodVType
member_seen r refs = (reference_seen r, vtypes_seen refs)

abbrev pub method_seen : MemberRef × MethodRefs → Reference × MethodVType
method_seen m = member_seen m.0 m.1

-- a call on an object that is of the current class and of the method's
unfoldable pub called_of_both : Environment → Name → MethodVType → State → Option State
called_of_both env class m s = called env env.class m s >>= λ left. called env class m s >>= λ other. Some left
