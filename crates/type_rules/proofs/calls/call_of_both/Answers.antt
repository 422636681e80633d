use Rattle.std.proofs.Common.{◌≡◌, true, subst, sym, Option, Some, rules}
use Rattle.type_frames.specs.declared.vtype.VType.TheVariants.{Object}
use Rattle.type_frames.specs.Assignable.{is_assignable}
use Rattle.type_frames.specs.States.{State, top_if, all_taken}
use Rattle.type_frames.specs.RulesOfCalls.{is_any, arguments}
use Rattle.type_frames.specs.Seen.{type_seen}
use Rattle.type_descriptors.specs.Methods.{method_seen}
use Rattle.type_states.specs.Answers.{Leaves}
use Rattle.type_rules.specs.Methods.{env_of}
use Rattle.type_rules.proofs.Calling.{both_done}
use Rattle.type_rules.proofs.calls.call_of_both.Goals as goal

pub returns-then-stands_for-2 : goal.returns-then-stands_for-2
returns-then-stands_for-2 c =
    let env = env_of c.args.method.now in
    let m = method_seen c.args.refs.now in
    let class = c.args.called.class.now in
    let a = c.take_arguments.new.state in
    let o = type_seen c.in_ok-object.object in
    let rest = c.take_any.new.self in
    let args : all_taken env.hierarchy (arguments m) c.args.state.now ≡ Some a = search rules in
    let top : top_if is_any a ≡ Some (o, rest) = search rules in
    let one : is_assignable env.hierarchy o (Object env.class) ≡ true = search rules in
    let other : is_assignable env.hierarchy o (Object class) ≡ true = search rules in
    subst (λ (x : Option State). Leaves c.put_result.result c.put_result.new.state x) (sym (both_done env class m c.args.state.now a o rest args top one other)) c.put_result.ensures
