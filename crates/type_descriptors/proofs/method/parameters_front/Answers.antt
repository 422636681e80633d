use Rattle.type_descriptors.proofs.MethodTexts.{one_more, all_seen, never_stuck}
use Rattle.type_descriptors.proofs.method.parameters_front.Goals as goal

pub loop-behind-preserved : goal.loop-behind-preserved
loop-behind-preserved c =
    rw c.in_ok-push.ensures.items (one_more c.args.text.now c.loop-behind.types.items c.loop-behind.rest.now c.in-Some-type_front.one.now c.in-Some-type_front.others.now c.field_ref.result c.loop-behind.invariant c.in_default.ensures c.in-Some-type_front.ensures.value c.field_ref.ensures.spelled)

pub returns-in-Some : goal.returns-in-Some
returns-in-Some c = λ all tail at. all_seen c.args.text.now c.loop-behind.types.items c.loop-behind.rest.now c.in-Some.behind.now all tail c.loop-behind.invariant c.in-Some.ensures at

pub returns-in_default-type_front : goal.returns-in_default-type_front
returns-in_default-type_front c =
    λ all tail at. absurd (never_stuck c.args.text.now c.loop-behind.types.items c.loop-behind.rest.now all tail c.loop-behind.invariant c.in_default.ensures c.in_default-type_front.ensures.value at)
