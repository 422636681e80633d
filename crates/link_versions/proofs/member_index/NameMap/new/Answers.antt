use Rattle.link_versions.proofs.Indexed.{empty_name, step}
use Rattle.link_versions.proofs.member_index.NameMap.new.Goals as goal

pub loop-place-init : goal.loop-place-init
loop-place-init c = empty_name c.new.result c.new.ensures.empty

pub loop-place-preserved : goal.loop-place-preserved
loop-place-preserved c n d =
    step c.args.tree.now.pool n d c.args.members.now c.loop-place.place c.index-members-place.result _ _ c.loop-place-test.true c.index-members-place.is (c.loop-place.invariant n d)
    (c.in_ok-put_member.ensures n d)
