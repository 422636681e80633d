use Rattle.std.proofs.Common.{sym, ◌∙◌}
use Rattle.std.proofs.lemmas.Bool.{OnFalse_at}
use Rattle.link_versions.proofs.Collect.{is_new, is_old, collected_new, collected_old}
use Rattle.link_versions.proofs.order.Collected.add.Goals as goal

pub returns-in_ok-push-clause-list : goal.returns-in_ok-push-clause-list
returns-in_ok-push-clause-list c =
    c.in_ok-push.ensures.items ∙ sym (is_new c.args.self.now.list.items c.args.self.now.seen c.args.class c.requires (sym c.in_ok-insert.ensures.added ∙ c.if-branch.true))

pub returns-in_ok-push-clause-collected : goal.returns-in_ok-push-clause-collected
returns-in_ok-push-clause-collected c =
    rw c.in_ok-push.ensures.items (collected_new c.args.self.now.list.items c.args.self.now.seen c.insert.new.self c.args.class c.requires c.in_ok-insert.ensures.updates)

pub returns-else-branch-clause-list : goal.returns-else-branch-clause-list
returns-else-branch-clause-list c =
    sym (is_old c.args.self.now.list.items c.args.self.now.seen c.args.class c.requires (sym c.in_ok-insert.ensures.added ∙ c.if-branch.false))

pub returns-else-branch-clause-collected : goal.returns-else-branch-clause-collected
returns-else-branch-clause-collected c =
    collected_old c.args.self.now.list.items c.args.self.now.seen c.insert.new.self c.requires (OnFalse_at c.if-branch.false c.in_ok-insert.ensures.unchanged)
