use Rattle.link_versions.proofs.Collect.{collected_none}
use Rattle.link_versions.proofs.order.Collected.new.Goals as goal

pub returns-clause-collected : goal.returns-clause-collected
returns-clause-collected c = collected_none c.new.result.items c.new-2.result c.new.ensures.items c.new-2.ensures.empty
