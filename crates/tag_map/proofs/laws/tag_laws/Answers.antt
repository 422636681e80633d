use Rattle.tag_map.proofs.Tagging.{sets_tag, leaves_tag, ends_tags, none_tagged}
use Rattle.tag_map.proofs.laws.tag_laws.Goals as goal

pub returns-clause-set : goal.returns-clause-set
returns-clause-set c = sets_tag

pub returns-clause-others : goal.returns-clause-others
returns-clause-others c = leaves_tag

pub returns-clause-ended : goal.returns-clause-ended
returns-clause-ended c = ends_tags

pub returns-clause-untagged : goal.returns-clause-untagged
returns-clause-untagged c = none_tagged
