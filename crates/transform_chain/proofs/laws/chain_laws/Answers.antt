use Rattle.transform_chain.proofs.Grouping.{groups_rise}
use Rattle.transform_chain.proofs.Members.{groups_keep}
use Rattle.transform_chain.proofs.Folding.{kept_goes_on}
use Rattle.transform_chain.proofs.laws.chain_laws.Goals as goal

pub returns-clause-groups : goal.returns-clause-groups
returns-clause-groups c = groups_rise

pub returns-clause-members : goal.returns-clause-members
returns-clause-members c = groups_keep

pub returns-clause-kept : goal.returns-clause-kept
returns-clause-kept c = kept_goes_on
