use Rattle.event_mask.proofs.Setting.{settings_as_set}
use Rattle.event_mask.proofs.Hooking.{hook_goes_on}
use Rattle.event_mask.proofs.laws.mask_laws.Goals as goal

pub returns-clause-settings : goal.returns-clause-settings
returns-clause-settings c = settings_as_set

pub returns-clause-hook : goal.returns-clause-hook
returns-clause-hook c = hook_goes_on
