use Rattle.std.proofs.Common.{◌∙◌}
use Rattle.base_set.proofs.classes.error_class.Goals as goal

pub base_class-requires : goal.base_class-requires
base_class-requires c = c.error_row.ensures.ready ∙ c.requires
