-- The names of base classes that the first form refuses are those of the base classes.
use Rattle.std.proofs.Common.{◌≡◌, refl}
use Rattle.std.specs.Prelude.{map}
use Rattle.base_set.specs.BaseSet.{base_set}
use Rattle.first_form.specs.BaseSet.{base_classes}

pub map-base_set : map (λ class. class.name) base_set ≡ base_classes
map-base_set = refl
