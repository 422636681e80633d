-- How the code holds what an array's elements are without dimensions.
use Rattle.type_frames.specs.declared.assigning.BaseText.{BaseText}
use Rattle.type_frames.specs.declared.assigning.BaseText.TheVariants as held
use Rattle.type_frames.specs.Types.{Base, Number, Class}

abbrev pub base_held : BaseText → Base
base_held (held.Number unit) = Number unit
base_held (held.Class name) = Class name.now
