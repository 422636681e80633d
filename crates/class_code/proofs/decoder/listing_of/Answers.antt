use Rattle.class_code.proofs.Reaching.{offsets_rise}
use Rattle.class_code.proofs.decoder.listing_of.Goals as goal

pub first_astray-requires : goal.first_astray-requires
first_astray-requires c = rw c.deref.ensures.value (offsets_rise 0 c.in_ok-list.list.items c.in_ok-list.ensures.found.in_place)
