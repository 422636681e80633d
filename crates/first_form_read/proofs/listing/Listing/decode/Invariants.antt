use Rattle.std.proofs.Common.{◌≡◌, drop, length}
use Rattle.first_form.specs.Instructions.{listing, listing_from}
use Rattle.first_form_read.specs.Places.{listed_from}
use Rattle.first_form_read.proofs.Placed.{with_front}
use Rattle.first_form_read.proofs.listing.Listing.decode.Given as goal

-- what was found, and what is left from here on
abbrev pub invariant-loop-pc : goal.invariant-loop-pc
invariant-loop-pc l = record {
  counted : length l.places.items ≡ l.pc;
  listed : listing l.code ≡ with_front (listed_from 0 l.places.items) (listing_from l.operands l.pc (drop l.pc l.code));
}
