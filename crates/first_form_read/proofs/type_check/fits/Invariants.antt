use Rattle.std.proofs.Common.{◌≡◌, [], drop, reverse}
use Rattle.first_form.specs.Instructions.{fits}
use Rattle.first_form_read.specs.Places.{listed_from}
use Rattle.first_form_read.proofs.Typed.{fits_left}
use Rattle.first_form_read.proofs.type_check.fits.Given as goal

abbrev pub invariant-loop-place : goal.invariant-loop-place
invariant-loop-place l =
    fits 3 [] (listed_from 0 l.places) ≡ fits_left l.returned (reverse l.stack.items) (listed_from l.place-index (drop l.place-index l.places))
