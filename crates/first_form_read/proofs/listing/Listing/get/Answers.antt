use Rattle.std.proofs.Common.{◌≡◌, ◌≤◌, ◌<◌, ℕ, List, length, get_or, Option, Some, None, Bor, refl, sym}
use Rattle.std.specs.Prelude.{slice_get, IfSome, MatchOption}
use Rattle.std.specs.Option.{option_copied}
use Rattle.std.specs.List.{HoldsAt}
use Rattle.std.proofs.lemmas.Option.{slice_get_past, slice_get_read}
use Rattle.first_form.specs.declared.Instr.{Instr}
use Rattle.first_form_read.proofs.Looked.{at_pc-listed}
use Rattle.first_form_read.proofs.listing.Listing.get.Goals as goal

-- what a look-up of a slice gives, as a copy
copied_is : (ps : List (Option Instr)) (k : ℕ) (r : Option (Bor (Option Instr)))
    → MatchOption r (length ps ≤ k) (λ x. (k < length ps) × HoldsAt (λ y. x.now ≡ y) ps k) → IfSome r (λ x. x.now ≡ get_or ps k x.now)
    → option_copied r ≡ slice_get ps k
copied_is ps k None past at = sym (slice_get_past ps k past)
copied_is ps k (Some x) found at = sym (slice_get_read ps (length ps) k x.now refl found.0 at)

pub returns : goal.returns
returns c =
    let looked = copied_is c.deref.result.now c.from.result c.get.result c.get.ensures.lookup.3 c.get.ensures.lookup.1 in
    let listed = at_pc-listed c.args.pc c.self.inside.places.items in
    cc (c.deref.ensures.value, c.from.ensures, c.copied.ensures, c.flatten.ensures, c.self.view_is)
