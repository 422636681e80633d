-- What is known of a name and a code that are accepted.
use Rattle.std.proofs.Common.{◌≡◌, ◌<◌, ◌^◌, ℕ, List, [], length, Option, Some, None, Bool, true, false, not, ◌&&◌, nat_lt, refl, subst}
use Rattle.std.specs.List.{list_all}
use Rattle.std.proofs.lemmas.Bool.{ltb-true}
use Rattle.jv_names.specs.Names.{is_class_name, is_visible}
use Rattle.first_form.specs.declared.Instr.{Instr}
use Rattle.first_form.specs.BaseSet.{is_base}
use Rattle.first_form.specs.Instructions.{listing, fits, runs_on}
use Rattle.first_form.specs.ClassFiles.{is_own_name, is_own_code}

pub and_true : (a b : Bool) → (a && b) ≡ true → (a ≡ true) × (b ≡ true)
and_true true true e = (refl, refl)
and_true true false e = absurd cc
and_true false b e = absurd cc

pub short_name : (name : List ℕ) → is_own_name name ≡ true → length name < 2 ^ 16
short_name name h =
    let a = nat_lt (length name) (2 ^ 16) in
    let b = list_all is_visible name in
    let c = is_class_name name in
    let abc = and_true (a && b && c) (not (is_base name)) h in
    let ab = and_true (a && b) c abc.0 in
    ltb-true (length name) (2 ^ 16) (and_true a b ab.0).0

pub short_code : (code : List ℕ) → is_own_code code ≡ true → length code < 2 ^ 16
short_code code h =
    let a = nat_lt 0 (length code) in
    let b = nat_lt (length code) (2 ^ 16) in
    ltb-true (length code) (2 ^ 16) (and_true a b (and_true (a && b) (runs_on 3 code) h).0).1

pub fits_of : (code : List ℕ) (l : List (ℕ × Instr)) → is_own_code code ≡ true → listing code ≡ Some l → fits 3 [] l ≡ true
fits_of code l h is =
    let a = nat_lt 0 (length code) && nat_lt (length code) (2 ^ 16) in
    let runs : (elim (listing code) [ None ↦ false | Some l ↦ fits 3 [] l ]) ≡ true = (and_true a (runs_on 3 code) h).1 in
    subst (λ (r : Option (List (ℕ × Instr))). (elim r [ None ↦ false | Some l ↦ fits 3 [] l ]) ≡ true) is runs
