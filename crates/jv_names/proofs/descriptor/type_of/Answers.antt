use Rattle.std.proofs.Common.{◌≡◌, ap, List, ℕ, [], ◌∷◌, length, arith, refl}
use Rattle.std.proofs.lemmas.Bool.Decides.{nat_tests}
use Rattle.std.proofs.lemmas.Result.{err_from_is_err_and}
use Rattle.jv_names.proofs.Descriptors.{unread-field, more-field, found-or, floating-or}
use Rattle.jv_names.proofs.descriptor.type_of.Goals as goal

pub returns-in_err-kept-clause-fault : goal.returns-in_err-kept-clause-fault
returns-in_err-kept-clause-fault c =
    let p = err_from_is_err_and c.from_residual.result c.from_residual.ensures.1 in
    rw (p.1, p.2) (unread-field c.args.units.now c.in_err-kept.field-0.0 c.in_err-kept.ensures)

pub returns-then-not-is_empty-clause-fault : goal.returns-then-not-is_empty-clause-fault
returns-then-not-is_empty-clause-fault c =
    more-field c.args.units.now c.in_ok-kept.kept c.in_ok-kept.rest.now (λ e. let none = ap length e in absurd (grind (arith, nat_tests, none, c.if-not-is_empty.ensures))) c.in_ok-kept.ensures

nil : (xs : List ℕ) → length xs ≡ 0 → xs ≡ []
nil [] h = refl
nil (x ∷ xs) h = absurd (omega arith)

pub returns-clause-found : goal.returns-clause-found
returns-clause-found c =
    let empty : c.in_ok-kept.rest.now ≡ [] = nil c.in_ok-kept.rest.now (grind (arith, nat_tests, c.if-not-is_empty.ensures)) in
    rw c.ok_or.ensures.value (found-or c.args.units.now c.in_ok-kept.kept (rw empty at c.in_ok-kept.ensures))

pub returns-clause-fault : goal.returns-clause-fault
returns-clause-fault c =
    let empty : c.in_ok-kept.rest.now ≡ [] = nil c.in_ok-kept.rest.now (grind (arith, nat_tests, c.if-not-is_empty.ensures)) in
    rw c.ok_or.ensures.value (floating-or c.args.units.now c.in_ok-kept.kept (rw empty at c.in_ok-kept.ensures))
