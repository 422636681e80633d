use Rattle.std.proofs.Common.{◌≡◌, ◌∙◌, sym, subst, None, arith}
use Rattle.std.proofs.lemmas.Bool.{ltb-true}
use Rattle.class_code.specs.Lookups.{instr_at}
use Rattle.code_index.specs.Indexes.{IsIndexed}
use Rattle.code_index.proofs.Finding.{absent_past, absent_place, absent_other, if_none}
use Rattle.code_index.proofs.code.Code.place_at.Goals as goal

pub returns-in_err-place-clause-none : goal.returns-in_err-place-clause-none
returns-in_err-place-clause-none c =
    let code = c.self.inside.instrs.items in
    let places = c.deref.result.now in
    let indexed = subst (λ ps. IsIndexed code ps) (sym c.deref.ensures.value) c.self.invariant in
    let absent = absent_past code places c.args.pc indexed c.in_err-place.ensures.lookup.3 in
    if_none c.from_residual.result _ (subst (λ code. instr_at code c.args.pc ≡ None) c.self.view_is absent)

pub returns-in_err-entry-clause-none : goal.returns-in_err-entry-clause-none
returns-in_err-entry-clause-none c =
    let code = c.deref-2.result.now in
    let places = c.deref.result.now in
    let place = c.in_ok-place.field-0.now in
    let one = subst (λ ps. IsIndexed c.self.inside.instrs.items ps) (sym c.deref.ensures.value) c.self.invariant in
    let indexed = subst (λ is. IsIndexed is places) (sym c.deref-2.ensures.value) one in
    let absent = absent_place code places c.args.pc place indexed c.in_ok-place.ensures.lookup.1 c.in_err-entry.ensures.lookup.3 in
    if_none c.from_residual-in_err-entry.result _ (subst (λ code. instr_at code c.args.pc ≡ None) (c.deref-2.ensures.value ∙ c.self.view_is) absent)

pub returns-else-entry-pc-clause-none : goal.returns-else-entry-pc-clause-none
returns-else-entry-pc-clause-none c =
    let code = c.deref-2.result.now in
    let places = c.deref.result.now in
    let place = c.in_ok-place.field-0.now in
    let one = subst (λ ps. IsIndexed c.self.inside.instrs.items ps) (sym c.deref.ensures.value) c.self.invariant in
    let indexed = subst (λ is. IsIndexed is places) (sym c.deref-2.ensures.value) one in
    let absent = absent_other code places c.args.pc place c.in_ok-entry.entry.now indexed c.in_ok-place.ensures.lookup.1 (ltb-true _ _ (sym c.in_ok-entry.ensures.lookup.0)) c.in_ok-entry.ensures.lookup.1 c.if-entry-pc.false in
    subst (λ code. instr_at code c.args.pc ≡ None) (c.deref-2.ensures.value ∙ c.self.view_is) absent
