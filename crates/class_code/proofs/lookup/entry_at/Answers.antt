-- The closure gives an instruction's offset.
use Rattle.std.proofs.Common.{rules, sym, ◌∙◌}
use Rattle.std.proofs.lemmas.List.Sorted.{answers_always}
use Rattle.class_code.proofs.Lookups.{instr_found, following_found, none_found}
use Rattle.class_code.proofs.lookup.entry_at.Goals as goal

pub returns-in-Ok-clause-instr : goal.returns-in-Ok-clause-instr
returns-in-Ok-clause-instr c =
    let facts = c.in-Ok.ensures in
    let by_key = facts.position (λ p. p.0) (answers_always _ _ _ (λ f a r g called. search rules)) in
    instr_found c.args.code.now c.in-Ok.place c.args.pc c.index-code-place.result c.requires facts.bound by_key

pub returns-in-Ok-clause-following : goal.returns-in-Ok-clause-following
returns-in-Ok-clause-following c =
    let facts = c.in-Ok.ensures in
    let by_key = facts.position (λ p. p.0) (answers_always _ _ _ (λ f a r g called. search rules)) in
    following_found c.args.code.now c.in-Ok.place c.args.pc c.requires facts.bound by_key ∙ sym c.offset_of.ensures

pub returns-in-Err-clause-none : goal.returns-in-Err-clause-none
returns-in-Err-clause-none c =
    let facts = c.in-Err.ensures in
    let by_key = facts.position (λ p. p.0) (answers_always _ _ _ (λ f a r g called. search rules)) in
    none_found c.args.code.now _ c.args.pc c.requires by_key
