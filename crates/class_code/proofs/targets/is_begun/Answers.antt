use Rattle.std.proofs.Common.{◌∙◌, ap, rules, pos, to_z, of_z, w64, ◌≡◌, ℤ}
use Rattle.std.proofs.lemmas.List.Sorted.{answers_always}
use Rattle.class_code.specs.Listing.{begins}
use Rattle.class_code.proofs.Reaching.{reached}
use Rattle.class_code.proofs.targets.is_begun.Goals as goal

-- the closure gives an instruction's offset
pub returns : goal.returns
returns c =
    let facts = c.binary_search_by_key.ensures in
    let by_key = facts.position (λ p. pos p.0) (answers_always _ _ _ (λ f a r g called. search rules)) in
    let target : ℤ = to_z w64 (of_z w64 c.args.target) in
    let same : target ≡ c.args.target = search rules in
    c.is_ok.ensures.value ∙ reached c.args.list.now target c.binary_search_by_key.result c.requires facts.bound by_key ∙ ap (begins c.args.list.now) same
