use Rattle.std.proofs.Common.{sym, ap, ◌∙◌, is_some}
use Rattle.link_versions.specs.MemberIndexes.{at_text}
use Rattle.link_versions.proofs.Indexed.{desc_put, desc_there}
use Rattle.link_versions.proofs.member_index.with_place.Goals as goal

pub returns-then-contains_key : goal.returns-then-contains_key
returns-then-contains_key c =
    let places = c.args.places in
    desc_there c.args.desc.now places c.args.place (ap (λ t. is_some (at_text places t)) (sym c.as_slice.ensures) ∙ sym c.contains_key.ensures ∙ c.if-contains_key.true)

pub returns : goal.returns
returns c =
    let places = c.args.places in
    desc_put c.args.desc.now c.into_vec.result places c.insert.new.self c.args.place (c.into_vec.ensures ∙ c.in_ok-clone_in.ensures)
    (ap (λ t. is_some (at_text places t)) (sym c.as_slice.ensures) ∙ sym c.contains_key.ensures ∙ c.if-contains_key.false) c.in_ok-insert.ensures.updates
