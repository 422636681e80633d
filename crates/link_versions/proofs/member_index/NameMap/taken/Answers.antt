use Rattle.std.proofs.Common.{ℕ, List, None, sym, ap, subst, ◌∙◌}
use Rattle.link_versions.specs.MemberIndexes.{at_text}
use Rattle.link_versions.proofs.Indexed.{Changes, had_some, had_none, taken_out}
use Rattle.link_versions.proofs.member_index.NameMap.taken.Goals as goal

pub returns-in-Some-clause-had : goal.returns-in-Some-clause-had
returns-in-Some-clause-had c =
    let names = c.args.self.now.names in
    had_some c.args.name.now names c.in-Some.places (ap (at_text names) (sym c.as_slice.ensures) ∙ sym c.remove.ensures.value ∙ c.in-Some.is)

pub returns-in-None-clause-had : goal.returns-in-None-clause-had
returns-in-None-clause-had c =
    let names = c.args.self.now.names in
    had_none c.args.name.now names c.new.result (ap (at_text names) (sym c.as_slice.ensures) ∙ sym c.remove.ensures.value ∙ c.in-None.is) c.new.ensures.empty

pub returns-in-Some-clause-others : goal.returns-in-Some-clause-others
returns-in-Some-clause-others c =
    let names = c.args.self.now.names in
    taken_out c.args.name.now names c.remove.new.self (subst (λ (t : List ℕ). Changes t names c.remove.new.self None) c.as_slice.ensures c.remove.ensures.updates)

pub returns-in-None-clause-others : goal.returns-in-None-clause-others
returns-in-None-clause-others c =
    let names = c.args.self.now.names in
    taken_out c.args.name.now names c.remove.new.self (subst (λ (t : List ℕ). Changes t names c.remove.new.self None) c.as_slice.ensures c.remove.ensures.updates)
