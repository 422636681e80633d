use Rattle.std.proofs.Common.{◌++◌, [], ◌∷◌, nat_eq, ap, ◌∙◌}
use Rattle.std.specs.Prelude.{position, bytes_eq}
use Rattle.std.specs.Map.{values_of, lookup}
use Rattle.std.specs.Cmp.Lexicographic.{pointwise}
use Rattle.indexmap.proofs.CallerLemmas.{insert_entry-new}
use Rattle.link_versions.specs.Entries.{has_name}
use Rattle.link_versions.proofs.Keyed.{no_key, AreKeyed-push, values_of-push}
use Rattle.link_versions.proofs.entry_table.Table.push.Goals as goal

pub invariant_of-self-2 : goal.invariant_of-self-2
invariant_of-self-2 c =
    let es = c.self.inside.map.entries in
    let fresh = ap (position (has_name c.args.entry.name)) c.self.view_is ∙ c.requires.fresh in
    let absent = ap (λ text. lookup (λ k. bytes_eq text k.items) es) c.requires.named ∙ no_key es c.args.entry.name c.self.invariant fresh in
    rw (c.in_ok-insert.ensures.entries ∙ insert_entry-new (λ x y. pointwise nat_eq x.items y.items) c.self.inside.map c.args.name c.args.entry absent)
    (AreKeyed-push es c.args.name c.args.entry c.self.invariant c.requires.named)

pub returns-clause-ok : goal.returns-clause-ok
returns-clause-ok c =
    let es = c.self.inside.map.entries in
    let fresh = ap (position (has_name c.args.entry.name)) c.self.view_is ∙ c.requires.fresh in
    let absent = ap (λ text. lookup (λ k. bytes_eq text k.items) es) c.requires.named ∙ no_key es c.args.entry.name c.self.invariant fresh in
    ap values_of (c.in_ok-insert.ensures.entries ∙ insert_entry-new (λ x y. pointwise nat_eq x.items y.items) c.self.inside.map c.args.name c.args.entry absent)
    ∙ values_of-push es c.args.name c.args.entry ∙ ap (λ l. l ++ c.args.entry ∷ []) c.self.view_is
