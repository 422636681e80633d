use Rattle.std.proofs.Common.{sym, ap, subst, ◌∙◌}
use Rattle.std.specs.Prelude.{option_map, option_copied}
use Rattle.link_versions.specs.declared.class.EntryKind.{EntryKind}
use Rattle.link_versions.specs.Entries.{AreReady}
use Rattle.link_versions.proofs.Held.{version_at-file, version_at-array, version_at-none}
use Rattle.link_versions.proofs.ReadyVersions.{tree_shown, ready_at, ready_held}
use Rattle.link_versions.proofs.entries.held_version.Goals as goal

pub returns-in_err-versions-clause-tree : goal.returns-in_err-versions-clause-tree
returns-in_err-versions-clause-tree c =
    ap (option_map (λ v. v.now.tree)) c.from_residual.ensures ∙ sym (version_at-none c.args.entries.now c.args.version (sym c.entry_at.ensures ∙ ap option_copied c.in_err-versions.was))

pub returns-in-File-clause-tree : goal.returns-in-File-clause-tree
returns-in-File-clause-tree c =
    tree_shown c.get.result
    ∙ sym (version_at-file c.args.entries.now c.args.version c.in_ok-versions.field-0.now c.in-File.versions _ (sym c.entry_at.ensures ∙ ap option_copied c.in_ok-versions.was) c.in-File.is (sym c.get.ensures.value))

pub returns-in-File-clause-ready : goal.returns-in-File-clause-ready
returns-in-File-clause-ready c =
    let e = c.in_ok-versions.field-0.now in
    let all = subst (λ (k : EntryKind). AreReady k) c.in-File.is (ready_held c.args.entries.now c.args.version.class.0 e c.requires (sym c.entry_at.ensures ∙ ap option_copied c.in_ok-versions.was)) in
    ready_at c.in-File.versions c.args.version.place c.get.result all c.get.ensures.value

pub returns-in-Array-clause-tree : goal.returns-in-Array-clause-tree
returns-in-Array-clause-tree c =
    sym (version_at-array c.args.entries.now c.args.version c.in_ok-versions.field-0.now c.in-Array.dimensions c.in-Array.element (sym c.entry_at.ensures ∙ ap option_copied c.in_ok-versions.was) c.in-Array.is)
