use Rattle.std.proofs.Common.{sym, ap, ◌∙◌}
use Rattle.std.specs.Prelude.{option_copied}
use Rattle.link_versions.proofs.Coded.{coded_at}
use Rattle.link_versions.proofs.version.ready_code.Goals as goal

pub decoded-requires-clause-short : goal.decoded-requires-clause-short
decoded-requires-clause-short c =
    rw c.as_slice.ensures (coded_at c.args.method.now c.in-Some.code.now c.requires (sym c.code.ensures ∙ ap option_copied c.in-Some.is)).1

pub decoded-requires-clause-listed : goal.decoded-requires-clause-listed
decoded-requires-clause-listed c =
    rw c.as_slice.ensures (coded_at c.args.method.now c.in-Some.code.now c.requires (sym c.code.ensures ∙ ap option_copied c.in-Some.is)).0
