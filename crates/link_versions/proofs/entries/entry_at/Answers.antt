use Rattle.std.proofs.Common.{reverse, sym, ap, ◌∙◌, arith}
use Rattle.link_versions.specs.Classes.{numbered}
use Rattle.link_versions.proofs.Numbered.{numbered-zero, numbered-reverse}
use Rattle.link_versions.proofs.entries.entry_at.Goals as goal

pub returns-then-class-eq0 : goal.returns-then-class-eq0
returns-then-class-eq0 c = sym (ap (numbered (reverse c.args.entries.now)) c.if-class-eq0.true ∙ numbered-zero (reverse c.args.entries.now))

pub returns : goal.returns
returns c = c.at.ensures ∙ sym (numbered-reverse c.args.entries.now c.args.class.0 (omega arith))
