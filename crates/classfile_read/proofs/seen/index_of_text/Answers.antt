use Rattle.std.proofs.Common.{◌≡◌, ◌∙◌, List, ℕ, None, sym, ap}
use Rattle.std.proofs.lemmas.Map.Text.{btree_map_updates_str}
use Rattle.classfile_read.specs.Repeats.{index_of}
use Rattle.classfile_read.proofs.Repeats.{index_put}
use Rattle.classfile_read.proofs.seen.index_of_text.Goals as goal

pub returns-in_ok-insert-in-None-clause-noted : goal.returns-in_ok-insert-in-None-clause-noted
returns-in_ok-insert-in-None-clause-noted c = λ other.
    let own : List ℕ = c.as_slice-in-None.result.now in
    let before = index_of c.args.texts.now in
    let same : own ≡ c.as_slice.result.now = c.as_slice-in-None.ensures ∙ sym c.as_slice.ensures in
    let absent : before own ≡ None = ap before same ∙ sym c.get.ensures.value ∙ sym c.copied.ensures ∙ c.in-None.is in
    rw (← c.as_slice-in-None.ensures) (index_put own before (index_of c.insert.new.self) c.args.index absent other (btree_map_updates_str own c.args.texts.now c.insert.new.self _ c.in_ok-insert-in-None.ensures.updates other))
