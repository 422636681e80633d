use Rattle.std.proofs.Common.{◌≡◌, ◌∙◌, Some, not, sym, ap}
use Rattle.std.specs.Prelude.{option_copied}
use Rattle.std.specs.BTreeSet.{contains}
use Rattle.class_tree.specs.Tree.{text_at}
use Rattle.classfile_read.specs.Repeats.{index_of, pair_cmp}
use Rattle.classfile_read.proofs.Repeats.{one_more}
use Rattle.classfile_read.proofs.seen.SeenNames.insert.Goals as goal

pub returns-clause-told : goal.returns-clause-told
returns-clause-told c = λ earlier remembers.
    let pool = c.args.pool.now in
    let seen = c.args.self.now in
    let name : text_at pool c.args.name ≡ Some c.unwrap-name_text.result.now = sym c.text_at.ensures ∙ ap option_copied c.unwrap-name_text.ensures in
    let desc : text_at pool c.args.desc ≡ Some c.unwrap-desc_text.result.now = sym c.text_at-2.ensures ∙ ap option_copied c.unwrap-desc_text.ensures in
    let all =
    one_more pool seen.known.items c.standing_index.new.known.items c.standing_index-2.new.known.items (index_of seen.texts) (index_of c.standing_index.new.texts) (index_of c.standing_index-2.new.texts) (contains pair_cmp seen.pairs) (contains pair_cmp c.insert.new.self)
    earlier c.args.name c.args.desc c.in_ok-first.first c.in_ok-second.second c.unwrap-name_text.result.now c.unwrap-desc_text.result.now name desc remembers.texts remembers.pairs (c.in_ok-first.ensures pool name) (c.in_ok-second.ensures pool desc) c.in_ok-insert.ensures.updates.0 in
    c.in_ok-insert.ensures.added ∙ ap not all.0

pub returns-clause-remembered : goal.returns-clause-remembered
returns-clause-remembered c = λ earlier remembers.
    let pool = c.args.pool.now in
    let seen = c.args.self.now in
    let name : text_at pool c.args.name ≡ Some c.unwrap-name_text.result.now = sym c.text_at.ensures ∙ ap option_copied c.unwrap-name_text.ensures in
    let desc : text_at pool c.args.desc ≡ Some c.unwrap-desc_text.result.now = sym c.text_at-2.ensures ∙ ap option_copied c.unwrap-desc_text.ensures in
    let all =
    one_more pool seen.known.items c.standing_index.new.known.items c.standing_index-2.new.known.items (index_of seen.texts) (index_of c.standing_index.new.texts) (index_of c.standing_index-2.new.texts) (contains pair_cmp seen.pairs) (contains pair_cmp c.insert.new.self)
    earlier c.args.name c.args.desc c.in_ok-first.first c.in_ok-second.second c.unwrap-name_text.result.now c.unwrap-desc_text.result.now name desc remembers.texts remembers.pairs (c.in_ok-first.ensures pool name) (c.in_ok-second.ensures pool desc) c.in_ok-insert.ensures.updates.0 in
    record {
      texts = all.1;
      pairs = all.2;
    }
