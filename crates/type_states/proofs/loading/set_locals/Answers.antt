use Rattle.std.proofs.Common.{◌≡◌, ◌∙◌, ℕ, List, sym, ap, length, map, replicate, arith}
use Rattle.std.proofs.lemmas.List.{length-map, length-replicate}
use Rattle.type_frames.specs.declared.vtype.VType.{VType}
use Rattle.type_frames.specs.declared.vtype.VType.TheVariants as vtype
use Rattle.type_frames.specs.Types.{expanded}
use Rattle.type_frames.specs.Seen.{type_seen}
use Rattle.type_states.specs.Lists.{list_at}
use Rattle.type_states.proofs.Loads.{set_begun}
use Rattle.type_states.proofs.loading.set_locals.Goals as goal

pub loop-t-init : goal.loop-t-init
loop-t-init c =
    let cleared = c.clear.ensures in
    let all : length c.clear.new.locals ≡ length c.args.locals.now =
    sym (length-map c.clear.new.locals type_seen) ∙ ap (λ (ts : List VType). length ts) cleared ∙ length-replicate (length c.args.locals.now) vtype.Top in
    let counted = c.words-words.ensures in
    let room = c.requires.room in
    let short = c.ranges.max_locals in
    let max = c.requires.count in
    let count : c.words-words.result ≡ length (expanded (list_at c.args.lists.now c.args.place)) = omega arith in
    record {
      listed = c.requires.listed;
      count = count;
      within = omega arith;
      same_length = all;
      so_far = set_begun (list_at c.args.lists.now c.args.place) (map type_seen c.clear.new.locals) c.args.max_locals c.words-words.result (cleared ∙ ap (λ (k : ℕ). replicate k vtype.Top) max) count;
    }
