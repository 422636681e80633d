use Rattle.std.proofs.Common.{◌-◌, ◌<◌, ◌∙◌, sym, ap, length, map, arith}
use Rattle.std.proofs.lemmas.List.{length-map, get_or-map}
use Rattle.type_frames.specs.Seen.{type_seen}
use Rattle.type_frames.specs.declared.vtype.VType.TheVariants as vtype
use Rattle.type_states.proofs.Assigned.{walk_begun, walk_fits, walk_on, walk_failed, some_words}
use Rattle.type_states.proofs.accepting.words_accept.Goals as goal

pub loop-t-init : goal.loop-t-init
loop-t-init c =
    walk_begun c.args.hierarchy.now (map type_seen c.args.types.now) (length c.args.types.now) c.args.lists.now c.args.place c.words-words.result
    (length-map c.args.types.now type_seen) c.requires.listed c.requires.room c.requires.short c.words-words.ensures

pub returns-then-not-stands_for : goal.returns-then-not-stands_for
returns-then-not-stands_for c =
    let fits = walk_fits c.args.hierarchy.now (map type_seen c.args.types.now) (length c.args.types.now) c.args.lists.now c.args.place c.loop-t.at c.loop-t.words _ c.in-Some.below c.loop-t.invariant c.in-Some.ensures in
    let within = c.loop-t.invariant.within in
    let all = length-map c.args.types.now type_seen in
    let some = some_words (type_seen c.in-Some.t) in
    let width = c.width-words.ensures in
    let lt : c.loop-t.words - c.width-words.result < length c.args.types.now = omega arith in
    sym (walk_failed c.args.hierarchy.now (map type_seen c.args.types.now) (length c.args.types.now) c.args.lists.now c.args.place c.loop-t.at c.loop-t.words _ c.in-Some.below
    c.loop-t.invariant c.in-Some.ensures (c.loop-t.words - c.width-words.result) _ vtype.Top (ap (λ n. c.loop-t.words - n) c.width-words.ensures)
    (sym (get_or-map type_seen c.args.types.now (c.loop-t.words - c.width-words.result) _ vtype.Top lt)) (sym c.stands_for.ensures ∙ c.if-not-stands_for.true))

pub loop-t-preserved : goal.loop-t-preserved
loop-t-preserved c =
    let fits = walk_fits c.args.hierarchy.now (map type_seen c.args.types.now) (length c.args.types.now) c.args.lists.now c.args.place c.loop-t.at c.loop-t.words _ c.in-Some.below c.loop-t.invariant c.in-Some.ensures in
    let within = c.loop-t.invariant.within in
    let all = length-map c.args.types.now type_seen in
    let some = some_words (type_seen c.in-Some.t) in
    let width = c.width-words.ensures in
    let lt : c.loop-t.words - c.width-words.result < length c.args.types.now = omega arith in
    walk_on c.args.hierarchy.now (map type_seen c.args.types.now) (length c.args.types.now) c.args.lists.now c.args.place c.loop-t.at c.loop-t.words _ c.in-Some.below
    c.loop-t.invariant c.in-Some.ensures (c.loop-t.words - c.width-words.result) _ vtype.Top (ap (λ n. c.loop-t.words - n) c.width-words.ensures)
    (sym (get_or-map type_seen c.args.types.now (c.loop-t.words - c.width-words.result) _ vtype.Top lt)) (sym c.stands_for.ensures ∙ c.if-not-stands_for.false)
