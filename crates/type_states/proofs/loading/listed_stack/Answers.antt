use Rattle.std.proofs.Common.{◌<◌, ◌^◌, ◌+◌, ◌∙◌, List, take, length, ap, sym, subst, arith}
use Rattle.std.proofs.lemmas.List.{take-map, length-map, get_or-map}
use Rattle.type_frames.specs.declared.vtype.VType.{VType}
use Rattle.type_frames.specs.Types.{expanded}
use Rattle.type_frames.specs.StackMaps.{type_listed, types_listed}
use Rattle.type_frames.specs.Seen.{type_seen}
use Rattle.type_frames.specs.declared.seen.VTypeRef.{VTypeRef}
use Rattle.type_frames.specs.declared.vtype.VType.TheVariants as vtype
use Rattle.type_states.specs.Loading.{IsStack}
use Rattle.type_states.proofs.Loads.{stack_more}
use Rattle.type_states.proofs.Words.{words_upto, few_words}
use Rattle.type_states.proofs.loading.listed_stack.Goals as goal

pub overflow_add-words : goal.overflow_add-words
overflow_add-words c =
    let upto = words_upto (types_listed c.args.pool.now c.args.listed.now) c.loop-one.one-index in
    let same = ap (λ (ts : List VType). length (expanded ts)) (take-map (type_listed c.args.pool.now) c.loop-one.one-index c.args.listed.now) in
    let few = few_words (type_seen c.type_ref-t.result) in
    let count = c.loop-one.invariant.words_are in
    let width = c.width.ensures in
    let room = c.requires in
    omega arith

pub loop-one-preserved : goal.loop-one-preserved
loop-one-preserved c =
    let ts = types_listed c.args.pool.now c.args.listed.now in
    let i = c.loop-one.one-index in
    let test = c.loop-one-test.true in
    let short : c.args.room < 2 ^ 16 = omega arith in
    let count = length-map c.args.listed.now (type_listed c.args.pool.now) in
    let before : IsStack (take i ts) c.loop-one.stack.items c.loop-one.words =
    subst (λ (xs : List VType). IsStack xs c.loop-one.stack.items c.loop-one.words) (sym (take-map (type_listed c.args.pool.now) i c.args.listed.now)) c.loop-one.invariant in
    let there = c.type_ref-t.ensures ∙ sym (get_or-map (type_listed c.args.pool.now) c.args.listed.now i _ vtype.Top test) in
    subst (λ (xs : List VType). IsStack xs c.push.new.self.items (c.loop-one.words + c.width.result)) (take-map (type_listed c.args.pool.now) (i + 1) c.args.listed.now)
    (subst (λ (s : List VTypeRef). IsStack (take (i + 1) ts) s (c.loop-one.words + c.width.result)) (sym c.in_ok-push.ensures.items)
    (stack_more ts i c.loop-one.stack.items c.type_ref-t.result vtype.Top c.loop-one.words c.width.result c.args.room before (omega arith) there c.width.ensures c.requires short))
