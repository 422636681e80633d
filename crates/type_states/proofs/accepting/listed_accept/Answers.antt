use Rattle.std.proofs.Common.{◌≡◌, ℕ, refl, List, ◌-◌, ◌<◌, ◌∙◌, false, sym, ap, length, map, reverse, get_or, nat_eq, arith}
use Rattle.std.proofs.lemmas.List.{length-map, get_or-map}
use Rattle.std.proofs.lemmas.Bool.Decides.{nat_tests}
use Rattle.class_tree.specs.declared.frames.VerificationType.{VerificationType}
use Rattle.class_tree.specs.declared.pool.Const.{Const}
use Rattle.type_frames.specs.Assignable.{are_words_assignable}
use Rattle.type_frames.specs.Hierarchies.{Known}
use Rattle.type_frames.specs.StackMaps.{type_listed, types_listed}
use Rattle.type_frames.specs.Seen.{type_seen}
use Rattle.type_frames.specs.declared.seen.VTypeRef.{VTypeRef}
use Rattle.type_frames.specs.declared.vtype.VType.{VType}
use Rattle.type_frames.specs.declared.vtype.VType.TheVariants as vtype
use Rattle.type_states.proofs.Words.{map_reverse}
use Rattle.type_states.proofs.Assigned.{compare_begun, second_on, second_failed, none_left, first_on, first_failed, over_none, over_some}
use Rattle.type_states.proofs.accepting.listed_accept.Goals as goal

turned : (h : Known) (types : List VTypeRef) (ofs : List VType) → are_words_assignable h (reverse (map type_seen types)) (reverse ofs) ≡ are_words_assignable h (map type_seen (reverse types)) (reverse ofs)
turned h types ofs = ap (λ (ts : List VType). are_words_assignable h ts (reverse ofs)) (map_reverse types)

listed_there : (pool : List Const) (listed : List VerificationType) (k : ℕ) (d : VerificationType) (t : VType) → t ≡ type_listed pool (get_or listed k d) → k < length listed → t ≡ get_or (types_listed pool listed) k vtype.Top
listed_there pool listed k d t is lt = is ∙ sym (get_or-map (type_listed pool) listed k d vtype.Top lt)

typed_there : (types : List VTypeRef) (k : ℕ) (d : VTypeRef) → k < length types → type_seen (get_or types k d) ≡ get_or (map type_seen types) k vtype.Top
typed_there types k d lt = sym (get_or-map type_seen types k d vtype.Top lt)

pub loop-count-init : goal.loop-count-init
loop-count-init c =
    compare_begun c.args.hierarchy.now (map type_seen c.args.types.now) (types_listed c.args.pool.now c.args.listed.now) (length c.args.types.now) (length c.args.listed.now)
    (sym (length-map c.args.types.now type_seen)) (sym (length-map c.args.listed.now (type_listed c.args.pool.now)))

pub returns-then-not-stands_for : goal.returns-then-not-stands_for
returns-then-not-stands_for c =
    let listed = c.loop-count.invariant.listed in
    let all = length-map c.args.listed.now (type_listed c.args.pool.now) in
    let lt : c.loop-count.count - 1 < length c.args.listed.now = omega arith in
    sym (second_failed c.args.hierarchy.now (map type_seen c.args.types.now) (types_listed c.args.pool.now c.args.listed.now) c.loop-count.left c.loop-count.count (c.loop-count.count - 1) c.loop-count.second _ vtype.Top
    c.loop-count.invariant c.loop-count-test.true refl (listed_there c.args.pool.now c.args.listed.now (c.loop-count.count - 1) _ _ c.type_ref-to.ensures lt) c.if-second.true
    (sym c.stands_for.ensures ∙ c.if-not-stands_for.true))
    ∙ turned c.args.hierarchy.now c.args.types.now (types_listed c.args.pool.now c.args.listed.now)

pub loop-count-preserved-then-second : goal.loop-count-preserved-then-second
loop-count-preserved-then-second c =
    let listed = c.loop-count.invariant.listed in
    let all = length-map c.args.listed.now (type_listed c.args.pool.now) in
    let lt : c.loop-count.count - 1 < length c.args.listed.now = omega arith in
    second_on c.args.hierarchy.now (map type_seen c.args.types.now) (types_listed c.args.pool.now c.args.listed.now) c.loop-count.left c.loop-count.count (c.loop-count.count - 1) c.loop-count.second _ vtype.Top
    c.loop-count.invariant c.loop-count-test.true refl (listed_there c.args.pool.now c.args.listed.now (c.loop-count.count - 1) _ _ c.type_ref-to.ensures lt) c.if-second.true
    (sym c.stands_for.ensures ∙ c.if-not-stands_for.false)

pub returns-then-left-eq0 : goal.returns-then-left-eq0
returns-then-left-eq0 c =
    let listed = c.loop-count.invariant.listed in
    let all = length-map c.args.listed.now (type_listed c.args.pool.now) in
    let lt : c.loop-count.count - 1 < length c.args.listed.now = omega arith in
    sym (none_left c.args.hierarchy.now (map type_seen c.args.types.now) (types_listed c.args.pool.now c.args.listed.now) c.loop-count.left c.loop-count.count (c.loop-count.count - 1) c.loop-count.second _ vtype.Top
    c.loop-count.invariant c.loop-count-test.true refl (listed_there c.args.pool.now c.args.listed.now (c.loop-count.count - 1) _ _ c.type_ref-to.ensures lt) c.if-second.false c.if-left-eq0.true)
    ∙ turned c.args.hierarchy.now c.args.types.now (types_listed c.args.pool.now c.args.listed.now)

pub returns-then-not-stands_for-2 : goal.returns-then-not-stands_for-2
returns-then-not-stands_for-2 c =
    let listed = c.loop-count.invariant.listed in
    let within = c.loop-count.invariant.within in
    let any = c.if-left-eq0.false in
    let all = length-map c.args.listed.now (type_listed c.args.pool.now) in
    let types = length-map c.args.types.now type_seen in
    let lt : c.loop-count.count - 1 < length c.args.listed.now = omega arith in
    let less : c.loop-count.left - 1 < length c.args.types.now = omega arith in
    sym (first_failed c.args.hierarchy.now (map type_seen c.args.types.now) (types_listed c.args.pool.now c.args.listed.now) c.loop-count.left c.loop-count.count (c.loop-count.count - 1) c.loop-count.second _ vtype.Top
    c.loop-count.invariant c.loop-count-test.true refl (listed_there c.args.pool.now c.args.listed.now (c.loop-count.count - 1) _ _ c.type_ref-to.ensures lt)
    (c.loop-count.left - 1) _ vtype.Top c.if-second.false c.if-left-eq0.false refl (typed_there c.args.types.now (c.loop-count.left - 1) _ less)
    (sym c.stands_for-else-second.ensures ∙ c.if-not-stands_for-2.true))
    ∙ turned c.args.hierarchy.now c.args.types.now (types_listed c.args.pool.now c.args.listed.now)

pub loop-count-preserved : goal.loop-count-preserved
loop-count-preserved c =
    let listed = c.loop-count.invariant.listed in
    let within = c.loop-count.invariant.within in
    let any = c.if-left-eq0.false in
    let all = length-map c.args.listed.now (type_listed c.args.pool.now) in
    let types = length-map c.args.types.now type_seen in
    let lt : c.loop-count.count - 1 < length c.args.listed.now = omega arith in
    let less : c.loop-count.left - 1 < length c.args.types.now = omega arith in
    first_on c.args.hierarchy.now (map type_seen c.args.types.now) (types_listed c.args.pool.now c.args.listed.now) c.loop-count.left c.loop-count.count (c.loop-count.count - 1) c.loop-count.second _ vtype.Top
    c.loop-count.invariant c.loop-count-test.true refl (listed_there c.args.pool.now c.args.listed.now (c.loop-count.count - 1) _ _ c.type_ref-to.ensures lt)
    (c.loop-count.left - 1) _ vtype.Top c.if-second.false c.if-left-eq0.false refl (typed_there c.args.types.now (c.loop-count.left - 1) _ less)
    c.is_cut-second.result (sym c.stands_for-else-second.ensures ∙ c.if-not-stands_for-2.false) c.is_cut-second.ensures

pub returns-then-left-eq0-2 : goal.returns-then-left-eq0-2
returns-then-left-eq0-2 c =
    let none : c.loop-count.count ≡ 0 = omega arith in
    over_none c.args.hierarchy.now (map type_seen c.args.types.now) (types_listed c.args.pool.now c.args.listed.now) c.loop-count.left c.loop-count.count c.loop-count.second c.loop-count.invariant none c.if-left-eq0-2.true
    ∙ turned c.args.hierarchy.now c.args.types.now (types_listed c.args.pool.now c.args.listed.now)

not_zero : (n : ℕ) → (n ≡ 0 → ⊥) → nat_eq n 0 ≡ false
not_zero n any = grind (arith, nat_tests)

pub returns-else-left-eq0-2 : goal.returns-else-left-eq0-2
returns-else-left-eq0-2 c =
    let none : c.loop-count.count ≡ 0 = omega arith in
    not_zero c.loop-count.left c.if-left-eq0-2.false
    ∙ over_some c.args.hierarchy.now (map type_seen c.args.types.now) (types_listed c.args.pool.now c.args.listed.now) c.loop-count.left c.loop-count.count c.loop-count.second c.loop-count.invariant none c.if-left-eq0-2.false
    ∙ turned c.args.hierarchy.now c.args.types.now (types_listed c.args.pool.now c.args.listed.now)
