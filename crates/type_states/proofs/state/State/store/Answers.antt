use Rattle.std.proofs.Common.{◌≡◌, ℕ, ◌+◌, ◌∙◌, List, map, reverse, Option, Some, sym, ap, arith}
use Rattle.std.specs.Vec.{with_items}
use Rattle.std.proofs.lemmas.List.{with_items_is}
use Rattle.ti_ids.specs.Maybe.{◌>>=◌}
use Rattle.type_frames.specs.declared.seen.VTypeRef.{VTypeRef}
use Rattle.type_frames.specs.declared.vtype.VType.{VType}
use Rattle.type_frames.specs.States.{State}
use Rattle.type_frames.specs.RulesOfLocals.{without_long_before}
use Rattle.type_frames.specs.Seen.{type_seen}
use Rattle.type_states.specs.Answers.{stored_in}
use Rattle.type_states.proofs.Stores.{long_stored, word_stored}
use Rattle.type_states.proofs.state.State.store.Goals as goal
use Rattle.type_states.proofs.state.State.store.Goals.{then-is_long, else-is_long}

pub returns-then-is_long-2-clause-leaves : goal.returns-then-is_long-2-clause-leaves
returns-then-is_long-2-clause-leaves c =
    let vec = c.self.inside.locals in
    let now = c.end_long_before.new.locals in
    let left : List VType → Option State = λ locals. Some (record { locals = locals; stack = map type_seen (reverse c.self.inside.stack.items); this_uninit = c.self.inside.this_uninit }) in
    let ended : map type_seen (with_items vec now).items ≡ without_long_before c.from-place.result (map type_seen vec.items) =
    ap (λ (types : List VTypeRef). map type_seen types) (with_items_is vec now (omega arith))
    ∙ c.end_long_before.ensures
    ∙ ap (λ (types : List VTypeRef). without_long_before c.from-place.result (map type_seen types)) c.as_mut_slice.ensures.value in
    let next : c.if-is_long.last ≡ c.from-place.result + 1 = elim c.if-is_long.branch [ then-is_long w ↦ w.last-is | else-is_long w ↦ absurd (cc (w.if-is_long.false)) ] in
    ap (λ (s : State). stored_in c.args.place (type_seen c.args.t) s) (sym c.self.view_is)
    ∙ ap (λ (place : ℕ). stored_in place (type_seen c.args.t) (record { locals = map type_seen vec.items; stack = map type_seen (reverse c.self.inside.stack.items); this_uninit = c.self.inside.this_uninit })) (sym c.from-place.ensures)
    ∙ ap (λ (o : Option (List VType)). o >>= left) (long_stored c.from-place.result c.if-is_long.last c.args.t vec.items (with_items vec now).items next (omega (arith, vec.ok.0)) (sym (c.if-is_long-2.ensures)) ended)

pub returns-else-is_long-2-clause-leaves : goal.returns-else-is_long-2-clause-leaves
returns-else-is_long-2-clause-leaves c =
    let vec = c.self.inside.locals in
    let now = c.end_long_before.new.locals in
    let left : List VType → Option State = λ locals. Some (record { locals = locals; stack = map type_seen (reverse c.self.inside.stack.items); this_uninit = c.self.inside.this_uninit }) in
    let ended : map type_seen (with_items vec now).items ≡ without_long_before c.from-place.result (map type_seen vec.items) =
    ap (λ (types : List VTypeRef). map type_seen types) (with_items_is vec now (omega arith))
    ∙ c.end_long_before.ensures
    ∙ ap (λ (types : List VTypeRef). without_long_before c.from-place.result (map type_seen types)) c.as_mut_slice.ensures.value in
    let here : c.if-is_long.last ≡ c.from-place.result = elim c.if-is_long.branch [ then-is_long w ↦ absurd (cc (w.if-is_long.true)) | else-is_long w ↦ w.last-is ] in
    ap (λ (s : State). stored_in c.args.place (type_seen c.args.t) s) (sym c.self.view_is)
    ∙ ap (λ (place : ℕ). stored_in place (type_seen c.args.t) (record { locals = map type_seen vec.items; stack = map type_seen (reverse c.self.inside.stack.items); this_uninit = c.self.inside.this_uninit })) (sym c.from-place.ensures)
    ∙ ap (λ (o : Option (List VType)). o >>= left) (word_stored c.from-place.result c.args.t vec.items (with_items vec now).items (omega (arith, vec.ok.0)) (sym (c.if-is_long-2.ensures)) ended)
