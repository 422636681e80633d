use Rattle.std.proofs.Common.{◌≡◌, ◌∙◌, Bool, List, map, reverse, length, sym, ap, arith}
use Rattle.std.specs.Prelude.{not, ◌&&◌}
use Rattle.std.specs.Vec.{with_items}
use Rattle.std.proofs.lemmas.List.{with_items_is}
use Rattle.type_frames.specs.declared.seen.VTypeRef.{VTypeRef}
use Rattle.type_frames.specs.declared.vtype.VType.{VType}
use Rattle.type_frames.specs.declared.vtype.VType.TheVariants as vtype
use Rattle.type_frames.specs.Types.{expanded, is_uninit_this}
use Rattle.type_frames.specs.States.{State}
use Rattle.type_frames.specs.RulesOfCalls.{with_initialized, replaced}
use Rattle.type_frames.specs.Seen.{name_seen, type_seen}
use Rattle.type_states.proofs.Changes.{changed_stack, replaced_words}
use Rattle.type_states.proofs.state.State.initialize.Goals as goal
use Rattle.type_states.proofs.state.State.initialize.Goals.{then-self, else-self}

pub invariant_of-self : goal.invariant_of-self
invariant_of-self c =
    let name = name_seen c.args.class in
    let uninit = type_seen c.args.uninit in
    let vec = c.self.inside.stack in
    let now = c.replace-2.new.types in
    let changed : map type_seen (with_items vec now).items ≡ map (replaced uninit (vtype.Object name)) (map type_seen vec.items) =
    ap (λ (types : List VTypeRef). map type_seen types) (with_items_is vec now (omega arith))
    ∙ c.replace-2.ensures
    ∙ ap (λ (types : List VTypeRef). map (replaced uninit (vtype.Object name)) (map type_seen types)) c.as_mut_slice-2.ensures.value in
    let words : length (expanded (map type_seen (reverse (with_items vec now).items))) ≡ length (expanded (map type_seen (reverse vec.items))) =
    ap (λ (types : List VType). length (expanded types)) (changed_stack (replaced uninit (vtype.Object name)) vec.items (with_items vec now).items changed)
    ∙ replaced_words name uninit (map type_seen (reverse vec.items)) in
    (c.self.invariant.0 ∙ sym words, c.self.invariant.1)

pub returns : goal.returns
returns c =
    let uninit = type_seen c.args.uninit in
    let object = vtype.Object (name_seen c.args.class) in
    let f : VType → VType = replaced uninit object in
    let vec = c.self.inside.stack in
    let now = c.replace-2.new.types in
    let local_vec = c.self.inside.locals in
    let local_now = c.replace.new.types in
    let state : List VType → List VType → Bool → State = λ locals stack this_uninit. record { locals = locals; stack = stack; this_uninit = this_uninit } in
    let locals : map type_seen (with_items local_vec local_now).items ≡ map f (map type_seen local_vec.items) =
    ap (λ (types : List VTypeRef). map type_seen types) (with_items_is local_vec local_now (omega arith))
    ∙ c.replace.ensures
    ∙ ap (λ (types : List VTypeRef). map f (map type_seen types)) c.as_mut_slice.ensures.value in
    let changed : map type_seen (with_items vec now).items ≡ map f (map type_seen vec.items) =
    ap (λ (types : List VTypeRef). map type_seen types) (with_items_is vec now (omega arith))
    ∙ c.replace-2.ensures
    ∙ ap (λ (types : List VTypeRef). map f (map type_seen types)) c.as_mut_slice-2.ensures.value in
    let stack : map type_seen (reverse (with_items vec now).items) ≡ map f (map type_seen (reverse vec.items)) = changed_stack f vec.items (with_items vec now).items changed in
    let this_uninit : c.if-self.self ≡ (c.self.inside.this_uninit && not (is_uninit_this uninit)) =
    elim c.if-self.branch [
      | then-self w ↦ w.self-is ∙ ap not w.is_uninit_this.ensures ∙ ap (λ (b : Bool). b && not (is_uninit_this uninit)) (sym w.if-self.true)
      | else-self w ↦ w.self-is ∙ w.if-self.false ∙ ap (λ (b : Bool). b && not (is_uninit_this uninit)) (sym w.if-self.false)
    ] in
    ap (λ (types : List VType). state types (map type_seen (reverse (with_items vec now).items)) c.if-self.self) locals
    ∙ ap (λ (types : List VType). state (map f (map type_seen local_vec.items)) types c.if-self.self) stack
    ∙ ap (λ (b : Bool). state (map f (map type_seen local_vec.items)) (map f (map type_seen (reverse vec.items))) b) this_uninit
    ∙ ap (λ (s : State). with_initialized uninit object s) c.self.view_is
