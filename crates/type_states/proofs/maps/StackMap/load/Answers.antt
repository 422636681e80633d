use Rattle.std.proofs.Common.{◌≡◌, ◌∙◌, sym, ap, length, map, rules}
use Rattle.std.specs.Vec.{with_items}
use Rattle.std.proofs.lemmas.List.{length-map, with_items_is}
use Rattle.type_frames.specs.States.{State}
use Rattle.type_frames.specs.Seen.{type_seen}
use Rattle.type_states.proofs.Loads.{room_there, entry_is, loaded_is, stack_counts}
use Rattle.type_states.proofs.maps.StackMap.load.Goals as goal

pub stack_of-requires : goal.stack_of-requires
stack_of-requires c =
    let m = c.self.inside in
    let is = entry_is m.pool.now m.max_locals m.max_stack m.lists m.entries.items c.args.self.now c.args.place c.index-entry.result.now c.self.view_is c.self.invariant c.requires.place c.index-entry.result.now c.index-entry.ensures in
    is.stack

pub set_locals-requires-clause-room : goal.set_locals-requires-clause-room
set_locals-requires-clause-room c =
    let m = c.self.inside in
    let is = entry_is m.pool.now m.max_locals m.max_stack m.lists m.entries.items c.args.self.now c.args.place c.index-entry.result.now c.self.view_is c.self.invariant c.requires.place c.index-entry.result.now c.index-entry.ensures in
    is.locals

pub set_locals-requires-clause-count : goal.set_locals-requires-clause-count
set_locals-requires-clause-count c =
    let m = c.self.inside in
    ap (λ ts. length ts) c.as_mut_slice.ensures.value ∙ sym (length-map c.state.inside.locals.items type_seen) ∙ ap (λ (s : State). length s.locals) c.state.view_is
    ∙ sym (room_there m.pool.now m.max_locals m.max_stack m.lists m.entries.items c.args.self.now c.args.place c.index-entry.result.now c.self.view_is c.self.invariant c.requires.place (length c.args.state.now.locals) c.requires.rooms)

pub invariant_of-state : goal.invariant_of-state
invariant_of-state c = stack_counts _ c.in_ok-stack.stack.items c.in_ok-stack.words c.in_ok-stack.ensures

pub returns-clause-loaded : goal.returns-clause-loaded
returns-clause-loaded c =
    let m = c.self.inside in
    let len : length c.set_locals.new.locals ≡ c.state.inside.locals.len = search rules in
    loaded_is m.pool.now m.max_locals m.max_stack m.lists m.entries.items c.args.self.now c.args.place c.index-entry.result.now c.self.view_is c.self.invariant c.requires.place c.index-entry.result.now c.index-entry.ensures
    (with_items c.state.inside.locals c.set_locals.new.locals).items c.in_ok-stack.stack.items c.in_ok-stack.words c.has_uninit_this-state-inside.result
    (ap (map type_seen) (with_items_is c.state.inside.locals c.set_locals.new.locals len) ∙ c.set_locals.ensures) c.in_ok-stack.ensures c.has_uninit_this-state-inside.ensures
