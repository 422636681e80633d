use Rattle.std.proofs.Common.{◌∙◌, ap, length}
use Rattle.std.proofs.lemmas.List.{length-map}
use Rattle.type_frames.specs.States.{State, held}
use Rattle.type_frames.specs.Seen.{type_seen}
use Rattle.type_states.specs.Maps.{frame_held}
use Rattle.type_states.proofs.Given.{rooms_given, offset_given, frame_given, given_so}
use Rattle.type_states.proofs.maps.StackMap.frame.Goals as goal

pub load-requires-clause-rooms : goal.load-requires-clause-rooms
load-requires-clause-rooms c =
    let m = c.self.inside in
    rooms_given m.pool.now m.max_locals m.max_stack m.lists m.entries.items c.args.self.now c.self.view_is c.self.invariant (length c.new-state.result.locals)
    (ap (λ (s : State). length s.locals) c.new-state.ensures ∙ length-map c.in_ok-tops.field-0.items type_seen ∙ c.in_ok-tops.ensures)

pub returns : goal.returns
returns c =
    let m = c.self.inside in
    let x = c.index-entry.result.now in
    let at = offset_given m.pool.now m.max_locals m.lists m.entries.items c.args.self.now c.args.place x c.self.view_is c.requires c.index-entry.ensures in
    let d = frame_held m.pool.now m.max_locals m.lists x in
    given_so c.held_in.result _ (held x.at c.load.new.state) c.held_in.ensures
    (frame_given c.args.self.now c.args.place c.load.new.state x.at d c.in_ok-load.ensures.loaded c.requires at)
