use Rattle.std.proofs.Common.{◌≡◌, ◌∙◌, sym, map, rules}
use Rattle.std.proofs.lemmas.List.{length-map}
use Rattle.type_frames.specs.Seen.{type_seen}
use Rattle.type_frames.specs.StackMaps.{filled}
use Rattle.type_states.specs.Lists.{list_at}
use Rattle.type_states.proofs.Assigned.{never_as_long, filled_length}
use Rattle.type_states.proofs.accepting.locals_accept.Goals as goal

pub returns-then-types-from : goal.returns-then-types-from
returns-then-types-from c =
    let all = length-map c.args.types.now type_seen in
    let from : c.from.result ≡ c.args.max_locals = search rules in
    let filled_all = filled_length c.args.max_locals (list_at c.args.lists.now c.args.place) c.requires.room in
    sym (never_as_long c.args.hierarchy.now (map type_seen c.args.types.now) (filled c.args.max_locals (list_at c.args.lists.now c.args.place)) (λ same. c.if-types-from.true (sym all ∙ same ∙ filled_all ∙ sym from)))
