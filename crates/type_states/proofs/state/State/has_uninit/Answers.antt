use Rattle.std.proofs.Common.{◌∙◌, ap, rules, tests}
use Rattle.std.specs.List.{list_any}
use Rattle.std.proofs.lemmas.Iterator.{YieldsList-from_slice}
use Rattle.std.proofs.lemmas.Iterator.Search.{any_from_yields_List}
use Rattle.type_frames.specs.declared.seen.VTypeRef.{VTypeRef}
use Rattle.type_frames.specs.States.{State}
use Rattle.type_frames.specs.RulesOfFields.{is_uninit_at as uninit_at}
use Rattle.type_frames.specs.Seen.{type_seen}
use Rattle.type_states.proofs.Changes.{any_held}
use Rattle.type_states.proofs.state.State.has_uninit.Goals as goal

pub returns : goal.returns
returns c =
    let test = uninit_at c.args.at in
    any_from_yields_List (λ (t : VTypeRef). test (type_seen t)) _ _ _ c.any.ensures.ran (YieldsList-from_slice c.self.inside.stack.items cc) (λ x b q k. search (rules, tests))
    ∙ any_held test c.self.inside.stack.items
    ∙ ap (λ (s : State). list_any test s.stack) c.self.view_is
