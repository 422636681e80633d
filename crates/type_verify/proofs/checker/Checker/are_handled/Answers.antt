use Rattle.std.proofs.Common.{◌≡◌, ◌<◌, true, false, length, get_or, take, subst, sym, ap₂, ◌∙◌, arith}
use Rattle.std.specs.Prelude.{◌&&◌}
use Rattle.std.specs.List.{list_all}
use Rattle.std.proofs.lemmas.List.Folds.{list_all_more, list_all_at}
use Rattle.std.proofs.lemmas.List.{take_all}
use Rattle.type_handlers.specs.Coverage.{passes_at, CoversAt}
use Rattle.type_handlers.proofs.Places.{list_all-covering, passes_at-get_or}
use Rattle.type_frames.specs.TypeChecks.{is_handled}
use Rattle.type_verify.specs.Checkers.{checked_of}
use Rattle.type_verify.proofs.checker.Checker.are_handled.Goals as goal

pub returns-then-not-handles : goal.returns-then-not-handles
returns-then-not-handles c = λ at reached.
    let test = is_handled (checked_of c.args.self.now) c.args.state.now in
    let handlers = c.args.covering.now.handlers in
    let places = c.places-place-items.result.now in
    let covers : CoversAt handlers places at = rw reached at c.places-place-items.ensures.covering in
    let law = list_all-covering handlers places at test covers in
    let here = passes_at-get_or handlers test (get_or places c.loop-place.place-index 0) (record { start = 0; end = 0; target = 0; catch_type = 0 }) (c.places-place-items.ensures.within _ 0 c.loop-place-test.true) in
    let fails : passes_at handlers test (get_or places c.loop-place.place-index 0) ≡ false = here ∙ rw (← c.handlers-handlers.ensures) (sym c.handles.ensures ∙ c.if-not-handles.true) in
    let all : list_all test c.args.self.now.handlers.now ≡ list_all test c.args.self.now.handlers.now = λ i. list_all test c.args.self.now.handlers.now in
    rw (← c.requires) (sym (list_all_at (passes_at handlers test) places c.loop-place.place-index 0 c.loop-place-test.true fails) ∙ law)

pub loop-place-preserved : goal.loop-place-preserved
loop-place-preserved c =
    let test = is_handled (checked_of c.args.self.now) c.args.state.now in
    let handlers = c.handlers-handlers.result.now in
    let places = c.places-place-items.result.now in
    let within : get_or places c.loop-place.place-index 0 < length handlers = rw c.handlers-handlers.ensures (c.places-place-items.ensures.within _ 0 c.loop-place-test.true) in
    let here = passes_at-get_or handlers test (get_or places c.loop-place.place-index 0) (record { start = 0; end = 0; target = 0; catch_type = 0 }) within in
    list_all_more (passes_at handlers test) places c.loop-place.place-index 0 c.loop-place-test.true
    ∙ ap₂ ◌&&◌ c.loop-place.invariant (here ∙ sym c.handles.ensures ∙ c.if-not-handles.false)

pub returns : goal.returns
returns c = λ at reached.
    let test = is_handled (checked_of c.args.self.now) c.args.state.now in
    let handlers = c.args.covering.now.handlers in
    let places = c.places-place-items.result.now in
    let covers : CoversAt handlers places at = rw reached at c.places-place-items.ensures.covering in
    let law = list_all-covering handlers places at test covers in
    let all : take c.loop-place.place-index places ≡ places = take_all c.loop-place.place-index places (omega arith) in
    let done : list_all (passes_at handlers test) places ≡ true =
    rw (← c.handlers-handlers.ensures) (subst (λ l. list_all (passes_at c.handlers-handlers.result.now test) l ≡ true) all c.loop-place.invariant) in
    rw (← c.requires) (sym done ∙ law)
