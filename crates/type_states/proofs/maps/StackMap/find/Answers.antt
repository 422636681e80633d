use Rattle.std.proofs.Common.{◌≡◌, ◌∙◌, ℕ, List, Option, length, ap, sym, subst, rules}
use Rattle.std.specs.Prelude.{◌==◌, ◌<◌, find, slice_get, IfSome}
use Rattle.std.specs.Option.{option_and_then}
use Rattle.std.specs.Result.{result_ok}
use Rattle.std.specs.Ordering.{nat_cmp}
use Rattle.std.specs.List.Sorted.{IsSearchInRange, IsBinarySearchResult}
use Rattle.std.proofs.lemmas.List.Sorted.{answers_always}
use Rattle.type_frames.specs.declared.frame.MapFrame.{MapFrame}
use Rattle.type_states.specs.declared.entry.Entry.{Entry}
use Rattle.type_states.specs.Maps.{frames_held}
use Rattle.type_states.proofs.Found.{held_is, held_within}
use Rattle.type_states.proofs.maps.StackMap.find.Goals as goal

pub returns-clause-found : goal.returns-clause-found
returns-clause-found c =
    let facts = c.binary_search_by_key.ensures in
    let by_key = facts.position (λ e. e.at) (answers_always _ _ _ (λ f a r g called. search rules)) in
    let m = c.self.inside in
    let back = c.deref.ensures.value in
    let bound = subst (λ (xs : List Entry). IsSearchInRange c.binary_search_by_key.result (length xs)) back facts.bound in
    let found = subst (λ (xs : List Entry). IsBinarySearchResult (λ e. nat_cmp e.at c.args.at) xs c.binary_search_by_key.result) back by_key in
    let held = held_is m.pool.now m.max_locals m.lists m.entries.items c.args.at c.binary_search_by_key.result c.self.invariant.rising bound found in
    let there = ap (λ (o : Option ℕ). option_and_then (λ (place : ℕ). slice_get c.args.self.now place) o) c.ok.ensures.value in
    there ∙ subst (λ (fs : List MapFrame). option_and_then (λ (place : ℕ). slice_get fs place) (result_ok c.binary_search_by_key.result) ≡ find (λ f. f.at == c.args.at) fs) c.self.view_is held

pub returns-clause-within : goal.returns-clause-within
returns-clause-within c =
    let m = c.self.inside in
    let back = c.deref.ensures.value in
    let bound = subst (λ (xs : List Entry). IsSearchInRange c.binary_search_by_key.result (length xs)) back c.binary_search_by_key.ensures.bound in
    subst (λ (fs : List MapFrame). IfSome c.ok.result (λ place. place < length fs)) c.self.view_is
    (subst (λ (o : Option ℕ). IfSome o (λ place. place < length (frames_held m.pool.now m.max_locals m.lists m.entries.items))) (sym c.ok.ensures.value)
    (held_within m.pool.now m.max_locals m.lists m.entries.items c.binary_search_by_key.result bound))
