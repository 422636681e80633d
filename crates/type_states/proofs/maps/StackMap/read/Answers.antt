use Rattle.std.proofs.Common.{◌≡◌, ◌∙◌, ◌+◌, List, [], ◌∷◌, ◌++◌, Option, Some, sym, ap, subst, drop}
use Rattle.type_frames.specs.StackMaps.{frames_from}
use Rattle.type_states.specs.declared.entry.Entry.{Entry}
use Rattle.type_states.specs.Lists.{list_at}
use Rattle.type_states.specs.Maps.{frames_held, IsMap}
use Rattle.type_states.specs.Reading.{bounds_of, IsFound, IsLatest}
use Rattle.type_states.proofs.Mapping.{with_all}
use Rattle.type_states.proofs.Steps.{map_next, latest_next, frames_next, rooms_of}
use Rattle.type_states.proofs.maps.StackMap.read.Goals as goal

pub loop-place-preserved : goal.loop-place-preserved
loop-place-preserved c =
    let old = c.loop-place.lists in
    let new = c.entry_after.new.lists in
    let found = c.loop-place.found.items in
    let x = c.in-Some.next in
    let so_far = c.loop-place.invariant in
    let is : IsFound (bounds_of c.args.bounds) c.loop-place.last (list_at old c.loop-place.before) c.index-entries-place.result old new (Some x) =
    subst (λ (o : Option Entry). IsFound (bounds_of c.args.bounds) c.loop-place.last (list_at old c.loop-place.before) c.index-entries-place.result old new o) c.in-Some.is c.in_ok-next.ensures in
    let items : c.keep.new.entries.items ≡ found ++ x ∷ [] = c.in_ok-keep.ensures in
    record {
      listed = is.within.listed;
      is_map = subst (λ (xs : List Entry). IsMap c.args.bounds.pool.now c.args.bounds.max_locals c.args.bounds.max_stack new xs) (sym items)
          (map_next (bounds_of c.args.bounds) c.args.entries.now old new found c.loop-place.place c.loop-place.before c.loop-place.last x c.index-entries-place.result
          c.loop-place-test.true c.index-entries-place.is so_far.is_map so_far.latest is);
      latest = subst (λ (xs : List Entry). IsLatest (Some x.at) xs) (sym items) (latest_next c.loop-place.last found x c.index-entries-place.result so_far.latest is.at);
      so_far = ap (λ (xs : List Entry). with_all (frames_held c.args.bounds.pool.now c.args.bounds.max_locals new xs)
          (frames_from (bounds_of c.args.bounds) (c.loop-place.place + 1) (Some x.at) (list_at new x.locals) (drop (c.loop-place.place + 1) c.args.entries.now))) items
          ∙ frames_next (bounds_of c.args.bounds) c.args.entries.now old new found c.loop-place.place c.loop-place.before c.loop-place.last x c.index-entries-place.result
          c.loop-place-test.true c.index-entries-place.is so_far.is_map so_far.latest is
          ∙ so_far.so_far;
    }

pub returns-clause-rooms : goal.returns-clause-rooms
returns-clause-rooms c = rooms_of _ _ _ _ _ c.loop-place.invariant.is_map
