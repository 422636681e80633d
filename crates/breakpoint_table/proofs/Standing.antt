-- What changes say of breakpoints and watches.
use Rattle.std.proofs.Common.{◌≡◌, Bool, true, false, Some, None, refl}
use Rattle.std.specs.Prelude.{◌&&◌, if◌then◌else◌}
use Rattle.std.proofs.lemmas.Bool.{and_from, eq-eqb}
use Rattle.ti_codes.specs.Events.{event_number, is_same_event}
use Rattle.change_list.proofs.Changes.{last_decides, none_speaks}
use Rattle.breakpoint_table.specs.Breakpoints.{Sets, Clears, ClearsClass, breakpoint_said}
use Rattle.breakpoint_table.specs.Watches.{watch_said}
use Rattle.breakpoint_table.specs.Laws.{BreakpointsAsSet, WatchesAsSet, NoneWatched}

said_if : (b said : Bool) → b ≡ true → (if b then Some said else None) ≡ Some said
said_if true said e = refl
said_if false said e = absurd cc

pub breakpoints_as_set : {P C : Type 0} → BreakpointsAsSet P C
breakpoints_as_set = record {
  set = λ same is_in place before after itself silent.
      last_decides (breakpoint_said same is_in place) false true before after (Sets place) (said_if (same place place) true itself) silent;
  cleared = λ same is_in place before after itself silent.
      last_decides (breakpoint_said same is_in place) false false before after (Clears place) (said_if (same place place) false itself) silent;
  class_cleared = λ same is_in place class before after has silent.
      last_decides (breakpoint_said same is_in place) false false before after (ClearsClass class) (said_if (is_in class place) false has) silent;
  unset = λ same is_in place changes silent. none_speaks (breakpoint_said same is_in place) false changes silent;
}

pub watches_as_set : {F : Type 0} → WatchesAsSet F
watches_as_set same field kind on before after itself silent =
    let own = and_from (same field field) (is_same_event kind kind) itself (eq-eqb (event_number kind) (event_number kind) refl) in
    last_decides (watch_said same field kind) false on before after (record { field = field; kind = kind; on = on })
    (said_if (same field field && is_same_event kind kind) on own) silent

pub none_watched : {F : Type 0} → NoneWatched F
none_watched same field kind changes silent = none_speaks (watch_said same field kind) false changes silent
