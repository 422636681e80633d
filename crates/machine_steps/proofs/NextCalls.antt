-- The next call of an actor is what its next step performs.
use Rattle.std.proofs.Common.{◌≡◌, List, Option, Some, None, ap}
use Rattle.std.specs.Prelude.{option_map}
use Rattle.ti_ids.specs.Maybe.{◌>>=◌}
use Rattle.ti_ids.specs.declared.number.ThreadNo.{ThreadNo}
use Rattle.ti_ids.specs.declared.actor.Actor.TheVariants as actors
use Rattle.link_versions.specs.Classes.{Class}
use Rattle.machine_state.specs.Core.{Thread, thread_at}
use Rattle.machine_state.specs.Acts.{State}
use Rattle.machine_steps.specs.World.{World}
use Rattle.machine_steps.specs.Sites.{classes_now}
use Rattle.machine_steps.specs.Calls.{NextCall, queued, performs}
use Rattle.machine_steps.specs.ThreadRules.{ThreadRule, Performs, Begins, Unwinds, Wakes, Joins, Stays, Initializes, Executes, EntersMethod, Ends, rule_of}
use Rattle.machine_steps.specs.Threads.{rule_acts, thread_acts_of}
use Rattle.machine_steps.specs.Actors.{call_of_rule, machine_acts}
use Rattle.machine_steps.specs.Laws.{PerformsNextCall}

same_call : (c d : NextCall) → Some c ≡ Some d → c ≡ d
same_call c d e = cc

module _ (w : World) (s : State) (classes : List Class) (t : ThreadNo) (c : NextCall) where
  by_rule : (thread : Thread) (rule : ThreadRule) → call_of_rule t rule ≡ Some c
      → rule_acts w s classes t thread rule ≡ Some (performs w s (actors.Thread t) c)
  by_rule thread (Performs p) e =
      ap (λ (x : NextCall). Some (performs w s (actors.Thread t) x)) (same_call (queued (actors.Thread t) p) c e)
  by_rule thread Begins e = absurd cc
  by_rule thread (Unwinds o f) e = absurd cc
  by_rule thread (Wakes object) e = absurd cc
  by_rule thread (Joins of) e = absurd cc
  by_rule thread (Stays object) e = absurd cc
  by_rule thread (Initializes n) e = absurd cc
  by_rule thread (Executes f) e = absurd cc
  by_rule thread EntersMethod e = absurd cc
  by_rule thread Ends e = absurd cc

  if_rule : (thread : Thread) (rule : Option ThreadRule) → (rule >>= call_of_rule t) ≡ Some c
      → (rule >>= rule_acts w s classes t thread) ≡ Some (performs w s (actors.Thread t) c)
  if_rule thread None e = absurd cc
  if_rule thread (Some rule) e = by_rule thread rule e

  if_thread : (thread : Option Thread) → ((thread >>= rule_of s t) >>= call_of_rule t) ≡ Some c
      → (thread >>= thread_acts_of w s classes t) ≡ Some (performs w s (actors.Thread t) c)
  if_thread None e = absurd cc
  if_thread (Some thread) e = if_rule thread (rule_of s t thread) e

pub performs_next_call : PerformsNextCall
performs_next_call w s actors.Vm c e = ap (machine_acts w s) e
performs_next_call w s (actors.Thread t) c e = if_thread w s (classes_now w s) t c (thread_at s.core t) e
performs_next_call w s (actors.Agent env) c e = ap (λ (next : Option NextCall). option_map (performs w s (actors.Agent env)) next) e
