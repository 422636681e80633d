-- The change that takes the next call of an actor takes one from a queue or from a script.
use Rattle.std.proofs.Common.{◌≡◌, Bool, true, false, cond, Option, Some, None, length, subst, ◌+◌}
use Rattle.std.specs.Prelude.{nat_le, option_map}
use Rattle.std.specs.Option.{option_or}
use Rattle.ti_ids.specs.Maybe.{◌>>=◌}
use Rattle.ti_ids.specs.declared.number.EnvNo.{EnvNo}
use Rattle.ti_ids.specs.declared.number.ThreadNo.{ThreadNo}
use Rattle.ti_ids.specs.declared.actor.Actor.{Actor}
use Rattle.ti_ids.specs.declared.actor.Actor.TheVariants.{Agent, Thread, Vm}
use Rattle.agent_types.specs.declared.agent.Agent as agent_type
use Rattle.agent_types.specs.declared.agent.ScriptCall.{ScriptCall}
use Rattle.agent_types.specs.declared.call.Call.{Call}
use Rattle.machine_state.specs.Jobs.{agent_at, at_number}
use Rattle.machine_state.specs.Core.{Pending, script_place}
use Rattle.machine_state.specs.Logs.{log}
use Rattle.machine_state.specs.Acts.{State, Change, TakesCall, TakesScript}
use Rattle.machine_steps.specs.World.{World}
use Rattle.machine_steps.specs.Calls.{NextCall, queued, queued_call, scripted, waiting_call}
use Rattle.machine_steps.specs.Actors.{agent_call, call_of_rule, may_script, next_call, script_call, when_logged}
use Rattle.machine_steps.specs.ThreadRules.{Performs, ThreadRule, next_rule}

module _ (P : Change → Type 0) where
  -- the change that takes such a next call
  abbrev pub Takes : Option NextCall → Type 0
  Takes next = (c : NextCall) → next ≡ Some c → P c.take

  module _ (queues : (actor : Actor) → P (TakesCall actor)) (scripts : (env : EnvNo) → P (TakesScript env)) where
    pub queued_takes : (actor : Actor) (p : Option Pending) → Takes (option_map (queued actor) p)
    queued_takes actor None c is = absurd cc
    queued_takes actor (Some p) c is = let same : queued actor p ≡ c = cc in subst (λ (x : NextCall). P x.take) same (queues actor)

    or_takes : (a b : Option NextCall) → Takes a → Takes b → Takes (option_or a b)
    or_takes None b h k = k
    or_takes (Some x) b h k = h

    if_takes : (b : Bool) (a : Option NextCall) → Takes a → Takes (cond b a None)
    if_takes true a h c is = h c is
    if_takes false a h c is = absurd cc

    scripted_takes : (env : EnvNo) (call : Call) → Takes (Some (scripted env call))
    scripted_takes env call c is = let same : scripted env call ≡ c = cc in subst (λ (x : NextCall). P x.take) same (scripts env)

    script_takes : (w : World) (s : State) (env : EnvNo) (call : Option ScriptCall) → Takes (call >>= when_logged w s env)
    script_takes w s env None c is = absurd cc
    script_takes w s env (Some call) c is =
        if_takes (nat_le call.at (length (log w.job s.trace env))) (Some (scripted env call.call)) (scripted_takes env call.call) c is

    pub agent_takes : (w : World) (s : State) (env : EnvNo) (agent : Option agent_type.Agent) → Takes (agent >>= agent_call w s env)
    agent_takes w s env None c is = absurd cc
    agent_takes w s env (Some agent) c is =
        if_takes (may_script s env) (option_or (queued_call s.core (Agent env)) (script_call w s env agent))
        (or_takes (queued_call s.core (Agent env)) (script_call w s env agent) (queued_takes (Agent env) (waiting_call s.core (Agent env)))
        (script_takes w s env (at_number agent.script (script_place s.core env + 1)))) c is

    rule_takes : (t : ThreadNo) (rule : Option ThreadRule) → Takes (rule >>= call_of_rule t)
    rule_takes t None c is = absurd cc
    rule_takes t (Some (Performs p)) c is = let same : queued (Thread t) p ≡ c = cc in subst (λ (x : NextCall). P x.take) same (queues (Thread t))
    rule_takes t (Some rule) c is = absurd cc

    -- of any actor
    pub next_takes : (w : World) (s : State) (actor : Actor) → Takes (next_call w s actor)
    next_takes w s Vm = queued_takes Vm (waiting_call s.core Vm)
    next_takes w s (Thread t) = rule_takes t (next_rule s t)
    next_takes w s (Agent env) = agent_takes w s env (agent_at w.job env)
