-- After every schedule stacks are within their limits and monitors are counted.
use Rattle.std.proofs.Common.{◌≡◌, List, [], ◌∷◌, ◌++◌, Option, Some, None, Bool, true, false, subst}
use Rattle.std.specs.List.{IsDistinct, list_all}
use Rattle.ti_ids.specs.declared.actor.Actor.{Actor}
use Rattle.ti_ids.specs.declared.state.InitState.TheVariants as states
use Rattle.ti_codes.specs.declared.phase.Phase.{Phase}
use Rattle.ti_codes.specs.declared.phase.Phase.TheVariants as phases
use Rattle.base_set.specs.BaseSet.{base_set}
use Rattle.machine_state.specs.Core.{Core, has_ended}
use Rattle.machine_state.specs.Trace.{Died, Started, VMDeath, VMStart}
use Rattle.machine_state.specs.Acts.{Act, AddsClass, Changes, MarksDeath, Notes, SetsPhase, State, raises}
use Rattle.instruction_effect.proofs.ActRules.{CoreHolds, Follow}
use Rattle.instruction_effect.proofs.AllHold.{Anything, all_hold}
use Rattle.machine_steps.proofs.Following.{steps_follow}
use Rattle.machine_steps.proofs.MonitorTables.{has_table}
use Rattle.machine_steps.proofs.NextTakes.{next_takes}
use Rattle.machine_steps.proofs.OwnActs.{Always, follow_both, mapped_follow, performed_follow}
use Rattle.machine_steps.proofs.Seen.{core_after_schedule}
use Rattle.machine_steps.proofs.StepRules.{seen}
use Rattle.machine_steps.proofs.WithinSteps.{IsLimited, KeepsLimits, alike_limited, keeps_limits, step_rules}
use Rattle.machine_steps.specs.World.{World}
use Rattle.machine_steps.specs.Calls.{NextCall, performs}
use Rattle.machine_steps.specs.Actors.{adds_base, inits, live_acts, makes_first, next_acts, next_call, phase_acts, starts}
use Rattle.machine_steps.specs.Replay.{opening_core, state}
use Rattle.machine_steps.specs.Reachable.{CallsRecord}
use Rattle.machine_steps.specs.Sites.{classes_now}
use Rattle.machine_steps.specs.WithinLimits.{MonitorsAreCounted, MonitorsHaveTables, StacksAreWithin}

-- ---- the machine itself, and calls

starts_follow : Always KeepsLimits starts
starts_follow now =
    follow_both KeepsLimits now (adds_base ++ makes_first) (Changes (SetsPhase phases.Start) ∷ Notes Started ∷ raises VMStart ∷ [])
    (follow_both KeepsLimits now adds_base makes_first
    (mapped_follow KeepsLimits (λ c. Changes (AddsClass c.name states.Initialized)) base_set (λ n c. tt) now) (λ n. (tt, (tt, (tt, (tt, tt))))))
    (λ n. (tt, (tt, (tt, tt))))

-- what an answer gives keeps the limits, from every core on
abbrev Gives : Option (List Act) → Type 0
Gives next = (acts : List Act) → next ≡ Some acts → Always KeepsLimits acts

some_gives : (acts : List Act) → Always KeepsLimits acts → Gives (Some acts)
some_gives acts h other is = let same : acts ≡ other = cc in subst (Always KeepsLimits) same h

none_gives : Gives None
none_gives acts is = absurd cc

live_follows : (raised ended : Bool) → Gives (live_acts raised ended)
live_follows true ended = some_gives (Changes (SetsPhase phases.Dead) ∷ []) (λ now. (tt, tt))
live_follows false true = some_gives (Changes MarksDeath ∷ Notes Died ∷ raises VMDeath ∷ []) (λ now. (tt, (tt, (tt, tt))))
live_follows false false = none_gives

phase_follows : (core : Core) (phase : Phase) → Gives (phase_acts core phase)
phase_follows core phases.OnLoad = some_gives starts starts_follow
phase_follows core phases.Primordial = none_gives
phase_follows core phases.Start = some_gives inits (λ now. (tt, (tt, (tt, (tt, tt)))))
phase_follows core phases.Live = live_follows core.death_raised (list_all has_ended core.threads)
phase_follows core phases.Dead = none_gives

module _ (w : World) (records : CallsRecord w) where
  call_follows : (s : State) (actor : Actor) (c : NextCall) → next_call w s actor ≡ Some c → Follow KeepsLimits (seen s.core) (performs w s actor c)
  call_follows s actor c is =
      performed_follow KeepsLimits (λ now what. tt) w records s actor c
      (next_takes (λ c. (now : Core) → KeepsLimits now (Changes c)) (λ a now. tt) (λ e now. tt) w s actor c is) (seen s.core)

  step_follows : (s : State) (actor : Actor) (acts : List Act) → next_acts w s actor ≡ Some acts → Follow KeepsLimits (seen s.core) acts
  step_follows s actor acts is =
      steps_follow w KeepsLimits Anything s actor (step_rules w (classes_now w s)) (all_hold (seen s.core)) (call_follows s actor)
      (λ own from. phase_follows s.core s.core.phase own from (seen s.core)) acts is

  opening_limited : IsLimited (opening_core w.job)
  unfolding IsDistinct
  opening_limited = record { stacks = tt; monitors = record { counted = tt; differ = tt } }

  limited : (schedule : List Actor) → IsLimited (state w schedule).core
  limited schedule =
      core_after_schedule w (λ s. KeepsLimits) IsLimited (λ s. keeps_limits) alike_limited opening_limited
      (λ front actor acts inv is. step_follows (state w front) actor acts is) schedule

pub stacks_are_within : StacksAreWithin
stacks_are_within w schedule records = (let h = limited w records schedule in h.stacks)

pub monitors_are_counted : MonitorsAreCounted
monitors_are_counted w schedule records = (let h = limited w records schedule in h.monitors)

pub monitors_have_tables : MonitorsHaveTables
monitors_have_tables w schedule records = has_table (state w schedule).core (monitors_are_counted w schedule records)
