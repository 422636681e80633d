-- A thread that is ready by a rule.
use Rattle.std.proofs.Common.{◌≡◌, ℕ, suc, List, [], ◌∷◌, Option, Some, None, Bool, true, false, cond, refl, sym, ap}
use Rattle.std.specs.Prelude.{option_map, slice_get, is_some}
use Rattle.ti_ids.specs.declared.actor.Actor.TheVariants as actors
use Rattle.ti_ids.specs.declared.state.ThreadState.{ThreadState}
use Rattle.ti_ids.specs.declared.state.ThreadState.TheVariants.{Unbegun, Entering, Running, Ended}
use Rattle.ti_ids.specs.declared.state.InitState.{InitState}
use Rattle.ti_ids.specs.declared.state.InitState.TheVariants as states
use Rattle.ti_ids.specs.Maybe.{◌>>=◌}
use Rattle.machine_model.specs.declared.ThreadRule.{ThreadRule}
use Rattle.machine_model.specs.declared.ThreadRule.TheVariants as rules
use Rattle.machine_model.specs.Jobs.{Job}
use Rattle.machine_model.specs.Core as core
use Rattle.machine_model.specs.Core.{JavaFrame, Java, Init, class_state}
use Rattle.machine_model.specs.Rules.{State, is_live, entry_rule, rule_for, thread_rule, ready_thread}
use Rattle.machine_model.specs.Changes.{thread_change}
use Rattle.machine_model.specs.Replay.{step, stepped, thread_step}
use Rattle.machine_core.specs.Stands.{RuleIs}

abbrev Ruled : Type 0
Ruled = core.Thread × ThreadRule

abbrev second : Ruled → ThreadRule
second r = r.1

pub record IsReady (job : Job) (s : State) (n : ℕ) (u : core.Thread) (rule : ThreadRule) : Type 0 where
  pub there : slice_get s.core.threads n ≡ Some u
  pub live : is_live s.core.phase ≡ true
  pub rule_is : thread_rule job s.core u ≡ Some rule
  pub step_is : step job s (actors.Thread (record { 0 = suc n })) ≡ stepped s (actors.Thread (record { 0 = suc n })) (thread_change job s (suc n) u rule)

abbrev with_thread : core.Thread → Option ThreadRule → Option Ruled
with_thread u q = option_map (λ r. let p : Ruled = (u, r) in p) q

split_rule : (rule : ThreadRule) (u : core.Thread) (q : Option ThreadRule) → option_map second (with_thread u q) ≡ Some rule → (q ≡ Some rule) × (with_thread u q ≡ Some (let p : Ruled = (u, rule) in p))
split_rule rule u None e = absurd cc
split_rule rule u (Some r) e =
    let same : r ≡ rule = cc in (ap (λ (k : ThreadRule). Some k) same, ap (λ (k : ThreadRule). Some (let p : Ruled = (u, k) in p)) same)

record Split (rule : ThreadRule) (b : Bool) (x : Option core.Thread) (f : core.Thread → Option ThreadRule) (u : core.Thread) : Type 0 where
  live : b ≡ true
  there : x ≡ Some u
  rule_is : f u ≡ Some rule
  whole : cond b (x >>= (λ v. with_thread v (f v))) None ≡ Some (let p : Ruled = (u, rule) in p)

split : (rule : ThreadRule) (b : Bool) (x : Option core.Thread) (f : core.Thread → Option ThreadRule) → option_map second (cond b (x >>= (λ v. with_thread v (f v))) None) ≡ Some rule → (u : core.Thread) × Split rule b x f u
split rule false x f e = absurd cc
split rule true None f e = absurd cc
split rule true (Some u) f e = let k = split_rule rule u (f u) e in (u, record { live = refl; there = refl; rule_is = k.0; whole = k.1 })

pub ready_of : (job : Job) (s : State) (n : ℕ) (rule : ThreadRule) → RuleIs (Some rule) (ready_thread job s.core (suc n)) → (u : core.Thread) × IsReady job s n u rule
ready_of job s n rule is =
    let k = split rule (is_live s.core.phase) (slice_get s.core.threads n) (thread_rule job s.core) is in
    (k.0, record { there = k.1.there; live = k.1.live; rule_is = k.1.rule_is; step_is = ap (thread_step job s (record { 0 = suc n })) k.1.whole })

-- ---- what the rules tell

-- what main needs, or its entry, comes of a thread with no frame
pub entry_told : (a : ThreadState) (frames : List core.Frame) (x : Option InitState) (rule : ThreadRule) → rule_for a frames (entry_rule x) ≡ Some rule
    → (rule ≡ rules.Begin → ⊥) → (rule ≡ rules.EndInit → ⊥) → (rule ≡ rules.Execute → ⊥) → (rule ≡ rules.Finish → ⊥) → (frames ≡ []) × (entry_rule x ≡ rule)
entry_told Unbegun frames x rule is b i e f = absurd (b (let k : rules.Begin ≡ rule = cc in sym k))
entry_told Ended frames x rule is b i e f = absurd cc
entry_told Entering [] x rule is b i e f = (refl, cc)
entry_told Entering (Java g ∷ frames) x rule is b i e f = absurd (e (let k : rules.Execute ≡ rule = cc in sym k))
entry_told Entering (Init n p ∷ frames) x rule is b i e f = absurd (i (let k : rules.EndInit ≡ rule = cc in sym k))
entry_told Running [] x rule is b i e f = absurd (f (let k : rules.Finish ≡ rule = cc in sym k))
entry_told Running (Java g ∷ frames) x rule is b i e f = absurd (e (let k : rules.Execute ≡ rule = cc in sym k))
entry_told Running (Init n p ∷ frames) x rule is b i e f = absurd (i (let k : rules.EndInit ≡ rule = cc in sym k))

pub load_told : (x : Option InitState) → entry_rule x ≡ rules.Load → x ≡ None
load_told None e = refl
load_told (Some states.Loaded) e = absurd cc
load_told (Some states.Linked) e = absurd cc
load_told (Some (states.InProgress t)) e = absurd cc
load_told (Some states.Initialized) e = absurd cc
load_told (Some states.Erroneous) e = absurd cc

pub some_told : (x : Option InitState) (r : ThreadRule) → entry_rule x ≡ r → (r ≡ rules.Load → ⊥) → is_some x ≡ true
some_told None r e not = absurd (not (sym e))
some_told (Some old) r e not = refl

entry_never : (x : Option InitState) (r : ThreadRule) → entry_rule x ≡ r → (r ≡ rules.EndInit → ⊥) × (r ≡ rules.Execute → ⊥)
entry_never None r e = (λ k. absurd cc, λ k. absurd cc)
entry_never (Some states.Loaded) r e = (λ k. absurd cc, λ k. absurd cc)
entry_never (Some states.Linked) r e = (λ k. absurd cc, λ k. absurd cc)
entry_never (Some (states.InProgress t)) r e = (λ k. absurd cc, λ k. absurd cc)
entry_never (Some states.Initialized) r e = (λ k. absurd cc, λ k. absurd cc)
entry_never (Some states.Erroneous) r e = (λ k. absurd cc, λ k. absurd cc)

pub init_told : (a : ThreadState) (frames : List core.Frame) (x : Option InitState) → rule_for a frames (entry_rule x) ≡ Some rules.EndInit → (n : List ℕ) × (place : ℕ) × (below : List core.Frame) × (frames ≡ Init n place ∷ below)
init_told Unbegun frames x is = absurd cc
init_told Ended frames x is = absurd cc
init_told Entering [] x is = let k : entry_rule x ≡ rules.EndInit = cc in absurd ((entry_never x rules.EndInit k).0 refl)
init_told Entering (Java f ∷ frames) x is = absurd cc
init_told Entering (Init n p ∷ frames) x is = (n, p, frames, refl)
init_told Running [] x is = absurd cc
init_told Running (Java f ∷ frames) x is = absurd cc
init_told Running (Init n p ∷ frames) x is = (n, p, frames, refl)

pub execute_told : (a : ThreadState) (frames : List core.Frame) (x : Option InitState) → rule_for a frames (entry_rule x) ≡ Some rules.Execute → (f : JavaFrame) × (below : List core.Frame) × (frames ≡ Java f ∷ below)
execute_told Unbegun frames x is = absurd cc
execute_told Ended frames x is = absurd cc
execute_told Entering [] x is = let k : entry_rule x ≡ rules.Execute = cc in absurd ((entry_never x rules.Execute k).1 refl)
execute_told Entering (Java f ∷ frames) x is = (f, frames, refl)
execute_told Entering (Init n p ∷ frames) x is = absurd cc
execute_told Running [] x is = absurd cc
execute_told Running (Java f ∷ frames) x is = (f, frames, refl)
execute_told Running (Init n p ∷ frames) x is = absurd cc
