-- A machine that has made one step more.
use Rattle.std.proofs.Common.{◌≡◌, ◌∙◌, ◌≤◌, ◌<◌, ℕ, zero, suc, List, [], ◌∷◌, ◌++◌, length, Option, Some, None, Bool, true, false, cond, refl, ap, arith, length-append}
use Rattle.std.specs.Prelude.{slice_get, is_some, is_none, IsTrue}
use Rattle.std.proofs.lemmas.Option.{slice_get_within}
use Rattle.ti_ids.specs.declared.actor.Actor.{Actor}
use Rattle.ti_ids.specs.declared.actor.Actor.TheVariants.{Vm, Thread, Agent}
use Rattle.ti_ids.specs.Maybe.{◌>>=◌}
use Rattle.report_text.specs.Named.{IsNamed, AllNamed}
use Rattle.machine_model.specs.declared.ThreadRule.{ThreadRule}
use Rattle.machine_model.specs.Jobs.{Job}
use Rattle.machine_model.specs.Core as core
use Rattle.machine_model.specs.Rules.{State, end, is_enabled, is_live, is_ready, ready_thread, ruled}
use Rattle.machine_model.specs.Replay.{opening, step, state}
use Rattle.machine_model.proofs.Replays.{run_more, runs_more, ready_counts, and_true, step_left}
use Rattle.machine_core.specs.declared.parts.Parts.{Parts}
use Rattle.machine_core.specs.Stands.{StandsFor}
use Rattle.machine_core.specs.Keeps.{Keeps}

named_more : (schedule : List Actor) (a : Actor) → AllNamed schedule → IsNamed a → AllNamed (schedule ++ a ∷ [])
named_more [] a h k = (k, tt)
named_more (b ∷ schedule) a h k = (h.0, named_more schedule a h.1 k)

there : (b : Bool) (x : Option core.Thread) (f : core.Thread → Option (core.Thread × ThreadRule)) → is_some (cond b (x >>= f) None) ≡ true → (u : core.Thread) × (x ≡ Some u)
there false x f e = absurd cc
there true None f e = absurd cc
there true (Some u) f e = (u, refl)

-- a thread that is ready has a number from 1
ready_number : (job : Job) (c : core.Core) (n : ℕ) → is_some (ready_thread job c n) ≡ true → (0 < n) × (n ≤ length c.threads)
ready_number job c zero e = absurd (let k = there (is_live c.phase) None (ruled job c) e in let never = k.1 in cc)
ready_number job c (suc n) e = let k = there (is_live c.phase) (slice_get c.threads n) (ruled job c) e in let lt = slice_get_within c.threads n k.0 k.1 in (omega arith, omega arith)

ready_named : (job : Job) (c : core.Core) (a : Actor) → length c.threads ≤ 64 → is_ready job c a ≡ true → IsNamed a
ready_named job c Vm few e = tt
ready_named job c (Thread t) few e = let k = ready_number job c t.0 e in (k.0, omega (arith, k.1))
ready_named job c (Agent n) few e = absurd cc

is_true : {b : Bool} → b ≡ true → IsTrue b
is_true e = grind arith

pub keeps_step : (job : Job) (schedule : List Actor) (p q : Parts) (actor : Actor) (spent : Bool) → Keeps job schedule p spent → spent ≡ false → ((s : State) → StandsFor job p s → StandsFor job q (step job s actor))
    → is_enabled job (state job schedule) actor ≡ true → Keeps job (schedule ++ actor ∷ []) q spent
keeps_step job schedule p q actor spent k fresh goes may =
    let s = state job schedule in
    let b = and_true (is_none (end job s)) (is_ready job s.core actor) may in
    let more : state job (schedule ++ actor ∷ []) ≡ step job s actor = run_more job opening schedule actor in
    let left : s.steps < job.limits.steps = step_left job s b.0 in
    let h = k.stands fresh in record {
      stands = λ e. rw more (goes s h);
      known = k.known;
      runs = runs_more job opening schedule actor k.runs (is_true may);
      steps = ap (λ (w : State). w.steps) more ∙ ready_counts job s actor b.1 ∙ omega (arith, k.steps, length-append schedule (actor ∷ []));
      few = omega (arith, k.steps, left, length-append schedule (actor ∷ []));
      named = named_more schedule actor k.named (ready_named job s.core actor h.crowd b.1);
    }
