-- The rules that are seen from the parts are those of the state.
use Rattle.std.proofs.Common.{◌≡◌, ◌∙◌, ◌+◌, ◌<◌, ℕ, suc, List, [], ◌∷◌, ◌++◌, length, map, reverse, Option, Some, None, Bool, true, false, ◌&&◌, ◌||◌, cond, refl, sym, ap, arith, append_assoc, length-append}
use Rattle.std.specs.Prelude.{option_map, slice_get, is_some, IsSome}
use Rattle.std.specs.List.{AllZip, list_all, list_any}
use Rattle.std.proofs.lemmas.List.{append-nil}
use Rattle.std.proofs.lemmas.Option.{slice_get_within}
use Rattle.ti_ids.specs.declared.state.ThreadState.{ThreadState}
use Rattle.ti_ids.specs.declared.state.ThreadState.TheVariants.{Unbegun, Entering, Running, Ended}
use Rattle.ti_ids.specs.declared.state.InitState.{InitState}
use Rattle.ti_ids.specs.Maybe.{◌>>=◌}
use Rattle.machine_model.specs.declared.ThreadRule.{ThreadRule}
use Rattle.machine_model.specs.Jobs.{Job}
use Rattle.machine_model.specs.Core as core
use Rattle.machine_model.specs.Trace.{Entry}
use Rattle.machine_model.specs.Rules.{State, is_live, is_over, has_ended, live_rule, rule_in, machine_rule, frame_rule, entry_rule, rule_for, thread_rule, ready_thread, ruled, is_ready, numbered_threads, numbered_agents, any_ready}
use Rattle.machine_model.specs.Reports.{thread_line, standing}
use Rattle.machine_core.specs.declared.frame.Frame.{Frame}
use Rattle.machine_core.specs.declared.frame.Frame.TheVariants.{Init, Java}
use Rattle.machine_core.specs.declared.thread.Thread.{Thread}
use Rattle.machine_core.specs.declared.parts.Parts.{Parts}
use Rattle.machine_core.specs.Frames.{rule_on_top, rule_by, rule_seen}
use Rattle.machine_core.specs.Seen.{machine_rule_seen, thread_rule_seen, any_thread_seen, any_seen}
use Rattle.machine_core.specs.Stands.{FrameStands, ThreadStands, StandsFor, RuleIs}
use Rattle.machine_core.proofs.Zips.{zip_some, zip_none}

-- ---- the machine's own rule

all_over : (job : Job) (trace : List Entry) (l : Bool) (ts : List Thread) (us : List core.Thread) → AllZip (ThreadStands job trace l) ts us → list_all (λ t. is_over t.state) ts ≡ list_all has_ended us
all_over job trace l [] [] h = refl
all_over job trace l [] (u ∷ us) h = absurd h
all_over job trace l (t ∷ ts) [] h = absurd h
all_over job trace l (t ∷ ts) (u ∷ us) h = let e = h.0.state in rw (e, all_over job trace l ts us h.1) refl

pub machine_told : (job : Job) (p : Parts) (s : State) → StandsFor job p s → machine_rule_seen p ≡ machine_rule s.core
machine_told job p s h =
    ap (λ (x : Bool). rule_in p.phase (live_rule p.died x)) (all_over job s.trace (is_some p.class) p.threads.items s.core.threads h.threads)
    ∙ ap (λ (x : Bool). rule_in p.phase (live_rule x (list_all has_ended s.core.threads))) h.died
    ∙ ap (λ x. rule_in x (live_rule s.core.died (list_all has_ended s.core.threads))) h.phase

-- ---- a thread's rule

top_told : (job : Job) (trace : List Entry) (l : Bool) (fs : List Frame) (gs : List core.Frame) (otherwise : ThreadRule) → AllZip (FrameStands job trace l) fs gs → rule_on_top fs otherwise ≡ frame_rule gs otherwise
top_told job trace l [] [] otherwise h = refl
top_told job trace l [] (g ∷ gs) otherwise h = absurd h
top_told job trace l (f ∷ fs) [] otherwise h = absurd h
top_told job trace l (Init ∷ fs) (core.Init n place ∷ gs) otherwise h = refl
top_told job trace l (Init ∷ fs) (core.Java g ∷ gs) otherwise h = absurd h.0
top_told job trace l (Java f ∷ fs) (core.Init n place ∷ gs) otherwise h = absurd h.0
top_told job trace l (Java f ∷ fs) (core.Java g ∷ gs) otherwise h = refl

by_told : (job : Job) (trace : List Entry) (l : Bool) (a : ThreadState) (fs : List Frame) (gs : List core.Frame) (class : Option InitState) → AllZip (FrameStands job trace l) fs gs → rule_by a fs class ≡ rule_for a gs (entry_rule class)
by_told job trace l Unbegun fs gs class h = refl
by_told job trace l Entering fs gs class h = ap (λ (r : ThreadRule). Some r) (top_told job trace l fs gs (entry_rule class) h)
by_told job trace l Running fs gs class h = ap (λ (r : ThreadRule). Some r) (top_told job trace l fs gs _ h)
by_told job trace l Ended fs gs class h = refl

pub rule_told : (job : Job) (p : Parts) (s : State) (t : Thread) (u : core.Thread) → StandsFor job p s → ThreadStands job s.trace (is_some p.class) t u → rule_seen p.class t ≡ thread_rule job s.core u
rule_told job p s t u h k =
    by_told job s.trace (is_some p.class) t.state (reverse t.frames.items) u.frames p.class k.frames
    ∙ ap (λ (a : ThreadState). rule_for a u.frames (entry_rule p.class)) k.state
    ∙ ap (λ (x : Option InitState). rule_for u.state u.frames (entry_rule x)) h.class

abbrev Ruled : Type 0
Ruled = core.Thread × ThreadRule

rule_only : (u : core.Thread) (q : Option ThreadRule) → option_map (λ r. r.1) (option_map (λ r. let p : Ruled = (u, r) in p) q) ≡ q
rule_only u None = refl
rule_only u (Some r) = refl

looked_up : (job : Job) (p : Parts) (s : State) (x : Option Thread) (y : Option core.Thread) → StandsFor job p s
    → ((t : Thread) → x ≡ Some t → (u : core.Thread) × (y ≡ Some u) × ThreadStands job s.trace (is_some p.class) t u) → (x ≡ None → y ≡ None) → option_map (λ r. r.1) (y >>= ruled job s.core) ≡ (x >>= rule_seen p.class)
looked_up job p s None y h some none = let e = none refl in rw e refl
looked_up job p s (Some t) y h some none =
    let k = some t refl in
    let e = k.1 in rw e (rule_only k.0 (thread_rule job s.core k.0) ∙ sym (rule_told job p s t k.0 h k.2))

pub thread_told : (job : Job) (p : Parts) (s : State) (n : ℕ) → StandsFor job p s → RuleIs (thread_rule_seen p n) (ready_thread job s.core (suc n))
thread_told job p s n h =
    let R = ThreadStands job s.trace (is_some p.class) in
    let e = looked_up job p s (slice_get p.threads.items n) (slice_get s.core.threads n) h (λ t is. zip_some R p.threads.items s.core.threads n t h.threads is) (zip_none R p.threads.items s.core.threads n h.threads) in
    elim (is_live s.core.phase) as (λ b. is_live s.core.phase ≡ b → option_map (λ r. r.1) (cond b (slice_get s.core.threads n >>= ruled job s.core) None) ≡ thread_rule_seen p n) [
      | true ↦ λ live. let same : is_live p.phase ≡ true = ap is_live h.phase ∙ live in rw same e
      | false ↦ λ live. let same : is_live p.phase ≡ false = ap is_live h.phase ∙ live in rw same refl
    ] refl

some_at : {A B : Type 0} (b : Bool) (x : Option A) (f : A → Option B) → IsSome (cond b (x >>= f) None) → (y : A) × (x ≡ Some y)
some_at false x f h = absurd cc
some_at true None f h = absurd cc
some_at true (Some y) f h = (y, refl)

pub thread_there : (p : Parts) (n : ℕ) → IsSome (thread_rule_seen p n) → n < length p.threads.items
thread_there p n h = let k = some_at (is_live p.phase) (slice_get p.threads.items n) (rule_seen p.class) h in slice_get_within p.threads.items n k.0 k.1

-- ---- whether any actor is ready

any_by : (job : Job) (p : Parts) (s : State) (ts : List Thread) (us : List core.Thread) → StandsFor job p s → AllZip (ThreadStands job s.trace (is_some p.class)) ts us
    → list_any (λ t. is_some (rule_seen p.class t)) ts ≡ list_any (λ u. is_some (thread_rule job s.core u)) us
any_by job p s [] [] h k = refl
any_by job p s [] (u ∷ us) h k = absurd k
any_by job p s (t ∷ ts) [] h k = absurd k
any_by job p s (t ∷ ts) (u ∷ us) h k = let e = rule_told job p s t u h k.0 in rw (e, any_by job p s ts us h k.1) refl

get_behind : {A : Type 0} (front : List A) (x : A) (rest : List A) → slice_get (front ++ x ∷ rest) (length front) ≡ Some x
get_behind [] x rest = refl
get_behind (y ∷ front) x rest = get_behind front x rest

some_with : (u : core.Thread) (q : Option ThreadRule) → is_some (option_map (λ r. let p : Ruled = (u, r) in p) q) ≡ is_some q
some_with u None = refl
some_with u (Some r) = refl

ready_one : (job : Job) (c : core.Core) (k : ℕ) (u : core.Thread) → slice_get c.threads k ≡ Some u → is_some (ready_thread job c (suc k)) ≡ (is_live c.phase && is_some (thread_rule job c u))
ready_one job c k u there =
    elim (is_live c.phase) as (λ b. is_some (cond b (slice_get c.threads k >>= ruled job c) None) ≡ (b && is_some (thread_rule job c u))) [
      | true ↦ rw there (some_with u (thread_rule job c u))
      | false ↦ refl
    ]

and_none : (b : Bool) → false ≡ (b && false)
and_none true = refl
and_none false = refl

and_either : (b x y : Bool) → ((b && x) || (b && y)) ≡ (b && (x || y))
and_either true x y = refl
and_either false x y = refl

threads_ready : (job : Job) (c : core.Core) (front rest : List core.Thread) (n : ℕ) → c.threads ≡ front ++ rest → n ≡ suc (length front)
    → list_any (is_ready job c) (numbered_threads n rest) ≡ (is_live c.phase && list_any (λ u. is_some (thread_rule job c u)) rest)
threads_ready job c front [] n e k = and_none (is_live c.phase)
threads_ready job c front (u ∷ rest) n e k =
    let there : slice_get c.threads (length front) ≡ Some u = rw e (get_behind front u rest) in
    let one : is_some (ready_thread job c n) ≡ (is_live c.phase && is_some (thread_rule job c u)) = rw k (ready_one job c (length front) u there) in
    let others = threads_ready job c (front ++ u ∷ []) rest (n + 1) (e ∙ sym (append_assoc front (u ∷ []) rest)) (omega (arith, k, length-append front (u ∷ []))) in
    rw (one, others) (and_either (is_live c.phase) (is_some (thread_rule job c u)) (list_any (λ v. is_some (thread_rule job c v)) rest))

pub any_told : (job : Job) (p : Parts) (s : State) → StandsFor job p s → any_seen p ≡ any_ready job s
any_told job p s h =
    let us = s.core.threads in
    let none : numbered_agents 1 job.agents ≡ [] = ap (numbered_agents 1) h.known.no_agents in
    let all : list_any (is_ready job s.core) (numbered_threads 1 us ++ numbered_agents 1 job.agents) ≡ (is_live s.core.phase && list_any (λ u. is_some (thread_rule job s.core u)) us) =
    ap (λ w. list_any (is_ready job s.core) (numbered_threads 1 us ++ w)) none
    ∙ ap (list_any (is_ready job s.core)) (append-nil (numbered_threads 1 us))
    ∙ threads_ready job s.core [] us 1 refl refl in
    ap (λ r. is_some r || (is_live p.phase && any_thread_seen p)) (machine_told job p s h)
    ∙ ap (λ x. is_some (machine_rule s.core) || (is_live x && any_thread_seen p)) h.phase
    ∙ ap (λ x. is_some (machine_rule s.core) || (is_live s.core.phase && x)) (any_by job p s p.threads.items us h h.threads)
    ∙ ap (λ x. is_some (machine_rule s.core) || x) (sym all)

-- ---- how the threads stand in a report

lines_by : (job : Job) (trace : List Entry) (l : Bool) (ts : List Thread) (us : List core.Thread) → AllZip (ThreadStands job trace l) ts us → map (λ t. standing t.state) ts ≡ map thread_line us
lines_by job trace l [] [] h = refl
lines_by job trace l [] (u ∷ us) h = absurd h
lines_by job trace l (t ∷ ts) [] h = absurd h
lines_by job trace l (t ∷ ts) (u ∷ us) h = let e = h.0.state in rw (e, lines_by job trace l ts us h.1) refl

pub lines_told : (job : Job) (p : Parts) (s : State) → StandsFor job p s → map (λ t. standing t.state) p.threads.items ≡ map thread_line s.core.threads
lines_told job p s h = lines_by job s.trace (is_some p.class) p.threads.items s.core.threads h.threads
