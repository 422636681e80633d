-- The actors in the order in which they are picked, by their places.
use Rattle.std.proofs.Common.{◌≡◌, ◌∙◌, ◌+◌, ◌-◌, ◌<◌, ◌≤◌, ℕ, zero, suc, List, [], ◌∷◌, ◌++◌, length, take, drop, Option, Some, None, Bool, true, false, not, ◌&&◌, cond, eqb, ltb, leb, refl, sym, ap, subst, arith, inl, inr}
use Rattle.std.specs.Prelude.{◌⊎◌, find, nat_lt, nat_le}
use Rattle.std.proofs.lemmas.List.{append-nil, take_all, drop_all, length-drop}
use Rattle.std.proofs.lemmas.Bool.{ltb-true, leb-true, ltb-false, leb-false}
use Rattle.std.proofs.lemmas.Bool.Decides.{Decides-eqb}
use Rattle.ti_ids.specs.declared.actor.Actor.{Actor}
use Rattle.ti_ids.specs.declared.actor.Actor.TheVariants.{Vm, Thread, Agent}
use Rattle.ti_ids.specs.declared.number.ThreadNo.{ThreadNo}
use Rattle.machine_model.specs.Jobs.{Job}
use Rattle.machine_model.specs.Core as core
use Rattle.machine_model.specs.Rules.{actors, numbered_threads, numbered_agents}
use Rattle.machine_model.specs.Picks.{behind, up_to, round}
use Rattle.machine_core.specs.Places.{actor_at, start_of}

abbrev pub all_of : List core.Thread → List Actor
all_of us = Vm ∷ numbered_threads 1 us

pub without_agents : (job : Job) (c : core.Core) → job.agents ≡ [] → actors job c ≡ all_of c.threads
without_agents job c none = ap (λ w. Vm ∷ numbered_threads 1 c.threads ++ numbered_agents 1 w) none ∙ ap (λ (w : List Actor). Vm ∷ w) (append-nil (numbered_threads 1 c.threads))

pub length_numbered : (k : ℕ) (us : List core.Thread) → length (numbered_threads k us) ≡ length us
length_numbered k [] = refl
length_numbered k (u ∷ us) = ap (λ (n : ℕ). suc n) (length_numbered (k + 1) us)

-- ---- the actor at a place

numbered_at : (us : List core.Thread) (n k : ℕ) → n < length us → drop n (numbered_threads k us) ≡ Thread (record { 0 = k + n }) ∷ drop (suc n) (numbered_threads k us)
numbered_at [] n k lt = absurd (omega arith)
numbered_at (u ∷ us) zero k lt = ap (λ (m : ℕ). Thread (record { 0 = m }) ∷ numbered_threads (k + 1) us) (let e : k ≡ k + 0 = omega arith in e)
numbered_at (u ∷ us) (suc n) k lt =
    numbered_at us n (k + 1) (omega arith)
    ∙ ap (λ (m : ℕ). Thread (record { 0 = m }) ∷ drop (suc n) (numbered_threads (k + 1) us)) (let e : k + 1 + n ≡ k + suc n = omega arith in e)

pub place_at : (us : List core.Thread) (n : ℕ) → n < length us + 1 → drop n (all_of us) ≡ actor_at n ∷ drop (suc n) (all_of us)
place_at us zero lt = refl
place_at us (suc n) lt =
    numbered_at us n 1 (omega arith) ∙ ap (λ (m : ℕ). Thread (record { 0 = m }) ∷ drop (suc n) (numbered_threads 1 us)) (let e : 1 + n ≡ suc n = omega arith in e)

-- ---- looking for an actor between two places

pub find_next : (q : Actor → Bool) (us : List core.Thread) (from to : ℕ) → from < to → to ≤ length us + 1
    → find q (take (to - from) (drop from (all_of us))) ≡ cond (q (actor_at from)) (Some (actor_at from)) (find q (take (to - (from + 1)) (drop (from + 1) (all_of us))))
find_next q us from to lt le =
    let one : to - from ≡ suc (to - (from + 1)) = omega arith in
    let next : suc from ≡ from + 1 = omega arith in
    ap (λ (w : List Actor). find q (take (to - from) w)) (place_at us from (omega arith))
    ∙ ap (λ (k : ℕ). find q (take k (actor_at from ∷ drop (suc from) (all_of us)))) one
    ∙ ap (λ (k : ℕ). cond (q (actor_at from)) (Some (actor_at from)) (find q (take (to - (from + 1)) (drop k (all_of us))))) next

abbrev pub between : (Actor → Bool) → ℕ → ℕ → List Actor → Option Actor
between q from to all = find q (take (to - from) (drop from all))

-- the actor at the first place is the one
pub hit : (q : Actor → Bool) (job : Job) (c : core.Core) (from to : ℕ) → job.agents ≡ [] → from < to → to ≤ length c.threads + 1 → q (actor_at from) ≡ true → between q from to (actors job c) ≡ Some (actor_at from)
hit q job c from to none lt le yes' =
    subst (λ (all : List Actor). between q from to all ≡ Some (actor_at from)) (sym (without_agents job c none))
    (find_next q c.threads from to lt le ∙ ap (λ (b : Bool). cond b (Some (actor_at from)) (between q (from + 1) to (all_of c.threads))) yes')

-- it is looked for behind the first place
pub miss : (q : Actor → Bool) (job : Job) (c : core.Core) (from to : ℕ) → job.agents ≡ [] → from < to → to ≤ length c.threads + 1 → q (actor_at from) ≡ false → between q from to (actors job c) ≡ between q (from + 1) to (actors job c)
miss q job c from to none lt le no' =
    subst (λ (all : List Actor). between q from to all ≡ between q (from + 1) to all) (sym (without_agents job c none))
    (find_next q c.threads from to lt le ∙ ap (λ (b : Bool). cond b (Some (actor_at from)) (between q (from + 1) to (all_of c.threads))) no')

pub may_by : (b spent may : Bool) → b ≡ (not spent && may) → spent ≡ false → may ≡ b
may_by b true may e live = absurd cc
may_by b false may e live = sym e

-- ---- the round

same_is : (a b : ℕ) → a ≡ b → eqb a b ≡ true
same_is a b e = (Decides-eqb a b).1 e

differs : (a b : ℕ) → (a ≡ b → ⊥) → eqb a b ≡ false
differs a b ne = elim (eqb a b) as (λ r. eqb a b ≡ r → r ≡ false) [ true ↦ λ e. absurd (ne ((Decides-eqb a b).0 e)) | false ↦ λ e. refl ] refl

behind_in : (t : ThreadNo) (us : List core.Thread) (k d : ℕ) → t.0 ≡ k + d → d < length us → behind (Thread t) (numbered_threads k us) ≡ drop (suc d) (numbered_threads k us)
behind_in t [] k d e lt = absurd (omega arith)
behind_in t (u ∷ us) k zero e lt = let same = same_is k t.0 (omega arith) in rw same refl
behind_in t (u ∷ us) k (suc d) e lt = let no' = differs k t.0 (λ w. omega arith) in rw no' (behind_in t us (k + 1) d (omega arith) (omega arith))

up_to_in : (t : ThreadNo) (us : List core.Thread) (k d : ℕ) → t.0 ≡ k + d → d < length us → up_to (Thread t) (numbered_threads k us) ≡ take (suc d) (numbered_threads k us)
up_to_in t [] k d e lt = absurd (omega arith)
up_to_in t (u ∷ us) k zero e lt = let same = same_is k t.0 (omega arith) in rw same refl
up_to_in t (u ∷ us) k (suc d) e lt = let no' = differs k t.0 (λ w. omega arith) in rw no' (ap (λ (w : List Actor). Thread (record { 0 = k }) ∷ w) (up_to_in t us (k + 1) d (omega arith) (omega arith)))

abbrev IsOut : ThreadNo → ℕ → ℕ → Type 0
IsOut t k count = (t.0 < k) ⊎ (k + count ≤ t.0)

next_out : (t : ThreadNo) (k count : ℕ) → IsOut t k (suc count) → (k ≡ t.0 → ⊥) × IsOut t (k + 1) count
next_out t k count (inl h) = (λ e. omega arith, inl (omega arith))
next_out t k count (inr h) = (λ e. omega arith, inr (omega arith))

behind_out : (t : ThreadNo) (us : List core.Thread) (k : ℕ) → IsOut t k (length us) → behind (Thread t) (numbered_threads k us) ≡ []
behind_out t [] k h = refl
behind_out t (u ∷ us) k h = let o = next_out t k (length us) h in let no' = differs k t.0 o.0 in rw no' (behind_out t us (k + 1) o.1)

up_to_out : (t : ThreadNo) (us : List core.Thread) (k : ℕ) → IsOut t k (length us) → up_to (Thread t) (numbered_threads k us) ≡ numbered_threads k us
up_to_out t [] k h = refl
up_to_out t (u ∷ us) k h =
    let o = next_out t k (length us) h in
    let no' = differs k t.0 o.0 in rw no' (ap (λ (w : List Actor). Thread (record { 0 = k }) ∷ w) (up_to_out t us (k + 1) o.1))

behind_agent : (us : List core.Thread) (k : ℕ) (e : _) → behind (Agent e) (numbered_threads k us) ≡ []
behind_agent [] k e = refl
behind_agent (u ∷ us) k e = behind_agent us (k + 1) e

up_to_agent : (us : List core.Thread) (k : ℕ) (e : _) → up_to (Agent e) (numbered_threads k us) ≡ numbered_threads k us
up_to_agent [] k e = refl
up_to_agent (u ∷ us) k e = ap (λ (w : List Actor). Thread (record { 0 = k }) ∷ w) (up_to_agent us (k + 1) e)

record IsSplit (a : Actor) (us : List core.Thread) (start : ℕ) : Type 0 where
  back : behind a (all_of us) ≡ drop start (all_of us)
  front : up_to a (all_of us) ≡ take start (all_of us)

whole : (us : List core.Thread) → (drop (length us + 1) (all_of us) ≡ []) × (take (length us + 1) (all_of us) ≡ all_of us)
whole us = (drop_all (length us + 1) (all_of us) (omega (arith, length_numbered 1 us)), take_all (length us + 1) (all_of us) (omega (arith, length_numbered 1 us)))

thread_in : (t : ThreadNo) (us : List core.Thread) → 0 < t.0 → t.0 ≤ length us → IsSplit (Thread t) us (t.0 + 1)
thread_in t us some le =
    let d : ℕ = t.0 - 1 in
    let e : t.0 ≡ 1 + d = omega arith in
    let f : t.0 + 1 ≡ suc (suc d) = omega arith in record {
      back = behind_in t us 1 d e (omega arith) ∙ ap (λ (k : ℕ). drop k (all_of us)) (sym f);
      front = ap (λ (w : List Actor). Vm ∷ w) (up_to_in t us 1 d e (omega arith)) ∙ ap (λ (k : ℕ). take k (all_of us)) (sym f);
    }

thread_out : (t : ThreadNo) (us : List core.Thread) → IsOut t 1 (length us) → IsSplit (Thread t) us (length us + 1)
thread_out t us out =
    let w = whole us in record { back = behind_out t us 1 out ∙ sym w.0; front = ap (λ (x : List Actor). Vm ∷ x) (up_to_out t us 1 out) ∙ sym w.1 }

thread_split : (t : ThreadNo) (us : List core.Thread) (a b : Bool) → ltb 0 t.0 ≡ a → leb t.0 (length us) ≡ b → IsSplit (Thread t) us (cond (a && b) (t.0 + 1) (length us + 1))
thread_split t us true true e f = thread_in t us (ltb-true _ _ e) (leb-true _ _ f)
thread_split t us true false e f = let far = leb-false t.0 (length us) f in thread_out t us (inr (omega arith))
thread_split t us false b e f = let low = ltb-false 0 t.0 e in thread_out t us (inl (omega arith))

split_at : (a : Actor) (us : List core.Thread) → IsSplit a us (start_of a (length us))
split_at Vm us = record { back = refl; front = refl }
split_at (Thread t) us = thread_split t us (nat_lt 0 t.0) (nat_le t.0 (length us)) refl refl
split_at (Agent e) us =
    let w = whole us in record { back = behind_agent us 1 e ∙ sym w.0; front = ap (λ (x : List Actor). Vm ∷ x) (up_to_agent us 1 e) ∙ sym w.1 }

find_append : (q : Actor → Bool) (xs ys : List Actor) → find q (xs ++ ys) ≡ (elim (find q xs) as (λ _. Option Actor) [ Some a ↦ Some a | None ↦ find q ys ])
find_append q [] ys = refl
find_append q (x ∷ xs) ys =
    elim (q x) as (λ b. cond b (Some x) (find q (xs ++ ys)) ≡ (elim (cond b (Some x) (find q xs)) as (λ _. Option Actor) [ Some a ↦ Some a | None ↦ find q ys ])) [ true ↦ refl | false ↦ find_append q xs ys ]

-- the round is looked through from behind the actor, and then from the front
pub find_round : (q : Actor → Bool) (a : Actor) (us : List core.Thread) (start : ℕ) → start ≡ start_of a (length us)
    → find q (round a (all_of us)) ≡ (elim (find q (take (length us + 1 - start) (drop start (all_of us)))) as (λ _. Option Actor) [ Some x ↦ Some x | None ↦ find q (take (start - 0) (drop 0 (all_of us))) ])
find_round q a us start e =
    let w : IsSplit a us start = subst (IsSplit a us) (sym e) (split_at a us) in
    let short : take (length us + 1 - start) (drop start (all_of us)) ≡ drop start (all_of us) = take_all (length us + 1 - start) (drop start (all_of us)) (omega (arith, length-drop start (all_of us), length_numbered 1 us)) in
    find_append q (behind a (all_of us)) (up_to a (all_of us))
    ∙ ap (λ (x : List Actor). elim (find q x) as (λ _. Option Actor) [ Some y ↦ Some y | None ↦ find q (up_to a (all_of us)) ]) (w.back ∙ sym short)
    ∙ ap (λ (x : List Actor). elim (find q (take (length us + 1 - start) (drop start (all_of us)))) as (λ _. Option Actor) [ Some y ↦ Some y | None ↦ find q x ]) (w.front ∙ ap (λ (k : ℕ). take k (all_of us)) (let z : start ≡ start - 0 = omega arith in z))

abbrev pub either : Option Actor → Option Actor → Option Actor
either a b = elim a as (λ _. Option Actor) [ Some y ↦ Some y | None ↦ b ]

-- the next actor is found between these places
pub next_found : (q : Actor → Bool) (a : Actor) (job : Job) (c : core.Core) (threads start : ℕ) → job.agents ≡ [] → threads ≡ length c.threads → start ≡ start_of a threads
    → find q (round a (actors job c)) ≡ either (between q start (threads + 1) (actors job c)) (between q 0 start (actors job c))
next_found q a job c threads start none count e =
    subst (λ (all : List Actor). find q (round a all) ≡ either (between q start (threads + 1) all) (between q 0 start all)) (sym (without_agents job c none))
    (subst (λ (n : ℕ). find q (round a (all_of c.threads)) ≡ either (between q start (n + 1) (all_of c.threads)) (between q 0 start (all_of c.threads))) (sym count) (find_round q a c.threads start (e ∙ ap (start_of a) count)))
