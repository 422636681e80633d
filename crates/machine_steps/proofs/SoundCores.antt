-- A core whose heap is sound and whose references are there: each act that keeps heaps keeps it so, the births of frames and what waits for
-- actors are no part of it, and so it is before the machine starts and afterwards.
use Rattle.std.proofs.Common.{◌≡◌, ◌∙◌, ◌≤◌, ℕ, ◌+◌, ◌-◌, ◌&&◌, Bool, true, false, List, [], ◌∷◌, ◌++◌, map, length, length-append, append_assoc, Some, refl, sym, ap, subst, arith}
use Rattle.std.specs.Prelude.{codes, nat_le, slice_get, sum_by}
use Rattle.std.specs.List.{AllByRecursion, list_all}
use Rattle.std.proofs.lemmas.Bool.{leb-true}
use Rattle.std.proofs.lemmas.List.Elements.{All-nil}
use Rattle.jv_names.proofs.DescriptorPlaces.{and-left, and-right}
use Rattle.ti_ids.specs.declared.number.ObjNo.{ObjNo}
use Rattle.ti_ids.specs.declared.number.ClassNo.{ClassNo}
use Rattle.ti_ids.specs.declared.number.FieldNo.{FieldNo}
use Rattle.ti_ids.specs.declared.value.Value.TheVariants as value
use Rattle.ti_codes.specs.declared.phase.Phase.{Phase}
use Rattle.ti_codes.specs.declared.phase.Phase.TheVariants as phases
use Rattle.ti_ids.specs.declared.state.InitState.TheVariants as states
use Rattle.base_set.specs.BaseSet.{BaseClass, base_set}
use Rattle.java_heap.specs.declared.object.Object.{Object}
use Rattle.java_heap.specs.declared.object.Content.TheVariants.{Fields}
use Rattle.java_heap.specs.Objects.{fresh, words_of}
use Rattle.java_heap.specs.Heaps.{HeapValue, IsSound, IsThere, RefersThere, object_at, words_taken}
use Rattle.java_heap.proofs.Added.{MayAdd, words_added}
use Rattle.java_heap.proofs.Firsts.{added}
use Rattle.java_heap.proofs.Numbers.{found_place}
use Rattle.thread_frames.specs.declared.frame.StackEntry.TheVariants.{Java, Init}
use Rattle.machine_state.specs.Births.{unborn, unborn_frame, unborn_thread}
use Rattle.machine_state.specs.Core.{Core, StackFrame, Thread, has_ended}
use Rattle.machine_state.specs.Jobs.{Job}
use Rattle.machine_state.specs.Trace.{Died, Started, VMDeath, VMStart}
use Rattle.machine_state.specs.Acts.{Act, Changes, Notes, AddsClass, Makes, MarksDeath, PutsStatic, SetsPhase, TakesCall, TakesScript, core_after, raises}
use Rattle.instruction_effect.proofs.ActRules.{CoreHolds, Follow, FrameHolds, ObjectHolds, ThreadHolds, behind}
use Rattle.instruction_effect.proofs.FollowingForms.{all_held}
use Rattle.machine_steps.specs.Actors.{adds_base, base_class, inits, live_acts, makes_first, phase_acts, starts, system_out}
use Rattle.machine_steps.specs.Bounds.{IsBounded}
use Rattle.machine_steps.specs.Replay.{opening_core}
use Rattle.machine_steps.proofs.HeapActs.{KeepsHeap, NamesNow, as_many_objects, heap_stays, values_stay}
use Rattle.machine_steps.proofs.OwnRules.{object_on, thread_on}
use Rattle.machine_steps.proofs.PinnedFrames.{AllPinned, pins_alike, pins_stay}
use Rattle.machine_steps.proofs.StepRules.{seen}

-- ---- what is kept

-- the heap has room for the first three objects at least
pub record IsSoundCore (core : Core) : Type 0 where
  pub room : 6 ≤ core.heap.limit
  pub heap : IsSound core.heap
  pub values : CoreHolds NamesNow core
  pub pins : AllPinned core.heap core.threads

-- the machine has started: the first three objects are there
pub record HasStarted (core : Core) : Type 0 where
  pub phase : core.phase ≡ phases.OnLoad → ⊥
  pub first : 3 ≤ length core.heap.objects

-- it has not, and no object is there
pub record IsUnstarted (core : Core) : Type 0 where
  pub phase : core.phase ≡ phases.OnLoad
  pub empty : core.heap.objects ≡ []

limit_stays : (now : Core) (a : Act) → (behind now a).heap.limit ≡ now.heap.limit
limit_stays now (Changes (Makes o)) = refl
limit_stays now (Changes c) = refl
limit_stays now (Notes what) = refl

pub core_stays : (now : Core) (a : Act) → KeepsHeap now a → IsSoundCore now → IsSoundCore (behind now a)
core_stays now a ok h = record {
  room = subst (λ (n : ℕ). 6 ≤ n) (sym (limit_stays now a)) h.room;
  heap = heap_stays now a ok h.heap;
  values = values_stay now a ok h.values;
  pins = pins_stay now a ok h.pins;
}

phase_stays : (now : Core) (a : Act) → KeepsHeap now a → (now.phase ≡ phases.OnLoad → ⊥) → (behind now a).phase ≡ phases.OnLoad → ⊥
phase_stays now (Changes (SetsPhase phases.OnLoad)) ok h is = absurd ok
phase_stays now (Changes (SetsPhase phases.Primordial)) ok h is = absurd cc
phase_stays now (Changes (SetsPhase phases.Start)) ok h is = absurd cc
phase_stays now (Changes (SetsPhase phases.Live)) ok h is = absurd cc
phase_stays now (Changes (SetsPhase phases.Dead)) ok h is = absurd cc
phase_stays now (Changes c) ok h is = h is
phase_stays now (Notes what) ok h is = h is

pub started_stays : (now : Core) (a : Act) → KeepsHeap now a → HasStarted now → HasStarted (behind now a)
started_stays now a ok h = record { phase = phase_stays now a ok h.phase; first = omega (arith, h.first, as_many_objects now a) }

-- ---- before the machine starts: calls are performed

-- it takes a call or records
abbrev pub Performs : Core → Act → Type 0
Performs now (Changes (TakesCall actor)) = Unit {0}
Performs now (Changes (TakesScript env)) = Unit {0}
Performs now (Changes c) = ⊥
Performs now (Notes what) = Unit {0}

pub performs_keeps : (now : Core) (a : Act) → Performs now a → KeepsHeap now a
performs_keeps now (Changes (TakesCall actor)) ok = tt
performs_keeps now (Changes (TakesScript env)) ok = tt
performs_keeps now (Changes c) ok = absurd ok
performs_keeps now (Notes what) ok = tt

pub unstarted_stays : (now : Core) (a : Act) → Performs now a → IsUnstarted now → IsUnstarted (behind now a)
unstarted_stays now (Changes (TakesCall actor)) ok h = record { phase = h.phase; empty = h.empty }
unstarted_stays now (Changes (TakesScript env)) ok h = record { phase = h.phase; empty = h.empty }
unstarted_stays now (Changes c) ok h = absurd ok
unstarted_stays now (Notes what) ok h = h

-- ---- cores that are alike but for births and for what waits

module _ (core : Core) where
  abbrev other : Core
  other = unborn (seen core)

  unborn_values : (frames : List StackFrame) → AllByRecursion (FrameHolds NamesNow other) frames
      → AllByRecursion (FrameHolds NamesNow other) (map unborn_frame frames)
  unborn_values [] h = tt
  unborn_values (Java f ∷ below) h = (h.0, unborn_values below h.1)
  unborn_values (Init class ∷ below) h = (tt, unborn_values below h.1)

  born_values : (frames : List StackFrame) → AllByRecursion (FrameHolds NamesNow core) (map unborn_frame frames)
      → AllByRecursion (FrameHolds NamesNow core) frames
  born_values [] h = tt
  born_values (Java f ∷ below) h = (h.0, born_values below h.1)
  born_values (Init class ∷ below) h = (tt, born_values below h.1)

  unborn_threads : (threads : List Thread) → AllByRecursion (ThreadHolds NamesNow other) threads
      → AllByRecursion (ThreadHolds NamesNow other) (map unborn_thread threads)
  unborn_threads [] h = tt
  unborn_threads (t ∷ threads) h =
      (record { object = h.0.object; activity = h.0.activity; frames = unborn_values t.frames h.0.frames }, unborn_threads threads h.1)

  born_threads : (threads : List Thread) → AllByRecursion (ThreadHolds NamesNow core) (map unborn_thread threads)
      → AllByRecursion (ThreadHolds NamesNow core) threads
  born_threads [] h = tt
  born_threads (t ∷ threads) h =
      (record { object = h.0.object; activity = h.0.activity; frames = born_values t.frames h.0.frames }, born_threads threads h.1)

  kept_unborn : (threads : List Thread) → core.threads ≡ threads → CoreHolds NamesNow core → (thread : Thread) (rest : List Thread)
      → map unborn_thread threads ≡ thread ∷ rest → IsThere core.heap (record { 0 = 2 })
  kept_unborn [] is h thread rest e = absurd cc
  kept_unborn (t ∷ threads) is h thread rest e = h.kept t threads is

  to_other : CoreHolds NamesNow core → CoreHolds NamesNow other
  to_other h =
      let thread = thread_on NamesNow NamesNow core other (λ v k. k) in
      let object = object_on NamesNow NamesNow core other (λ v k. k) in
      let threads = all_held (ThreadHolds NamesNow core) (ThreadHolds NamesNow other) core.threads thread h.threads in
      record {
        threads = unborn_threads core.threads threads;
        statics = h.statics;
        objects = all_held (ObjectHolds NamesNow core) (ObjectHolds NamesNow other) core.heap.objects object h.objects;
        kept = kept_unborn core.threads refl h;
        owned = h.owned;
      }

  from_other : CoreHolds NamesNow other → CoreHolds NamesNow core
  from_other h =
      let thread = thread_on NamesNow NamesNow other core (λ v k. k) in
      let object = object_on NamesNow NamesNow other core (λ v k. k) in
      let threads = all_held (ThreadHolds NamesNow other) (ThreadHolds NamesNow core) other.threads thread h.threads in
      record {
        threads = born_threads core.threads threads;
        statics = h.statics;
        objects = all_held (ObjectHolds NamesNow other) (ObjectHolds NamesNow core) core.heap.objects object h.objects;
        kept = λ thread threads is. h.kept (unborn_thread thread) (map unborn_thread threads) (ap (map unborn_thread) is);
        owned = h.owned;
      }

pub core_alike : (a b : Core) → unborn (seen a) ≡ unborn (seen b) → IsSoundCore a → IsSoundCore b
core_alike a b same h = record {
  room = subst (λ (c : Core). 6 ≤ c.heap.limit) same h.room;
  heap = subst (λ (c : Core). IsSound c.heap) same h.heap;
  values = from_other b (subst (λ (c : Core). CoreHolds NamesNow c) same (to_other a h.values));
  pins = pins_alike a b same h.pins;
}

pub started_alike : (a b : Core) → unborn (seen a) ≡ unborn (seen b) → HasStarted a → HasStarted b
started_alike a b same h = record {
  phase = subst (λ (c : Core). c.phase ≡ phases.OnLoad → ⊥) same h.phase;
  first = subst (λ (c : Core). 3 ≤ length c.heap.objects) same h.first;
}

pub unstarted_alike : (a b : Core) → unborn (seen a) ≡ unborn (seen b) → IsUnstarted a → IsUnstarted b
unstarted_alike a b same h = record {
  phase = subst (λ (c : Core). c.phase ≡ phases.OnLoad) same h.phase;
  empty = subst (λ (c : Core). c.heap.objects ≡ []) same h.empty;
}

-- ---- the opening

no_object : (heap : HeapValue) → heap.objects ≡ [] → (n : ObjNo) (object : Object) → object_at heap n ≡ Some object → ⊥
no_object heap empty n object found =
    let at = found_place heap n object found in
    let none = subst (λ (os : List Object). slice_get os (n.0 - 1) ≡ Some object) empty at.1 in
    absurd cc

pub opening_sound : (job : Job) → IsBounded job → IsSoundCore (opening_core job)
opening_sound job bounded =
    let within : (nat_le 64 job.limits.heap && nat_le job.limits.heap 16000000) ≡ true = bounded.heap in
    let least = leb-true 64 job.limits.heap (and-left (nat_le 64 job.limits.heap) (nat_le job.limits.heap 16000000) within) in
    let most = leb-true job.limits.heap 16000000 (and-right (nat_le 64 job.limits.heap) (nat_le job.limits.heap 16000000) within) in
    let heap = (opening_core job).heap in
    record {
      room = omega (arith, least);
      heap = record {
        limited = omega (arith, most);
        within = omega arith;
        literals = λ units n object found passes. absurd (no_object heap refl n object found);
        class_objects = λ class n object found passes. absurd (no_object heap refl n object found);
      };
      values = record {
        threads = tt;
        statics = tt;
        objects = tt;
        kept = λ thread threads is. absurd cc;
        owned = λ o owner is. absurd cc;
      };
      pins = tt;
    }

pub opening_unstarted : (job : Job) → IsUnstarted (opening_core job)
opening_unstarted job = record { phase = refl; empty = refl }

-- ---- the machine starts

-- each of these acts keeps heaps, and behind them the machine has started
abbrev pub Starts : Core → List Act → Type 0
Starts core acts = Follow KeepsHeap core acts × HasStarted (core_after 0 core acts)

base_starts : (classes : List BaseClass) (core : Core) (rest : List Act)
    → ((later : Core) → later.heap ≡ core.heap → Starts later rest)
    → Starts core (map (λ c. Changes (AddsClass c.name states.Initialized)) classes ++ rest)
base_starts [] core rest k = k core refl
base_starts (c ∷ classes) core rest k =
    let more = base_starts classes (behind core (Changes (AddsClass c.name states.Initialized))) rest k in ((tt, more.0), more.1)

instance_may : (heap : HeapValue) (class : ClassNo) → words_taken heap + 2 ≤ heap.limit → MayAdd heap (fresh class (Fields [])) × RefersThere heap (fresh class (Fields []))
instance_may heap class room = (
  record { room = room; literal = λ units is. absurd cc; class_object = λ class is. absurd cc },
  record { values = All-nil _; side = tt },
)

abbrev then_acts : List Act
then_acts = Changes (SetsPhase phases.Start) ∷ Notes Started ∷ raises VMStart ∷ []

instances_start : (now : Core) (a b c : ClassNo) (field : FieldNo) → 6 ≤ now.heap.limit → now.heap.objects ≡ []
    → Starts now (Changes (Makes (fresh a (Fields []))) ∷ Changes (Makes (fresh b (Fields []))) ∷ Changes (Makes (fresh c (Fields [])))
    ∷ Changes (PutsStatic field (value.Ref (Some (record { 0 = 1 })))) ∷ then_acts)
instances_start now a b c field room empty =
    let heap = now.heap in
    let one = added heap (fresh a (Fields [])) in
    let two = added one (fresh b (Fields [])) in
    let three = added two (fresh c (Fields [])) in
    let none : words_taken heap ≡ 0 = ap (λ (os : List Object). sum_by (λ o. words_of o.content) os) empty in
    let first : words_taken one ≡ words_taken heap + 2 = words_added heap (fresh a (Fields [])) in
    let second : words_taken two ≡ words_taken one + 2 = words_added one (fresh b (Fields [])) in
    let before : length heap.objects ≡ 0 = ap length empty in
    let one_more = length-append heap.objects (fresh a (Fields []) ∷ []) in
    let two_more = length-append one.objects (fresh b (Fields []) ∷ []) in
    let count : length three.objects ≡ 3 = omega (arith, before, one_more, two_more, length-append two.objects (fresh c (Fields []) ∷ [])) in
    let a_may = instance_may heap a (omega (arith, none, room)) in
    let b_may = instance_may one b (omega (arith, none, first, room)) in
    let c_may = instance_may two c (omega (arith, none, first, second, room)) in
    let out : IsThere three (record { 0 = 1 }) = (omega arith, omega (arith, count)) in (
      (a_may, (b_may, (c_may, (out, (tt, (tt, (tt, tt))))))),
      record { phase = λ is. absurd cc; first = omega (arith, count) },
    )

first_starts : (now : Core) → 6 ≤ now.heap.limit → now.heap.objects ≡ [] → Starts now (makes_first ++ then_acts)
first_starts now room empty =
    instances_start now (base_class (codes "java/io/PrintStream")) (base_class (codes "java/lang/OutOfMemoryError"))
    (base_class (codes "java/lang/Thread")) system_out room empty

pub starts_keep : (core : Core) → IsSoundCore core → IsUnstarted core → Starts core starts
starts_keep core h un =
    subst (λ (acts : List Act). Starts core acts) (sym (append_assoc adds_base makes_first then_acts))
    (base_starts base_set core (makes_first ++ then_acts) (λ later same.
    first_starts later (subst (λ (heap : HeapValue). 6 ≤ heap.limit) (sym same) h.room)
    (ap (λ (heap : HeapValue). heap.objects) same ∙ un.empty)))

-- ---- and goes on

pub inits_keep : (core : Core) → HasStarted core → Follow KeepsHeap core inits
inits_keep core h =
    let third : IsThere core.heap (record { 0 = 3 }) = (omega arith, h.first) in
    let second : IsThere core.heap (record { 0 = 2 }) = (omega arith, omega (arith, h.first)) in (tt, ((third, second), (tt, (tt, tt))))

keep_some : (core : Core) (acts other : List Act) → Follow KeepsHeap core acts → Some acts ≡ Some other → Follow KeepsHeap core other
keep_some core acts other h is = let same : acts ≡ other = cc in subst (λ (a : List Act). Follow KeepsHeap core a) same h

live_keep : (core : Core) (died ended : Bool) (acts : List Act) → live_acts died ended ≡ Some acts → Follow KeepsHeap core acts
live_keep core true ended acts is = keep_some core (Changes (SetsPhase phases.Dead) ∷ []) acts (tt, tt) is
live_keep core false true acts is = keep_some core (Changes MarksDeath ∷ Notes Died ∷ raises VMDeath ∷ []) acts (tt, (tt, (tt, tt))) is
live_keep core false false acts is = absurd cc

-- the acts of a phase, by the core that shows which come, from one of the same phase on
pub phase_keep : (core now : Core) → now.phase ≡ core.phase → HasStarted now → (acts : List Act) → phase_acts core core.phase ≡ Some acts
    → Follow KeepsHeap now acts
phase_keep core now same h acts is = by core.phase same is
  where
    by : (phase : Phase) → now.phase ≡ phase → phase_acts core phase ≡ Some acts → Follow KeepsHeap now acts
    by phases.OnLoad at is = absurd (h.phase at)
    by phases.Primordial at is = absurd cc
    by phases.Start at is = keep_some now inits acts (inits_keep now h) is
    by phases.Live at is = live_keep now core.death_raised (list_all has_ended core.threads) acts is
    by phases.Dead at is = absurd cc
