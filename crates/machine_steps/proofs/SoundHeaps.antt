-- After every schedule the heap is sound, and each reference is null or names an object that is there.
use Rattle.std.proofs.Common.{◌≡◌, ◌∙◌, ◌⊎◌, ⊎_elim, inl, inr, ◌&&◌, not, cond, List, [], ◌∷◌, Option, Some, None, refl, sym, ap, subst}
use Rattle.std.specs.Prelude.{option_map}
use Rattle.std.specs.List.{AllByRecursion}
use Rattle.std.proofs.lemmas.List.Elements.{All-from_recursion}
use Rattle.ti_ids.specs.Maybe.{◌>>=◌}
use Rattle.ti_ids.specs.declared.number.ThreadNo.{ThreadNo}
use Rattle.ti_ids.specs.declared.actor.Actor.{Actor}
use Rattle.ti_ids.specs.declared.actor.Actor.TheVariants.{Agent, Thread, Vm}
use Rattle.ti_ids.specs.declared.state.Activity.{Activity}
use Rattle.ti_ids.specs.declared.state.Activity.TheVariants.{Free, Throwing, Waiting, Joining, Wanting}
use Rattle.ti_codes.specs.declared.phase.Phase.{Phase}
use Rattle.ti_codes.specs.declared.phase.Phase.TheVariants as phases
use Rattle.java_heap.specs.declared.object.Object.{Object}
use Rattle.java_heap.specs.Objects.{values_of}
use Rattle.java_heap.specs.Heaps.{NamesThere, RefersThere}
use Rattle.thread_frames.specs.declared.frame.StackEntry.TheVariants.{Java, Init}
use Rattle.machine_state.specs.Core as core
use Rattle.machine_state.specs.Core.{Core, has_ended, thread_at}
use Rattle.machine_state.specs.Places.{is_suspended}
use Rattle.machine_state.specs.Acts.{State, Act, Change, Changes, core_after, stepped}
use Rattle.instruction_effect.proofs.ActRules.{ActivityHolds, Follow, FrameHolds, ObjectHolds, ThreadHolds}
use Rattle.machine_steps.specs.World.{World}
use Rattle.machine_steps.specs.Actors.{machine_acts, next_acts, next_call, phase_acts, starts}
use Rattle.machine_steps.specs.Bounds.{IsBounded}
use Rattle.machine_steps.specs.Calls.{NextCall, has_calls, performs}
use Rattle.machine_steps.specs.Reachable.{CallsRecord}
use Rattle.machine_steps.specs.Replay.{opening, state}
use Rattle.machine_steps.specs.Sites.{classes_now}
use Rattle.machine_steps.specs.SoundHeaps.{ActivityNamesThere, AreReferencesThere, FrameNamesThere, HeapsAreSound, ReferencesAreThere, ThreadNamesThere}
use Rattle.machine_steps.specs.ThreadRules.{is_live, rule_of, thread_rules}
use Rattle.machine_steps.specs.Threads.{rule_acts, thread_acts_of}
use Rattle.class_tree.specs.Tree.{first_of}
use Rattle.machine_steps.specs.ThreadRules.{ThreadRule}
use Rattle.machine_steps.proofs.Following.{steps_follow}
use Rattle.machine_steps.proofs.HeapActs.{KeepsHeap, NamesNow, heap_step_rules}
use Rattle.machine_steps.proofs.NextTakes.{next_takes}
use Rattle.machine_steps.proofs.OwnActs.{performed_follow}
use Rattle.machine_steps.proofs.PinnedFrames.{AllPinned, PinThere}
use Rattle.machine_steps.proofs.Seen.{apart, kept_after, stepped_keeps}
use Rattle.machine_steps.proofs.SoundCores.{HasStarted, IsSoundCore, IsUnstarted, Performs, core_alike, core_stays, opening_sound, opening_unstarted, performs_keeps, phase_keep, started_alike, started_stays, starts_keep, unstarted_alike, unstarted_stays}
use Rattle.machine_steps.proofs.StepRules.{seen}

-- ---- what every state has

record IsSoundState (s : State) : Type 0 where
  core : IsSoundCore s.core
  stage : HasStarted s.core ⊎ IsUnstarted s.core

-- before the machine starts no thread has a step
not_live : (s : State) (t : ThreadNo) (thread : core.Thread) → s.core.phase ≡ phases.OnLoad → rule_of s t thread ≡ None
not_live s t thread is =
    let asks = λ (phase : Phase). is_live phase && not (has_calls s.core Vm) && not (has_ended thread) && not (is_suspended s.trace t) in
    ap (λ (phase : Phase). cond (asks phase) (first_of (λ (rule : Option ThreadRule). rule) (thread_rules s.core t thread)) None) is

no_thread : (w : World) (s : State) (t : ThreadNo) → s.core.phase ≡ phases.OnLoad → (acts : List Act) → next_acts w s (Thread t) ≡ Some acts → ⊥
no_thread w s t phase acts is = by (thread_at s.core t) is
  where
    by : (found : Option core.Thread) → (found >>= thread_acts_of w s (classes_now w s) t) ≡ Some acts → ⊥
    by None is = absurd cc
    by (Some thread) is = by_rule (rule_of s t thread) (not_live s t thread phase) is
      where
        by_rule : (rule : Option ThreadRule) → rule ≡ None → (rule >>= rule_acts w s (classes_now w s) t thread) ≡ Some acts → ⊥
        by_rule None none is = absurd cc
        by_rule (Some rule) none is = absurd cc

module _ (w : World) (records : CallsRecord w) where
  -- ---- once the machine has started

  abbrev Takes : (Core → Act → Type 0) → Change → Type 0
  Takes Ok c = (now : Core) → Ok now (Changes c)

  call_keeps : (s : State) (actor : Actor) (c : NextCall) → next_call w s actor ≡ Some c → (now : Core) → Follow KeepsHeap now (performs w s actor c)
  call_keeps s actor c is =
      performed_follow KeepsHeap (λ now what. tt) w records s actor c
      (next_takes (Takes KeepsHeap) (λ a now. tt) (λ e now. tt) w s actor c is)

  started_step : (s : State) (actor : Actor) (acts : List Act) → next_acts w s actor ≡ Some acts → IsSoundCore s.core → HasStarted s.core
      → IsSoundState (stepped w.job actor s acts)
  started_step s actor acts is h started =
      let now = seen s.core in
      let values = (core_alike s.core now refl h).values in
      let calls = λ (c : NextCall) (next : next_call w s actor ≡ Some c). call_keeps s actor c next now in
      let phase = phase_keep s.core now refl (started_alike s.core now refl started) in
      let follow = steps_follow w KeepsHeap NamesNow s actor (heap_step_rules w (classes_now w s)) values calls phase acts is in
      record {
        core = stepped_keeps KeepsHeap IsSoundCore core_stays core_alike w.job actor s acts follow h;
        stage = inl (stepped_keeps KeepsHeap HasStarted started_stays started_alike w.job actor s acts follow started);
      }

  -- ---- before

  call_performs : (s : State) (actor : Actor) (c : NextCall) → next_call w s actor ≡ Some c → (now : Core)
      → Follow Performs now (performs w s actor c)
  call_performs s actor c is =
      performed_follow Performs (λ now what. tt) w records s actor c
      (next_takes (Takes Performs) (λ a now. tt) (λ e now. tt) w s actor c is)

  called_step : (s : State) (actor : Actor) (c : NextCall) (acts : List Act) → next_call w s actor ≡ Some c → Some (performs w s actor c) ≡ Some acts
      → IsSoundCore s.core → IsUnstarted s.core → IsSoundState (stepped w.job actor s acts)
  called_step s actor c acts next is h un =
      let same : performs w s actor c ≡ acts = cc in
      let follow = subst (λ (a : List Act). Follow Performs (seen s.core) a) same (call_performs s actor c next (seen s.core)) in
      record {
        core = stepped_keeps Performs IsSoundCore (λ now a ok k. core_stays now a (performs_keeps now a ok) k) core_alike w.job actor s acts follow h;
        stage = inr (stepped_keeps Performs IsUnstarted unstarted_stays unstarted_alike w.job actor s acts follow un);
      }

  first_step : (s : State) (acts : List Act) → starts ≡ acts → IsSoundCore s.core → IsUnstarted s.core → IsSoundState (stepped w.job Vm s acts)
  first_step s acts same h un =
      let now = seen s.core in
      let all = starts_keep now (core_alike s.core now refl h) (unstarted_alike s.core now refl un) in
      subst (λ (a : List Act). IsSoundState (stepped w.job Vm s a)) same (record {
        core = stepped_keeps KeepsHeap IsSoundCore core_stays core_alike w.job Vm s starts all.0 h;
        stage = inl (started_alike (core_after 0 now starts) (stepped w.job Vm s starts).core (sym (apart w.job Vm s starts)) all.1);
      })

  unstarted_step : (s : State) (actor : Actor) (acts : List Act) → next_acts w s actor ≡ Some acts → IsSoundCore s.core → IsUnstarted s.core
      → IsSoundState (stepped w.job actor s acts)
  unstarted_step s Vm acts is h un = by (next_call w s Vm) refl is
    where
      by : (next : Option NextCall) → next_call w s Vm ≡ next → machine_acts w s next ≡ Some acts → IsSoundState (stepped w.job Vm s acts)
      by (Some c) next is = called_step s Vm c acts next is h un
      by None next is =
          let begins : Some starts ≡ Some acts = ap (phase_acts s.core) (sym un.phase) ∙ is in
          first_step s acts (let same : starts ≡ acts = cc in same) h un
  unstarted_step s (Thread t) acts is h un = absurd (no_thread w s t un.phase acts is)
  unstarted_step s (Agent env) acts is h un = by (next_call w s (Agent env)) refl is
    where
      by : (next : Option NextCall) → next_call w s (Agent env) ≡ next → option_map (performs w s (Agent env)) next ≡ Some acts
          → IsSoundState (stepped w.job (Agent env) s acts)
      by (Some c) next is = called_step s (Agent env) c acts next is h un
      by None next is = absurd cc

  -- ---- schedules

  step_sound : (s : State) (actor : Actor) (acts : List Act) → IsSoundState s → next_acts w s actor ≡ Some acts
      → IsSoundState (stepped w.job actor s acts)
  step_sound s actor acts h is =
      ⊎_elim (λ started. started_step s actor acts is h.core started) (λ un. unstarted_step s actor acts is h.core un) h.stage

  opening_is_sound : IsBounded w.job → IsSoundState (opening w.job)
  unfolding opening
  opening_is_sound bounded = record { core = opening_sound w.job bounded; stage = inr (opening_unstarted w.job) }

  sound_after : (schedule : List Actor) → IsBounded w.job → IsSoundState (state w schedule)
  sound_after schedule bounded =
      kept_after w IsSoundState (opening_is_sound bounded) (λ front actor acts h is. step_sound (state w front) actor acts h is) schedule

-- ---- as the laws say it

activity_there : (c : Core) (activity : Activity) → ActivityHolds NamesNow c activity → ActivityNamesThere c.heap activity
activity_there c (Throwing o) h = h
activity_there c (Waiting o) h = h
activity_there c (Wanting o) h = h
activity_there c Free h = tt
activity_there c (Joining other) h = tt

frames_there : (c : Core) (frames : List core.StackFrame) → AllByRecursion (FrameHolds NamesNow c) frames → AllByRecursion (PinThere c.heap) frames
    → AllByRecursion (FrameNamesThere c.heap) frames
frames_there c [] h k = tt
frames_there c (Java f ∷ below) h k = (record { locals = h.0.0; operands = h.0.1; monitor = k.0 }, frames_there c below h.1 k.1)
frames_there c (Init class ∷ below) h k = (tt, frames_there c below h.1 k.1)

threads_there : (c : Core) (threads : List core.Thread) → AllByRecursion (ThreadHolds NamesNow c) threads → AllPinned c.heap threads
    → AllByRecursion (ThreadNamesThere c.heap) threads
threads_there c [] h k = tt
threads_there c (t ∷ threads) h k = (
  record { object = h.0.object; activity = activity_there c t.activity h.0.activity; frames = frames_there c t.frames h.0.frames k.0 },
  threads_there c threads h.1 k.1,
)

objects_there : (c : Core) (objects : List Object) → AllByRecursion (ObjectHolds NamesNow c) objects → AllByRecursion (RefersThere c.heap) objects
objects_there c [] h = tt
objects_there c (o ∷ objects) h = (
  record { values = All-from_recursion (NamesThere c.heap) (values_of o.content) h.0.values; side = h.0.side },
  objects_there c objects h.1,
)

references_there : (c : Core) → IsSoundCore c → AreReferencesThere c
references_there c h = record {
  threads = threads_there c c.threads h.values.threads h.pins;
  statics = h.values.statics;
  objects = All-from_recursion (RefersThere c.heap) c.heap.objects (objects_there c c.heap.objects h.values.objects);
  monitors = h.values.owned;
}

-- ---- the laws

pub heaps_are_sound : HeapsAreSound
heaps_are_sound w schedule records bounded = (sound_after w records schedule bounded).core.heap

pub references_are_there : ReferencesAreThere
references_are_there w schedule records bounded =
    references_there (state w schedule).core (sound_after w records schedule bounded).core
