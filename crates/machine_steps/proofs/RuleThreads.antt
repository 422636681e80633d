-- What the rule of a thread's next step says of the thread.
use Rattle.std.proofs.Common.{◌≡◌, Bool, true, false, List, [], ◌∷◌, Option, Some, None, refl, subst}
use Rattle.std.specs.Prelude.{option_map, if◌then◌else◌}
use Rattle.std.specs.Option.{option_or}
use Rattle.ti_ids.specs.declared.number.ThreadNo.{ThreadNo}
use Rattle.ti_ids.specs.declared.number.ObjNo.{ObjNo}
use Rattle.ti_ids.specs.declared.actor.Actor.TheVariants as actors
use Rattle.ti_ids.specs.declared.state.Activity.{Activity}
use Rattle.ti_ids.specs.declared.state.Activity.TheVariants.{Throwing, Waiting, Joining, Wanting}
use Rattle.ti_ids.specs.declared.state.ThreadState.{ThreadState}
use Rattle.ti_ids.specs.declared.state.ThreadState.TheVariants.{Unbegun, Entering}
use Rattle.class_tree.specs.Tree.{first_of}
use Rattle.thread_frames.specs.declared.frame.StackEntry.TheVariants.{Java, Init}
use Rattle.machine_state.specs.Core.{Core, Pending, StackFrame, Thread}
use Rattle.machine_state.specs.Acts.{State}
use Rattle.machine_steps.specs.Calls.{waiting_call}
use Rattle.machine_steps.specs.ThreadRules.{Begins, Ends, EntersMethod, Executes, Initializes, Joins, Performs, Stays, ThreadRule, Unwinds, Wakes, begins_in, enters_in, goes_on_in, is_to_have, joins_in, may_act, rule_of, stays_in, thread_rules, unwinds_in, wakes_in}

-- The thread throws this object, and this is its topmost frame; it waits for this one; this frame is on top; it has no frame.
abbrev pub IsOf : Thread → ThreadRule → Type 0
IsOf thread (Unwinds o f) = (thread.activity ≡ Throwing o) × (below : List StackFrame) × (thread.frames ≡ f ∷ below)
IsOf thread (Wakes o) = thread.activity ≡ Waiting o
IsOf thread (Executes f) = (below : List StackFrame) × (thread.frames ≡ Java f ∷ below)
IsOf thread EntersMethod = thread.frames ≡ []
IsOf thread rule = Unit {0}

module _ (thread : Thread) where
  abbrev IfOf : Option ThreadRule → Type 0
  IfOf o = (rule : ThreadRule) → o ≡ Some rule → IsOf thread rule

  or_of : (a b : Option ThreadRule) → IfOf a → (a ≡ None → IfOf b) → IfOf (option_or a b)
  or_of None b h k = k refl
  or_of (Some rule) b h k = h

  none_of : IfOf None
  none_of rule is = absurd cc

  some_of : (rule : ThreadRule) → IsOf thread rule → IfOf (Some rule)
  some_of rule h other is = let same : rule ≡ other = cc in subst (IsOf thread) same h

  performs_of : (p : Option Pending) → IfOf (option_map Performs p)
  performs_of None = none_of
  performs_of (Some p) = some_of (Performs p) tt

  begins_of : (state : ThreadState) → IfOf (begins_in state)
  begins_of Unbegun = some_of Begins tt
  begins_of state = none_of

  unwinds_of : (activity : Activity) (frames : List StackFrame) → thread.activity ≡ activity → thread.frames ≡ frames
      → IfOf (unwinds_in activity frames)
  unwinds_of (Throwing o) (f ∷ below) is top = some_of (Unwinds o f) (is, below, top)
  unwinds_of (Throwing o) [] is top = some_of Ends tt
  unwinds_of activity frames is top = none_of

  wakes_of : (activity : Activity) → thread.activity ≡ activity → IfOf (wakes_in activity)
  wakes_of (Waiting o) is = some_of (Wakes o) is
  wakes_of activity is = none_of

  joins_of : (activity : Activity) → IfOf (joins_in activity)
  joins_of (Joining other) = some_of (Joins other) tt
  joins_of activity = none_of

  stays_by : (o : ObjNo) (b : Bool) → IfOf (if b then None else Some (Stays o))
  stays_by o true = none_of
  stays_by o false = some_of (Stays o) tt

  stays_of : (core : Core) (activity : Activity) → IfOf (stays_in core activity)
  stays_of core (Wanting o) = stays_by o (is_to_have core o)
  stays_of core activity = none_of

  goes_on_of : (frames : List StackFrame) → thread.frames ≡ frames → IfOf (goes_on_in frames)
  goes_on_of [] top = none_of
  goes_on_of (Init n ∷ below) top = some_of (Initializes n) tt
  goes_on_of (Java f ∷ below) top = some_of (Executes f) (below, top)

  no_frames : (frames : List StackFrame) → goes_on_in frames ≡ None → frames ≡ []
  no_frames [] is = refl
  no_frames (Init n ∷ below) is = absurd cc
  no_frames (Java f ∷ below) is = absurd cc

  enters_of : (state : ThreadState) → thread.frames ≡ [] → IfOf (enters_in state)
  enters_of Entering none = some_of EntersMethod none
  enters_of state none = none_of

  first_of_all : (core : Core) (t : ThreadNo) → IfOf (first_of (λ (rule : Option ThreadRule). rule) (thread_rules core t thread))
  first_of_all core t =
      or_of (option_map Performs (waiting_call core (actors.Thread t))) _ (performs_of (waiting_call core (actors.Thread t)))
      (λ a. or_of (begins_in thread.state) _ (begins_of thread.state)
      (λ b. or_of (unwinds_in thread.activity thread.frames) _ (unwinds_of thread.activity thread.frames refl refl)
      (λ c. or_of (wakes_in thread.activity) _ (wakes_of thread.activity refl)
      (λ d. or_of (joins_in thread.activity) _ (joins_of thread.activity)
      (λ e. or_of (stays_in core thread.activity) _ (stays_of core thread.activity)
      (λ f. or_of (goes_on_in thread.frames) _ (goes_on_of thread.frames refl)
      (λ none. or_of (enters_in thread.state) _ (enters_of thread.state (no_frames thread.frames none)) (λ g. some_of Ends tt))))))))

  rule_by : (s : State) (t : ThreadNo) (may : Bool)
      → IfOf (if may then first_of (λ (rule : Option ThreadRule). rule) (thread_rules s.core t thread) else None)
  rule_by s t true = first_of_all s.core t
  rule_by s t false = none_of

  pub rule_is_of : (s : State) (t : ThreadNo) (rule : ThreadRule) → rule_of s t thread ≡ Some rule → IsOf thread rule
  rule_is_of s t = rule_by s t (may_act s t thread)
