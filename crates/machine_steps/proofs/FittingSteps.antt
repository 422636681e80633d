-- The acts of every step fit: either it records events alone and pushes frames of methods that have a body, or it pushes none, and the
-- classes that it loads or redefines are of bytes.
use Rattle.base_set.specs.BaseSet.{base_set}
use Rattle.class_tree.specs.Ranges.{are_bytes}
use Rattle.class_tree.specs.declared.body.Code.{Code}
use Rattle.instruction_effect.proofs.FittingForms.{AllFit, Fits, FitsOutcome}
use Rattle.instruction_effect.proofs.FollowingForms.{IsOver}
use Rattle.instruction_effect.specs.Arguments.{frame_of, is_deep, is_refused, newest_body}
use Rattle.instruction_effect.specs.Outcomes.{Fills, Goes, NeedsInit, NeedsLink, NeedsLoad, Outcome, Throws, ThrowsObject, heap_has_room, makes_announced}
use Rattle.java_heap.specs.Heaps.{HeapValue, literal_of, next_number}
use Rattle.java_heap.specs.Objects.{fresh}
use Rattle.java_heap.specs.declared.object.Content.TheVariants.{Fields, Literal}
use Rattle.java_heap.specs.declared.object.Object.{Object}
use Rattle.java_heap.specs.declared.object.TheConstants.{STRING}
use Rattle.jv_names.specs.Names.{Name}
use Rattle.link_versions.specs.Classes.{Class}
use Rattle.machine_state.specs.Acts.{Act, AddsClass, Changes, EntersInitializer, Fails, Makes, Notes, Pushes, PushesInit, SetsActivity, SetsClass, SetsPhase, State, core_after, raises}
use Rattle.machine_state.specs.Chains.{rules_do, chain}
use Rattle.machine_state.specs.Core.{Core, MethodFrame, failure_of, frames_at}
use Rattle.agent_types.specs.declared.call.Call.{Call}
use Rattle.machine_state.specs.Jobs.{File, Job}
use Rattle.machine_state.specs.Bytes.{HasBytes}
use Rattle.machine_state.specs.Linked.{tree_of}
use Rattle.machine_state.specs.Trace.{ClassLoad, Event, Exception, LoadFailed, Loaded, Started, VMObjectAlloc, VMStart}
use Rattle.machine_steps.proofs.NextTakes.{Takes}
use Rattle.machine_steps.specs.Actors.{adds_base, makes_first, starts}
use Rattle.ti_codes.specs.declared.error.ErrorCode.{ErrorCode}
use Rattle.machine_steps.specs.Calls.{NextCall, answer_to, performs, refusal_of, refused, reply, taken}
use Rattle.machine_steps.specs.Initializing.{Constant, Constants, Is, Text, begins_init, begins_with, constants_at, constants_made, ends_init, enters_initializer, enters_or_ends, init_step, init_step_in, init_supers, initializer, must_begin, no_constants, overflow_name, progress_step, pushes_initializer, set_to, set_to_new, state_of_class, string_at, string_name, was_entered, with_string}
use Rattle.machine_steps.specs.Linking.{link_step, links_checked, links_in, next_link, passes_check, verify_name}
use Rattle.machine_steps.specs.Loading.{Load, Loads, Met, Refuses, Repeats, bytes_given, is_accepted, load_ends, load_step, loads, next_load, turn_notes, turns_from}
use Rattle.machine_steps.specs.Reachable.{FitsCall, IsOrderly}
use Rattle.ti_ids.specs.declared.state.Activity.{Activity}
use Rattle.ti_ids.specs.declared.state.Activity.TheVariants.{Free, Throwing, Waiting, Joining, Wanting}
use Rattle.instruction_effect.specs.Monitors.{wish_ends}
use Rattle.machine_steps.specs.Threads.{activity_of, resolved}
use Rattle.machine_steps.specs.Throwing.{base_number, class_name_of, exception_raised, full_name, kept_error, name_of, place_of, throws, throws_among, throws_full, throws_new, throws_new_among, top_method}
use Rattle.machine_steps.specs.World.{World, Answer}
use Rattle.std.proofs.Common.{Bool, List, None, Option, Some, [], cond, false, inl, inr, length, map, refl, subst, true, ℕ, ◌++◌, ◌+◌, ◌∷◌, ◌≡◌, ◌⊎◌}
use Rattle.std.specs.List.{AllByRecursion}
use Rattle.std.specs.Option.{option_map_or}
use Rattle.std.specs.Prelude.{bytes_eq, codes, find, option_map, unwrap_or}
use Rattle.ti_ids.specs.Maybe.{◌>>=◌}
use Rattle.ti_ids.specs.declared.actor.Actor.{Actor}
use Rattle.ti_ids.specs.declared.actor.Actor.TheVariants.{Thread}
use Rattle.ti_ids.specs.declared.number.ClassNo.{ClassNo}
use Rattle.ti_ids.specs.declared.number.EnvNo.{EnvNo}
use Rattle.ti_ids.specs.declared.number.MethodNo.{MethodNo}
use Rattle.ti_ids.specs.declared.number.ObjNo.{ObjNo}
use Rattle.ti_ids.specs.declared.number.ThreadNo.{ThreadNo}
use Rattle.ti_ids.specs.declared.state.Activity.{Activity}
use Rattle.ti_ids.specs.declared.state.Activity.TheVariants.{Throwing}
use Rattle.ti_ids.specs.declared.state.InitState.{InitState}
use Rattle.ti_ids.specs.declared.value.Value.{Value}
use Rattle.transform_chain.specs.Turns.{fold_from}
use Rattle.transform_chain.specs.declared.folded.Turn.{Turn}
use Rattle.ti_ids.specs.declared.actor.Actor.TheVariants as actors
use Rattle.ti_codes.specs.declared.phase.Phase.TheVariants as phases
use Rattle.ti_ids.specs.declared.state.InitState.TheVariants as states

pub append_all : {A : Type 0} (P : A → Type 0) (xs ys : List A) → AllByRecursion P xs → AllByRecursion P ys → AllByRecursion P (xs ++ ys)
append_all P [] ys h k = k
append_all P (x ∷ xs) ys h k = (h.0, append_all P xs ys h.1 k)

pub all_if : {A : Type 0} (P : A → Type 0) (b : Bool) (xs ys : List A) → AllByRecursion P xs → AllByRecursion P ys → AllByRecursion P (cond b xs ys)
all_if P true xs ys h k = h
all_if P false xs ys h k = k

-- ---- the bytes of a file

given_if : (b : Bool) (f : File) (rest : Option File) → are_bytes f.bytes ≡ true → are_bytes (unwrap_or (option_map (λ f. f.bytes) rest) []) ≡ true
    → are_bytes (unwrap_or (option_map (λ f. f.bytes) (cond b (Some f) rest)) []) ≡ true
given_if true f rest h k = h
given_if false f rest h k = k

given_by : (p : File → Bool) (files : List File) → AllByRecursion (λ f. are_bytes f.bytes ≡ true) files
    → are_bytes (unwrap_or (option_map (λ f. f.bytes) (find p files)) []) ≡ true
given_by p [] h = refl
given_by p (f ∷ files) h = given_if (p f) f (find p files) h.0 (given_by p files h.1)

given_bytes : (job : Job) (name : Name) → HasBytes job → are_bytes (bytes_given job name) ≡ true
given_bytes job name h = given_by (λ f. bytes_eq f.name name) job.files h

-- ---- exceptions

module _ (P : Act → Type 0) (sets : (t : ThreadNo) (a : Activity) → P (Changes (SetsActivity t a))) (makes : (o : Object) → P (Changes (Makes o))) (raised : (e : Event) → P (raises e)) where
  abbrev Each : List Act → Type 0
  Each acts = AllByRecursion P acts

  pub all_raised : (events : List Event) → Each (map raises events)
  all_raised [] = tt
  all_raised (e ∷ events) = (raised e, all_raised events)

  exception_fit : (classes : List Class) (t : ThreadNo) (class : Name) (m : Option MethodFrame) → Each (exception_raised classes t class m)
  exception_fit classes t class None = tt
  exception_fit classes t class (Some f) = (raised (Exception t (place_of classes f) class), tt)

  pub among_fit : (classes : List Class) (core : Core) (t : ThreadNo) (before events : List Act) (o : ObjNo) (class : Name) → Each before → Each events
      → Each (throws_among classes core t before events o class)
  among_fit classes core t before events o class h k =
      append_all P (before ++ Changes (SetsActivity t (Throwing o)) ∷ events)
      (exception_raised classes t class (top_method (frames_at (core_after 0 core before) t)))
      (append_all P before (Changes (SetsActivity t (Throwing o)) ∷ events) h (sets t (Throwing o), k))
      (exception_fit classes t class (top_method (frames_at (core_after 0 core before) t)))

  pub throws_fit : (classes : List Class) (core : Core) (t : ThreadNo) (before : List Act) (o : ObjNo) (class : Name) → Each before
      → Each (throws classes core t before o class)
  throws_fit classes core t before o class h = among_fit classes core t before [] o class h tt

  pub new_among_fit : (classes : List Class) (core : Core) (t : ThreadNo) (before events : List Act) (name : Name) → Each before → Each events
      → Each (throws_new_among classes core t before events name)
  new_among_fit classes core t before events name h k =
      let heap = (core_after 0 core before).heap in
      let making = makes_announced t heap (base_number classes name) (Fields []) name in
      let made : Each making = (makes (fresh (base_number classes name) (Fields [])), (raised (VMObjectAlloc t (next_number heap) name), tt)) in
      all_if P (heap_has_room heap (Fields [])) (throws_among classes core t (before ++ making) events (next_number heap) name)
      (throws_among classes core t before events kept_error full_name)
      (among_fit classes core t (before ++ making) events (next_number heap) name (append_all P before making h made) k)
      (among_fit classes core t before events kept_error full_name h k)

  pub new_fit : (classes : List Class) (core : Core) (t : ThreadNo) (before : List Act) (name : Name) → Each before
      → Each (throws_new classes core t before name)
  new_fit classes core t before name h = new_among_fit classes core t before [] name h tt

-- ---- calls

abbrev AllCall : List Act → Type 0
AllCall acts = AllByRecursion FitsCall acts

-- the change that takes a call fits
abbrev pub TakesFit : Option NextCall → Type 0
TakesFit next = Takes (λ c. FitsCall (Changes c)) next

answered_fit : (w : World) (s : State) (env : EnvNo) (call : Call) (actor : Actor) (refusal : Option ErrorCode) → IsOrderly w
    → AllCall (elim refusal as (λ _. Answer) [ Some code ↦ refused code | None ↦ w.answers s env call actor ]).acts
answered_fit w s env call actor (Some code) plain = tt
answered_fit w s env call actor None plain = plain.calls s env call actor

pub performed_fit : (w : World) (s : State) (actor : Actor) (c : NextCall) → IsOrderly w → FitsCall (Changes c.take) → AllCall (performs w s actor c)
performed_fit w s actor c plain h =
    let answer : Answer = answer_to w s actor c in (
      h,
      append_all FitsCall answer.acts (reply c answer ∷ [])
          (answered_fit w (taken c s) c.pending.environment c.pending.call actor (refusal_of w s actor c) plain) (tt, tt),
    )

-- ---- the machine itself

mapped_fit : {A : Type 0} (f : A → Act) (xs : List A) → ((x : A) → FitsCall (f x)) → AllCall (map f xs)
mapped_fit f [] h = tt
mapped_fit f (x ∷ xs) h = (h x, mapped_fit f xs h)

pub starts_fit : AllCall starts
starts_fit =
    append_all FitsCall (adds_base ++ makes_first) (Changes (SetsPhase phases.Start) ∷ Notes Started ∷ raises VMStart ∷ [])
    (append_all FitsCall adds_base makes_first (mapped_fit (λ c. Changes (AddsClass c.name states.Initialized)) base_set (λ c. tt)) (tt, (tt, (tt, (tt, tt))))) (tt, (tt, (tt, tt)))

pub calls_raised : (events : List Event) → AllCall (map raises events)
calls_raised events = all_raised FitsCall (λ t a. tt) (λ o. tt) (λ e. tt) events

-- ---- what is kept of a step

-- its acts fit in one of the two ways
abbrev pub StepFits : List Class → List Act → Type 0
StepFits now acts = AllFit now acts ⊎ AllByRecursion FitsCall acts

module _ (now : List Class) where
  abbrev Fit : List Act → Type 0
  Fit acts = AllFit now acts

  -- so do those that an answer gives
  abbrev Gives : Option (List Act) → Type 0
  Gives next = (acts : List Act) → next ≡ Some acts → StepFits now acts

  pub events_fit : (acts : List Act) → Fit acts → Gives (Some acts)
  events_fit acts h other is = let same : acts ≡ other = cc in subst (StepFits now) same (inl h)

  pub calls_fit : (acts : List Act) → AllCall acts → Gives (Some acts)
  calls_fit acts h other is = let same : acts ≡ other = cc in subst (StepFits now) same (inr h)

  pub none_fits : Gives None
  none_fits acts is = absurd cc

  -- those that an answer gives record events alone
  abbrev pub Raises : Option (List Act) → Type 0
  Raises next = (acts : List Act) → next ≡ Some acts → Fit acts

  pub raises_fit : (next : Option (List Act)) → Raises next → Gives next
  raises_fit next h acts is = inl (h acts is)

  pub some_raises : (acts : List Act) → Fit acts → Raises (Some acts)
  some_raises acts h other is = let same : acts ≡ other = cc in subst Fit same h

  pub none_raises : Raises None
  none_raises acts is = absurd cc

  pub bind_fits : {A : Type 0} (o : Option A) (f : A → Option (List Act)) → ((x : A) → o ≡ Some x → Gives (f x)) → Gives (o >>= f)
  bind_fits None f h acts is = absurd cc
  bind_fits (Some x) f h acts is = h x refl acts is

  pub new_fits : (classes : List Class) (core : Core) (t : ThreadNo) (before : List Act) (name : Name) → Fit before
      → Fit (throws_new classes core t before name)
  new_fits classes core t before name h = new_fit (Fits now) (λ t a. tt) (λ o. tt) (λ e. tt) classes core t before name h

  pub new_among_fits : (classes : List Class) (core : Core) (t : ThreadNo) (before events : List Act) (name : Name) → Fit before → Fit events
      → Fit (throws_new_among classes core t before events name)
  new_among_fits classes core t before events name h k =
      new_among_fit (Fits now) (λ t a. tt) (λ o. tt) (λ e. tt) classes core t before events name h k

  pub events_raised : (events : List Event) → Fit (map raises events)
  events_raised events = all_raised (Fits now) (λ t a. tt) (λ o. tt) (λ e. tt) events

  pub thrown_fits : (classes : List Class) (core : Core) (t : ThreadNo) (before : List Act) (o : ObjNo) (class : Name) → Fit before
      → Fit (throws classes core t before o class)
  thrown_fits classes core t before o class h = throws_fit (Fits now) (λ t a. tt) (λ o. tt) (λ e. tt) classes core t before o class h

  -- ---- loads

  turns_fit : (class : Name) (k n : ℕ) (turns : List Turn) → AllCall (turns_from class k n turns)
  turns_fit class k n [] = tt
  turns_fit class k n (turn ∷ turns) = (tt, turns_fit class (k + 1) n turns)

  load_ends_fit : (core : Core) (classes : List Class) (t : ThreadNo) (name : Name) (bytes : List ℕ) (notes : List Act) (accepted : Bool)
      → AllCall notes → are_bytes bytes ≡ true → AllCall (load_ends core classes t name bytes notes accepted)
  load_ends_fit core classes t name bytes notes true h k =
      append_all FitsCall notes (Notes (Loaded name bytes) ∷ Changes (AddsClass name states.Loaded) ∷ raises (ClassLoad t name) ∷ []) h
      (k, (tt, (tt, tt)))
  load_ends_fit core classes t name bytes notes false h k =
      let error = codes "java/lang/ClassFormatError" in
      let failing : List Act = Notes (LoadFailed name error) ∷ Changes (Fails name error) ∷ [] in
      new_fit FitsCall (λ t a. tt) (λ o. tt) (λ e. tt) classes core t (notes ++ failing) error (append_all FitsCall notes failing h (tt, (tt, tt)))

  load_fits : (w : World) (s : State) (classes : List Class) (t : ThreadNo) (load : Load) → IsOrderly w → Gives (load_step w s classes t load)
  load_fits w s classes t Met plain = none_fits
  load_fits w s classes t (Loads name) plain =
      let bytes = bytes_given w.job name in
      let all = fold_from name 1 (chain w.job (rules_do w.turns) s.trace (actors.Thread t)) bytes in
      calls_fit (loads w s classes t name)
      (load_ends_fit s.core classes t name bytes (turn_notes name all.turns) (is_accepted name (tree_of bytes) (tree_of all.made))
      (turns_fit name 1 (length all.turns) all.turns) (given_bytes w.job name plain.files))
  load_fits w s classes t (Refuses name error) plain =
      calls_fit (throws_new classes s.core t (Notes (LoadFailed name error) ∷ Changes (Fails name error) ∷ []) error)
      (new_fit FitsCall (λ t a. tt) (λ o. tt) (λ e. tt) classes s.core t (Notes (LoadFailed name error) ∷ Changes (Fails name error) ∷ []) error
      (tt, (tt, tt)))
  load_fits w s classes t (Repeats error) plain = events_fit (throws_new classes s.core t [] error) (new_fits classes s.core t [] error tt)

  -- ---- links

  checked_fits : (s : State) (classes : List Class) (t : ThreadNo) (n : ClassNo) (name : Name) (passes : Bool)
      → Fit (links_checked s classes t n name passes)
  checked_fits s classes t n name true = (tt, (tt, tt))
  checked_fits s classes t n name false = new_fits classes s.core t (Changes (Fails name verify_name) ∷ []) verify_name (tt, tt)

  links_fit : (w : World) (s : State) (classes : List Class) (t : ThreadNo) (n : ClassNo) (name : Name) (failed : Option Name)
      → Fit (links_in w s classes t n name failed)
  links_fit w s classes t n name (Some error) = new_fits classes s.core t [] error tt
  links_fit w s classes t n name None = checked_fits s classes t n name (passes_check w classes n)

  pub link_fits : (w : World) (s : State) (classes : List Class) (t : ThreadNo) (n : ClassNo) → Fit (link_step w s classes t n)
  link_fits w s classes t n =
      let m = next_link classes n in links_fit w s classes t m (name_of classes m) (failure_of s.core (name_of classes m))

  -- ---- initializations

  record ConstantsFit (c : Constants) : Type 0 where
    makes : Fit c.makes
    sets : Fit c.sets

  set_fits : (n : ClassNo) (place : ℕ) (v : Value) (c : Constants) → ConstantsFit c → ConstantsFit (set_to n place v c)
  set_fits n place v c h = record { makes = h.makes; sets = (tt, h.sets) }

  constants_if : (b : Bool) (c d : Constants) → ConstantsFit c → ConstantsFit d → ConstantsFit (cond b c d)
  constants_if true c d h k = h
  constants_if false c d h k = k

  set_new_fits : (t : ThreadNo) (n : ClassNo) (place : ℕ) (units : List ℕ) (heap : HeapValue) (c : Constants) → ConstantsFit c
      → ConstantsFit (set_to_new t n place units heap c)
  set_new_fits t n place units heap c h =
      constants_if (heap_has_room heap (Literal units))
      (record (set_to n place (string_at (next_number heap)) c) { makes = makes_announced t heap STRING (Literal units) string_name ++ c.makes })
      (record no_constants { full = true })
      (record {
        makes = append_all (Fits now) (makes_announced t heap STRING (Literal units) string_name) c.makes (tt, (tt, tt)) h.makes;
        sets = (tt, h.sets);
      })
      (record { makes = tt; sets = tt })

  text_fits : (t : ThreadNo) (n : ClassNo) (place : ℕ) (units : List ℕ) (heap : HeapValue) (found : Option ObjNo) (rest more : Constants)
      → ConstantsFit rest → ConstantsFit more
      → ConstantsFit (elim found as (λ _. Constants) [ Some o ↦ set_to n place (string_at o) rest | None ↦ set_to_new t n place units heap more ])
  text_fits t n place units heap (Some o) rest more h k = set_fits n place (string_at o) rest h
  text_fits t n place units heap None rest more h k = set_new_fits t n place units heap more k

  constants_fit : (t : ThreadNo) (n : ClassNo) (heap : HeapValue) (constants : List (ℕ × Constant)) → ConstantsFit (constants_made t n heap constants)
  constants_fit t n heap [] = record { makes = tt; sets = tt }
  constants_fit t n heap ((place, Is v) ∷ constants) = set_fits n place v (constants_made t n heap constants) (constants_fit t n heap constants)
  constants_fit t n heap ((place, Text units) ∷ constants) =
      text_fits t n place units heap (literal_of heap units) (constants_made t n heap constants) (constants_made t n (with_string heap units) constants)
      (constants_fit t n heap constants) (constants_fit t n (with_string heap units) constants)

  begins_fit : (s : State) (classes : List Class) (t : ThreadNo) (n : ClassNo) (made : Constants) → ConstantsFit made
      → Fit (begins_with s classes t n made)
  begins_fit s classes t n made h =
      let pushing : List Act = Changes (SetsClass n (states.InProgress t)) ∷ Changes (PushesInit t n) ∷ [] in
      all_if (Fits now) made.full (throws_full classes s.core t made.makes) _
      (thrown_fits classes s.core t made.makes kept_error full_name h.makes)
      (all_if (Fits now) (is_deep (frames_at s.core t) 0) (throws_new classes s.core t made.makes overflow_name) (made.makes ++ made.sets ++ pushing)
      (new_fits classes s.core t made.makes overflow_name h.makes)
      (append_all (Fits now) (made.makes ++ made.sets) pushing (append_all (Fits now) made.makes made.sets h.makes h.sets) (tt, (tt, tt))))

  init_in_fits : (s : State) (classes : List Class) (t : ThreadNo) (n : ClassNo) (state : InitState) → Raises (init_step_in s classes t n state)
  init_in_fits s classes t n states.Linked =
      some_raises (begins_init s classes t n)
      (begins_fit s classes t n (constants_made t n s.core.heap (constants_at classes n)) (constants_fit t n s.core.heap (constants_at classes n)))
  init_in_fits s classes t n states.Erroneous =
      some_raises (throws_new classes s.core t [] (codes "java/lang/NoClassDefFoundError"))
      (new_fits classes s.core t [] (codes "java/lang/NoClassDefFoundError") tt)
  init_in_fits s classes t n states.Loaded = none_raises
  init_in_fits s classes t n (states.InProgress by) = none_raises
  init_in_fits s classes t n states.Initialized = none_raises

  pub init_fits : (s : State) (classes : List Class) (t : ThreadNo) (n : ClassNo) → Raises (init_step s classes t n)
  init_fits s classes t n = init_in_fits s classes t n (state_of_class classes n)

  body_fits : (s : State) (classes : List Class) (t : ThreadNo) (n : ClassNo) (m : MethodNo) (body : Option Code) → newest_body classes m ≡ body
      → IsOver now classes → Fit (option_map_or (λ body. pushes_initializer s classes t n (frame_of m body [])) body [])
  body_fits s classes t n m None is over = tt
  body_fits s classes t n m (Some body) is over =
      all_if (Fits now) (is_refused (frames_at s.core t) (frame_of m body [])) (throws_new classes s.core t [] overflow_name)
      (Changes (EntersInitializer n) ∷ Changes (Pushes t (frame_of m body [])) ∷ []) (new_fits classes s.core t [] overflow_name tt)
      (tt, ((refl, (body, over m body is)), tt))

  enters_fits : (s : State) (classes : List Class) (t : ThreadNo) (n : ClassNo) (m : Option MethodNo) → IsOver now classes
      → Fit (enters_or_ends s classes t n m)
  enters_fits s classes t n None over = (tt, (tt, tt))
  enters_fits s classes t n (Some m) over =
      all_if (Fits now) (was_entered s.core n) (ends_init t n) (enters_initializer s classes t n m) (tt, (tt, tt))
      (body_fits s classes t n m (newest_body classes m) refl over)

  progress_by : (s : State) (classes : List Class) (t : ThreadNo) (n : ClassNo) (next : Option ClassNo) → IsOver now classes
      → Raises (elim next as (λ _. Option (List Act)) [
        | Some m ↦ init_step s classes t m
        | None ↦ Some (enters_or_ends s classes t n (initializer classes n))
      ])
  progress_by s classes t n (Some m) over = init_fits s classes t m
  progress_by s classes t n None over =
      some_raises (enters_or_ends s classes t n (initializer classes n)) (enters_fits s classes t n (initializer classes n) over)

  pub progress_fits : (s : State) (classes : List Class) (t : ThreadNo) (n : ClassNo) → IsOver now classes → Raises (progress_step s classes t n)
  progress_fits s classes t n over = progress_by s classes t n (find (must_begin classes t) (init_supers classes n)) over

  -- ---- outcomes

  pub wish_fits : (t : ThreadNo) (activity : Activity) → Fit (wish_ends t activity)
  wish_fits t (Wanting wanted) = (tt, tt)
  wish_fits t Free = tt
  wish_fits t (Throwing o) = tt
  wish_fits t (Waiting o) = tt
  wish_fits t (Joining other) = tt

  pub resolved_fits : (w : World) (s : State) (classes : List Class) (t : ThreadNo) (o : Outcome) → IsOrderly w → FitsOutcome now o
      → Gives (resolved w s classes t o)
  resolved_fits w s classes t (Goes acts) plain h =
      events_fit (wish_ends t (activity_of s.core t) ++ acts) (append_all (Fits now) (wish_ends t (activity_of s.core t)) acts
      (wish_fits t (activity_of s.core t)) h)
  resolved_fits w s classes t (Throws before name) plain h =
      events_fit (throws_new classes s.core t before name) (new_fits classes s.core t before name h)
  resolved_fits w s classes t (Fills before) plain h =
      events_fit (throws_full classes s.core t before) (thrown_fits classes s.core t before kept_error full_name h)
  resolved_fits w s classes t (ThrowsObject o) plain h =
      events_fit (throws classes s.core t [] o (class_name_of classes s.core o))
      (thrown_fits classes s.core t [] o (class_name_of classes s.core o) tt)
  resolved_fits w s classes t (NeedsLoad name) plain h = load_fits w s classes t (next_load w s.core classes name) plain
  resolved_fits w s classes t (NeedsLink n) plain h = events_fit (link_step w s classes t n) (link_fits w s classes t n)
  resolved_fits w s classes t (NeedsInit n) plain h = raises_fit (init_step s classes t n) (init_fits s classes t n)
