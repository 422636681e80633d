-- The acts of a thread follow one another as the rules say: where it throws, and where a class is loaded, linked or initialized.
use Rattle.std.proofs.Common.{◌≡◌, ◌∙◌, ◌+◌, ◌-◌, ℕ, Bool, true, false, List, [], ◌∷◌, ◌++◌, map, length, Option, Some, None, refl, sym, ap, subst, arith, length-append}
use Rattle.std.specs.Prelude.{codes, find, pos, option_map, if◌then◌else◌}
use Rattle.std.specs.List.{AllByRecursion}
use Rattle.std.specs.Option.{option_and_then, option_map_or}
use Rattle.std.proofs.lemmas.List.{length-replicate}
use Rattle.ti_ids.specs.declared.number.ThreadNo.{ThreadNo}
use Rattle.ti_ids.specs.declared.number.ObjNo.{ObjNo}
use Rattle.ti_ids.specs.declared.number.ClassNo.{ClassNo}
use Rattle.ti_ids.specs.declared.number.MethodNo.{MethodNo}
use Rattle.ti_ids.specs.declared.value.Value.{Value}
use Rattle.ti_ids.specs.declared.value.Value.TheVariants as value
use Rattle.ti_ids.specs.declared.actor.Actor.TheVariants as actors
use Rattle.ti_ids.specs.declared.state.Activity.TheVariants.{Throwing}
use Rattle.ti_ids.specs.declared.state.InitState.{InitState}
use Rattle.ti_ids.specs.declared.state.InitState.TheVariants as states
use Rattle.jv_names.specs.Names.{Name}
use Rattle.class_tree.specs.declared.access.Flag.TheVariants as flags
use Rattle.class_tree.specs.declared.body.Code.{Code}
use Rattle.class_tree.specs.declared.members.Member.{Member}
use Rattle.class_tree.specs.declared.pool.Const.{Const}
use Rattle.class_tree.specs.declared.pool.Const.TheVariants as const
use Rattle.class_tree.specs.Flags.{has_flag}
use Rattle.class_tree.specs.Trees.{Tree}
use Rattle.class_tree.specs.Tree.{entry_at, text_at, constant_of}
use Rattle.java_heap.specs.declared.object.Content.{Content}
use Rattle.java_heap.specs.declared.object.Content.TheVariants.{Fields, Literal}
use Rattle.java_heap.specs.declared.object.TheConstants.{STRING}
use Rattle.java_heap.specs.Heaps.{HeapValue, literal_of, next_number}
use Rattle.java_heap.specs.Objects.{fresh, values_of}
use Rattle.link_versions.specs.Classes.{Class, newest_version, version_at}
use Rattle.transform_chain.specs.declared.folded.Turn.{Turn}
use Rattle.transform_chain.specs.Turns.{fold_from}
use Rattle.machine_state.specs.Chains.{chain, rules_do}
use Rattle.machine_state.specs.Core.{Core, MethodFrame, StackFrame, Thread, failure_of, frames_at}
use Rattle.machine_state.specs.Jobs.{at_number}
use Rattle.machine_state.specs.Linked.{tree_of}
use Rattle.machine_state.specs.Trace.{ClassLoad, ClassPrepare, Event, Exception, LoadFailed, Loaded}
use Rattle.machine_state.specs.Acts.{Act, AddsClass, Changes, EntersInitializer, Fails, Makes, Notes, Pushes, PushesInit, PutsStatic, SetsActivity, SetsClass, State, core_after, raises}
use Rattle.instruction_effect.specs.Arguments.{filled, frame_of, is_deep, is_refused, newest_body}
use Rattle.instruction_effect.specs.Outcomes.{heap_has_room, makes_announced}
use Rattle.instruction_effect.proofs.ActRules.{Follow, HoldAll, IsNew, behind}
use Rattle.instruction_effect.proofs.FollowingCores.{first_there}
use Rattle.instruction_effect.proofs.FollowingForms.{all_held, all_replicated}
use Rattle.machine_steps.specs.World.{World}
use Rattle.machine_steps.specs.Throwing.{base_number, exception_raised, full_name, kept_error, name_of, place_of, throws, throws_among, throws_full, throws_new, throws_new_among, top_method}
use Rattle.machine_steps.specs.Loading.{Load, Loads, Met, Refuses, Repeats, bytes_given, is_accepted, load_ends, load_step, next_load, turn_notes, turns_from}
use Rattle.machine_steps.specs.Linking.{link_step, links_checked, links_in, next_link, passes_check, verify_name}
use Rattle.machine_steps.specs.Initializing.{Constant, Constants, Is, Text, begins_with, constant_in, constants_at, constants_from, constants_made, constants_of, ends_init, enters_or_ends, init_step, init_step_in, init_supers, initializer, must_begin, no_constants, overflow_name, progress_step, pushes_initializer, set_to, set_to_new, state_of_class, static_constant, string_at, string_name, was_entered, with_string}
use Rattle.machine_steps.proofs.Seen.{follow_both, follow_keeps, seen_after}
use Rattle.machine_steps.proofs.StepRules.{IsLoaded, StepRules, seen}

-- ---- lists

after_both : (core : Core) (xs ys : List Act) → core_after 0 core (xs ++ ys) ≡ core_after 0 (core_after 0 core xs) ys
after_both core [] ys = refl
after_both core (Changes c ∷ xs) ys = after_both (behind core (Changes c)) xs ys
after_both core (Notes what ∷ xs) ys = after_both core xs ys

filled_length : (n : ℕ) → length (filled n []) ≡ n
filled_length n = let zero_value : Value = value.Int (pos 0) in omega (arith, length-replicate (n - 0) zero_value)

-- ---- constants are numbers and texts

abbrev IsNumber : Value → Type 0
IsNumber (value.Ref r) = ⊥
IsNumber v = Unit {0}

abbrev IsOfNumber : Constant → Type 0
IsOfNumber (Is v) = IsNumber v
IsOfNumber (Text units) = Unit {0}

abbrev IfOfNumber : Option Constant → Type 0
IfOfNumber None = Unit {0}
IfOfNumber (Some c) = IsOfNumber c

text_fine : (units : Option (List ℕ)) → IfOfNumber (option_map (λ units. Text units) units)
text_fine None = tt
text_fine (Some units) = tt

constant_fine : (pool : List Const) (c : Const) → IfOfNumber (constant_in pool c)
constant_fine pool (const.Integer n) = tt
constant_fine pool (const.Long n) = tt
constant_fine pool (const.Text index) = text_fine (text_at pool index)
constant_fine pool c = tt

entry_fine : (pool : List Const) (entry : Option Const) → IfOfNumber (option_and_then (constant_in pool) entry)
entry_fine pool None = tt
entry_fine pool (Some c) = constant_fine pool c

static_fine : (pool : List Const) (is_static : Bool) (entry : Option Const)
    → IfOfNumber (if is_static then option_and_then (constant_in pool) entry else None)
static_fine pool true entry = entry_fine pool entry
static_fine pool false entry = tt

abbrev AreOfNumbers : List (ℕ × Constant) → Type 0
AreOfNumbers constants = AllByRecursion (λ c. IsOfNumber c.1) constants

more_fine : (place : ℕ) (found : Option Constant) (rest : List (ℕ × Constant)) → IfOfNumber found → AreOfNumbers rest
    → AreOfNumbers (option_map_or (λ c. (place, c) ∷ []) found [] ++ rest)
more_fine place None rest h k = k
more_fine place (Some c) rest h k = (h, k)

from_fine : (pool : List Const) (place : ℕ) (members : List Member) → AreOfNumbers (constants_from pool place members)
from_fine pool place [] = tt
from_fine pool place (m ∷ members) =
    more_fine place (static_constant pool m) (constants_from pool (place + 1) members)
    (static_fine pool (has_flag m.flags.bits flags.Static) (option_and_then (entry_at pool) (constant_of m.attrs)))
    (from_fine pool (place + 1) members)

constants_fine : (tree : Option Tree) → AreOfNumbers (option_map_or constants_of tree [])
constants_fine None = tt
constants_fine (Some t) = from_fine t.pool 0 t.fields

-- ---- the acts of a thread

module _ (w : World) (classes : List Class) (t : ThreadNo) (Ok : Core → Act → Type 0) (Holds : Core → Value → Type 0)
    (rules : StepRules w classes t Ok Holds) where
  abbrev F : Core → List Act → Type 0
  F core acts = Follow Ok core acts

  -- acts that may come in every core
  abbrev Always : List Act → Type 0
  Always acts = (now : Core) → F now acts

  -- the acts of a step, if it has any
  abbrev pub IfFollow : Core → Option (List Act) → Type 0
  IfFollow core None = Unit {0}
  IfFollow core (Some acts) = F core acts

  abbrev Refers : Core → ObjNo → Type 0
  Refers core o = Holds core (value.Ref (Some o))

  pub held_after : (core : Core) (acts : List Act) (v : Value) → F core acts → Holds core v → Holds (core_after 0 core acts) v
  held_after core acts v h k = follow_keeps Ok (λ now. Holds now v) (λ now a ok k. rules.acts.later now a v ok k) core acts h k

  pub if_follows : (core : Core) (b : Bool) (xs ys : List Act) → (b ≡ true → F core xs) → (b ≡ false → F core ys) → F core (if b then xs else ys)
  if_follows core true xs ys h k = h refl
  if_follows core false xs ys h k = k refl

  -- ---- objects

  makes_follow : (now : Core) (class : ClassNo) (content : Content) (name : Name) → heap_has_room now.heap content ≡ true → IsNew now.heap content
      → HoldAll Holds now (values_of content) → F now (makes_announced t now.heap class content name)
  makes_follow now class content name room new values =
      (rules.acts.makes now class content room new values, (rules.acts.raised (behind now (Changes (Makes (fresh class content)))) _, tt))

  made_there : (now : Core) (class : ClassNo) (content : Content)
      → Refers (behind now (Changes (Makes (fresh class content)))) (next_number now.heap)
  made_there now class content =
      rules.acts.there (behind now (Changes (Makes (fresh class content)))) (next_number now.heap)
      (omega arith, omega (arith, length-append now.heap.objects (fresh class content ∷ [])))

  -- ---- what is thrown

  pub raised_all : (events : List Event) → Always (map raises events)
  raised_all [] now = tt
  raised_all (e ∷ events) now = (rules.acts.raised now e, raised_all events now)

  exception_always : (name : Name) (top : Option MethodFrame) → Always (exception_raised classes t name top)
  exception_always name None now = tt
  exception_always name (Some f) now = (rules.acts.raised now (Exception t (place_of classes f) name), tt)

  pub among_follows : (core : Core) (before events : List Act) (o : ObjNo) (name : Name) → F (seen core) before → Always events
      → Refers (core_after 0 (seen core) before) o → F (seen core) (throws_among classes core t before events o name)
  among_follows core before events o name h always holds =
      let later : Core = core_after 0 (seen core) before in
      let throwing : List Act = Changes (SetsActivity t (Throwing o)) ∷ events in
      let top = top_method (frames_at (core_after 0 core before) t) in
      follow_both Ok (seen core) (before ++ throwing) (exception_raised classes t name top)
      (follow_both Ok (seen core) before throwing h
      (rules.acts.sets_activity later (Throwing o) holds, always (behind later (Changes (SetsActivity t (Throwing o))))))
      (exception_always name top (core_after 0 (seen core) (before ++ throwing)))

  pub throws_follow : (core : Core) (before : List Act) (o : ObjNo) (name : Name) → F (seen core) before
      → Refers (core_after 0 (seen core) before) o → F (seen core) (throws classes core t before o name)
  throws_follow core before o name h holds = among_follows core before [] o name h (λ now. tt) holds

  pub full_follows : (core : Core) (before : List Act) → F (seen core) before → Refers (seen core) kept_error
      → F (seen core) (throws_full classes core t before)
  full_follows core before h kept =
      throws_follow core before kept_error full_name h (held_after (seen core) before (value.Ref (Some kept_error)) h kept)

  new_by : (core : Core) (before events : List Act) (name : Name) (heap : HeapValue) → (core_after 0 (seen core) before).heap ≡ heap
      → F (seen core) before → Always events → heap_has_room heap (Fields []) ≡ true
      → F (seen core)
      (throws_among classes core t (before ++ makes_announced t heap (base_number classes name) (Fields []) name) events (next_number heap) name)
  new_by core before events name heap same h always room =
      let later : Core = core_after 0 (seen core) before in
      let class : ClassNo = base_number classes name in
      let making : List Act = makes_announced t heap class (Fields []) name in
      let after : Core = behind later (Changes (Makes (fresh class (Fields [])))) in
      let made : F later making =
      subst (λ (x : HeapValue). F later (makes_announced t x class (Fields []) name)) same
      (makes_follow later class (Fields []) name (subst (λ (x : HeapValue). heap_has_room x (Fields []) ≡ true) (sym same) room) tt tt) in
      among_follows core (before ++ making) events (next_number heap) name (follow_both Ok (seen core) before making h made) always
      (subst (λ (c : Core). Refers c (next_number heap)) (sym (after_both (seen core) before making))
      (subst (λ (x : HeapValue). Refers after (next_number x)) same (made_there later class (Fields []))))

  pub new_among_follows : (core : Core) (before events : List Act) (name : Name) → F (seen core) before → Always events
      → Refers (seen core) kept_error → F (seen core) (throws_new_among classes core t before events name)
  new_among_follows core before events name h always kept =
      let heap : HeapValue = (core_after 0 core before).heap in
      if_follows (seen core) (heap_has_room heap (Fields []))
      (throws_among classes core t (before ++ makes_announced t heap (base_number classes name) (Fields []) name) events (next_number heap) name)
      (throws_among classes core t before events kept_error full_name)
      (new_by core before events name heap (ap (λ (c : Core). c.heap) (seen_after 0 core before)) h always)
      (λ full. among_follows core before events kept_error full_name h always
      (held_after (seen core) before (value.Ref (Some kept_error)) h kept))

  pub new_follows : (core : Core) (before : List Act) (name : Name) → F (seen core) before → Refers (seen core) kept_error
      → F (seen core) (throws_new classes core t before name)
  new_follows core before name h kept = new_among_follows core before [] name h (λ now. tt) kept

  -- ---- in a state of the step

  module _ (s : State) (kept : Refers (seen s.core) kept_error) where
    abbrev now : Core
    now = seen s.core

    -- ---- loading

    turns_always : (class : Name) (k n : ℕ) (turns : List Turn) → Always (turns_from class k n turns)
    turns_always class k n [] core = tt
    turns_always class k n (turn ∷ turns) core =
        (rules.turned core turn.env class turn.set k n turn.changed, turns_always class (k + 1) n turns core)

    ends_follow : (name : Name) (notes : List Act) (accepted : Bool) → (accepted ≡ true → IsLoaded w classes s t name) → Always notes
        → F now (load_ends s.core classes t name (bytes_given w.job name) notes accepted)
    ends_follow name notes true is always =
        let later : Core = core_after 0 now notes in
        let bytes = bytes_given w.job name in
        let done : List Act = Notes (Loaded name bytes) ∷ Changes (AddsClass name states.Loaded) ∷ raises (ClassLoad t name) ∷ [] in
        follow_both Ok now notes done (always now)
        (rules.loaded later s name (is refl), (rules.adds_loaded later s name (is refl), (rules.acts.raised _ (ClassLoad t name), tt)))
    ends_follow name notes false is always =
        let error : Name = codes "java/lang/ClassFormatError" in
        let later : Core = core_after 0 now notes in
        let failing : List Act = Notes (LoadFailed name error) ∷ Changes (Fails name error) ∷ [] in
        new_follows s.core (notes ++ failing) error
        (follow_both Ok now notes failing (always now) (rules.failed later name error, (rules.fails later name error, tt))) kept

    load_follows : (wanted : Name) (load : Load) → next_load w s.core classes wanted ≡ load → IfFollow now (load_step w s classes t load)
    load_follows wanted Met is = tt
    load_follows wanted (Loads name) is =
        let bytes = bytes_given w.job name in
        let all = fold_from name 1 (chain w.job (rules_do w.turns) s.trace (actors.Thread t)) bytes in
        ends_follow name (turn_notes name all.turns) (is_accepted name (tree_of bytes) (tree_of all.made))
        (λ accepted. record { wanted = wanted; next = is; accepted = accepted })
        (turns_always name 1 (length all.turns) all.turns)
    load_follows wanted (Refuses name error) is =
        new_follows s.core (Notes (LoadFailed name error) ∷ Changes (Fails name error) ∷ []) error
        (rules.failed now name error, (rules.fails now name error, tt)) kept
    load_follows wanted (Repeats error) is = new_follows s.core [] error tt kept

    pub loads_follow : (wanted : Name) → IfFollow now (load_step w s classes t (next_load w s.core classes wanted))
    loads_follow wanted = load_follows wanted (next_load w s.core classes wanted) refl

    -- ---- linking

    checked_follows : (n : ClassNo) (name : Name) (passes : Bool) → F now (links_checked s classes t n name passes)
    checked_follows n name true = (rules.sets_class now n states.Linked, (rules.acts.raised _ (ClassPrepare t name), tt))
    checked_follows n name false =
        new_follows s.core (Changes (Fails name verify_name) ∷ []) verify_name (rules.fails now name verify_name, tt) kept

    links_follow : (n : ClassNo) (name : Name) (failed : Option Name) → F now (links_in w s classes t n name failed)
    links_follow n name (Some error) = new_follows s.core [] error tt kept
    links_follow n name None = checked_follows n name (passes_check w classes n)

    pub link_follows : (n : ClassNo) → F now (link_step w s classes t n)
    link_follows n = let m = next_link classes n in links_follow m (name_of classes m) (failure_of s.core (name_of classes m))

    -- ---- constant fields

    -- the act sets a static field to what holds
    abbrev IsSet : Core → Act → Type 0
    IsSet core (Changes (PutsStatic field v)) = Holds core v
    IsSet core (Changes c) = ⊥
    IsSet core (Notes what) = ⊥

    record ConstantsFollow (core : Core) (c : Constants) : Type 0 where
      makes : F core c.makes
      sets : AllByRecursion (IsSet (core_after 0 core c.makes)) c.sets
      threads : (core_after 0 core c.makes).threads ≡ core.threads

    set_follows : (core : Core) (n : ClassNo) (place : ℕ) (v : Value) (c : Constants) → ConstantsFollow core c → Holds core v
        → ConstantsFollow core (set_to n place v c)
    set_follows core n place v c h holds =
        record { makes = h.makes; sets = (held_after core c.makes v h.makes holds, h.sets); threads = h.threads }

    abbrev with_text : Core → List ℕ → Core
    with_text core units = behind core (Changes (Makes (fresh STRING (Literal units))))

    new_text_follows : (core : Core) (n : ClassNo) (place : ℕ) (units : List ℕ) (c : Constants) → literal_of core.heap units ≡ None
        → ConstantsFollow (with_text core units) c → (room : Bool) → heap_has_room core.heap (Literal units) ≡ room
        → ConstantsFollow core (
        if room
        then record (set_to n place (string_at (next_number core.heap)) c) {
          makes = makes_announced t core.heap STRING (Literal units) string_name ++ c.makes;
        }
        else record no_constants { full = true }
        )
    new_text_follows core n place units c new h true room =
        let made : F core (makes_announced t core.heap STRING (Literal units) string_name) =
        makes_follow core STRING (Literal units) string_name room new tt in
        let v : Value = string_at (next_number core.heap) in
        record {
          makes = (made.0, (made.1.0, h.makes));
          sets = (held_after (with_text core units) c.makes v h.makes (made_there core STRING (Literal units)), h.sets);
          threads = h.threads;
        }
    new_text_follows core n place units c new h false room = record { makes = tt; sets = tt; threads = refl }

    text_follows : (core : Core) (n : ClassNo) (place : ℕ) (units : List ℕ) (found : Option ObjNo) (c d : Constants)
        → literal_of core.heap units ≡ found → ConstantsFollow core c → ConstantsFollow (with_text core units) d
        → ConstantsFollow core (elim found as (λ _. Constants) [
          | Some o ↦ set_to n place (string_at o) c
          | None ↦ set_to_new t n place units core.heap d
        ])
    text_follows core n place units (Some o) c d is h k =
        set_follows core n place (string_at o) c h (rules.acts.there core o (first_there _ core.heap o is))
    text_follows core n place units None c d is h k = new_text_follows core n place units d is k (heap_has_room core.heap (Literal units)) refl

    number_holds : (core : Core) (v : Value) → IsNumber v → Holds core v
    number_holds core (value.Int n) h = rules.acts.int core n
    number_holds core (value.Long n) h = rules.acts.long core n
    number_holds core (value.Ref r) h = absurd h

    constants_follow : (core : Core) (n : ClassNo) (constants : List (ℕ × Constant)) → AreOfNumbers constants
        → ConstantsFollow core (constants_made t n core.heap constants)
    constants_follow core n [] h = record { makes = tt; sets = tt; threads = refl }
    constants_follow core n ((place, Is v) ∷ constants) h =
        set_follows core n place v (constants_made t n core.heap constants) (constants_follow core n constants h.1) (number_holds core v h.0)
    constants_follow core n ((place, Text units) ∷ constants) h =
        text_follows core n place units (literal_of core.heap units) (constants_made t n core.heap constants)
        (constants_made t n (with_string core.heap units) constants) refl (constants_follow core n constants h.1)
        (constants_follow (with_text core units) n constants h.1)

    sets_follow : (core : Core) (acts : List Act) → AllByRecursion (IsSet core) acts → F core acts
    sets_follow core [] h = tt
    sets_follow core (Changes (PutsStatic field v) ∷ acts) h =
        let ok = rules.acts.puts_static core field v h.0 in
        let after : Core = behind core (Changes (PutsStatic field v)) in
        (ok, sets_follow after acts (all_held (IsSet core) (IsSet after) acts (still ok) h.1))
      where
        still : Ok core (Changes (PutsStatic field v)) → (a : Act) → IsSet core a → IsSet (behind core (Changes (PutsStatic field v))) a
        still ok (Changes (PutsStatic other x)) h = rules.acts.later core (Changes (PutsStatic field v)) x ok h
        still ok (Changes c) h = absurd h
        still ok (Notes what) h = absurd h
    sets_follow core (Changes c ∷ acts) h = absurd h.0
    sets_follow core (Notes what ∷ acts) h = absurd h.0

    set_threads : (core other : Core) (acts : List Act) → AllByRecursion (IsSet other) acts → (core_after 0 core acts).threads ≡ core.threads
    set_threads core other [] h = refl
    set_threads core other (Changes (PutsStatic field v) ∷ acts) h = set_threads (behind core (Changes (PutsStatic field v))) other acts h.1
    set_threads core other (Changes c ∷ acts) h = absurd h.0
    set_threads core other (Notes what ∷ acts) h = absurd h.0

    -- ---- how an initialization begins

    abbrev frames_in : List Thread → List StackFrame
    frames_in threads = option_map_or (λ (u : Thread). u.frames) (at_number threads t.0) []

    begun_follow : (n : ClassNo) (made : Constants) → ConstantsFollow now made → is_deep (frames_at s.core t) 0 ≡ false
        → F now (made.makes ++ made.sets ++ Changes (SetsClass n (states.InProgress t)) ∷ Changes (PushesInit t n) ∷ [])
    begun_follow n made h deep =
        let first : Core = core_after 0 now made.makes in
        let later : Core = core_after 0 now (made.makes ++ made.sets) in
        let linked : Core = behind later (Changes (SetsClass n (states.InProgress t))) in
        let same : later.threads ≡ now.threads =
        ap (λ (c : Core). c.threads) (after_both now made.makes made.sets) ∙ set_threads first first made.sets h.sets ∙ h.threads in
        follow_both Ok now (made.makes ++ made.sets) (Changes (SetsClass n (states.InProgress t)) ∷ Changes (PushesInit t n) ∷ [])
        (follow_both Ok now made.makes made.sets h.makes (sets_follow first made.sets h.sets)) (
          rules.sets_class later n (states.InProgress t),
          (rules.pushes_init linked n (subst (λ (threads : List Thread). is_deep (frames_in threads) 0 ≡ false) (sym same) deep), tt),
        )

    begins_follows : (n : ClassNo) (made : Constants) → ConstantsFollow now made → F now (begins_with s classes t n made)
    begins_follows n made h =
        let ends : List Act = Changes (SetsClass n (states.InProgress t)) ∷ Changes (PushesInit t n) ∷ [] in
        if_follows now made.full (throws_full classes s.core t made.makes)
        (if is_deep (frames_at s.core t) 0 then throws_new classes s.core t made.makes overflow_name else made.makes ++ made.sets ++ ends)
        (λ full. full_follows s.core made.makes h.makes kept)
        (λ fits. if_follows now (is_deep (frames_at s.core t) 0) (throws_new classes s.core t made.makes overflow_name)
        (made.makes ++ made.sets ++ ends) (λ deep. new_follows s.core made.makes overflow_name h.makes kept) (begun_follow n made h))

    init_in_follows : (n : ClassNo) (state : InitState) → IfFollow now (init_step_in s classes t n state)
    init_in_follows n states.Linked =
        begins_follows n (constants_made t n s.core.heap (constants_at classes n))
        (constants_follow now n (constants_at classes n) (constants_fine (version_at classes (newest_version classes n))))
    init_in_follows n states.Erroneous = new_follows s.core [] (codes "java/lang/NoClassDefFoundError") tt kept
    init_in_follows n states.Loaded = tt
    init_in_follows n (states.InProgress by) = tt
    init_in_follows n states.Initialized = tt

    pub init_follows : (n : ClassNo) → IfFollow now (init_step s classes t n)
    init_follows n = init_in_follows n (state_of_class classes n)

    -- ---- the later steps

    pushes_follow : (n : ClassNo) (m : MethodNo) (body : Code) → newest_body classes m ≡ Some body
        → F now (pushes_initializer s classes t n (frame_of m body []))
    pushes_follow n m body is =
        let f : MethodFrame = frame_of m body [] in
        let later : Core = behind now (Changes (EntersInitializer n)) in
        if_follows now (is_refused (frames_at s.core t) f) (throws_new classes s.core t [] overflow_name)
        (Changes (EntersInitializer n) ∷ Changes (Pushes t f) ∷ []) (λ deep. new_follows s.core [] overflow_name tt kept)
        (λ fits. (
          rules.enters_initializer now n,
          (
            rules.acts.pushes later f fits (record {
              class = refl;
              body = body;
              newest = is;
              locals = filled_length body.max_locals;
              room = refl;
              empty = refl;
              local_values = all_replicated (Holds later) (body.max_locals - 0) (value.Int (pos 0)) (rules.acts.int later (pos 0));
              monitor = rules.acts.null later;
            }),
            tt,
          ),
        ))

    entered_follows : (n : ClassNo) (m : MethodNo) (body : Option Code) → newest_body classes m ≡ body
        → F now (option_map_or (λ body. pushes_initializer s classes t n (frame_of m body [])) body [])
    entered_follows n m None is = tt
    entered_follows n m (Some body) is = pushes_follow n m body is

    ended_follows : (n : ClassNo) → F now (ends_init t n)
    ended_follows n = (rules.sets_class now n states.Initialized, (rules.acts.pops _, tt))

    or_ends_follows : (n : ClassNo) (m : Option MethodNo) → F now (enters_or_ends s classes t n m)
    or_ends_follows n None = ended_follows n
    or_ends_follows n (Some m) =
        if_follows now (was_entered s.core n) (ends_init t n) _ (λ entered. ended_follows n)
        (λ new. entered_follows n m (newest_body classes m) refl)

    progress_by : (n : ClassNo) (found : Option ClassNo)
        → IfFollow now (elim found as (λ _. Option (List Act)) [
          | Some m ↦ init_step s classes t m
          | None ↦ Some (enters_or_ends s classes t n (initializer classes n))
        ])
    progress_by n None = or_ends_follows n (initializer classes n)
    progress_by n (Some m) = init_follows m

    pub progress_follows : (n : ClassNo) → IfFollow now (progress_step s classes t n)
    progress_follows n = progress_by n (find (must_begin classes t) (init_supers classes n))
