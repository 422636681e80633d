-- A load that is refused, and one whose class isn't accepted, has failed.
use Rattle.std.proofs.Common.{◌≡◌, ℕ, Bool, true, false, ◌||◌, cond, List, [], ◌∷◌, ◌++◌, ◌+◌, map, length, Option, Some, None, refl, sym, ap, subst}
use Rattle.std.specs.Prelude.{fold, find, option_map, bytes_eq, codes, if◌then◌else◌}
use Rattle.std.specs.List.{list_any}
use Rattle.std.proofs.lemmas.List.Sums.{fold-append}
use Rattle.std.proofs.lemmas.Slice.Eq.{bytes_eq-Decides}
use Rattle.jv_names.specs.Names.{Name}
use Rattle.jv_names.specs.declared.descriptor.FieldType.{FieldType}
use Rattle.ti_ids.specs.declared.number.ThreadNo.{ThreadNo}
use Rattle.ti_ids.specs.declared.number.ObjNo.{ObjNo}
use Rattle.ti_ids.specs.declared.number.ClassNo.{ClassNo}
use Rattle.ti_ids.specs.declared.actor.Actor.{Actor}
use Rattle.ti_ids.specs.declared.actor.Actor.TheVariants as actors
use Rattle.class_tree.specs.Trees.{Tree}
use Rattle.java_heap.specs.declared.object.Content.TheVariants.{Fields}
use Rattle.java_heap.specs.Heaps as heaps
use Rattle.ti_ids.specs.declared.state.Activity.TheVariants.{Throwing}
use Rattle.instruction_effect.specs.Outcomes.{heap_has_room, makes_announced}
use Rattle.link_versions.specs.Classes.{Class, number_of}
use Rattle.link_versions.specs.Changes.{array_class}
use Rattle.transform_chain.specs.declared.folded.Turn.{Turn}
use Rattle.transform_chain.specs.declared.folded.Folded.{Folded}
use Rattle.transform_chain.specs.Turns.{fold_from}
use Rattle.machine_state.specs.Jobs.{Job}
use Rattle.machine_state.specs.Chains.{rules_do, chain}
use Rattle.machine_state.specs.Versions.{Turns}
use Rattle.machine_state.specs.Linked.{array_type, tree_of, trees, class_of_trees, linked, linked_class}
use Rattle.machine_state.specs.Core.{Core, CoreClass, Failure, failure_of, frames_at}
use Rattle.machine_state.specs.Trace.{Trace, LoadFailed, Turned}
use Rattle.machine_state.specs.Acts.{State, Act, Changes, Notes, Fails, SetsActivity, acted, changed, core_after, birth_after}
use Rattle.machine_steps.specs.World.{World}
use Rattle.machine_steps.specs.Sites.{classes_now}
use Rattle.machine_steps.specs.Throwing.{throws_new, throws_among, exception_raised, top_method, base_number, kept_error, full_name}
use Rattle.machine_steps.specs.Loading.{Load, Loads, Refuses, turns_from, turn_notes, load_ends, bytes_given, is_accepted}
use Rattle.machine_steps.specs.Laws.{IsNew, IsFailed, NeedsNow, FailsLoads}
use Rattle.machine_steps.proofs.LoadingOnce.{next_fresh}
use Rattle.machine_steps.proofs.FailedLoads.{acts_failed}

-- ---- the names of the linked classes

trees_name : (job : Job) (turns : Turns) (of : Name → Option ClassNo) (c : CoreClass) (ts : List Tree)
    → (class_of_trees job turns of c ts).name ≡ c.name
trees_name job turns of c [] = refl
trees_name job turns of c (t ∷ ts) = refl

name_by : (job : Job) (turns : Turns) (of : Name → Option ClassNo) (c : CoreClass) (type : Option FieldType) (ts : List Tree)
    → (elim type as (λ _. Class) [ Some t ↦ record (array_class of c.name t) { state = c.state } | None ↦ class_of_trees job turns of c ts ]).name
    ≡ c.name
name_by job turns of c None ts = trees_name job turns of c ts
name_by job turns of c (Some t) ts = refl

absent_by : (name other : Name) (same : Bool) (n : ClassNo) (rest : Option ClassNo) (others : Bool) → bytes_eq name other ≡ same
    → (if same then Some n else rest) ≡ None → (rest ≡ None → others ≡ false) → (same || others) ≡ false
absent_by name other true n rest others is e h = absurd cc
absent_by name other false n rest others is e h = h e

-- no class of the name is linked, so the core has none
pub absent : (job : Job) (turns : Turns) (trace : Trace) (classes : List CoreClass) (name : Name) → number_of (linked job turns trace classes) name ≡ None
    → list_any (bytes_eq name) (map (λ c. c.name) classes) ≡ false
unfolding linked
absent job turns trace [] name e = refl
absent job turns trace (c ∷ older) name e =
    let of = number_of (linked job turns trace older) in
    let own : (linked_class job turns trace of c).name ≡ c.name = name_by job turns of c (array_type c.name) (trees job turns trace c.name) in
    let there = subst (λ (x : Name). (if bytes_eq name x then Some
    (record { 0 = length (linked_class job turns trace of c ∷ linked job turns trace older) })
    else of name) ≡ None) own e in
    absent_by name c.name (bytes_eq name c.name) (record { 0 = length (linked_class job turns trace of c ∷ linked job turns trace older) }) (of name)
    (list_any (bytes_eq name) (map (λ x. x.name) older)) refl there (absent job turns trace older name)

-- ---- the change

-- a class that isn't there, whose load hasn't failed, and that is of no array
record IsUntried (core : Core) (name : Name) : Type 0 where
  absent : list_any (bytes_eq name) (map (λ c. c.name) core.classes) ≡ false
  untried : failure_of core name ≡ None
  plain : array_type name ≡ None

found_new : (p : Failure → Bool) (failures : List Failure) (f : Failure) → option_map (λ f. f.error) (find p failures) ≡ None → p f ≡ true
    → option_map (λ f. f.error) (find p (failures ++ f ∷ [])) ≡ Some f.error
found_new p [] f e is = ap (λ (b : Bool). option_map (λ f. f.error) (cond b (Some f) None)) is
found_new p (g ∷ failures) f e is =
    elim (p g) as (λ b. option_map (λ f. f.error) (cond b (Some g) (find p failures)) ≡ None
    → option_map (λ f. f.error) (cond b (Some g) (find p (failures ++ f ∷ []))) ≡ Some f.error) [
      | true ↦ λ k. absurd cc
      | false ↦ λ k. found_new p failures f k is
    ] e

fails_now : (birth : ℕ) (core : Core) (name error : Name) → IsUntried core name → IsFailed (changed birth (Fails name error) core) name error
fails_now birth core name error h = record {
  absent = h.absent;
  failed = found_new (λ f. bytes_eq f.class name) core.failures
      (record { class = name; error = error }) h.untried ((bytes_eq-Decides name name).1 refl);
  plain = h.plain;
}

-- ---- acts of a step

module _ (job : Job) (actor : Actor) (birth : ℕ) (name error : Name) where
  abbrev Failed : State → List Act → Type 0
  Failed s acts = IsFailed (fold (acted job actor birth) s acts).core name error

  more_failed : (s : State) (acts more : List Act) → Failed s acts → Failed s (acts ++ more)
  more_failed s acts more h =
      subst (λ (after : State). IsFailed after.core name error) (sym (fold-append (acted job actor birth) s acts more))
      (acts_failed job actor birth (fold (acted job actor birth) s acts) more name error h)

  either_failed : (s : State) (b : Bool) (xs ys : List Act) → Failed s xs → Failed s ys → Failed s (if b then xs else ys)
  either_failed s true xs ys h k = h
  either_failed s false xs ys h k = k

  among_failed : (s : State) (classes : List Class) (core : Core) (t : ThreadNo) (before : List Act) (o : ObjNo) (class : Name) → Failed s before
      → Failed s (throws_among classes core t before [] o class)
  among_failed s classes core t before o class h =
      more_failed s (before ++ Changes (SetsActivity t (Throwing o)) ∷ [])
      (exception_raised classes t class (top_method (frames_at (core_after 0 core before) t)))
      (more_failed s before (Changes (SetsActivity t (Throwing o)) ∷ []) h)

  thrown_failed : (s : State) (classes : List Class) (core : Core) (t : ThreadNo) (before : List Act) (class : Name) → Failed s before
      → Failed s (throws_new classes core t before class)
  thrown_failed s classes core t before class h =
      let heap = (core_after 0 core before).heap in
      let making = makes_announced t heap (base_number classes class) (Fields []) class in
      either_failed s (heap_has_room heap (Fields [])) (throws_among classes core t (before ++ making) [] (heaps.next_number heap) class)
      (throws_among classes core t before [] kept_error full_name)
      (among_failed s classes core t (before ++ making) (heaps.next_number heap) class (more_failed s before making h))
      (among_failed s classes core t before kept_error full_name h)

  abbrev failing : List Act
  failing = Notes (LoadFailed name error) ∷ Changes (Fails name error) ∷ []

  failing_failed : (s : State) → IsUntried s.core name → Failed s failing
  failing_failed s h =
      fails_now birth (acted job actor birth s (Notes (LoadFailed name error))).core name error
      (record { absent = h.absent; untried = h.untried; plain = h.plain })

  turns_untried : (s : State) (class : Name) (k n : ℕ) (turns : List Turn) → IsUntried s.core name
      → IsUntried (fold (acted job actor birth) s (turns_from class k n turns)).core name
  turns_untried s class k n [] h = h
  turns_untried s class k n (turn ∷ turns) h =
      turns_untried (acted job actor birth s (Notes (Turned turn.env class turn.set k n turn.changed))) class (k + 1) n turns
      (record { absent = h.absent; untried = h.untried; plain = h.plain })

  behind_failed : (s : State) (notes : List Act) → IsUntried (fold (acted job actor birth) s notes).core name → Failed s (notes ++ failing)
  behind_failed s notes h =
      subst (λ (after : State). IsFailed after.core name error) (sym (fold-append (acted job actor birth) s notes failing))
      (failing_failed (fold (acted job actor birth) s notes) h)

-- ---- the law

new_untried : (w : World) (began s : State) (wanted name : Name) (load : Load) → NeedsNow w began s wanted load name
    → IsNew s.core (classes_now w began) name → IsUntried s.core name
new_untried w began s wanted name load now new = record {
  absent = subst (λ (classes : List CoreClass). list_any (bytes_eq name) (map (λ c. c.name) classes) ≡ false) (sym now.same)
      (absent w.job w.turns began.trace began.core.classes name new.absent);
  untried = new.untried;
  plain = now.plain;
}

ends_failed : (job : Job) (actor : Actor) (s : State) (core : Core) (classes : List Class) (t : ThreadNo) (name : Name) (bytes : List ℕ)
    (turns : List Turn) (ok : Bool) → ok ≡ false → IsUntried s.core name → (birth : ℕ)
    → Failed job actor birth name (codes "java/lang/ClassFormatError") s (load_ends core classes t name bytes (turn_notes name turns) ok)
ends_failed job actor s core classes t name bytes turns true is h birth = absurd cc
ends_failed job actor s core classes t name bytes turns false is h birth =
    let error : Name = codes "java/lang/ClassFormatError" in
    thrown_failed job actor birth name error s classes core t (turn_notes name turns ++ failing job actor birth name error) error
    (behind_failed job actor birth name error s (turn_notes name turns) (turns_untried job actor birth name error s name 1 (length turns) turns h))

pub fails_loads : FailsLoads
fails_loads = record {
  refused = λ w began s t wanted name error now.
      let new = next_fresh w s.core (classes_now w began) wanted (Refuses name error) now.next in
      let classes = classes_now w began in
      let birth = birth_after s.trace (throws_new classes s.core t (Notes (LoadFailed name error) ∷ Changes (Fails name error) ∷ []) error) in
      thrown_failed w.job (actors.Thread t) birth name error s classes s.core t
      (Notes (LoadFailed name error) ∷ Changes (Fails name error) ∷ []) error
      (failing_failed w.job (actors.Thread t) birth name error s (new_untried w began s wanted name (Refuses name error) now new));
  unaccepted = λ w began s t wanted name now no.
      let new = next_fresh w s.core (classes_now w began) wanted (Loads name) now.next in
      let bytes = bytes_given w.job name in
      let all : Folded = fold_from name 1 (chain w.job (rules_do w.turns) s.trace (actors.Thread t)) bytes in
      let ok = is_accepted name (tree_of bytes) (tree_of all.made) in
      let acts = load_ends s.core (classes_now w began) t name bytes (turn_notes name all.turns) ok in
      ends_failed w.job (actors.Thread t) s s.core (classes_now w began) t name bytes all.turns ok no
      (new_untried w began s wanted name (Loads name) now new) (birth_after s.trace acts);
}
