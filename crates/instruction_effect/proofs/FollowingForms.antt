-- The acts of an instruction follow one another as the rules say, whatever the rules are of. First the forms in which the families say what
-- comes of an instruction.
use Rattle.std.proofs.Common.{◌≡◌, ◌∙◌, ℕ, suc, zero, Bool, true, false, cond, List, [], ◌∷◌, ◌++◌, drop, Option, Some, None, refl, sym, ap, subst, ◌⊎◌, inl, inr, length}
use Rattle.std.specs.Prelude.{◌==◌, codes, IsSome, if◌then◌else◌, replicate, slice_set}
use Rattle.std.specs.List.{AllByRecursion}
use Rattle.std.proofs.lemmas.Bool.{and_parts, leb-true}
use Rattle.ti_ids.specs.Maybe.{◌>>=◌}
use Rattle.ti_ids.specs.declared.number.ThreadNo.{ThreadNo}
use Rattle.ti_ids.specs.declared.number.ObjNo.{ObjNo}
use Rattle.ti_ids.specs.declared.number.ClassNo.{ClassNo}
use Rattle.ti_ids.specs.declared.number.MethodNo.{MethodNo}
use Rattle.ti_ids.specs.declared.value.Value.{Value}
use Rattle.ti_ids.specs.declared.value.Value.TheVariants as value
use Rattle.ti_ids.specs.declared.state.Activity.TheVariants.{Wanting}
use Rattle.ti_ids.specs.declared.state.InitState.{InitState}
use Rattle.ti_ids.specs.declared.state.InitState.TheVariants as states
use Rattle.jv_names.specs.Names.{Name}
use Rattle.jv_names.specs.declared.descriptor.ElementType.{ElementType}
use Rattle.jv_names.specs.declared.descriptor.ElementType.TheVariants as element_type
use Rattle.jv_names.specs.declared.descriptor.FieldType.{FieldType}
use Rattle.class_code.specs.declared.instr.Kind.{Kind}
use Rattle.class_tree.specs.declared.body.Code.{Code}
use Rattle.java_heap.specs.declared.object.Content.{Content}
use Rattle.java_heap.specs.declared.object.Content.TheVariants.{ClassObject}
use Rattle.java_heap.specs.declared.object.TheConstants.{CLASS}
use Rattle.java_heap.specs.Objects.{values_of, is_class_object}
use Rattle.java_heap.specs.Heaps.{HeapValue, next_number, class_object_of}
use Rattle.link_versions.specs.Classes.{Class, number_of}
use Rattle.link_versions.specs.Changes.{IsElementThere}
use Rattle.thread_frames.specs.declared.frame.StackEntry.TheVariants.{Java}
use Rattle.thread_frames.specs.Operands.{words_of}
use Rattle.bytecode_local.specs.Changes.{can_take, changed, changed_entries, exchange, has_room}
use Rattle.bytecode_local.specs.Kinds.{is_kind, kind_at, operand_at, reference_at, reference_of}
use Rattle.machine_state.specs.Core.{Core, MethodFrame, ObjectMonitor, frames_at, monitor_at}
use Rattle.machine_state.specs.Linked.{array_type}
use Rattle.machine_state.specs.Trace.{Event, VMObjectAlloc, MonitorContendedEnter, MonitorContendedEntered}
use Rattle.machine_state.specs.Acts.{Act, AddsClass, Changes, Enters, SetsActivity, SetsTop, raises}
use Rattle.instruction_effect.specs.Outcomes.{Site, Outcome, Goes, Throws, Fills, ThrowsObject, NeedsLoad, NeedsLink, NeedsInit}
use Rattle.instruction_effect.specs.Outcomes.{misfit, or_misfit, goes, state_at, when_linked_in, when_linked, when_ready_in, when_ready, element_name, next_class}
use Rattle.instruction_effect.specs.Outcomes.{when_element, when_made, when_loaded, heap_has_room, when_room}
use Rattle.instruction_effect.specs.Operands.{zero_of, when_fits, gives, unless_null, classes_with, when_there}
use Rattle.instruction_effect.specs.ClassObjects.{makes_class_object, when_class_object}
use Rattle.instruction_effect.specs.Monitors.{may_enter, wants, entering_acts, wanting_acts, unless_owned, entering}
use Rattle.instruction_effect.specs.Arguments.{newest_body, is_deep}
use Rattle.instruction_effect.proofs.ArrayClasses.{behind_array}
use Rattle.instruction_effect.proofs.ActRules.{CoreHolds, Follow, GoesOnAs, HoldAll, IsNew, behind}
use Rattle.instruction_effect.proofs.FollowingReads.{all_get}
use Rattle.instruction_effect.proofs.FollowingCores.{Walk, Rules, Follows, Done, Leaves, Still, Has, after, after_both, done_more, done_one, first_there, follow_both, held_behind, made_follows, making}

-- ---- outcomes

-- The acts of an outcome may come, from this core on. An object that is thrown is one that holds.
abbrev pub OutcomeFollows : (Core → Act → Type 0) → (Core → Value → Type 0) → Core → Outcome → Type 0
OutcomeFollows Ok Holds core (Goes acts) = Follow Ok core acts
OutcomeFollows Ok Holds core (Throws before name) = Follow Ok core before
OutcomeFollows Ok Holds core (Fills before) = Follow Ok core before
OutcomeFollows Ok Holds core (ThrowsObject o) = Holds core (value.Ref (Some o))
OutcomeFollows Ok Holds core (NeedsLoad name) = Unit {0}
OutcomeFollows Ok Holds core (NeedsLink n) = Unit {0}
OutcomeFollows Ok Holds core (NeedsInit n) = Unit {0}

-- ---- lists

pub all_both : {A : Type 0} (P : A → Type 0) (xs ys : List A) → AllByRecursion P xs → AllByRecursion P ys → AllByRecursion P (xs ++ ys)
all_both P [] ys h k = k
all_both P (x ∷ xs) ys h k = (h.0, all_both P xs ys h.1 k)

pub all_drop : {A : Type 0} (P : A → Type 0) (n : ℕ) (xs : List A) → AllByRecursion P xs → AllByRecursion P (drop n xs)
all_drop P zero xs h = h
all_drop P (suc n) [] h = tt
all_drop P (suc n) (x ∷ xs) h = all_drop P n xs h.1

pub all_held : {A : Type 0} (P Q : A → Type 0) (xs : List A) → ((x : A) → P x → Q x) → AllByRecursion P xs → AllByRecursion Q xs
all_held P Q [] f h = tt
all_held P Q (x ∷ xs) f h = (f x h.0, all_held P Q xs f h.1)

pub all_replicated : {A : Type 0} (P : A → Type 0) (n : ℕ) (x : A) → P x → AllByRecursion P (replicate n x)
all_replicated P zero x h = tt
all_replicated P (suc n) x h = (h, all_replicated P n x h)

pub set_length : {A : Type 0} (xs : List A) (place : ℕ) (x : A) → length (slice_set xs place x) ≡ length xs
set_length [] place x = refl
set_length (y ∷ xs) zero x = refl
set_length (y ∷ xs) (suc place) x = ap (λ (n : ℕ). suc n) (set_length xs place x)

-- ---- where a step stands

-- a method that has a body in these classes has it in those
abbrev pub IsOver : List Class → List Class → Type 0
IsOver now classes = (m : MethodNo) (body : Code) → newest_body classes m ≡ Some body → newest_body now m ≡ Some body

-- How a class of this name came to be there: it was, or it is that of an array type, and is made.
abbrev pub AddedAs : List Class → Name → ClassNo → Type 0
AddedAs classes name n =
    (type : FieldType) × (array_type name ≡ Some type) × IsElementThere classes type.element × (number_of classes name ≡ None)
    × (n ≡ next_class classes)

abbrev pub IsLoadedAs : List Class → Name → ClassNo → Type 0
IsLoadedAs classes name n = (number_of classes name ≡ Some n) ⊎ AddedAs classes name n

module _ (w : Walk) where
  abbrev pub F : Outcome → Type 0
  F o = OutcomeFollows w.Ok w.Holds w.start o

  -- what is known at each site of a walk
  pub record Based (site : Site) : Type 0 where
    pub rules : Rules w site.t
    pub over : IsOver w.classes site.classes
    pub deep : (words : ℕ) → is_deep (frames_at site.core site.t) words ≡ is_deep site.thread.frames words
    pub object : w.Holds site.core (value.Ref (Some site.thread.object))
    pub locals : HoldAll w.Holds site.core site.frame.locals
    pub operands : HoldAll w.Holds site.core site.frame.stack.entries
    pub whole : CoreHolds w.Holds w.start
    pub monitors : w.start.monitors ≡ site.core.monitors

  -- the frame is the top of the thread's stack
  pub record Stood (site : Site) : Type 0 where
    pub based : Based site
    pub whole : CoreHolds w.Holds site.core
    pub top : frames_at site.core site.t ≡ Java site.frame ∷ drop 1 site.thread.frames
    pub kept : w.Holds site.core (value.Ref (Some (record { 0 = 2 })))

  -- Nothing was done, and no class was made.
  pub record IsFirst (site : Site) : Type 0 where
    pub same : site.classes ≡ w.classes
    pub none : Still w site.core site.t []

  -- ---- outcomes

  pub if_follows : (b : Bool) (x y : Outcome) → F x → F y → F (cond b x y)
  if_follows true x y h k = h
  if_follows false x y h k = k

  pub if_by : (b : Bool) (x y : Outcome) → (b ≡ true → F x) → (b ≡ false → F y) → F (cond b x y)
  if_by true x y h k = h refl
  if_by false x y h k = k refl

  pub misfit_by : {A : Type 0} (o : Option A) (so : A → Outcome) → ((x : A) → o ≡ Some x → F (so x)) → F (or_misfit o so)
  misfit_by None so h = tt
  misfit_by (Some x) so h = h x refl

  pub misfit_follows : {A : Type 0} (o : Option A) (so : A → Outcome) → ((x : A) → F (so x)) → F (or_misfit o so)
  misfit_follows None so h = tt
  misfit_follows (Some x) so h = h x

  -- ---- the frame goes on

  pub all_after : (core : Core) (t : ThreadNo) (acts : List Act) (values : List Value) → Done w core t acts → HoldAll w.Holds core values
      → HoldAll w.Holds (after w.start acts) values
  all_after core t acts values d h = all_held (w.Holds core) (w.Holds (after w.start acts)) values d.held h

  pub goes_as : (now : Core) (f : MethodFrame) (taken : ℕ) (given : List Value) (pc : ℕ) → HoldAll w.Holds now f.locals
      → HoldAll w.Holds now f.stack.entries → HoldAll w.Holds now given → can_take f (exchange taken given) ≡ true
      → GoesOnAs w.Holds now f (changed f (exchange taken given) pc)
  goes_as now f taken given pc locals operands h can =
      let P : Value → Type 0 = w.Holds now in
      let entries : List Value = f.stack.entries in
      let parts = and_parts (has_room (exchange taken given) f.stack) true can in
      record {
        locals = refl;
        room = refl;
        within = λ before. leb-true (words_of (changed_entries (exchange taken given) entries)) f.stack.room parts.0;
        local_values = locals;
        operands = all_both P given (drop taken entries) h (all_drop P taken entries operands);
      }

  pub goes_follows : (site : Site) → Stood site → (acts : List Act) → Done w site.core site.t acts → (taken : ℕ) (given : List Value)
      → HoldAll w.Holds (after w.start acts) given → F (goes site acts (exchange taken given))
  goes_follows site s acts d taken given h =
      let change = exchange taken given in
      let g : MethodFrame = changed site.frame change site.next in
      let locals = all_after site.core site.t acts site.frame.locals d s.based.locals in
      let operands = all_after site.core site.t acts site.frame.stack.entries d s.based.operands in
      if_by (can_take site.frame change) (Goes (acts ++ Changes (SetsTop site.t g) ∷ [])) misfit
      (λ can. follow_both w w.start acts (Changes (SetsTop site.t g) ∷ []) d.follows (
        s.based.rules.sets_top (after w.start acts) site.frame g (drop 1 site.thread.frames) (d.frames ∙ s.top)
            (goes_as (after w.start acts) site.frame taken given site.next locals operands h can),
        tt,
      )) (λ can. tt)

  pub gives_follows : (site : Site) → Stood site → (acts : List Act) → Done w site.core site.t acts → (taken : ℕ) (v : Value)
      → w.Holds (after w.start acts) v → F (gives site acts taken v)
  gives_follows site s acts d taken v h = goes_follows site s acts d taken (v ∷ []) (h, tt)

  pub fits_follows : (site : Site) (taken : ℕ) (k : Kind) (so : Outcome) → F so → F (when_fits site taken k so)
  fits_follows site taken k so h = if_follows (has_room (exchange taken (zero_of k ∷ [])) site.frame.stack) so misfit h tt

  -- ---- operands

  pub operand_holds : (site : Site) → Based site → (depth : ℕ) (v : Value) → operand_at site.frame.stack depth ≡ Some v → w.Holds site.core v
  operand_holds site b depth v is = all_get (w.Holds site.core) site.frame.stack.entries depth v b.operands is

  pub kind_by : (k : Kind) (found : Option Value) (v : Value) → (found >>= λ v. if is_kind k v then Some v else None) ≡ Some v → found ≡ Some v
  kind_by k None v is = absurd cc
  kind_by k (Some u) v is = of_kind (is_kind k u) is
    where
      of_kind : (b : Bool) → (if b then Some u else None) ≡ Some v → Some u ≡ Some v
      of_kind true is = is
      of_kind false is = absurd cc

  pub kind_holds : (site : Site) → Based site → (k : Kind) (depth : ℕ) (v : Value) → kind_at k site.frame.stack depth ≡ Some v → w.Holds site.core v
  kind_holds site b k depth v is = operand_holds site b depth v (kind_by k (operand_at site.frame.stack depth) v is)

  pub kind_follows : (site : Site) → Based site → (k : Kind) (depth : ℕ) (so : Value → Outcome) → ((v : Value) → w.Holds site.core v → F (so v))
      → F (or_misfit (kind_at k site.frame.stack depth) so)
  kind_follows site b k depth so h =
      misfit_by (kind_at k site.frame.stack depth) so (λ v is. h v (kind_holds site b k depth v is))

  reference_by : (found : Option Value) (r : Option ObjNo) → (found >>= reference_of) ≡ Some r → found ≡ Some (value.Ref r)
  reference_by None r is = absurd cc
  reference_by (Some (value.Int n)) r is = absurd cc
  reference_by (Some (value.Long n)) r is = absurd cc
  reference_by (Some (value.Ref o)) r is = let same : o ≡ r = cc in ap (λ (x : Option ObjNo). Some (value.Ref x)) same

  pub reference_follows : (site : Site) → Based site → (depth : ℕ) (so : Option ObjNo → Outcome)
      → ((r : Option ObjNo) → w.Holds site.core (value.Ref r) → F (so r)) → F (or_misfit (reference_at site.frame.stack depth) so)
  reference_follows site b depth so h =
      misfit_by (reference_at site.frame.stack depth) so (λ r is.
      h r (operand_holds site b depth (value.Ref r) (reference_by (operand_at site.frame.stack depth) r is)))

  pub null_follows : (core : Core) (acts : List Act) (r : Option ObjNo) (so : ObjNo → Outcome) → Follows w w.start acts
      → w.Holds core (value.Ref r) → ((o : ObjNo) → w.Holds core (value.Ref (Some o)) → F (so o)) → F (unless_null acts r so)
  null_follows core acts None so h holds k = h
  null_follows core acts (Some o) so h holds k = k o holds

  -- ---- classes

  linked_in : (state : InitState) (n : ClassNo) (so : Outcome) → F so → F (when_linked_in state n so)
  linked_in states.Loaded n so h = tt
  linked_in states.Linked n so h = h
  linked_in (states.InProgress by) n so h = h
  linked_in states.Initialized n so h = h
  linked_in states.Erroneous n so h = h

  pub linked_follows : (site : Site) (n : ClassNo) (so : Outcome) → F so → F (when_linked site n so)
  linked_follows site n so h = linked_in (state_at site n) n so h

  ready_in : (site : Site) (state : InitState) (n : ClassNo) (so : Outcome) → F so → F (when_ready_in site.t state n so)
  ready_in site states.Loaded n so h = tt
  ready_in site states.Linked n so h = tt
  ready_in site (states.InProgress by) n so h = if_follows (by.0 == site.t.0) so (NeedsInit n) h tt
  ready_in site states.Initialized n so h = h
  ready_in site states.Erroneous n so h = tt

  pub ready_follows : (site : Site) (n : ClassNo) (so : Outcome) → F so → F (when_ready site n so)
  ready_follows site n so h = ready_in site (state_at site n) n so h

  abbrev adds : Name → List Act
  adds name = Changes (AddsClass name states.Initialized) ∷ []

  -- what comes then follows, behind acts that make the class
  abbrev Then : Site → Name → (List Act → ClassNo → Outcome) → Type 0
  Then site name so = (acts : List Act) (n : ClassNo) → Still w site.core site.t acts → IsLoadedAs site.classes name n → F (so acts n)

  adds_still : (site : Site) → Based site → IsFirst site → (name : Name) (type : FieldType) → array_type name ≡ Some type
      → IsElementThere site.classes type.element → Still w site.core site.t (adds name)
  adds_still site b first name type is there =
      let known : IsElementThere w.classes type.element = subst (λ (cs : List Class). IsElementThere cs type.element) first.same there in
      let before = first.none.apart in
      record {
        apart = record {
          done = done_one w site.core site.t b.rules [] (Changes (AddsClass name states.Initialized)) before.done
              (b.rules.adds_array w.start name (λ lawful. (type, is, known))) (λ now. refl);
          monitors = before.monitors;
        };
        heap = first.none.heap;
      }

  element_found : (site : Site) (name element : Name) (so : List Act → ClassNo → Outcome) (found : Option ClassNo)
      → (IsSome found → F (so (adds name) (next_class site.classes)))
      → F (elim found as (λ _. Outcome) [ None ↦ NeedsLoad element | Some n ↦ so (adds name) (next_class site.classes) ])
  element_found site name element so None h = tt
  element_found site name element so (Some n) h = h refl

  element_follows : (site : Site) (name : Name) (e : ElementType) (so : List Act → ClassNo → Outcome)
      → (IsElementThere site.classes e → F (so (adds name) (next_class site.classes))) → F (when_element site name (element_name e) so)
  element_follows site name (element_type.Class element) so h = element_found site name element so (number_of site.classes element) h
  element_follows site name e so h = h tt

  made_by : (site : Site) → Based site → IsFirst site → (name : Name) (type : Option FieldType) (so : List Act → ClassNo → Outcome)
      → array_type name ≡ type → number_of site.classes name ≡ None → Then site name so → F (when_made site name type so)
  made_by site b first name None so is absent h = tt
  made_by site b first name (Some t) so is absent h =
      element_follows site name t.element so (λ there.
      h (adds name) (next_class site.classes) (adds_still site b first name t is there) (inr (t, is, there, absent, refl)))

  loaded_by : (site : Site) → Based site → IsFirst site → (name : Name) (so : List Act → ClassNo → Outcome) (found : Option ClassNo)
      → number_of site.classes name ≡ found → Then site name so
      → F (elim found as (λ _. Outcome) [ Some n ↦ so [] n | None ↦ when_made site name (array_type name) so ])
  loaded_by site b first name so (Some n) is h = h [] n first.none (inl is)
  loaded_by site b first name so None is h = made_by site b first name (array_type name) so refl is h

  pub loaded_follows : (site : Site) → Based site → IsFirst site → (name : Name) (so : List Act → ClassNo → Outcome) → Then site name so
      → F (when_loaded site name so)
  loaded_follows site b first name so h = loaded_by site b first name so (number_of site.classes name) refl h

  abbrev pub with_classes : Site → Name → Site
  with_classes site name = record site { classes = classes_with site.classes name }

  pub stood_there : (site : Site) (name : Name) → Stood site → Stood (with_classes site name)
  stood_there site name s =
      let b = s.based in
      record {
        based = record {
          rules = b.rules;
          over = λ m body is. b.over m body (behind_array site.classes name m body is);
          deep = b.deep;
          object = b.object;
          locals = b.locals;
          operands = b.operands;
          whole = b.whole;
          monitors = b.monitors;
        };
        whole = s.whole;
        top = s.top;
        kept = s.kept;
      }

  -- what comes of a site at which a class is there, acts that make it, and its number
  abbrev pub AtSite : (Site → List Act → ClassNo → Outcome) → Type 0
  AtSite so = (there : Site) (acts : List Act) (n : ClassNo) → Stood there → Still w there.core there.t acts → F (so there acts n)

  pub there_follows : (site : Site) → Stood site → IsFirst site → (name : Name) (so : Site → List Act → ClassNo → Outcome) → AtSite so
      → F (when_there site name so)
  there_follows site s first name so h =
      let there : Site = with_classes site name in
      loaded_follows site s.based first name (so there) (λ acts n still how. h there acts n (stood_there site name s) still)

  -- ---- objects

  pub room_follows : (site : Site) → Based site → (before : List Act) (class : ClassNo) (content : Content) (events : List Event)
      (so : List Act → ObjNo → Outcome) → Still w site.core site.t before → IsNew site.core.heap content
      → ((now : Core) → HoldAll w.Holds now (values_of content))
      → ((acts : List Act) (o : ObjNo) → Has w site.core site.t acts o → F (so acts o))
      → F (when_room site.core.heap before (making class content events) content so)
  room_follows site b before class content events so still new values h =
      let heap : HeapValue = site.core.heap in
      if_by (heap_has_room heap content) (so (before ++ making class content events) (next_number heap)) (Fills before)
      (λ room. h (before ++ making class content events) (next_number heap)
      (made_follows w site.core site.t b.rules before class content events still room new values)) (λ full. still.apart.done.follows)

  pub has_found : (site : Site) → Based site → (before : List Act) (o : ObjNo) → Still w site.core site.t before
      → w.Holds site.core (value.Ref (Some o)) → Has w site.core site.t before o
  has_found site b before o still there = record { apart = still.apart; there = still.apart.done.held (value.Ref (Some o)) there }

  object_by : (site : Site) → Based site → (before : List Act) (class : ClassNo) (so : List Act → ObjNo → Outcome) (found : Option ObjNo)
      → class_object_of site.core.heap class ≡ found → Still w site.core site.t before
      → ((acts : List Act) (o : ObjNo) → Has w site.core site.t acts o → F (so acts o))
      → F (elim found as (λ _. Outcome) [
        | Some object ↦ so before object
        | None ↦ when_room site.core.heap before (makes_class_object site class) (ClassObject class) so
      ])
  object_by site b before class so (Some o) is still h =
      let there = b.rules.there site.core o (first_there (is_class_object class) site.core.heap o is) in
      h before o (has_found site b before o still there)
  object_by site b before class so None is still h =
      room_follows site b before CLASS (ClassObject class)
      (VMObjectAlloc site.t (next_number site.core.heap) (codes "java/lang/Class") ∷ []) so still is (λ now. tt) h

  pub class_object_follows : (site : Site) → Based site → (before : List Act) (class : ClassNo) (so : List Act → ObjNo → Outcome)
      → Still w site.core site.t before → ((acts : List Act) (o : ObjNo) → Has w site.core site.t acts o → F (so acts o))
      → F (when_class_object site before class so)
  class_object_follows site b before class so still h = object_by site b before class so (class_object_of site.core.heap class) refl still h

  -- ---- monitors

  abbrev owner_in : ObjNo → List ObjectMonitor → Option ThreadNo
  owner_in o monitors = (monitor_at (record w.start { monitors = monitors }) o).owner

  owner_by : (t : ThreadNo) (found : Option ThreadNo) → may_enter t found ≡ false → (owner : ThreadNo) × (found ≡ Some owner)
  owner_by t None is = absurd cc
  owner_by t (Some owner) is = (owner, refl)

  wanting_by : (site : Site) → Based site → (o : ObjNo) → w.Holds w.start (value.Ref (Some o)) → (wanted : Bool)
      → Follows w w.start (
      if wanted then Changes (SetsActivity site.t (Wanting o)) ∷ []
      else raises (MonitorContendedEnter site.t o) ∷ Changes (SetsActivity site.t (Wanting o)) ∷ []
      )
  wanting_by site b o h true = (b.rules.sets_activity w.start (Wanting o) h, tt)
  wanting_by site b o h false =
      (b.rules.raised w.start (MonitorContendedEnter site.t o), (b.rules.sets_activity w.start (Wanting o) h, tt))

  pub owned_follows : (site : Site) → Based site → (o : ObjNo) (so : Outcome)
      → (may_enter site.t (monitor_at site.core o).owner ≡ true → F so) → F (unless_owned site o so)
  owned_follows site b o so h =
      if_by (may_enter site.t (monitor_at site.core o).owner) so (Goes (wanting_acts site o)) h (λ may_not.
      let owner = owner_by site.t (monitor_at site.core o).owner may_not in
      let holds : w.Holds w.start (value.Ref (Some o)) = b.whole.owned o owner.0 (ap (owner_in o) b.monitors ∙ owner.1) in
      wanting_by site b o holds (wants site.thread.activity o))

  -- an object whose monitor was entered by these acts
  abbrev pub IsEntered : Site → List Act → ObjNo → Type 0
  IsEntered site acts o = Done w site.core site.t acts × w.Holds (after w.start acts) (value.Ref (Some o))

  enters_more : (site : Site) → Based site → (acts more : List Act) (o : ObjNo) → Has w site.core site.t acts o → Follows w (after w.start acts) more
      → AllByRecursion (Leaves site.t) more → IsEntered site (acts ++ more) o
  enters_more site b acts more o has follows left = (
    done_more w site.core site.t b.rules acts more has.apart.done follows left,
    subst (λ (c : Core). w.Holds c (value.Ref (Some o))) (sym (after_both w.start acts more))
        (held_behind w site.t b.rules more (after w.start acts) (value.Ref (Some o)) follows has.there),
  )

  enters_by : (site : Site) → Based site → (acts : List Act) (o : ObjNo) → Has w site.core site.t acts o
      → w.Ok (after w.start acts) (Changes (Enters o site.t)) → (wanted : Bool) → IsEntered site (acts ++ (
      if wanted then Changes (Enters o site.t) ∷ raises (MonitorContendedEntered site.t o) ∷ [] else Changes (Enters o site.t) ∷ []
      )) o
  enters_by site b acts o has ok true =
      let now : Core = behind (after w.start acts) (Changes (Enters o site.t)) in
      let event : Event = MonitorContendedEntered site.t o in
      let follows : Follows w (after w.start acts) (Changes (Enters o site.t) ∷ raises event ∷ []) = (ok, (b.rules.raised now event, tt)) in
      enters_more site b acts (Changes (Enters o site.t) ∷ raises event ∷ []) o has follows (λ c. refl, (λ c. refl, tt))
  enters_by site b acts o has ok false = enters_more site b acts (Changes (Enters o site.t) ∷ []) o has (ok, tt) (λ c. refl, tt)

  -- behind these acts, the monitor of an object that holds is entered
  pub entering_follows : (site : Site) → Based site → (acts : List Act) (o : ObjNo) (so : List Act → Outcome) → Has w site.core site.t acts o
      → ((more : List Act) → IsEntered site (acts ++ more) o → F (so more)) → F (entering site o so)
  entering_follows site b acts o so has h =
      owned_follows site b o (so (entering_acts site o)) (λ may.
      let ok : w.Ok (after w.start acts) (Changes (Enters o site.t)) =
      b.rules.enters (after w.start acts) o
      (ap (λ (ms : List ObjectMonitor). may_enter site.t (owner_in o ms)) has.apart.monitors ∙ may) has.there in
      h (entering_acts site o) (enters_by site b acts o has ok (wants site.thread.activity o)))
