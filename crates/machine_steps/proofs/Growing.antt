-- What only grows stays as it was at each act, and so at each step.
use Rattle.std.proofs.Common.{◌≡◌, ◌∙◌, ℕ, ◌-◌, ◌==◌, List, [], ◌∷◌, ◌++◌, map, length, Option, Some, None, Bool, true, false, cond, refl, sym, ap, append_assoc}
use Rattle.std.specs.Prelude.{fold, slice_get, slice_set, unwrap_or}
use Rattle.std.specs.List.{AllByRecursion}
use Rattle.std.specs.Option.{option_map_or}
use Rattle.std.proofs.lemmas.List.{append-nil}
use Rattle.std.proofs.Math.Seq.{map-set_same}
use Rattle.std.proofs.Math.ListN.{get_or}
use Rattle.std.proofs.lemmas.Option.{unwrap_or-slice_get}
use Rattle.ti_ids.specs.declared.number.ObjNo.{ObjNo}
use Rattle.ti_ids.specs.declared.number.ClassNo.{ClassNo}
use Rattle.ti_ids.specs.declared.actor.Actor.{Actor}
use Rattle.jv_names.specs.Names.{Name}
use Rattle.java_heap.specs.declared.object.Object.{Object}
use Rattle.java_heap.specs.Heaps.{HeapValue}
use Rattle.java_heap.specs.Changes.{with_changed}
use Rattle.link_versions.specs.Classes.{with_numbered}
use Rattle.machine_state.specs.Jobs.{Job}
use Rattle.machine_state.specs.Core.{Core, CoreClass}
use Rattle.machine_state.specs.Trace.{Entry, Record}
use Rattle.machine_state.specs.Acts.{State, Act, Change, Changes, Notes, Makes, PutsField, PutsElement, PutsSide, PutsBehind, PutsStatic, Enters, Leaves, GoesToWait, Notifies, NotifiesAll, TakesBack, Prints, SetsTop, Pops, Pushes, PushesInit, SetsState, SetsActivity, MakesThread, AddsClass, SetsClass, EntersInitializer, Fails, SetsPhase, MarksDeath, TakesCall, TakesScript, is_barred, changed, acted}
use Rattle.machine_steps.specs.Laws.{GoesOn, ComesBefore, IsOfStep, GrowsBy}

-- ---- lists that go on

go_same : {A : Type 0} (before after : List A) → after ≡ before → GoesOn before after
go_same before after e = record { more = []; grown = e ∙ sym (append-nil before) }

pub go_trans : {A : Type 0} (xs ys zs : List A) → GoesOn xs ys → GoesOn ys zs → GoesOn xs zs
go_trans xs ys zs a b = record { more = a.more ++ b.more; grown = b.grown ∙ ap (λ l. l ++ b.more) a.grown ∙ append_assoc xs a.more b.more }

come_same : (before after : List Name) → after ≡ before → ComesBefore before after
come_same before after e = record { new = []; grown = e }

pub come_trans : (xs ys zs : List Name) → ComesBefore xs ys → ComesBefore ys zs → ComesBefore xs zs
come_trans xs ys zs a b =
    record { new = b.new ++ a.new; grown = b.grown ∙ ap (λ (l : List Name). b.new ++ l) a.grown ∙ sym (append_assoc b.new a.new xs) }

-- ---- what is kept of a core

abbrev pub class_names : Core → List Name
class_names core = map (λ c. c.name) core.classes

abbrev pub object_classes : Core → List ClassNo
object_classes core = map (λ o. o.class) core.heap.objects

pub record Keeps (before after : Core) : Type 0 where
  pub output : GoesOn before.output after.output
  pub objects : GoesOn (object_classes before) (object_classes after)
  pub classes : ComesBefore (class_names before) (class_names after)

pub keep_trans : (a b c : Core) → Keeps a b → Keeps b c → Keeps a c
keep_trans a b c x y = record {
  output = go_trans a.output b.output c.output x.output y.output;
  objects = go_trans (object_classes a) (object_classes b) (object_classes c) x.objects y.objects;
  classes = come_trans (class_names a) (class_names b) (class_names c) x.classes y.classes;
}

-- all three are as they were
keep_same : (before after : Core) → after.output ≡ before.output → object_classes after ≡ object_classes before
    → class_names after ≡ class_names before → Keeps before after
keep_same before after o h c = record {
  output = go_same before.output after.output o;
  objects = go_same (object_classes before) (object_classes after) h;
  classes = come_same (class_names before) (class_names after) c;
}

pub keep_itself : (core : Core) → Keeps core core
keep_itself core = keep_same core core refl refl refl

-- ---- an object is changed, and stays of its class

set_same : (xs : List Object) (k : ℕ) (o : Object) (change : Object → Object) → slice_get xs k ≡ Some o → (change o).class ≡ o.class
    → map (λ x. x.class) (slice_set xs k (change o)) ≡ map (λ x. x.class) xs
set_same xs k o change found same =
    let there : get_or xs k o ≡ o = sym (unwrap_or-slice_get xs k o) ∙ ap (λ (r : Option Object). unwrap_or r o) found in
    map-set_same (λ x. x.class) xs k (change o) o (same ∙ ap (λ (x : Object). x.class) (sym there))

changed_at : (xs : List Object) (k : ℕ) (found : Option Object) (change : Object → Object) → slice_get xs k ≡ found
    → ((o : Object) → (change o).class ≡ o.class)
    → map (λ x. x.class) (option_map_or (λ o. slice_set xs k (change o)) found xs) ≡ map (λ x. x.class) xs
changed_at xs k None change e same = refl
changed_at xs k (Some o) change e same = set_same xs k o change e (same o)

changed_there : (heap : HeapValue) (n : ℕ) (zero_is : Bool) (change : Object → Object) → ((o : Object) → (change o).class ≡ o.class)
    → let found = cond zero_is None (slice_get heap.objects (n - 1)) in
    map (λ x. x.class) (option_map_or (λ o. slice_set heap.objects (n - 1) (change o)) found heap.objects) ≡ map (λ x. x.class) heap.objects
changed_there heap n true change same = refl
changed_there heap n false change same = changed_at heap.objects (n - 1) (slice_get heap.objects (n - 1)) change refl same

heap_same : (heap : HeapValue) (n : ObjNo) (change : Object → Object) → ((o : Object) → (change o).class ≡ o.class)
    → map (λ x. x.class) (with_changed heap n change).objects ≡ map (λ x. x.class) heap.objects
heap_same heap n change same = changed_there heap n.0 (n.0 == 0) change same

-- ---- a class is changed, and keeps its name

name_by : (b : Bool) (c d : CoreClass) (older next : List CoreClass) → d.name ≡ c.name → map (λ x. x.name) next ≡ map (λ x. x.name) older
    → map (λ x. x.name) (cond b (d ∷ older) (c ∷ next)) ≡ map (λ x. x.name) (c ∷ older)
name_by true c d older next e h = ap (λ (n : Name). n ∷ map (λ x. x.name) older) e
name_by false c d older next e h = ap (λ (l : List Name). c.name ∷ l) h

pub names_same : (change : CoreClass → CoreClass) (classes : List CoreClass) (n : ℕ) → ((c : CoreClass) → (change c).name ≡ c.name)
    → map (λ x. x.name) (with_numbered change classes n) ≡ map (λ x. x.name) classes
names_same change [] n same = refl
names_same change (c ∷ older) n same =
    name_by (n == length (c ∷ older)) c (change c) older (with_numbered change older n) (same c) (names_same change older n same)

-- ---- one change

map_last : (xs : List Object) (o : Object) → map (λ x. x.class) (xs ++ o ∷ []) ≡ map (λ x. x.class) xs ++ o.class ∷ []
map_last [] o = refl
map_last (x ∷ xs) o = ap (λ (l : List ClassNo). x.class ∷ l) (map_last xs o)

added_before : (there : Bool) (c : CoreClass) (classes : List CoreClass)
    → ComesBefore (map (λ x. x.name) classes) (map (λ x. x.name) (cond there classes (c ∷ classes)))
added_before true c classes = come_same (map (λ x. x.name) classes) (map (λ x. x.name) classes) refl
added_before false c classes = record { new = c.name ∷ []; grown = refl }

pub change_keeps : (birth : ℕ) (c : Change) (core : Core) → Keeps core (changed birth c core)
change_keeps birth (Makes object) core = record {
  output = go_same core.output core.output refl;
  objects = record { more = object.class ∷ []; grown = map_last core.heap.objects object };
  classes = come_same (class_names core) (class_names core) refl;
}
change_keeps birth (PutsField object place v) core =
    keep_same core (changed birth (PutsField object place v) core) refl (heap_same core.heap object _ (λ o. refl)) refl
change_keeps birth (PutsElement object place v) core =
    keep_same core (changed birth (PutsElement object place v) core) refl (heap_same core.heap object _ (λ o. refl)) refl
change_keeps birth (PutsSide object side) core =
    keep_same core (changed birth (PutsSide object side) core) refl (heap_same core.heap object _ (λ o. refl)) refl
change_keeps birth (PutsBehind object units) core =
    keep_same core (changed birth (PutsBehind object units) core) refl (heap_same core.heap object _ (λ o. refl)) refl
change_keeps birth (Prints bytes) core = record {
  output = record { more = bytes; grown = refl };
  objects = go_same (object_classes core) (object_classes core) refl;
  classes = come_same (class_names core) (class_names core) refl;
}
change_keeps birth (AddsClass name state) core = record {
  output = go_same core.output core.output refl;
  objects = go_same (object_classes core) (object_classes core) refl;
  classes = added_before (is_barred core name) (record { name = name; state = state; entered = false }) core.classes;
}
change_keeps birth (SetsClass class state) core =
    keep_same core (changed birth (SetsClass class state) core) refl refl (names_same _ core.classes class.0 (λ c. refl))
change_keeps birth (EntersInitializer class) core =
    keep_same core (changed birth (EntersInitializer class) core) refl refl (names_same _ core.classes class.0 (λ c. refl))
change_keeps birth (PutsStatic field v) core = keep_same core (changed birth (PutsStatic field v) core) refl refl refl
change_keeps birth (Enters object t) core = keep_same core (changed birth (Enters object t) core) refl refl refl
change_keeps birth (Leaves object) core = keep_same core (changed birth (Leaves object) core) refl refl refl
change_keeps birth (GoesToWait object t) core = keep_same core (changed birth (GoesToWait object t) core) refl refl refl
change_keeps birth (Notifies object) core = keep_same core (changed birth (Notifies object) core) refl refl refl
change_keeps birth (NotifiesAll object) core = keep_same core (changed birth (NotifiesAll object) core) refl refl refl
change_keeps birth (TakesBack object t) core = keep_same core (changed birth (TakesBack object t) core) refl refl refl
change_keeps birth (SetsTop t frame) core = keep_same core (changed birth (SetsTop t frame) core) refl refl refl
change_keeps birth (Pops t) core = keep_same core (changed birth (Pops t) core) refl refl refl
change_keeps birth (Pushes t frame) core = keep_same core (changed birth (Pushes t frame) core) refl refl refl
change_keeps birth (PushesInit t class) core = keep_same core (changed birth (PushesInit t class) core) refl refl refl
change_keeps birth (SetsState t state) core = keep_same core (changed birth (SetsState t state) core) refl refl refl
change_keeps birth (SetsActivity t activity) core = keep_same core (changed birth (SetsActivity t activity) core) refl refl refl
change_keeps birth (MakesThread object) core = keep_same core (changed birth (MakesThread object) core) refl refl refl
change_keeps birth (Fails class error) core = keep_same core (changed birth (Fails class error) core) refl refl refl
change_keeps birth (SetsPhase phase) core = keep_same core (changed birth (SetsPhase phase) core) refl refl refl
change_keeps birth MarksDeath core = keep_same core (changed birth MarksDeath core) refl refl refl
change_keeps birth (TakesCall actor) core = keep_same core (changed birth (TakesCall actor) core) refl refl refl
change_keeps birth (TakesScript env) core = keep_same core (changed birth (TakesScript env) core) refl refl refl

-- ---- one act, and all acts of a step

note_keeps : (job : Job) (actor : Actor) (birth : ℕ) (s : State) (what : Record) → Keeps s.core (acted job actor birth s (Notes what)).core
note_keeps job actor birth s what = keep_same s.core (acted job actor birth s (Notes what)).core refl refl refl

pub act_keeps : (job : Job) (actor : Actor) (birth : ℕ) (s : State) (a : Act) → Keeps s.core (acted job actor birth s a).core
act_keeps job actor birth s (Changes c) = change_keeps birth c s.core
act_keeps job actor birth s (Notes what) = note_keeps job actor birth s what

pub acts_keep : (job : Job) (actor : Actor) (birth : ℕ) (s : State) (as_acts : List Act) → Keeps s.core (fold (acted job actor birth) s as_acts).core
acts_keep job actor birth s [] = keep_itself s.core
acts_keep job actor birth s (a ∷ rest) =
    let next = acted job actor birth s a in
    let after = fold (acted job actor birth) next rest in
    keep_trans s.core next.core after.core (act_keeps job actor birth s a) (acts_keep job actor birth next rest)

-- ---- the trace

abbrev pub Grows : State → Actor → State → Type 0
Grows s actor after = GrowsBy s actor after

own_append : (s : State) (actor : Actor) (xs ys : List Entry) → AllByRecursion (IsOfStep s actor) xs → AllByRecursion (IsOfStep s actor) ys
    → AllByRecursion (IsOfStep s actor) (xs ++ ys)
own_append s actor [] ys h k = k
own_append s actor (x ∷ xs) ys h k = (h.0, own_append s actor xs ys h.1 k)

-- so far these entries were added, and the number of steps is that of the beginning
pub record Going (s : State) (actor : Actor) (now : State) : Type 0 where
  pub grows : GrowsBy s actor now
  pub steps : now.steps ≡ s.steps

note_entry : State → Actor → Record → Entry
note_entry s actor what = record { step = s.steps; actor = actor; what = what }

going_note : (job : Job) (birth : ℕ) (s : State) (actor : Actor) (now : State) (what : Record) → Going s actor now
    → Going s actor (acted job actor birth now (Notes what))
unfolding note_entry
going_note job birth s actor now what g = record {
  grows = record {
    more = g.grows.more ++ note_entry now actor what ∷ [];
    grown =
        ap (λ (l : List Entry). l ++ note_entry now actor what ∷ []) g.grows.grown
        ∙ append_assoc s.trace g.grows.more (note_entry now actor what ∷ []);
    own = own_append s actor g.grows.more (note_entry now actor what ∷ []) g.grows.own ((g.steps, refl), tt);
  };
  steps = g.steps;
}

going_change : (job : Job) (birth : ℕ) (s : State) (actor : Actor) (now : State) (c : Change) → Going s actor now
    → Going s actor (acted job actor birth now (Changes c))
going_change job birth s actor now c g = record { grows = record { more = g.grows.more; grown = g.grows.grown; own = g.grows.own }; steps = g.steps }

going_act : (job : Job) (birth : ℕ) (s : State) (actor : Actor) (now : State) (a : Act) → Going s actor now
    → Going s actor (acted job actor birth now a)
going_act job birth s actor now (Changes c) g = going_change job birth s actor now c g
going_act job birth s actor now (Notes what) g = going_note job birth s actor now what g

pub going_acts : (job : Job) (birth : ℕ) (s : State) (actor : Actor) (now : State) (rest : List Act) → Going s actor now
    → Going s actor (fold (acted job actor birth) now rest)
going_acts job birth s actor now [] g = g
going_acts job birth s actor now (a ∷ rest) g = going_acts job birth s actor (acted job actor birth now a) rest (going_act job birth s actor now a g)

pub going_none : (s : State) (actor : Actor) → Going s actor s
going_none s actor = record { grows = record { more = []; grown = sym (append-nil s.trace); own = tt }; steps = refl }
