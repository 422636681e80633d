-- No two classes have the same name.
use Rattle.std.proofs.Common.{◌≡◌, ℕ, Bool, true, false, ◌||◌, cond, List, [], ◌∷◌, map, Option, Some, None, refl, sym, subst}
use Rattle.std.specs.Prelude.{fold, bytes_eq}
use Rattle.std.specs.List.{AllByRecursion, IsDistinct, list_any}
use Rattle.std.proofs.lemmas.Map.Keys.{IsDistinct-cons}
use Rattle.jv_names.specs.Names.{Name}
use Rattle.ti_ids.specs.declared.actor.Actor.{Actor}
use Rattle.link_versions.specs.Classes.{with_numbered}
use Rattle.machine_state.specs.Jobs.{Job}
use Rattle.machine_state.specs.Core.{Core, CoreClass}
use Rattle.machine_state.specs.Acts.{State, Act, Change, Changes, Notes, Makes, PutsField, PutsElement, PutsSide, PutsBehind, PutsStatic, Enters, Leaves, GoesToWait, Notifies, NotifiesAll, TakesBack, Prints, SetsTop, Pops, Pushes, PushesInit, SetsState, SetsActivity, MakesThread, AddsClass, SetsClass, EntersInitializer, Fails, SetsPhase, MarksDeath, TakesCall, TakesScript, has_failed_load, changed, acted, birth_after}
use Rattle.machine_steps.specs.World.{World}
use Rattle.machine_steps.specs.Actors.{next_acts}
use Rattle.machine_steps.specs.Replay.{opening, step, step_by, run_from}
use Rattle.machine_steps.specs.Laws.{NamesDiffer}
use Rattle.machine_steps.proofs.Growing.{names_same}

abbrev AreDifferent : List CoreClass → Type 0
AreDifferent classes = IsDistinct bytes_eq (map (λ c. c.name) classes)

-- ---- one change

or_first : (a b : Bool) → (a || b) ≡ false → a ≡ false
or_first true b e = e
or_first false b e = refl

or_second : (a b : Bool) → (a || b) ≡ false → b ≡ false
or_second true b e = absurd cc
or_second false b e = e

none_has : (name : Name) (names : List Name) → list_any (bytes_eq name) names ≡ false → AllByRecursion (λ other. bytes_eq name other ≡ false) names
none_has name [] e = tt
none_has name (other ∷ names) e =
    let rest = list_any (bytes_eq name) names in
    (or_first (bytes_eq name other) rest e, none_has name names (or_second (bytes_eq name other) rest e))

added_differs : (c : CoreClass) (classes : List CoreClass) (there failed : Bool) → list_any (bytes_eq c.name) (map (λ x. x.name) classes) ≡ there
    → AreDifferent classes → AreDifferent (cond (there || failed) classes (c ∷ classes))
added_differs c classes true failed e h = h
added_differs c classes false true e h = h
added_differs c classes false false e h =
    let names = map (λ (x : CoreClass). x.name) classes in IsDistinct-cons bytes_eq c.name names (none_has c.name names e) h

same_differ : (change : CoreClass → CoreClass) (classes : List CoreClass) (n : ℕ) → ((c : CoreClass) → (change c).name ≡ c.name)
    → AreDifferent classes
    → AreDifferent (with_numbered change classes n)
same_differ change classes n same h = subst (λ (names : List Name). IsDistinct bytes_eq names) (sym (names_same change classes n same)) h

change_differs : (birth : ℕ) (c : Change) (core : Core) → AreDifferent core.classes → AreDifferent (changed birth c core).classes
change_differs birth (AddsClass name state) core h =
    let there = list_any (bytes_eq name) (map (λ (x : CoreClass). x.name) core.classes) in
    added_differs (record { name = name; state = state; entered = false }) core.classes there (has_failed_load core name) refl h
change_differs birth (SetsClass class state) core h = same_differ _ core.classes class.0 (λ c. refl) h
change_differs birth (EntersInitializer class) core h = same_differ _ core.classes class.0 (λ c. refl) h
change_differs birth (Makes object) core h = h
change_differs birth (PutsField object place v) core h = h
change_differs birth (PutsElement object place v) core h = h
change_differs birth (PutsSide object side) core h = h
change_differs birth (PutsBehind object units) core h = h
change_differs birth (PutsStatic field v) core h = h
change_differs birth (Enters object t) core h = h
change_differs birth (Leaves object) core h = h
change_differs birth (GoesToWait object t) core h = h
change_differs birth (Notifies object) core h = h
change_differs birth (NotifiesAll object) core h = h
change_differs birth (TakesBack object t) core h = h
change_differs birth (Prints bytes) core h = h
change_differs birth (SetsTop t frame) core h = h
change_differs birth (Pops t) core h = h
change_differs birth (Pushes t frame) core h = h
change_differs birth (PushesInit t class) core h = h
change_differs birth (SetsState t state) core h = h
change_differs birth (SetsActivity t activity) core h = h
change_differs birth (MakesThread object) core h = h
change_differs birth (Fails class error) core h = h
change_differs birth (SetsPhase phase) core h = h
change_differs birth MarksDeath core h = h
change_differs birth (TakesCall actor) core h = h
change_differs birth (TakesScript env) core h = h

-- ---- acts, steps and schedules

act_differs : (job : Job) (actor : Actor) (birth : ℕ) (s : State) (a : Act) → AreDifferent s.core.classes
    → AreDifferent (acted job actor birth s a).core.classes
act_differs job actor birth s (Changes c) h = change_differs birth c s.core h
act_differs job actor birth s (Notes what) h = h

acts_differ : (job : Job) (actor : Actor) (birth : ℕ) (s : State) (acts : List Act) → AreDifferent s.core.classes
    → AreDifferent (fold (acted job actor birth) s acts).core.classes
acts_differ job actor birth s [] h = h
acts_differ job actor birth s (a ∷ acts) h = acts_differ job actor birth (acted job actor birth s a) acts (act_differs job actor birth s a h)

step_differs : (w : World) (s : State) (actor : Actor) (next : Option (List Act)) → AreDifferent s.core.classes
    → AreDifferent (step_by w s actor next).core.classes
step_differs w s actor None h = h
step_differs w s actor (Some acts) h = acts_differ w.job actor (birth_after s.trace acts) s acts h

run_differs : (w : World) (s : State) (schedule : List Actor) → AreDifferent s.core.classes → AreDifferent (run_from w s schedule).core.classes
run_differs w s [] h = h
run_differs w s (actor ∷ schedule) h = run_differs w (step w s actor) schedule (step_differs w s actor (next_acts w s actor) h)

pub names_differ : NamesDiffer
unfolding opening IsDistinct
names_differ w schedule = run_differs w (opening w.job) schedule tt
