-- What the parts stand for after a step of the machine itself, and after each step of a thread that performs no instruction.
use Rattle.std.proofs.Common.{◌≡◌, ◌∙◌, ◌≤◌, ℕ, suc, List, [], ◌∷◌, ◌++◌, length, reverse, Option, Some, None, Bool, true, false, refl, sym, ap, subst, arith, length-set, cond, inl, inr}
use Rattle.std.specs.Prelude.{◌⊎◌, is_some, slice_get, slice_set, Vec, bytes_eq}
use Rattle.std.specs.Option.{option_to_list}
use Rattle.std.specs.declared.alloc.Global.{Global}
use Rattle.std.specs.List.{AllZip, list_all}
use Rattle.ti_ids.specs.declared.actor.Actor.TheVariants as actors
use Rattle.ti_ids.specs.declared.state.ThreadState.{ThreadState}
use Rattle.ti_ids.specs.declared.state.ThreadState.TheVariants.{Entering, Ended}
use Rattle.ti_ids.specs.declared.state.InitState.{InitState}
use Rattle.ti_ids.specs.declared.state.InitState.TheVariants as states
use Rattle.ti_codes.specs.declared.phase.Phase.{Phase}
use Rattle.ti_codes.specs.declared.phase.Phase.TheVariants as phases
use Rattle.ti_ids.specs.Maybe.{◌>>=◌}
use Rattle.first_form.specs.ClassFiles.{tree_of}
use Rattle.first_form.specs.Reading.{class_of}
use Rattle.machine_model.specs.declared.MachineRule.{MachineRule}
use Rattle.machine_model.specs.declared.MachineRule.TheVariants as machines
use Rattle.machine_model.specs.declared.ThreadRule.{ThreadRule}
use Rattle.machine_model.specs.declared.ThreadRule.TheVariants as rules
use Rattle.machine_model.specs.Jobs.{Job, file_of, main_tree}
use Rattle.machine_model.specs.Core as core
use Rattle.machine_model.specs.Core.{class_state, with_thread, with_state}
use Rattle.machine_model.specs.Trace.{Entry, Loaded, Raised, ClassLoad, versions, versions_after, made_by, Made, Nothing, Given, Again, last_of}
use Rattle.machine_model.specs.Rules.{State, has_ended, live_rule, rule_in, machine_rule, ready_thread}
use Rattle.machine_model.specs.Changes.{Change, machine_change, thread_change, bytes_of, end_init, first_statics}
use Rattle.machine_model.specs.Replay.{step, stepped, machine_step}
use Rattle.machine_core.specs.declared.frame.Frame.{Frame}
use Rattle.machine_core.specs.declared.frame.Frame.TheVariants.{Init, Java}
use Rattle.machine_core.specs.declared.thread.Thread.{Thread}
use Rattle.machine_core.specs.declared.parts.Parts.{Parts}
use Rattle.machine_core.specs.Lists.{ChangedAt}
use Rattle.machine_core.specs.ThreadChanges.{IsFirst, InState, Pushed, Popped}
use Rattle.machine_core.specs.Stands.{FrameStands, ThreadStands, statics_in, StandsFor, RuleIs}
use Rattle.machine_core.proofs.Stacks.{reverse_one}
use Rattle.machine_core.proofs.Zips.{zip_at, zip_changed}
use Rattle.machine_core.proofs.Classes.{same_bytes, state_added, state_changed}
use Rattle.machine_core.proofs.Kept.{entries, frames_kept, thread_kept, threads_kept, loaded_kept, loaded_some}
use Rattle.machine_core.proofs.Ready.{ready_of, entry_told, load_told, some_told, init_told}

-- a step by this rule, of the thread of this number
abbrev pub Steps : Job → State → Parts → ThreadRule → ℕ → Type 0
Steps job s q rule number = RuleIs (Some rule) (ready_thread job s.core number) → StandsFor job q (step job s (actors.Thread (record { 0 = number })))

pub at_number : (job : Job) (s : State) (q : Parts) (rule : ThreadRule) (number n : ℕ) → number ≡ suc n → Steps job s q rule (suc n) → Steps job s q rule number
at_number job s q rule number n e h = subst (Steps job s q rule) (sym e) h

-- also where the parts name the thread
pub at_number_by : (job : Job) (s : State) (q : ℕ → Parts) (rule : ThreadRule) (number n : ℕ) → number ≡ suc n → Steps job s (q (suc n)) rule (suc n) → Steps job s (q number) rule number
at_number_by job s q rule number n e h = subst (λ (k : ℕ). Steps job s (q k) rule k) (sym e) h

pub same_loaded : (b : Bool) → b ≡ true → b ≡ true
same_loaded b e = e

pub length_kept : {A : Type 0} (xs : List A) (n : ℕ) (x : A) (k : ℕ) → length xs ≤ k → length (slice_set xs n x) ≤ k
length_kept {A = A} xs n x k h = omega (arith, length-set {A = A} xs n x)

-- ---- a thread in another state

in_state : (job : Job) (trace new : List Entry) (l m : Bool) → (l ≡ true → m ≡ true) → (state : ThreadState) (u : core.Thread) (t t' : Thread) → InState state t t' → ThreadStands job trace l t u → ThreadStands job (trace ++ new) m t' (record u { state = state })
in_state job trace new l m more state u t t' c h = record {
  state = c.state_is;
  frames = subst (λ (fs : List Frame). AllZip (FrameStands job (trace ++ new) m) (reverse fs) u.frames) (sym c.frames) (frames_kept job trace new l m more (reverse t.frames.items) u.frames h.frames);
}

pub begin_stands : (job : Job) (p : Parts) (s : State) (n : ℕ) (ts : Vec Thread Global) → StandsFor job p s → ChangedAt n (InState Entering) p.threads.items ts.items → Steps job s (record p { threads = ts }) rules.Begin (suc n)
begin_stands job p s n ts h c is =
    let r = ready_of job s n rules.Begin is in
    let u = r.0 in
    let l = is_some p.class in
    subst (StandsFor job (record p { threads = ts })) (sym r.1.step_is) (record {
      known = h.known;
      phase = h.phase;
      died = h.died;
      threads = zip_changed (InState Entering) (ThreadStands job s.trace l) (ThreadStands job _ l) p.threads.items ts.items s.core.threads n u _ c h.threads r.1.there (in_state job s.trace _ l l (same_loaded l) Entering u) (thread_kept job s.trace _ l l (same_loaded l));
      crowd = length_kept s.core.threads n _ 64 h.crowd;
      class = h.class;
      loaded = loaded_kept job s.trace _ p.class (refl, tt) h.loaded;
      statics = h.statics;
      objects = h.objects;
      few_objects = omega (arith, h.few_objects);
      output = h.output;
    })

pub finish_stands : (job : Job) (p : Parts) (s : State) (n : ℕ) (ts : Vec Thread Global) → StandsFor job p s → ChangedAt n (InState Ended) p.threads.items ts.items → Steps job s (record p { threads = ts }) rules.Finish (suc n)
finish_stands job p s n ts h c is =
    let r = ready_of job s n rules.Finish is in
    let u = r.0 in
    let l = is_some p.class in
    subst (StandsFor job (record p { threads = ts })) (sym r.1.step_is) (record {
      known = h.known;
      phase = h.phase;
      died = h.died;
      threads = zip_changed (InState Ended) (ThreadStands job s.trace l) (ThreadStands job _ l) p.threads.items ts.items s.core.threads n u _ c h.threads r.1.there (in_state job s.trace _ l l (same_loaded l) Ended u) (thread_kept job s.trace _ l l (same_loaded l));
      crowd = length_kept s.core.threads n _ 64 h.crowd;
      class = h.class;
      loaded = loaded_kept job s.trace _ p.class (refl, tt) h.loaded;
      statics = h.statics;
      objects = h.objects;
      few_objects = omega (arith, h.few_objects);
      output = h.output;
    })

-- ---- what main needs

-- one more at the end is the last one
last_push : (xs : List (List ℕ)) (x : List ℕ) → last_of (xs ++ x ∷ []) ≡ Some x
last_push [] x = refl
last_push (y ∷ []) x = refl
last_push (y ∷ (z ∷ zs)) x = last_push (z ∷ zs) x

added_by : (class : List ℕ) (made : Made) (kept : List ℕ) (trace new : List Entry) (x : List ℕ) → ((k : List ℕ) → versions_after class k (trace ++ new) ≡ versions_after class k trace ++ x ∷ [])
    → (elim made as (λ _. List (List ℕ)) [ Nothing ↦ versions_after class kept (trace ++ new) | Given bytes ↦ bytes ∷ versions_after class bytes (trace ++ new) | Again ↦ kept ∷ versions_after class kept (trace ++ new) ])
    ≡ (elim made as (λ _. List (List ℕ)) [ Nothing ↦ versions_after class kept trace | Given bytes ↦ bytes ∷ versions_after class bytes trace | Again ↦ kept ∷ versions_after class kept trace ]) ++ x ∷ []
added_by class Nothing kept trace new x h = h kept
added_by class (Given bytes) kept trace new x h = ap (λ (w : List (List ℕ)). bytes ∷ w) (h bytes)
added_by class Again kept trace new x h = ap (λ (w : List (List ℕ)). kept ∷ w) (h kept)

versions_added : (class kept : List ℕ) (trace new : List Entry) (x : List ℕ) → ((k : List ℕ) → versions_after class k new ≡ x ∷ []) → versions_after class kept (trace ++ new) ≡ versions_after class kept trace ++ x ∷ []
versions_added class kept [] new x h = h kept
versions_added class kept (e ∷ trace) new x h = added_by class (made_by class e.what) kept trace new x (λ k. versions_added class k trace new x h)

given_by : (b : Bool) (kept bytes : List ℕ) → b ≡ true
    → (elim (cond b (Given bytes) Nothing) as (λ _. List (List ℕ)) [ Nothing ↦ [] | Given given ↦ given ∷ [] | Again ↦ kept ∷ [] ]) ≡ bytes ∷ []
given_by true kept bytes e = refl
given_by false kept bytes e = absurd cc

-- the entries of the load make its file the class's version
loads_one : (job : Job) (s : State) (n : ℕ) (kept : List ℕ)
    → versions_after job.main kept (entries s (actors.Thread (record { 0 = suc n })) (Loaded job.main (bytes_of job job.main) ∷ Raised (ClassLoad (suc n) job.main) ∷ [])) ≡ bytes_of job job.main ∷ []
loads_one job s n kept = given_by (bytes_eq job.main job.main) kept (bytes_of job job.main) (same_bytes job.main)

some_file : (job : Job) → is_some (main_tree job) ≡ true → file_of job job.main ≡ Some (bytes_of job job.main)
some_file job h =
    elim (file_of job job.main) as (λ r. is_some (r >>= (λ bytes. class_of bytes >>= (λ c. Some (tree_of c)))) ≡ true → r ≡ Some (elim r as (λ _. List ℕ) [ Some bytes ↦ bytes | None ↦ [] ])) [
      | None ↦ λ e. absurd cc
      | Some b ↦ λ e. refl
    ] h

pub load_stands : (job : Job) (p : Parts) (s : State) (n : ℕ) → StandsFor job p s → Steps job s (record p { class = Some states.Loaded }) rules.Load (suc n)
load_stands job p s n h is =
    let r = ready_of job s n rules.Load is in
    let u = r.0 in
    let told = entry_told u.state u.frames (class_state s.core job.main) rules.Load r.1.rule_is (λ e. cc) (λ e. cc) (λ e. cc) (λ e. cc) in
    let none = load_told (class_state s.core job.main) told.1 in
    subst (StandsFor job (record p { class = Some states.Loaded })) (sym r.1.step_is) (record {
      known = h.known;
      phase = h.phase;
      died = h.died;
      threads = threads_kept job s.trace _ (is_some p.class) true (λ e. refl) p.threads.items s.core.threads h.threads;
      crowd = h.crowd;
      class = sym (state_added s.core.classes job.main states.Loaded none);
      loaded = ap last_of (versions_added job.main [] s.trace _ (bytes_of job job.main) (loads_one job s n)) ∙ last_push (versions s.trace job.main) (bytes_of job job.main) ∙ sym (some_file job h.known.tree);
      statics = h.statics;
      objects = h.objects;
      few_objects = omega (arith, h.few_objects);
      output = h.output;
    })

pub link_stands : (job : Job) (p : Parts) (s : State) (n : ℕ) → StandsFor job p s → Steps job s (record p { class = Some states.Linked }) rules.Link (suc n)
link_stands job p s n h is =
    let r = ready_of job s n rules.Link is in
    let u = r.0 in
    let told = entry_told u.state u.frames (class_state s.core job.main) rules.Link r.1.rule_is (λ e. cc) (λ e. cc) (λ e. cc) (λ e. cc) in
    let some = some_told (class_state s.core job.main) rules.Link told.1 (λ e. cc) in
    let held : is_some p.class ≡ true = ap (λ (x : Option InitState). is_some x) h.class ∙ some in
    subst (StandsFor job (record p { class = Some states.Linked })) (sym r.1.step_is) (record {
      known = h.known;
      phase = h.phase;
      died = h.died;
      threads = threads_kept job s.trace _ (is_some p.class) true (λ e. refl) p.threads.items s.core.threads h.threads;
      crowd = h.crowd;
      class = sym (state_changed s.core.classes job.main states.Linked some);
      loaded = loaded_kept job s.trace _ (Some states.Linked) (refl, tt) (loaded_some job s.trace p.class states.Linked held h.loaded);
      statics = h.statics;
      objects = h.objects;
      few_objects = omega (arith, h.few_objects);
      output = h.output;
    })

-- ---- the initialization

pub frames_pushed : (job : Job) (trace : List Entry) (m : Bool) (old new : List Frame) (f : Frame) (g : core.Frame) (gs : List core.Frame) → new ≡ old ++ f ∷ [] → FrameStands job trace m f g → AllZip (FrameStands job trace m) (reverse old) gs → AllZip (FrameStands job trace m) (reverse new) (g ∷ gs)
frames_pushed job trace m old new f g gs e one h =
    subst (λ (fs : List Frame). AllZip (FrameStands job trace m) fs (g ∷ gs)) (sym (ap reverse e ∙ reverse_one old f)) (one, h)

init_pushed : (job : Job) (trace new : List Entry) (l : Bool) (u : core.Thread) (t t' : Thread) → Pushed Init t t' → ThreadStands job trace l t u → ThreadStands job (trace ++ new) true t' (record u { frames = core.Init job.main 0 ∷ u.frames })
init_pushed job trace new l u t t' c h = record {
  state = c.state ∙ h.state;
  frames = frames_pushed job (trace ++ new) true t.frames.items t'.frames.items Init (core.Init job.main 0) u.frames c.frames (refl, refl) (frames_kept job trace new l true (λ e. refl) (reverse t.frames.items) u.frames h.frames);
}

pub begin_init_stands : (job : Job) (p : Parts) (s : State) (n : ℕ) (ts : Vec Thread Global) → StandsFor job p s → ChangedAt n (Pushed Init) p.threads.items ts.items
    → Steps job s (record p { threads = ts; class = Some (states.InProgress (record { 0 = suc n })) }) rules.BeginInit (suc n)
begin_init_stands job p s n ts h c is =
    let r = ready_of job s n rules.BeginInit is in
    let u = r.0 in
    let now : InitState = states.InProgress (record { 0 = suc n }) in
    let told = entry_told u.state u.frames (class_state s.core job.main) rules.BeginInit r.1.rule_is (λ e. cc) (λ e. cc) (λ e. cc) (λ e. cc) in
    let some = some_told (class_state s.core job.main) rules.BeginInit told.1 (λ e. cc) in
    let held : is_some p.class ≡ true = ap (λ (x : Option InitState). is_some x) h.class ∙ some in
    let l = is_some p.class in
    subst (StandsFor job (record p { threads = ts; class = Some now })) (sym r.1.step_is) (record {
      known = h.known;
      phase = h.phase;
      died = h.died;
      threads = zip_changed (Pushed Init) (ThreadStands job s.trace l) (ThreadStands job _ true) p.threads.items ts.items s.core.threads n u _ c h.threads r.1.there (init_pushed job s.trace _ l u) (thread_kept job s.trace _ l true (λ e. refl));
      crowd = length_kept s.core.threads n _ 64 h.crowd;
      class = sym (state_changed s.core.classes job.main now some);
      loaded = loaded_kept job s.trace _ (Some now) tt (loaded_some job s.trace p.class now held h.loaded);
      statics = h.statics;
      objects = h.objects;
      few_objects = omega (arith, h.few_objects);
      output = h.output;
    })

-- the frames without the top one
pub frames_popped : (job : Job) (trace : List Entry) (m : Bool) (old new : List Frame) (top : Option Frame) (g : core.Frame) (gs : List core.Frame) → old ≡ new ++ option_to_list top → (top ≡ None → old ≡ []) → AllZip (FrameStands job trace m) (reverse old) (g ∷ gs)
    → (f : Frame) × (top ≡ Some f) × FrameStands job trace m f g × AllZip (FrameStands job trace m) (reverse new) gs
frames_popped job trace m old new (Some f) g gs e empty h =
    let k : AllZip (FrameStands job trace m) (f ∷ reverse new) (g ∷ gs) = subst (λ (fs : List Frame). AllZip (FrameStands job trace m) fs (g ∷ gs)) (ap reverse e ∙ reverse_one new f) h in (f, refl, k.0, k.1)
frames_popped job trace m old new None g gs e empty h =
    absurd (let never : AllZip (FrameStands job trace m) [] (g ∷ gs) = subst (λ (fs : List Frame). AllZip (FrameStands job trace m) (reverse fs) (g ∷ gs)) (empty refl) h in never)

-- on top is the initialization of the main class, which is loaded
init_on_top : (job : Job) (trace : List Entry) (m : Bool) (f : Frame) (name : List ℕ) (place : ℕ) → FrameStands job trace m f (core.Init name place) → (name ≡ job.main) × (m ≡ true)
init_on_top job trace m Init name place h = h
init_on_top job trace m (Java f) name place h = absurd h

popped_stands : (job : Job) (trace new : List Entry) (l m : Bool) → (l ≡ true → m ≡ true) → (u : core.Thread) (g : core.Frame) (below : List core.Frame) → u.frames ≡ g ∷ below → (t t' : Thread) → Popped t t' → ThreadStands job trace l t u
    → ThreadStands job (trace ++ new) m t' (record u { frames = below })
popped_stands job trace new l m more u g below is t t' c h =
    let on : AllZip (FrameStands job trace l) (reverse t.frames.items) (g ∷ below) = subst (λ (gs : List core.Frame). AllZip (FrameStands job trace l) (reverse t.frames.items) gs) is h.frames in
    let k = frames_popped job trace l t.frames.items t'.frames.items c.top g below c.frames c.empty on in
    record { state = c.state ∙ h.state; frames = frames_kept job trace new l m more (reverse t'.frames.items) below k.3 }

top_of : (job : Job) (p : Parts) (s : State) (n : ℕ) (u : core.Thread) (g : core.Frame) (below : List core.Frame) (ts : List Thread) → StandsFor job p s → ChangedAt n Popped p.threads.items ts → slice_get s.core.threads n ≡ Some u → u.frames ≡ g ∷ below
    → (f : Frame) × FrameStands job s.trace (is_some p.class) f g
top_of job p s n u g below ts h c there is =
    let R = ThreadStands job s.trace (is_some p.class) in
    let t = zip_at R p.threads.items s.core.threads n u h.threads there in
    let same : t.0 ≡ c.before = let k : Some t.0 ≡ Some c.before = sym t.1 ∙ c.there in cc in
    let stands : R c.before u = subst (λ (v : Thread). R v u) same t.2 in
    let on : AllZip (FrameStands job s.trace (is_some p.class)) (reverse c.before.frames.items) (g ∷ below) = subst (λ (gs : List core.Frame). AllZip (FrameStands job s.trace (is_some p.class)) (reverse c.before.frames.items) gs) is stands.frames in
    let k = frames_popped job s.trace (is_some p.class) c.before.frames.items c.now.frames.items c.changed.top g below c.changed.frames c.changed.empty on in (k.0, k.2)

ended : (job : Job) (s : State) (n : ℕ) (u : core.Thread) (name : List ℕ) (place : ℕ) (below : List core.Frame) → u.frames ≡ core.Init name place ∷ below → name ≡ job.main
    → thread_change job s (suc n) u rules.EndInit ≡ record { core = with_thread (with_state s.core job.main states.Initialized) (suc n) (record u { frames = below }); records = [] }
ended job s n u name place below is same =
    ap (end_init s.core (suc n) u) is
    ∙ ap (λ (k : List ℕ). let c : Change = record { core = with_thread (with_state s.core k states.Initialized) (suc n) (record u { frames = below }); records = [] } in c) same

pub end_init_stands : (job : Job) (p : Parts) (s : State) (n : ℕ) (ts : Vec Thread Global) → StandsFor job p s → ChangedAt n Popped p.threads.items ts.items → Steps job s (record p { threads = ts; class = Some states.Initialized }) rules.EndInit (suc n)
end_init_stands job p s n ts h c is =
    let r = ready_of job s n rules.EndInit is in
    let u = r.0 in
    let actor = actors.Thread (record { 0 = suc n }) in
    let told = init_told u.state u.frames (class_state s.core job.main) r.1.rule_is in
    let below = told.2 in
    let on = top_of job p s n u (core.Init told.0 told.1) below ts.items h c r.1.there told.3 in
    let top = init_on_top job s.trace (is_some p.class) on.0 told.0 told.1 on.1 in
    let some : is_some (class_state s.core job.main) ≡ true = ap (λ (x : Option InitState). is_some x) (sym h.class) ∙ top.1 in
    let l = is_some p.class in
    let change : Change = record { core = with_thread (with_state s.core job.main states.Initialized) (suc n) (record u { frames = below }); records = [] } in
    let is' : step job s actor ≡ stepped s actor change = r.1.step_is ∙ ap (stepped s actor) (ended job s n u told.0 told.1 below told.3 top.0) in
    subst (StandsFor job (record p { threads = ts; class = Some states.Initialized })) (sym is') (record {
      known = h.known;
      phase = h.phase;
      died = h.died;
      threads = zip_changed Popped (ThreadStands job s.trace l) (ThreadStands job _ true) p.threads.items ts.items s.core.threads n u _ c h.threads r.1.there (popped_stands job s.trace _ l true (λ e. refl) u (core.Init told.0 told.1) below told.3) (thread_kept job s.trace _ l true (λ e. refl));
      crowd = length_kept s.core.threads n _ 64 h.crowd;
      class = sym (state_changed s.core.classes job.main states.Initialized some);
      loaded = loaded_kept job s.trace _ (Some states.Initialized) tt (loaded_some job s.trace p.class states.Initialized top.1 h.loaded);
      statics = h.statics;
      objects = h.objects;
      few_objects = omega (arith, h.few_objects);
      output = h.output;
    })

-- ---- the steps of the machine itself

-- a step by this rule
abbrev pub Own : Job → State → Parts → MachineRule → Type 0
Own job s q rule = machine_rule s.core ≡ Some rule → StandsFor job q (step job s actors.Vm)

by_rule : (job : Job) (s : State) (rule : MachineRule) → machine_rule s.core ≡ Some rule → step job s actors.Vm ≡ stepped s actors.Vm (machine_change s.core rule)
by_rule job s rule h = ap (machine_step s) h

pub start_stands : (job : Job) (p : Parts) (s : State) → StandsFor job p s → Own job s (record p { phase = phases.Start; objects = 3 }) machines.Start
start_stands job p s h is =
    subst (StandsFor job (record p { phase = phases.Start; objects = 3 })) (sym (by_rule job s machines.Start is)) (record {
      known = h.known;
      phase = refl;
      died = h.died;
      threads = threads_kept job s.trace _ (is_some p.class) (is_some p.class) (same_loaded (is_some p.class)) p.threads.items s.core.threads h.threads;
      crowd = h.crowd;
      class = h.class;
      loaded = loaded_kept job s.trace _ p.class (refl, (refl, tt)) h.loaded;
      statics = refl;
      objects = refl;
      few_objects = omega arith;
      output = h.output;
    })

-- System.out is there in these phases
statics_of : (s : State) → s.core.statics ≡ statics_in s.core.phase → ((s.core.phase ≡ phases.Start) ⊎ (s.core.phase ≡ phases.Live)) → s.core.statics ≡ first_statics
statics_of s h (inl e) = h ∙ ap statics_in e
statics_of s h (inr e) = h ∙ ap statics_in e

no_rule : (died all : Bool) (r : MachineRule) → live_rule died all ≡ Some r → r ≡ machines.Init → ⊥
no_rule true all r e is = let k : machines.Die ≡ r = cc in absurd cc
no_rule false true r e is = let k : machines.RaiseDeath ≡ r = cc in absurd cc
no_rule false false r e is = absurd cc

rule_phase : (phase : Phase) (died all : Bool) → rule_in phase (live_rule died all) ≡ Some machines.Init → phase ≡ phases.Start
rule_phase phases.OnLoad died all e = absurd cc
rule_phase phases.Primordial died all e = absurd cc
rule_phase phases.Start died all e = refl
rule_phase phases.Live died all e = absurd (no_rule died all machines.Init e refl)
rule_phase phases.Dead died all e = absurd cc

init_phase : (c : core.Core) → machine_rule c ≡ Some machines.Init → (c.phase ≡ phases.Start) ⊎ (c.phase ≡ phases.Live)
init_phase c e = inl (rule_phase c.phase c.died (list_all has_ended c.threads) e)

live_phase : (phase : Phase) (died all : Bool) → rule_in phase (live_rule died all) ≡ Some machines.Die → phase ≡ phases.Live
live_phase phases.OnLoad died all e = absurd cc
live_phase phases.Primordial died all e = absurd cc
live_phase phases.Start died all e = absurd cc
live_phase phases.Live died all e = refl
live_phase phases.Dead died all e = absurd cc

die_phase : (c : core.Core) → machine_rule c ≡ Some machines.Die → (c.phase ≡ phases.Start) ⊎ (c.phase ≡ phases.Live)
die_phase c e = inr (live_phase c.phase c.died (list_all has_ended c.threads) e)

first_thread : (job : Job) (trace : List Entry) (l : Bool) (ts : List Thread) (t : Thread) (u : core.Thread) → ts ≡ t ∷ [] → ThreadStands job trace l t u → AllZip (ThreadStands job trace l) ts (u ∷ [])
first_thread job trace l ts t u e h = subst (λ (xs : List Thread). AllZip (ThreadStands job trace l) xs (u ∷ [])) (sym e) (h, tt)

pub init_stands : (job : Job) (p : Parts) (s : State) (ts : Vec Thread Global) → StandsFor job p s → IsFirst ts → Own job s (record p { phase = phases.Live; threads = ts }) machines.Init
init_stands job p s ts h f is =
    let ready : s.core.statics ≡ first_statics = statics_of s h.statics (init_phase s.core is) in
    subst (StandsFor job (record p { phase = phases.Live; threads = ts })) (sym (by_rule job s machines.Init is)) (record {
      known = h.known;
      phase = refl;
      died = h.died;
      threads = first_thread job _ (is_some p.class) ts.items f.thread _ f.alone (record { state = f.state; frames = subst (λ (fs : List Frame). AllZip (FrameStands job _ (is_some p.class)) (reverse fs) []) (sym f.frames) tt });
      crowd = omega arith;
      class = h.class;
      loaded = loaded_kept job s.trace _ p.class (refl, (refl, tt)) h.loaded;
      statics = ready;
      objects = h.objects;
      few_objects = omega (arith, h.few_objects);
      output = h.output;
    })

pub raise_death_stands : (job : Job) (p : Parts) (s : State) → StandsFor job p s → Own job s (record p { died = true }) machines.RaiseDeath
raise_death_stands job p s h is =
    subst (StandsFor job (record p { died = true })) (sym (by_rule job s machines.RaiseDeath is)) (record {
      known = h.known;
      phase = h.phase;
      died = refl;
      threads = threads_kept job s.trace _ (is_some p.class) (is_some p.class) (same_loaded (is_some p.class)) p.threads.items s.core.threads h.threads;
      crowd = h.crowd;
      class = h.class;
      loaded = loaded_kept job s.trace _ p.class (refl, (refl, tt)) h.loaded;
      statics = h.statics;
      objects = h.objects;
      few_objects = omega (arith, h.few_objects);
      output = h.output;
    })

pub die_stands : (job : Job) (p : Parts) (s : State) → StandsFor job p s → Own job s (record p { phase = phases.Dead }) machines.Die
die_stands job p s h is =
    let ready : s.core.statics ≡ first_statics = statics_of s h.statics (die_phase s.core is) in
    subst (StandsFor job (record p { phase = phases.Dead })) (sym (by_rule job s machines.Die is)) (record {
      known = h.known;
      phase = refl;
      died = h.died;
      threads = threads_kept job s.trace _ (is_some p.class) (is_some p.class) (same_loaded (is_some p.class)) p.threads.items s.core.threads h.threads;
      crowd = h.crowd;
      class = h.class;
      loaded = loaded_kept job s.trace _ p.class tt h.loaded;
      statics = ready;
      objects = h.objects;
      few_objects = omega (arith, h.few_objects);
      output = h.output;
    })
