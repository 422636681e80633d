-- What the parts stand for after the entry of main, and after an instruction.
use Rattle.std.proofs.Common.{◌≡◌, ◌∙◌, ◌≤◌, ◌+◌, ℕ, suc, List, [], ◌∷◌, ◌++◌, length, reverse, Option, Some, None, Bool, true, refl, sym, ap, subst, arith, length-append}
use Rattle.std.specs.Prelude.{option_map, is_some, slice_get, slice_set, Vec, MatchOption, find}
use Rattle.std.specs.declared.alloc.Global.{Global}
use Rattle.std.specs.List.{AllZip}
use Rattle.std.proofs.lemmas.List.{take_all}
use Rattle.ti_ids.specs.declared.actor.Actor.TheVariants as actors
use Rattle.ti_ids.specs.declared.number.ObjNo.{ObjNo}
use Rattle.ti_ids.specs.declared.value.Value.{Value}
use Rattle.ti_ids.specs.declared.value.Value.TheVariants.{Ref}
use Rattle.ti_ids.specs.declared.state.Announced.{Announced}
use Rattle.ti_ids.specs.declared.state.Announced.TheVariants.{New, Caught, No, Yes}
use Rattle.ti_ids.specs.declared.state.ThreadState.TheVariants.{Running}
use Rattle.ti_ids.specs.declared.state.InitState.{InitState}
use Rattle.ti_codes.specs.declared.phase.Phase.{Phase}
use Rattle.ti_codes.specs.declared.phase.Phase.TheVariants as phases
use Rattle.ti_ids.specs.Maybe.{◌>>=◌}
use Rattle.first_form.specs.declared.Instr.{Instr}
use Rattle.first_form.specs.declared.Instr.TheVariants.{IntConst, IntArith, GetStatic, InvokeVirtual, Return}
use Rattle.first_form.specs.ClassFiles.{ClassFile, MainClass, tree_of, field_at, method_at}
use Rattle.first_form.specs.Instructions.{listing, size, at_pc, instr_at, NamesKnown}
use Rattle.first_form.specs.Methods.{code_named}
use Rattle.first_form.specs.Reading.{class_of}
use Rattle.machine_model.specs.declared.ThreadRule.TheVariants as rules
use Rattle.machine_model.specs.Jobs.{Job, file_of, main_tree}
use Rattle.machine_model.specs.Core as core
use Rattle.machine_model.specs.Core.{Core, class_state, static_at, same_reference, Elements}
use Rattle.machine_model.specs.Trace.{Entry, Record, Raised, MethodExit, FramePop, Returned, VMObjectAlloc, versions, last_of, tree_at, code_in}
use Rattle.machine_model.specs.Effects as effects
use Rattle.machine_model.specs.Effects.{Effect, effect, get_static, invoke_virtual, print_int, printed_int, println_int}
use Rattle.machine_model.specs.Rules.{State, is_live}
use Rattle.machine_model.specs.Changes.{Change, pre_events, pre_events_by, method_of, gone_on, performed, performed_at, execute, instruction_of, thread_change, first_statics, string_array, main_name, main_descriptor, main_frame}
use Rattle.machine_model.specs.Replay.{stepped}
use Rattle.machine_model.proofs.Growth.{IsSilent, versions_grown, tree_grown}
use Rattle.machine_core.specs.declared.frame.JavaFrame.{JavaFrame}
use Rattle.machine_core.specs.declared.frame.Frame.{Frame}
use Rattle.machine_core.specs.declared.frame.Frame.TheVariants.{Init, Java}
use Rattle.machine_core.specs.declared.thread.Thread.{Thread}
use Rattle.machine_core.specs.declared.parts.Parts.{Parts}
use Rattle.machine_core.specs.declared.operands.Done.{Done}
use Rattle.machine_core.specs.declared.operands.Done.TheVariants.{Goes, Prints, Leaves, Misfit}
use Rattle.machine_core.specs.Performs.{known_effect}
use Rattle.machine_core.specs.Frames.{IsMainFrame, GoesOn, Stays, FrameDone, left_by, TopDone}
use Rattle.machine_core.specs.Lists.{ChangedAt}
use Rattle.machine_core.specs.ThreadChanges.{Entered, Ran, OutputAfter}
use Rattle.machine_core.specs.Stands.{JavaStands, FrameStands, ThreadStands, IsLoaded, statics_in, StandsFor}
use Rattle.machine_core.proofs.Zips.{zip_at, zip_changed, zip_put, set_same}
use Rattle.machine_core.proofs.Kept.{entries, java_kept, frames_kept, thread_kept, loaded_kept}
use Rattle.machine_core.proofs.Ready.{ready_of, entry_told, some_told, execute_told}
use Rattle.machine_core.proofs.Stepped.{Steps, length_kept, same_loaded, frames_pushed, frames_popped}

-- ---- the entry of main

-- the tree of a frame that is born now
tree_now : (job : Job) (trace : List Entry) (g : core.JavaFrame) → g.class ≡ job.main → length trace ≤ g.birth → last_of (versions trace job.main) ≡ file_of job job.main → tree_at trace g ≡ main_tree job
tree_now job trace g class born last =
    ap (λ (t : List Entry). last_of (versions t g.class) >>= (λ bytes. class_of bytes >>= (λ c. Some (tree_of c)))) (take_all g.birth trace born)
    ∙ ap (λ (n : List ℕ). last_of (versions trace n) >>= (λ bytes. class_of bytes >>= (λ c. Some (tree_of c)))) class
    ∙ ap (λ (q : Option (List ℕ)). q >>= (λ bytes. class_of bytes >>= (λ c. Some (tree_of c)))) last

loaded_is : (job : Job) (trace : List Entry) (class : Option InitState) → is_some class ≡ true → IsLoaded job trace class → last_of (versions trace job.main) ≡ file_of job job.main
loaded_is job trace None some h = absurd cc
loaded_is job trace (Some state) some h = h

entered : (job : Job) (trace new : List Entry) (l : Bool) (u : core.Thread) (f : JavaFrame) (g : core.JavaFrame) → JavaStands job (trace ++ new) f g → (t t' : Thread) → Entered (Java f) t t' → ThreadStands job trace l t u
    → ThreadStands job (trace ++ new) l t' (record u { state = Running; frames = core.Java g ∷ u.frames })
entered job trace new l u f g stands t t' c h = record {
  state = c.state;
  frames = frames_pushed job (trace ++ new) l t.frames.items t'.frames.items (Java f) (core.Java g) u.frames c.frames stands (frames_kept job trace new l l (same_loaded l) (reverse t.frames.items) u.frames h.frames);
}

pub enter_stands : (job : Job) (p : Parts) (s : State) (n : ℕ) (f : JavaFrame) (object : ℕ) (ts : Vec Thread Global) → StandsFor job p s → object ≡ p.objects + 1 → IsMainFrame f (record { 0 = object }) → ChangedAt n (Entered (Java f)) p.threads.items ts.items
    → Steps job s (record p { threads = ts; objects = object }) rules.Enter (suc n)
enter_stands job p s n f object ts h next frame c is =
    let r = ready_of job s n rules.Enter is in
    let u = r.0 in
    let l = is_some p.class in
    let told = entry_told u.state u.frames (class_state s.core job.main) rules.Enter r.1.rule_is (λ e. cc) (λ e. cc) (λ e. cc) (λ e. cc) in
    let some = some_told (class_state s.core job.main) rules.Enter told.1 (λ e. cc) in
    let held : is_some p.class ≡ true = ap (λ (x : Option InitState). is_some x) h.class ∙ some in
    let count : object ≡ length s.core.heap + 1 = next ∙ ap (λ (k : ℕ). k + 1) h.objects in
    let new = entries s (actors.Thread (record { 0 = suc n })) (Raised (VMObjectAlloc (suc n) (length s.core.heap + 1) string_array) ∷ []) in
    let g : core.JavaFrame = main_frame job.main (length s.core.heap + 1) (length s.trace + 1) in
    let last : last_of (versions (s.trace ++ new) job.main) ≡ file_of job job.main = ap last_of (versions_grown job.main s.trace new (refl, tt)) ∙ loaded_is job s.trace p.class held h.loaded in
    let stands : JavaStands job (s.trace ++ new) f g = record {
      pc = frame.pc;
      locals = frame.locals ∙ ap (λ (k : ℕ). let o : ObjNo = record { 0 = k } in Ref (Some o) ∷ []) count;
      stack = ap reverse frame.stack;
      announced = frame.announced;
      born = omega (arith, length-append s.trace new);
      method = refl;
      descriptor = refl;
      tree = tree_now job (s.trace ++ new) g refl (omega (arith, length-append s.trace new)) last;
    } in
    subst (StandsFor job (record p { threads = ts; objects = object })) (sym r.1.step_is) (record {
      known = h.known;
      phase = h.phase;
      died = h.died;
      threads = zip_changed (Entered (Java f)) (ThreadStands job s.trace l) (ThreadStands job (s.trace ++ new) l) p.threads.items ts.items s.core.threads n u _ c h.threads r.1.there (entered job s.trace new l u f g stands) (thread_kept job s.trace new l l (same_loaded l));
      crowd = length_kept s.core.threads n _ 64 h.crowd;
      class = h.class;
      loaded = loaded_kept job s.trace new p.class (refl, tt) h.loaded;
      statics = h.statics;
      objects = count ∙ sym (length-append s.core.heap (record { class = string_array; content = Elements []; side = None } ∷ []));
      few_objects = omega (arith, h.few_objects, length-append s.core.heap (record { class = string_array; content = Elements []; side = None } ∷ []));
      output = h.output;
    })

-- ---- an instruction

-- the code knows what the entries of an accepted class name
pub effect_known : (k : Core) (c : MainClass) (i : Instr) (stack : List Value) → k.statics ≡ first_statics → NamesKnown i → effect k (tree_of c) i stack ≡ known_effect i stack
effect_known k c (IntConst n) stack ready known = refl
effect_known k c (IntArith op) stack ready known = refl
effect_known k c (GetStatic n) stack ready known =
    ap (λ (m : ℕ). get_static (field_at (tree_of c) m >>= static_at k) stack) known
    ∙ ap (λ st. get_static (option_map (λ s. s.value) (find (λ s. same_reference s.field effects.system_out) st)) stack) ready
effect_known k c (InvokeVirtual n) stack ready known = ap (λ (m : ℕ). invoke_virtual (method_at (tree_of c) m) stack) known
effect_known k c Return stack ready known = refl

-- the code of main in the tree
code_of_main : (c : MainClass) (g : core.JavaFrame) → g.method ≡ main_name → g.descriptor ≡ main_descriptor → code_in g (tree_of c) ≡ listing c.code
code_of_main c g m d =
    ap (λ (x : List ℕ). code_named (tree_of c) x g.descriptor >>= listing) m ∙ ap (λ (x : List ℕ). code_named (tree_of c) main_name x >>= listing) d

abbrev Pair : Type 0
Pair = Instr × ClassFile

abbrev paired : MainClass → Option Instr → Option Pair
paired c r = r >>= (λ i. Some (let p : Pair = (i, tree_of c) in p))

-- the instruction that the frame is at
found : (job : Job) (trace : List Entry) (c : MainClass) (f : JavaFrame) (g : core.JavaFrame) → main_tree job ≡ Some (tree_of c) → JavaStands job trace f g → instruction_of trace g ≡ paired c (instr_at c.code f.pc)
found job trace c f g tree h =
    let at : tree_at trace g ≡ Some (tree_of c) = h.tree ∙ tree in
    ap (λ (x : Option ClassFile). x >>= (λ t. (x >>= code_in g >>= at_pc g.pc) >>= (λ i. Some (let p : Pair = (i, t) in p)))) at
    ∙ ap (λ (x : Option (List (ℕ × Instr))). paired c (x >>= at_pc g.pc)) (code_of_main c g h.method h.descriptor)
    ∙ ap (λ (k : ℕ). paired c (instr_at c.code k)) (sym h.pc)

silent_pre : (job : Job) (s : State) (t number : ℕ) (a : Announced) (g : core.JavaFrame) → IsSilent job.main (entries s (actors.Thread (record { 0 = t })) (pre_events_by a number g))
silent_pre job s t number New g = (refl, (refl, tt))
silent_pre job s t number Caught g = (refl, tt)
silent_pre job s t number No g = (refl, tt)
silent_pre job s t number Yes g = tt

silent_left : (job : Job) (s : State) (t number : ℕ) (a : Announced) (g : core.JavaFrame)
    → IsSilent job.main (entries s (actors.Thread (record { 0 = t })) (pre_events_by a number g ++ Raised (MethodExit number (method_of g) Returned) ∷ Raised (FramePop number (method_of g) Returned g.birth) ∷ []))
silent_left job s t number New g = (refl, (refl, (refl, (refl, tt))))
silent_left job s t number Caught g = (refl, (refl, (refl, tt)))
silent_left job s t number No g = (refl, (refl, (refl, tt)))
silent_left job s t number Yes g = (refl, (refl, tt))

-- a step that changes threads and output alone
ran : (job : Job) (p : Parts) (s : State) (t : ℕ) (records : List Record) (us : List core.Thread) (output : List ℕ) (ts : Vec Thread Global) (out : Vec ℕ Global) → StandsFor job p s
    → IsSilent job.main (entries s (actors.Thread (record { 0 = t })) records)
    → AllZip (ThreadStands job (s.trace ++ entries s (actors.Thread (record { 0 = t })) records) (is_some p.class)) ts.items us → length us ≤ 64 → out.items ≡ output
    → StandsFor job (record p { threads = ts; output = out }) (stepped s (actors.Thread (record { 0 = t })) (record { core = record s.core { threads = us; output = output }; records = records }))
ran job p s t records us output ts out h silent threads crowd same = record {
  known = h.known;
  phase = h.phase;
  died = h.died;
  threads = threads;
  crowd = crowd;
  class = h.class;
  loaded = loaded_kept job s.trace (entries s (actors.Thread (record { 0 = t })) records) p.class silent h.loaded;
  statics = h.statics;
  objects = h.objects;
  few_objects = omega (arith, h.few_objects);
  output = same;
}

-- the thread and its top frame, before and after
record At (job : Job) (p : Parts) (s : State) (n : ℕ) (c : MainClass) (done : Done) (ts : Vec Thread Global) (u : core.Thread) (g : core.JavaFrame) (below : List core.Frame) (f e : JavaFrame) : Type 0 where
  stands : StandsFor job p s
  there : slice_get s.core.threads n ≡ Some u
  frames : u.frames ≡ core.Java g ∷ below
  changed : ChangedAt n (Ran c done) p.threads.items ts.items
  java : JavaStands job s.trace f g
  rest : List Frame
  below_stand : AllZip (FrameStands job s.trace (is_some p.class)) (reverse rest) below
  state : changed.now.state ≡ u.state
  now : changed.now.frames.items ≡ left_by done rest e

-- the frame on top of the others
topped : (job : Job) (p : Parts) (s : State) (new : List Entry) (rest now : List Frame) (e : JavaFrame) (g : core.JavaFrame) (below : List core.Frame) → now ≡ rest ++ Java e ∷ [] → JavaStands job (s.trace ++ new) e g
    → AllZip (FrameStands job s.trace (is_some p.class)) (reverse rest) below → AllZip (FrameStands job (s.trace ++ new) (is_some p.class)) (reverse now) (core.Java g ∷ below)
topped job p s new rest now e g below is one h =
    frames_pushed job (s.trace ++ new) (is_some p.class) rest now (Java e) (core.Java g) below is one (frames_kept job s.trace new (is_some p.class) (is_some p.class) (same_loaded (is_some p.class)) (reverse rest) below h)

put_thread : (job : Job) (p : Parts) (s : State) (n : ℕ) (c : MainClass) (done : Done) (ts : Vec Thread Global) (new : List Entry) (v : core.Thread) → StandsFor job p s → (k : ChangedAt n (Ran c done) p.threads.items ts.items)
    → ThreadStands job (s.trace ++ new) (is_some p.class) k.now v → AllZip (ThreadStands job (s.trace ++ new) (is_some p.class)) ts.items (slice_set s.core.threads n v)
put_thread job p s n c done ts new v h k now =
    zip_put (Ran c done) (ThreadStands job s.trace (is_some p.class)) (ThreadStands job (s.trace ++ new) (is_some p.class)) p.threads.items ts.items s.core.threads n v k h.threads now (thread_kept job s.trace new (is_some p.class) (is_some p.class) (same_loaded (is_some p.class)))

moved : (job : Job) (trace new : List Entry) (f e : JavaFrame) (g : core.JavaFrame) (i : Instr) → JavaStands job trace f g → GoesOn i f e → JavaStands job (trace ++ new) e (gone_on g i (reverse e.stack.items))
moved job trace new f e g i h go = record {
  pc = go.pc ∙ ap (λ (k : ℕ). k + size i) h.pc;
  locals = go.locals ∙ h.locals;
  stack = refl;
  announced = go.announced;
  born = omega (arith, length-append trace new, h.born);
  method = h.method;
  descriptor = h.descriptor;
  tree = tree_grown trace new g h.born ∙ h.tree;
}

stayed : (job : Job) (trace new : List Entry) (f e : JavaFrame) (g : core.JavaFrame) → JavaStands job trace f g → Stays f e → JavaStands job (trace ++ new) e g
stayed job trace new f e g h stays =
    let k = java_kept job trace new f g h in record {
      pc = stays.pc ∙ k.pc;
      locals = stays.locals ∙ k.locals;
      stack = stays.stack ∙ k.stack;
      announced = stays.announced ∙ k.announced;
      born = k.born;
      method = k.method;
      descriptor = k.descriptor;
      tree = k.tree;
    }

-- the core stays as it is
abbrev idle : ℕ → State → core.JavaFrame → Change
idle t s g = record { core = s.core; records = pre_events t g }

stays_ran : (job : Job) (p : Parts) (s : State) (n : ℕ) (c : MainClass) (ts : Vec Thread Global) (out : Vec ℕ Global) (u : core.Thread) (g : core.JavaFrame) (below : List core.Frame) (f e : JavaFrame) → At job p s n c Misfit ts u g below f e → Stays f e → out.items ≡ p.output.items
    → StandsFor job (record p { threads = ts; output = out }) (stepped s (actors.Thread (record { 0 = suc n })) (idle (suc n) s g))
stays_ran job p s n c ts out u g below f e w stays same =
    let new = entries s (actors.Thread (record { 0 = suc n })) (pre_events (suc n) g) in
    let tops : AllZip (FrameStands job (s.trace ++ new) (is_some p.class)) (reverse w.changed.now.frames.items) u.frames =
    subst (λ (gs : List core.Frame). AllZip (FrameStands job (s.trace ++ new) (is_some p.class)) (reverse w.changed.now.frames.items) gs) (sym w.frames) (topped job p s new w.rest w.changed.now.frames.items e g below w.now (stayed job s.trace new f e g w.java stays) w.below_stand) in
    let threads = subst (λ (us : List core.Thread). AllZip (ThreadStands job (s.trace ++ new) (is_some p.class)) ts.items us) (set_same s.core.threads n u w.there) (put_thread job p s n c Misfit ts new u w.stands w.changed (record { state = w.state; frames = tops })) in
    ran job p s (suc n) (pre_events (suc n) g) s.core.threads s.core.output ts out w.stands (silent_pre job s (suc n) (suc n) g.announced g) threads w.stands.crowd (same ∙ w.stands.output)

-- the frame is at the next instruction
abbrev onward : core.Thread → core.JavaFrame → List core.Frame → Instr → JavaFrame → core.Thread
onward u g below i e = record u { frames = core.Java (gone_on g i (reverse e.stack.items)) ∷ below }

goes_ran : (job : Job) (p : Parts) (s : State) (n : ℕ) (c : MainClass) (done : Done) (ts : Vec Thread Global) (out : Vec ℕ Global) (u : core.Thread) (g : core.JavaFrame) (below : List core.Frame) (f e : JavaFrame) (i : Instr) (output : List ℕ)
    → (w : At job p s n c done ts u g below f e) → left_by done w.rest e ≡ w.rest ++ Java e ∷ [] → GoesOn i f e → out.items ≡ output
    → StandsFor job (record p { threads = ts; output = out }) (stepped s (actors.Thread (record { 0 = suc n })) (record { core = record s.core { threads = slice_set s.core.threads n (onward u g below i e); output = output }; records = pre_events (suc n) g }))
goes_ran job p s n c done ts out u g below f e i output w on go same =
    let new = entries s (actors.Thread (record { 0 = suc n })) (pre_events (suc n) g) in
    let tops = topped job p s new w.rest w.changed.now.frames.items e (gone_on g i (reverse e.stack.items)) below (w.now ∙ on) (moved job s.trace new f e g i w.java go) w.below_stand in
    let threads = put_thread job p s n c done ts new (onward u g below i e) w.stands w.changed (record { state = w.state; frames = tops }) in
    ran job p s (suc n) (pre_events (suc n) g) (slice_set s.core.threads n (onward u g below i e)) output ts out w.stands (silent_pre job s (suc n) (suc n) g.announced g) threads (length_kept s.core.threads n _ 64 w.stands.crowd) same

abbrev exit_events : ℕ → core.JavaFrame → List Record
exit_events t g = pre_events t g ++ Raised (MethodExit t (method_of g) Returned) ∷ Raised (FramePop t (method_of g) Returned g.birth) ∷ []

leaves_ran : (job : Job) (p : Parts) (s : State) (n : ℕ) (c : MainClass) (ts : Vec Thread Global) (out : Vec ℕ Global) (u : core.Thread) (g : core.JavaFrame) (below : List core.Frame) (f e : JavaFrame) → At job p s n c Leaves ts u g below f e → out.items ≡ p.output.items
    → StandsFor job (record p { threads = ts; output = out }) (stepped s (actors.Thread (record { 0 = suc n })) (record { core = record s.core { threads = slice_set s.core.threads n (record u { frames = below }) }; records = exit_events (suc n) g }))
leaves_ran job p s n c ts out u g below f e w same =
    let new = entries s (actors.Thread (record { 0 = suc n })) (exit_events (suc n) g) in
    let l = is_some p.class in
    let kept = frames_kept job s.trace new l l (same_loaded l) (reverse w.rest) below w.below_stand in
    let tops : AllZip (FrameStands job (s.trace ++ new) l) (reverse w.changed.now.frames.items) below = subst (λ (fs : List Frame). AllZip (FrameStands job (s.trace ++ new) l) (reverse fs) below) (sym w.now) kept in
    let threads = put_thread job p s n c Leaves ts new (record u { frames = below }) w.stands w.changed (record { state = w.state; frames = tops }) in
    ran job p s (suc n) (exit_events (suc n) g) (slice_set s.core.threads n (record u { frames = below })) s.core.output ts out w.stands (silent_left job s (suc n) (suc n) g.announced g) threads (length_kept s.core.threads n _ 64 w.stands.crowd) (same ∙ w.stands.output)

-- the effect, as it was found
by_effect : (job : Job) (p : Parts) (s : State) (n : ℕ) (c : MainClass) (done : Done) (ts : Vec Thread Global) (out : Vec ℕ Global) (u : core.Thread) (g : core.JavaFrame) (below : List core.Frame) (f e : JavaFrame) (i : Instr)
    → At job p s n c done ts u g below f e → FrameDone done i f e → OutputAfter done p.output.items out.items
    → StandsFor job (record p { threads = ts; output = out }) (stepped s (actors.Thread (record { 0 = suc n })) (performed s.core (suc n) u g below i (known_effect i (reverse f.stack.items))))
by_effect job p s n c Goes ts out u g below f e i w did text =
    subst (λ (x : Effect). StandsFor job (record p { threads = ts; output = out }) (stepped s (actors.Thread (record { 0 = suc n })) (performed s.core (suc n) u g below i x))) (sym did.1)
    (goes_ran job p s n c Goes ts out u g below f e i s.core.output w refl did.0 (text ∙ w.stands.output))
by_effect job p s n c (Prints v) ts out u g below f e i w did text =
    subst (λ (x : Effect). StandsFor job (record p { threads = ts; output = out }) (stepped s (actors.Thread (record { 0 = suc n })) (performed s.core (suc n) u g below i x))) (sym did.1)
    (goes_ran job p s n c (Prints v) ts out u g below f e i (s.core.output ++ printed_int v) w refl did.0 (text ∙ ap (λ (o : List ℕ). o ++ printed_int v) w.stands.output))
by_effect job p s n c Leaves ts out u g below f e i w did text =
    subst (λ (x : Effect). StandsFor job (record p { threads = ts; output = out }) (stepped s (actors.Thread (record { 0 = suc n })) (performed s.core (suc n) u g below i x))) (sym did)
    (leaves_ran job p s n c ts out u g below f e w text)
by_effect job p s n c Misfit ts out u g below f e i w did text =
    subst (λ (x : Effect). StandsFor job (record p { threads = ts; output = out }) (stepped s (actors.Thread (record { 0 = suc n })) (performed s.core (suc n) u g below i x))) (sym did.1)
    (stays_ran job p s n c ts out u g below f e w did.0 text)

-- an instruction, or none
by_instr : (job : Job) (p : Parts) (s : State) (n : ℕ) (c : MainClass) (done : Done) (ts : Vec Thread Global) (out : Vec ℕ Global) (u : core.Thread) (g : core.JavaFrame) (below : List core.Frame) (f e : JavaFrame) (r : Option Instr)
    → At job p s n c done ts u g below f e → s.core.statics ≡ first_statics → MatchOption r ((done ≡ Misfit) × Stays f e) (λ i. NamesKnown i × FrameDone done i f e) → OutputAfter done p.output.items out.items
    → StandsFor job (record p { threads = ts; output = out }) (stepped s (actors.Thread (record { 0 = suc n })) (performed_at s.core (suc n) u g below (paired c r)))
by_instr job p s n c done ts out u g below f e None w ready did text =
    let w' : At job p s n c Misfit ts u g below f e = subst (λ (d : Done). At job p s n c d ts u g below f e) did.0 w in
    stays_ran job p s n c ts out u g below f e w' did.1 (subst (λ (d : Done). OutputAfter d p.output.items out.items) did.0 text)
by_instr job p s n c done ts out u g below f e (Some i) w ready did text =
    let same : effect s.core (tree_of c) i g.stack ≡ known_effect i (reverse f.stack.items) = effect_known s.core c i g.stack ready did.0 ∙ ap (known_effect i) (sym w.java.stack) in
    subst (λ (x : Effect). StandsFor job (record p { threads = ts; output = out }) (stepped s (actors.Thread (record { 0 = suc n })) (performed s.core (suc n) u g below i x))) (sym same) (by_effect job p s n c done ts out u g below f e i w did.1 text)

java_on_top : (job : Job) (trace : List Entry) (m : Bool) (x : Frame) (g : core.JavaFrame) → FrameStands job trace m x (core.Java g) → (f : JavaFrame) × (x ≡ Java f) × JavaStands job trace f g
java_on_top job trace m (Java f) g h = (f, refl, h)
java_on_top job trace m Init g h = absurd h

live_statics : (phase : Phase) → is_live phase ≡ true → statics_in phase ≡ first_statics
live_statics phases.OnLoad e = absurd cc
live_statics phases.Primordial e = absurd cc
live_statics phases.Start e = refl
live_statics phases.Live e = refl
live_statics phases.Dead e = refl

pub execute_stands : (job : Job) (p : Parts) (s : State) (n : ℕ) (c : MainClass) (done : Done) (ts : Vec Thread Global) (out : Vec ℕ Global) → StandsFor job p s → main_tree job ≡ Some (tree_of c) → ChangedAt n (Ran c done) p.threads.items ts.items
    → OutputAfter done p.output.items out.items → Steps job s (record p { threads = ts; output = out }) rules.Execute (suc n)
execute_stands job p s n c done ts out h tree k text is =
    let r = ready_of job s n rules.Execute is in
    let u = r.0 in
    let l = is_some p.class in
    let actor = actors.Thread (record { 0 = suc n }) in
    let told = execute_told u.state u.frames (class_state s.core job.main) r.1.rule_is in
    let g = told.0 in
    let below = told.1 in
    let t = zip_at (ThreadStands job s.trace l) p.threads.items s.core.threads n u h.threads r.1.there in
    let same : t.0 ≡ k.before = let q : Some t.0 ≡ Some k.before = sym t.1 ∙ k.there in cc in
    let stands : ThreadStands job s.trace l k.before u = subst (λ (v : Thread). ThreadStands job s.trace l v u) same t.2 in
    let x = k.changed.frames in
    let on : AllZip (FrameStands job s.trace l) (reverse k.before.frames.items) (core.Java g ∷ below) = subst (λ (gs : List core.Frame). AllZip (FrameStands job s.trace l) (reverse k.before.frames.items) gs) told.2 stands.frames in
    let popped = frames_popped job s.trace l k.before.frames.items x.rest x.top (core.Java g) below x.parts x.empty on in
    let j = java_on_top job s.trace l popped.0 g popped.2 in
    let top : x.top ≡ Some (Java j.0) = popped.1 ∙ ap (λ (z : Frame). Some z) j.1 in
    let does : TopDone c done (Some (Java j.0)) x.rest k.now.frames.items = subst (λ (z : Option Frame). TopDone c done z x.rest k.now.frames.items) top x.does in
    let w : At job p s n c done ts u g below j.0 does.0 = record {
      stands = h;
      there = r.1.there;
      frames = told.2;
      changed = k;
      java = j.2;
      rest = x.rest;
      below_stand = popped.3;
      state = k.changed.state ∙ stands.state;
      now = does.2;
    } in
    let ready : s.core.statics ≡ first_statics = h.statics ∙ live_statics s.core.phase r.1.live in
    let change : performed_at s.core (suc n) u g below (paired c (instr_at c.code j.0.pc)) ≡ thread_change job s (suc n) u rules.Execute =
    ap (performed_at s.core (suc n) u g below) (sym (found job s.trace c j.0 g tree j.2)) ∙ ap (execute s.core s.trace (suc n) u) (sym told.2) in
    subst (StandsFor job (record p { threads = ts; output = out })) (sym (r.1.step_is ∙ ap (stepped s actor) (sym change)))
    (by_instr job p s n c done ts out u g below j.0 does.0 (instr_at c.code j.0.pc) w ready does.1 text)
