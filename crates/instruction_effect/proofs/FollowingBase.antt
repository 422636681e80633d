-- The acts of base methods follow one another as the rules say.
use Rattle.base_set.specs.BaseSet.{errors}
use Rattle.instruction_effect.proofs.ActRules.{CoreHolds, GoesOnAs, HoldAll, behind}
use Rattle.instruction_effect.proofs.FollowingCores.{Done, Follows, Leaves, Still, Walk, after, done_more, first_there, follow_both, frames_changed, frames_made, made_follows}
use Rattle.instruction_effect.proofs.FollowingForms.{OutcomeFollows, Stood, all_after, all_both, all_drop, goes_follows, if_by, if_follows, misfit_by, misfit_follows}
use Rattle.instruction_effect.proofs.FollowingPushes.{Takes, calls_follow, unselected_follows, words_dropped}
use Rattle.instruction_effect.proofs.FollowingReads.{all_find, side_holds}
use Rattle.instruction_effect.specs.Arguments.{is_deep, name_of_method, takes_arguments, without_operands}
use Rattle.instruction_effect.specs.BaseForms.{BaseCall, arguments_taken, done_by, gives_by, gives_made, makes, when_owner}
use Rattle.instruction_effect.specs.BaseMethods.{BaseRow, accepts_all, base_outcome, base_row, base_rows, builder_rows, constructor_rows, is_row_of, object_rows, printing_rows, row, stream_rows, string_rows, thread_rows, throwable_rows}
use Rattle.instruction_effect.specs.BaseObjects.{bit, class_of_receiver, constructs, constructs_with, equal_objects, gives_message, hash_code, notifies, notifies_all, same_reference, waits}
use Rattle.instruction_effect.specs.BaseTexts.{Writing, appends, boolean_text, char_at, char_text, equal_strings, gives_unit, grows_by, int_text, long_text, makes_string, printed_bytes, prints, prints_line, string_at, string_length, string_text, unit_at}
use Rattle.instruction_effect.specs.BaseThreads.{LacksRun, NoRun, RunMethod, RunOf, gives_current, is_base_method, joins, joins_thread, run_at, run_of, runs, runs_by, selected_run, starts, target_of}
use Rattle.instruction_effect.specs.Objects.{owns}
use Rattle.instruction_effect.specs.Outcomes.{Outcome, Site, heap_has_room, makes_announced}
use Rattle.java_heap.specs.Heaps as heaps
use Rattle.java_heap.specs.Heaps.{HeapValue, class_object_of, next_number, side_at, words_taken}
use Rattle.java_heap.specs.Objects.{is_class_object, values_of}
use Rattle.java_heap.specs.declared.object.Content.TheVariants.{ClassObject, Text}
use Rattle.java_heap.specs.declared.object.Content.{Content}
use Rattle.java_heap.specs.declared.object.TheConstants.{CLASS, STRING}
use Rattle.instruction_effect.proofs.ActRules.{IsNew}
use Rattle.jv_names.specs.Names.{Name}
use Rattle.link_versions.specs.declared.fault.LinkFault.{LinkFault}
use Rattle.machine_state.specs.Acts.{Act, Changes, GoesToWait, MakesThread, Notifies, NotifiesAll, Prints, PutsBehind, PutsSide, SetsActivity, SetsTop, going_on, raises}
use Rattle.machine_state.specs.Core.{Core, MethodFrame, ObjectMonitor, StackFrame, frames_at, is_of_object, monitor_at, most_threads, was_started}
use Rattle.machine_state.specs.Trace.{Event, MethodName, MonitorWait, VMObjectAlloc}
use Rattle.std.proofs.Common.{Bool, List, None, Option, Some, [], ap, arith, cond, drop, false, length, map, refl, subst, suc, sym, true, zero, ℕ, ◌++◌, ◌+◌, ◌∙◌, ◌∷◌, ◌≡◌, ◌≤◌}
use Rattle.std.specs.List.{AllByRecursion}
use Rattle.std.specs.Option.{option_and_then, option_map_or}
use Rattle.std.specs.Prelude.{if◌then◌else◌, Err, Ok, Result, ℤ, bytes_eq, codes, flat_map, nat_le, pos, position, ◌==◌}
use Rattle.thread_frames.specs.Operands.{words_of}
use Rattle.thread_frames.specs.declared.frame.StackEntry.TheVariants.{Java}
use Rattle.ti_ids.specs.declared.number.ClassNo.{ClassNo}
use Rattle.ti_ids.specs.declared.number.MethodNo.{MethodNo}
use Rattle.ti_ids.specs.declared.number.ObjNo.{ObjNo}
use Rattle.ti_ids.specs.declared.number.ThreadNo.{ThreadNo}
use Rattle.ti_ids.specs.declared.state.Activity.TheVariants.{Joining, Waiting}
use Rattle.ti_ids.specs.declared.value.Value.{Value}
use Rattle.ti_ids.specs.declared.value.Value.TheVariants as value

module _ (w : Walk) where
  abbrev F : Outcome → Type 0
  F o = OutcomeFollows w.Ok w.Holds w.start o

  -- ---- arguments are taken

  taken_as : (site : Site) → Stood w site → (values : List Value) (acts : List Act) → Done w site.core site.t acts
      → GoesOnAs w.Holds (after w.start acts) site.frame (without_operands (length values) site.frame)
  taken_as site s values acts d =
      let entries : List Value = site.frame.stack.entries in
      let fewer : words_of (drop (length values) entries) ≤ words_of entries = words_dropped (length values) entries in
      record {
        locals = refl;
        room = refl;
        within = λ before. omega (arith, before, fewer);
        local_values = all_after w site.core site.t acts site.frame.locals d s.based.locals;
        operands = all_drop (w.Holds (after w.start acts)) (length values) entries (all_after w site.core site.t acts entries d s.based.operands);
      }

  pub taking : (site : Site) → Stood w site → (values : List Value) → Takes w site (takes_arguments site values)
  taking site s values acts d =
      let now : Core = after w.start acts in
      let g : MethodFrame = without_operands (length values) site.frame in
      let top : frames_at now site.t ≡ Java site.frame ∷ drop 1 site.thread.frames = d.frames ∙ s.top in
      let went : frames_at (behind now (Changes (SetsTop site.t g))) site.t ≡ going_on g (Java site.frame ∷ drop 1 site.thread.frames) =
      frames_changed now site.t (going_on g) refl ∙ ap (going_on g) top in
      record {
        follows = (s.based.rules.sets_top now site.frame g (drop 1 site.thread.frames) top (taken_as site s values acts d), tt);
        deep = λ words. ap (λ (l : List StackFrame). is_deep l words) went ∙ sym (ap (λ (l : List StackFrame). is_deep l words) s.top);
      }

  -- ---- the forms of base methods

  pub record IsBase (c : BaseCall) : Type 0 where
    pub stood : Stood w c.site
    pub before : Still w c.site.core c.site.t c.before

  abbrev Held : BaseCall → Value → Type 0
  Held c v = w.Holds c.site.core v

  given_follows : (c : BaseCall) → IsBase c → (acts : List Act) (result : List Value) → Done w c.site.core c.site.t (c.before ++ acts)
      → HoldAll w.Holds (after w.start (c.before ++ acts)) result → F (gives_by c acts result)
  given_follows c b acts result d h = goes_follows w c.site b.stood (c.before ++ acts) d (length c.arguments) result h

  -- after these acts, which leave the frames alone, it gives values that held before
  acts_follow : (c : BaseCall) → IsBase c → (acts : List Act) (result : List Value) → Follows w (after w.start c.before) acts
      → AllByRecursion (Leaves c.site.t) acts → HoldAll w.Holds c.site.core result → F (gives_by c acts result)
  acts_follow c b acts result follows left h =
      let d = done_more w c.site.core c.site.t b.stood.based.rules c.before acts b.before.apart.done follows left in
      given_follows c b acts result d (all_after w c.site.core c.site.t (c.before ++ acts) result d h)

  value_follows : (c : BaseCall) → IsBase c → (v : Value) → Held c v → F (gives_by c [] (v ∷ []))
  value_follows c b v h = acts_follow c b [] (v ∷ []) tt tt (h, tt)

  int_follows : (c : BaseCall) → IsBase c → (n : ℤ) → F (gives_by c [] (value.Int n ∷ []))
  int_follows c b n = value_follows c b (value.Int n) (b.stood.based.rules.int c.site.core n)

  nothing_follows : (c : BaseCall) → IsBase c → F (done_by c [])
  nothing_follows c b = acts_follow c b [] [] tt tt tt

  one_follows : (c : BaseCall) → IsBase c → (a : Act) (result : List Value) → w.Ok (after w.start c.before) a → Leaves c.site.t a
      → HoldAll w.Holds c.site.core result → F (gives_by c (a ∷ []) result)
  one_follows c b a result ok left h = acts_follow c b (a ∷ []) result (ok, tt) (left, tt) h

  later : (c : BaseCall) → IsBase c → (v : Value) → Held c v → w.Holds (after w.start c.before) v
  later c b v h = b.before.apart.done.held v h

  taken_follow : (c : BaseCall) → IsBase c → Follows w w.start (arguments_taken c)
  taken_follow c b =
      follow_both w w.start c.before (takes_arguments c.site c.arguments) b.before.apart.done.follows
      (taking c.site b.stood c.arguments c.before b.before.apart.done).follows

  makes_follow : (c : BaseCall) → IsBase c → (class : ClassNo) (content : Content) (name : Name) → IsNew c.site.core.heap content
      → ((now : Core) → HoldAll w.Holds now (values_of content)) → F (makes c class content name)
  makes_follow c b class content name new values =
      let heap : HeapValue = c.site.core.heap in
      let events : List Event = VMObjectAlloc c.site.t (next_number heap) name ∷ [] in
      if_by w (heap_has_room heap content) _ _ (λ room.
      let has = made_follows w c.site.core c.site.t b.stood.based.rules c.before class content events b.before room new values in
      given_follows c b (makes_announced c.site.t heap class content name) (value.Ref (Some (next_number heap)) ∷ []) has.apart.done (has.there, tt))
      (λ full. taken_follow c b)

  owned_by : (t : ThreadNo) (found : Option ThreadNo) → option_map_or (λ owner. owner.0 == t.0) found false ≡ true
      → (owner : ThreadNo) × (found ≡ Some owner)
  owned_by t None is = absurd cc
  owned_by t (Some owner) is = (owner, refl)

  -- the owner of an object's monitor that the thread owns
  pub owner_of : (site : Site) (o : ObjNo) → owns site o ≡ true → (owner : ThreadNo) × ((monitor_at site.core o).owner ≡ Some owner)
  owner_of site o is = owned_by site.t (monitor_at site.core o).owner is

  owner_follows : (c : BaseCall) → IsBase c → (o : ObjNo) (so : Outcome)
      → ((owner : ThreadNo) → (monitor_at (after w.start c.before) o).owner ≡ Some owner → F so) → F (when_owner c o so)
  owner_follows c b o so h =
      if_by w (owns c.site o) so _ (λ is.
      let owner = owner_of c.site o is in
      let same = ap (λ (ms : List ObjectMonitor). (monitor_at (record c.site.core { monitors = ms }) o).owner) b.before.apart.monitors in
      h owner.0 (same ∙ owner.1)) (λ is. taken_follow c b)

  -- ---- what a row of the table says

  abbrev pub RowFollows : BaseRow → Type 0
  RowFollows r = (c : BaseCall) (values : List Value) → IsBase c → HoldAll w.Holds c.site.core values → F (r.does c values)

  abbrev Does : (BaseCall → List Value → Outcome) → Type 0
  Does does = (c : BaseCall) (values : List Value) → IsBase c → HoldAll w.Holds c.site.core values → F (does c values)

  nothing_does : Does (λ c values. constructs c)
  nothing_does c values b h = nothing_follows c b

  class_by : (c : BaseCall) (n : ClassNo) (found : Option ObjNo) → IsBase c → class_object_of c.site.core.heap n ≡ found
      → F (elim found as (λ _. Outcome) [
        | Some object ↦ gives_made c [] object
        | None ↦ makes c CLASS (ClassObject n) (codes "java/lang/Class")
      ])
  class_by c n (Some o) b is =
      value_follows c b (value.Ref (Some o))
      (b.stood.based.rules.there c.site.core o (first_there (is_class_object n) c.site.core.heap o is))
  class_by c n None b is = makes_follow c b CLASS (ClassObject n) (codes "java/lang/Class") is (λ now. tt)

  class_does : Does class_of_receiver
  class_does c (value.Ref (Some o) ∷ []) b h =
      misfit_follows w (heaps.class_at c.site.core.heap o) _ (λ n. class_by c n (class_object_of c.site.core.heap n) b refl)
  class_does c _ b h = tt

  bit_follows : (c : BaseCall) → IsBase c → (is : Bool) → F (gives_by c [] (bit is ∷ []))
  bit_follows c b true = int_follows c b (pos 1)
  bit_follows c b false = int_follows c b (pos 0)

  equal_does : Does equal_objects
  equal_does c (value.Ref a ∷ value.Ref other ∷ []) b h = bit_follows c b (same_reference a other)
  equal_does c _ b h = tt

  hash_does : Does hash_code
  hash_does c (value.Ref (Some o) ∷ []) b h = int_follows c b (pos o.0)
  hash_does c _ b h = tt

  waits_does : Does waits
  waits_does c (value.Ref (Some o) ∷ []) b h =
      let rules = b.stood.based.rules in
      let now : Core = after w.start c.before in
      let waits_acts : List Act =
      Changes (GoesToWait o c.site.t) ∷ Changes (SetsActivity c.site.t (Waiting o)) ∷ raises (MonitorWait c.site.t o) ∷ [] in
      owner_follows c b o _ (λ owner is.
      let ok : w.Ok now (Changes (GoesToWait o c.site.t)) = rules.goes_to_wait now o owner is in
      let next : Core = behind now (Changes (GoesToWait o c.site.t)) in
      let there : w.Holds next (value.Ref (Some o)) =
      rules.later now (Changes (GoesToWait o c.site.t)) (value.Ref (Some o)) ok (later c b (value.Ref (Some o)) h.0) in
      let set : w.Ok next (Changes (SetsActivity c.site.t (Waiting o))) = rules.sets_activity next (Waiting o) there in
      follow_both w w.start c.before waits_acts b.before.apart.done.follows
      (ok, (set, (rules.raised (behind next (Changes (SetsActivity c.site.t (Waiting o)))) (MonitorWait c.site.t o), tt))))
  waits_does c _ b h = tt

  notifies_does : Does notifies
  notifies_does c (value.Ref (Some o) ∷ []) b h =
      owner_follows c b o _ (λ owner is.
      one_follows c b (Changes (Notifies o)) [] (b.stood.based.rules.notifies (after w.start c.before) o) (λ now. refl) tt)
  notifies_does c _ b h = tt

  notifies_all_does : Does notifies_all
  notifies_all_does c (value.Ref (Some o) ∷ []) b h =
      owner_follows c b o _ (λ owner is.
      one_follows c b (Changes (NotifiesAll o)) [] (b.stood.based.rules.notifies_all (after w.start c.before) o) (λ now. refl) tt)
  notifies_all_does c _ b h = tt

  constructs_does : Does constructs_with
  constructs_does c (value.Ref (Some o) ∷ value.Ref side ∷ []) b h =
      one_follows c b (Changes (PutsSide o side)) []
      (b.stood.based.rules.puts_side (after w.start c.before) o side (later c b (value.Ref side) h.1.0)) (λ now. refl) tt
  constructs_does c _ b h = tt

  message_does : Does gives_message
  message_does c (value.Ref (Some o) ∷ []) b h =
      misfit_by w (side_at c.site.core.heap o) _ (λ side is.
      value_follows c b (value.Ref side) (side_holds w.Holds c.site.core b.stood.whole o side is))
  message_does c _ b h = tt

  -- ---- texts

  length_does : Does string_length
  length_does c (value.Ref (Some o) ∷ []) b h =
      misfit_follows w (heaps.text_at c.site.core.heap o) _ (λ units. int_follows c b (pos (length units)))
  length_does c _ b h = tt

  unit_follows : (c : BaseCall) (unit : Option ℕ) → IsBase c → F (gives_unit c unit)
  unit_follows c None b = taken_follow c b
  unit_follows c (Some unit) b = int_follows c b (pos unit)

  char_does : Does char_at
  char_does c (value.Ref (Some o) ∷ value.Int index ∷ []) b h =
      misfit_follows w (heaps.text_at c.site.core.heap o) _ (λ units. unit_follows c (unit_at units index) b)
  char_does c _ b h = tt

  same_text_does : Does equal_strings
  same_text_does c (value.Ref (Some o) ∷ value.Ref other ∷ []) b h =
      misfit_follows w (heaps.text_at c.site.core.heap o) _ (λ units.
      bit_follows c b (option_map_or (bytes_eq units) (string_at c.site.core.heap other) false))
  same_text_does c _ b h = tt

  grows_follow : (c : BaseCall) (o : ObjNo) (units : List ℕ) → IsBase c → Held c (value.Ref (Some o)) → F (grows_by c o units)
  grows_follow c o units b h =
      let heap : HeapValue = c.site.core.heap in
      if_by w (nat_le (words_taken heap + length units) heap.limit) _ _ (λ room.
      one_follows c b (Changes (PutsBehind o units)) (value.Ref (Some o) ∷ [])
      (b.stood.based.rules.puts_behind (after w.start c.before) o units
      (subst (λ (k : HeapValue). nat_le (words_taken k + length units) k.limit ≡ true) (sym b.before.heap) room)) (λ now. refl) (h, tt))
      (λ full. taken_follow c b)

  appends_does : (text : Writing) → Does (appends text)
  appends_does text c (value.Ref (Some o) ∷ v ∷ []) b h =
      misfit_follows w (text c.site.core.heap v) _ (λ units. grows_follow c o units b h.0)
  appends_does text c _ b h = tt

  string_does : Does makes_string
  string_does c (value.Ref (Some o) ∷ []) b h =
      misfit_follows w (heaps.text_at c.site.core.heap o) _ (λ units.
      makes_follow c b STRING (Text units) (codes "java/lang/String") tt (λ now. tt))
  string_does c _ b h = tt

  printed_follows : (c : BaseCall) → IsBase c → (bytes : List ℕ) → F (done_by c (Changes (Prints bytes) ∷ []))
  printed_follows c b bytes =
      one_follows c b (Changes (Prints bytes)) [] (b.stood.based.rules.prints (after w.start c.before) bytes) (λ now. refl) tt

  prints_does : (text : Writing) (end : List ℕ) → Does (prints text end)
  prints_does text end c (receiver ∷ v ∷ []) b h =
      misfit_follows w (text c.site.core.heap v) _ (λ units. printed_follows c b (printed_bytes units ++ end))
  prints_does text end c _ b h = tt

  line_does : Does (λ c values. prints_line c)
  line_does c values b h = printed_follows c b (10 ∷ [])

  -- ---- threads

  starts_does : Does starts
  starts_does c (value.Ref (Some o) ∷ []) b h =
      let made : Act = Changes (MakesThread o) in
      if_follows w (was_started c.site.core o) _ _ (taken_follow c b)
      (if_follows w (nat_le most_threads (length c.site.core.threads)) _ _ (taken_follow c b)
      (one_follows c b made []
      (b.stood.based.rules.makes_thread (after w.start c.before) o (later c b (value.Ref (Some o)) h.0)
      (later c b (value.Ref (Some (record { 0 = 2 }))) b.stood.kept)) (λ now. frames_made now c.site.t o) tt))
  starts_does c _ b h = tt

  -- A run is of an object that holds: the one that is asked for, or a target, which stands at the side of one.
  abbrev RunHolds : Core → RunMethod → Type 0
  RunHolds core run = (o : ObjNo) (m : MethodNo) → run ≡ RunOf o m → w.Holds core (value.Ref (Some o))

  target_holds : (site : Site) → CoreHolds w.Holds site.core → (o : ObjNo) (target : ObjNo) → target_of site.core.heap o ≡ Some target
      → w.Holds site.core (value.Ref (Some target))
  target_holds site whole o target is = by (side_at site.core.heap o) refl is
    where
      by : (found : Option (Option ObjNo)) → side_at site.core.heap o ≡ found → option_and_then (λ side. side) found ≡ Some target
          → w.Holds site.core (value.Ref (Some target))
      by None at is = absurd cc
      by (Some side) at is =
          subst (λ (r : Option ObjNo). w.Holds site.core (value.Ref r)) (let same : side ≡ Some target = is in same)
          (side_holds w.Holds site.core whole o side at)

  next_holds : (core : Core) (f : ObjNo → RunMethod) (target : Option ObjNo) → ((o : ObjNo) → target ≡ Some o → RunHolds core (f o))
      → RunHolds core (option_map_or f target NoRun)
  next_holds core f None h o m is = absurd cc
  next_holds core f (Some x) h o m is = h x refl o m is

  method_holds : (core : Core) (o : ObjNo) (m : MethodNo) (base : Bool) (next : RunMethod) → w.Holds core (value.Ref (Some o)) → RunHolds core next
      → RunHolds core (cond base next (RunOf o m))
  method_holds core o m true next h k x n is = k x n is
  method_holds core o m false next h k x n is =
      let same : o ≡ x = cc in subst (λ (y : ObjNo). w.Holds core (value.Ref (Some y))) same h

  selected_holds : (core : Core) (o : ObjNo) (base : MethodNo → Bool) (next : RunMethod) (found : Result MethodNo LinkFault)
      → w.Holds core (value.Ref (Some o)) → RunHolds core next
      → RunHolds core (elim found as (λ _. RunMethod) [ Err fault ↦ LacksRun fault | Ok m ↦ if base m then next else RunOf o m ])
  selected_holds core o base next (Err fault) h k x m is = absurd cc
  selected_holds core o base next (Ok n) h k x m is = method_holds core o n (base n) next h k x m is

  pub run_holds : (site : Site) → CoreHolds w.Holds site.core → (steps : ℕ) (o : ObjNo) → w.Holds site.core (value.Ref (Some o))
      → RunHolds site.core (run_of site.classes site.core.heap steps o)
  run_holds site whole zero o h x m is = absurd cc
  run_holds site whole (suc steps) o h x m is =
      selected_holds site.core o (is_base_method site.classes) _ (selected_run site.classes site.core.heap o) h
      (next_holds site.core (run_of site.classes site.core.heap steps) (target_of site.core.heap o) (λ target at.
      run_holds site whole steps target (target_holds site whole o target at))) x m is

  runs_follow : (c : BaseCall) (run : RunMethod) → IsBase c → RunHolds c.site.core run → F (runs_by c run)
  runs_follow c NoRun b h = nothing_follows c b
  runs_follow c (LacksRun fault) b h = unselected_follows w (arguments_taken c) fault (taken_follow c b)
  runs_follow c (RunOf o m) b h =
      calls_follow w c.site b.stood.based
      (record { before = c.before; taking = takes_arguments c.site c.arguments; method = m; arguments = value.Ref (Some o) ∷ [] })
      (record { before = b.before; taken = taking c.site b.stood c.arguments; arguments = (h o m refl, tt) })

  target_follows : (c : BaseCall) (target : Option ObjNo) → IsBase c → ((o : ObjNo) → target ≡ Some o → Held c (value.Ref (Some o)))
      → F (option_map_or (λ o. runs_by c (run_at c.site o)) target (done_by c []))
  target_follows c None b h = nothing_follows c b
  target_follows c (Some o) b h =
      runs_follow c (run_at c.site o) b (run_holds c.site b.stood.whole (length c.site.core.heap.objects) o (h o refl))

  runs_does : Does runs
  runs_does c (value.Ref (Some o) ∷ []) b h =
      target_follows c (target_of c.site.core.heap o) b (λ target is. target_holds c.site b.stood.whole o target is)
  runs_does c _ b h = tt

  joins_follow : (c : BaseCall) (place : Option ℕ) → IsBase c → F (joins_thread c place)
  joins_follow c None b = nothing_follows c b
  joins_follow c (Some place) b =
      let activity = Joining (record { 0 = place + 1 }) in
      follow_both w w.start c.before (Changes (SetsActivity c.site.t activity) ∷ []) b.before.apart.done.follows
      (b.stood.based.rules.sets_activity (after w.start c.before) activity tt, tt)

  joins_does : Does joins
  joins_does c (value.Ref (Some o) ∷ []) b h = joins_follow c (position (is_of_object o) c.site.core.threads) b
  joins_does c _ b h = tt

  current_does : Does (λ c values. gives_current c)
  current_does c values b h = value_follows c b (value.Ref (Some c.site.thread.object)) b.stood.based.object

  -- ---- the table

  abbrev RowsFollow : List BaseRow → Type 0
  RowsFollow rows = AllByRecursion RowFollows rows

  object_rows_follow : RowsFollow object_rows
  object_rows_follow = (nothing_does, (class_does, (equal_does, (hash_does, (waits_does, (notifies_does, (notifies_all_does, tt)))))))

  string_rows_follow : RowsFollow string_rows
  string_rows_follow = (length_does, (char_does, (same_text_does, tt)))

  builder_rows_follow : RowsFollow builder_rows
  builder_rows_follow = (
    nothing_does,
    (
      appends_does int_text,
      (
        appends_does long_text,
        (
          appends_does char_text,
          (
            appends_does boolean_text,
            (appends_does string_text, (string_does, tt)),
          ),
        ),
      ),
    ),
  )

  thread_rows_follow : RowsFollow thread_rows
  thread_rows_follow = (nothing_does, (constructs_does, (starts_does, (runs_does, (joins_does, (current_does, tt))))))

  printing_follows : (name : Name) (end : List ℕ) → RowsFollow (printing_rows name end)
  printing_follows name end = (
    prints_does int_text end,
    (
      prints_does long_text end,
      (
        prints_does char_text end,
        (
          prints_does boolean_text end,
          (prints_does string_text end, tt),
        ),
      ),
    ),
  )

  stream_rows_follow : RowsFollow stream_rows
  stream_rows_follow =
      let last : List BaseRow = row (codes "java/io/PrintStream") (codes "println") (codes "()V") (λ c _. prints_line c) ∷ [] in
      let print = printing_rows (codes "print") [] in
      let println = printing_rows (codes "println") (10 ∷ []) in
      all_both RowFollows (print ++ println) last
      (all_both RowFollows print println (printing_follows (codes "print") []) (printing_follows (codes "println") (10 ∷ []))) (line_does, tt)

  constructors_follow : (classes : List Name) → RowsFollow (flat_map constructor_rows classes)
  constructors_follow [] = tt
  constructors_follow (class ∷ classes) =
      all_both RowFollows (constructor_rows class) _ (nothing_does, (constructs_does, tt)) (constructors_follow classes)

  rows_follow : RowsFollow base_rows
  rows_follow =
      let throwables : RowsFollow throwable_rows =
      (message_does, constructors_follow (codes "java/lang/Throwable" ∷ map (λ error. error.0) errors)) in
      all_both RowFollows (object_rows ++ string_rows ++ builder_rows ++ thread_rows ++ stream_rows) throwable_rows
      (all_both RowFollows (object_rows ++ string_rows ++ builder_rows ++ thread_rows) stream_rows
      (all_both RowFollows (object_rows ++ string_rows ++ builder_rows) thread_rows
      (all_both RowFollows (object_rows ++ string_rows) builder_rows
      (all_both RowFollows object_rows string_rows object_rows_follow string_rows_follow) builder_rows_follow) thread_rows_follow) stream_rows_follow)
      throwables

  base_row_follows : (name : MethodName) (r : BaseRow) → base_row name ≡ Some r → RowFollows r
  base_row_follows name r is = all_find RowFollows (is_row_of name) base_rows r rows_follow is

  pub base_follows : (site : Site) → Stood w site → (before : List Act) (m : MethodNo) (values : List Value) → Still w site.core site.t before
      → HoldAll w.Holds site.core values → F (base_outcome site before m values)
  base_follows site s before m values still h =
      misfit_follows w (name_of_method site.classes m) _ (λ name. misfit_by w (base_row name) _ (λ r is.
      if_follows w (accepts_all site m name values) _ _
      (base_row_follows name r is (record { site = site; before = before; arguments = values }) values (record { stood = s; before = still }) h)
      still.apart.done.follows))
