-- The acts of the instructions on constants, fields, objects and single arrays, and of divisions, follow one another as the rules say.
use Rattle.bytecode_local.specs.Changes.{exchange}
use Rattle.bytecode_local.specs.Kinds.{operand_at}
use Rattle.class_code.specs.declared.instr.Instr.{Instr}
use Rattle.class_code.specs.declared.instr.Instr.TheVariants as instr
use Rattle.class_code.specs.declared.instr.Kind.{Kind}
use Rattle.class_code.specs.declared.instr.Kind.TheVariants as kind
use Rattle.class_code.specs.declared.instr.PoolOp.TheVariants as pool_op
use Rattle.class_code.specs.declared.instr.Simple.TheVariants as simple
use Rattle.class_tree.specs.Tree.{class_at, entry_at, text_at}
use Rattle.class_tree.specs.declared.pool.Const.{Const}
use Rattle.class_tree.specs.declared.pool.Const.TheVariants as const
use Rattle.instruction_effect.proofs.ActRules.{HoldAll}
use Rattle.instruction_effect.proofs.FollowingBase.{owner_of}
use Rattle.instruction_effect.proofs.FollowingCores.{Follows, Has, Leaves, Rules, Still, Walk, after, done_one, first_there}
use Rattle.instruction_effect.proofs.FollowingForms.{AtSite, IsFirst, OutcomeFollows, Stood, class_object_follows, entering_follows, fits_follows, gives_follows, goes_follows, has_found, if_by, if_follows, kind_follows, misfit_follows, null_follows, ready_follows, reference_follows, room_follows, there_follows, all_replicated}
use Rattle.instruction_effect.proofs.FollowingReads.{field_holds, static_holds}
use Rattle.instruction_effect.specs.Constants.{constant_outcome, load_class, load_entry, load_literal}
use Rattle.instruction_effect.specs.Fields.{field_kind, field_named, field_outcome, field_zero, fresh_fields, instance_fields, is_static_field, place_in, read_instance, read_static, static_value, value_in, when_has, when_resolved, write_instance, write_static}
use Rattle.instruction_effect.specs.NewArrays.{component_name, first_elements}
use Rattle.instruction_effect.specs.Objects.{cast, entered, exited, has_instances, is_of, is_throwable, new_content, new_instance, new_outcome, object_outcome, of_object, owns, tested, thrown, unless_null_top}
use Rattle.instruction_effect.specs.Operands.{gives, gives_object, kind_of_desc, when_there, zero_of}
use Rattle.instruction_effect.specs.Outcomes.{goes, Outcome, Site, Throws, ThrowsObject, makes_announced, misfit, or_misfit, when_room}
use Rattle.java_heap.specs.Heaps as heaps
use Rattle.java_heap.specs.Heaps.{literal_of, next_number}
use Rattle.java_heap.specs.Objects.{is_literal, values_of}
use Rattle.java_heap.specs.declared.object.Content.TheVariants.{Fields, Literal, Text}
use Rattle.java_heap.specs.declared.object.TheConstants.{STRING, STRING_BUILDER}
use Rattle.instruction_effect.proofs.ActRules.{IsNew}
use Rattle.jv_names.specs.Names.{Name}
use Rattle.link_versions.specs.Classes.{Class, is_same_class}
use Rattle.link_versions.specs.Resolution.{resolved_field}
use Rattle.link_versions.specs.declared.fault.LinkFault.{LinkFault}
use Rattle.machine_state.specs.Acts as acts
use Rattle.machine_state.specs.Acts.{Act, Changes, PutsField, PutsStatic}
use Rattle.machine_state.specs.Core.{Core, ObjectMonitor, monitor_at}
use Rattle.machine_state.specs.Trace.{VMObjectAlloc}
use Rattle.std.proofs.Common.{Bool, List, None, Option, Some, [], ap, false, refl, true, ℕ, ◌++◌, ◌∙◌, ◌∷◌, ◌≡◌}
use Rattle.std.specs.Prelude.{Err, Ok, Result, codes, if◌then◌else◌, map, pos, ◌||◌}
use Rattle.ti_ids.specs.Maybe.{◌>>=◌}
use Rattle.ti_ids.specs.declared.number.ClassNo.{ClassNo}
use Rattle.ti_ids.specs.declared.number.FieldNo.{FieldNo}
use Rattle.ti_ids.specs.declared.number.ObjNo.{ObjNo}
use Rattle.ti_ids.specs.declared.number.ThreadNo.{ThreadNo}
use Rattle.ti_ids.specs.declared.value.Value.{Value}
use Rattle.ti_ids.specs.declared.value.Value.TheVariants as value

module _ (w : Walk) where
  abbrev F : Outcome → Type 0
  F o = OutcomeFollows w.Ok w.Holds w.start o

  -- ---- values

  pub zero_holds : (t : ThreadNo) → Rules w t → (now : Core) (k : Kind) → w.Holds now (zero_of k)
  zero_holds t rules now kind.Int = rules.int now (pos 0)
  zero_holds t rules now kind.Long = rules.long now (pos 0)
  zero_holds t rules now kind.Reference = rules.null now

  zeros_hold : (t : ThreadNo) → Rules w t → (classes : List Class) (now : Core) (fields : List FieldNo)
      → HoldAll w.Holds now (map (field_zero classes) fields)
  zeros_hold t rules classes now [] = tt
  zeros_hold t rules classes now (f ∷ fields) = (zero_holds t rules now (field_kind classes f), zeros_hold t rules classes now fields)

  -- whatever the elements of a new array are
  pub elements_hold : (t : ThreadNo) → Rules w t → (name : Name) (n : ℕ) (now : Core) → HoldAll w.Holds now (values_of (first_elements name n))
  elements_hold t rules name n now =
      let k : Kind = kind_of_desc (component_name name) in all_replicated (w.Holds now) n (zero_of k) (zero_holds t rules now k)

  -- ---- constants

  pub object_follows : (site : Site) → Stood w site → (acts : List Act) (taken : ℕ) (o : ObjNo) → Has w site.core site.t acts o
      → F (gives_object site acts taken o)
  object_follows site s acts taken o has = gives_follows w site s acts has.apart.done taken (value.Ref (Some o)) has.there

  literal_by : (site : Site) → Stood w site → IsFirst w site → (units : List ℕ) (so : List Act → ObjNo → Outcome) (found : Option ObjNo)
      → literal_of site.core.heap units ≡ found → ((acts : List Act) (o : ObjNo) → Has w site.core site.t acts o → F (so acts o))
      → F (elim found as (λ _. Outcome) [
        | Some object ↦ so [] object
        | None ↦ when_room site.core.heap []
            (makes_announced site.t site.core.heap STRING (Literal units) (codes "java/lang/String")) (Literal units) so
      ])
  literal_by site s first units so (Some o) is k =
      k [] o (has_found w site s.based [] o first.none
      (s.based.rules.there site.core o (first_there (is_literal units) site.core.heap o is)))
  literal_by site s first units so None is k =
      room_follows w site s.based [] STRING (Literal units) (VMObjectAlloc site.t (next_number site.core.heap) (codes "java/lang/String") ∷ []) so
      first.none is (λ now. tt) k

  literal_follows : (site : Site) → Stood w site → IsFirst w site → (units : List ℕ) → F (load_literal site units)
  literal_follows site s first units =
      fits_follows w site 0 kind.Reference _
      (literal_by site s first units _ (literal_of site.core.heap units) refl (λ acts o has. object_follows site s acts 0 o has))

  class_follows : AtSite w load_class
  class_follows site acts n s still =
      fits_follows w site 0 kind.Reference _
      (class_object_follows w site s.based acts n _ still (λ all o has. object_follows site s all 0 o has))

  entry_follows : (site : Site) → Stood w site → IsFirst w site → (c : Const) → F (load_entry site c)
  entry_follows site s first (const.Text text) = misfit_follows w (text_at site.pool text) _ (λ units. literal_follows site s first units)
  entry_follows site s first (const.Class name) =
      misfit_follows w (text_at site.pool name) _ (λ class. there_follows w site s first class load_class class_follows)
  entry_follows site s first _ = tt

  pub constant_follows : (site : Site) → Stood w site → IsFirst w site → (i : Instr) → F (constant_outcome site i)
  constant_follows site s first (instr.LoadConst index) = misfit_follows w (entry_at site.pool index) _ (λ c. entry_follows site s first c)
  constant_follows site s first (instr.Pool pool_op.LoadConstWide index) =
      misfit_follows w (entry_at site.pool index) _ (λ c. entry_follows site s first c)
  constant_follows site s first _ = tt

  -- ---- new

  both_kinds : (t : ThreadNo) → Rules w t → (classes : List Class) (n : ClassNo) (now : Core) (text : Bool)
      → HoldAll w.Holds now (values_of (if text then Text [] else Fields (fresh_fields classes n)))
  both_kinds t rules classes n now true = tt
  both_kinds t rules classes n now false = zeros_hold t rules classes now (instance_fields classes n)

  is_plain : (heap : heaps.HeapValue) (classes : List Class) (n : ClassNo) (text : Bool)
      → IsNew heap (if text then Text [] else Fields (fresh_fields classes n))
  is_plain heap classes n true = tt
  is_plain heap classes n false = tt

  instance_follows : AtSite w new_instance
  instance_follows site acts n s still =
      let is_text : Bool = is_same_class n STRING || is_same_class n STRING_BUILDER in
      if_follows w (has_instances site.classes n) _ _
      (room_follows w site s.based acts n (new_content site.classes n) [] _ still (is_plain site.core.heap site.classes n is_text)
      (λ now. both_kinds site.t s.based.rules site.classes n now is_text) (λ all o has. object_follows site s all 0 o has))
      still.apart.done.follows

  named_follows : (site : Site) → Stood w site → IsFirst w site → (index : ℕ) (so : Site → List Act → ClassNo → Outcome) → AtSite w so
      → F (or_misfit (class_at site.pool index) (λ name. when_there site name so))
  named_follows site s first index so h = misfit_follows w (class_at site.pool index) _ (λ name. there_follows w site s first name so h)

  new_follows : (site : Site) → Stood w site → IsFirst w site → (index : ℕ) → F (new_outcome site index)
  new_follows site s first index =
      named_follows site s first index _ (λ there acts n k still.
      ready_follows w there n _ (fits_follows w there 0 kind.Reference _ (instance_follows there acts n k still)))

  -- ---- checkcast and instanceof

  cast_follows : (o : ObjNo) → AtSite w (λ there acts n. cast there acts n o)
  cast_follows o site acts n s still =
      if_follows w (is_of site o n) _ _ (goes_follows w site s acts still.apart.done 0 [] tt) still.apart.done.follows

  tested_follows : (o : ObjNo) → AtSite w (λ there acts n. tested there acts n o)
  tested_follows o site acts n s still =
      gives_follows w site s acts still.apart.done 1 _ (s.based.rules.int (after w.start acts) (if is_of site o n then pos 1 else pos 0))

  top_follows : (site : Site) → Stood w site → IsFirst w site → (index taken : ℕ) (given : List Value)
      (so : Site → List Act → ClassNo → ObjNo → Outcome) (top : Option Value) → HoldAll w.Holds w.start given
      → ((o : ObjNo) → AtSite w (λ there acts n. so there acts n o)) → F (unless_null_top site index (exchange taken given) so top)
  top_follows site s first index taken given so (Some (value.Ref None)) h k = goes_follows w site s [] first.none.apart.done taken given h
  top_follows site s first index taken given so (Some (value.Ref (Some o))) h k = named_follows site s first index _ (k o)
  top_follows site s first index taken given so _ h k =
      named_follows site s first index (λ there acts n. misfit) (λ there acts n s still. tt)

  -- ---- athrow and monitors

  thrown_follows : (site : Site) → IsFirst w site → (o : ObjNo) → w.Holds site.core (value.Ref (Some o)) → F (thrown site o)
  thrown_follows site first o h =
      if_follows w (is_throwable site o) (ThrowsObject o) _ (first.none.apart.done.held (value.Ref (Some o)) h) tt

  monitor_follows : (site : Site) → Stood w site → IsFirst w site → (o : ObjNo) → w.Holds site.core (value.Ref (Some o)) → F (entered site o)
  monitor_follows site s first o h =
      entering_follows w site s.based [] o _ (has_found w site s.based [] o first.none h) (λ more done.
      goes_follows w site s more done.0 1 [] tt)

  left_follows : (site : Site) → Stood w site → IsFirst w site → (o : ObjNo) → F (exited site o)
  left_follows site s first o =
      let leaving : Act = Changes (acts.Leaves o) in
      if_by w (owns site o) _ _ (λ is.
      let owner = owner_of w site o is in
      let here = ap (λ (ms : List ObjectMonitor). (monitor_at (record site.core { monitors = ms }) o).owner) first.none.apart.monitors in
      let d = done_one w site.core site.t s.based.rules [] leaving first.none.apart.done
      (s.based.rules.leaves w.start o owner.0 (here ∙ owner.1)) (λ now. refl) in
      goes_follows w site s (leaving ∷ []) d 1 [] tt) (λ is. tt)

  of_object_follows : (site : Site) → Stood w site → (so : ObjNo → Outcome)
      → ((o : ObjNo) → w.Holds site.core (value.Ref (Some o)) → F (so o)) → F (of_object site so)
  of_object_follows site s so h =
      reference_follows w site s.based 0 _ (λ r holds. null_follows w site.core [] r so tt holds h)

  pub object_outcome_follows : (site : Site) → Stood w site → IsFirst w site → (i : Instr) → F (object_outcome site i)
  object_outcome_follows site s first (instr.Pool pool_op.New index) = new_follows site s first index
  object_outcome_follows site s first (instr.Pool pool_op.CheckCast index) =
      top_follows site s first index 0 [] cast (operand_at site.frame.stack 0) tt cast_follows
  object_outcome_follows site s first (instr.Pool pool_op.InstanceOf index) =
      top_follows site s first index 1 (value.Int (pos 0) ∷ []) tested (operand_at site.frame.stack 0) (s.based.rules.int w.start (pos 0), tt)
      tested_follows
  object_outcome_follows site s first (instr.Simple simple.Throw) = of_object_follows site s _ (thrown_follows site first)
  object_outcome_follows site s first (instr.Simple simple.MonitorEnter) = of_object_follows site s _ (monitor_follows site s first)
  object_outcome_follows site s first (instr.Simple simple.MonitorExit) =
      of_object_follows site s _ (λ o h. left_follows site s first o)
  object_outcome_follows site s first _ = tt

  -- ---- fields

  found_by : (acts : List Act) (field : Result FieldNo LinkFault) (so : FieldNo → Outcome) → Follows w w.start acts
      → ((field : FieldNo) → F (so field))
      → F (elim field as (λ _. Outcome) [ Ok field ↦ so field | Err fault ↦ Throws acts (codes "java/lang/NoSuchFieldError") ])
  found_by acts (Ok field) so h k = k field
  found_by acts (Err fault) so h k = h

  abbrev AtField : (Site → List Act → FieldNo → Outcome) → Type 0
  AtField so = (there : Site) (acts : List Act) (field : FieldNo) → Stood w there → Still w there.core there.t acts → F (so there acts field)

  resolved_follows : (site : Site) → Stood w site → IsFirst w site → (index : ℕ) (so : Site → List Act → FieldNo → Outcome) → AtField so
      → F (when_resolved site index so)
  resolved_follows site s first index so k =
      misfit_follows w (field_named site.pool index) _ (λ wanted. there_follows w site s first wanted.class _ (λ there acts n stood still.
      found_by acts (resolved_field there.classes n wanted.name wanted.desc) (so there acts) still.apart.done.follows (λ field.
      k there acts field stood still)))

  read_static_follows : AtField read_static
  read_static_follows site acts field s still =
      let holds = static_holds w.Holds site.core s.whole field (field_zero site.classes field)
      (zero_holds site.t s.based.rules site.core (field_kind site.classes field)) in
      fits_follows w site 0 (field_kind site.classes field) _ (if_follows w (is_static_field site.classes field) _ _
      (gives_follows w site s acts still.apart.done 0 (static_value site.core site.classes field)
      (still.apart.done.held (static_value site.core site.classes field) holds)) still.apart.done.follows)

  -- one act more, and the frame goes on with so many operands less
  one_more : (site : Site) → Stood w site → (acts : List Act) (a : Act) (taken : ℕ) → Still w site.core site.t acts → w.Ok (after w.start acts) a
      → Leaves site.t a → F (goes site (acts ++ a ∷ []) (exchange taken []))
  one_more site s acts a taken still ok left =
      goes_follows w site s (acts ++ a ∷ []) (done_one w site.core site.t s.based.rules acts a still.apart.done ok left) taken [] tt

  write_static_follows : AtField write_static
  write_static_follows site acts field s still =
      kind_follows w site s.based (field_kind site.classes field) 0 _ (λ v h.
      if_follows w (is_static_field site.classes field) _ _
      (one_more site s acts (Changes (PutsStatic field v)) 1 still
      (s.based.rules.puts_static (after w.start acts) field v (still.apart.done.held v h)) (λ now. refl)) still.apart.done.follows)

  has_by : {A : Type 0} (acts : List Act) (found : Option A) (so : A → Outcome) → Follows w w.start acts → ((x : A) → found ≡ Some x → F (so x))
      → F (when_has acts found so)
  has_by acts None so h k = h
  has_by acts (Some x) so h k = k x refl

  field_by : (site : Site) → Stood w site → (o : ObjNo) (place : Option ℕ) (v : Value)
      → (place >>= λ place. heaps.field_at site.core.heap o place) ≡ Some v → w.Holds site.core v
  field_by site s o None v is = absurd cc
  field_by site s o (Some place) v is = field_holds w.Holds site.core s.whole o place v is

  read_instance_follows : AtField read_instance
  read_instance_follows site acts field s still =
      let done = still.apart.done in
      reference_follows w site s.based 0 _ (λ r h. fits_follows w site 1 (field_kind site.classes field) _
      (if_follows w (is_static_field site.classes field) _ _ done.follows (null_follows w site.core acts r _ done.follows h (λ o k.
      has_by acts (value_in site o field) (gives site acts 1) done.follows (λ v is.
      gives_follows w site s acts done 1 v (done.held v (field_by site s o (place_in site o field) v is)))))))

  write_instance_follows : AtField write_instance
  write_instance_follows site acts field s still =
      let done = still.apart.done in
      kind_follows w site s.based (field_kind site.classes field) 0 _ (λ v h. reference_follows w site s.based 1 _ (λ r k.
      if_follows w (is_static_field site.classes field) _ _ done.follows (null_follows w site.core acts r _ done.follows k (λ o there.
      has_by acts (place_in site o field) _ done.follows (λ place is.
      one_more site s acts (Changes (PutsField o place v)) 2 still (s.based.rules.puts_field (after w.start acts) o place v (done.held v h))
      (λ now. refl))))))

  pub field_follows : (site : Site) → Stood w site → IsFirst w site → (i : Instr) → F (field_outcome site i)
  field_follows site s first (instr.Pool pool_op.GetStatic index) =
      resolved_follows site s first index _ (λ there acts field stood still.
      ready_follows w there field.class _ (read_static_follows there acts field stood still))
  field_follows site s first (instr.Pool pool_op.PutStatic index) =
      resolved_follows site s first index _ (λ there acts field stood still.
      ready_follows w there field.class _ (write_static_follows there acts field stood still))
  field_follows site s first (instr.Pool pool_op.GetField index) = resolved_follows site s first index read_instance read_instance_follows
  field_follows site s first (instr.Pool pool_op.PutField index) = resolved_follows site s first index write_instance write_instance_follows
  field_follows site s first _ = tt
