-- The acts of every instruction follow one another as the rules say, and so do those of a thread's entry.
use Rattle.machine_state.specs.Acts.{Act}
use Rattle.class_code.specs.declared.instr.Instr.{Instr}
use Rattle.class_code.specs.declared.instr.Instr.TheVariants as instr
use Rattle.class_code.specs.declared.instr.Kind.{Kind}
use Rattle.class_code.specs.declared.instr.PoolOp.TheVariants as pool_op
use Rattle.class_tree.specs.declared.access.Flag.TheVariants as flags
use Rattle.instruction_effect.proofs.ActRules.{HoldAll}
use Rattle.instruction_effect.proofs.FollowingBase.{base_follows, taking}
use Rattle.instruction_effect.proofs.FollowingCores.{Follows, Still, Walk}
use Rattle.instruction_effect.proofs.FollowingForms.{IsFirst, OutcomeFollows, Stood, all_both, if_follows, linked_follows, misfit_by, misfit_follows, null_follows, ready_follows, there_follows}
use Rattle.instruction_effect.proofs.FollowingPushes.{calls_follow, unselected_follows}
use Rattle.instruction_effect.specs.Arguments.{are_kinds, arguments_at, instance_kinds, static_kinds, takes_arguments, topmost, when_arguments}
use Rattle.instruction_effect.specs.BaseThreads.{is_base_method}
use Rattle.instruction_effect.specs.Calls.{call_outcome, invokes, invokes_interface, invokes_linked, invokes_selected, invokes_special, invokes_static, invokes_virtual, is_init, selected_from, start_of, when_allowed, with_receiver}
use Rattle.instruction_effect.specs.Invoking.{no_method}
use Rattle.instruction_effect.specs.MethodResolution.{Reference, Resolved, is_of_other_kind, is_static, reference_named, resolving, when_resolved, when_resolved_in}
use Rattle.instruction_effect.specs.Operands.{incompatible}
use Rattle.instruction_effect.specs.Outcomes.{Outcome, Site}
use Rattle.java_heap.specs.Heaps as heap
use Rattle.link_versions.specs.Classes.{is_same_class}
use Rattle.link_versions.specs.Members.{method_has}
use Rattle.link_versions.specs.Resolution.{resolved_method, selected}
use Rattle.link_versions.specs.Subtypes.{is_subclass}
use Rattle.link_versions.specs.declared.fault.LinkFault.{LinkFault}
use Rattle.std.proofs.Common.{Bool, List, None, Some, [], false, length, subst, suc, sym, true, zero, ℕ, ◌++◌, ◌∷◌, ◌≡◌}
use Rattle.std.specs.List.{AllByRecursion}
use Rattle.std.specs.Prelude.{Err, Ok, Result, if◌then◌else◌, not, reverse, take, ◌&&◌}
use Rattle.std.proofs.lemmas.List.{reverse-append}
use Rattle.ti_ids.specs.declared.number.ClassNo.{ClassNo}
use Rattle.ti_ids.specs.declared.number.MethodNo.{MethodNo}
use Rattle.ti_ids.specs.declared.value.Value.{Value}
use Rattle.ti_ids.specs.declared.value.Value.TheVariants as value

-- ---- lists

all_take : {A : Type 0} (P : A → Type 0) (n : ℕ) (xs : List A) → AllByRecursion P xs → AllByRecursion P (take n xs)
all_take P zero xs h = tt
all_take P (suc n) [] h = tt
all_take P (suc n) (x ∷ xs) h = (h.0, all_take P n xs h.1)

all_reverse : {A : Type 0} (P : A → Type 0) (xs : List A) → AllByRecursion P xs → AllByRecursion P (reverse xs)
all_reverse P [] h = tt
all_reverse P (x ∷ xs) h =
    let turned : AllByRecursion P (reverse xs ++ x ∷ []) = all_both P (reverse xs) (x ∷ []) (all_reverse P xs h.1) (h.0, tt) in
    subst (AllByRecursion P) (sym (reverse-append (x ∷ []) xs)) turned

module _ (w : Walk) where
  abbrev F : Outcome → Type 0
  F o = OutcomeFollows w.Ok w.Holds w.start o

  -- ---- the method that is invoked

  -- what stands where a method was resolved
  pub record At (x : Resolved) : Type 0 where
    pub stood : Stood w x.site
    pub still : Still w x.site.core x.site.t x.before

  found_by : (acts : List Act) (m : Result MethodNo LinkFault) (so : MethodNo → Outcome) → Follows w w.start acts → ((m : MethodNo) → F (so m))
      → F (elim m as (λ _. Outcome) [ Ok m ↦ so m | Err fault ↦ no_method acts ])
  found_by acts (Ok m) so h k = k m
  found_by acts (Err fault) so h k = h

  resolved_follows : (site : Site) → Stood w site → IsFirst w site → (r : Reference) (so : Resolved → Outcome) → ((x : Resolved) → At x → F (so x))
      → F (when_resolved site r so)
  resolved_follows site s first r so k = there_follows w site s first r.class (λ there acts n. when_resolved_in there acts n r (λ m.
      so (record { site = there; before = acts; reference = r; class = n; method = m }))) (λ there acts n stood still.
      if_follows w (is_of_other_kind there.classes n r) (incompatible acts) _ still.apart.done.follows
      (found_by acts (resolved_method there.classes n r.name r.desc) _ still.apart.done.follows (λ m.
      k (record { site = there; before = acts; reference = r; class = n; method = m }) (record { stood = stood; still = still }))))

  resolving_follows : (site : Site) → Stood w site → IsFirst w site → (index : ℕ) (so : Resolved → Outcome) → ((x : Resolved) → At x → F (so x))
      → F (resolving site index so)
  resolving_follows site s first index so k =
      misfit_follows w (reference_named site.pool index) _ (λ r. resolved_follows site s first r so k)

  -- ---- invocations

  abbrev Hold : Resolved → List Value → Type 0
  Hold x values = HoldAll w.Holds x.site.core values

  linked_invoked : (x : Resolved) (m : MethodNo) (values : List Value) → At x → Hold x values → F (invokes_linked x m values)
  linked_invoked x m values at h =
      if_follows w (method_has x.site.classes flags.Abstract m) _ _ at.still.apart.done.follows
      (if_follows w (is_base_method x.site.classes m) _ _ (base_follows w x.site at.stood x.before m values at.still h)
      (calls_follow w x.site at.stood.based
      (record { before = x.before; taking = takes_arguments x.site values; method = m; arguments = values })
      (record { before = at.still; taken = taking w x.site at.stood values; arguments = h })))

  invoked : (x : Resolved) (m : MethodNo) (values : List Value) → At x → Hold x values → F (invokes x m values)
  invoked x m values at h = linked_follows w x.site m.class _ (linked_invoked x m values at h)

  selected_follows : (x : Resolved) (values : List Value) (r : Result MethodNo LinkFault) → At x → Hold x values → F (invokes_selected x values r)
  selected_follows x values (Err fault) at h = unselected_follows w x.before fault at.still.apart.done.follows
  selected_follows x values (Ok m) at h = invoked x m values at h

  arguments_by : (site : Site) (kinds : List Kind) (b : Bool) (values : List Value) → HoldAll w.Holds site.core (topmost kinds site.frame.stack)
      → (if b then Some (topmost kinds site.frame.stack) else None) ≡ Some values → HoldAll w.Holds site.core values
  arguments_by site kinds true values h is =
      let same : topmost kinds site.frame.stack ≡ values = cc in subst (HoldAll w.Holds site.core) same h
  arguments_by site kinds false values h is = absurd cc

  arguments_follow : (site : Site) → Stood w site → (kinds : List Kind) (so : List Value → Outcome)
      → ((values : List Value) → HoldAll w.Holds site.core values → F (so values)) → F (when_arguments site kinds so)
  arguments_follow site s kinds so k =
      let P : Value → Type 0 = w.Holds site.core in
      let entries : List Value = site.frame.stack.entries in
      misfit_by w (arguments_at kinds site.frame.stack) so (λ values is.
      k values (arguments_by site kinds (are_kinds kinds (topmost kinds site.frame.stack)) values
      (all_reverse P (take (length kinds) entries) (all_take P (length kinds) entries s.based.operands)) is))

  static_follows : (x : Resolved) → At x → F (invokes_static x)
  static_follows x at =
      ready_follows w x.site x.method.class _ (arguments_follow x.site at.stood (static_kinds x.reference.desc) _ (λ values h.
      if_follows w (is_static x) _ _ (invoked x x.method values at h) at.still.apart.done.follows))

  receiver_follows : (x : Resolved) (so : ClassNo → Outcome) (values : List Value) → At x → Hold x values → ((n : ClassNo) → F (so n))
      → F (with_receiver x so values)
  receiver_follows x so (value.Ref r ∷ values) at h k =
      null_follows w x.site.core x.before r _ at.still.apart.done.follows h.0 (λ o there.
      misfit_follows w (heap.class_at x.site.core.heap o) so k)
  receiver_follows x so _ at h k = tt

  allowed_follows : (x : Resolved) (is_allowed : Bool) (so : List Value → ClassNo → Outcome) → At x
      → ((values : List Value) (n : ClassNo) → Hold x values → F (so values n)) → F (when_allowed x is_allowed so)
  allowed_follows x is_allowed so at k = arguments_follow x.site at.stood (instance_kinds x.reference.desc) _ (λ values h.
      if_follows w is_allowed _ _ (receiver_follows x (so values) values at h (λ n. k values n h)) at.still.apart.done.follows)

  virtual_follows : (x : Resolved) → At x → F (invokes_virtual x)
  virtual_follows x at =
      allowed_follows x (not (is_static x)) _ at (λ values n h. selected_follows x values (selected x.site.classes n x.method) at h)

  interface_follows : (x : Resolved) → At x → F (invokes_interface x)
  interface_follows x at = allowed_follows x _ _ at (λ values n h.
      if_follows w (is_subclass x.site.classes n x.class) _ _ (selected_follows x values (selected x.site.classes n x.method) at h)
      at.still.apart.done.follows)

  special_follows : (x : Resolved) → At x → F (invokes_special x)
  special_follows x at =
      if_follows w (is_init x.reference && not (is_same_class x.method.class x.class)) _ _ at.still.apart.done.follows
      (allowed_follows x (not (is_static x)) _ at (λ values n h.
      selected_follows x values (selected_from x.site.classes x.reference (start_of x)) at h))

  pub call_follows : (site : Site) → Stood w site → IsFirst w site → (i : Instr) → F (call_outcome site i)
  call_follows site s first (instr.Pool pool_op.InvokeStatic index) = resolving_follows site s first index invokes_static static_follows
  call_follows site s first (instr.Pool pool_op.InvokeVirtual index) = resolving_follows site s first index invokes_virtual virtual_follows
  call_follows site s first (instr.Pool pool_op.InvokeSpecial index) = resolving_follows site s first index invokes_special special_follows
  call_follows site s first (instr.InvokeInterface index count) = resolving_follows site s first index invokes_interface interface_follows
  call_follows site s first _ = tt
