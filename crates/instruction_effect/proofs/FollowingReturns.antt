-- The acts of returns follow one another as the rules say.
use Rattle.machine_state.specs.Acts.{Act, Changes, Pops, SetsTop}
use Rattle.machine_state.specs.Acts as acts
use Rattle.bytecode_local.specs.Changes.{can_take, changed, exchange}
use Rattle.bytecode_local.specs.Kinds.{kind_at}
use Rattle.class_code.specs.declared.instr.Instr.{Instr}
use Rattle.class_code.specs.declared.instr.Instr.TheVariants as instr
use Rattle.class_code.specs.declared.instr.Kind.{Kind}
use Rattle.class_code.specs.declared.instr.Simple.TheVariants as simple
use Rattle.instruction_effect.proofs.ActRules.{FrameHolds, HoldAll, behind}
use Rattle.instruction_effect.proofs.FollowingBase.{owner_of}
use Rattle.instruction_effect.proofs.FollowingCores.{Done, Follows, Rules, Walk, after, done_one, follow_both, frames_changed, raised_all}
use Rattle.instruction_effect.proofs.FollowingForms.{IsFirst, OutcomeFollows, Stood, all_held, goes_as, if_by, kind_holds, misfit_by, misfit_follows}
use Rattle.instruction_effect.proofs.FollowingReads.{frames_hold}
use Rattle.instruction_effect.specs.Arguments.{name_of_method, result_kind}
use Rattle.instruction_effect.specs.Objects.{owns}
use Rattle.instruction_effect.specs.Outcomes.{Outcome, Site}
use Rattle.instruction_effect.specs.Returns.{beneath, caller_goes_on, exit_events, given_up, handed_on, handed_to, is_same_kind, popping, result_of, return_outcome, returns}
use Rattle.machine_state.specs.Core.{Core, MethodFrame, ObjectMonitor, StackFrame, frames_at, monitor_at}
use Rattle.machine_state.specs.Trace.{Event, FramePop, MethodExit, MethodName, Returned}
use Rattle.std.proofs.Common.{Bool, List, None, Option, Some, [], ap, false, refl, subst, true, ℕ, ◌++◌, ◌∙◌, ◌∷◌, ◌≡◌}
use Rattle.std.specs.List.{AllByRecursion}
use Rattle.std.specs.Prelude.{if◌then◌else◌, option_map}
use Rattle.thread_frames.specs.ThreadStack.{popped}
use Rattle.thread_frames.specs.declared.frame.StackEntry.TheVariants.{Init, Java}
use Rattle.ti_ids.specs.declared.number.ObjNo.{ObjNo}
use Rattle.ti_ids.specs.declared.number.ThreadNo.{ThreadNo}
use Rattle.ti_ids.specs.declared.value.Value.{Value}

module _ (w : Walk) where
  abbrev F : Outcome → Type 0
  F o = OutcomeFollows w.Ok w.Holds w.start o

  -- ---- the result

  abbrev ResultHolds : Site → Option (List Value) → Type 0
  ResultHolds site found = (result : List Value) → found ≡ Some result → HoldAll w.Holds site.core result

  none_holds : (site : Site) → ResultHolds site None
  none_holds site result is = absurd cc

  nothing_holds : (site : Site) → ResultHolds site (Some [])
  nothing_holds site result is = let same : [] ≡ result = cc in subst (HoldAll w.Holds site.core) same tt

  one_holds : (site : Site) (found : Option Value) → ((v : Value) → found ≡ Some v → w.Holds site.core v)
      → ResultHolds site (option_map (λ v. v ∷ []) found)
  one_holds site None h result is = absurd cc
  one_holds site (Some v) h result is = let same : v ∷ [] ≡ result = cc in subst (HoldAll w.Holds site.core) same (h v refl, tt)

  same_holds : (site : Site) (b : Bool) (found : Option (List Value)) → ResultHolds site found → ResultHolds site (if b then found else None)
  same_holds site true found h = h
  same_holds site false found h = none_holds site

  handed_holds : (site : Site) → Stood w site → (returned wanted : Option Kind) → ResultHolds site (handed_on site returned wanted)
  handed_holds site s None None = nothing_holds site
  handed_holds site s None (Some k) = none_holds site
  handed_holds site s (Some k) None = none_holds site
  handed_holds site s (Some k) (Some wanted) =
      same_holds site (is_same_kind k wanted) (option_map (λ v. v ∷ []) (kind_at k site.frame.stack 0))
      (one_holds site (kind_at k site.frame.stack 0) (λ v is. kind_holds w site s.based k 0 v is))

  -- ---- the monitor

  given_up_follows : (site : Site) → Stood w site → IsFirst w site → (monitor : Option ObjNo) (so : List Act → Outcome)
      → ((acts : List Act) → Done w site.core site.t acts → F (so acts)) → F (given_up site monitor so)
  given_up_follows site s first None so k = k [] first.none.apart.done
  given_up_follows site s first (Some o) so k =
      let leaving : Act = Changes (acts.Leaves o) in
      if_by w (owns site o) _ _ (λ is.
      let owner = owner_of w site o is in
      let here = ap (λ (ms : List ObjectMonitor). (monitor_at (record site.core { monitors = ms }) o).owner) first.none.apart.monitors in
      k (leaving ∷ []) (done_one w site.core site.t s.based.rules [] leaving first.none.apart.done
      (s.based.rules.leaves w.start o owner.0 (here ∙ owner.1)) (λ now. refl))) (λ is. tt)

  -- ---- the caller

  -- at a core whose top frames of the thread are these
  abbrev Hands : Core → ThreadNo → Option (List Act) → Type 0
  Hands now t found = (handing : List Act) → found ≡ Some handing → Follows w now handing

  caller_by : (now : Core) (t : ThreadNo) → Rules w t → (caller : MethodFrame) (rest : List StackFrame) (result : List Value) (pc : ℕ) (b : Bool)
      → can_take caller (exchange 0 result) ≡ b → frames_at now t ≡ Java caller ∷ rest → FrameHolds w.Holds now (Java caller)
      → HoldAll w.Holds now result
      → Hands now t (if b then Some (Changes (SetsTop t (changed caller (exchange 0 result) pc)) ∷ []) else None)
  caller_by now t rules caller rest result pc false can top frame h handing is = absurd cc
  caller_by now t rules caller rest result pc true can top frame h handing is =
      let g : MethodFrame = changed caller (exchange 0 result) pc in
      let same : Changes (SetsTop t g) ∷ [] ≡ handing = cc in
      subst (Follows w now) same (rules.sets_top now caller g rest top (goes_as w now caller 0 result pc frame.0 frame.1 h can), tt)

  caller_follows : (now : Core) (t : ThreadNo) → Rules w t → (caller : MethodFrame) (rest : List StackFrame) (result : List Value) (pc : Option ℕ)
      → frames_at now t ≡ Java caller ∷ rest → FrameHolds w.Holds now (Java caller) → HoldAll w.Holds now result
      → Hands now t (caller_goes_on t caller result pc)
  caller_follows now t rules caller rest result None top frame h handing is = absurd cc
  caller_follows now t rules caller rest result (Some pc) top frame h handing is =
      caller_by now t rules caller rest result pc (can_take caller (exchange 0 result)) refl top frame h handing is

  handed_follows : (behind_call : MethodFrame → Option ℕ) (now : Core) (t : ThreadNo) → Rules w t → (result : List Value) (frames : List StackFrame)
      → frames_at now t ≡ frames → AllByRecursion (FrameHolds w.Holds now) frames → HoldAll w.Holds now result
      → Hands now t (handed_to behind_call t result frames)
  handed_follows behind_call now t rules result [] top frames h handing is = let same : [] ≡ handing = cc in subst (Follows w now) same tt
  handed_follows behind_call now t rules result (Init class ∷ rest) top frames h handing is =
      let same : [] ≡ handing = cc in subst (Follows w now) same tt
  handed_follows behind_call now t rules result (Java caller ∷ rest) top frames h handing is =
      caller_follows now t rules caller rest result (behind_call caller) top frames.0 h handing is

  frame_later : (core now : Core) → ((v : Value) → w.Holds core v → w.Holds now v) → (f : StackFrame) → FrameHolds w.Holds core f
      → FrameHolds w.Holds now f
  frame_later core now later (Java f) h =
      (all_held (w.Holds core) (w.Holds now) f.locals later h.0, all_held (w.Holds core) (w.Holds now) f.stack.entries later h.1)
  frame_later core now later (Init class) h = tt

  -- ---- the whole

  popping_follows : (behind_call : MethodFrame → Option ℕ) (site : Site) → Stood w site → (m : MethodName) (result : List Value) (handing : List Act)
      → HoldAll w.Holds site.core result → handed_to behind_call site.t result (beneath site) ≡ Some handing → (leaves : List Act)
      → Done w site.core site.t leaves → F (popping site m handing leaves)
  popping_follows behind_call site s m result handing h is leaves d =
      let rules = s.based.rules in
      let mid : Core = after w.start leaves in
      let next : Core = behind mid (Changes (Pops site.t)) in
      let later : (v : Value) → w.Holds site.core v → w.Holds next v =
      λ v k. rules.later mid (Changes (Pops site.t)) v (rules.pops mid) (d.held v k) in
      let below : frames_at next site.t ≡ beneath site = frames_changed mid site.t popped refl ∙ ap popped (d.frames ∙ s.top) in
      let all : AllByRecursion (FrameHolds w.Holds site.core) (Java site.frame ∷ beneath site) =
      subst (AllByRecursion (FrameHolds w.Holds site.core)) s.top (frames_hold w.Holds site.core s.whole site.t) in
      let frames : AllByRecursion (FrameHolds w.Holds next) (beneath site) =
      all_held (FrameHolds w.Holds site.core) (FrameHolds w.Holds next) (beneath site) (frame_later site.core next later) all.1 in
      let values : HoldAll w.Holds next result = all_held (w.Holds site.core) (w.Holds next) result later h in
      let handed : Follows w next handing = handed_follows behind_call next site.t rules result (beneath site) below frames values handing is in
      let pops : Follows w mid (Changes (Pops site.t) ∷ handing) = (rules.pops mid, handed) in
      let first : List Act = leaves ++ Changes (Pops site.t) ∷ handing in
      let events : List Event = MethodExit site.t m Returned ∷ FramePop site.t m Returned site.frame.pin.birth ∷ [] in
      follow_both w w.start first (exit_events site m) (follow_both w w.start leaves (Changes (Pops site.t) ∷ handing) d.follows pops)
      (raised_all w site.t rules (after w.start first) events)

  returned_follows : (behind_call : MethodFrame → Option ℕ) (site : Site) → Stood w site → IsFirst w site → (returned : Option Kind)
      → F (returns behind_call site returned)
  returned_follows behind_call site s first returned =
      misfit_follows w (name_of_method site.classes site.frame.method) _ (λ m.
      misfit_by w (result_of site returned m) _ (λ result has.
      misfit_by w (handed_to behind_call site.t result (beneath site)) _ (λ handing is.
      given_up_follows site s first site.frame.pin.monitor _
      (popping_follows behind_call site s m result handing (handed_holds site s returned (result_kind m.desc) result has) is))))

  pub return_follows : (behind_call : MethodFrame → Option ℕ) (site : Site) → Stood w site → IsFirst w site → (i : Instr)
      → F (return_outcome behind_call site i)
  return_follows behind_call site s first (instr.Simple (simple.Return k)) = returned_follows behind_call site s first (Some k)
  return_follows behind_call site s first (instr.Simple simple.ReturnVoid) = returned_follows behind_call site s first None
  return_follows behind_call site s first _ = tt
