-- The acts of a call that pushes a frame follow one another as the rules say.
use Rattle.instruction_effect.proofs.ActRules.{HoldAll, IsPushed}
use Rattle.instruction_effect.proofs.FollowingCores.{Done, Follows, Has, Rules, Still, Walk, after, after_both, done_more, follow_both, held_behind}
use Rattle.instruction_effect.proofs.FollowingForms.{Based, OutcomeFollows, all_after, all_both, all_held, class_object_follows, entering_follows, has_found, if_by, if_follows, linked_follows, misfit_by, all_replicated}
use Rattle.instruction_effect.specs.Arguments.{filled, frame_of, is_deep, is_refused, newest_body, overflows, places_of}
use Rattle.instruction_effect.specs.Invoking.{Call, calls, entered_class, entered_receiver, framed, pushed, unselected, with_monitor}
use Rattle.instruction_effect.specs.Monitors.{entering}
use Rattle.instruction_effect.specs.Outcomes.{Outcome, Site}
use Rattle.class_tree.specs.declared.body.Code.{Code}
use Rattle.link_versions.specs.Members.{method_has}
use Rattle.link_versions.specs.declared.fault.LinkFault.{LinkFault}
use Rattle.machine_state.specs.Acts.{Act, Changes, Pushes}
use Rattle.machine_state.specs.Core.{Core, MethodFrame, frames_at}
use Rattle.thread_frames.specs.Frame.{frame_words}
use Rattle.thread_frames.specs.Operands.{value_words, words_of}
use Rattle.std.proofs.Common.{List, None, Option, Some, [], arith, drop, false, length, refl, subst, sym, ap, suc, zero, ℕ, ◌++◌, ◌+◌, ◌-◌, ◌∙◌, ◌∷◌, ◌≡◌, ◌≤◌, length-append}
use Rattle.std.proofs.lemmas.Bool.{ltb-false}
use Rattle.std.proofs.lemmas.List.{length-replicate}
use Rattle.std.proofs.lemmas.List.Sums.{sum_by-cons}
use Rattle.std.specs.Prelude.{flat_map, pos, replicate}
use Rattle.ti_ids.specs.declared.number.ObjNo.{ObjNo}
use Rattle.ti_ids.specs.declared.number.ThreadNo.{ThreadNo}
use Rattle.ti_ids.specs.declared.value.Value.{Value}
use Rattle.link_versions.specs.declared.fault.LinkFault.TheVariants as faults
use Rattle.class_tree.specs.declared.access.Flag.TheVariants as flags
use Rattle.ti_ids.specs.declared.value.Value.TheVariants as value

-- ---- a frame that is pushed

filled_length : (count : ℕ) (places : List Value) → length places ≤ count → length (filled count places) ≡ count
filled_length count places within =
    let zero_int : Value = value.Int (pos 0) in
    length-append places (replicate (count - length places) zero_int)
    ∙ ap (λ (n : ℕ). length places + n) (length-replicate (count - length places) zero_int)
    ∙ (let all : length places + (count - length places) ≡ count = omega arith in all)

pub words_dropped : (n : ℕ) (values : List Value) → words_of (drop n values) ≤ words_of values
words_dropped zero values = omega arith
words_dropped (suc n) [] = omega arith
words_dropped (suc n) (v ∷ values) =
    let rest : words_of (drop n values) ≤ words_of values = words_dropped n values in
    let more : words_of (drop n values) ≤ words_of (v ∷ values) = omega (arith, rest, sum_by-cons value_words v values) in more

module _ (w : Walk) where
  abbrev F : Outcome → Type 0
  F o = OutcomeFollows w.Ok w.Holds w.start o

  -- ---- values

  placed : (t : ThreadNo) → Rules w t → (now : Core) (v : Value) → w.Holds now v → HoldAll w.Holds now (places_of v)
  placed t rules now (value.Int n) h = (h, tt)
  placed t rules now (value.Long n) h = (h, (rules.int now (pos 0), tt))
  placed t rules now (value.Ref r) h = (h, tt)

  all_placed : (t : ThreadNo) → Rules w t → (now : Core) (values : List Value) → HoldAll w.Holds now values
      → HoldAll w.Holds now (flat_map places_of values)
  all_placed t rules now [] h = tt
  all_placed t rules now (v ∷ values) h =
      all_both (w.Holds now) (places_of v) (flat_map places_of values) (placed t rules now v h.0) (all_placed t rules now values h.1)

  -- ---- a call that pushes a frame

  -- What takes the arguments follows whatever was done, and leaves as many words to the frames.
  pub record IsTaken (site : Site) (acts taking : List Act) : Type 0 where
    pub follows : Follows w (after w.start acts) taking
    pub deep : (words : ℕ) → is_deep (frames_at (after (after w.start acts) taking) site.t) words ≡ is_deep (frames_at site.core site.t) words

  abbrev pub Takes : Site → List Act → Type 0
  Takes site taking = (acts : List Act) → Done w site.core site.t acts → IsTaken site acts taking

  pub record IsCalled (site : Site) (call : Call) : Type 0 where
    pub before : Still w site.core site.t call.before
    pub taken : Takes site call.taking
    pub arguments : HoldAll w.Holds site.core call.arguments

  -- what is known of the frame but its monitor
  pub record IsFrame (site : Site) (f : MethodFrame) : Type 0 where
    pub class : f.class ≡ f.method.class
    pub body : Code
    pub newest : newest_body w.classes f.method ≡ Some body
    pub locals : length f.locals ≡ body.max_locals
    pub room : f.stack.room ≡ body.max_stack
    pub empty : f.stack.entries ≡ []
    pub local_values : HoldAll w.Holds site.core f.locals
    pub fits : is_deep site.thread.frames (frame_words f) ≡ false

  pushed_follows : (site : Site) → Based w site → (taking before acts : List Act) (f : MethodFrame)
      → Takes site taking → IsFrame site f → Done w site.core site.t (before ++ acts)
      → w.Holds (after w.start (before ++ acts)) (value.Ref f.pin.monitor)
      → Follows w w.start (before ++ acts ++ taking ++ Changes (Pushes site.t f) ∷ [])
  pushed_follows site b taking before acts f taken frame d monitor =
      let first : List Act = before ++ acts in
      let mid : Core = after w.start first in
      let now : Core = after mid taking in
      let push : List Act = Changes (Pushes site.t f) ∷ [] in
      let t = taken first d in
      let same : after w.start (first ++ taking) ≡ now = after_both w.start first taking in
      let later : (v : Value) → w.Holds mid v → w.Holds now v = λ v h. held_behind w site.t b.rules taking mid v t.follows h in
      let is : IsPushed w.Holds w.classes now f = record {
        class = frame.class;
        body = frame.body;
        newest = frame.newest;
        locals = frame.locals;
        room = frame.room;
        empty = frame.empty;
        local_values = all_held (w.Holds mid) (w.Holds now) f.locals later (all_after w site.core site.t first f.locals d frame.local_values);
        monitor = later (value.Ref f.pin.monitor) monitor;
      } in
      let ok : w.Ok now (Changes (Pushes site.t f)) =
      b.rules.pushes now f (t.deep (frame_words f) ∙ b.deep (frame_words f) ∙ frame.fits) is in
      follow_both w w.start (first ++ taking) push (follow_both w w.start first taking d.follows t.follows)
      (subst (λ (c : Core). Follows w c push) (sym same) (ok, tt))

  with_object : (site : Site) (f : MethodFrame) (o : ObjNo) → IsFrame site f → IsFrame site (with_monitor o f)
  with_object site f o frame = record {
    class = frame.class;
    body = frame.body;
    newest = frame.newest;
    locals = frame.locals;
    room = frame.room;
    empty = frame.empty;
    local_values = frame.local_values;
    fits = frame.fits;
  }

  -- behind the acts that enter the monitor of an object that is there
  entered_follows : (site : Site) → Based w site → (call : Call) (f : MethodFrame) (o : ObjNo) → Takes site call.taking → IsFrame site f
      → Has w site.core site.t call.before o → F (entering site o (pushed site call (with_monitor o f)))
  entered_follows site b call f o taken frame has =
      entering_follows w site b call.before o (pushed site call (with_monitor o f)) has (λ more entered.
      pushed_follows site b call.taking call.before more (with_monitor o f) taken (with_object site f o frame) entered.0 entered.1)

  receiver_follows : (site : Site) → Based w site → (call : Call) (f : MethodFrame) (values : List Value) → IsCalled site call → IsFrame site f
      → HoldAll w.Holds site.core values → F (entered_receiver site call f values)
  receiver_follows site b call f (value.Ref (Some o) ∷ values) c frame h =
      entered_follows site b call f o c.taken frame (has_found w site b call.before o c.before h.0)
  receiver_follows site b call f _ c frame h = tt

  class_follows : (site : Site) → Based w site → (call : Call) (f : MethodFrame) → IsCalled site call → IsFrame site f
      → F (entered_class site call f)
  class_follows site b call f c frame =
      class_object_follows w site b call.before call.method.class
      (λ made o. entering site o (pushed site (record call { before = made }) (with_monitor o f))) c.before (λ made o has.
      entered_follows site b (record call { before = made }) f o c.taken frame has)

  framed_follows : (site : Site) → Based w site → (call : Call) (f : MethodFrame) → IsCalled site call
      → (is_deep site.thread.frames (frame_words f) ≡ false → IsFrame site f) → f.pin.monitor ≡ None → F (framed site call f)
  framed_follows site b call f c is none =
      if_by w (is_refused site.thread.frames f) _ _ (λ deep. c.before.apart.done.follows) (λ fits.
      let frame = is fits in
      if_follows w (method_has site.classes flags.Synchronized call.method) _ _
      (if_follows w (method_has site.classes flags.Static call.method) _ _ (class_follows site b call f c frame)
      (receiver_follows site b call f call.arguments c frame c.arguments))
      (pushed_follows site b call.taking call.before [] f c.taken frame (done_nothing site b call.before c.before.apart.done)
      (subst (λ (r : Option ObjNo). w.Holds (after w.start (call.before ++ [])) (value.Ref r)) (sym none) (b.rules.null _))))
    where
      done_nothing : (site : Site) → Based w site → (acts : List Act) → Done w site.core site.t acts → Done w site.core site.t (acts ++ [])
      done_nothing site b acts d = done_more w site.core site.t b.rules acts [] d tt tt

  body_follows : (site : Site) → Based w site → (call : Call) (body : Code) → IsCalled site call → newest_body site.classes call.method ≡ Some body
      → overflows body call.arguments ≡ false → F (framed site call (frame_of call.method body call.arguments))
  body_follows site b call body c is small =
      let places : List Value = flat_map places_of call.arguments in
      let zero_int : Value = value.Int (pos 0) in
      let within : length places ≤ body.max_locals = ltb-false body.max_locals (length places) small in
      let values : HoldAll w.Holds site.core (filled body.max_locals places) =
      all_both (w.Holds site.core) places (replicate (body.max_locals - length places) zero_int)
      (all_placed site.t b.rules site.core call.arguments c.arguments)
      (all_replicated (w.Holds site.core) (body.max_locals - length places) zero_int (b.rules.int site.core (pos 0))) in
      framed_follows site b call (frame_of call.method body call.arguments) c (λ fits. record {
        class = refl;
        body = body;
        newest = b.over call.method body is;
        locals = filled_length body.max_locals places within;
        room = refl;
        empty = refl;
        local_values = values;
        fits = fits;
      }) refl

  pub calls_follow : (site : Site) → Based w site → (call : Call) → IsCalled site call → F (calls site call)
  calls_follow site b call c =
      linked_follows w site call.method.class _ (misfit_by w (newest_body site.classes call.method) _ (λ body is.
      if_by w (overflows body call.arguments) _ _ (λ many. tt) (λ small. body_follows site b call body c is small)))

  pub unselected_follows : (acts : List Act) (fault : LinkFault) → Follows w w.start acts → F (unselected acts fault)
  unselected_follows acts faults.Incompatible h = h
  unselected_follows acts _ h = h
