-- Where a thread stands whose instruction is announced: its top frame is the same, but for that.
use Rattle.instruction_effect.proofs.ActRules.{Stands}
use Rattle.instruction_effect.proofs.FollowingCores.{frames_changed, thread_changed}
use Rattle.instruction_effect.specs.Arguments.{is_deep}
use Rattle.link_versions.specs.Classes.{Class}
use Rattle.machine_state.specs.Acts.{Changes, SetsTop, State, acted, changed, going_on, raises}
use Rattle.machine_state.specs.Core.{Core, MethodFrame, StackFrame, Thread, frames_at, thread_at}
use Rattle.machine_state.specs.Trace.{Event}
use Rattle.machine_steps.specs.Announcing.{announced, announcing, pre_events}
use Rattle.machine_steps.specs.Sites.{Stop}
use Rattle.machine_steps.specs.Threads.{announced_state}
use Rattle.machine_steps.specs.World.{World}
use Rattle.std.proofs.Common.{List, Option, Some, [], ap, drop, map, refl, subst, sym, ◌∙◌, ◌∷◌, ◌≡◌}
use Rattle.std.specs.Option.{option_map_or}
use Rattle.std.specs.Prelude.{option_map}
use Rattle.thread_frames.specs.declared.frame.StackEntry.TheVariants.{Java}
use Rattle.ti_ids.specs.declared.actor.Actor.TheVariants as actors
use Rattle.ti_ids.specs.declared.number.ThreadNo.{ThreadNo}
use Rattle.ti_ids.specs.declared.state.Announced.{Announced}
use Rattle.ti_ids.specs.declared.state.Announced.TheVariants.{Caught, New, No, Yes}

module _ (w : World) (s : State) (classes : List Class) (t : ThreadNo) (thread : Thread) (found : thread_at s.core t ≡ Some thread) (f : MethodFrame)
    (below : List StackFrame) (top : thread.frames ≡ Java f ∷ below) where
  abbrev StandsIn : List Thread → Type 0
  StandsIn threads = Stands (record s.core { threads = threads }) t thread (announced f)

  stack_is : frames_at s.core t ≡ Java f ∷ below
  stack_is = ap (λ (x : Option Thread). option_map_or (λ u. u.frames) x []) found ∙ top

  stands_by : (core : Core) → frames_at core t ≡ Java (announced f) ∷ below
      → ((u : Thread) → thread_at core t ≡ Some u → thread.object ≡ u.object) → Stands core t thread (announced f)
  stands_by core on object = record {
    top = subst (λ (frames : List StackFrame). frames_at core t ≡ Java (announced f) ∷ drop 1 frames) (sym top) on;
    deep = λ words.
        ap (λ (frames : List StackFrame). is_deep frames words) on
        ∙ subst (λ (frames : List StackFrame). is_deep (Java f ∷ below) words ≡ is_deep frames words) (sym top) refl;
    object = object;
  }

  same_object : (x u : Thread) → Some x ≡ Some u → x.object ≡ u.object
  same_object x u is = let same : x ≡ u = cc in ap (λ (y : Thread). y.object) same

  abbrev marks : Thread → Thread
  marks u = record u { frames = going_on (announced f) u.frames }

  abbrev marked : Core
  marked = changed 0 (SetsTop t (announced f)) s.core

  raised_threads : (events : List Event) (now : State) → (announced_state w now t (map raises events)).core.threads ≡ now.core.threads
  raised_threads [] now = refl
  raised_threads (e ∷ events) now = raised_threads events (acted w.job (actors.Thread t) 0 now (raises e))

  marked_stands : Stands marked t thread (announced f)
  marked_stands =
      stands_by marked (frames_changed s.core t (going_on (announced f)) refl ∙ ap (going_on (announced f)) stack_is) (λ u is.
      same_object (marks thread) u (ap (option_map marks) (sym found) ∙ sym (thread_changed s.core t marks) ∙ is))

  rebuilt : (core : Core) → StandsIn core.threads → Stands core t thread (announced f)
  rebuilt core h = record { top = h.top; deep = h.deep; object = h.object }

  begun_stands : (events : List Event)
      → Stands (announced_state w s t (Changes (SetsTop t (announced f)) ∷ map raises events)).core t thread (announced f)
  begun_stands events =
      let begun : State = acted w.job (actors.Thread t) 0 s (Changes (SetsTop t (announced f))) in
      let after : State = announced_state w begun t (map raises events) in
      let h = marked_stands in
      rebuilt after.core (subst StandsIn (sym (raised_threads events begun)) (record { top = h.top; deep = h.deep; object = h.object }))

  pub announced_stands : (stop : Option Stop) (a : Announced) → f.announced ≡ a
      → Stands (announced_state w s t (announcing w s classes t f stop a)).core t thread (announced f)
  announced_stands stop Yes is =
      stands_by s.core (stack_is ∙ ap (λ (x : Announced). Java (record f { announced = x }) ∷ below) is)
      (λ u at. same_object thread u (sym found ∙ at))
  announced_stands stop New is = begun_stands (pre_events w s classes t f stop)
  announced_stands stop Caught is = begun_stands (pre_events w s classes t f stop)
  announced_stands stop No is = begun_stands (pre_events w s classes t f stop)
