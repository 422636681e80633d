-- A step changes the code of no frame that lives before and after it.
use Rattle.std.proofs.Common.{◌≡◌, ℕ, zero, suc, List, [], ◌∷◌, ◌++◌, Some, refl, ap, subst}
use Rattle.std.specs.Prelude.{slice_get}
use Rattle.std.specs.List.{AllByRecursion}
use Rattle.std.specs.Option.{option_map_or}
use Rattle.ti_ids.specs.declared.actor.Actor.{Actor}
use Rattle.jv_names.specs.Names.{Name}
use Rattle.machine_state.specs.Core.{CoreClass, MethodFrame, StackFrame, Thread, frames_at}
use Rattle.machine_state.specs.Jobs.{at_number}
use Rattle.thread_frames.specs.declared.frame.StackEntry.TheVariants.{Java}
use Rattle.machine_state.specs.FrameCode.{code}
use Rattle.machine_state.specs.Laws.{names_of, IsBorn}
use Rattle.machine_state.specs.Trace.{Trace}
use Rattle.machine_state.specs.Acts.{State}
use Rattle.machine_state.proofs.KeepingCode.{keeps_code}
use Rattle.machine_steps.specs.World.{World}
use Rattle.machine_steps.specs.Replay.{step, state}
use Rattle.machine_steps.specs.Laws.{CodeStays, WasBorn, AreBorn}
use Rattle.machine_steps.proofs.Stepping.{adds_records, classes_stay}
use Rattle.machine_steps.proofs.Births.{frames_are_born}

-- classes whose names are these and those are some of the ones, and some of the others
pub record Split (new old : List Name) (classes : List CoreClass) : Type 0 where
  pub first : List CoreClass
  pub rest : List CoreClass
  pub whole : classes ≡ first ++ rest
  pub named : names_of rest ≡ old

pub split : (new old : List Name) (classes : List CoreClass) → names_of classes ≡ new ++ old → Split new old classes
split [] old classes e = record { first = []; rest = classes; whole = refl; named = e }
split (n ∷ new) old [] e = absurd cc
split (n ∷ new) old (c ∷ classes) e =
    let more = split new old classes (let rest : names_of classes ≡ new ++ old = cc in rest) in
    record { first = c ∷ more.first; rest = more.rest; whole = ap (λ (l : List CoreClass). c ∷ l) more.whole; named = more.named }

pub born_stays : (w : World) (s : State) (actor : Actor) (f : MethodFrame) → IsBorn s.trace s.core.classes f
    → code w.job w.turns (step w s actor).trace (step w s actor).core.classes f ≡ code w.job w.turns s.trace s.core.classes f
born_stays w s actor f born =
    let grown = adds_records w s actor in let named = classes_stay w s actor in
    let after = step w s actor in
    let parts = split named.new (names_of s.core.classes) after.core.classes named.grown in
    rw (grown.grown, parts.whole) (keeps_code w.job w.turns s.trace grown.more s.core.classes parts.first parts.rest f born parts.named)

-- ---- the frames that a thread has were born

frame_born : (trace : Trace) (classes : List CoreClass) (frames : List StackFrame) (place : ℕ) (f : MethodFrame)
    → AllByRecursion (WasBorn trace classes) frames
    → slice_get frames place ≡ Some (Java f) → IsBorn trace classes f
frame_born trace classes [] place f h e = absurd cc
frame_born trace classes (g ∷ frames) zero f h e = let same : g ≡ Java f = cc in subst (WasBorn trace classes) same h.0
frame_born trace classes (g ∷ frames) (suc place) f h e = frame_born trace classes frames place f h.1 e

thread_born : (trace : Trace) (classes : List CoreClass) (threads : List Thread) (place : ℕ) → AreBorn trace classes threads
    → AllByRecursion (WasBorn trace classes) (option_map_or (λ t. t.frames) (slice_get threads place) [])
thread_born trace classes [] place h = tt
thread_born trace classes (t ∷ threads) zero h = h.0
thread_born trace classes (t ∷ threads) (suc place) h = thread_born trace classes threads place h.1

number_born : (trace : Trace) (classes : List CoreClass) (threads : List Thread) (number : ℕ) → AreBorn trace classes threads
    → AllByRecursion (WasBorn trace classes) (option_map_or (λ t. t.frames) (at_number threads number) [])
number_born trace classes threads zero h = tt
number_born trace classes threads (suc place) h = thread_born trace classes threads place h

pub code_stays : CodeStays
code_stays w schedule actor t place f at =
    let s = state w schedule in
    let born = number_born s.trace s.core.classes s.core.threads t.0 (frames_are_born w schedule) in
    born_stays w s actor f (frame_born s.trace s.core.classes (frames_at s.core t) place f born at)
