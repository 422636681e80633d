-- Each act that a thread's step may hold keeps stacks within their limits and monitors counted.
use Rattle.std.proofs.Common.{◌≡◌, ◌∙◌, ◌≤◌, ℕ, ◌+◌, Bool, true, false, cond, List, [], ◌∷◌, ◌++◌, drop, length, map, Option, Some, ap, refl, sym, subst, arith}
use Rattle.std.specs.Prelude.{nat_le}
use Rattle.std.specs.List.{AllByRecursion}
use Rattle.std.specs.Option.{option_map_or}
use Rattle.std.proofs.lemmas.List.{length-map}
use Rattle.std.proofs.lemmas.List.Sums.{sum_by-cons}
use Rattle.ti_ids.specs.declared.number.ThreadNo.{ThreadNo}
use Rattle.ti_ids.specs.declared.number.ObjNo.{ObjNo}
use Rattle.monitor_table.specs.Monitors.{IsCounted, Monitor, entered, gone_to_wait, has_wait, left, taken_back, with_all_notified, with_one_notified}
use Rattle.monitor_table.proofs.Counted.{IsCounted-left, IsKept-entered, IsKept-gone_to_wait, IsKept-taken_back, entries-owned}
use Rattle.thread_frames.specs.Frame.{entry_words, frame_words}
use Rattle.thread_frames.specs.Operands.{words_of}
use Rattle.thread_frames.specs.ThreadStack.{most_frames, most_words, stack_words}
use Rattle.thread_frames.specs.declared.frame.StackEntry.TheVariants.{Java, Init}
use Rattle.machine_state.specs.Core.{Core, MethodFrame, StackFrame, Thread, frames_at, is_of_classes, monitor_at, most_threads, thread_at}
use Rattle.machine_state.specs.Births.{unborn, unborn_frame, unborn_thread}
use Rattle.machine_state.specs.Acts.{Act, Change, Changes, Enters, GoesToWait, Leaves, MakesThread, Notes, Notifies, NotifiesAll, Pops, Pushes, PushesInit, SetsActivity, SetsState, SetsTop, TakesBack, born_at, changed, going_on, new_thread, with_born}
use Rattle.instruction_effect.specs.Arguments.{is_deep}
use Rattle.instruction_effect.proofs.ActRules.{ActRules, GoesOnAs, behind}
use Rattle.link_versions.specs.Classes.{Class}
use Rattle.instruction_effect.proofs.AllHold.{Anything, all_hold}
use Rattle.machine_steps.proofs.ChangedThreads.{with_each, with_found}
use Rattle.machine_steps.proofs.CountedMonitors.{all_notified_counted, monitors_counted, one_notified_counted}
use Rattle.machine_steps.proofs.FittingSteps.{append_all}
use Rattle.machine_steps.proofs.PushesWithin.{push_within}
use Rattle.machine_steps.proofs.StepRules.{StepRules, seen}
use Rattle.machine_steps.specs.World.{World}
use Rattle.machine_steps.specs.WithinLimits.{AreCounted, HasRoom, IsWithin}

-- ---- what is asked of an act, by the core that it changes

-- The frame goes on as the top, where that is a method's: it takes as many words, and its operands have room where those of the top have.
abbrev pub TakesPlace : List StackFrame → MethodFrame → Type 0
TakesPlace [] g = Unit {0}
TakesPlace (Java f ∷ below) g =
    (frame_words g ≡ frame_words f) × (words_of f.stack.entries ≤ f.stack.room → words_of g.stack.entries ≤ g.stack.room)
TakesPlace (Init class ∷ below) g = Unit {0}

abbrev pub KeepsLimits : Core → Act → Type 0
KeepsLimits now (Changes (SetsTop t g)) = TakesPlace (frames_at now t) g
KeepsLimits now (Changes (Pushes t f)) = (is_deep (frames_at now t) (frame_words f) ≡ false) × (f.stack.entries ≡ [])
KeepsLimits now (Changes (PushesInit t class)) = is_deep (frames_at now t) 0 ≡ false
KeepsLimits now (Changes (GoesToWait o t)) = (owner : ThreadNo) × ((monitor_at now o).owner ≡ Some owner)
KeepsLimits now (Changes (TakesBack o t)) = has_wait t (monitor_at now o).notified ≡ true
KeepsLimits now (Changes c) = Unit {0}
KeepsLimits now (Notes what) = Unit {0}

-- ---- frames

as_many_words : (f g : StackFrame) (below : List StackFrame) → entry_words g ≡ entry_words f → stack_words (g ∷ below) ≡ stack_words (f ∷ below)
as_many_words f g below same =
    sum_by-cons entry_words g below ∙ ap (λ (n : ℕ). n + stack_words below) same ∙ sym (sum_by-cons entry_words f below)

going_within : (g : MethodFrame) (frames : List StackFrame) → TakesPlace frames g → IsWithin frames → IsWithin (going_on g frames)
going_within g [] fits h = h
going_within g (Java f ∷ below) fits h =
    let top = record g { class = f.class; method = f.method; pin = f.pin } in
    record {
      limits = record {
        counted = refl;
        frames = h.limits.frames;
        words_within = subst (λ (n : ℕ). n ≤ most_words) (sym (as_many_words (Java f) (Java top) below fits.0)) h.limits.words_within;
      };
      room = (fits.1 h.room.0, h.room.1);
    }
going_within g (Init class ∷ below) fits h = h

popped_within : (frames : List StackFrame) → IsWithin frames → IsWithin (drop 1 frames)
popped_within [] h = h
popped_within (f ∷ below) h = record {
  limits = record {
    counted = refl;
    frames = let all : length (f ∷ below) ≤ most_frames = h.limits.frames in omega (arith, all);
    words_within =
        let all : stack_words (f ∷ below) ≤ most_words = h.limits.words_within in omega (arith, all, sum_by-cons entry_words f below);
  };
  room = h.room.1;
}

pushed_within : (f : MethodFrame) (frames : List StackFrame) (there : Bool) → is_deep frames (frame_words f) ≡ false → f.stack.entries ≡ []
    → IsWithin frames → IsWithin (cond there (Java (born_at 0 f) ∷ frames) frames)
pushed_within f frames true fits none h = record {
  limits = push_within frames (Java (born_at 0 f)) fits h.limits;
  room = (rw none (omega arith), h.room);
}
pushed_within f frames false fits none h = h

init_within : (e : StackFrame) (frames : List StackFrame) → is_deep frames (entry_words e) ≡ false → HasRoom e → IsWithin frames
    → IsWithin (e ∷ frames)
init_within e frames fits room h = record { limits = push_within frames e fits h.limits; room = (room, h.room) }

none_within : IsWithin []
none_within = record { limits = record { counted = refl; frames = omega arith; words_within = omega arith }; room = tt }

-- ---- threads

abbrev pub AreWithin : List Thread → Type 0
AreWithin threads = AllByRecursion (λ t. IsWithin t.frames) threads

made_within : (object : ObjNo) (threads : List Thread) (full : Bool) → AreWithin threads
    → AreWithin (cond full threads (threads ++ new_thread object ∷ []))
made_within object threads true h = h
made_within object threads false h = append_all (λ t. IsWithin t.frames) threads (new_thread object ∷ []) h (none_within, tt)

-- what is said of the frames of a thread that was found
found_frames : (P : List StackFrame → Type 0) (core : Core) (t : ThreadNo) (u : Thread) → thread_at core t ≡ Some u → P (frames_at core t)
    → P u.frames
found_frames P core t u is h = subst (λ (found : Option Thread). P (option_map_or (λ thread. thread.frames) found [])) is h

abbrev One : Thread → Type 0
One t = IsWithin t.frames

change_within : (c : Change) (core : Core) → KeepsLimits core (Changes c) → AreWithin core.threads → AreWithin (changed 0 c core).threads
change_within (SetsTop t g) core fits h =
    with_found One core t (λ u. record u { frames = going_on g u.frames })
    (λ u is k. going_within g u.frames (found_frames (λ frames. TakesPlace frames g) core t u is fits) k) h
change_within (Pops t) core fits h = with_each One core t (λ u. record u { frames = drop 1 u.frames }) (λ u k. popped_within u.frames k) h
change_within (Pushes t f) core fits h =
    with_found One core t (λ u. record u { frames = with_born 0 core.classes f u.frames })
    (λ u is k. pushed_within f u.frames (is_of_classes core.classes f)
    (found_frames (λ frames. is_deep frames (frame_words f) ≡ false) core t u is fits.0) fits.1 k) h
change_within (PushesInit t class) core fits h =
    with_found One core t (λ u. record u { frames = Init class ∷ u.frames })
    (λ u is k. init_within (Init class) u.frames (found_frames (λ frames. is_deep frames 0 ≡ false) core t u is fits) tt k) h
change_within (SetsState t state) core fits h = with_each One core t (λ u. record u { state = state }) (λ u k. k) h
change_within (SetsActivity t activity) core fits h = with_each One core t (λ u. record u { activity = activity }) (λ u k. k) h
change_within (MakesThread object) core fits h = made_within object core.threads (nat_le most_threads (length core.threads)) h
change_within c core fits h = h

-- ---- monitors

-- one that is owned has an entry, whoever gives it up
waits_counted : (t owner : ThreadNo) (m : Monitor) → m.owner ≡ Some owner → IsCounted m → IsCounted (gone_to_wait t m)
waits_counted t owner m owned h =
    let own : IsCounted (record m { owner = Some t }) =
    record { entries = entries-owned m owner owned h; notified = h.notified; waiting = h.waiting } in
    (IsKept-gone_to_wait t (record m { owner = Some t }) refl own).counted

change_counted : (c : Change) (core : Core) → KeepsLimits core (Changes c) → AreCounted core.monitors → AreCounted (changed 0 c core).monitors
change_counted (Enters o t) core fits h = monitors_counted (entered t) o core.monitors (λ k. (IsKept-entered t (monitor_at core o) k).counted) h
change_counted (Leaves o) core fits h = monitors_counted left o core.monitors (λ k. IsCounted-left (monitor_at core o) k) h
change_counted (GoesToWait o t) core fits h =
    monitors_counted (gone_to_wait t) o core.monitors (λ k. waits_counted t fits.0 (monitor_at core o) fits.1 k) h
change_counted (Notifies o) core fits h = monitors_counted with_one_notified o core.monitors (λ k. one_notified_counted (monitor_at core o) k) h
change_counted (NotifiesAll o) core fits h = monitors_counted with_all_notified o core.monitors (λ k. all_notified_counted (monitor_at core o) k) h
change_counted (TakesBack o t) core fits h =
    monitors_counted (taken_back t) o core.monitors (λ k. (IsKept-taken_back t (monitor_at core o) fits k).counted) h
change_counted c core fits h = h

-- ---- the core

-- what is kept of a core
pub record IsLimited (core : Core) : Type 0 where
  pub stacks : AreWithin core.threads
  pub monitors : AreCounted core.monitors

pub keeps_limits : (now : Core) (a : Act) → KeepsLimits now a → IsLimited now → IsLimited (behind now a)
keeps_limits now (Changes c) fits h =
    record { stacks = change_within c now fits h.stacks; monitors = change_counted c now fits h.monitors }
keeps_limits now (Notes what) fits h = h

-- ---- births and queues are looked at nowhere

unborn_words : (frames : List StackFrame) → stack_words (map unborn_frame frames) ≡ stack_words frames
unborn_words [] = refl
unborn_words (Java f ∷ below) =
    sum_by-cons entry_words (Java (born_at 0 f)) (map unborn_frame below) ∙ ap (λ (n : ℕ). frame_words f + n) (unborn_words below)
    ∙ sym (sum_by-cons entry_words (Java f) below)
unborn_words (Init class ∷ below) =
    sum_by-cons entry_words (Init class) (map unborn_frame below)
    ∙ ap (λ (n : ℕ). 0 + n) (unborn_words below) ∙ sym (sum_by-cons entry_words (Init class) below)

room_unborn : (frames : List StackFrame) → AllByRecursion HasRoom frames → AllByRecursion HasRoom (map unborn_frame frames)
room_unborn [] h = tt
room_unborn (Java f ∷ below) h = (h.0, room_unborn below h.1)
room_unborn (Init class ∷ below) h = (tt, room_unborn below h.1)

room_born : (frames : List StackFrame) → AllByRecursion HasRoom (map unborn_frame frames) → AllByRecursion HasRoom frames
room_born [] h = tt
room_born (Java f ∷ below) h = (h.0, room_born below h.1)
room_born (Init class ∷ below) h = (tt, room_born below h.1)

within_unborn : (frames : List StackFrame) → IsWithin frames → IsWithin (map unborn_frame frames)
within_unborn frames h = record {
  limits = record {
    counted = refl;
    frames = subst (λ (n : ℕ). n ≤ most_frames) (sym (length-map frames unborn_frame)) h.limits.frames;
    words_within = subst (λ (n : ℕ). n ≤ most_words) (sym (unborn_words frames)) h.limits.words_within;
  };
  room = room_unborn frames h.room;
}

within_born : (frames : List StackFrame) → IsWithin (map unborn_frame frames) → IsWithin frames
within_born frames h = record {
  limits = record {
    counted = refl;
    frames = subst (λ (n : ℕ). n ≤ most_frames) (length-map frames unborn_frame) h.limits.frames;
    words_within = subst (λ (n : ℕ). n ≤ most_words) (unborn_words frames) h.limits.words_within;
  };
  room = room_born frames h.room;
}

threads_unborn : (threads : List Thread) → AreWithin threads → AreWithin (map unborn_thread threads)
threads_unborn [] h = tt
threads_unborn (t ∷ threads) h = (within_unborn t.frames h.0, threads_unborn threads h.1)

threads_born : (threads : List Thread) → AreWithin (map unborn_thread threads) → AreWithin threads
threads_born [] h = tt
threads_born (t ∷ threads) h = (within_born t.frames h.0, threads_born threads h.1)

pub alike_limited : (a b : Core) → unborn (seen a) ≡ unborn (seen b) → IsLimited a → IsLimited b
alike_limited a b same h =
    let threads : map unborn_thread a.threads ≡ map unborn_thread b.threads = ap (λ (c : Core). c.threads) same in
    let monitors : a.monitors ≡ b.monitors = ap (λ (c : Core). c.monitors) same in
    record {
      stacks = threads_born b.threads (subst AreWithin threads (threads_unborn a.threads h.stacks));
      monitors = subst AreCounted monitors h.monitors;
    }

-- ---- the rules of the acts of a step

top_words : (now : Core) (f g : MethodFrame) → GoesOnAs Anything now f g → frame_words g ≡ frame_words f
top_words now f g h = omega (arith, h.locals, h.room)

pub act_rules : (classes : List Class) (t : ThreadNo) → ActRules classes t KeepsLimits Anything
act_rules classes t = record {
  int = λ now n. tt;
  long = λ now n. tt;
  null = λ now. tt;
  there = λ now o there. tt;
  later = λ now a v fits h. tt;
  keeps = λ now a fits h. all_hold (behind now a);
  raised = λ now e. tt;
  adds_array = λ now name is. tt;
  makes = λ now class content room is hold. tt;
  puts_field = λ now o place v h. tt;
  puts_element = λ now o place v h. tt;
  puts_side = λ now o side h. tt;
  puts_behind = λ now o units room. tt;
  enters = λ now o may h. tt;
  leaves = λ now o owner owned. tt;
  goes_to_wait = λ now o owner owned. (owner, owned);
  notifies = λ now o. tt;
  notifies_all = λ now o. tt;
  prints = λ now bytes. tt;
  sets_top = λ now f g below top h.
      subst (λ (frames : List StackFrame). TakesPlace frames g) (sym top) (top_words now f g h, h.within);
  pops = λ now. tt;
  pushes = λ now f fits h. (fits, h.empty);
  sets_state = λ now state. tt;
  sets_activity = λ now activity h. tt;
  makes_thread = λ now o h kept. tt;
  puts_static = λ now field v h. tt;
}

pub step_rules : (w : World) (classes : List Class) (t : ThreadNo) → StepRules w classes t KeepsLimits Anything
step_rules w classes t = record {
  acts = act_rules classes t;
  pushes_init = λ now n fits. fits;
  sets_class = λ now n state. tt;
  enters_initializer = λ now n. tt;
  fails = λ now class error. tt;
  takes_back = λ now o has unowned h. has;
  failed = λ now class error. tt;
  turned = λ now env class set k n has_changed. tt;
  loaded = λ now s name is. tt;
  adds_loaded = λ now s name is. tt;
}
