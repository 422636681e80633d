-- Which part of the core each change is of. The parts nest: what base methods change, what instructions and the steps of classes change
-- besides, and what the steps of the machine and of agents change besides.
use Rattle.std.specs.Prelude.{◌≡◌, ℕ}
use Rattle.machine_state.specs.Core.{Core}
use Rattle.machine_state.specs.Acts.{Change, Makes, PutsField, PutsElement, PutsSide, PutsBehind, PutsStatic, Enters, Leaves, GoesToWait, Notifies, NotifiesAll, TakesBack, Prints, SetsTop, Pops, Pushes, PushesInit, SetsState, SetsActivity, MakesThread, AddsClass, SetsClass, EntersInitializer, Fails, SetsPhase, MarksDeath, TakesCall, TakesScript, changed}

pub data Share : Type 0 where
  Base : Share
  Java : Share
  Whole : Share

abbrev pub share : Change → Share
share (Makes object) = Base
share (PutsField object place v) = Base
share (PutsElement object place v) = Base
share (PutsSide object side) = Base
share (PutsBehind object units) = Base
share (Enters object t) = Base
share (Leaves object) = Base
share (GoesToWait object t) = Base
share (Notifies object) = Base
share (NotifiesAll object) = Base
share (TakesBack object t) = Base
share (Prints bytes) = Base
share (SetsTop t frame) = Base
share (Pops t) = Base
share (Pushes t frame) = Base
share (PushesInit t class) = Base
share (SetsState t state) = Base
share (SetsActivity t activity) = Base
share (MakesThread object) = Base
share (PutsStatic field v) = Java
share (AddsClass name state) = Java
share (SetsClass class state) = Java
share (EntersInitializer class) = Java
share (Fails class error) = Java
share (SetsPhase phase) = Whole
share MarksDeath = Whole
share (TakesCall actor) = Whole
share (TakesScript env) = Whole

-- ---- the parts of a core

-- it has the heap, the monitors, the threads with their frames, and the output
pub record BaseStays (before after : Core) : Type 0 where
  pub heap : after.heap ≡ before.heap
  pub monitors : after.monitors ≡ before.monitors
  pub threads : after.threads ≡ before.threads
  pub output : after.output ≡ before.output

pub record JavaStays (before after : Core) : Type 0 where
  pub classes : after.classes ≡ before.classes
  pub failures : after.failures ≡ before.failures
  pub statics : after.statics ≡ before.statics

pub record RestStays (before after : Core) : Type 0 where
  pub phase : after.phase ≡ before.phase
  pub death_raised : after.death_raised ≡ before.death_raised
  pub queues : after.queues ≡ before.queues
  pub scripts : after.scripts ≡ before.scripts

-- all stays but this part
abbrev pub StaysBut : Share → Core → Core → Type 0
StaysBut Base before after = JavaStays before after × RestStays before after
StaysBut Java before after = BaseStays before after × RestStays before after
StaysBut Whole before after = BaseStays before after × JavaStays before after

-- Each change is of one part alone.
abbrev pub ChangesOnePart : Type 0
ChangesOnePart = (birth : ℕ) (c : Change) (core : Core) → StaysBut (share c) core (changed birth c core)
