-- Each change is of one part of the core alone.
use Rattle.machine_state.specs.Acts.{Makes, PutsField, PutsElement, PutsSide, PutsBehind, PutsStatic, Enters, Leaves, GoesToWait, Notifies, NotifiesAll, TakesBack, Prints, SetsTop, Pops, Pushes, PushesInit, SetsState, SetsActivity, MakesThread, AddsClass, SetsClass, EntersInitializer, Fails, SetsPhase, MarksDeath, TakesCall, TakesScript}
use Rattle.machine_state.specs.Shares.{ChangesOnePart}

pub changes_one_part : ChangesOnePart
changes_one_part birth (Makes object) core = assumption
changes_one_part birth (PutsField object place v) core = assumption
changes_one_part birth (PutsElement object place v) core = assumption
changes_one_part birth (PutsSide object side) core = assumption
changes_one_part birth (PutsBehind object units) core = assumption
changes_one_part birth (Enters object t) core = assumption
changes_one_part birth (Leaves object) core = assumption
changes_one_part birth (GoesToWait object t) core = assumption
changes_one_part birth (Notifies object) core = assumption
changes_one_part birth (NotifiesAll object) core = assumption
changes_one_part birth (TakesBack object t) core = assumption
changes_one_part birth (Prints bytes) core = assumption
changes_one_part birth (SetsTop t frame) core = assumption
changes_one_part birth (Pops t) core = assumption
changes_one_part birth (Pushes t frame) core = assumption
changes_one_part birth (PushesInit t class) core = assumption
changes_one_part birth (SetsState t state) core = assumption
changes_one_part birth (SetsActivity t activity) core = assumption
changes_one_part birth (MakesThread object) core = assumption
changes_one_part birth (PutsStatic field v) core = assumption
changes_one_part birth (AddsClass name state) core = assumption
changes_one_part birth (SetsClass class state) core = assumption
changes_one_part birth (EntersInitializer class) core = assumption
changes_one_part birth (Fails class error) core = assumption
changes_one_part birth (SetsPhase phase) core = assumption
changes_one_part birth MarksDeath core = assumption
changes_one_part birth (TakesCall actor) core = assumption
changes_one_part birth (TakesScript env) core = assumption
