-- What the acts of an instruction are, as far as frames, classes and records go: it records events alone, each frame that it pushes is of a
-- method that has a body, and each class that it adds is initialized.
use Rattle.std.proofs.Common.{◌≡◌, List, Some}
use Rattle.std.specs.List.{AllByRecursion}
use Rattle.class_tree.specs.declared.body.Code.{Code}
use Rattle.link_versions.specs.Classes.{Class}
use Rattle.ti_ids.specs.declared.state.InitState.TheVariants as states
use Rattle.machine_state.specs.Core.{MethodFrame}
use Rattle.machine_state.specs.Trace.{Raised}
use Rattle.machine_state.specs.Acts.{Act, AddsClass, Changes, Notes, Pushes}
use Rattle.instruction_effect.specs.Outcomes.{Outcome, Goes, Throws, Fills, ThrowsObject, NeedsLoad, NeedsLink, NeedsInit}
use Rattle.instruction_effect.specs.Arguments.{newest_body}

-- the frame is of a method that has a body
abbrev pub IsBodied : List Class → MethodFrame → Type 0
IsBodied now f = (f.class ≡ f.method.class) × ((body : Code) × (newest_body now f.method ≡ Some body))

abbrev pub Fits : List Class → Act → Type 0
Fits now (Changes (Pushes t f)) = IsBodied now f
Fits now (Changes (AddsClass name state)) = state ≡ states.Initialized
Fits now (Changes c) = Unit {0}
Fits now (Notes (Raised e)) = Unit {0}
Fits now (Notes what) = ⊥

abbrev pub AllFit : List Class → List Act → Type 0
AllFit now acts = AllByRecursion (Fits now) acts

abbrev pub FitsOutcome : List Class → Outcome → Type 0
FitsOutcome now (Goes acts) = AllFit now acts
FitsOutcome now (Throws before name) = AllFit now before
FitsOutcome now (Fills before) = AllFit now before
FitsOutcome now (ThrowsObject o) = Unit {0}
FitsOutcome now (NeedsLoad name) = Unit {0}
FitsOutcome now (NeedsLink n) = Unit {0}
FitsOutcome now (NeedsInit n) = Unit {0}
