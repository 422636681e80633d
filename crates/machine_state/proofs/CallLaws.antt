-- The laws of calls, one call after the other.
use Rattle.std.proofs.Common.{◌≡◌, ℕ, refl}
use Rattle.std.specs.Prelude.{is_some, option_map}
use Rattle.agent_types.specs.declared.call.Call.{Call}
use Rattle.agent_types.specs.declared.call.Call.TheVariants.{SetTag, GetTag}
use Rattle.agent_types.specs.Calls.{kind_of_call, object_given, with_object, takes_object}
use Rattle.machine_state.specs.Laws.{ObjectsAreGiven}

named : (call : Call) → is_some (object_given call) ≡ takes_object (kind_of_call call)
named (SetTag object tag) = refl
named (GetTag object) = refl
named _ = refl

replaced : (made : ℕ → ℕ) (call : Call) → object_given (with_object made call) ≡ option_map made (object_given call)
replaced made (SetTag object tag) = refl
replaced made (GetTag object) = refl
replaced made _ = refl

same_call : (made : ℕ → ℕ) (call : Call) → kind_of_call (with_object made call) ≡ kind_of_call call
same_call made (SetTag object tag) = refl
same_call made (GetTag object) = refl
same_call made _ = refl

pub objects_are_given : ObjectsAreGiven
objects_are_given = record { named = named; replaced = replaced; same_call = same_call }
