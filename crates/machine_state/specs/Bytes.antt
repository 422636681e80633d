-- What is made of bytes is bytes: numbers below 256. A file has no others, so a job of files keeps to them.
use Rattle.std.specs.Prelude.{◌≡◌, ℕ, List, Some, true}
use Rattle.std.specs.List.{AllByRecursion}
use Rattle.ti_ids.specs.declared.number.EnvNo.{EnvNo}
use Rattle.jv_names.specs.Names.{Name}
use Rattle.class_tree.specs.Ranges.{are_bytes}
use Rattle.machine_state.specs.Jobs.{Job}
use Rattle.machine_state.specs.Trace.{Record, Trace, Loaded, Redefined}
use Rattle.machine_state.specs.Versions.{Turns}

-- the class files of a job are bytes
abbrev pub HasBytes : Job → Type 0
HasBytes job = AllByRecursion (λ f. are_bytes f.bytes ≡ true) job.files

-- of bytes rules make bytes
abbrev pub MakesBytes : Turns → Type 0
MakesBytes turns =
    (env : EnvNo) (set class : Name) (bytes made : List ℕ) → are_bytes bytes ≡ true → turns env set class bytes ≡ Some made → are_bytes made ≡ true

-- the class that a record loads or redefines is of bytes
abbrev pub HoldsBytes : Record → Type 0
HoldsBytes (Loaded class bytes) = are_bytes bytes ≡ true
HoldsBytes (Redefined class bytes) = are_bytes bytes ≡ true
HoldsBytes _ = Unit {0}

abbrev pub AllHoldBytes : Trace → Type 0
AllHoldBytes trace = AllByRecursion (λ e. HoldsBytes e.what) trace
