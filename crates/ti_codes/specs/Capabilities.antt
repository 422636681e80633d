-- The capabilities that are offered (JVM TI, "Capability", `jvmtiCapabilities`): the bit of each, its name, and when it can be had.
use Rattle.std.specs.Prelude.{ℕ, Bool, ◌==◌, List, [], ◌∷◌, Option, find, bytes_eq, codes}
use Rattle.std.specs.List.{list_any}
use Rattle.ti_codes.specs.declared.phase.Phase.{Phase}
use Rattle.ti_codes.specs.declared.phase.Phase.TheVariants.{OnLoad, Live}
use Rattle.ti_codes.specs.declared.capability.Capability.{Capability}
use Rattle.ti_codes.specs.declared.capability.Capability.TheVariants as capabilities
use Rattle.ti_codes.specs.Phases.{is_same_phase}

pub record CapabilityRow : Type 0 where
  pub bit : ℕ
  -- as agent files write it
  pub name : List ℕ
  -- the phases in which an environment that lacks it may add it
  pub potential : List Phase

-- from the machine's load on, or at the load alone
abbrev pub later_too : List Phase
later_too = OnLoad ∷ Live ∷ []

abbrev pub at_load : List Phase
at_load = OnLoad ∷ []

abbrev pub capability_row : Capability → CapabilityRow
capability_row capabilities.Breakpoint = record { bit = 0; name = codes "breakpoint"; potential = later_too }
capability_row capabilities.SingleStep = record { bit = 1; name = codes "single_step"; potential = later_too }
capability_row capabilities.Exception = record { bit = 2; name = codes "exception"; potential = later_too }
capability_row capabilities.FramePop = record { bit = 3; name = codes "frame_pop"; potential = later_too }
capability_row capabilities.MethodEntry = record { bit = 4; name = codes "method_entry"; potential = later_too }
capability_row capabilities.MethodExit = record { bit = 5; name = codes "method_exit"; potential = later_too }
capability_row capabilities.FieldAccess = record { bit = 6; name = codes "field_access"; potential = later_too }
capability_row capabilities.FieldModification = record { bit = 7; name = codes "field_modification"; potential = later_too }
capability_row capabilities.Monitor = record { bit = 8; name = codes "monitor"; potential = later_too }
capability_row capabilities.ObjectAlloc = record { bit = 9; name = codes "object_alloc"; potential = later_too }
capability_row capabilities.Tag = record { bit = 10; name = codes "tag"; potential = later_too }
capability_row capabilities.Redefine = record { bit = 11; name = codes "redefine"; potential = later_too }
capability_row capabilities.Retransform = record { bit = 12; name = codes "retransform"; potential = later_too }
capability_row capabilities.Suspend = record { bit = 13; name = codes "suspend"; potential = later_too }
capability_row capabilities.Locals = record { bit = 14; name = codes "locals"; potential = later_too }
capability_row capabilities.Bytecodes = record { bit = 15; name = codes "bytecodes"; potential = later_too }
capability_row capabilities.PopFrame = record { bit = 16; name = codes "pop_frame"; potential = at_load }
capability_row capabilities.EarlyReturn = record { bit = 17; name = codes "early_return"; potential = at_load }

-- in the order of their bits
abbrev pub all_capabilities : List Capability
all_capabilities =
    capabilities.Breakpoint ∷ capabilities.SingleStep ∷ capabilities.Exception ∷ capabilities.FramePop ∷ capabilities.MethodEntry
    ∷ capabilities.MethodExit ∷ capabilities.FieldAccess ∷ capabilities.FieldModification ∷ capabilities.Monitor ∷ capabilities.ObjectAlloc
    ∷ capabilities.Tag ∷ capabilities.Redefine ∷ capabilities.Retransform ∷ capabilities.Suspend ∷ capabilities.Locals
    ∷ capabilities.Bytecodes ∷ capabilities.PopFrame ∷ capabilities.EarlyReturn ∷ []

-- ---- what follows from the rows

abbrev pub capability_bit : Capability → ℕ
capability_bit c = (capability_row c).bit

abbrev pub capability_name : Capability → List ℕ
capability_name c = (capability_row c).name

abbrev pub is_same_capability : Capability → Capability → Bool
is_same_capability a b = capability_bit a == capability_bit b

-- JVM TI, "GetPotentialCapabilities": what an environment that lacks it may add in this phase
abbrev pub is_potential : Capability → Phase → Bool
is_potential c phase = list_any (is_same_phase phase) (capability_row c).potential

abbrev pub capability_of_bit : ℕ → Option Capability
capability_of_bit bit = find (λ c. bit == capability_bit c) all_capabilities

abbrev pub capability_of_name : List ℕ → Option Capability
capability_of_name name = find (λ c. bytes_eq name (capability_name c)) all_capabilities
