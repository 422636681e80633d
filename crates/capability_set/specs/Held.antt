-- The capabilities that an environment holds (JVM TI, "Capability"): a list of them in any order.
use Rattle.std.specs.Prelude.{Bool, not, ◌||◌, List, ◌++◌, filter, unwrap_or}
use Rattle.std.specs.List.{list_any, list_all}
use Rattle.ti_codes.specs.declared.phase.Phase.{Phase}
use Rattle.ti_codes.specs.declared.capability.Capability.{Capability}
use Rattle.ti_codes.specs.Capabilities.{is_same_capability, is_potential}
use Rattle.change_list.specs.Changes.{last}

abbrev pub has_capability : Capability → List Capability → Bool
has_capability wanted held = list_any (is_same_capability wanted) held

-- A change leaves a set. What is held is the set that the last change left, else the one with which the environment began.
abbrev pub held : List Capability → List (List Capability) → List Capability
held begin changes = unwrap_or (last changes) begin

-- ---- AddCapabilities

-- what the environment holds already counts as potential in every phase
abbrev pub may_add : Phase → List Capability → List Capability → Bool
may_add phase held more = list_all (λ c. is_potential c phase || has_capability c held) more

abbrev pub with_capabilities : List Capability → List Capability → List Capability
with_capabilities held more = held ++ more

-- ---- RelinquishCapabilities

abbrev pub without_capabilities : List Capability → List Capability → List Capability
without_capabilities held less = filter (λ c. not (has_capability c less)) held
