-- What is held after capabilities are added or relinquished.
use Rattle.std.specs.Prelude.{◌≡◌, not, ◌&&◌, ◌||◌, List}
use Rattle.ti_codes.specs.declared.capability.Capability.{Capability}
use Rattle.capability_set.specs.Held.{has_capability, with_capabilities, without_capabilities}

-- What is added is held, besides what was held before.
abbrev pub AddsThese : Type 0
AddsThese = (held more : List Capability) (c : Capability)
    → has_capability c (with_capabilities held more) ≡ (has_capability c held || has_capability c more)

-- What is relinquished isn't held, and all else is as it was.
abbrev pub TakesThese : Type 0
TakesThese = (held less : List Capability) (c : Capability)
    → has_capability c (without_capabilities held less) ≡ (has_capability c held && not (has_capability c less))
