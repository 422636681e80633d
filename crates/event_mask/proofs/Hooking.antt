-- The hook after one more change.
use Rattle.std.proofs.Common.{◌≡◌, ◌∙◌, List, [], ◌∷◌, ◌++◌, Bool, true, false, refl, sym, ap}
use Rattle.std.specs.Prelude.{if◌then◌else◌}
use Rattle.ti_codes.specs.declared.capability.Capability.{Capability}
use Rattle.ti_codes.specs.declared.capability.Capability.TheVariants as capabilities
use Rattle.capability_set.specs.Held.{has_capability}
use Rattle.change_list.proofs.Changes.{goes_on_from}
use Rattle.event_mask.specs.declared.hook.HookClass.{HookClass}
use Rattle.event_mask.specs.declared.hook.HookClass.TheVariants.{Unset, Capable, Incapable}
use Rattle.event_mask.specs.Settings.{Change, Sets, Holds, Ends}
use Rattle.event_mask.specs.Hooks.{class_by, turns_hook_on, hook_class, held_said, held_after, hook_after}
use Rattle.event_mask.specs.Laws.{HookGoesOn}

-- what is decided stays
decided : (held : List Capability) (more : Change) (class : HookClass) (capable : Bool) → class ≡ (if capable then Capable else Incapable)
    → hook_after held more class ≡ class
decided held (Sets kind scope on) Unset true e = absurd cc
decided held (Sets kind scope on) Unset false e = absurd cc
decided held (Sets kind scope on) Capable capable e = refl
decided held (Sets kind scope on) Incapable capable e = refl
decided held (Holds caps) class capable e = refl
decided held Ends class capable e = refl

-- a change that sets an event is the first one
by_first : (turns : Bool) (held after : List Capability) (more : Change) (rest rest_more : HookClass) → rest_more ≡ hook_after after more rest
    → (if turns then class_by held else rest_more) ≡ hook_after after more (if turns then class_by held else rest)
by_first true held after more rest rest_more e = sym (decided after more (class_by held) (has_capability capabilities.Retransform held) refl)
by_first false held after more rest rest_more e = e

alone : (held : List Capability) (more : Change) → hook_class held (more ∷ []) ≡ hook_after held more Unset
alone held (Sets kind scope on) = refl
alone held (Holds caps) = refl
alone held Ends = refl

pub hook_goes_on : HookGoesOn
hook_goes_on held [] more = alone held more
hook_goes_on held (Sets kind scope on ∷ changes) more =
    by_first (turns_hook_on kind on) held (held_after held changes) more (hook_class held changes) (hook_class held (changes ++ more ∷ []))
    (hook_goes_on held changes more)
hook_goes_on held (Holds caps ∷ changes) more =
    hook_goes_on caps changes more
    ∙ ap (λ (c : List Capability). hook_after c more (hook_class caps changes)) (sym (goes_on_from held_said held (Holds caps) changes))
hook_goes_on held (Ends ∷ changes) more = hook_goes_on held changes more
