-- Whether the hook of an environment is capable of retransformation (JVM TI, "RetransformClasses"): whether the environment had the
-- capability when it turned ClassFileLoadHook on for the first time, for all threads or for one.
use Rattle.std.specs.Prelude.{Bool, ◌&&◌, List, [], ◌∷◌, Option, Some, None, if◌then◌else◌}
use Rattle.ti_codes.specs.declared.capability.Capability.{Capability}
use Rattle.ti_codes.specs.declared.capability.Capability.TheVariants as capabilities
use Rattle.ti_codes.specs.declared.event.EventKind.{EventKind}
use Rattle.ti_codes.specs.declared.event.EventKind.TheVariants as kinds
use Rattle.ti_codes.specs.Events.{is_same_event}
use Rattle.capability_set.specs.Held.{has_capability}
use Rattle.change_list.specs.Changes.{last_said}
use Rattle.event_mask.specs.declared.hook.HookClass.{HookClass}
use Rattle.event_mask.specs.declared.hook.HookClass.TheVariants.{Unset, Capable, Incapable}
use Rattle.event_mask.specs.Settings.{Change, Sets, Holds, Ends}

-- that of a hook which is turned on while these capabilities are held
abbrev pub class_by : List Capability → HookClass
class_by held = if has_capability capabilities.Retransform held then Capable else Incapable

abbrev pub turns_hook_on : EventKind → Bool → Bool
turns_hook_on kind on = is_same_event kind kinds.ClassFileLoadHook && on

-- that of an environment after changes, before which it held these capabilities
abbrev pub hook_class : List Capability → List Change → HookClass
hook_class held [] = Unset
hook_class held (Sets kind scope on ∷ changes) = if turns_hook_on kind on then class_by held else hook_class held changes
hook_class held (Holds caps ∷ changes) = hook_class caps changes
hook_class held (Ends ∷ changes) = hook_class held changes

-- ---- one more change

-- the capabilities that are held after changes
abbrev pub held_said : Change → Option (List Capability)
held_said (Holds caps) = Some caps
held_said _ = None

abbrev pub held_after : List Capability → List Change → List Capability
held_after held changes = last_said held_said held changes

-- what a change makes of the hook, where these capabilities are held
abbrev pub hook_after : List Capability → Change → HookClass → HookClass
hook_after held (Sets kind scope on) Unset = if turns_hook_on kind on then class_by held else Unset
hook_after held change class = class
