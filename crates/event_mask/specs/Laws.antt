-- The laws of settings and of the hook.
use Rattle.std.specs.Prelude.{◌≡◌, Bool, false, List, [], ◌∷◌, ◌++◌, None}
use Rattle.ti_codes.specs.declared.capability.Capability.{Capability}
use Rattle.ti_codes.specs.declared.event.EventKind.{EventKind}
use Rattle.change_list.specs.Laws.{AreSilent}
use Rattle.event_mask.specs.Settings.{Scope, Change, Sets, Holds, Ends, suffices, setting_said, setting, mask}
use Rattle.event_mask.specs.Hooks.{hook_class, held_after, hook_after}

-- An event is as it was set last; it is off from a loss of the capability that it needs, or from the end, until it is set again; what
-- no change speaks of is off, for one thread where that holds of the setting for all and of its own.
pub record SettingsAsSet : Type 0 where
  pub set : (kind : EventKind) (scope : Scope) (on : Bool) (before after : List Change) → AreSilent (setting_said kind scope) after
      → setting kind scope (before ++ Sets kind scope on ∷ after) ≡ on
  pub lost : (kind : EventKind) (scope : Scope) (caps : List Capability) (before after : List Change) → suffices caps kind ≡ false
      → AreSilent (setting_said kind scope) after → setting kind scope (before ++ Holds caps ∷ after) ≡ false
  pub ended : (kind : EventKind) (scope : Scope) (before after : List Change) → AreSilent (setting_said kind scope) after
      → setting kind scope (before ++ Ends ∷ after) ≡ false
  pub unset : (kind : EventKind) (scope : Scope) (changes : List Change) → AreSilent (setting_said kind scope) changes
      → setting kind scope changes ≡ false
  pub unset_for : (kind : EventKind) (scope : Scope) (changes : List Change) → AreSilent (setting_said kind None) changes
      → AreSilent (setting_said kind scope) changes → mask kind scope changes ≡ false

-- The first change that turns ClassFileLoadHook on decides of the hook, by what is held then, and no later one.
abbrev pub HookGoesOn : Type 0
HookGoesOn = (held : List Capability) (changes : List Change) (more : Change)
    → hook_class held (changes ++ more ∷ []) ≡ hook_after (held_after held changes) more (hook_class held changes)
