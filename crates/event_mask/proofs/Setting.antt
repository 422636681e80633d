-- What changes say of settings.
use Rattle.std.proofs.Common.{◌≡◌, List, Some, None, Bool, true, false, ◌&&◌, ◌||◌, ◌∙◌, refl, ap}
use Rattle.std.specs.Prelude.{if◌then◌else◌}
use Rattle.std.proofs.lemmas.Bool.{and_from, eq-eqb}
use Rattle.ti_codes.specs.declared.capability.Capability.{Capability}
use Rattle.ti_codes.specs.declared.event.EventKind.{EventKind}
use Rattle.ti_codes.specs.Events.{event_number, is_same_event}
use Rattle.change_list.specs.Laws.{AreSilent}
use Rattle.change_list.proofs.Changes.{last_decides, none_speaks}
use Rattle.event_mask.specs.Settings.{Scope, same_scope, Sets, Holds, Ends, Change, suffices, setting_said, setting, mask}
use Rattle.event_mask.specs.Laws.{SettingsAsSet}

said_if : {A : Type 0} (b : Bool) (x : A) → b ≡ true → (if b then Some x else None) ≡ Some x
said_if true x e = refl
said_if false x e = absurd cc

said_unless : {A : Type 0} (b : Bool) (x : A) → b ≡ false → (if b then None else Some x) ≡ Some x
said_unless true x e = absurd cc
said_unless false x e = refl

own_scope : (scope : Scope) → same_scope scope scope ≡ true
own_scope None = refl
own_scope (Some t) = eq-eqb t.0 t.0 refl

-- a change that sets an event says of its setting what it sets
pub set_said : (kind : EventKind) (scope : Scope) (on : Bool) → setting_said kind scope (Sets kind scope on) ≡ Some on
set_said kind scope on =
    let own = and_from (is_same_event kind kind) (same_scope scope scope) (eq-eqb (event_number kind) (event_number kind) refl) (own_scope scope) in
    said_if (is_same_event kind kind && same_scope scope scope) on own

-- a set of capabilities without what the event needs says that it is off
pub lost_said : (kind : EventKind) (scope : Scope) (caps : List Capability) → suffices caps kind ≡ false
    → setting_said kind scope (Holds caps) ≡ Some false
lost_said kind scope caps lost = said_unless (suffices caps kind) false lost

-- what no change speaks of is off
unset : (kind : EventKind) (scope : Scope) (changes : List Change) → AreSilent (setting_said kind scope) changes → setting kind scope changes ≡ false
unset kind scope changes silent = none_speaks (setting_said kind scope) false changes silent

unset_for : (kind : EventKind) (scope : Scope) (changes : List Change) → AreSilent (setting_said kind None) changes
    → AreSilent (setting_said kind scope) changes → mask kind scope changes ≡ false
unset_for kind None changes for_all own = unset kind None changes for_all
unset_for kind (Some t) changes for_all own =
    ap (λ (b : Bool). b || setting kind (Some t) changes) (unset kind None changes for_all) ∙ unset kind (Some t) changes own

pub settings_as_set : SettingsAsSet
settings_as_set = record {
  set = λ kind scope on before after silent.
      last_decides (setting_said kind scope) false on before after (Sets kind scope on) (set_said kind scope on) silent;
  lost = λ kind scope caps before after lost silent.
      last_decides (setting_said kind scope) false false before after (Holds caps) (lost_said kind scope caps lost) silent;
  ended = λ kind scope before after silent.
      last_decides (setting_said kind scope) false false before after Ends refl silent;
  unset = unset;
  unset_for = unset_for;
}
