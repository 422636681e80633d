-- What the records of a trace say of tags and settings.
use Rattle.std.proofs.Common.{◌≡◌, ◌∙◌, ℤ, pos, [], ◌∷◌, ◌++◌, Option, Some, None, Bool, true, false, not, ◌==◌, ◌&&◌, refl, sym, ap}
use Rattle.std.specs.Prelude.{if◌then◌else◌, unwrap_or}
use Rattle.std.specs.Option.{option_and_then}
use Rattle.std.proofs.lemmas.Bool.{eq-eqb}
use Rattle.ti_ids.specs.declared.number.EnvNo.{EnvNo}
use Rattle.ti_ids.specs.declared.number.ObjNo.{ObjNo}
use Rattle.ti_codes.specs.declared.event.EventKind.{EventKind}
use Rattle.ti_codes.specs.Events.{is_same_event}
use Rattle.change_list.specs.Laws.{AreSilent}
use Rattle.change_list.specs.Changes.{last_said}
use Rattle.change_list.proofs.Changes.{said_by, said_through, last_decides, none_speaks, goes_on}
use Rattle.tag_map.specs.Tags as tags
use Rattle.tag_map.specs.Tags.{tag_said}
use Rattle.tag_map.proofs.Tagging as tagging
use Rattle.event_mask.specs.Settings as settings
use Rattle.event_mask.specs.Settings.{Scope, same_scope, suffices, setting_said}
use Rattle.event_mask.proofs.Setting.{set_said, lost_said}
use Rattle.machine_state.specs.Trace.{Record, Entry, Trace, ModeSet, CapsChanged, Tagged, Disposed}
use Rattle.machine_state.specs.Environments.{same_environment, mask_change, setting}
use Rattle.machine_state.specs.Tags.{tag_change, tag}
use Rattle.machine_state.specs.Laws.{sets_tag, NoneDoes, TagsStay, TagsAsSet, sets_mode, MasksAsSet}

-- ---- what a change of the environment says, where the record is the environment's

module _ {C A : Type 0} (says : C → Option A) (c : C) where
  own_speaks : (own : Bool) (said : Option A) → own ≡ true → says c ≡ said → option_and_then says (if own then Some c else None) ≡ said
  own_speaks true said e h = h
  own_speaks false said e h = absurd cc

  other_silent : (own : Bool) → own ≡ false → option_and_then says (if own then Some c else None) ≡ None
  other_silent true e = absurd cc
  other_silent false e = refl

  both_silent : (own that : Bool) (said : A) → says c ≡ (if that then Some said else None) → (own && that) ≡ false
      → option_and_then says (if own then Some c else None) ≡ None
  both_silent false that said h e = refl
  both_silent true true said h e = absurd cc
  both_silent true false said h e = h

itself : (env : EnvNo) → same_environment env env ≡ true
itself env = eq-eqb env.0 env.0 refl

-- a trace of which no entry does so is silent
all_silent : {A : Type 0} (says : Entry → Option A) (does : Record → Bool) → ((e : Entry) → does e.what ≡ false → says e ≡ None)
    → (entries : Trace) → NoneDoes does entries → AreSilent says entries
all_silent says does silent [] none = tt
all_silent says does silent (e ∷ entries) none = (silent e none.0, all_silent says does silent entries none.1)

-- ---- tags

module _ (env : EnvNo) (object : ObjNo) where
  abbrev tag_told : Entry → Option ℤ
  tag_told = said_by (λ (e : Entry). tag_change env e.what) (tag_said object)

  tag_by_entries : (trace : Trace) → tag trace env object ≡ last_said tag_told (pos 0) trace
  tag_by_entries trace = said_through (λ (e : Entry). tag_change env e.what) (tag_said object) (pos 0) trace

  tag_silent_by : (what : Record) → sets_tag env object what ≡ false → option_and_then (tag_said object) (tag_change env what) ≡ None
  tag_silent_by (Tagged of to new) none = both_silent (tag_said object) (tags.Sets to new) (same_environment of env) (to.0 == object.0) new refl none
  tag_silent_by (Disposed of) none = other_silent (tag_said object) tags.Ends (same_environment of env) none
  tag_silent_by _ none = refl

  tag_silent : (e : Entry) → sets_tag env object e.what ≡ false → tag_told e ≡ None
  tag_silent e none = tag_silent_by e.what none

  none_tags : (entries : Trace) → NoneDoes (sets_tag env object) entries → AreSilent tag_told entries
  none_tags entries none = all_silent tag_told (sets_tag env object) tag_silent entries none

  tag_set : (e : Entry) (new : ℤ) → e.what ≡ Tagged env object new → tag_told e ≡ Some new
  tag_set e new is =
      ap (λ (what : Record). option_and_then (tag_said object) (tag_change env what)) is
      ∙ own_speaks (tag_said object) (tags.Sets object new) (same_environment env env) (Some new) (itself env) (tagging.set_said object new)

  tag_ended : (e : Entry) → e.what ≡ Disposed env → tag_told e ≡ Some (pos 0)
  tag_ended e is =
      ap (λ (what : Record). option_and_then (tag_said object) (tag_change env what)) is
      ∙ own_speaks (tag_said object) tags.Ends (same_environment env env) (Some (pos 0)) (itself env) refl

  tag_decided : (before after : Trace) (e : Entry) (new : ℤ) → tag_told e ≡ Some new → NoneDoes (sets_tag env object) after
      → tag (before ++ e ∷ after) env object ≡ new
  tag_decided before after e new told none =
      tag_by_entries (before ++ e ∷ after) ∙ last_decides tag_told (pos 0) new before after e told (none_tags after none)

pub tags_stay : TagsStay
tags_stay trace e env object none =
    tag_by_entries env object (trace ++ e ∷ [])
    ∙ goes_on (tag_told env object) (pos 0) trace e
    ∙ ap (λ (told : Option ℤ). unwrap_or told (last_said (tag_told env object) (pos 0) trace)) (tag_silent env object e none)
    ∙ sym (tag_by_entries env object trace)

pub tags_as_set : TagsAsSet
tags_as_set = record {
  set = λ before after e env object new is none. tag_decided env object before after e new (tag_set env object e new is) none;
  ended = λ before after e env object is none. tag_decided env object before after e (pos 0) (tag_ended env object e is) none;
  unset = λ trace env object none.
      tag_by_entries env object trace ∙ none_speaks (tag_told env object) (pos 0) trace (none_tags env object trace none);
}

-- ---- masks

turned_round : (b said : Bool) → (if b then None else Some said) ≡ (if not b then Some said else None)
turned_round true said = refl
turned_round false said = refl

module _ (env : EnvNo) (kind : EventKind) (scope : Scope) where
  abbrev mode_told : Entry → Option Bool
  mode_told = said_by (λ (e : Entry). mask_change env e.what) (setting_said kind scope)

  setting_by_entries : (trace : Trace) → setting trace env kind scope ≡ last_said mode_told false trace
  setting_by_entries trace = said_through (λ (e : Entry). mask_change env e.what) (setting_said kind scope) false trace

  mode_silent_by : (what : Record) → sets_mode env kind scope what ≡ false → option_and_then (setting_said kind scope) (mask_change env what) ≡ None
  mode_silent_by (ModeSet of what for on) none =
      both_silent (setting_said kind scope) (settings.Sets what for on) (same_environment of env) (is_same_event what kind && same_scope for scope) on
      refl none
  mode_silent_by (CapsChanged of caps) none =
      both_silent (setting_said kind scope) (settings.Holds caps) (same_environment of env) (not (suffices caps kind)) false
      (turned_round (suffices caps kind) false) none
  mode_silent_by (Disposed of) none = other_silent (setting_said kind scope) settings.Ends (same_environment of env) none
  mode_silent_by _ none = refl

  mode_silent : (e : Entry) → sets_mode env kind scope e.what ≡ false → mode_told e ≡ None
  mode_silent e none = mode_silent_by e.what none

  none_sets : (entries : Trace) → NoneDoes (sets_mode env kind scope) entries → AreSilent mode_told entries
  none_sets entries none = all_silent mode_told (sets_mode env kind scope) mode_silent entries none

  told : (e : Entry) (what : Record) (c : settings.Change) (on : Bool) → e.what ≡ what
      → mask_change env what ≡ (if same_environment env env then Some c else None) → setting_said kind scope c ≡ Some on → mode_told e ≡ Some on
  told e what c on is own said =
      ap (λ (r : Record). option_and_then (setting_said kind scope) (mask_change env r)) is
      ∙ ap (λ (o : Option settings.Change). option_and_then (setting_said kind scope) o) own
      ∙ own_speaks (setting_said kind scope) c (same_environment env env) (Some on) (itself env) said

  decided : (before after : Trace) (e : Entry) (on : Bool) → mode_told e ≡ Some on → NoneDoes (sets_mode env kind scope) after
      → setting (before ++ e ∷ after) env kind scope ≡ on
  decided before after e on is none =
      setting_by_entries (before ++ e ∷ after) ∙ last_decides mode_told false on before after e is (none_sets after none)

pub masks_as_set : MasksAsSet
masks_as_set = record {
  set = λ before after e env kind scope on is none.
      decided env kind scope before after e on
      (told env kind scope e (ModeSet env kind scope on) (settings.Sets kind scope on) on is refl (set_said kind scope on)) none;
  lost = λ before after e env kind scope caps is lacks none.
      decided env kind scope before after e false
      (told env kind scope e (CapsChanged env caps) (settings.Holds caps) false is refl (lost_said kind scope caps lacks)) none;
  ended = λ before after e env kind scope is none.
      decided env kind scope before after e false (told env kind scope e (Disposed env) settings.Ends false is refl refl) none;
  unset = λ trace env kind scope none.
      setting_by_entries env kind scope trace
      ∙ none_speaks (mode_told env kind scope) false trace (none_sets env kind scope trace none);
  for_all = λ trace env kind. refl;
  for_thread = λ trace env kind t. refl;
}
