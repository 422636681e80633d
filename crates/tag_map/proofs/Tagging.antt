-- What changes say of tags.
use Rattle.std.proofs.Common.{◌≡◌, ◌∙◌, ℤ, pos, Bool, Option, Some, None, refl, ap}
use Rattle.std.specs.Prelude.{if◌then◌else◌, unwrap_or}
use Rattle.std.proofs.lemmas.Bool.{eq-eqb}
use Rattle.ti_ids.specs.declared.number.ObjNo.{ObjNo}
use Rattle.change_list.proofs.Changes.{last_decides, none_speaks, goes_on}
use Rattle.tag_map.specs.Tags.{Sets, Ends, tag_said, tag_of}
use Rattle.tag_map.specs.Laws.{SetsTag, LeavesTag, EndsTags, NoneTagged}

-- a change that tags an object says its tag
pub set_said : (object : ObjNo) (tag : ℤ) → tag_said object (Sets object tag) ≡ Some tag
set_said object tag = ap (λ (b : Bool). if b then Some tag else None) (eq-eqb object.0 object.0 refl)

pub sets_tag : SetsTag
sets_tag object tag before after silent = last_decides (tag_said object) (pos 0) tag before after (Sets object tag) (set_said object tag) silent

pub leaves_tag : LeavesTag
leaves_tag object changes more silent =
    goes_on (tag_said object) (pos 0) changes more ∙ ap (λ (said : Option ℤ). unwrap_or said (tag_of object changes)) silent

pub ends_tags : EndsTags
ends_tags object before after silent = last_decides (tag_said object) (pos 0) (pos 0) before after Ends refl silent

pub none_tagged : NoneTagged
none_tagged object changes silent = none_speaks (tag_said object) (pos 0) changes silent
