-- The laws of tags.
use Rattle.std.specs.Prelude.{◌≡◌, ℤ, pos, List, [], ◌∷◌, ◌++◌, None}
use Rattle.ti_ids.specs.declared.number.ObjNo.{ObjNo}
use Rattle.change_list.specs.Laws.{AreSilent}
use Rattle.tag_map.specs.Tags.{Change, Sets, Ends, tag_said, tag_of}

-- A tag is the one that was set last.
abbrev pub SetsTag : Type 0
SetsTag = (object : ObjNo) (tag : ℤ) (before after : List Change) → AreSilent (tag_said object) after
    → tag_of object (before ++ Sets object tag ∷ after) ≡ tag

-- A change that doesn't speak of an object leaves its tag.
abbrev pub LeavesTag : Type 0
LeavesTag = (object : ObjNo) (changes : List Change) (more : Change) → tag_said object more ≡ None
    → tag_of object (changes ++ more ∷ []) ≡ tag_of object changes

-- After the end no object has a tag, until one is set again.
abbrev pub EndsTags : Type 0
EndsTags = (object : ObjNo) (before after : List Change) → AreSilent (tag_said object) after
    → tag_of object (before ++ Ends ∷ after) ≡ pos 0

-- An object of which no change speaks has no tag.
abbrev pub NoneTagged : Type 0
NoneTagged = (object : ObjNo) (changes : List Change) → AreSilent (tag_said object) changes → tag_of object changes ≡ pos 0
