-- The laws of what the last change says.
use Rattle.std.specs.Prelude.{◌≡◌, List, [], ◌∷◌, ◌++◌, Option, Some, None, unwrap_or}
use Rattle.std.specs.List.{AllByRecursion}
use Rattle.change_list.specs.Changes.{last_said}

-- none of these changes speaks of the thing
abbrev pub AreSilent : {C A : Type 0} → (C → Option A) → List C → Type 0
AreSilent says changes = AllByRecursion (λ c. says c ≡ None) changes

-- The last change that speaks of a thing decides, whatever stands before it.
abbrev pub LastDecides : Type 0 → Type 0 → Type 0
LastDecides C A = (says : C → Option A) (begin said : A) (before after : List C) (c : C) → says c ≡ Some said → AreSilent says after
    → last_said says begin (before ++ c ∷ after) ≡ said

-- Of what no change speaks, that is as it was in the beginning.
abbrev pub NoneSpeaks : Type 0 → Type 0 → Type 0
NoneSpeaks C A = (says : C → Option A) (begin : A) (changes : List C) → AreSilent says changes → last_said says begin changes ≡ begin

-- After one more change a thing is what that one says, if it speaks of it, and else what it was.
abbrev pub GoesOn : Type 0 → Type 0 → Type 0
GoesOn C A = (says : C → Option A) (begin : A) (changes : List C) (c : C)
    → last_said says begin (changes ++ c ∷ []) ≡ unwrap_or (says c) (last_said says begin changes)
