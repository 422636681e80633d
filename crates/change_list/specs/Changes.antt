-- What a list of changes says of one thing: each change may speak of it, and the last one that does decides.
use Rattle.std.specs.Prelude.{List, Option, Some, None, fold, filter_map, unwrap_or}

-- the last one of a list
abbrev pub last : {A : Type 0} → List A → Option A
last list = fold (λ before x. Some x) None list

-- What the last change that speaks of a thing says of it, else what it was in the beginning. What one change says of it, where it
-- speaks of it, is given by `says`.
abbrev pub last_said : {C A : Type 0} → (C → Option A) → A → List C → A
last_said says begin changes = unwrap_or (last (filter_map says changes)) begin
