-- The texts of types in descriptors, and where they end (JVM specification 4.3.2).
use Rattle.std.specs.Prelude.{ℕ, ◌+◌, ◌==◌, not, if◌then◌else◌, [], ◌∷◌, slice_index, take, drop, Option, Some, option_map}
use Rattle.std.specs.Option.{option_and_then}
use Rattle.std.specs.List.{position}
use Rattle.jv_names.specs.Names.{Name}
use Rattle.type_frames.specs.declared.vtype.VType.{VType}
use Rattle.type_frames.specs.declared.vtype.VType.TheVariants as vtype
use Rattle.type_frames.specs.Types.{front}

-- the type of a value of the type whose text this is: its first unit tells the sort, and the text itself names an array class
abbrev pub text_vtype : Name → VType
text_vtype [] = vtype.Integer
text_vtype (unit ∷ units) =
    if unit == 91 then vtype.Object (unit ∷ units) else
    if unit == 76 then vtype.Object (front units) else
    if unit == 74 then vtype.Long else vtype.Integer

-- where the text of the type at the front ends, whose element begins at this place: a class's at the first `;`
abbrev pub element_end : Name → ℕ → Option ℕ
element_end text place = if slice_index text place == 76 then option_map (λ n. n + 1) (position (λ unit. unit == 59) text) else Some (place + 1)

-- the element begins behind the dimensions
abbrev pub type_end : Name → Option ℕ
type_end text = option_and_then (element_end text) (position (λ unit. not (unit == 91)) text)

-- a text cut in two at a place
abbrev pub cut : Name → Option ℕ → Option (Name × Name)
cut text end = option_map (λ n. (take n text, drop n text)) end
