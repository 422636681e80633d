-- Names: JVM specification 4.2. A text is the list of its UTF-16 units.
use Rattle.std.specs.Prelude.{ℕ, List, [], ◌∷◌, ◌+◌, ◌/◌, ◌%◌, Bool, false, not, ◌&&◌, ◌||◌, ◌==◌, nat_lt, nat_le, if◌then◌else◌, length, flat_map, codes}
use Rattle.std.specs.List.{list_all}
use Rattle.std.specs.Cmp.Lexicographic.{pointwise}

abbrev pub Name : Type 0
Name = List ℕ

-- a unit at the front of the first part
abbrev pub onto : ℕ → List Name → List Name
onto unit [] = (unit ∷ []) ∷ []
onto unit (part ∷ others) = (unit ∷ part) ∷ others

-- what stands between the units that separate
abbrev pub parts : ℕ → Name → List Name
parts separator [] = [] ∷ []
parts separator (unit ∷ units) = if unit == separator then [] ∷ parts separator units else onto unit (parts separator units)

-- none of `.`, `;` and `[`
abbrev pub is_part_unit : ℕ → Bool
is_part_unit unit = not (unit == 46) && not (unit == 59) && not (unit == 91)

abbrev pub is_part : Name → Bool
is_part [] = false
is_part (unit ∷ units) = list_all is_part_unit (unit ∷ units)

-- section 4.2.1, in internal form: parts that are not empty, with `/` between them
abbrev pub is_class_name : Name → Bool
is_class_name name = list_all is_part (parts 47 name)

-- none of `.`, `;`, `[` and `/`
abbrev pub is_member_unit : ℕ → Bool
is_member_unit unit = is_part_unit unit && not (unit == 47)

-- section 4.2.2: the unqualified name of a field or a local variable, which is not empty
abbrev pub is_member_name : Name → Bool
is_member_name name = not (length name == 0) && list_all is_member_unit name

-- none of `<` and `>`
abbrev pub is_method_unit : ℕ → Bool
is_method_unit unit = not (unit == 60) && not (unit == 62)

-- section 2.9: `<init>`, which initializes an instance, and `<clinit>`, which initializes a class
abbrev pub is_special_name : Name → Bool
is_special_name name = pointwise ◌==◌ name (codes "<init>") || pointwise ◌==◌ name (codes "<clinit>")

-- section 4.2.2: the unqualified name of a method
abbrev pub is_method_name : Name → Bool
is_method_name name = is_special_name name || (is_member_name name && list_all is_method_unit name)

-- ---- how names are printed

-- ASCII that shows: from `!` to `~`
abbrev pub is_visible : ℕ → Bool
is_visible unit = nat_le 0x21 unit && nat_le unit 0x7e

-- a hexadecimal digit below 16, in lower case
abbrev pub hex_digit : ℕ → ℕ
hex_digit digit = if nat_lt digit 10 then 48 + digit else 87 + digit

-- the unit itself, or a backslash, `u` and four digits in place of a backslash and of what is not visible
abbrev pub printed_unit : ℕ → List ℕ
printed_unit unit =
    if is_visible unit && not (unit == 92) then unit ∷ []
    else 92 ∷ 117 ∷ hex_digit (unit / 4096 % 16) ∷ hex_digit (unit / 256 % 16) ∷ hex_digit (unit / 16 % 16) ∷ hex_digit (unit % 16) ∷ []

unfoldable pub printed : Name → List ℕ
printed name = flat_map printed_unit name
