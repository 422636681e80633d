-- Constants that an edit needs (JVM specification 4.4). A constant that is needed is the first one in the pool that stands for the same.
-- Where there is none it is put behind all others, and what it names comes before it.
use Rattle.std.specs.Prelude.{ℕ, ◌+◌, ℤ, List, [], ◌∷◌, ◌++◌, length, Option, Some, None, option_map, codes}
use Rattle.std.specs.Option.{option_map_or}
use Rattle.std.specs.List.{position_from}
use Rattle.std.specs.Cmp.Lexicographic.{pointwise}
use Rattle.std.specs.Prelude.{Bool, false, bytes_eq}
use Rattle.std.specs.Fmt.{signed_decimal}
use Rattle.ti_ids.specs.Maybe.{◌>>=◌}
use Rattle.jv_names.specs.Names.{Name}
use Rattle.class_tree.specs.declared.pool.Const.{Const}
use Rattle.class_tree.specs.declared.pool.Const.TheVariants as const
use Rattle.class_tree.specs.Tree.{entry_at, text_at, class_at, name_type_at}
use Rattle.redefine_check.specs.Equivalence.{constant_parts}

-- ---- what is made over a pool

-- a thing that needs constants of a pool: it, and the pool with them, or nothing where it can't be made
abbrev pub Makes : Type 0 → Type 0
Makes A = List Const → Option (A × List Const)

-- what needs no constant
abbrev pub plain : {A : Type 0} → A → Makes A
plain a pool = Some (a, pool)

-- the second is made of the first, over the pool that the first leaves
abbrev pub given : {A B : Type 0} → Makes A → (A → Makes B) → Makes B
given makes go pool = makes pool >>= λ made. go made.0 made.1

-- one after the other
abbrev pub each : {A B : Type 0} → (A → Makes B) → List A → Makes (List B)
each makes [] = plain []
each makes (x ∷ xs) = given (makes x) (λ y. given (each makes xs) (λ ys. plain (y ∷ ys)))

-- ---- what a constant stands for

-- its kind, and the texts and numbers that it comes down to
pub data Constant : Type 0 where
  Utf8 : Name → Constant
  Integer : ℤ → Constant
  Long : ℤ → Constant
  Class : Name → Constant
  Text : Name → Constant
  NameType : Name → Name → Constant
  Field : Name → Name → Name → Constant
  Method : Name → Name → Name → Constant
  InterfaceMethod : Name → Name → Name → Constant

-- the same as redefine_check says it of an entry
abbrev pub parts : Constant → List (List ℕ)
parts (Utf8 text) = codes "Utf8" ∷ text ∷ []
parts (Integer n) = codes "Integer" ∷ signed_decimal n ∷ []
parts (Long n) = codes "Long" ∷ signed_decimal n ∷ []
parts (Class name) = codes "Class" ∷ name ∷ []
parts (Text text) = codes "String" ∷ text ∷ []
parts (NameType name desc) = codes "NameAndType" ∷ name ∷ desc ∷ []
parts (Field class name desc) = codes "Field" ∷ class ∷ name ∷ desc ∷ []
parts (Method class name desc) = codes "Method" ∷ class ∷ name ∷ desc ∷ []
parts (InterfaceMethod class name desc) = codes "InterfaceMethod" ∷ class ∷ name ∷ desc ∷ []

-- an entry of a pool stands for it
abbrev pub stands_for : List Const → Constant → Const → Bool
stands_for pool constant entry = pointwise bytes_eq (constant_parts pool entry) (parts constant)

-- the entry at an index does
abbrev pub is_at : List Const → Constant → ℕ → Bool
is_at pool constant index = option_map_or (stands_for pool constant) (entry_at pool index) false

-- what the entry at an index stands for
abbrev pub reference : (Name → Name → Name → Constant) → List Const → ℕ → ℕ → Option Constant
reference kind pool class name_type = class_at pool class >>= λ c. name_type_at pool name_type >>= λ p. Some (kind c p.0 p.1)

abbrev pub constant_of : List Const → Const → Option Constant
constant_of pool (const.Utf8 text) = Some (Utf8 text)
constant_of pool (const.Integer n) = Some (Integer n)
constant_of pool (const.Long n) = Some (Long n)
constant_of pool (const.Class name) = option_map Class (text_at pool name)
constant_of pool (const.Text text) = option_map Text (text_at pool text)
constant_of pool (const.NameType name desc) = text_at pool name >>= λ n. option_map (NameType n) (text_at pool desc)
constant_of pool (const.Field class name_type) = reference Field pool class name_type
constant_of pool (const.Method class name_type) = reference Method pool class name_type
constant_of pool (const.InterfaceMethod class name_type) = reference InterfaceMethod pool class name_type
constant_of pool const.Unused = None

abbrev pub constant_at : List Const → ℕ → Option Constant
constant_at pool index = entry_at pool index >>= constant_of pool

-- ---- its index

-- the first index at which it stands
abbrev pub found : List Const → Constant → Option ℕ
found pool constant = position_from (stands_for pool constant) 1 pool

-- an entry behind all others; one that takes two places is followed by the second one (section 4.4.5)
abbrev pub appended : List Const → Makes ℕ
appended entries pool = Some (length pool + 1, pool ++ entries)

-- it where it stands, and else what is made for it
abbrev pub or_made : Constant → Makes ℕ → Makes ℕ
or_made constant makes pool = elim (found pool constant) [ Some index ↦ Some (index, pool) | None ↦ makes pool ]

abbrev pub text_index : Name → Makes ℕ
text_index text = or_made (Utf8 text) (appended (const.Utf8 text ∷ []))

abbrev pub class_index : Name → Makes ℕ
class_index name = or_made (Class name) (given (text_index name) (λ text. appended (const.Class text ∷ [])))

abbrev pub pair_index : Name → Name → Makes ℕ
pair_index name desc =
    or_made (NameType name desc) (given (text_index name) (λ n. given (text_index desc) (λ d. appended (const.NameType n d ∷ []))))

abbrev pub reference_made : (ℕ → ℕ → Const) → Name → Name → Name → Makes ℕ
reference_made kind class name desc = given (class_index class) (λ c. given (pair_index name desc) (λ p. appended (kind c p ∷ [])))

abbrev pub made_index : Constant → Makes ℕ
made_index (Utf8 text) = text_index text
made_index (Integer n) = appended (const.Integer n ∷ [])
made_index (Long n) = appended (const.Long n ∷ const.Unused ∷ [])
made_index (Class name) = class_index name
made_index (Text text) = given (text_index text) (λ t. appended (const.Text t ∷ []))
made_index (NameType name desc) = pair_index name desc
made_index (Field class name desc) = reference_made const.Field class name desc
made_index (Method class name desc) = reference_made const.Method class name desc
made_index (InterfaceMethod class name desc) = reference_made const.InterfaceMethod class name desc

-- The index of a constant that is needed. A pool that is too long then is none of a class file, so that no index need be refused here.
abbrev pub index_of : Constant → Makes ℕ
index_of constant = or_made constant (made_index constant)

-- that of what an index names in another pool; an index that names nothing, as that of no catch type, stays
abbrev pub imported : List Const → ℕ → Makes ℕ
imported donor index = elim (constant_at donor index) [ Some constant ↦ index_of constant | None ↦ plain index ]
