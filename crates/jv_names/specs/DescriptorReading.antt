-- How the code reads a type at the front of a text. No public clause cites it but by DescriptorFlaws.antt.
use Rattle.std.specs.Prelude.{List, ◌++◌, flat_map, ◌==◌, IsTrue, ◌≡◌, ℕ, ◌+◌, [], ◌∷◌, take, drop, Bool, not, if◌then◌else◌, Option, Some, None, option_map, Result, Ok, Err}
use Rattle.std.specs.Option.{option_and_then}
use Rattle.std.specs.List.{position, list_any, AllByRecursion}
use Rattle.jv_names.specs.declared.descriptor.ElementType.{ElementType}
use Rattle.jv_names.specs.declared.descriptor.ElementType.TheVariants.{Boolean, Byte, Char, Short, Int, Long, Class}
use Rattle.jv_names.specs.declared.descriptor.FieldType.{FieldType}
use Rattle.jv_names.specs.declared.descriptor.ReadElement.{ReadElement}
use Rattle.jv_names.specs.declared.descriptor.ReadElement.TheVariants.{Kept as ReadKept, Float as ReadFloat, Double as ReadDouble, Class as ReadClass}
use Rattle.jv_names.specs.declared.descriptor.ReadType.{ReadType}
use Rattle.jv_names.specs.declared.descriptor.DescFault.{DescFault}
use Rattle.jv_names.specs.declared.descriptor.DescFault.TheVariants.{Bad, Floating, Memory}
use Rattle.jv_names.specs.Names.{Name, is_class_name}
use Rattle.jv_names.specs.Descriptors.{AnyElement, Kept, Float, Double, AnyType, type_text, result_text, IsNamedType, IsNamedResult, is_floating_type, is_floating_result}

-- where the first `;` stands
unfoldable pub class_end : Name → Option ℕ
class_end text = position (λ unit. unit == 59) text

-- how many `[` stand in front of another unit
unfoldable pub dimensions : Name → Option ℕ
dimensions text = position (λ unit. not (unit == 91)) text

unfoldable pub split_class : Name → Option (Name × Name)
split_class text = option_map (λ end. (take end text, drop (end + 1) text)) (class_end text)

unfoldable pub split_dimensions : Name → Option (ℕ × Name)
split_dimensions text = option_map (λ n. (n, drop n text)) (dimensions text)

abbrev pub named_class : Name × Name → Option (AnyElement × Name)
named_class x = if is_class_name x.0 then Some (Kept (Class x.0), x.1) else None

unfoldable pub read_class : Name → Option (AnyElement × Name)
read_class text = option_and_then named_class (split_class text)

unfoldable pub read_element : Name → Option (AnyElement × Name)
read_element [] = None
read_element (unit ∷ rest) =
    if unit == 90 then Some (Kept Boolean, rest) else
    if unit == 66 then Some (Kept Byte, rest) else
    if unit == 67 then Some (Kept Char, rest) else
    if unit == 83 then Some (Kept Short, rest) else
    if unit == 73 then Some (Kept Int, rest) else
    if unit == 74 then Some (Kept Long, rest) else
    if unit == 70 then Some (Float, rest) else
    if unit == 68 then Some (Double, rest) else
    if unit == 76 then read_class rest else None

abbrev pub under : ℕ → AnyElement × Name → AnyType × Name
under dimensions x = (record { dimensions = dimensions; element = x.0 }, x.1)

unfoldable pub read_type : Name → Option (AnyType × Name)
read_type text = option_and_then (λ x. option_map (under x.0) (read_element x.1)) (split_dimensions text)

-- ---- what the code holds of it before memory is taken

abbrev pub any_element : ReadElement → AnyElement
any_element (ReadKept element) = Kept element
any_element ReadFloat = Float
any_element ReadDouble = Double
any_element (ReadClass name) = Kept (Class name.now)

abbrev pub any_read : ReadType → AnyType
any_read t = record { dimensions = t.dimensions; element = any_element t.element }

-- ---- what the code answers of it: nothing for a type of floating point

abbrev pub kept_element : AnyElement → Option ElementType
kept_element (Kept element) = Some element
kept_element Float = None
kept_element Double = None

abbrev pub kept_type : AnyType → Option FieldType
kept_type t = option_map (λ e. record { dimensions = t.dimensions; element = e }) (kept_element t.element)

-- why nothing was read
abbrev pub IsUnread : {X : Type 0} → Option X → DescFault → Type 0
IsUnread read Bad = read ≡ None
IsUnread read Floating = ⊥
IsUnread read Memory = Unit {0}

-- the answer to what was read, unless memory ran out
abbrev pub Reads : {A B V : Type 0} → (A → Option B) → (V → Option B × Name) → Result V DescFault → Option (A × Name) → Type 0
Reads kept view (Ok answer) read = option_map (λ x. (kept x.0, x.1)) read ≡ Some (view answer)
Reads kept view (Err fault) read = IsUnread read fault

-- ---- whether what was read is of floating point, and what follows it

abbrev pub floating_one : AnyType × Name → Bool × Name
floating_one x = (is_floating_type x.0, x.1)

-- one of these
abbrev pub floating_some : List AnyType × Name → Bool × Name
floating_some x = (list_any is_floating_type x.0, x.1)

-- ---- several types, and a result

-- nothing if one of them is of floating point
abbrev pub with_kept : Option FieldType → Option (List FieldType) → Option (List FieldType)
with_kept None others = None
with_kept (Some t) None = None
with_kept (Some t) (Some others) = Some (t ∷ others)

abbrev pub kept_types : List AnyType → Option (List FieldType)
kept_types [] = Some []
kept_types (t ∷ ts) = with_kept (kept_type t) (kept_types ts)

-- the same with one more
abbrev pub with_last : Option (List FieldType) → Option FieldType → Option (List FieldType)
with_last None last = None
with_last (Some ts) None = None
with_last (Some ts) (Some last) = Some (ts ++ last ∷ [])

-- types in front of the rest, and what is kept of them
pub record AreTypes (text : Name) (kept : Option (List FieldType)) (rest : Name) : Type 0 where
  pub types : List AnyType
  pub named : AllByRecursion IsNamedType types
  pub spelled : text ≡ flat_map type_text types ++ rest
  pub are_kept : kept_types types ≡ kept

-- the same, with the `)` behind them
abbrev pub AreParameters : Name → Option (List FieldType) → Name → Type 0
AreParameters text kept rest = AreTypes text kept (41 ∷ rest)

-- no parameters and their `)` stand in front
abbrev pub NoParameters : Name → Type 0
NoParameters text = (ts : List AnyType) (rest : Name) → AllByRecursion IsNamedType ts → text ≡ flat_map type_text ts ++ 41 ∷ rest → ⊥

pub record IsResultText (text : Name) (r : Option AnyType) : Type 0 where
  pub named : IsNamedResult r
  pub spelled : text ≡ result_text r

abbrev pub ResultFault : Name → DescFault → Type 0
ResultFault text Bad = (r : Option AnyType) → ¬ IsResultText text r
ResultFault text Floating = (r : Option AnyType) × IsResultText text r × IsTrue (is_floating_result r)
ResultFault text Memory = ⊥

-- the fault of a text that no parameters begin, unless memory ran out
abbrev pub IsNoParameters : Name → DescFault → Type 0
IsNoParameters text Bad = NoParameters text
IsNoParameters text Floating = ⊥
IsNoParameters text Memory = Unit {0}
