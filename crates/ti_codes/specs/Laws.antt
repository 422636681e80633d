-- The laws of the tables: no two rows share a number or a name, and each row is in the list of its table.
use Rattle.std.specs.Prelude.{◌≡◌, Option, Some}
use Rattle.ti_codes.specs.Phases.{phase_number}
use Rattle.ti_codes.specs.Capabilities.{capability_bit, capability_name, capability_of_bit, capability_of_name}
use Rattle.ti_codes.specs.Events.{event_number, event_name, event_of_number, event_of_name}
use Rattle.ti_codes.specs.Errors.{error_number, error_name, error_of_number, error_of_name}
use Rattle.ti_codes.specs.Calls.{call_name, call_of_name}

-- what is said of rows says which one it is
abbrev pub Differ : {A B : Type 0} → (A → B) → Type 0
Differ {A} said = (a b : A) → said a ≡ said b → a ≡ b

-- each row is found in its list by what is said of it
abbrev pub IsFound : {A B : Type 0} → (A → B) → (B → Option A) → Type 0
IsFound {A} said find = (a : A) → find (said a) ≡ Some a

-- Phases differ by their numbers, and the rows of the other tables by their numbers and by their names.
pub record RowsDiffer : Type 0 where
  pub phase_numbers : Differ phase_number
  pub capability_bits : Differ capability_bit
  pub capability_names : Differ capability_name
  pub event_numbers : Differ event_number
  pub event_names : Differ event_name
  pub error_numbers : Differ error_number
  pub error_names : Differ error_name
  pub call_names : Differ call_name

-- Each row is found in the list of its table by its number and by its name.
pub record RowsAreListed : Type 0 where
  pub capability_bits : IsFound capability_bit capability_of_bit
  pub capability_names : IsFound capability_name capability_of_name
  pub event_numbers : IsFound event_number event_of_number
  pub event_names : IsFound event_name event_of_name
  pub error_numbers : IsFound error_number error_of_number
  pub error_names : IsFound error_name error_of_name
  pub call_names : IsFound call_name call_of_name
