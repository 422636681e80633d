-- What a class that was read keeps.
use Rattle.std.specs.Prelude.{◌≡◌, ℕ, List, Option, Some, None, true, false, if◌then◌else◌}
use Rattle.first_form.specs.declared.Instr.{Instr}
use Rattle.first_form.specs.ClassFiles.{MainClass, is_own_name, is_own_code, is_main_class}
use Rattle.first_form.specs.Instructions.{listing}

-- its name and its code are accepted, and these are the code's instructions
pub record IsKept (name code : List ℕ) (instructions : List (ℕ × Instr)) : Type 0 where
  pub named : is_own_name name ≡ true
  pub coded : is_own_code code ≡ true
  pub listed : listing code ≡ Some instructions

-- an answer about a code: its instructions, where it is accepted
abbrev pub AcceptsCode : List ℕ → Option (List (ℕ × Instr)) → Type 0
AcceptsCode code (Some instructions) = (is_own_code code ≡ true) × (listing code ≡ Some instructions)
AcceptsCode code None = is_own_code code ≡ false

-- the class of a name and a code, where both are accepted
abbrev pub accepted_class : List ℕ → List ℕ → Option MainClass
accepted_class name code = let c : MainClass = record { name = name; code = code } in if is_main_class c then Some c else None
