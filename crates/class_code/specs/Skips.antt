-- What private functions say of the parts of an instruction that they skip. No contract of a public function cites this.
use Rattle.std.specs.Prelude.{◌≡◌, ℕ, ℤ, FitsSigned, List, ◌++◌, length, Option, None}
use Rattle.std.specs.List.{flat_map, AllByRecursion}
use Rattle.std.specs.Int.{w32}
use Rattle.class_code.specs.declared.form.Form.{Form}
use Rattle.class_code.specs.declared.form.Form.TheVariants as form
use Rattle.class_code.specs.declared.instr.TableSwitch.{TableSwitch}
use Rattle.class_code.specs.declared.instr.LookupSwitch.{LookupSwitch}
use Rattle.class_code.specs.Spelling.{s4, pair_bytes, Rises, IsTable, IsLookup, table_bytes, lookup_bytes}
use Rattle.class_code.specs.Ranges.{PairFits, TableFits, LookupFits}
use Rattle.class_code.specs.Faults.{last_key}

-- the form's operands are the same wherever it stands
abbrev pub IsPlain : Form → Type 0
IsPlain form.TableSwitch = ⊥
IsPlain form.LookupSwitch = ⊥
IsPlain f = Unit {0}

-- so many numbers of four bytes
pub record SkipsWords (count : ℕ) (bytes after : List ℕ) : Type 0 where
  pub words : List ℤ
  pub fits : AllByRecursion (FitsSigned w32) words
  pub count_is : length words ≡ count
  pub parts : bytes ≡ flat_map s4 words ++ after

-- so many pairs whose keys rise, of which the last has this key
pub record SkipsPairs (count : ℕ) (last : Option ℤ) (bytes after : List ℕ) : Type 0 where
  pub pairs : List (ℤ × ℤ)
  pub fits : AllByRecursion PairFits pairs
  pub count_is : length pairs ≡ count
  pub rising : Rises None pairs
  pub last_is : last ≡ last_key None pairs
  pub parts : bytes ≡ flat_map pair_bytes pairs ++ after

-- what follows the opcode of a `tableswitch` at this offset
pub record SkipsTable (at : ℕ) (bytes after : List ℕ) : Type 0 where
  pub table : TableSwitch
  pub fits : TableFits table
  pub stands : IsTable at table
  pub parts : bytes ≡ table_bytes table ++ after

-- what follows the opcode of a `lookupswitch` at this offset
pub record SkipsLookup (at : ℕ) (bytes after : List ℕ) : Type 0 where
  pub lookup : LookupSwitch
  pub fits : LookupFits lookup
  pub stands : IsLookup at lookup
  pub parts : bytes ≡ lookup_bytes lookup ++ after
