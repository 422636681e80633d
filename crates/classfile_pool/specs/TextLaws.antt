-- The laws of a text that is whole in the file, and so doesn't reach past its end: what is found of it is what its own bytes say
-- (JVM specification 4.4.7).
use Rattle.std.specs.Prelude.{◌≡◌, ℕ, ◌+◌, ◌≤◌, List, length, take, drop, Ok, Err}
use Rattle.jv_names.specs.Names.{Name}
use Rattle.jv_names.specs.Utf8.{SpellsText, IsFirstBad}
use Rattle.classfile_items.specs.declared.fault.ReadClassFault.{ReadClassFault}
use Rattle.classfile_items.specs.declared.fault.ReadClassFault.TheVariants.{BadText}
use Rattle.classfile_items.specs.Reading.{offset}
use Rattle.classfile_pool.specs.PoolReading.{units_from}

-- Bytes that spell a text are read as that text.
abbrev pub TextIsRead : Type 0
TextIsRead = (end len : ℕ) (bytes : List ℕ) (text : Name) → len ≤ length bytes → SpellsText text (take len bytes) → units_from end len len bytes ≡ Ok (text, drop len bytes)

-- The first byte that begins no unit is the fault.
abbrev pub FirstBadIsFault : Type 0
FirstBadIsFault = (end len at : ℕ) (bytes : List ℕ) → length bytes ≤ end → len ≤ length bytes → IsFirstBad (take len bytes) at → units_from end len len bytes ≡ Err (BadText (offset end bytes + at))

-- There is no other fault.
abbrev pub FaultIsFirstBad : Type 0
FaultIsFirstBad = (end len : ℕ) (bytes : List ℕ) (fault : ReadClassFault) → length bytes ≤ end → len ≤ length bytes → units_from end len len bytes ≡ Err fault → (at : ℕ) × IsFirstBad (take len bytes) at × (fault ≡ BadText (offset end bytes + at))
