-- The laws of the grammar of class files (JVM specification, chapter 4): of trees and the bytes that spell them, and of what is
-- found in bytes.
use Rattle.std.specs.Prelude.{◌≡◌, ◌≢◌, ◌⊎◌, ℕ, ◌<◌, true, List, ◌++◌, length, Ok, Err}
use Rattle.class_tree.specs.Ranges.{are_bytes}
use Rattle.class_tree.specs.Spelling.{class_bytes}
use Rattle.class_tree.specs.Trees.{Tree}
use Rattle.class_tree.specs.WellFormed.{is_well_formed}
use Rattle.classfile_items.specs.declared.fault.ReadClassFault.{ReadClassFault}
use Rattle.classfile_items.specs.declared.fault.ReadClassFault.TheVariants.{Truncated, Trailing, Memory}
use Rattle.classfile_read.specs.ClassReading.{class_of}
use Rattle.classfile_read.specs.Lawful.{Spells, FirstFault}

-- Bytes are the class file of at most one tree.
abbrev pub OneTree : Type 0
OneTree = (bytes : List ℕ) (t u : Tree) → Spells t bytes → Spells u bytes → t ≡ u

-- A tree has at most one class file.
abbrev pub OneSpelling : Type 0
OneSpelling = (t : Tree) (a b : List ℕ) → Spells t a → Spells t b → a ≡ b

-- A well-formed tree with a superclass has one: what it is written as.
abbrev pub IsSpelled : Type 0
IsSpelled = (t : Tree) → is_well_formed t ≡ true → t.super_class ≢ 0 → Spells t (class_bytes t)

-- Numbers below 256 are a class file, or have a first fault.
abbrev pub TreeOrFault : Type 0
TreeOrFault = (bytes : List ℕ) → are_bytes bytes ≡ true → ((t : Tree) × Spells t bytes) ⊎ ((fault : ReadClassFault) × FirstFault bytes fault)

-- Bytes that have a fault are no class file.
abbrev pub NotBoth : Type 0
NotBoth = (bytes : List ℕ) (fault : ReadClassFault) (t : Tree) → FirstFault bytes fault → Spells t bytes → ⊥

-- What a well-formed tree with a superclass is written as is read as that tree.
abbrev pub ReadBack : Type 0
ReadBack = (t : Tree) → is_well_formed t ≡ true → t.super_class ≢ 0 → class_of (class_bytes t) ≡ Ok t

-- A tree that was read from bytes is written as the same bytes.
abbrev pub WrittenBack : Type 0
WrittenBack = (bytes : List ℕ) (t : Tree) → are_bytes bytes ≡ true → class_of bytes ≡ Ok t → class_bytes t ≡ bytes

-- It is never found that memory ran out.
abbrev pub NoMemory : Type 0
NoMemory = (bytes : List ℕ) → class_of bytes ≢ Err Memory

-- What shows in bytes doesn't depend on what follows them: their first fault is that of each file that begins with them, unless it
-- says that they are cut off. So a file's fault shows in each of its fronts that is long enough.
abbrev pub ShowsAtOnce : Type 0
ShowsAtOnce = (bytes more : List ℕ) (fault : ReadClassFault) → FirstFault bytes fault → fault ≢ Truncated (length bytes) → FirstFault (bytes ++ more) fault

-- A front of a file that has a fault has the same one, or is cut off, or is a class file, behind which bytes follow.
abbrev pub ShowsInFronts : Type 0
ShowsInFronts = (bytes more : List ℕ) (fault : ReadClassFault) → are_bytes bytes ≡ true → FirstFault (bytes ++ more) fault → FirstFault bytes fault ⊎ FirstFault bytes (Truncated (length bytes)) ⊎ ((t : Tree) × Spells t bytes)

-- A front of a class file that isn't all of it is cut off.
abbrev pub FrontsAreCut : Type 0
FrontsAreCut = (t : Tree) (bytes more : List ℕ) → Spells t (bytes ++ more) → 0 < length more → FirstFault bytes (Truncated (length bytes))

-- Bytes behind a class file are trailing.
abbrev pub BehindIsTrailing : Type 0
BehindIsTrailing = (t : Tree) (bytes more : List ℕ) → Spells t bytes → 0 < length more → FirstFault (bytes ++ more) (Trailing (length bytes))
