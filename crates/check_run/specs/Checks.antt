-- What is said of a class file.
use Rattle.std.specs.Prelude.{◌≡◌, ◌≢◌, ℕ, List, length}
use Rattle.class_tree.specs.Trees.{Tree}
use Rattle.classfile_items.specs.declared.fault.ReadClassFault.TheVariants.{Memory}
use Rattle.classfile_read.specs.Lawful.{Spells, FirstFault}
use Rattle.check_run.specs.declared.check.Checked.{Checked}
use Rattle.check_run.specs.declared.check.Checked.TheVariants.{Accepted, Refused}

-- The bytes are the class file of a tree.
abbrev pub IsClassFile : List ℕ → Type 0
IsClassFile bytes = (t : Tree) × Spells t bytes

-- The bytes are a class file, of this length, or this is their first fault, and not want of memory.
abbrev pub Tells : List ℕ → Checked → Type 0
Tells bytes (Accepted count) = IsClassFile bytes × (count ≡ length bytes)
Tells bytes (Refused fault) = FirstFault bytes fault × (fault ≢ Memory)
