-- What a class file is: JVM specification, chapter 4. A file spells a tree, or it has a fault.
use Rattle.std.specs.Prelude.{◌≡◌, ◌≢◌, ◌⊎◌, ℕ, true, List, Result, Err, MatchResult}
use Rattle.class_tree.specs.Trees.{Tree}
use Rattle.class_tree.specs.Spelling.{class_bytes}
use Rattle.class_tree.specs.WellFormed.{is_well_formed}
use Rattle.classfile_items.specs.declared.fault.ReadClassFault.{ReadClassFault}
use Rattle.classfile_items.specs.declared.fault.ReadClassFault.TheVariants.{Memory}
use Rattle.classfile_read.specs.ClassReading.{class_of}

-- The bytes are the class file of this tree, which has a superclass: one without is no file that is read.
pub record Spells (t : Tree) (bytes : List ℕ) : Type 0 where
  pub well_formed : is_well_formed t ≡ true
  pub super : t.super_class ≢ 0
  pub spelled : bytes ≡ class_bytes t

-- the first fault that shows when the bytes are read in order
abbrev pub FirstFault : List ℕ → ReadClassFault → Type 0
FirstFault bytes fault = class_of bytes ≡ Err fault

-- ---- what an answer says

-- an answer is this tree, as `view` sees its value, unless memory ran out
abbrev pub Gives : {A : Type 0} → (A → Tree) → Result A ReadClassFault → Tree → Type 0
Gives view answer t = MatchResult answer (λ x. view x ≡ t) (λ fault. fault ≡ Memory)

-- an answer is this fault, unless memory ran out
abbrev pub Refuses : {A : Type 0} → Result A ReadClassFault → ReadClassFault → Type 0
Refuses answer fault = MatchResult answer (λ x. ⊥) (λ other. (other ≡ Memory) ⊎ (other ≡ fault))
