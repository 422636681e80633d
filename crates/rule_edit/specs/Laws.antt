-- The laws of what rules make of classes.
use Rattle.std.specs.Prelude.{◌≡◌, ℕ, true, List, [], ◌++◌, Some, None, Ok}
use Rattle.std.specs.List.{AllByRecursion}
use Rattle.jv_names.specs.Names.{Name}
use Rattle.agent_types.specs.declared.rule.Rule.{Rule}
use Rattle.agent_types.specs.declared.rule.Edit.{Edit}
use Rattle.agent_types.specs.declared.rule.Edit.TheVariants as edit
use Rattle.class_tree.specs.declared.pool.Const.{Const}
use Rattle.class_tree.specs.Trees.{Tree}
use Rattle.class_tree.specs.Ranges.{are_bytes}
use Rattle.classfile_read.specs.ClassReading.{class_of}
use Rattle.rule_edit.specs.Constants.{Constant, index_of}
use Rattle.rule_edit.specs.Edits.{edited}
use Rattle.rule_edit.specs.Turns.{rules_for, set_turn}

-- A set that has no rule for the class makes nothing of it.
abbrev pub NoneForOthers : Type 0
NoneForOthers = (donors : List (List ℕ)) (rules : List Rule) (set class : Name) (bytes : List ℕ)
    → rules_for rules set class ≡ [] → set_turn donors rules set class bytes ≡ None

-- an edit is of the class file's parts
abbrev pub IsOfParts : Edit → Type 0
IsOfParts (edit.File donor) = ⊥
IsOfParts e = Unit {0}

-- What an edit of a class file's parts makes is an accepted class file.
abbrev pub MadeIsAccepted : Type 0
MadeIsAccepted = (donors : List (List ℕ)) (e : Edit) (bytes made : List ℕ)
    → IsOfParts e → edited donors e bytes ≡ Some made → (t : Tree) × (class_of made ≡ Ok t)

-- Of bytes a set makes bytes, where the donors are bytes.
abbrev pub BytesOfBytes : Type 0
BytesOfBytes = (donors : List (List ℕ)) (rules : List Rule) (set class : Name) (bytes made : List ℕ)
    → AllByRecursion (λ d. are_bytes d ≡ true) donors → are_bytes bytes ≡ true → set_turn donors rules set class bytes ≡ Some made → are_bytes made ≡ true

-- A constant that is needed leaves all entries where they are: those that are made for it stand behind them.
abbrev pub EntriesStay : Type 0
EntriesStay = (constant : Constant) (pool : List Const) (made : ℕ × List Const)
    → index_of constant pool ≡ Some made → (more : List Const) × (made.1 ≡ pool ++ more)
