-- Each refusal of the check of a redefinition, by changes of a class by `javac`, and which of two comes first.
use Rattle.std.specs.Prelude.{◌≡◌, ℕ, ◌+◌, [], ◌∷◌, ◌++◌, length, take, drop, map, Option, Some, None, codes, Result, Ok, Err}
use Rattle.std.specs.Option.{option_and_then}
use Rattle.ti_codes.specs.declared.error.ErrorCode.{ErrorCode}
use Rattle.ti_codes.specs.declared.error.ErrorCode.TheVariants as errors
use Rattle.class_tree.specs.declared.pool.Const.TheVariants.{Utf8}
use Rattle.class_tree.specs.declared.members.Member.{Member}
use Rattle.class_tree.specs.Trees.{Tree}
use Rattle.class_tree.specs.Spelling.{class_bytes}
use Rattle.rule_edit.specs.EditFiles.{given}
use Rattle.machine_state.specs.Linked.{tree_of}
use Rattle.tool_answer.specs.Check.{check}

-- the class with a change takes its own place, and that is refused so
abbrev pub IsChecked : (Tree → Tree) → Option ErrorCode → Type 0
IsChecked change code = option_and_then (λ t. refusal (check t (class_bytes (change t)))) (tree_of given) ≡ code
  where
    refusal : Result Tree ErrorCode → Option ErrorCode
    refusal (Ok t) = None
    refusal (Err code) = Some code

-- ---- changes

abbrev pub same : Tree → Tree
same t = t

-- its own name stands nowhere, so that it is no class file
abbrev pub broken : Tree → Tree
broken t = record t { this_class = 0 }

abbrev pub newer : Tree → Tree
newer t = record t { major = 53 }

-- two texts more in the pool, and their indices
abbrev pub with_texts : Tree → Tree
with_texts t = record t { pool = t.pool ++ Utf8 (codes "z") ∷ Utf8 (codes "I") ∷ [] }

abbrev pub z_index : Tree → ℕ
z_index t = length t.pool + 1

abbrev pub i_index : Tree → ℕ
i_index t = length t.pool + 2

abbrev pub renamed : Tree → Tree
renamed t = record t { this_class = t.super_class }

abbrev pub implementing : Tree → Tree
implementing t = record t { interfaces = t.super_class ∷ [] }

-- `public`, and what else it has
abbrev pub opened : Tree → Tree
opened t = record t { flags = record { bits = t.flags.bits + 1 } }

abbrev pub with_field : Tree → Tree
with_field t =
    record (with_texts t) { fields = record { flags = record { bits = 0 }; name = z_index t; desc = i_index t; attrs = [] } ∷ t.fields }

abbrev pub without_last : Tree → Tree
without_last t = record t { methods = take 4 t.methods }

-- a copy of the last method under another name
abbrev pub copied : Tree → Member → Member
copied t m = record m { name = z_index t }

abbrev pub with_copy : Tree → Tree
with_copy t = record (with_texts t) { methods = t.methods ++ map (copied t) (drop 4 t.methods) }

abbrev pub with_other_name : Tree → Tree
with_other_name t = record (with_texts t) { methods = take 4 t.methods ++ map (copied t) (drop 4 t.methods) }

abbrev pub opened_method : Member → Member
opened_method m = record m { flags = record { bits = m.flags.bits + 1 } }

abbrev pub with_open_methods : Tree → Tree
with_open_methods t = record t { methods = map opened_method t.methods }

-- ---- their refusals

pub record RefusedOnce : Type 0 where
  pub none : IsChecked same None
  pub format : IsChecked broken (Some errors.InvalidClassFormat)
  pub version : IsChecked newer (Some errors.UnsupportedVersion)
  pub name : IsChecked renamed (Some errors.NamesDontMatch)
  pub supers : IsChecked implementing (Some errors.HierarchyChanged)
  pub flags : IsChecked opened (Some errors.ClassModifiersChanged)
  pub fields : IsChecked with_field (Some errors.SchemaChanged)
  pub missing : IsChecked without_last (Some errors.MethodDeleted)
  pub added : IsChecked with_copy (Some errors.MethodAdded)
  pub method_flags : IsChecked with_open_methods (Some errors.MethodModifiersChanged)

-- of two the first in order
pub record RefusedInOrder : Type 0 where
  pub format_first : IsChecked (λ t. broken (opened t)) (Some errors.InvalidClassFormat)
  pub version_first : IsChecked (λ t. newer (renamed t)) (Some errors.UnsupportedVersion)
  pub name_first : IsChecked (λ t. renamed (implementing t)) (Some errors.NamesDontMatch)
  pub supers_first : IsChecked (λ t. implementing (opened t)) (Some errors.HierarchyChanged)
  pub flags_first : IsChecked (λ t. opened (with_field t)) (Some errors.ClassModifiersChanged)
  pub fields_first : IsChecked (λ t. with_field (without_last t)) (Some errors.SchemaChanged)
  pub missing_first : IsChecked with_other_name (Some errors.MethodDeleted)
  pub added_first : IsChecked (λ t. with_open_methods (with_copy t)) (Some errors.MethodAdded)
