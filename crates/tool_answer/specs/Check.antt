-- Whether bytes may take the place of a class's newest version (JVM TI, "RedefineClasses", its errors), all but the type check, which
-- comes last. The order is this project's own.
use Rattle.std.specs.Prelude.{ℕ, ◌==◌, Bool, not, ◌&&◌, if◌then◌else◌, List, [], ◌∷◌, Option, Some, None, bytes_eq, Result, Ok, Err}
use Rattle.std.specs.List.{list_any}
use Rattle.std.specs.Option.{option_eq}
use Rattle.std.specs.Cmp.Lexicographic.{pointwise}
use Rattle.ti_codes.specs.declared.error.ErrorCode.{ErrorCode}
use Rattle.ti_codes.specs.declared.error.ErrorCode.TheVariants as errors
use Rattle.jv_names.specs.Names.{Name}
use Rattle.class_tree.specs.declared.members.Member.{Member}
use Rattle.class_tree.specs.Trees.{Tree}
use Rattle.class_tree.specs.Tree.{text_at, class_at, first_of}
use Rattle.classfile_items.specs.declared.fault.ReadClassFault.{ReadClassFault}
use Rattle.classfile_items.specs.declared.fault.ReadClassFault.TheVariants.{Version}
use Rattle.classfile_read.specs.ClassReading.{class_of}

-- why bytes are no class file that is accepted
abbrev pub format_refusal : ReadClassFault → ErrorCode
format_refusal (Version offset) = errors.UnsupportedVersion
format_refusal fault = errors.InvalidClassFormat

-- ---- what two versions share

abbrev pub same_text : Option Name → Option Name → Bool
same_text a b = option_eq bytes_eq a b

module _ (old new : Tree) where
  -- classes by their names, in order
  abbrev pub same_class : ℕ → ℕ → Bool
  same_class a b = same_text (class_at old.pool a) (class_at new.pool b)

  abbrev pub same_supers : Bool
  same_supers = same_class old.super_class new.super_class && pointwise same_class old.interfaces new.interfaces

  -- the name and the descriptor
  abbrev pub same_signature : Member → Member → Bool
  same_signature a b = same_text (text_at old.pool a.name) (text_at new.pool b.name) && same_text (text_at old.pool a.desc) (text_at new.pool b.desc)

  abbrev pub same_flags : Member → Member → Bool
  same_flags a b = a.flags.bits == b.flags.bits

  abbrev pub same_fields : Bool
  same_fields = pointwise (λ (a b : Member). same_signature a b && same_flags a b) old.fields new.fields

  -- a method of the old version is missing, or one is there that it hasn't
  abbrev pub is_kept : Member → Bool
  is_kept a = list_any (λ b. same_signature a b) new.methods

  abbrev pub is_known : Member → Bool
  is_known b = list_any (λ a. same_signature a b) old.methods

  -- a method has other flags
  abbrev pub is_changed : Member → Bool
  is_changed a = list_any (λ b. same_signature a b && not (same_flags a b)) new.methods

  -- the first that holds of these
  abbrev pub refusals : List (Option ErrorCode)
  refusals =
      (if same_class old.this_class new.this_class then None else Some errors.NamesDontMatch)
      ∷ (if same_supers then None else Some errors.HierarchyChanged)
      ∷ (if old.flags.bits == new.flags.bits then None else Some errors.ClassModifiersChanged)
      ∷ (if same_fields then None else Some errors.SchemaChanged)
      ∷ (if list_any (λ a. not (is_kept a)) old.methods then Some errors.MethodDeleted else None)
      ∷ (if list_any (λ b. not (is_known b)) new.methods then Some errors.MethodAdded else None)
      ∷ (if list_any is_changed old.methods then Some errors.MethodModifiersChanged else None)
      ∷ []

  abbrev pub tree_refusal : Option ErrorCode
  tree_refusal = first_of (λ (r : Option ErrorCode). r) refusals

-- The tree of the bytes, or what refuses them.
abbrev pub check : Tree → List ℕ → Result Tree ErrorCode
check old bytes = elim (class_of bytes) [
  | Err fault ↦ Err (format_refusal fault)
  | Ok new ↦ elim (tree_refusal old new) [ Some code ↦ Err code | None ↦ Ok new ]
]
