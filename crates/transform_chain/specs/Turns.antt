-- What transformers make of the bytes of a class, one after the other (`java.lang.instrument`, `ClassFileTransformer.transform`; JVM TI,
-- "ClassFileLoadHook").
use Rattle.std.specs.Prelude.{ℕ, not, List, Option, unwrap_or, fold, scan, bytes_eq}
use Rattle.jv_names.specs.Names.{Name}
use Rattle.transform_chain.specs.declared.active.Active.{Active}
use Rattle.transform_chain.specs.declared.folded.Turn.{Turn}
use Rattle.transform_chain.specs.declared.folded.Folded.{Folded}
use Rattle.transform_chain.specs.Groups.{up_to_group, from_group}

-- what a transformer makes of the bytes of a class, or nothing
abbrev pub Does : Type 0
Does = Name → List ℕ → Option (List ℕ)

module _ (class : Name) where
  -- the bytes after a turn, which leaves them where it makes nothing
  abbrev pub turned : List ℕ → Active Does → List ℕ
  turned bytes t = unwrap_or (t.transformer class bytes) bytes

  -- the bytes after the turns of all of these
  abbrev pub folded : List (Active Does) → List ℕ → List ℕ
  folded ts bytes = fold turned bytes ts

  -- what is told of a turn at these bytes, and of the turns of all of these
  abbrev pub turn_told : List ℕ → Active Does → Turn
  turn_told bytes t = record { env = t.env; set = t.set; changed = not (bytes_eq bytes (turned bytes t)) }

  abbrev pub turns_told : List (Active Does) → List ℕ → List Turn
  turns_told ts bytes = scan turned turn_told bytes ts

  -- what the turns come to of those transformers that are of this group or a later one
  abbrev pub fold_from : ℕ → List (Active Does) → List ℕ → Folded
  fold_from first ts bytes =
      let asked = from_group first ts in
      record { left = folded (up_to_group 2 asked) bytes; made = folded asked bytes; turns = turns_told asked bytes }
