-- What the bytes of fetched files are: class files, of which no two have one name and none has a base class's, and a schedule.
use Rattle.std.specs.Prelude.{ℕ, ◌+◌, List, [], ◌∷◌, length, Some, None, unwrap_or, Bool, ◌||◌, bytes_eq, if◌then◌else◌, Ok, Err}
use Rattle.std.specs.List.{list_any}
use Rattle.ti_ids.specs.declared.actor.Actor.{Actor}
use Rattle.jv_names.specs.Names.{Name}
use Rattle.class_tree.specs.Trees.{Tree}
use Rattle.class_tree.specs.Tree.{class_at}
use Rattle.class_tree.specs.Spelling.{pool_bytes}
use Rattle.classfile_items.specs.declared.fault.ReadClassFault.TheVariants.{Duplicate}
use Rattle.classfile_items.specs.Reading.{Checked}
use Rattle.classfile_read.specs.ClassReading.{class_of}
use Rattle.base_set.specs.BaseSet.{is_base}
use Rattle.report_text.specs.Stated.{stated}
use Rattle.job_words.specs.declared.refusal.Refusal.TheVariants.{BadClass, BadText}
use Rattle.job_words.specs.Fetches.{Admitted, ◌>>=◌}

-- ---- class files

abbrev pub own_name : Tree → Name
own_name t = unwrap_or (class_at t.pool t.this_class) []

-- where the index of the class's own name stands (JVM specification 4.1): behind the first 8 bytes, the constant pool and the flags
abbrev pub own_name_offset : Tree → ℕ
own_name_offset t = 8 + length (pool_bytes t.pool) + 2

-- a class has the name of a base class or of one of these
abbrev pub is_taken : List Name → Name → Bool
is_taken earlier name = is_base name || list_any (bytes_eq name) earlier

abbrev pub free_name : List Name → Tree → Checked Name
free_name earlier t = if is_taken earlier (own_name t) then Err (Duplicate (own_name_offset t)) else Ok (own_name t)

-- the name of the class in a file behind those of these names; a fault of the file's own comes before the fault of its name
abbrev pub name_in : List Name → List ℕ → Checked Name
name_in earlier bytes = elim (class_of bytes) [ Err fault ↦ Err fault | Ok t ↦ free_name earlier t ]

abbrev pub class_name : ℕ → List Name → List ℕ → Admitted Name
class_name place earlier bytes = elim (name_in earlier bytes) [ Err fault ↦ Err (BadClass place fault) | Ok name ↦ Ok name ]

-- the names of the classes in these files, of which the first has this place, or the refusal of the first file that isn't accepted
abbrev pub class_names : ℕ → List Name → List (List ℕ) → Admitted (List Name)
class_names place earlier [] = Ok []
class_names place earlier (bytes ∷ others) =
    class_name place earlier bytes >>= λ name. class_names (place + 1) (name ∷ earlier) others >>= λ names. Ok (name ∷ names)

-- ---- schedules

abbrev pub schedule_in : List ℕ → Admitted (List Actor)
schedule_in text = elim (stated text) [ None ↦ Err BadText | Some schedule ↦ Ok schedule ]
