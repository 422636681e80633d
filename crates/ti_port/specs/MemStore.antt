-- Files in memory: what a store holds, and what a fetch makes of it.
use Rattle.std.specs.Prelude.{ℕ, List, Option, None, Some, Result, Ok, Err, Vec, String, string_bytes, map}
use Rattle.std.specs.BTreeMap.{BTreeMap}
use Rattle.std.specs.Map.{lookup}
use Rattle.std.specs.Str.{bytes_eq}
use Rattle.std.specs.declared.alloc.AllocError.{AllocError}
use Rattle.std.specs.declared.alloc.Global.{Global}
use Rattle.ti_port.specs.Port.{next_count}
use Rattle.ti_port.specs.declared.store.Fetched.{Fetched}
use Rattle.ti_port.specs.declared.store.Fetched.TheVariants.{Found, Absent, TooLong, Failed}

-- files by their names, as a program holds them
abbrev pub NamedFiles : Type 0
NamedFiles = BTreeMap (String Global) (Vec ℕ Global)

-- the bytes of a name, and those of its file
abbrev pub named_bytes : String Global × Vec ℕ Global → List ℕ × List ℕ
named_bytes file = (string_bytes file.0, file.1.items)

-- each name and its file, in the order of the names
abbrev pub files_of : NamedFiles → List (List ℕ × List ℕ)
files_of files = map named_bytes files.entries

-- the bytes of the file of this name, if there is one
abbrev pub file_in : List (List ℕ × List ℕ) → List ℕ → Option (List ℕ)
file_in files name = lookup (bytes_eq name) files

-- the files, the numbers of the fetches that fail, the fetches made, those of them that failed, and the last name that did
pub record StoreState : Type 0 where
  pub files : List (List ℕ × List ℕ)
  pub failing : List ℕ
  pub calls : ℕ
  pub faults : ℕ
  pub failed : Option (List ℕ)

-- a store before its first fetch
abbrev pub new_store : List (List ℕ × List ℕ) → List ℕ → StoreState
new_store files failing = record { files = files; failing = failing; calls = 0; faults = 0; failed = None }

-- the store after a fetch of this name with this answer: each fetch is counted, and only a failed one is a fault
abbrev pub after_fetch : StoreState → List ℕ → Result Fetched AllocError → StoreState
after_fetch store name (Ok (Found v)) = record store { calls = next_count store.calls }
after_fetch store name (Ok Absent) = record store { calls = next_count store.calls }
after_fetch store name (Ok TooLong) = record store { calls = next_count store.calls }
after_fetch store name (Ok Failed) = record store { calls = next_count store.calls; faults = next_count store.faults; failed = Some name }
after_fetch store name (Err e) = record store { calls = next_count store.calls }
