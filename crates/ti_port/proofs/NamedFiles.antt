-- A map of names to bytes, and the list of its files.
use Rattle.std.proofs.Common.{◌≡◌, ℕ, Bool, true, false, cond, List, [], ◌∷◌, map, refl}
use Rattle.std.specs.Prelude.{Option, Some, Vec, String, option_map, string_bytes}
use Rattle.std.specs.BTreeMap.{is_at, get_by_text}
use Rattle.std.specs.Map.{lookup}
use Rattle.std.specs.Str.{bytes_eq}
use Rattle.std.specs.declared.alloc.Global.{Global}
use Rattle.std.proofs.lemmas.Map.Text.{text_cmp, is_eq-slice_cmp}
use Rattle.ti_port.specs.MemStore.{NamedFiles, files_of, file_in, named_bytes}

-- the bytes of the file that a test chooses
chosen_bytes : (b : Bool) (v : Vec ℕ Global) (rest : Option (Vec ℕ Global)) (others : Option (List ℕ)) → others ≡ option_map (λ v. v.items) rest → cond b (Some v.items) others ≡ option_map (λ v. v.items) (cond b (Some v) rest)
chosen_bytes true v rest others same = refl
chosen_bytes false v rest others same = same

lookup-named_bytes : (es : List (String Global × Vec ℕ Global)) (name : List ℕ) → lookup (bytes_eq name) (map named_bytes es) ≡ option_map (λ v. v.items) (lookup (is_at (text_cmp name)) es)
lookup-named_bytes [] name = refl
lookup-named_bytes (e ∷ es) name = rw (is_eq-slice_cmp name (string_bytes e.0)) (chosen_bytes (bytes_eq name (string_bytes e.0)) e.1 _ _ (lookup-named_bytes es name))

-- a file of the list is what the map has at that name
pub file_in-files_of : (files : NamedFiles) (name : List ℕ) → file_in (files_of files) name ≡ option_map (λ v. v.items) (get_by_text files name)
file_in-files_of files name = lookup-named_bytes files.entries name

pub ruleset found_files = (file_in-files_of)
