-- The words of a call.
use Rattle.std.specs.Prelude.{ℕ, List, map, String, string_bytes}
use Rattle.std.specs.declared.alloc.Global.{Global}
use Rattle.machine_model.specs.Results.{Request}

-- the bytes of each word
abbrev pub texts : List (String Global) → List (List ℕ)
texts words = map string_bytes words

abbrev pub as_request : List ℕ → List ℕ → Request
as_request main file = record { main = main; file = file }
