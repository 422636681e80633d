-- How the code holds the classes that it knows: each under its name.
use Rattle.std.specs.Prelude.{◌≡◌, ℕ, List, Vec, All}
use Rattle.std.specs.declared.alloc.Global.{Global}
use Rattle.type_frames.specs.declared.hierarchy.HierarchyClass.{HierarchyClass}

abbrev pub AreKeyed : List (Vec ℕ Global × HierarchyClass) → Type 0
AreKeyed entries = All (λ e. e.0.items ≡ e.1.name) entries
