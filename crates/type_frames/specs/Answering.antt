-- The answer to the type check of a class (JVM specification 4.10.1), as a function: it goes through the code of each method, one
-- instruction after the other. That it answers as the specification's type checker does is a law.
use Rattle.std.specs.Prelude.{ℕ, zero, suc, Bool, true, not, ◌&&◌, List, [], ◌∷◌, length, Option, Some, None, slice_get, is_some}
use Rattle.class_code.specs.declared.instr.Instr.{Instr}
use Rattle.class_tree.specs.declared.body.Code.{Code}
use Rattle.class_tree.specs.declared.members.Member.{Member}
use Rattle.class_tree.specs.Trees.{Tree}
use Rattle.class_tree.specs.Tree.{code_of}
use Rattle.type_frames.specs.Hierarchies.{Known}
use Rattle.type_frames.specs.TypeChecks.{Checked, checked, map_in, is_bad_map, offends_at_once}
use Rattle.type_frames.specs.TypeStates.{typed}

-- the instructions have type states; nothing is asked of none
abbrev pub instructions_pass : Checked → List (ℕ × Instr) → Bool
instructions_pass m [] = true
instructions_pass m (p ∷ instrs) = is_some (typed m)

abbrev pub code_passes : Known → Tree → Member → Option Code → Bool
code_passes h t m None = true
code_passes h t m (Some code) = not (is_bad_map (map_in t m code)) && instructions_pass (checked h t m code) (checked h t m code).env.instrs

abbrev pub method_passes : Known → Tree → ℕ → Member → Bool
method_passes h t place m = not (offends_at_once h t place m) && code_passes h t m (code_of m.attrs)

-- the method at a place, if there is one
abbrev pub place_passes : Known → Tree → ℕ → Option Member → Bool
place_passes h t place None = true
place_passes h t place (Some m) = method_passes h t place m

-- those at all places below
abbrev pub passes_below : Known → Tree → ℕ → Bool
passes_below h t zero = true
passes_below h t (suc place) = passes_below h t place && place_passes h t place (slice_get t.methods place)

abbrev pub class_passes : Known → Tree → Bool
class_passes h t = passes_below h t (length t.methods)
