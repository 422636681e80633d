-- How type states that are given out are found again, for the methods of a class.
use Rattle.std.specs.Prelude.{◌≡◌, ℕ, List, [], map, option_map, true, false, Option, Some, unwrap_or, slice_get}
use Rattle.ti_ids.specs.Maybe.{◌>>=◌}
use Rattle.class_tree.specs.declared.body.Code.{Code}
use Rattle.class_tree.specs.declared.members.Member.{Member}
use Rattle.class_tree.specs.Trees.{Tree}
use Rattle.class_tree.specs.Tree.{code_of}
use Rattle.class_tree.specs.CodeRules.{is_code}
use Rattle.type_frames.specs.declared.frame.MapFrame.{MapFrame}
use Rattle.type_frames.specs.Hierarchies.{Known}
use Rattle.type_frames.specs.States.{State}
use Rattle.type_frames.specs.TypeChecks.{Checked, AreStates, map_in, is_bad_map, checked}
use Rattle.type_frames.specs.TypeStates.{typed_from, typed}

-- of a method, if it has code
abbrev pub entry_of : Known → Tree → Member → Option (List MapFrame)
entry_of h t m = option_map (λ code. unwrap_or (typed (checked h t m code)) []) (code_of m.attrs)

abbrev pub frames_at : Known → Tree → ℕ → List MapFrame
frames_at h t place = unwrap_or (slice_get t.methods place >>= entry_of h t) []

abbrev pub entries_of : Known → Tree → List (Option (List MapFrame))
entries_of h t = map (entry_of h t) t.methods

-- ---- what is known of a code that is gone through again

abbrev pub CodePasses : Known → Tree → Member → Code → Type 0
CodePasses h t m code = (is_bad_map (map_in t m code) ≡ false) × ((states : List State) × AreStates (checked h t m code) states)

-- all instructions pass from a state on
abbrev pub AllPass : Checked → State → Type 0
AllPass m s = (frames : List MapFrame) × (typed_from m 0 m.env.instrs s ≡ Some frames)

-- the code of the method at a place
pub record IsCodeAt (t : Tree) (place : ℕ) (m : Member) (code : Code) : Type 0 where
  pub there : slice_get t.methods place ≡ Some m
  pub has : code_of m.attrs ≡ Some code
  pub formed : is_code t.major t.pool code ≡ true
