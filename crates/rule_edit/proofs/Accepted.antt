-- What an edit of a class file's parts makes is an accepted class file.
use Rattle.std.proofs.Common.{◌≡◌, ℕ, ◌==◌, Bool, true, false, ◌&&◌, not, cond, List, Option, Some, None, refl, sym, ap, ◌∙◌}
use Rattle.std.specs.Prelude.{Ok}
use Rattle.std.proofs.lemmas.Bool.{eqb-false}
use Rattle.ti_ids.specs.Maybe.{◌>>=◌}
use Rattle.agent_types.specs.declared.rule.Edit.TheVariants.{File}
use Rattle.class_tree.specs.Trees.{Tree}
use Rattle.class_tree.specs.WellFormed.{is_well_formed}
use Rattle.class_tree.specs.Spelling.{class_bytes}
use Rattle.classfile_read.specs.ClassReading.{class_of}
use Rattle.classfile_read.proofs.ClassLaws.{read_back}
use Rattle.rule_edit.specs.Edits.{tree_edited, tree_of, written}
use Rattle.rule_edit.proofs.Growing.{same_made}
use Rattle.rule_edit.specs.Laws.{MadeIsAccepted}

abbrev Accepted : List ℕ → Type 0
Accepted made = (t : Tree) × (class_of made ≡ Ok t)

written_accepted : (t : Tree) (made : List ℕ) → written t ≡ Some made → Accepted made
written_accepted t made is = by (is_well_formed t) refl (t.super_class == 0) refl is
  where
    by : (well : Bool) → is_well_formed t ≡ well → (none : Bool) → (t.super_class == 0) ≡ none
        → cond (well && not none) (Some (class_bytes t)) None ≡ Some made → Accepted made
    by true well false some is = (t, ap class_of (sym (same_made (class_bytes t) made is)) ∙ read_back t well (eqb-false t.super_class 0 some))
    by true well true none is = absurd cc
    by false well none same is = absurd cc

bound_accepted : (t : Option Tree) (made : List ℕ) → (t >>= written) ≡ Some made → Accepted made
bound_accepted None made is = absurd cc
bound_accepted (Some t) made is = written_accepted t made is

pub made_is_accepted : MadeIsAccepted
made_is_accepted donors (File donor) bytes made parts is = absurd parts
made_is_accepted donors e bytes made parts is = bound_accepted (tree_of bytes >>= tree_edited donors e) made is
