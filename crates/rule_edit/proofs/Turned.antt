-- Of bytes the turn of a set makes bytes, where the donors are bytes.
use Rattle.std.proofs.Common.{◌≡◌, ℕ, zero, suc, ◌==◌, Bool, true, false, ◌&&◌, not, cond, List, [], ◌∷◌, Option, Some, None, refl, sym, ap, ◌∙◌}
use Rattle.std.specs.Prelude.{slice_get}
use Rattle.std.specs.List.{AllByRecursion}
use Rattle.ti_ids.specs.Maybe.{◌>>=◌}
use Rattle.agent_types.specs.declared.rule.Edit.{Edit}
use Rattle.agent_types.specs.declared.rule.Edit.TheVariants.{File}
use Rattle.agent_types.specs.declared.rule.Rule.{Rule}
use Rattle.class_tree.specs.Trees.{Tree}
use Rattle.class_tree.specs.Ranges.{are_bytes}
use Rattle.class_tree.specs.WellFormed.{is_well_formed}
use Rattle.class_tree.specs.Spelling.{class_bytes}
use Rattle.rule_edit.specs.Edits.{edited, tree_edited, tree_of, written, donor_at}
use Rattle.rule_edit.specs.Turns.{rules_for, applied, made_by}
use Rattle.rule_edit.specs.Laws.{BytesOfBytes}
use Rattle.rule_edit.proofs.Growing.{same_made}
use Rattle.rule_edit.proofs.Spelled.{AreBytes, class_are}

written_are : (t : Tree) (made : List ℕ) → written t ≡ Some made → AreBytes made
written_are t made is = by (is_well_formed t) refl (t.super_class == 0) is
  where
    by : (well : Bool) → is_well_formed t ≡ well → (none : Bool)
        → cond (well && not none) (Some (class_bytes t)) None ≡ Some made → AreBytes made
    by true well false is = ap are_bytes (sym (same_made (class_bytes t) made is)) ∙ class_are t well
    by true well true is = absurd cc
    by false well none is = absurd cc

bound_are : (t : Option Tree) (made : List ℕ) → (t >>= written) ≡ Some made → AreBytes made
bound_are None made is = absurd cc
bound_are (Some t) made is = written_are t made is

-- one of them
one_are : (donors : List (List ℕ)) (n : ℕ) (made : List ℕ) → AllByRecursion AreBytes donors → slice_get donors n ≡ Some made → AreBytes made
one_are [] n made all is = absurd cc
one_are (d ∷ ds) zero made all is = ap are_bytes (sym (same_made d made is)) ∙ all.0
one_are (d ∷ ds) (suc n) made all is = one_are ds n made all.1 is

donor_are : (donors : List (List ℕ)) (n : ℕ) (made : List ℕ) → AllByRecursion AreBytes donors → donor_at donors n ≡ Some made → AreBytes made
donor_are donors zero made all is = absurd cc
donor_are donors (suc n) made all is = one_are donors n made all is

-- behind the bytes that another answer gives
bound_on : (first : Option (List ℕ)) (go : List ℕ → Option (List ℕ)) (made : List ℕ)
    → ((middle : List ℕ) → first ≡ Some middle → go middle ≡ Some made → AreBytes made) → (first >>= go) ≡ Some made → AreBytes made
bound_on None go made k is = absurd cc
bound_on (Some middle) go made k is = k middle refl is

module _ (donors : List (List ℕ)) (all : AllByRecursion AreBytes donors) where
  edited_are : (e : Edit) (bytes made : List ℕ) → edited donors e bytes ≡ Some made → AreBytes made
  edited_are (File donor) bytes made is = donor_are donors donor made all is
  edited_are e bytes made is = bound_are (tree_of bytes >>= tree_edited donors e) made is

  applied_are : (rules : List Rule) (bytes made : List ℕ) → AreBytes bytes → applied donors rules bytes ≡ Some made → AreBytes made
  applied_are [] bytes made are is = ap are_bytes (sym (same_made bytes made is)) ∙ are
  applied_are (r ∷ rs) bytes made are is =
      bound_on (edited donors r.edit bytes) (applied donors rs) made
      (λ middle at more. applied_are rs middle made (edited_are r.edit bytes middle at) more) is

  made_are : (rules : List Rule) (bytes made : List ℕ) → AreBytes bytes → made_by donors rules bytes ≡ Some made → AreBytes made
  made_are [] bytes made are is = absurd cc
  made_are (r ∷ rs) bytes made are is = applied_are (r ∷ rs) bytes made are is

pub bytes_of_bytes : BytesOfBytes
bytes_of_bytes donors rules set class bytes made all are is = made_are donors all (rules_for rules set class) bytes made are is
