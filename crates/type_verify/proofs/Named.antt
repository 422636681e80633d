-- A class has a name, and a method's code has instructions.
use Rattle.std.proofs.Common.{◌≡◌, ℕ, ◌<◌, true, false, List, [], ◌∷◌, length, Option, Some, None, ap, arith}
use Rattle.jv_names.specs.Names.{is_class_name}
use Rattle.class_code.specs.declared.instr.Instr.{Instr}
use Rattle.class_code.specs.Listing.{IsListing}
use Rattle.class_tree.specs.Trees.{Tree}
use Rattle.class_tree.specs.Tree.{class_at}
use Rattle.class_tree.specs.WellFormed.{is_well_formed}
use Rattle.class_tree.proofs.Facts.{well_formed_facts}

nameless : (name : Option (List ℕ)) → None ≡ name → elim name [ None ↦ false | Some x ↦ is_class_name x ] ≡ true → ⊥
nameless None e is = cc
nameless (Some x) e is = absurd cc

pub never_nameless : (t : Tree) → is_well_formed t ≡ true → None ≡ class_at t.pool t.this_class → ⊥
never_nameless t formed none = nameless (class_at t.pool t.this_class) none (well_formed_facts t formed).this_class

pub some_instrs : (code : List ℕ) (ps : List (ℕ × Instr)) → IsListing code ps → 0 < length code → 0 < length ps
some_instrs code [] is lt = let none = ap (λ (bytes : List ℕ). length bytes) is.spelled.whole in absurd (omega (arith, none, lt))
some_instrs code (p ∷ ps) is lt = omega arith
