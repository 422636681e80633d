-- What is known of members and of their class.
use Rattle.std.proofs.Common.{◌≡◌, true, false, Option, Some, None}
use Rattle.jv_names.specs.Names.{Name, is_class_name}
use Rattle.class_tree.specs.Trees.{Tree}
use Rattle.class_tree.specs.Tree.{class_at}
use Rattle.class_tree.specs.WellFormed.{is_well_formed}
use Rattle.class_tree.proofs.Facts.{well_formed_facts}

-- a class has a name
pub never_nameless : (t : Tree) → is_well_formed t ≡ true → None ≡ class_at t.pool t.this_class → ⊥
never_nameless t formed none = nameless (class_at t.pool t.this_class) none (well_formed_facts t formed).this_class
  where
    nameless : (name : Option Name) → None ≡ name → elim name [ None ↦ false | Some x ↦ is_class_name x ] ≡ true → ⊥
    nameless None e is = cc
    nameless (Some x) e is = absurd cc
