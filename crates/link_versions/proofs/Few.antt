-- A class has 65535 fields and methods at most.
use Rattle.std.proofs.Common.{◌≡◌, ℕ, ◌<◌, Bool, true, List, length, Some, arith}
use Rattle.std.specs.Prelude.{position}
use Rattle.std.proofs.lemmas.Bool.{ltb-true}
use Rattle.std.proofs.lemmas.Bool.Decides.{nat_tests}
use Rattle.class_tree.specs.declared.members.MemberKind.TheVariants as kinds
use Rattle.class_tree.specs.Trees.{Tree}
use Rattle.class_tree.specs.Ranges.{is_short}
use Rattle.class_tree.specs.WellFormed.{is_well_formed}
use Rattle.class_tree.proofs.Facts.{well_formed_facts, members_facts}

few : {A : Type 0} (xs : List A) → is_short xs ≡ true → length xs < 65536
few xs e = ltb-true (length xs) 65536 e

pub few_fields : (t : Tree) → is_well_formed t ≡ true → length t.fields < 65536
few_fields t e = few t.fields (members_facts t.major t.pool kinds.Field t.fields (well_formed_facts t e).fields).short

pub few_methods : (t : Tree) → is_well_formed t ≡ true → length t.methods < 65536
few_methods t e = few t.methods (members_facts t.major t.pool kinds.Method t.methods (well_formed_facts t e).methods).short

pub position_within : {A : Type 0} (p : A → Bool) (xs : List A) (i : ℕ) → position p xs ≡ Some i → i < length xs
position_within p xs i e = grind (arith, nat_tests)
