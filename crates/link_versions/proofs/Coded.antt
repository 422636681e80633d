-- The code of each method of a well-formed class has a list of instructions.
use Rattle.std.proofs.Common.{◌≡◌, ℕ, zero, suc, ◌<◌, ◌^◌, Bool, true, List, [], ◌∷◌, length, get_or, Option, Some, None, refl, arith}
use Rattle.std.specs.Prelude.{IsSome, IfSome, nat_lt, ⊤}
use Rattle.std.specs.List.{list_all}
use Rattle.std.proofs.lemmas.Bool.{and_parts, ltb-true}
use Rattle.std.proofs.lemmas.Option.{MatchOption-at_some}
use Rattle.class_code.specs.declared.instr.Instr.{Instr}
use Rattle.class_code.specs.CodeReading.{list_of}
use Rattle.class_tree.specs.declared.pool.Const.{Const}
use Rattle.class_tree.specs.declared.body.Code.{Code}
use Rattle.class_tree.specs.declared.members.Attr.{Attr}
use Rattle.class_tree.specs.declared.members.Attr.TheVariants as attr
use Rattle.class_tree.specs.declared.members.Member.{Member}
use Rattle.class_tree.specs.declared.members.MemberKind.TheVariants as kinds
use Rattle.class_tree.specs.Trees.{Tree}
use Rattle.class_tree.specs.Tree.{code_of}
use Rattle.class_tree.specs.CodeRules.{is_listed, is_code}
use Rattle.class_tree.specs.WellFormed.{Owner, is_attr, is_member, owner_of, is_well_formed}
use Rattle.class_tree.proofs.Facts.{counted_facts, well_formed_facts, members_facts, member_facts, body_facts, code_facts}
use Rattle.link_versions.specs.ReadyCode.{IsCoded}

all_pass : {A : Type 0} (p : A → Bool) (xs : List A) (i : ℕ) (d : A) → list_all p xs ≡ true → i < length xs → p (get_or xs i d) ≡ true
all_pass p [] i d all low = absurd (omega arith)
all_pass p (x ∷ xs) zero d all low = (and_parts _ _ all).0
all_pass p (x ∷ xs) (suc i) d all low = all_pass p xs i d (and_parts _ _ all).1 (omega arith)

has_list : (major : ℕ) (pool : List Const) (code : Code) (list : Option (List (ℕ × Instr))) → is_listed major pool code list ≡ true → IsSome list
has_list major pool code None e = absurd cc
has_list major pool code (Some list) e = refl

listed : (major : ℕ) (pool : List Const) (code : Code) → is_code major pool code ≡ true → IsSome (list_of code.bytes) × (length code.bytes < 2 ^ 16)
listed major pool code e =
    let facts = code_facts major pool code e in
    let short : length code.bytes < 65536 = ltb-true (length code.bytes) 65536 (and_parts (nat_lt 0 (length code.bytes)) (nat_lt (length code.bytes) 65536) facts.len).1 in
    (has_list major pool code (list_of code.bytes) facts.listed, omega (arith, short))

coded_by : (major : ℕ) (pool : List Const) (owner : Owner) (attrs : List Attr) → list_all (is_attr major pool owner) attrs ≡ true
    → IfSome (code_of attrs) (λ code. IsSome (list_of code.bytes) × (length code.bytes < 2 ^ 16))
coded_by major pool owner [] e = tt
coded_by major pool owner (attr.Body name code ∷ attrs) e = listed major pool code (body_facts major pool owner name code (and_parts _ _ e).0).is_code
coded_by major pool owner (attr.Raw name bytes ∷ attrs) e = coded_by major pool owner attrs (and_parts _ _ e).1
coded_by major pool owner (attr.Constant name value ∷ attrs) e = coded_by major pool owner attrs (and_parts _ _ e).1

pub coded : (t : Tree) → is_well_formed t ≡ true → (i : ℕ) (d : Member) → i < length t.methods → IsCoded (get_or t.methods i d)
unfolding IsCoded
coded t e i d low =
    let methods = members_facts t.major t.pool kinds.Method t.methods (well_formed_facts t e).methods in
    let m = get_or t.methods i d in
    let facts = member_facts t.major t.pool kinds.Method m (all_pass (is_member t.major t.pool kinds.Method) t.methods i d methods.each low) in
    coded_by t.major t.pool (owner_of kinds.Method m.flags.bits facts.desc) m.attrs (counted_facts _ m.attrs facts.attrs).all

pub coded_at : (m : Member) (code : Code) → IsCoded m → code_of m.attrs ≡ Some code → IsSome (list_of code.bytes) × (length code.bytes < 2 ^ 16)
unfolding IsCoded
coded_at m code all found = MatchOption-at_some ⊤ (λ (k : Code). IsSome (list_of k.bytes) × (length k.bytes < 2 ^ 16)) code found all
