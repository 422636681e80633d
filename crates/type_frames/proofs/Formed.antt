-- What a well-formed class says of the code and of the descriptor of a method.
use Rattle.std.proofs.Common.{◌≡◌, ℕ, zero, suc, ◌<◌, Bool, true, List, [], ◌∷◌, length, Option, Some, None, subst, arith}
use Rattle.std.specs.Prelude.{◌^◌, slice_get, nat_lt}
use Rattle.std.specs.List.{list_all}
use Rattle.std.proofs.lemmas.Bool.{and_parts}
use Rattle.std.proofs.lemmas.Bool.Decides.{nat_tests}
use Rattle.class_code.specs.declared.instr.Instr.{Instr}
use Rattle.class_code.specs.CodeReading.{list_of}
use Rattle.class_tree.specs.declared.pool.Const.{Const}
use Rattle.class_tree.specs.declared.body.Code.{Code}
use Rattle.class_tree.specs.declared.members.Member.{Member}
use Rattle.class_tree.specs.declared.members.Attr.{Attr}
use Rattle.class_tree.specs.declared.members.Attr.TheVariants as attr
use Rattle.class_tree.specs.declared.members.MemberKind.TheVariants as kinds
use Rattle.class_tree.specs.Trees.{Tree}
use Rattle.class_tree.specs.Tree.{code_of}
use Rattle.class_tree.specs.CodeRules.{is_code, is_listed}
use Rattle.class_tree.specs.WellFormed.{Owner, is_attr, is_member, owner_of, is_well_formed}
use Rattle.class_tree.proofs.Facts.{counted_facts, well_formed_facts, members_facts, MemberFacts, member_facts, body_facts, code_facts}

each_passes : {A : Type 0} (test : A → Bool) (xs : List A) (k : ℕ) (x : A) → list_all test xs ≡ true → slice_get xs k ≡ Some x → test x ≡ true
each_passes test [] k x all is = absurd cc
each_passes test (y ∷ ys) zero x all is = let parts = and_parts _ _ all in let same : y ≡ x = cc in subst (λ (z : _). test z ≡ true) same parts.0
each_passes test (y ∷ ys) (suc k) x all is = let parts = and_parts _ _ all in each_passes test ys k x parts.1 is

module _ (t : Tree) (place : ℕ) (m : Member) where
  -- a method is as it must be
  pub method_facts : is_well_formed t ≡ true → slice_get t.methods place ≡ Some m → MemberFacts t.major t.pool kinds.Method m
  method_facts formed is =
      let facts = members_facts t.major t.pool kinds.Method t.methods (well_formed_facts t formed).methods in
      member_facts t.major t.pool kinds.Method m (each_passes (is_member t.major t.pool kinds.Method) t.methods place m facts.each is)

module _ (major : ℕ) (pool : List Const) (owner : Owner) where
  body_at : (attrs : List Attr) (code : Code) → list_all (is_attr major pool owner) attrs ≡ true → code_of attrs ≡ Some code → is_code major pool code ≡ true
  body_at [] code all is = absurd cc
  body_at (attr.Body name body ∷ attrs) code all is =
      let parts = and_parts _ _ all in
      let same : body ≡ code = cc in
      subst (λ (c : Code). is_code major pool c ≡ true) same (body_facts major pool owner name body parts.0).is_code
  body_at (attr.Raw name bytes ∷ attrs) code all is = let parts = and_parts _ _ all in body_at attrs code parts.1 is
  body_at (attr.Constant name value ∷ attrs) code all is = let parts = and_parts _ _ all in body_at attrs code parts.1 is

-- and so is its code
pub method_code : (t : Tree) (place : ℕ) (m : Member) (code : Code) → is_well_formed t ≡ true → slice_get t.methods place ≡ Some m → code_of m.attrs ≡ Some code → is_code t.major t.pool code ≡ true
method_code t place m code formed is has =
    let facts = method_facts t place m formed is in
    let attrs = counted_facts (is_attr t.major t.pool (owner_of kinds.Method m.flags.bits facts.desc)) m.attrs facts.attrs in
    body_at t.major t.pool (owner_of kinds.Method m.flags.bits facts.desc) m.attrs code attrs.all has

-- a code has at most 65535 bytes
pub short_code : (major : ℕ) (pool : List Const) (code : Code) → is_code major pool code ≡ true → length code.bytes < 2 ^ 16
short_code major pool code is =
    let parts = and_parts _ _ (code_facts major pool code is).len in
    let small : nat_lt (length code.bytes) 65536 ≡ true = parts.1 in
    grind (arith, nat_tests)

no_list : (major : ℕ) (pool : List Const) (code : Code) (list : Option (List (ℕ × Instr))) → list ≡ None → is_listed major pool code list ≡ true → ⊥
no_list major pool code None e is = cc
no_list major pool code (Some list) e is = cc

-- it is a list of instructions
pub listed_code : (major : ℕ) (pool : List Const) (code : Code) → is_code major pool code ≡ true → list_of code.bytes ≡ None → ⊥
listed_code major pool code is none = no_list major pool code (list_of code.bytes) none (code_facts major pool code is).listed
