-- After every schedule each frame has code: a frame that is pushed is of a method that has a body in the newest version of its class, and
-- the step that pushes it makes no version.
use Rattle.class_code.specs.CodeReading.{list_of}
use Rattle.class_code.specs.declared.instr.Instr.{Instr}
use Rattle.class_code.specs.CodeReading.{list_of}
use Rattle.std.proofs.lemmas.Bool.{eq-eqb}
use Rattle.class_tree.specs.Tree.{code_of, is_named}
use Rattle.class_tree.specs.Trees.{Tree}
use Rattle.class_tree.specs.declared.body.Code.{Code}
use Rattle.class_tree.specs.declared.members.Member.{Member}
use Rattle.class_tree.specs.declared.pool.Const.{Const}
use Rattle.instruction_effect.specs.Arguments.{newest_body}
use Rattle.jv_names.specs.Names.{Name}
use Rattle.jv_names.specs.declared.descriptor.FieldType.{FieldType}
use Rattle.link_versions.specs.Classes.{Class, Kind, newest_version, number_of, numbered, version_at, versions_of}
use Rattle.link_versions.specs.Members.{method_desc, method_name}
use Rattle.link_versions.specs.ReadyCode.{code_in, code_named, ready_code, ready_list}
use Rattle.link_versions.specs.Members.{method_in}
use Rattle.machine_state.proofs.Alike.{kind_in, linked_kind}
use Rattle.machine_state.proofs.FormedTrees.{IsListed, trees_listed}
use Rattle.machine_state.specs.Bytes.{AllHoldBytes, MakesBytes}
use Rattle.machine_state.specs.Chains.{Turns}
use Rattle.machine_state.specs.Core.{CoreClass}
use Rattle.machine_state.specs.FrameCode.{code}
use Rattle.machine_state.specs.Jobs.{Job}
use Rattle.machine_state.specs.Linked.{array_type, linked, trees}
use Rattle.machine_state.specs.Trace.{Trace}
use Rattle.std.proofs.Common.{Bool, List, None, Option, Some, [], ap, cond, false, length, refl, subst, suc, sym, true, zero, ℕ, ◌∙◌, ◌∷◌, ◌≡◌}
use Rattle.std.specs.List.{AllByRecursion}
use Rattle.std.specs.Option.{option_and_then}
use Rattle.std.specs.Prelude.{IsSome, find, is_some, option_map, position, slice_get, ◌==◌}
use Rattle.ti_ids.specs.Maybe.{◌>>=◌}
use Rattle.ti_ids.specs.declared.number.ClassNo.{ClassNo}
use Rattle.ti_ids.specs.declared.number.MethodNo.{MethodNo}
use Rattle.ti_ids.specs.declared.number.VersionNo.{VersionNo}

-- ---- a method with a body has code

some_listed : (pool : List Const) (m : Member) (code : Option Code) → code_of m.attrs ≡ code → (body : Code) → code ≡ Some body
    → IsSome (list_of body.bytes)
    → IsSome (ready_code pool m)
unfolding ready_code
some_listed pool m None is body there listed = absurd cc
some_listed pool m (Some c) is body there listed =
    let same : c ≡ body = cc in
    listed_by (list_of body.bytes) listed (ap (λ (o : Option Code). option_and_then (λ code. list_of code.bytes) o) (is ∙ there))
  where
    listed_by : (list : Option (List (ℕ × Instr))) → IsSome list → option_and_then (λ code. list_of code.bytes) (code_of m.attrs) ≡ list
        → IsSome (option_map (ready_list pool) (option_and_then (λ code. list_of code.bytes) (code_of m.attrs)))
    listed_by None some e = absurd cc
    listed_by (Some list) some e = ap (λ (o : Option (List (ℕ × Instr))). is_some (option_map (ready_list pool) o)) e

module _ (t : Tree) (listed : IsListed t) where
  at_place : (place : Option ℕ) (body : Code) → (option_and_then (λ p. slice_get t.methods p) place >>= λ m. code_of m.attrs) ≡ Some body
      → IsSome (option_and_then (ready_code t.pool) (option_and_then (λ p. slice_get t.methods p) place))
  at_place None body has = absurd cc
  at_place (Some place) body has = at_method (slice_get t.methods place) refl has
    where
      at_method : (m : Option Member) → slice_get t.methods place ≡ m → (m >>= λ m. code_of m.attrs) ≡ Some body
          → IsSome (option_and_then (ready_code t.pool) m)
      at_method None there has = absurd cc
      at_method (Some m) there has = some_listed t.pool m (code_of m.attrs) refl body has (listed place m body there has)

  named_coded : (name desc : Option Name) (body : Code) → (method_in t name desc >>= λ m. code_of m.attrs) ≡ Some body
      → IsSome (code_named t name desc)
  named_coded None desc body has = absurd cc
  named_coded (Some name) None body has = absurd cc
  named_coded (Some name) (Some desc) body has = at_place (position (is_named t.pool name desc) t.methods) body has

-- each version of each class is listed
abbrev pub AreListed : List Class → Type 0
AreListed classes = (v : VersionNo) (t : Tree) → version_at classes v ≡ Some t → IsListed t

module _ (classes : List Class) (listed : AreListed classes) (m : MethodNo) (body : Code) where
  version_coded : (t : Option Tree) → version_at classes (newest_version classes m.class) ≡ t
      → (t >>= λ t. method_in t (method_name classes m) (method_desc classes m) >>= λ member. code_of member.attrs) ≡ Some body
      → IsSome (option_and_then (λ t. code_named t (method_name classes m) (method_desc classes m)) t)
  version_coded None is has = absurd cc
  version_coded (Some t) is has = named_coded t (listed (newest_version classes m.class) t is) (method_name classes m) (method_desc classes m) body has

  same_by : (same : Bool) → (m.class.0 == m.class.0) ≡ same → (x : Option (List (ℕ × Instr))) → IsSome x → IsSome (cond same x None)
  same_by true is x some = some
  same_by false is x some = absurd (let yes : (m.class.0 == m.class.0) ≡ true = eq-eqb m.class.0 m.class.0 refl in cc)

  pub body_coded : newest_body classes m ≡ Some body → IsSome (code_in classes (newest_version classes m.class) m)
  unfolding code_in
  body_coded has =
      same_by (m.class.0 == m.class.0) refl _
      (version_coded (version_at classes (newest_version classes m.class)) refl has)

-- ---- the versions of linked classes

slice_all : {A : Type 0} (P : A → Type 0) (xs : List A) (k : ℕ) (x : A) → AllByRecursion P xs → slice_get xs k ≡ Some x → P x
slice_all P [] k x h is = absurd cc
slice_all P (y ∷ xs) zero x h is = let same : y ≡ x = cc in subst P same h.0
slice_all P (y ∷ xs) (suc k) x h is = slice_all P xs k x h.1 is

module _ (job : Job) (turns : Turns) (makes : MakesBytes turns) (trace : Trace) (holds : AllHoldBytes trace) where
  abbrev KindListed : Kind → Type 0
  KindListed kind = AllByRecursion IsListed (versions_of kind)

  kind_listed : (find : Name → Option ClassNo) (c : CoreClass) (type : Option FieldType) → KindListed (kind_in find type (trees job turns trace c.name))
  kind_listed find c None = trees_listed job turns makes trace c.name holds
  kind_listed find c (Some t) = tt

  abbrev AllListed : List Class → Type 0
  AllListed classes = AllByRecursion (λ c. KindListed c.kind) classes

  linked_listed : (classes : List CoreClass) → AllListed (linked job turns trace classes)
  unfolding linked
  linked_listed [] = tt
  linked_listed (c ∷ older) =
      let find = number_of (linked job turns trace older) in (
        subst KindListed (sym (linked_kind job turns trace find c)) (kind_listed find c (array_type c.name)),
        linked_listed older,
      )

  numbered_by : (c : Class) (older : List Class) (b : Bool) (n : ℕ) (x : Class) → AllListed (c ∷ older)
      → ((x : Class) → numbered older n ≡ Some x → KindListed x.kind) → cond b (Some c) (numbered older n) ≡ Some x → KindListed x.kind
  numbered_by c older true n x h k is = let same : c ≡ x = cc in subst (λ (c : Class). KindListed c.kind) same h.0
  numbered_by c older false n x h k is = k x is

  numbered_listed : (classes : List Class) (n : ℕ) (x : Class) → AllListed classes → numbered classes n ≡ Some x → KindListed x.kind
  numbered_listed [] n x h is = absurd cc
  numbered_listed (c ∷ older) n x h is =
      numbered_by c older (n == length (c ∷ older)) n x h (λ x is. numbered_listed older n x h.1 is) is

  version_by : (found : Option Class) (place : ℕ) (t : Tree) → ((c : Class) → found ≡ Some c → KindListed c.kind)
      → option_and_then (λ c. slice_get (versions_of c.kind) place) found ≡ Some t → IsListed t
  version_by None place t h is = absurd cc
  version_by (Some c) place t h is = slice_all IsListed (versions_of c.kind) place t (h c refl) is

  pub are_listed : (classes : List CoreClass) → AreListed (linked job turns trace classes)
  unfolding version_at
  are_listed classes v t is =
      let all = linked job turns trace classes in
      version_by (numbered all v.class.0) v.place t (λ c found. numbered_listed all v.class.0 c (linked_listed classes) found) is
