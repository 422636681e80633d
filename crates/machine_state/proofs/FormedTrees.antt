-- Where what is made of bytes is bytes, the code of each method of each version of a class is a list of instructions.
use Rattle.std.proofs.lemmas.Option.{slice_get_within, unwrap_or-slice_get}
use Rattle.std.specs.List.{AllByRecursion, cons_option}
use Rattle.class_tree.specs.WellFormed.{is_well_formed}
use Rattle.class_tree.specs.Flags.{has_flag}
use Rattle.class_tree.specs.declared.access.Flag.TheVariants.{Abstract}
use Rattle.class_tree.specs.declared.members.Attr.{Attr}
use Rattle.class_tree.specs.declared.members.Attr.TheVariants.{Body}
use Rattle.class_tree.specs.declared.members.Member.{Member}
use Rattle.class_tree.specs.declared.body.Code.{Code}
use Rattle.class_tree.specs.Tree.{code_of}
use Rattle.class_code.specs.CodeReading.{list_of}
use Rattle.class_code.specs.FormSearch.{form_at}
use Rattle.link_versions.specs.ReadyCode.{IsCoded}
use Rattle.link_versions.proofs.Coded.{coded, coded_at}
use Rattle.base_set.specs.BaseCode.{code_of_base}
use Rattle.classfile_read.proofs.ClassLaws.{class_sound}
use Rattle.classfile_read.specs.ClassReading.{class_of}
use Rattle.base_set.specs.BaseSet.{BaseClass, BaseMethod, base_set, has_name}
use Rattle.base_set.specs.BaseTrees.{attrs_of, base_tree, methods_at, methods_from}
use Rattle.class_tree.specs.Ranges.{are_bytes}
use Rattle.class_tree.specs.Trees.{Tree}
use Rattle.event_mask.specs.declared.hook.HookClass.{HookClass}
use Rattle.event_mask.specs.declared.hook.HookClass.TheVariants.{Capable, Incapable, Unset}
use Rattle.jv_names.specs.Names.{Name}
use Rattle.machine_state.specs.Bytes.{AllHoldBytes, HoldsBytes, MakesBytes}
use Rattle.machine_state.specs.Chains.{Turns, acting, added, chain, hook_by, hooks_from, hooks_of, java_turn, rules_do}
use Rattle.machine_state.specs.Environments.{hook_class, mask, rules_of}
use Rattle.machine_state.specs.Jobs.{Job}
use Rattle.machine_state.specs.Linked.{tree_of, trees}
use Rattle.machine_state.specs.Trace.{Entry, Loaded, Record, Redefined, Retransformed, Trace}
use Rattle.machine_state.specs.Versions.{Again, Given, Making, Nothing, Version, left, making, version_made, version_of, versions, versions_from}
use Rattle.std.proofs.Common.{Bool, List, None, Option, Some, [], ap, cond, false, get_or, length, map, refl, subst, suc, sym, true, zero, ℕ, ◌++◌, ◌+◌, ◌<◌, ◌∙◌, ◌∷◌, ◌≡◌}
use Rattle.std.specs.Prelude.{Err, IsSome, Ok, Result, bytes_eq, filter, filter_map, find, slice_get, nat_le, option_map, unwrap_or, ◌==◌}
use Rattle.ti_ids.specs.declared.actor.Actor.{Actor}
use Rattle.ti_ids.specs.declared.actor.Actor.TheVariants.{Agent}
use Rattle.ti_ids.specs.declared.number.EnvNo.{EnvNo}
use Rattle.transform_chain.specs.Groups.{from_group, of_group, up_to_group}
use Rattle.transform_chain.specs.Turns.{Does, folded, turned}
use Rattle.transform_chain.specs.declared.active.Active.{Active}
use Rattle.transform_chain.specs.declared.registered.Registered.{Registered}
use Rattle.agent_types.specs.declared.agent.Agent as agent_type
use Rattle.ti_codes.specs.declared.event.EventKind.TheVariants as kinds

-- ---- lists

kept_by : {A : Type 0} (P : A → Type 0) (x : A) (xs : List A) (b : Bool) → P x → AllByRecursion P xs → AllByRecursion P (cond b (x ∷ xs) xs)
kept_by P x xs true h k = (h, k)
kept_by P x xs false h k = k

filter_all : {A : Type 0} (P : A → Type 0) (p : A → Bool) (xs : List A) → AllByRecursion P xs → AllByRecursion P (filter p xs)
filter_all P p [] h = tt
filter_all P p (x ∷ xs) h = kept_by P x (filter p xs) (p x) h.0 (filter_all P p xs h.1)

append_all : {A : Type 0} (P : A → Type 0) (xs ys : List A) → AllByRecursion P xs → AllByRecursion P ys → AllByRecursion P (xs ++ ys)
append_all P [] ys h k = k
append_all P (x ∷ xs) ys h k = (h.0, append_all P xs ys h.1 k)

-- ---- transformers

abbrev KeepsBytes : Active Does → Type 0
KeepsBytes a = (class : Name) (bytes made : List ℕ) → are_bytes bytes ≡ true → a.transformer class bytes ≡ Some made → are_bytes made ≡ true

turned_by : (bytes : List ℕ) (made : Option (List ℕ)) → are_bytes bytes ≡ true → ((new : List ℕ) → made ≡ Some new → are_bytes new ≡ true)
    → are_bytes (unwrap_or made bytes) ≡ true
turned_by bytes None h k = h
turned_by bytes (Some new) h k = k new refl

folded_bytes : (class : Name) (ts : List (Active Does)) (bytes : List ℕ) → AllByRecursion KeepsBytes ts → are_bytes bytes ≡ true
    → are_bytes (folded class ts bytes) ≡ true
folded_bytes class [] bytes h k = k
folded_bytes class (t ∷ ts) bytes h k =
    folded_bytes class ts (turned class bytes t) h.1 (turned_by bytes (t.transformer class bytes) k (λ new is. h.0 class bytes new k is))

-- ---- code

-- the code of each method is a list of instructions
abbrev pub IsListed : Tree → Type 0
IsListed t = (place : ℕ) (m : Member) (code : Code) → slice_get t.methods place ≡ Some m → code_of m.attrs ≡ Some code → IsSome (list_of code.bytes)

formed_listed : (t : Tree) → is_well_formed t ≡ true → IsListed t
formed_listed t formed place m code there has =
    let within : place < length t.methods = slice_get_within t.methods place m there in
    let here : get_or t.methods place m ≡ m =
    sym (unwrap_or-slice_get t.methods place m) ∙ ap (λ (o : Option Member). unwrap_or o m) there in
    (coded_at m code (subst IsCoded here (coded t formed place m within)) has).0

never_run : (b : BaseMethod) (code : Code) (abstract : Bool) → code_of (cond abstract [] (Body 1 (code_of_base b) ∷ [])) ≡ Some code
    → IsSome (list_of code.bytes)
unfolding form_at
never_run b code true e = absurd cc
never_run b code false e = let same : code_of_base b ≡ code = cc in subst (λ (c : Code). IsSome (list_of c.bytes)) same refl

base_method : (at : ℕ) (methods : List BaseMethod) (place : ℕ) (m : Member) (code : Code) → slice_get (methods_from at methods) place ≡ Some m
    → code_of m.attrs ≡ Some code → IsSome (list_of code.bytes)
base_method at [] place m code there has = absurd cc
base_method at (b ∷ methods) zero m code there has =
    let same : attrs_of b ≡ m.attrs = cc in
    never_run b code (has_flag b.flags Abstract) (ap (λ (attrs : List Attr). code_of attrs) same ∙ has)
base_method at (b ∷ methods) (suc place) m code there has = base_method (at + 2) methods place m code there has

base_listed : (c : BaseClass) → IsListed (base_tree c)
base_listed c place m code there has = base_method (methods_at c) c.methods place m code there has

module _ (job : Job) (turns : Turns) (makes : MakesBytes turns) where
  ruled_bytes : (env : EnvNo) (set : Option Name) (class : Name) (bytes made : List ℕ) → are_bytes bytes ≡ true
      → rules_do turns env set class bytes ≡ Some made → are_bytes made ≡ true
  ruled_bytes env None class bytes made h is = absurd cc
  ruled_bytes env (Some set) class bytes made h is = makes env set class bytes made h is

  java_keep : (rs : List Registered) → AllByRecursion KeepsBytes (map (java_turn (rules_do turns)) rs)
  java_keep [] = tt
  java_keep (r ∷ rs) = (ruled_bytes r.env (Some r.set), java_keep rs)

  hook_keeps : (trace : Trace) (env : EnvNo) (hook : HookClass) → AllByRecursion KeepsBytes (hook_by (rules_do turns) trace env hook)
  hook_keeps trace env Unset = tt
  hook_keeps trace env Capable = (ruled_bytes env (rules_of trace env), tt)
  hook_keeps trace env Incapable = (ruled_bytes env (rules_of trace env), tt)

  masked_keep : (trace : Trace) (env : EnvNo) (hook : HookClass) (on : Bool)
      → AllByRecursion KeepsBytes (cond on (hook_by (rules_do turns) trace env hook) [])
  masked_keep trace env hook true = hook_keeps trace env hook
  masked_keep trace env hook false = tt

  hooks_keep : (trace : Trace) (actor : Actor) (n : ℕ) (agents : List agent_type.Agent) → AllByRecursion KeepsBytes (hooks_from job (rules_do turns) trace actor n agents)
  hooks_keep trace actor n [] = tt
  hooks_keep trace actor n (agent ∷ agents) =
      let env : EnvNo = record { 0 = n } in
      append_all KeepsBytes (hooks_of job (rules_do turns) trace actor env) (hooks_from job (rules_do turns) trace actor (n + 1) agents)
      (masked_keep trace env (hook_class job trace env) (mask trace env kinds.ClassFileLoadHook (acting actor)))
      (hooks_keep trace actor (n + 1) agents)

  chain_keeps : (trace : Trace) (actor : Actor) → AllByRecursion KeepsBytes (chain job (rules_do turns) trace actor)
  chain_keeps trace actor =
      let ts : List (Active Does) = map (java_turn (rules_do turns)) (added trace) ++ hooks_from job (rules_do turns) trace actor 1 job.agents in
      let all : AllByRecursion KeepsBytes ts =
      append_all KeepsBytes (map (java_turn (rules_do turns)) (added trace)) (hooks_from job (rules_do turns) trace actor 1 job.agents) (java_keep (added trace))
      (hooks_keep trace actor 1 job.agents) in
      let of : (n : ℕ) → AllByRecursion KeepsBytes (of_group n ts) = λ n. filter_all KeepsBytes (λ t. t.group == n) ts all in
      append_all KeepsBytes (of_group 1 ts ++ of_group 2 ts ++ of_group 3 ts) (of_group 4 ts)
      (append_all KeepsBytes (of_group 1 ts ++ of_group 2 ts) (of_group 3 ts)
      (append_all KeepsBytes (of_group 1 ts) (of_group 2 ts) (of 1) (of 2)) (of 3)) (of 4)

  -- ---- versions

  record IsBytes (v : Version) : Type 0 where
    kept : are_bytes v.kept ≡ true
    bytes : are_bytes v.bytes ≡ true

  version_bytes : (class : Name) (ts : List (Active Does)) (kept : List ℕ) → AllByRecursion KeepsBytes ts → are_bytes kept ≡ true
      → IsBytes (version_of job turns class ts kept)
  version_bytes class ts kept keep h =
      record { kept = h; bytes = folded_bytes class (from_group 3 ts) kept (filter_all KeepsBytes (λ t. nat_le 3 t.group) ts keep) h }

  abbrev GivesBytes : Making → Type 0
  GivesBytes (Given bytes) = are_bytes bytes ≡ true
  GivesBytes Again = Unit {0}
  GivesBytes Nothing = Unit {0}

  making_if : (b : Bool) (m : Making) → GivesBytes m → GivesBytes (cond b m Nothing)
  making_if true m h = h
  making_if false m h = tt

  making_bytes : (class : Name) (what : Record) → HoldsBytes what → GivesBytes (making class what)
  making_bytes class (Loaded name bytes) h = making_if (bytes_eq name class) (Given bytes) h
  making_bytes class (Redefined name bytes) h = making_if (bytes_eq name class) (Given bytes) h
  making_bytes class (Retransformed name) h = making_if (bytes_eq name class) Again tt
  making_bytes class _ h = tt

  made_bytes : (class : Name) (before : Trace) (actor : Actor) (kept : List ℕ) (m : Making) → GivesBytes m → are_bytes kept ≡ true
      → (v : Version) → version_made job turns class before actor kept m ≡ Some v → IsBytes v
  made_bytes class before actor kept (Given bytes) given h v is =
      let ts = chain job (rules_do turns) before actor in
      let left = folded_bytes class (up_to_group 2 ts) bytes (filter_all KeepsBytes (λ t. nat_le t.group 2) ts (chain_keeps before actor)) given in
      let same : version_of job turns class ts (folded class (up_to_group 2 ts) bytes) ≡ v = cc in
      subst IsBytes same (version_bytes class ts (folded class (up_to_group 2 ts) bytes) (chain_keeps before actor) left)
  made_bytes class before actor kept Again given h v is =
      let same : version_of job turns class (chain job (rules_do turns) before actor) kept ≡ v = cc in
      subst IsBytes same (version_bytes class (chain job (rules_do turns) before actor) kept (chain_keeps before actor) h)
  made_bytes class before actor kept Nothing given h v is = absurd cc

  versions_by : (class : Name) (before : Trace) (e : Entry) (rest : Trace) (kept : List ℕ) (made : Option Version) → are_bytes kept ≡ true
      → ((v : Version) → made ≡ Some v → IsBytes v)
      → ((left : List ℕ) → are_bytes left ≡ true → AllByRecursion IsBytes (versions_from job turns class (before ++ e ∷ []) left rest))
      → AllByRecursion IsBytes (elim made as (λ _. List Version) [
        | None ↦ versions_from job turns class (before ++ e ∷ []) kept rest
        | Some v ↦ v ∷ versions_from job turns class (before ++ e ∷ []) v.kept rest
      ])
  versions_by class before e rest kept None h k more = more kept h
  versions_by class before e rest kept (Some v) h k more = let is = k v refl in (is, more v.kept is.kept)

  versions_bytes : (class : Name) (before : Trace) (kept : List ℕ) (rest : Trace) → are_bytes kept ≡ true → AllHoldBytes rest
      → AllByRecursion IsBytes (versions_from job turns class before kept rest)
  versions_bytes class before kept [] h all = tt
  versions_bytes class before kept (e ∷ rest) h all =
      versions_by class before e rest kept (version_made job turns class before e.actor kept (making class e.what)) h
      (made_bytes class before e.actor kept (making class e.what) (making_bytes class e.what all.0) h)
      (λ left k. versions_bytes class (before ++ e ∷ []) left rest k all.1)

  -- ---- trees

  -- what holds of every well-formed tree, and of the base class of this name
  module _ (P : Tree → Type 0) (formed : (t : Tree) → is_well_formed t ≡ true → P t) where
    tree_by : {E : Type 0} (read : Result Tree E) → ((u : Tree) → read ≡ Ok u → is_well_formed u ≡ true) → (t : Tree)
        → (elim read as (λ _. Option Tree) [ Ok t ↦ Some t | Err fault ↦ None ]) ≡ Some t → P t
    tree_by (Ok u) h t e = let same : u ≡ t = cc in subst P same (formed u (h u refl))
    tree_by (Err fault) h t e = absurd cc

    read_by : (found : Option Tree) (rest : List Tree) → ((t : Tree) → found ≡ Some t → P t) → AllByRecursion P rest
        → AllByRecursion P (cons_option found rest)
    read_by None rest h k = k
    read_by (Some t) rest h k = (h t refl, k)

    read_all : (vs : List Version) → AllByRecursion IsBytes vs → AllByRecursion P (filter_map (λ v. tree_of v.bytes) vs)
    read_all [] all = tt
    read_all (v ∷ vs) all =
        read_by (tree_of v.bytes) (filter_map (λ v. tree_of v.bytes) vs)
        (tree_by (class_of v.bytes) (λ u is. (let spelled = class_sound v.bytes u all.0.bytes is in spelled.well_formed))) (read_all vs all.1)

    base_by : (found : Option BaseClass) (rest : List Tree) → ((c : BaseClass) → found ≡ Some c → P (base_tree c)) → AllByRecursion P rest
        → AllByRecursion P (elim (option_map base_tree found) as (λ _. List Tree) [ Some t ↦ t ∷ [] | None ↦ rest ])
    base_by None rest base h = h
    base_by (Some c) rest base h = (base c refl, tt)

    pub trees_all : (trace : Trace) (name : Name) → ((c : BaseClass) → find (has_name name) base_set ≡ Some c → P (base_tree c))
        → AllHoldBytes trace → AllByRecursion P (trees job turns trace name)
    trees_all trace name base all =
        base_by (find (has_name name) base_set) (filter_map (λ v. tree_of v.bytes) (versions job turns name trace)) base
        (read_all (versions job turns name trace) (versions_bytes name [] [] trace refl all))

  pub trees_listed : (trace : Trace) (name : Name) → AllHoldBytes trace → AllByRecursion IsListed (trees job turns trace name)
  trees_listed trace name all = trees_all IsListed formed_listed trace name (λ c is. base_listed c) all
