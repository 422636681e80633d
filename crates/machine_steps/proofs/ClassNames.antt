-- By its name a class is found among the linked ones exactly where the core has it. And which names are none of an array.
use Rattle.jv_names.specs.Names.{Name, is_class_name, is_part, onto, parts}
use Rattle.jv_names.specs.declared.descriptor.FieldType.{FieldType}
use Rattle.class_tree.proofs.Facts.{well_formed_facts}
use Rattle.class_tree.specs.Tree.{class_at}
use Rattle.class_tree.specs.Trees.{Tree}
use Rattle.class_tree.specs.WellFormed.{is_well_formed}
use Rattle.link_versions.specs.Classes.{number_of}
use Rattle.machine_state.proofs.Alike.{linked_name}
use Rattle.machine_state.specs.Core.{CoreClass}
use Rattle.machine_state.specs.Jobs.{Job}
use Rattle.machine_state.specs.Laws.{names_of}
use Rattle.machine_state.specs.Linked.{array_type, linked}
use Rattle.machine_state.specs.Trace.{Trace}
use Rattle.machine_state.specs.Versions.{Turns}
use Rattle.machine_steps.proofs.LawfulClasses.{array_named}
use Rattle.machine_steps.proofs.LoadingSupers.{IsIn}
use Rattle.std.proofs.Common.{Bool, List, None, Option, Some, [], cond, false, inl, inr, refl, replicate, subst, suc, sym, true, zero, ℕ, ◌++◌, ◌||◌, ◌<◌, ◌∙◌, ◌∷◌, ◌≡◌, ◌⊎◌, arith}
use Rattle.std.proofs.lemmas.Slice.Eq.{bytes_eq-Decides}
use Rattle.std.specs.List.{list_all, list_any}
use Rattle.std.specs.Prelude.{IsSome, bytes_eq}
use Rattle.ti_ids.specs.declared.number.ClassNo.{ClassNo}

-- ---- names in a list, and the test of it

any_by : (name other : Name) (here rest : Bool) (others : List Name) → bytes_eq name other ≡ here → (rest ≡ true → IsIn name others)
    → (here || rest) ≡ true → IsIn name (other ∷ others)
any_by name other true rest others is more e = inl ((bytes_eq-Decides name other).0 is)
any_by name other false rest others is more e = inr (more e)

pub is_in : (name : Name) (names : List Name) → list_any (bytes_eq name) names ≡ true → IsIn name names
is_in name [] e = absurd cc
is_in name (other ∷ names) e =
    any_by name other (bytes_eq name other) (list_any (bytes_eq name) names) names refl (is_in name names) e

-- ---- by its name a class is found

some_by : (here : Bool) (n : ClassNo) (rest : Option ClassNo) → (here ≡ true) ⊎ IsSome rest → IsSome (cond here (Some n) rest)
some_by true n rest h = refl
some_by false n rest (inl e) = absurd cc
some_by false n rest (inr h) = h

of_some : (here : Bool) (n : ClassNo) (rest : Option ClassNo) → IsSome (cond here (Some n) rest) → (here ≡ true) ⊎ IsSome rest
of_some true n rest h = inl refl
of_some false n rest h = inr h

module _ (job : Job) (turns : Turns) (trace : Trace) (name : Name) where
  pub named_there : (classes : List CoreClass) → IsIn name (names_of classes) → IsSome (number_of (linked job turns trace classes) name)
  unfolding linked
  named_there [] h = absurd h
  named_there (c ∷ older) h =
      let own = linked_name job turns trace (number_of (linked job turns trace older)) c in
      some_by (bytes_eq name _) _ (number_of (linked job turns trace older) name) (by own h (named_there older))
    where
      by : {x : Name} → x ≡ c.name → IsIn name (names_of (c ∷ older))
          → (IsIn name (names_of older) → IsSome (number_of (linked job turns trace older) name))
          → (bytes_eq name x ≡ true) ⊎ IsSome (number_of (linked job turns trace older) name)
      by {x} own (inl same) more = inl ((bytes_eq-Decides name x).1 (same ∙ sym own))
      by own (inr h) more = inr (more h)

  pub there_named : (classes : List CoreClass) → IsSome (number_of (linked job turns trace classes) name) → IsIn name (names_of classes)
  unfolding linked
  there_named [] h = absurd cc
  there_named (c ∷ older) h =
      let own = linked_name job turns trace (number_of (linked job turns trace older)) c in
      by own (of_some (bytes_eq name _) _ (number_of (linked job turns trace older) name) h) (there_named older)
    where
      by : {x : Name} → x ≡ c.name → (bytes_eq name x ≡ true) ⊎ IsSome (number_of (linked job turns trace older) name)
          → (IsSome (number_of (linked job turns trace older) name) → IsIn name (names_of older)) → IsIn name (names_of (c ∷ older))
      by {x} own (inl e) more = inl ((bytes_eq-Decides name x).0 e ∙ own)
      by own (inr h) more = inr (more h)

-- ---- a class that is no array has no array's name

onto_first : (rest : List Name) → list_all is_part (onto 91 rest) ≡ true → ⊥
onto_first [] e = absurd cc
onto_first (part ∷ others) e = absurd cc

bracket_first : (rest : Name) → is_class_name (91 ∷ rest) ≡ true → ⊥
bracket_first rest e = onto_first (parts 47 rest) e

array_text : (name : Name) (t : FieldType) (dimensions : ℕ) (rest : Name) → 0 < dimensions → name ≡ replicate dimensions 91 ++ rest
    → is_class_name name ≡ true → ⊥
array_text name t zero rest deep e plain = omega (arith, deep)
array_text name t (suc n) rest deep e plain =
    bracket_first (replicate n 91 ++ rest) (subst (λ (x : Name). is_class_name x ≡ true) e plain)

plain_by : (name : Name) (type : Option FieldType) → array_type name ≡ type → is_class_name name ≡ true → type ≡ None
plain_by name None is plain = refl
plain_by name (Some t) is plain =
    let named = array_named name t is in absurd (array_text name t t.dimensions _ named.array named.text.spelled plain)

pub no_array : (name : Name) → is_class_name name ≡ true → array_type name ≡ None
no_array name plain = plain_by name (array_type name) refl plain

class_plain : (pool_name : Option Name) (name : Name) → pool_name ≡ Some name
    → (elim pool_name as (λ _. Bool) [ None ↦ false | Some name ↦ is_class_name name ]) ≡ true → is_class_name name ≡ true
class_plain None name is plain = absurd cc
class_plain (Some other) name is plain = let same : other ≡ name = cc in subst (λ (n : Name). is_class_name n ≡ true) same plain

-- a class of a file is none
pub of_file : (t : Tree) (name : Name) → is_well_formed t ≡ true → class_at t.pool t.this_class ≡ Some name → array_type name ≡ None
of_file t name formed is = no_array name (class_plain (class_at t.pool t.this_class) name is (well_formed_facts t formed).this_class)
