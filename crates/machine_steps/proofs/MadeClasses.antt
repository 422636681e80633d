-- What is kept of the classes that are there, by their names: what a file's class is made of, and which element an array class has. And that
-- the base classes, in their order, are made so.
use Rattle.base_set.specs.BaseSet.{base_set}
use Rattle.class_tree.specs.Tree.{class_at}
use Rattle.class_tree.specs.Trees.{Tree}
use Rattle.jv_names.specs.DescriptorFlaws.{read_field}
use Rattle.jv_names.specs.DescriptorReading.{class_end, dimensions, read_class, read_element, read_type, split_class, split_dimensions}
use Rattle.jv_names.specs.Names.{Name}
use Rattle.jv_names.specs.declared.descriptor.ElementType.{ElementType}
use Rattle.jv_names.specs.declared.descriptor.ElementType.TheVariants as element_type
use Rattle.jv_names.specs.declared.descriptor.FieldType.{FieldType}
use Rattle.link_versions.specs.Changes.{Keeps}
use Rattle.machine_state.specs.Jobs.{Job}
use Rattle.machine_state.specs.Linked.{array_type, base_tree_of, tree_of, trees}
use Rattle.machine_state.specs.Trace.{Trace}
use Rattle.machine_state.specs.Versions.{Turns, versions}
use Rattle.machine_steps.proofs.AcceptedNames.{both, listed_one, same_lists}
use Rattle.machine_steps.proofs.ClassNames.{is_in}
use Rattle.machine_steps.proofs.LoadingSupers.{IsIn}
use Rattle.machine_steps.specs.Loading.{listed, same_names, supers_in}
use Rattle.std.proofs.Common.{Bool, List, None, Option, Some, [], cond, false, map, refl, subst, sym, true, ◌∷◌, ◌≡◌}
use Rattle.std.specs.List.{AllByRecursion, filter_map, list_all, list_any}
use Rattle.std.specs.Prelude.{bytes_eq, is_none, ◌&&◌}

-- ---- what a class is made of

-- the first tree of a class of a file has its name, and its supertypes are among those before it; each later one keeps it
pub record IsMadeBy (older : List Name) (name : Name) (first : Tree) (later : List Tree) : Type 0 where
  pub named : class_at first.pool first.this_class ≡ Some name
  pub supers : AllByRecursion (λ super. IsIn super older) (supers_in first)
  pub keep : AllByRecursion (Keeps first) later

abbrev pub IsMade : List Name → Name → List Tree → Type 0
IsMade older name [] = ⊥
IsMade older name (first ∷ later) = IsMadeBy older name first later

-- the class that an element names is among these
abbrev pub IsElementIn : List Name → ElementType → Type 0
IsElementIn older (element_type.Class name) = IsIn name older
IsElementIn older e = Unit {0}

abbrev pub IsMadeAs : List Name → Name → Option FieldType → List Tree → Type 0
IsMadeAs older name (Some type) ts = IsElementIn older type.element
IsMadeAs older name None ts = IsMade older name ts

module _ (job : Job) (turns : Turns) where
  -- the trees of a class that is in a file
  abbrev pub file_trees : Trace → Name → List Tree
  file_trees trace name = filter_map (λ v. tree_of v.bytes) (versions job turns name trace)

  -- each class of these names, the newest first, is made so, and there are no trees of others
  abbrev pub AreMade : Trace → List Name → Type 0
  AreMade trace [] = Unit {0}
  AreMade trace (name ∷ older) = IsMadeAs older name (array_type name) (trees job turns trace name) × AreMade trace older

  pub record IsKept (trace : Trace) (names : List Name) : Type 0 where
    pub made : AreMade trace names
    pub unmade : (name : Name) → (IsIn name names → ⊥) → file_trees trace name ≡ []

-- ---- the base classes

-- a tree has this name, and its supertypes are among those before it
abbrev is_over : List Name → Name → Option Tree → Bool
is_over older name None = false
is_over older name (Some t) =
    same_names (listed (class_at t.pool t.this_class)) (name ∷ []) && list_all (λ super. list_any (bytes_eq super) older) (supers_in t)

abbrev are_base : List Name → Bool
are_base [] = true
are_base (name ∷ older) = (is_none (array_type name) && is_over older name (base_tree_of name)) && are_base older

abbrev pub base_names : List Name
base_names = map (λ c. c.name) base_set

-- names with each of these that isn't there yet
abbrev pub with_names : List Name → List Name → List Name
with_names there [] = there
with_names there (name ∷ names) = with_names (cond (list_any (bytes_eq name) there) there (name ∷ there)) names

-- computed
are_computed : are_base (with_names [] base_names) ≡ true
unfolding class_end dimensions split_class split_dimensions read_class read_element read_type read_field
are_computed = refl

there_computed : list_all (λ name. list_any (bytes_eq name) (with_names [] base_names)) base_names ≡ true
there_computed = refl

all_in : (older names : List Name) → list_all (λ name. list_any (bytes_eq name) older) names ≡ true → AllByRecursion (λ name. IsIn name older) names
all_in older [] e = tt
all_in older (name ∷ names) e = let parts = both _ _ e in (is_in name older parts.0, all_in older names parts.1)

none_of : {A : Type 0} (o : Option A) → is_none o ≡ true → o ≡ None
none_of None e = refl
none_of (Some x) e = absurd cc

over_made : (older : List Name) (name : Name) (base : Option Tree) (rest : List Tree) → is_over older name base ≡ true
    → IsMade older name (elim base as (λ _. List Tree) [ Some t ↦ t ∷ [] | None ↦ rest ])
over_made older name None rest e = absurd cc
over_made older name (Some t) rest e =
    let parts = both _ _ e in
    record {
      named = listed_one (class_at t.pool t.this_class) name (same_lists (listed (class_at t.pool t.this_class)) (name ∷ []) parts.0);
      supers = all_in older (supers_in t) parts.1;
      keep = tt;
    }

module _ (job : Job) (turns : Turns) (trace : Trace) where
  base_by : (names : List Name) → are_base names ≡ true → AreMade job turns trace names
  base_by [] e = tt
  base_by (name ∷ older) e =
      let parts = both _ _ e in
      let own = both _ _ parts.0 in (
        subst (λ (type : Option FieldType). IsMadeAs older name type (trees job turns trace name)) (sym (none_of (array_type name) own.0))
            (over_made older name (base_tree_of name) (file_trees job turns trace name) own.1),
        base_by older parts.1,
      )

  pub base_made : AreMade job turns trace (with_names [] base_names)
  base_made = base_by (with_names [] base_names) are_computed

pub base_there : AllByRecursion (λ name. IsIn name (with_names [] base_names)) base_names
base_there = all_in (with_names [] base_names) base_names there_computed
