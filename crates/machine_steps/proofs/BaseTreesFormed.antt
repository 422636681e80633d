-- The tree of each base class is well-formed.
use Rattle.base_set.specs.BaseSet.{BaseClass, base_set, has_name}
use Rattle.base_set.specs.BaseTrees.{base_tree}
use Rattle.class_code.specs.FormSearch.{form_at}
use Rattle.class_tree.specs.Spelling as spelling
use Rattle.class_tree.specs.WellFormed.{is_well_formed}
use Rattle.jv_names.specs.DescriptorFlaws.{field_flaw, method_flaw, read_field, read_method, read_result}
use Rattle.jv_names.specs.DescriptorReading.{class_end, dimensions, read_class, read_element, read_type, split_class, split_dimensions}
use Rattle.jv_names.specs.Names.{Name}
use Rattle.jv_names.specs.Utf8.{unit_bytes}
use Rattle.std.proofs.Common.{Bool, List, Option, Some, [], cond, false, refl, subst, true, ◌∷◌, ◌≡◌}
use Rattle.std.specs.List.{list_all}
use Rattle.std.specs.Prelude.{find, ◌&&◌}

abbrev is_formed : BaseClass → Bool
is_formed c = is_well_formed (base_tree c)

-- computed
all_formed : list_all is_formed base_set ≡ true
unfolding unit_bytes class_end dimensions split_class split_dimensions read_class read_element read_type read_field read_result read_method field_flaw method_flaw form_at spelling.u2 spelling.u4 spelling.counted is_well_formed
all_formed = refl

both : (a b : Bool) → (a && b) ≡ true → (a ≡ true) × (b ≡ true)
both true b e = (refl, e)
both false b e = absurd cc

found_by : (c : BaseClass) (here : Bool) (rest : Option BaseClass) → is_formed c ≡ true → ((x : BaseClass) → rest ≡ Some x → is_formed x ≡ true)
    → (x : BaseClass) → cond here (Some c) rest ≡ Some x → is_formed x ≡ true
found_by c true rest h k x e = let same : c ≡ x = cc in subst (λ (c : BaseClass). is_formed c ≡ true) same h
found_by c false rest h k x e = k x e

found_formed : (name : Name) (bases : List BaseClass) → list_all is_formed bases ≡ true → (x : BaseClass) → find (has_name name) bases ≡ Some x
    → is_formed x ≡ true
found_formed name [] h x e = absurd cc
found_formed name (c ∷ bases) h x e =
    let parts = both (is_formed c) (list_all is_formed bases) h in
    found_by c (has_name name c) (find (has_name name) bases) parts.0 (found_formed name bases parts.1) x e

pub base_formed : (name : Name) (c : BaseClass) → find (has_name name) base_set ≡ Some c → is_well_formed (base_tree c) ≡ true
base_formed name c e = found_formed name base_set all_formed c e
