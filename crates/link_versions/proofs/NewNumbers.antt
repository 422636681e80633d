-- The number of a class that was just defined, by its name.
use Rattle.std.proofs.Common.{◌≡◌, ◌+◌, Bool, true, false, cond, List, ◌∷◌, length, Some, refl, ap, arith}
use Rattle.std.specs.Prelude.{◌≢◌, bytes_eq}
use Rattle.std.proofs.lemmas.Slice.Eq.{bytes_eq-Decides}
use Rattle.ti_ids.specs.declared.number.ClassNo.{ClassNo}
use Rattle.jv_names.specs.Names.{Name}
use Rattle.link_versions.specs.Classes.{Class, number_of}
use Rattle.link_versions.specs.Laws.{next_class, NumbersNew}

found_here : (c : Class) (classes : List Class) (same : Bool) → bytes_eq c.name c.name ≡ same
    → cond same (Some (let n : ClassNo = record { 0 = length (c ∷ classes) } in n)) (number_of classes c.name) ≡ Some (next_class classes)
found_here c classes true e = ap (λ n. Some (let m : ClassNo = record { 0 = n } in m)) (let one : length (c ∷ classes) ≡ length classes + 1 = omega arith in one)
found_here c classes false e = absurd (let yes = (bytes_eq-Decides c.name c.name).1 refl in cc)

found_behind : (c : Class) (classes : List Class) (name : Name) (same : Bool) → bytes_eq name c.name ≡ same → name ≢ c.name
    → cond same (Some (let n : ClassNo = record { 0 = length (c ∷ classes) } in n)) (number_of classes name) ≡ number_of classes name
found_behind c classes name true e other = absurd (other ((bytes_eq-Decides name c.name).0 e))
found_behind c classes name false e other = refl

pub numbers_new : NumbersNew
numbers_new = record {
  new = λ c classes. found_here c classes (bytes_eq c.name c.name) refl;
  others = λ c classes name other. found_behind c classes name (bytes_eq name c.name) refl other;
}
