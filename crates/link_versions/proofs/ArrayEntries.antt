-- The entry of an array class.
use Rattle.std.proofs.Common.{◌≡◌, List, ◌∷◌, refl, ap, Option, Some, None}
use Rattle.std.specs.Prelude.{IfSome, if◌then◌else◌, is_none}
use Rattle.std.specs.List.{filter_map}
use Rattle.ti_ids.specs.declared.number.ClassNo.{ClassNo}
use Rattle.jv_names.specs.declared.descriptor.FieldType.{FieldType}
use Rattle.jv_names.specs.Names.{Name}
use Rattle.link_versions.specs.declared.class.Entry.{Entry}
use Rattle.link_versions.specs.declared.class.EntryKind.TheVariants as entry_kinds
use Rattle.ti_ids.specs.declared.state.InitState.TheVariants as states
use Rattle.link_versions.specs.Classes.{Class, number_of}
use Rattle.link_versions.specs.Subtypes.{object_name, array_interface_names}
use Rattle.link_versions.specs.Changes.{IsThere, element_by, IsElementThere, IsArrayName, array_class, with_array, IsLawful}
use Rattle.link_versions.specs.Entries.{kind_of, class_of, IsSound}
use Rattle.link_versions.proofs.Tables.{number_of-there, all_there, IsOrdered, in_order}

found_there : (classes : List Class) (name : Name) (found : Option ClassNo) → number_of classes name ≡ found → IfSome found (IsThere classes)
found_there classes name None e = tt
found_there classes name (Some n) e = number_of-there classes name n e

-- an entry of an array class
pub record IsArrayEntry (classes : List Class) (e : Entry) (t : FieldType) : Type 0 where
  pub fresh : number_of classes e.name ≡ None
  pub named : IsArrayName e.name t
  pub there : IsElementThere classes t.element
  pub parent : e.parent ≡ number_of classes object_name
  pub interfaces : e.interfaces ≡ filter_map (number_of classes) array_interface_names
  pub kind : e.kind ≡ entry_kinds.Array t.dimensions (element_by (number_of classes) t.element)

array_lawful : (classes : List Class) (e : Entry) (t : FieldType) → IsArrayEntry classes e t → IsLawful classes (class_of e)
array_lawful classes e t f = record {
  fresh = f.fresh;
  parent = rw f.parent (found_there classes object_name (number_of classes object_name) refl);
  interfaces = rw f.interfaces (all_there classes (λ (name : Name). Some name) array_interface_names);
  kind = rw f.kind (record {
    type = t;
    named = f.named;
    there = f.there;
    deep = refl;
    over = refl;
    parent = f.parent;
    interfaces = f.interfaces;
  });
}

pub array_sound : (classes : List Class) (e : Entry) (t : FieldType) (n : ClassNo) → IsArrayEntry classes e t → IsOrdered classes e n → IsSound classes e
array_sound classes e t n f o = in_order classes e n (array_lawful classes e t f) (rw f.kind tt) o

-- an entry says what the array class is
pub class_of-array : (classes : List Class) (e : Entry) (name : Name) (t : FieldType) → IsArrayEntry classes e t → e.name ≡ name → e.state ≡ states.Initialized → class_of e ≡ array_class (number_of classes) name t
class_of-array classes e name t f named state =
    let kind = ap kind_of f.kind in
    λ i. record { name = named i; parent = f.parent i; interfaces = f.interfaces i; kind = kind i; state = state i }

-- ---- with one array class more, or with the one that is there

pub with_array-made : (classes : List Class) (name : Name) (t : FieldType) → number_of classes name ≡ None → with_array classes name t ≡ array_class (number_of classes) name t ∷ classes
with_array-made classes name t e = ap (λ found. if is_none found then array_class (number_of classes) name t ∷ classes else classes) e

pub with_array-there : (classes : List Class) (name : Name) (t : FieldType) (n : ClassNo) → number_of classes name ≡ Some n → with_array classes name t ≡ classes
with_array-there classes name t n e = ap (λ found. if is_none found then array_class (number_of classes) name t ∷ classes else classes) e
