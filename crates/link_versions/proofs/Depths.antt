-- The test of types, by how many dimensions they have; and the type of a class that is held.
use Rattle.std.proofs.Common.{◌≡◌, ℕ, zero, suc, ◌<◌, false, List, reverse, refl, ap, ◌∙◌, Some, None, arith}
use Rattle.std.specs.Prelude.{option_map, ◌∷◌, bytes_eq}
use Rattle.std.specs.List.{list_any}
use Rattle.std.specs.Option.{option_map_or}
use Rattle.ti_ids.specs.declared.number.ClassNo.{ClassNo}
use Rattle.link_versions.specs.declared.class.Element.{Element}
use Rattle.link_versions.specs.declared.class.Element.TheVariants as element
use Rattle.link_versions.specs.declared.class.Entry.{Entry}
use Rattle.link_versions.specs.declared.class.EntryKind.TheVariants as entry_kinds
use Rattle.link_versions.specs.declared.class.Version.{Version}
use Rattle.link_versions.specs.Classes.{Class, numbered}
use Rattle.link_versions.specs.Subtypes.{object_name, array_interface_names, typed, type_of, is_element_below, is_array_below, is_type_below}
use Rattle.link_versions.specs.Entries.{kind_of, classes_of}
use Rattle.link_versions.proofs.Held.{class_at-is}

pub more_dimensions : (classes : List Class) (m : ℕ) (e : Element) (n : ℕ) (f : Element) → n < m → is_type_below classes m e n f ≡ is_array_below classes f
unfolding is_type_below
more_dimensions classes zero e n f low = absurd (omega arith)
more_dimensions classes (suc m) e zero f low = refl
more_dimensions classes (suc m) e (suc n) f low = more_dimensions classes m e n f (omega arith)

pub same_dimensions : (classes : List Class) (m : ℕ) (e : Element) (n : ℕ) (f : Element) → m ≡ n → is_type_below classes m e n f ≡ is_element_below classes e f
unfolding is_type_below
same_dimensions classes zero e zero f same = refl
same_dimensions classes zero e (suc n) f same = absurd (omega arith)
same_dimensions classes (suc m) e zero f same = absurd (omega arith)
same_dimensions classes (suc m) e (suc n) f same = same_dimensions classes m e n f (omega arith)

pub fewer_dimensions : (classes : List Class) (m : ℕ) (e : Element) (n : ℕ) (f : Element) → m < n → is_type_below classes m e n f ≡ false
unfolding is_type_below
fewer_dimensions classes m e zero f low = absurd (omega arith)
fewer_dimensions classes zero e (suc n) f low = refl
fewer_dimensions classes (suc m) e (suc n) f low = fewer_dimensions classes m e n f (omega arith)

-- ---- what is held

pub type_of-file : (es : List Entry) (n : ClassNo) (e : Entry) (versions : List Version) → numbered (reverse es) n.0 ≡ Some e → e.kind ≡ entry_kinds.File versions → type_of (classes_of es) n ≡ (0, element.Class n)
unfolding type_of
type_of-file es n e versions found file = ap (λ c. typed n (option_map (λ k. k.kind) c)) (class_at-is es n (Some e) found) ∙ ap (λ k. typed n (Some (kind_of k))) file

pub type_of-array : (es : List Entry) (n : ClassNo) (e : Entry) (dimensions : ℕ) (of : Element) → numbered (reverse es) n.0 ≡ Some e → e.kind ≡ entry_kinds.Array dimensions of → type_of (classes_of es) n ≡ (dimensions, of)
unfolding type_of
type_of-array es n e dimensions of found array = ap (λ c. typed n (option_map (λ k. k.kind) c)) (class_at-is es n (Some e) found) ∙ ap (λ k. typed n (Some (kind_of k))) array

pub type_of-none : (es : List Entry) (n : ClassNo) → numbered (reverse es) n.0 ≡ None → type_of (classes_of es) n ≡ (0, element.Class n)
unfolding type_of
type_of-none es n found = ap (λ c. typed n (option_map (λ k. k.kind) c)) (class_at-is es n None found)

pub is_array_below-some : (es : List Entry) (n : ClassNo) (e : Entry) → numbered (reverse es) n.0 ≡ Some e
    → is_array_below (classes_of es) (element.Class n) ≡ list_any (bytes_eq e.name) (object_name ∷ array_interface_names)
unfolding is_array_below
is_array_below-some es n e found = ap (λ c. option_map_or (λ k. list_any (bytes_eq k.name) (object_name ∷ array_interface_names)) c false) (class_at-is es n (Some e) found)

pub is_array_below-none : (es : List Entry) (n : ClassNo) → numbered (reverse es) n.0 ≡ None → is_array_below (classes_of es) (element.Class n) ≡ false
unfolding is_array_below
is_array_below-none es n found = ap (λ c. option_map_or (λ k. list_any (bytes_eq k.name) (object_name ∷ array_interface_names)) c false) (class_at-is es n None found)
