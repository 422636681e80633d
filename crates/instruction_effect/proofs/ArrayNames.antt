-- The names of array types: that of the components is the rest of the name, and the class that is made for a name is of its type.
use Rattle.jv_names.proofs.DescriptorFlaws.{read_field-front, read_field-text}
use Rattle.jv_names.specs.DescriptorFlaws.{read_field}
use Rattle.jv_names.specs.DescriptorReading.{kept_element, kept_type}
use Rattle.jv_names.specs.Descriptors.{AnyElement, AnyType, Double, Float, IsFieldText, IsNamed, Kept, element_text}
use Rattle.jv_names.specs.Names.{Name}
use Rattle.jv_names.specs.declared.descriptor.ElementType.{ElementType}
use Rattle.jv_names.specs.declared.descriptor.FieldType.{FieldType}
use Rattle.link_versions.specs.Changes.{array_class}
use Rattle.link_versions.specs.Classes.{Class, number_of, numbered}
use Rattle.link_versions.specs.Subtypes.{type_of, typed}
use Rattle.machine_state.proofs.Alike.{nat_differ}
use Rattle.machine_state.specs.Linked.{array_type, if_array}
use Rattle.std.proofs.Common.{Bool, List, None, Option, Some, ap, arith, cond, drop, false, length, refl, suc, sym, true, ℕ, ◌++◌, ◌+◌, ◌==◌, ◌∙◌, ◌∷◌, ◌≡◌}
use Rattle.std.proofs.lemmas.Bool.{eqb-false}
use Rattle.std.specs.Option.{option_and_then}
use Rattle.std.specs.Prelude.{option_map, replicate}
use Rattle.ti_ids.specs.declared.number.ClassNo.{ClassNo}

-- ---- the type of a name

if_by : (t type : FieldType) (none : Bool) → cond none None (Some t) ≡ Some type → t ≡ type
if_by t type true is = absurd cc
if_by t type false is = cc

element_by_kept : (dimensions : ℕ) (e : AnyElement) (type : FieldType)
    → option_and_then if_array (option_map (λ e. (let t : FieldType = record { dimensions = dimensions; element = e } in t)) (kept_element e))
    ≡ Some type
    → (e ≡ Kept type.element) × (dimensions ≡ type.dimensions)
element_by_kept dimensions (Kept e) type is =
    let t : FieldType = record { dimensions = dimensions; element = e } in
    let same : t ≡ type = if_by t type (dimensions == 0) is in
    (ap (λ (x : FieldType). Kept x.element) same, ap (λ (x : FieldType). x.dimensions) same)
element_by_kept dimensions Float type is = absurd cc
element_by_kept dimensions Double type is = absurd cc

read_by : (name : Name) (type : FieldType) (found : Option AnyType) → read_field name ≡ found
    → option_and_then if_array (option_and_then kept_type found) ≡ Some type
    → (a : AnyType) × IsFieldText name a × (a.element ≡ Kept type.element) × (a.dimensions ≡ type.dimensions)
read_by name type None read is = absurd cc
read_by name type (Some a) read is =
    let parts = element_by_kept a.dimensions a.element type is in
    (a, read_field-front name a read, parts.0, parts.1)

pub type_text_of : (name : Name) (type : FieldType) → array_type name ≡ Some type
    → (a : AnyType) × IsFieldText name a × (a.element ≡ Kept type.element) × (a.dimensions ≡ type.dimensions)
type_text_of name type is = read_by name type (read_field name) refl is

array_kept : (k : ℕ) (e : ElementType) (t : FieldType) → t ≡ record { dimensions = suc k; element = e } → if_array t ≡ Some t
array_kept k e t is =
    let some : t.dimensions ≡ suc k = ap (λ (x : FieldType). x.dimensions) is in
    let not_none : (t.dimensions == 0) ≡ false = nat_differ t.dimensions 0 (λ none. absurd (omega (arith, some, none))) in
    ap (λ (b : Bool). cond b None (Some t)) not_none

-- ---- the name of the components

typed_by : (k : ℕ) (text : Name) (e : AnyElement) (element : ElementType) → e ≡ Kept element → IsNamed e
    → text ≡ replicate (suc k) 91 ++ element_text e
    → (less : FieldType) → less ≡ record { dimensions = suc k; element = element } → array_type text ≡ Some less
typed_by k text e element kept named spelled less is =
    let a : AnyType = record { dimensions = suc k; element = e } in
    let read : read_field text ≡ Some a = read_field-text text a (record { named = named; spelled = spelled }) in
    let known : option_and_then kept_type (read_field text) ≡ Some less =
    ap (λ (x : Option AnyType). option_and_then kept_type x) read
    ∙ ap (λ (x : AnyElement). option_map (λ y. (let t : FieldType = record { dimensions = suc k; element = y } in t)) (kept_element x)) kept
    ∙ ap (λ (t : FieldType). Some t) (sym is) in
    ap (λ (x : Option FieldType). option_and_then if_array x) known ∙ array_kept k element less is

behind_first : (name : Name) (dimensions k : ℕ) (rest : Name) → dimensions ≡ suc (suc k) → name ≡ replicate dimensions 91 ++ rest
    → drop 1 name ≡ replicate (suc k) 91 ++ rest
behind_first name dimensions k rest is spelled =
    ap (λ (l : Name). drop 1 l) (spelled ∙ ap (λ (n : ℕ). replicate n 91 ++ rest) is)

pub component_typed : (name : Name) (type : FieldType) (k : ℕ) (less : FieldType) → array_type name ≡ Some type → type.dimensions ≡ suc (suc k)
    → less ≡ record { dimensions = suc k; element = type.element } → array_type (drop 1 name) ≡ Some less
component_typed name type k less is deep same =
    let text = type_text_of name type is in
    let a : AnyType = text.0 in
    let dimensions : a.dimensions ≡ suc (suc k) = text.3 ∙ deep in
    let spelled : drop 1 name ≡ replicate (suc k) 91 ++ element_text a.element =
    behind_first name a.dimensions k (element_text a.element) dimensions text.1.spelled in
    typed_by k (drop 1 name) a.element type.element text.2 text.1.named spelled less same

-- ---- the class that is made

numbered_last : (c : Class) (classes : List Class) (b : Bool) → (length classes + 1 == length (c ∷ classes)) ≡ b
    → numbered (c ∷ classes) (length classes + 1) ≡ Some c
numbered_last c classes true is = ap (λ (b : Bool). cond b (Some c) (numbered classes (length classes + 1))) is
numbered_last c classes false is =
    absurd (eqb-false (length classes + 1) (length (c ∷ classes)) is (let same : length classes + 1 ≡ suc (length classes) = omega arith in same))

pub type_of_added : (classes : List Class) (name : Name) (type : FieldType) (n : ClassNo) → n.0 ≡ length classes + 1
    → (type_of (array_class (number_of classes) name type ∷ classes) n).0 ≡ type.dimensions
unfolding type_of
type_of_added classes name type n is =
    let c : Class = array_class (number_of classes) name type in
    ap (λ (x : Option Class). (typed n (option_map (λ c. c.kind) x)).0)
    (ap (numbered (c ∷ classes)) is ∙ numbered_last c classes (length classes + 1 == length (c ∷ classes)) refl)
