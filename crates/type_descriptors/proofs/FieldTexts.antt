-- The type that a field's descriptor tells by its first unit.
use Rattle.std.proofs.Common.{◌≡◌, ℕ, zero, suc, true, Option, Some, None, [], ◌∷◌, ◌++◌, replicate, refl, sym, ap, subst, ◌∙◌}
use Rattle.std.specs.Prelude.{option_map}
use Rattle.std.specs.Option.{option_and_then}
use Rattle.std.proofs.lemmas.Option.{option_and_then_some}
use Rattle.jv_names.specs.Names.{Name}
use Rattle.jv_names.specs.declared.descriptor.ElementType.{ElementType}
use Rattle.jv_names.specs.declared.descriptor.ElementType.TheVariants as element
use Rattle.jv_names.specs.declared.descriptor.FieldType.{FieldType}
use Rattle.jv_names.specs.declared.descriptor.Desc.{Desc}
use Rattle.jv_names.specs.declared.descriptor.Desc.TheVariants.{Field, Method}
use Rattle.jv_names.specs.declared.descriptor.DescFlaw.{DescFlaw}
use Rattle.jv_names.specs.declared.descriptor.DescFlaw.TheVariants.{Bad, Floating}
use Rattle.jv_names.specs.Descriptors.{AnyElement, Kept, Float, Double, AnyType, any_type, kept_text, is_floating_type, IsFieldText, IsFieldDesc, FieldFault}
use Rattle.jv_names.specs.DescriptorReading.{kept_type}
use Rattle.jv_names.specs.DescriptorFlaws.{read_field, as_fault}
use Rattle.jv_names.proofs.DescriptorFlaws.{read_field-text, read_field-front}
use Rattle.type_frames.specs.declared.vtype.VType.{VType}
use Rattle.type_frames.specs.declared.vtype.VType.TheVariants as vtype
use Rattle.type_frames.specs.Types.{front, under_dimensions, field_vtype}
use Rattle.type_frames.specs.Environments.{field_type}
use Rattle.type_descriptors.specs.Texts.{text_vtype}

front_ended : (name : Name) (unit : ℕ) → front (name ++ unit ∷ []) ≡ name
front_ended [] unit = refl
front_ended (x ∷ []) unit = refl
front_ended (x ∷ y ∷ name) unit = ap (λ (units : Name). x ∷ units) (front_ended (y ∷ name) unit)

under_vtype : (n : ℕ) (e : ElementType) → text_vtype (replicate n 91 ++ kept_text e) ≡ under_dimensions n e
under_vtype zero element.Boolean = refl
under_vtype zero element.Byte = refl
under_vtype zero element.Char = refl
under_vtype zero element.Short = refl
under_vtype zero element.Int = refl
under_vtype zero element.Long = refl
under_vtype zero (element.Class name) = ap vtype.Object (front_ended name 59)
under_vtype (suc n) e = refl

-- a type's text tells it
pub vtype_spelled : (text : Name) (t : FieldType) → IsFieldText text (any_type t) → text_vtype text ≡ field_vtype t
vtype_spelled text t is = ap text_vtype is.spelled ∙ under_vtype t.dimensions t.element

kept_parts : (n : ℕ) (e : AnyElement) (t : FieldType) → kept_type (record { dimensions = n; element = e }) ≡ Some t → record { dimensions = n; element = e } ≡ any_type t
kept_parts n (Kept e) t is = cc
kept_parts n Float t is = absurd cc
kept_parts n Double t is = absurd cc

kept_is : (u : AnyType) (t : FieldType) → kept_type u ≡ Some t → u ≡ any_type t
kept_is u t is = kept_parts u.dimensions u.element t is

-- the type that is read is the one that is spelled
pub field_spelled : (text : Name) (t : FieldType) → field_type text ≡ Some t → IsFieldText text (any_type t)
field_spelled text t e =
    option_and_then_some kept_type (read_field text) t e (λ u read is. subst (IsFieldText text) (kept_is u t is) (read_field-front text u read))

pub field_type-text : (text : Name) (t : FieldType) → IsFieldText text (any_type t) → field_type text ≡ Some t
field_type-text text t is = ap (option_and_then kept_type) (read_field-text text (any_type t) is)

floating_parts : (n : ℕ) (e : AnyElement) → is_floating_type (record { dimensions = n; element = e }) ≡ true → kept_type (record { dimensions = n; element = e }) ≡ None
floating_parts n (Kept e) is = absurd cc
floating_parts n Float is = refl
floating_parts n Double is = refl

pub floating_none : (u : AnyType) → is_floating_type u ≡ true → kept_type u ≡ None
floating_none u is = floating_parts u.dimensions u.element is

unread_field : (text : Name) (read : Option AnyType) → read_field text ≡ read → ((t : AnyType) → ¬ IsFieldText text t) → option_and_then kept_type read ≡ None
unread_field text None is none = refl
unread_field text (Some u) is none = absurd (none u (read_field-front text u is))

-- a text with a fault has no type
pub field_type-none : (text : Name) (flaw : DescFlaw) → FieldFault text (as_fault flaw) → field_type text ≡ None
field_type-none text Bad none = unread_field text (read_field text) refl none
field_type-none text Floating (u, is, floating) = ap (option_and_then kept_type) (read_field-text text u is) ∙ floating_none u floating

-- a text without one has the type that is seen
pub field_seen : (text : Name) (seen : VType) → (d : Desc) × IsFieldDesc text d → ((t : FieldType) → IsFieldText text (any_type t) → seen ≡ field_vtype t) → Some seen ≡ option_map field_vtype (field_type text)
field_seen text seen (Field t, is) all = ap (λ (x : VType). Some x) (all t is) ∙ sym (ap (option_map field_vtype) (field_type-text text t is))
field_seen text seen (Method m, is) all = absurd is
