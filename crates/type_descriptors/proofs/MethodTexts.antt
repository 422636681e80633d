-- A method's descriptor, gone through type by type.
use Rattle.std.proofs.Common.{◌≡◌, ◌≢◌, Bool, true, false, List, Option, Some, None, [], ◌∷◌, ◌++◌, length, take, drop, map, refl, sym, ap, ◌∙◌, append_assoc}
use Rattle.std.specs.Prelude.{option_map, flat_map, ◌||◌}
use Rattle.std.specs.List.{list_any}
use Rattle.std.proofs.Math.Seq.{take-append_seam, drop-append_seam}
use Rattle.std.proofs.lemmas.List.{map-append, append-nil}
use Rattle.std.proofs.lemmas.Option.{none-some, some_pair_parts}
use Rattle.ti_ids.specs.Maybe.{◌>>=◌}
use Rattle.jv_names.specs.Names.{Name}
use Rattle.jv_names.specs.declared.descriptor.FieldType.{FieldType}
use Rattle.jv_names.specs.declared.descriptor.MethodType.{MethodType}
use Rattle.jv_names.specs.declared.descriptor.Desc.{Desc}
use Rattle.jv_names.specs.declared.descriptor.Desc.TheVariants.{Field, Method}
use Rattle.jv_names.specs.declared.descriptor.DescFlaw.{DescFlaw}
use Rattle.jv_names.specs.declared.descriptor.DescFlaw.TheVariants.{Bad, Floating}
use Rattle.jv_names.specs.Descriptors.{AnyType, AnyMethod, any_type, any_method, type_text, is_floating_type, is_floating_result, IsFieldText, IsMethodText, IsMethodDesc, MethodFault}
use Rattle.jv_names.specs.DescriptorReading.{kept_type, kept_types, with_kept}
use Rattle.jv_names.specs.DescriptorFlaws.{read_method, as_fault}
use Rattle.jv_names.proofs.DescriptorTexts.{type_text-no_end}
use Rattle.jv_names.proofs.DescriptorFlaws.{read_method-text, read_method-front}
use Rattle.type_frames.specs.declared.seen.VTypeRef.{VTypeRef}
use Rattle.type_frames.specs.declared.vtype.VType.{VType}
use Rattle.type_frames.specs.Types.{field_vtype}
use Rattle.type_frames.specs.Environments.{MethodVType, parameter_types, result_type, method_type, method_vtypes}
use Rattle.type_frames.specs.Seen.{type_seen}
use Rattle.type_descriptors.specs.Texts.{type_end, cut}
use Rattle.type_descriptors.specs.Methods.{some_types, AreParametersAt}
use Rattle.type_descriptors.proofs.FieldTexts.{floating_none}
use Rattle.type_descriptors.proofs.TypeEnds.{type_end-text}

-- ---- parameters

-- those that are left, and what follows their `)`
pub record Left (all : List FieldType) (seen : List VType) (rest behind : Name) : Type 0 where
  pub left : List FieldType
  pub at : AreParametersAt rest left behind
  pub whole : seen ++ map field_vtype left ≡ map field_vtype all

-- Wherever parameters stand at the front of a text, these types are the first ones, and the others stand at the front of the rest.
pub record AreSeen (text : Name) (types : List VTypeRef) (rest : Name) : Type 0 where
  pub left : (all : List FieldType) (behind : Name) → AreParametersAt text all behind → Left all (map type_seen types) rest behind

front_cut : (one others : Name) → cut (one ++ others) (Some (length one)) ≡ Some (one, others)
front_cut one others =
    let f = λ (a b : Name). let x : Option (Name × Name) = Some (a, b) in x in
    let e : f (take (length one) (one ++ others)) (drop (length one) (one ++ others)) ≡ f one others = rw (take-append_seam one others, drop-append_seam one others) refl in
    e

-- the texts of the others, and what follows
abbrev others_text : List FieldType → Name → Name
others_text ts behind = flat_map type_text (map any_type ts) ++ 41 ∷ behind

first_parts : (rest behind : Name) (t : FieldType) (ts : List FieldType) → AreParametersAt rest (t ∷ ts) behind → rest ≡ type_text (any_type t) ++ others_text ts behind
first_parts rest behind t ts at = at.spelled ∙ append_assoc (type_text (any_type t)) (flat_map type_text (map any_type ts)) (41 ∷ behind)

first_cut : (rest behind : Name) (t : FieldType) (ts : List FieldType) → AreParametersAt rest (t ∷ ts) behind → cut rest (type_end rest) ≡ Some (type_text (any_type t), others_text ts behind)
first_cut rest behind t ts at =
    ap (λ (x : Name). cut x (type_end x)) (first_parts rest behind t ts at)
    ∙ ap (cut (type_text (any_type t) ++ others_text ts behind)) (type_end-text t (others_text ts behind) at.named.0)
    ∙ front_cut (type_text (any_type t)) (others_text ts behind)

no_first : (rest behind : Name) (t : FieldType) (ts : List FieldType) (after : Name) → AreParametersAt rest (t ∷ ts) behind → rest ≡ 41 ∷ after → ⊥
no_first rest behind t ts after at e = type_text-no_end (any_type t) (others_text ts behind) after (sym (first_parts rest behind t ts at) ∙ e)

step : (all : List FieldType) (types : List VTypeRef) (rest behind one others : Name) (r : VTypeRef) (left : List FieldType)
    → AreParametersAt rest left behind → map type_seen types ++ map field_vtype left ≡ map field_vtype all → ((after : Name) → rest ≢ 41 ∷ after)
    → Some (one, others) ≡ cut rest (type_end rest) → ((t : FieldType) → IsFieldText one (any_type t) → type_seen r ≡ field_vtype t)
    → Left all (map type_seen (types ++ r ∷ [])) others behind
step all types rest behind one others r [] at whole no_end is seen = absurd (no_end behind at.spelled)
step all types rest behind one others r (t ∷ ts) at whole no_end is seen =
    let parts = some_pair_parts one (type_text (any_type t)) others (others_text ts behind) (is ∙ first_cut rest behind t ts at) in
    let here : type_seen r ≡ field_vtype t = seen t (record { named = at.named.0; spelled = parts.0 }) in
    let pushed : map type_seen (types ++ r ∷ []) ≡ map type_seen types ++ field_vtype t ∷ [] = map-append type_seen types (r ∷ []) ∙ ap (λ (x : VType). map type_seen types ++ x ∷ []) here in
    record {
      left = ts;
      at = record { named = at.named.1; spelled = parts.1 };
      whole = ap (λ (x : List VType). x ++ map field_vtype ts) pushed ∙ append_assoc (map type_seen types) (field_vtype t ∷ []) (map field_vtype ts) ∙ whole;
    }

-- one type more
pub one_more : (text : Name) (types : List VTypeRef) (rest one others : Name) (r : VTypeRef) → AreSeen text types rest → ((after : Name) → rest ≢ 41 ∷ after)
    → Some (one, others) ≡ cut rest (type_end rest) → ((t : FieldType) → IsFieldText one (any_type t) → type_seen r ≡ field_vtype t) → AreSeen text (types ++ r ∷ []) others
one_more text types rest one others r are no_end is seen = record {
  left = λ all behind at. let so_far = are.left all behind at in step all types rest behind one others r so_far.left so_far.at so_far.whole no_end is seen;
}

all_at : (all : List FieldType) (seen : List VType) (rest behind tail : Name) (left : List FieldType) → AreParametersAt rest left tail → seen ++ map field_vtype left ≡ map field_vtype all → rest ≡ 41 ∷ behind
    → some_types seen behind ≡ some_types (map field_vtype all) tail
all_at all seen rest behind tail [] at whole e =
    let types : seen ≡ map field_vtype all = sym (append-nil seen) ∙ whole in
    let ends : 41 ∷ behind ≡ 41 ∷ tail = sym e ∙ at.spelled in
    let same : behind ≡ tail = cc in
    rw (types, same) refl
all_at all seen rest behind tail (t ∷ ts) at whole e = absurd (no_first rest tail t ts behind at e)

-- at the `)` all types are seen
pub all_seen : (text : Name) (types : List VTypeRef) (rest behind : Name) (all : List FieldType) (tail : Name) → AreSeen text types rest → rest ≡ 41 ∷ behind → AreParametersAt text all tail
    → some_types (map type_seen types) behind ≡ some_types (map field_vtype all) tail
all_seen text types rest behind all tail are e at = let so_far = are.left all tail at in all_at all (map type_seen types) rest behind tail so_far.left so_far.at so_far.whole e

stuck : (rest tail : Name) (left : List FieldType) → AreParametersAt rest left tail → ((after : Name) → rest ≢ 41 ∷ after) → None ≡ cut rest (type_end rest) → ⊥
stuck rest tail [] at no_end none = no_end tail at.spelled
stuck rest tail (t ∷ ts) at no_end none = none-some (type_text (any_type t), others_text ts tail) (none ∙ first_cut rest tail t ts at)

-- a rest with neither is no parameters'
pub never_stuck : (text : Name) (types : List VTypeRef) (rest : Name) (all : List FieldType) (tail : Name) → AreSeen text types rest → ((after : Name) → rest ≢ 41 ∷ after)
    → None ≡ cut rest (type_end rest) → AreParametersAt text all tail → ⊥
never_stuck text types rest all tail are no_end none at = let so_far = are.left all tail at in stuck rest tail so_far.left so_far.at no_end none

-- ---- the type that is read

kept_all : (ts : List FieldType) → kept_types (map any_type ts) ≡ Some ts
kept_all [] = refl
kept_all (t ∷ ts) = ap (with_kept (Some t)) (kept_all ts)

kept_result : (ps : List FieldType) (r : Option FieldType) → result_type (record { parameters = map any_type ps; result = option_map any_type r }) ≡ Some r
kept_result ps None = refl
kept_result ps (Some t) = refl

-- a method's descriptor is read as its type
pub method_type-text : (text : Name) (m : MethodType) → IsMethodText text (any_method m) → method_type text ≡ Some m
method_type-text text m is = rw (read_method-text text (any_method m) is, kept_all m.parameters, kept_result m.parameters m.result) refl

with_none : (k : Option FieldType) → with_kept k None ≡ None
with_none None = refl
with_none (Some t) = refl

floating_or : (t : AnyType) (ts : List AnyType) (b : Bool) → is_floating_type t ≡ b → (b || list_any is_floating_type ts) ≡ true → (list_any is_floating_type ts ≡ true → kept_types ts ≡ None) → with_kept (kept_type t) (kept_types ts) ≡ None
floating_or t ts true here e others = ap (λ (k : Option FieldType). with_kept k (kept_types ts)) (floating_none t here)
floating_or t ts false here e others = ap (with_kept (kept_type t)) (others e) ∙ with_none (kept_type t)

floating_all : (ts : List AnyType) → list_any is_floating_type ts ≡ true → kept_types ts ≡ None
floating_all [] e = absurd cc
floating_all (t ∷ ts) e = floating_or t ts (is_floating_type t) refl e (floating_all ts)

floating_last : (ps : List AnyType) (r : Option AnyType) → is_floating_result r ≡ true → result_type (record { parameters = ps; result = r }) ≡ None
floating_last ps None e = absurd cc
floating_last ps (Some t) e = ap (option_map (λ (u : FieldType). Some u)) (floating_none t e)

abbrev joined : Option (List FieldType) → Option (Option FieldType) → Option MethodType
joined parameters result = parameters >>= λ ps. result >>= λ r. Some (record { parameters = ps; result = r })

joined_none : (parameters : Option (List FieldType)) → joined parameters None ≡ None
joined_none None = refl
joined_none (Some ps) = refl

floating_method : (m : AnyMethod) (b : Bool) → list_any is_floating_type m.parameters ≡ b → (b || is_floating_result m.result) ≡ true → joined (parameter_types m) (result_type m) ≡ None
floating_method m true some e = ap (λ (ps : Option (List FieldType)). joined ps (result_type m)) (floating_all m.parameters some)
floating_method m false some e = ap (joined (parameter_types m)) (floating_last m.parameters m.result e) ∙ joined_none (parameter_types m)

unread_method : (text : Name) (read : Option AnyMethod) → read_method text ≡ read → ((m : AnyMethod) → ¬ IsMethodText text m) → (read >>= λ m. joined (parameter_types m) (result_type m)) ≡ None
unread_method text None is none = refl
unread_method text (Some m) is none = absurd (none m (read_method-front text m is))

-- a text with a fault has no type
pub method_type-none : (text : Name) (flaw : DescFlaw) → MethodFault text (as_fault flaw) → method_type text ≡ None
method_type-none text Bad none = unread_method text (read_method text) refl none
method_type-none text Floating (m, is, floating) =
    ap (λ (read : Option AnyMethod). read >>= λ m. joined (parameter_types m) (result_type m)) (read_method-text text m is)
    ∙ floating_method m (list_any is_floating_type m.parameters) refl floating

-- a text without one has the type that is seen
pub method_seen_is : (text : Name) (seen : Option MethodVType) → (d : Desc) × IsMethodDesc text d
    → ((m : MethodType) → IsMethodText text (any_method m) → seen ≡ Some (method_vtypes m)) → seen ≡ option_map method_vtypes (method_type text)
method_seen_is text seen (Field t, is) all = absurd is
method_seen_is text seen (Method m, is) all = all m is ∙ sym (ap (option_map method_vtypes) (method_type-text text m is))
