-- A text is the descriptor of at most one type, or has one fault.
use Rattle.std.proofs.Common.{◌≡◌, ◌≢◌, ◌<◌, ℕ, Bool, true, false, not, List, [], ◌∷◌, ◌++◌, length, Option, Some, None, Err, refl, sym, ap, subst, ◌∙◌, arith, append_assoc}
use Rattle.std.specs.Prelude.{option_map, IfOk, IfErr, flat_map, map, ◌||◌}
use Rattle.std.specs.Option.{ok_or}
use Rattle.std.specs.List.{AllByRecursion, list_any}
use Rattle.std.proofs.lemmas.List.{append-nil, length-append}
use Rattle.std.proofs.lemmas.Bool.{false≢true}
use Rattle.std.proofs.Math.Bool.{or-true}
use Rattle.std.proofs.lemmas.Grind.{flat_map-append}
use Rattle.std.proofs.lemmas.Option.{none-some, some_pair_parts}
use Rattle.jv_names.specs.declared.descriptor.ElementType.{ElementType}
use Rattle.jv_names.specs.declared.descriptor.FieldType.{FieldType}
use Rattle.jv_names.specs.declared.descriptor.MethodType.{MethodType}
use Rattle.jv_names.specs.declared.descriptor.Desc.{Desc}
use Rattle.jv_names.specs.declared.descriptor.Desc.TheVariants.{Field, Method}
use Rattle.jv_names.specs.declared.descriptor.DescFault.{DescFault}
use Rattle.jv_names.specs.declared.descriptor.DescFault.TheVariants.{Bad, Floating, Memory}
use Rattle.jv_names.specs.Names.{Name}
use Rattle.jv_names.specs.Descriptors.{AnyElement, Kept, Float, Double, AnyType, AnyMethod, type_text, result_text, IsNamedType, IsNamedResult, is_floating_type, is_floating_result, is_floating_method, any_type, any_method, IsFieldText, IsMethodText, IsFieldDesc, IsMethodDesc, FieldFault, MethodFault, GivesDesc, IfFault}
use Rattle.jv_names.specs.DescriptorReading.{read_type, kept_type, kept_types, with_kept, with_last, IsUnread, AreTypes, AreParameters, IsNoParameters, IsResultText, ResultFault}
use Rattle.jv_names.proofs.DescriptorTexts.{read_type-text, IsTypeFront, read_type-front, type_text-no_end, type_text-no_void, type_text-some}

-- ---- one type

-- what the code keeps of what was read
abbrev pub kept_part : AnyType × Name → Option FieldType × Name
kept_part x = (kept_type x.0, x.1)

abbrev some_type : AnyType → Name → Option (AnyType × Name)
some_type t rest = Some (t, rest)

some_type-same : (t u : AnyType) (r s : Name) → some_type t r ≡ some_type u s → (t ≡ u) × (r ≡ s)
some_type-same t u r s e = some_pair_parts t u r s e

not_none : (t : AnyType) (rest : Name) → None ≡ some_type t rest → ⊥
not_none t rest e = none-some (t, rest) e

-- a field's text is read whole
pub field_read : (text : Name) (t : AnyType) → IsFieldText text t → read_type text ≡ Some (t, [])
field_read text t is = ap read_type (is.spelled ∙ sym (append-nil (type_text t))) ∙ read_type-text t [] is.named

kept-any : (n : ℕ) (e : AnyElement) (f : FieldType) → kept_type (record { dimensions = n; element = e }) ≡ Some f → any_type f ≡ record { dimensions = n; element = e }
kept-any n (Kept e) f is = cc
kept-any n Float f is = absurd cc
kept-any n Double f is = absurd cc

not_kept-floating : (n : ℕ) (e : AnyElement) → kept_type (record { dimensions = n; element = e }) ≡ None → is_floating_type (record { dimensions = n; element = e }) ≡ true
not_kept-floating n (Kept e) is = absurd cc
not_kept-floating n Float is = refl
not_kept-floating n Double is = refl

-- what was read, from what is kept of it
pub record KeptFront (text : Name) (kept : Option FieldType) (rest : Name) : Type 0 where
  pub type : AnyType
  pub front : IsTypeFront text (type, rest)
  pub read : read_type text ≡ Some (type, rest)
  pub is_kept : kept_type type ≡ kept

kept_of_read : (text : Name) (read : Option (AnyType × Name)) (kept : Option FieldType) (rest : Name) → read_type text ≡ read → option_map kept_part read ≡ Some (kept, rest) → KeptFront text kept rest
kept_of_read text None kept rest is e = absurd cc
kept_of_read text (Some x) kept rest is e =
    let parts = some_pair_parts (kept_type x.0) kept x.1 rest e in
    let whole : read_type text ≡ Some (x.0, rest) = is ∙ ap (λ (r : Name). some_type x.0 r) parts.1 in
    record { type = x.0; front = read_type-front text (x.0, rest) whole; read = whole; is_kept = parts.0 }

pub kept_front : (text : Name) (kept : Option FieldType) (rest : Name) → option_map kept_part (read_type text) ≡ Some (kept, rest) → KeptFront text kept rest
kept_front text kept rest e = kept_of_read text (read_type text) kept rest refl e

-- ---- the type of a whole text

pub unread-field : (text : Name) (e : DescFault) → IsUnread (read_type text) e → IfFault e (FieldFault text)
unread-field text Bad h = λ t is. not_none t [] (sym h ∙ field_read text t is)
unread-field text Floating h = absurd h
unread-field text Memory h = tt

pub more-field : (text : Name) (kept : Option FieldType) (rest : Name) → rest ≢ [] → option_map kept_part (read_type text) ≡ Some (kept, rest) → (t : AnyType) → ¬ IsFieldText text t
more-field text kept rest more e t is =
    let k = kept_front text kept rest e in
    more (some_type-same k.type t rest [] (sym k.read ∙ field_read text t is)).1

pub whole_field : (text : Name) (t : AnyType) → IsTypeFront text (t, []) → IsFieldText text t
whole_field text t front = record { named = front.named; spelled = front.spelled ∙ append-nil (type_text t) }

found-field : (text : Name) (f : FieldType) → option_map kept_part (read_type text) ≡ Some (Some f, []) → IsFieldText text (any_type f)
found-field text f e =
    let k = kept_front text (Some f) [] e in
    let is : any_type f ≡ k.type = kept-any k.type.dimensions k.type.element f k.is_kept in
    subst (IsFieldText text) (sym is) (whole_field text k.type k.front)

floating-field : (text : Name) → option_map kept_part (read_type text) ≡ Some (None, []) → FieldFault text Floating
floating-field text e =
    let k = kept_front text None [] e in
    (k.type, whole_field text k.type k.front, not_kept-floating k.type.dimensions k.type.element k.is_kept)

pub found-or : (text : Name) (kept : Option FieldType) → option_map kept_part (read_type text) ≡ Some (kept, []) → IfOk (ok_or kept Floating) (λ t. IsFieldText text (any_type t))
found-or text None e = tt
found-or text (Some f) e = found-field text f e

pub floating-or : (text : Name) (kept : Option FieldType) → option_map kept_part (read_type text) ≡ Some (kept, []) → IfErr (ok_or kept Floating) (λ e. IfFault e (FieldFault text))
floating-or text None e = floating-field text e
floating-or text (Some f) e = tt

-- ---- a result

pub void_or : (text : Name) (e : DescFault) → text ≢ 86 ∷ [] → IfFault e (FieldFault text) → IfFault e (ResultFault text)
void_or text Bad not h = λ r is. elim r as (λ r. IsResultText text r → ⊥) [
  | None ↦ λ is. not is.spelled
  | Some t ↦ λ is. h t (record { named = is.named; spelled = is.spelled })
] is
void_or text Floating not h = (Some h.0, record { named = h.1.named; spelled = h.1.spelled }, h.2)
void_or text Memory not h = tt

-- ---- parameters

with_kept-with_last : (k l : Option FieldType) (o : Option (List FieldType)) → with_kept k (with_last o l) ≡ with_last (with_kept k o) l
with_kept-with_last None l o = refl
with_kept-with_last (Some f) None None = refl
with_kept-with_last (Some f) (Some g) None = refl
with_kept-with_last (Some f) None (Some fs) = refl
with_kept-with_last (Some f) (Some g) (Some fs) = refl

with_kept-nil : (l : Option FieldType) → with_kept l (Some []) ≡ with_last (Some []) l
with_kept-nil None = refl
with_kept-nil (Some f) = refl

kept_types-push : (ts : List AnyType) (t : AnyType) → kept_types (ts ++ t ∷ []) ≡ with_last (kept_types ts) (kept_type t)
kept_types-push [] t = with_kept-nil (kept_type t)
kept_types-push (u ∷ us) t = ap (with_kept (kept_type u)) (kept_types-push us t) ∙ with_kept-with_last (kept_type u) (kept_type t) (kept_types us)

pub named-push : (ts : List AnyType) (t : AnyType) → AllByRecursion IsNamedType ts → IsNamedType t → AllByRecursion IsNamedType (ts ++ t ∷ [])
named-push [] t all last = (last, tt)
named-push (u ∷ us) t all last = (all.0, named-push us t all.1 last)

pub texts-push : (ts : List AnyType) (t : AnyType) (rest after : Name) → rest ≡ type_text t ++ after → flat_map type_text ts ++ rest ≡ flat_map type_text (ts ++ t ∷ []) ++ after
texts-push ts t rest after e =
    rw (e, flat_map-append type_text ts (t ∷ []), append-nil (type_text t)) (sym (append_assoc (flat_map type_text ts) (type_text t) after))

-- one more type is read
pub types_more : (text : Name) (kept : Option (List FieldType)) (one : Option FieldType) (rest after : Name) → AreTypes text kept rest → option_map kept_part (read_type rest) ≡ Some (one, after) → AreTypes text (with_last kept one) after
types_more text kept one rest after are e =
    let k = kept_front rest one after e in
    record {
      types = are.types ++ k.type ∷ [];
      named = named-push are.types k.type are.named k.front.named;
      spelled = are.spelled ∙ texts-push are.types k.type rest after k.front.spelled;
      are_kept = kept_types-push are.types k.type ∙ rw (are.are_kept, k.is_kept) refl;
    }

pub fewer_units : (one : Option FieldType) (rest after : Name) → option_map kept_part (read_type rest) ≡ Some (one, after) → length after < length rest
fewer_units one rest after e =
    let k = kept_front rest one after e in
    let some = type_text-some k.type in
    omega (arith, ap length k.front.spelled, length-append (type_text k.type) after)

-- of two texts that begin with a type, what follows is the same too
cancel_type : (t u : AnyType) (r s : Name) → IsNamedType t → IsNamedType u → type_text t ++ r ≡ type_text u ++ s → (t ≡ u) × (r ≡ s)
cancel_type t u r s tn un e = some_type-same t u r s (sym (read_type-text t r tn) ∙ ap read_type e ∙ read_type-text u s un)

-- a text behind types, with no type and no `)` in front of it
pub stuck : (ds ts : List AnyType) (rest tail : Name) → AllByRecursion IsNamedType ds → AllByRecursion IsNamedType ts → read_type rest ≡ None → ((after : Name) → rest ≢ 41 ∷ after)
    → flat_map type_text ds ++ rest ≡ flat_map type_text ts ++ 41 ∷ tail → ⊥
stuck [] [] rest tail dn tn unread no_end e = no_end tail e
stuck [] (t ∷ ts) rest tail dn tn unread no_end e =
    not_none t (flat_map type_text ts ++ 41 ∷ tail) (sym unread ∙ ap read_type (e ∙ append_assoc (type_text t) (flat_map type_text ts) (41 ∷ tail)) ∙ read_type-text t (flat_map type_text ts ++ 41 ∷ tail) tn.0)
stuck (d ∷ ds) [] rest tail dn tn unread no_end e =
    type_text-no_end d (flat_map type_text ds ++ rest) tail (sym (append_assoc (type_text d) (flat_map type_text ds) rest) ∙ e)
stuck (d ∷ ds) (t ∷ ts) rest tail dn tn unread no_end e =
    let same = cancel_type d t (flat_map type_text ds ++ rest) (flat_map type_text ts ++ 41 ∷ tail) dn.0 tn.0 (sym (append_assoc (type_text d) (flat_map type_text ds) rest) ∙ e ∙ append_assoc (type_text t) (flat_map type_text ts) (41 ∷ tail)) in
    stuck ds ts rest tail dn.1 tn.1 unread no_end same.1

pub unread-parameters : (text : Name) (kept : Option (List FieldType)) (rest : Name) (e : DescFault) → AreTypes text kept rest → IsUnread (read_type rest) e → ((after : Name) → rest ≢ 41 ∷ after) → IsNoParameters text e
unread-parameters text kept rest Bad are unread no_end = λ ts tail named spelled. stuck are.types ts rest tail are.named named unread no_end (sym are.spelled ∙ spelled)
unread-parameters text kept rest Floating are unread no_end = unread
unread-parameters text kept rest Memory are unread no_end = tt

parameters_apart : (ps qs : List AnyType) (r s : Name) → AllByRecursion IsNamedType ps → AllByRecursion IsNamedType qs → flat_map type_text ps ++ 41 ∷ r ≡ flat_map type_text qs ++ 41 ∷ s → (ps ≡ qs) × (r ≡ s)
parameters_apart [] [] r s pn qn e = (refl, cc)
parameters_apart [] (q ∷ qs) r s pn qn e =
    absurd (type_text-no_end q (flat_map type_text qs ++ 41 ∷ s) r (sym (append_assoc (type_text q) (flat_map type_text qs) (41 ∷ s)) ∙ sym e))
parameters_apart (p ∷ ps) [] r s pn qn e =
    absurd (type_text-no_end p (flat_map type_text ps ++ 41 ∷ r) s (sym (append_assoc (type_text p) (flat_map type_text ps) (41 ∷ r)) ∙ e))
parameters_apart (p ∷ ps) (q ∷ qs) r s pn qn e =
    let front = cancel_type p q (flat_map type_text ps ++ 41 ∷ r) (flat_map type_text qs ++ 41 ∷ s) pn.0 qn.0 (sym (append_assoc (type_text p) (flat_map type_text ps) (41 ∷ r)) ∙ e ∙ append_assoc (type_text q) (flat_map type_text qs) (41 ∷ s)) in
    let others = parameters_apart ps qs r s pn.1 qn.1 front.1 in
    (rw (front.0, others.0) refl, others.1)

-- ---- methods

-- a method's text, cut at its parameters
method_parts : (text rest : Name) (m : AnyMethod) → text ≡ 40 ∷ rest → IsMethodText text m → rest ≡ flat_map type_text m.parameters ++ 41 ∷ result_text m.result
method_parts text rest m begun is = let e : 40 ∷ rest ≡ 40 ∷ (flat_map type_text m.parameters ++ 41 ∷ result_text m.result) = sym begun ∙ is.spelled in cc

-- parameters and a result, put together
read_method : (text rest tail : Name) (kept : Option (List FieldType)) (r : Option AnyType) → text ≡ 40 ∷ rest → (are : AreParameters rest kept tail) → IsResultText tail r → IsMethodText text (record { parameters = are.types; result = r })
read_method text rest tail kept r begun are is = record {
  parameters_named = are.named;
  result_named = is.named;
  spelled = begun ∙ ap {B = Name} (λ x. 40 ∷ x) (are.spelled ∙ rw (is.spelled) refl);
}

pub result_fault-method : (text rest tail : Name) (kept : Option (List FieldType)) (e : DescFault) → text ≡ 40 ∷ rest → AreParameters rest kept tail → IfFault e (ResultFault tail) → IfFault e (MethodFault text)
result_fault-method text rest tail kept Bad begun are h = λ m is.
    let same = parameters_apart are.types m.parameters tail (result_text m.result) are.named is.parameters_named (sym are.spelled ∙ method_parts text rest m begun is) in
    h m.result (record { named = is.result_named; spelled = same.1 })
result_fault-method text rest tail kept Floating begun are h =
    (record { parameters = are.types; result = h.0 }, read_method text rest tail kept h.0 begun are h.1, rw h.2 (or-true (list_any is_floating_type are.types)))
result_fault-method text rest tail kept Memory begun are h = tt

-- where each type is kept, the types are those of the profile
kept_both : (t : AnyType) (k : Option FieldType) (o : Option (List FieldType)) (ts : List AnyType) (fs : List FieldType) → kept_type t ≡ k → ((gs : List FieldType) → o ≡ Some gs → map any_type gs ≡ ts) → with_kept k o ≡ Some fs → map any_type fs ≡ t ∷ ts
kept_both t None o ts fs is others e = absurd cc
kept_both t (Some f) None ts fs is others e = absurd cc
kept_both t (Some f) (Some gs) ts fs is others e =
    let same : f ∷ gs ≡ fs = cc in
    let front : any_type f ≡ t = kept-any t.dimensions t.element f is in
    rw (← same) (rw (front, others gs refl) refl)

kept_types-any : (ts : List AnyType) (fs : List FieldType) → kept_types ts ≡ Some fs → map any_type fs ≡ ts
kept_types-any [] fs e = let same : [] ≡ fs = cc in rw (← same) refl
kept_types-any (t ∷ ts) fs e = kept_both t (kept_type t) (kept_types ts) ts fs refl (kept_types-any ts) e

-- where one is not, it is of floating point
floating_one : (t : AnyType) (k : Option FieldType) (o : Option (List FieldType)) (ts : List AnyType) → kept_type t ≡ k → (o ≡ None → list_any is_floating_type ts ≡ true) → with_kept k o ≡ None → (is_floating_type t || list_any is_floating_type ts) ≡ true
floating_one t None o ts is others e = let here : is_floating_type t ≡ true = not_kept-floating t.dimensions t.element is in rw here refl
floating_one t (Some f) None ts is others e = rw (others refl) (or-true (is_floating_type t))
floating_one t (Some f) (Some gs) ts is others e = absurd cc

not_kept_types-floating : (ts : List AnyType) → kept_types ts ≡ None → list_any is_floating_type ts ≡ true
not_kept_types-floating [] e = absurd cc
not_kept_types-floating (t ∷ ts) e = floating_one t (kept_type t) (kept_types ts) ts refl (not_kept_types-floating ts) e

pub found-method : (text rest tail : Name) (ps : List FieldType) (r : Option AnyType) → text ≡ 40 ∷ rest → AreParameters rest (Some ps) tail → IsResultText tail r → IsMethodText text (record { parameters = map any_type ps; result = r })
found-method text rest tail ps r begun are is =
    rw (kept_types-any are.types ps are.are_kept) (read_method text rest tail (Some ps) r begun are is)

pub floating-method : (text rest tail : Name) (r : Option AnyType) → text ≡ 40 ∷ rest → AreParameters rest None tail → IsResultText tail r → MethodFault text Floating
floating-method text rest tail r begun are is =
    (record { parameters = are.types; result = r }, read_method text rest tail None r begun are is, rw (not_kept_types-floating are.types are.are_kept) refl)

-- ---- one text, one type

field_apart : (text : Name) (t u : AnyType) → IsFieldText text t → IsFieldText text u → t ≡ u
field_apart text t u ti ui = (some_type-same t u [] [] (sym (field_read text t ti) ∙ field_read text u ui)).0

any_type-same : (t u : FieldType) → any_type t ≡ any_type u → t ≡ u
any_type-same t u e =
    let dimensions : t.dimensions ≡ u.dimensions = ap (λ (x : AnyType). x.dimensions) e in
    let kept : Kept t.element ≡ Kept u.element = ap (λ (x : AnyType). x.element) e in
    let element : t.element ≡ u.element = cc in
    let type = λ (n : ℕ) (x : ElementType). let f : FieldType = record { dimensions = n; element = x } in f in
    let whole : type t.dimensions t.element ≡ type u.dimensions u.element = rw (dimensions, element) refl in
    whole

any_types-same : (ts us : List FieldType) → map any_type ts ≡ map any_type us → ts ≡ us
any_types-same [] [] e = refl
any_types-same [] (u ∷ us) e = absurd cc
any_types-same (t ∷ ts) [] e = absurd cc
any_types-same (t ∷ ts) (u ∷ us) e =
    let front : any_type t ≡ any_type u = cc in
    let others : map any_type ts ≡ map any_type us = cc in
    rw (any_type-same t u front, any_types-same ts us others) refl

any_result-same : (r s : Option FieldType) → option_map any_type r ≡ option_map any_type s → r ≡ s
any_result-same None None e = refl
any_result-same None (Some u) e = absurd cc
any_result-same (Some t) None e = absurd cc
any_result-same (Some t) (Some u) e = let inner : any_type t ≡ any_type u = cc in rw (any_type-same t u inner) refl

result_apart : (r s : Option AnyType) → IsNamedResult r → IsNamedResult s → result_text r ≡ result_text s → r ≡ s
result_apart None None rn sn e = refl
result_apart None (Some u) rn sn e = absurd (type_text-no_void u [] (sym e))
result_apart (Some t) None rn sn e = absurd (type_text-no_void t [] e)
result_apart (Some t) (Some u) rn sn e = rw (field_apart (type_text t) t u (record { named = rn; spelled = refl }) (record { named = sn; spelled = e })) refl

method_apart : (text : Name) (m n : AnyMethod) → IsMethodText text m → IsMethodText text n → m ≡ n
method_apart text m n mi ni =
    let both : 40 ∷ (flat_map type_text m.parameters ++ 41 ∷ result_text m.result) ≡ 40 ∷ (flat_map type_text n.parameters ++ 41 ∷ result_text n.result) = sym mi.spelled ∙ ni.spelled in
    let same = parameters_apart m.parameters n.parameters (result_text m.result) (result_text n.result) mi.parameters_named ni.parameters_named cc in
    let results : m.result ≡ n.result = result_apart m.result n.result mi.result_named ni.result_named same.1 in
    let method = λ (ps : List AnyType) (r : Option AnyType). let x : AnyMethod = record { parameters = ps; result = r } in x in
    let whole : method m.parameters m.result ≡ method n.parameters n.result = rw (same.0, results) refl in
    whole

-- ---- the clauses of the two calls

pub not_floating-any : (ps : List FieldType) → list_any is_floating_type (map any_type ps) ≡ false
not_floating-any [] = refl
not_floating-any (p ∷ ps) = not_floating-any ps

pub not_floating-result : (r : Option FieldType) → is_floating_result (option_map any_type r) ≡ false
not_floating-result None = refl
not_floating-result (Some t) = refl

pub field-only : (text : Name) (t : FieldType) → IsFieldText text (any_type t) → (d : Desc) → IsFieldDesc text d → Field t ≡ d
field-only text t is (Field u) other = ap Field (any_type-same t u (field_apart text (any_type t) (any_type u) is other))
field-only text t is (Method m) other = absurd other

pub field-exact : (text : Name) (t : FieldType) → IsFieldText text (any_type t) → (f : DescFault) → FieldFault text f → ⊥
field-exact text t is Bad fault = fault (any_type t) is
field-exact text t is Floating fault =
    let same : any_type t ≡ fault.0 = field_apart text (any_type t) fault.0 is fault.1 in
    let clash : false ≡ true = rw (← same) at fault.2 in
    false≢true clash
field-exact text t is Memory fault = fault

pub field_fault-only : (text : Name) (e : DescFault) → IfFault e (FieldFault text) → (d : Desc) → IsFieldDesc text d → GivesDesc (Err e) d
field_fault-only text Bad h (Field t) is = h (any_type t) is
field_fault-only text Bad h (Method m) is = is
field_fault-only text Floating h (Field t) is = field-exact text t is Floating h
field_fault-only text Floating h (Method m) is = is
field_fault-only text Memory h d is = tt

pub method-only : (text : Name) (m : MethodType) → IsMethodText text (any_method m) → (d : Desc) → IsMethodDesc text d → Method m ≡ d
method-only text m is (Field t) other = absurd other
method-only text m is (Method n) other =
    let same : any_method m ≡ any_method n = method_apart text (any_method m) (any_method n) is other in
    let parameters : m.parameters ≡ n.parameters = any_types-same m.parameters n.parameters (ap (λ (x : AnyMethod). x.parameters) same) in
    let result : m.result ≡ n.result = any_result-same m.result n.result (ap (λ (x : AnyMethod). x.result) same) in
    let method = λ (ps : List FieldType) (r : Option FieldType). let x : MethodType = record { parameters = ps; result = r } in Method x in
    let whole : method m.parameters m.result ≡ method n.parameters n.result = rw (parameters, result) refl in
    whole

pub method-exact : (text : Name) (m : MethodType) → IsMethodText text (any_method m) → (f : DescFault) → MethodFault text f → ⊥
method-exact text m is Bad fault = fault (any_method m) is
method-exact text m is Floating fault =
    let same : any_method m ≡ fault.0 = method_apart text (any_method m) fault.0 is fault.1 in
    let floating : is_floating_method (any_method m) ≡ true = subst (λ (x : AnyMethod). is_floating_method x ≡ true) (sym same) fault.2 in
    let not_so : is_floating_method (any_method m) ≡ false = rw (not_floating-any m.parameters, not_floating-result m.result) refl in
    false≢true (sym not_so ∙ floating)
method-exact text m is Memory fault = fault

pub method_fault-only : (text : Name) (e : DescFault) → IfFault e (MethodFault text) → (d : Desc) → IsMethodDesc text d → GivesDesc (Err e) d
method_fault-only text Bad h (Field t) is = is
method_fault-only text Bad h (Method m) is = h (any_method m) is
method_fault-only text Floating h (Field t) is = is
method_fault-only text Floating h (Method m) is = method-exact text m is Floating h
method_fault-only text Memory h d is = tt
