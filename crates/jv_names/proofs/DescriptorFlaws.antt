-- What is computed of a text is what the grammar says of it: each answer of DescriptorFlaws has its case, and no other.
use Rattle.std.proofs.Common.{◌≡◌, ◌≢◌, ◌<◌, ◌≤◌, ℕ, zero, suc, Bool, true, false, cond, eqb, List, [], ◌∷◌, ◌++◌, length, Option, Some, None, refl, sym, ap, subst, ◌∙◌, arith, append_assoc, length-append}
use Rattle.std.specs.Prelude.{option_map, flat_map, map, ◌||◌}
use Rattle.std.specs.Option.{option_and_then}
use Rattle.std.specs.List.{AllByRecursion, list_any}
use Rattle.std.specs.Str.{bytes_eq}
use Rattle.std.proofs.lemmas.Bool.Decides.{nat_tests}
use Rattle.std.proofs.lemmas.Bool.{or_parts}
use Rattle.std.proofs.Math.Bool.{or-false}
use Rattle.std.proofs.lemmas.Option.{none-some, cond_some, option_and_then_some}
use Rattle.std.proofs.lemmas.Slice.Eq.{bytes_eq-Decides}
use Rattle.jv_names.specs.declared.descriptor.FieldType.{FieldType}
use Rattle.jv_names.specs.declared.descriptor.MethodType.{MethodType}
use Rattle.jv_names.specs.declared.descriptor.Desc.TheVariants.{Field, Method}
use Rattle.jv_names.specs.declared.descriptor.DescFlaw.{DescFlaw}
use Rattle.jv_names.specs.declared.descriptor.DescFlaw.TheVariants.{Bad, Floating}
use Rattle.jv_names.specs.Names.{Name}
use Rattle.jv_names.specs.Descriptors.{AnyElement, Kept, Float, Double, AnyType, AnyMethod, type_text, result_text, IsNamedType, is_floating_type, is_floating_result, is_floating_method, any_type, any_method, IsFieldText, IsMethodText}
use Rattle.jv_names.specs.DescriptorReading.{read_type, floating_one, floating_some, IsResultText}
use Rattle.jv_names.specs.DescriptorFlaws.{at_end, read_field, behind, with_first, ended_or, read_parameters, read_result, with_result, read_signature, read_method, flaw_of, field_flaw, method_flaw, IsFieldAnswer, IsMethodAnswer}
use Rattle.jv_names.proofs.DescriptorTexts.{read_type-text, read_type-front, type_text-no_end, type_text-no_void, type_text-some}
use Rattle.jv_names.proofs.Descriptors.{field_read, whole_field, stuck, named-push, texts-push, not_floating-any, not_floating-result}

map_some : {A B P : Type 0} (f : A → B) (o : Option A) (y : B) → option_map f o ≡ Some y → ((x : A) → o ≡ Some x → f x ≡ y → P) → P
map_some f None y e then = absurd cc
map_some f (Some x) y e then = then x refl cc

-- ---- a field

at_end-some : (t u : AnyType) (rest : Name) → at_end t rest ≡ Some u → (t ≡ u) × (rest ≡ [])
at_end-some t u [] e = (cc, refl)
at_end-some t u (unit ∷ rest) e = absurd cc

pub read_field-text : (text : Name) (t : AnyType) → IsFieldText text t → read_field text ≡ Some t
unfolding read_field
read_field-text text t is = rw (field_read text t is) refl

abbrev some_type : AnyType → Name → Option (AnyType × Name)
some_type t rest = Some (t, rest)

pub read_field-front : (text : Name) (t : AnyType) → read_field text ≡ Some t → IsFieldText text t
unfolding read_field
read_field-front text t e =
    option_and_then_some (λ (x : AnyType × Name). at_end x.0 x.1) (read_type text) t e (λ x read whole.
    let same = at_end-some x.0 t x.1 whole in
    let all : read_type text ≡ Some (t, []) = read ∙ ap (λ (u : AnyType). some_type u x.1) same.0 ∙ ap (λ (r : Name). some_type t r) same.1 in
    whole_field text t (read_type-front text (t, []) all))

-- ---- parameters

pub behind-some : (unit : ℕ) (text rest : Name) → behind unit text ≡ Some rest → text ≡ unit ∷ rest
behind-some unit [] rest e = absurd cc
behind-some unit (first ∷ others) rest e =
    let p = cond_some (eqb first unit) others rest e in
    let same : first ≡ unit = grind (arith, nat_tests, p.0) in
    rw (same, p.1) refl

pub behind-none : (unit : ℕ) (text : Name) → ((rest : Name) → text ≢ unit ∷ rest) → behind unit text ≡ None
behind-none unit [] other = refl
behind-none unit (first ∷ others) other =
    let differ : first ≢ unit = λ e. other others (ap (λ (u : ℕ). u ∷ others) e) in
    let test : eqb first unit ≡ false = grind (arith, nat_tests, differ) in
    rw test refl

pub record IsParametersFront (text : Name) (x : List AnyType × Name) : Type 0 where
  pub named : AllByRecursion IsNamedType x.0
  pub spelled : text ≡ flat_map type_text x.0 ++ 41 ∷ x.1

pub read_parameters-front : (steps : ℕ) (text : Name) (x : List AnyType × Name) → read_parameters steps text ≡ Some x → IsParametersFront text x
read_parameters-front zero text x e = absurd cc
read_parameters-front (suc steps) text x e =
    let others = λ (y : AnyType × Name). option_map (with_first y.0) (read_parameters steps y.1) in
    elim (behind 41 text) as (λ b. behind 41 text ≡ b → ended_or b (option_and_then others (read_type text)) ≡ Some x → IsParametersFront text x) [
      | Some rest ↦ λ at e. let is : ([], rest) ≡ x = cc in subst (IsParametersFront text) is (record { named = tt; spelled = behind-some 41 text rest at })
      | None ↦ λ at e. option_and_then_some others (read_type text) x e (λ y read more.
          map_some (with_first y.0) (read_parameters steps y.1) x more (λ z inner is.
          let front = read_type-front text y read in
          let rest = read_parameters-front steps y.1 z inner in
          subst (IsParametersFront text) is (record {
            named = (front.named, rest.named);
            spelled = front.spelled ∙ ap (λ (r : Name). type_text y.0 ++ r) rest.spelled ∙ sym (append_assoc (type_text y.0) (flat_map type_text z.0) (41 ∷ z.1));
          })))
    ] refl e

pub read_parameters-text : (steps : ℕ) (ts : List AnyType) (rest : Name) → AllByRecursion IsNamedType ts → length (flat_map type_text ts ++ 41 ∷ rest) ≤ steps
    → read_parameters steps (flat_map type_text ts ++ 41 ∷ rest) ≡ Some (ts, rest)
read_parameters-text zero ts rest named few = absurd (omega (arith, length-append (flat_map type_text ts) (41 ∷ rest)))
read_parameters-text (suc steps) [] rest named few = refl
read_parameters-text (suc steps) (t ∷ ts) rest named few =
    let others : Name = flat_map type_text ts ++ 41 ∷ rest in
    let parts : (type_text t ++ flat_map type_text ts) ++ 41 ∷ rest ≡ type_text t ++ others = append_assoc (type_text t) (flat_map type_text ts) (41 ∷ rest) in
    let other : behind 41 (type_text t ++ others) ≡ None = behind-none 41 (type_text t ++ others) (λ after. type_text-no_end t others after) in
    let fewer : length others ≤ steps = omega (arith, few, ap length parts, length-append (type_text t) others, type_text-some t) in
    rw (parts, other, read_type-text t others named.0, read_parameters-text steps ts rest named.1 fewer) refl

-- types that were read so far, and whether one is of floating point
pub record AreRead (text : Name) (floating : Bool) (rest : Name) : Type 0 where
  pub types : List AnyType
  pub named : AllByRecursion IsNamedType types
  pub spelled : text ≡ flat_map type_text types ++ rest
  pub is_any : list_any is_floating_type types ≡ floating

pub none_read : (text : Name) → AreRead text false text
none_read text = record { types = []; named = tt; spelled = refl; is_any = refl }

or-assoc : (a b c : Bool) → (a || (b || c)) ≡ ((a || b) || c)
or-assoc true b c = refl
or-assoc false b c = refl

any-push : (ts : List AnyType) (t : AnyType) → list_any is_floating_type (ts ++ t ∷ []) ≡ (list_any is_floating_type ts || is_floating_type t)
any-push [] t = or-false (is_floating_type t)
any-push (u ∷ us) t = ap (λ (b : Bool). is_floating_type u || b) (any-push us t) ∙ or-assoc (is_floating_type u) (list_any is_floating_type us) (is_floating_type t)

one_more : (text : Name) (floating : Bool) (rest : Name) (x : AnyType × Name) → AreRead text floating rest → read_type rest ≡ Some x → AreRead text (floating || is_floating_type x.0) x.1
one_more text floating rest x are read =
    let front = read_type-front rest x read in
    record {
      types = are.types ++ x.0 ∷ [];
      named = named-push are.types x.0 are.named front.named;
      spelled = are.spelled ∙ texts-push are.types x.0 rest x.1 front.spelled;
      is_any = any-push are.types x.0 ∙ ap (λ (b : Bool). b || is_floating_type x.0) are.is_any;
    }

pub one_more_read : (text : Name) (floating : Bool) (rest : Name) (one : Bool) (after : Name) → AreRead text floating rest → Some (one, after) ≡ option_map floating_one (read_type rest) → AreRead text (floating || one) after
one_more_read text floating rest one after are e =
    map_some floating_one (read_type rest) (one, after) (sym e) (λ x read is.
    subst (λ (y : Bool × Name). AreRead text (floating || y.0) y.1) is (one_more text floating rest x are read))

pub fewer_left : (rest : Name) (one : Bool) (after : Name) → Some (one, after) ≡ option_map floating_one (read_type rest) → length after < length rest
fewer_left rest one after e =
    map_some floating_one (read_type rest) (one, after) (sym e) (λ x read is.
    let front = read_type-front rest x read in
    subst (λ (y : Bool × Name). length y.1 < length rest) is (omega (arith, ap length front.spelled, length-append (type_text x.0) x.1, type_text-some x.0)))

none_mapped : (r : Option (AnyType × Name)) → None ≡ option_map floating_one r → r ≡ None
none_mapped None e = refl
none_mapped (Some x) e = absurd cc

-- whether one of the parameters at the front is of floating point, and what follows them
abbrev pub floating_front : Name → Option (Bool × Name)
floating_front text = option_map floating_some (read_parameters (length text) text)

pub read_to_end : (text : Name) (floating : Bool) (rest after : Name) → AreRead text floating rest → rest ≡ 41 ∷ after → floating_front text ≡ Some (floating, after)
read_to_end text floating rest after are ended =
    let whole : text ≡ flat_map type_text are.types ++ 41 ∷ after = are.spelled ∙ ap (λ (r : Name). flat_map type_text are.types ++ r) ended in
    let read : read_parameters (length text) text ≡ Some (are.types, after) =
    subst (λ (s : Name). read_parameters (length s) s ≡ Some (are.types, after)) (sym whole) (read_parameters-text (length (flat_map type_text are.types ++ 41 ∷ after)) are.types after are.named (omega arith)) in
    rw (read, are.is_any) refl

pub read_no_end : (text : Name) (floating : Bool) (rest : Name) → AreRead text floating rest → None ≡ option_map floating_one (read_type rest) → ((after : Name) → rest ≢ 41 ∷ after) → floating_front text ≡ None
read_no_end text floating rest are unread no_end =
    elim (read_parameters (length text) text) as (λ r. read_parameters (length text) text ≡ r → option_map floating_some r ≡ None) [
      | None ↦ λ _. refl
      | Some x ↦ λ read.
          let front = read_parameters-front (length text) text x read in
          absurd (stuck are.types x.0 rest x.1 are.named front.named (none_mapped (read_type rest) unread) no_end (sym are.spelled ∙ front.spelled))
    ] refl

-- ---- a method

not_void : (text : Name) → text ≢ 86 ∷ [] → bytes_eq text (86 ∷ []) ≡ false
not_void text other =
    elim (bytes_eq text (86 ∷ [])) as (λ b. bytes_eq text (86 ∷ []) ≡ b → b ≡ false) [
      | true ↦ λ e. absurd (other ((bytes_eq-Decides text (86 ∷ [])).0 e))
      | false ↦ λ _. refl
    ] refl

read_result-text : (r : Option AnyType) (text : Name) → IsResultText text r → read_result text ≡ Some r
unfolding read_result
read_result-text None text is = rw (is.spelled) refl
read_result-text (Some t) text is =
    let other : text ≢ 86 ∷ [] = λ e. type_text-no_void t [] (sym is.spelled ∙ e) in
    rw (not_void text other, read_field-text text t (record { named = is.named; spelled = is.spelled })) refl

read_result-front : (text : Name) (r : Option AnyType) → read_result text ≡ Some r → IsResultText text r
unfolding read_result
read_result-front text r e =
    let void : Option AnyType = None in
    elim (bytes_eq text (86 ∷ [])) as (λ b. bytes_eq text (86 ∷ []) ≡ b → cond b (Some void) (option_map (λ (t : AnyType). Some t) (read_field text)) ≡ Some r → IsResultText text r) [
      | true ↦ λ test e. let is : void ≡ r = cc in subst (IsResultText text) is (record { named = tt; spelled = (bytes_eq-Decides text (86 ∷ [])).0 test })
      | false ↦ λ _ e. map_some (λ (t : AnyType). Some t) (read_field text) r e (λ t read is.
          let front = read_field-front text t read in
          subst (IsResultText text) is (record { named = front.named; spelled = front.spelled }))
    ] refl e

pub read_method-text : (text : Name) (m : AnyMethod) → IsMethodText text m → read_method text ≡ Some m
unfolding read_method
read_method-text text m is =
    let body : Name = flat_map type_text m.parameters ++ 41 ∷ result_text m.result in
    let parameters : read_parameters (length body) body ≡ Some (m.parameters, result_text m.result) = read_parameters-text (length body) m.parameters (result_text m.result) is.parameters_named (omega arith) in
    let result : read_result (result_text m.result) ≡ Some m.result = read_result-text m.result (result_text m.result) (record { named = is.result_named; spelled = refl }) in
    let signature : read_signature body ≡ Some m = rw (parameters, result) refl in
    rw (is.spelled) signature

pub read_method-front : (text : Name) (m : AnyMethod) → read_method text ≡ Some m → IsMethodText text m
unfolding read_method
read_method-front text m e =
    option_and_then_some read_signature (behind 40 text) m e (λ body begun signed.
    option_and_then_some with_result (read_parameters (length body) body) m signed (λ x read whole.
    map_some (λ (r : Option AnyType). let made : AnyMethod = record { parameters = x.0; result = r } in made) (read_result x.1) m whole (λ r result is.
    let front = read_parameters-front (length body) body x read in
    let end = read_result-front x.1 r result in
    subst (IsMethodText text) is (record {
      parameters_named = front.named;
      result_named = end.named;
      spelled = behind-some 40 text body begun ∙ ap (λ (b : Name). 40 ∷ b) (front.spelled ∙ ap (λ (z : Name). flat_map type_text x.0 ++ 41 ∷ z) end.spelled);
    }))))

-- ---- without floating point all is of the profile

kept_whole : (n : ℕ) (e : AnyElement) → is_floating_type (record { dimensions = n; element = e }) ≡ false → (f : FieldType) × (any_type f ≡ record { dimensions = n; element = e })
kept_whole n (Kept e) h = (record { dimensions = n; element = e }, refl)
kept_whole n Float h = absurd cc
kept_whole n Double h = absurd cc

kept_all : (ts : List AnyType) → list_any is_floating_type ts ≡ false → (fs : List FieldType) × (map any_type fs ≡ ts)
kept_all [] h = ([], refl)
kept_all (t ∷ ts) h =
    let first = kept_whole t.dimensions t.element (or_parts (is_floating_type t) (list_any is_floating_type ts) h).0 in
    let others = kept_all ts (or_parts (is_floating_type t) (list_any is_floating_type ts) h).1 in
    (first.0 ∷ others.0, rw (first.1, others.1) refl)

kept_result : (r : Option AnyType) → is_floating_result r ≡ false → (s : Option FieldType) × (option_map any_type s ≡ r)
kept_result None h = (None, refl)
kept_result (Some t) h = let kept = kept_whole t.dimensions t.element h in (Some kept.0, rw (kept.1) refl)

kept_method : (m : AnyMethod) → is_floating_method m ≡ false → (k : MethodType) × (any_method k ≡ m)
kept_method m h =
    let parameters = kept_all m.parameters (or_parts (list_any is_floating_type m.parameters) (is_floating_result m.result) h).0 in
    let result = kept_result m.result (or_parts (list_any is_floating_type m.parameters) (is_floating_result m.result) h).1 in
    (record { parameters = parameters.0; result = result.0 }, rw (parameters.1, result.1) refl)

-- ---- the answers

found-field : (text : Name) (t : AnyType) (floating : Bool) → IsFieldText text t → is_floating_type t ≡ floating → IsFieldAnswer text (flaw_of (Some floating))
found-field text t true is e = (t, is, e)
found-field text t false is e = let kept = kept_whole t.dimensions t.element e in (Field kept.0, subst (IsFieldText text) (sym kept.1) is)

answer-field : (text : Name) (read : Option AnyType) → read_field text ≡ read → IsFieldAnswer text (flaw_of (option_map is_floating_type read))
answer-field text None e = λ t is. none-some t (sym e ∙ read_field-text text t is)
answer-field text (Some t) e = found-field text t (is_floating_type t) (read_field-front text t e) refl

-- what is computed is so
pub field_flaw-is : (text : Name) → IsFieldAnswer text (field_flaw text)
unfolding field_flaw
field_flaw-is text = answer-field text (read_field text) refl

-- and what is so is computed
pub field_flaw-only : (text : Name) (answer : Option DescFlaw) → IsFieldAnswer text answer → field_flaw text ≡ answer
unfolding field_flaw
field_flaw-only text None (Field t, is) = rw (read_field-text text (any_type t) is) refl
field_flaw-only text None (Method m, is) = absurd is
field_flaw-only text (Some Bad) none =
    elim (read_field text) as (λ r. read_field text ≡ r → flaw_of (option_map is_floating_type r) ≡ Some Bad) [
      | None ↦ λ _. refl
      | Some t ↦ λ read. absurd (none t (read_field-front text t read))
    ] refl
field_flaw-only text (Some Floating) found = rw (read_field-text text found.0 found.1, found.2) refl

found-method : (text : Name) (m : AnyMethod) (floating : Bool) → IsMethodText text m → is_floating_method m ≡ floating → IsMethodAnswer text (flaw_of (Some floating))
found-method text m true is e = (m, is, e)
found-method text m false is e = let kept = kept_method m e in (Method kept.0, subst (IsMethodText text) (sym kept.1) is)

answer-method : (text : Name) (read : Option AnyMethod) → read_method text ≡ read → IsMethodAnswer text (flaw_of (option_map is_floating_method read))
answer-method text None e = λ m is. none-some m (sym e ∙ read_method-text text m is)
answer-method text (Some m) e = found-method text m (is_floating_method m) (read_method-front text m e) refl

pub method_flaw-is : (text : Name) → IsMethodAnswer text (method_flaw text)
unfolding method_flaw
method_flaw-is text = answer-method text (read_method text) refl

pub method_flaw-only : (text : Name) (answer : Option DescFlaw) → IsMethodAnswer text answer → method_flaw text ≡ answer
unfolding method_flaw
method_flaw-only text None (Field t, is) = absurd is
method_flaw-only text None (Method m, is) = rw (read_method-text text (any_method m) is, not_floating-any m.parameters, not_floating-result m.result) refl
method_flaw-only text (Some Bad) none =
    elim (read_method text) as (λ r. read_method text ≡ r → flaw_of (option_map is_floating_method r) ≡ Some Bad) [
      | None ↦ λ _. refl
      | Some m ↦ λ read. absurd (none m (read_method-front text m read))
    ] refl
method_flaw-only text (Some Floating) found = rw (read_method-text text found.0 found.1, found.2) refl
