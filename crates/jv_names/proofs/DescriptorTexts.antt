-- What the code reads is the type that the text begins with, and it reads every such type.
use Rattle.std.proofs.Common.{◌≡◌, ◌<◌, ◌+◌, ℕ, Bool, true, false, not, ◌&&◌, cond, eqb, [], ◌∷◌, ◌++◌, length, get_or, take, drop, replicate, Option, Some, None, refl, sym, ap, subst, ◌∙◌, arith, zero, suc, append_assoc}
use Rattle.std.specs.Prelude.{option_map, IfSome}
use Rattle.std.specs.Option.{option_and_then}
use Rattle.std.specs.List.{list_all}
use Rattle.std.proofs.Math.Seq.{take-append_seam, drop-append_seam, drop-append-add}
use Rattle.std.proofs.lemmas.Bool.Decides.{nat_tests}
use Rattle.std.proofs.lemmas.List.{append-nil, length-replicate, take-append-drop}
use Rattle.std.proofs.lemmas.List.Quantifiers.{position-Some}
use Rattle.jv_names.specs.declared.descriptor.ElementType.TheVariants.{Boolean, Byte, Char, Short, Int, Long, Class}
use Rattle.jv_names.specs.Names.{Name, is_class_name}
use Rattle.jv_names.specs.Descriptors.{AnyElement, Kept, Float, Double, AnyType, element_text, type_text, IsNamed, IsNamedType}
use Rattle.jv_names.specs.DescriptorReading.{class_end, dimensions, split_class, split_dimensions, named_class, read_class, read_element, under, read_type}
use Rattle.jv_names.proofs.DescriptorNames.{class_name-none_ends}
use Rattle.jv_names.proofs.DescriptorPlaces.{and-left, and-right, position_at, split_there, take-replicate_of}

-- ---- a class

read_class-text : (name rest : Name) → is_class_name name ≡ true → read_class (name ++ 59 ∷ rest) ≡ Some (Kept (Class name), rest)
unfolding read_class split_class class_end
read_class-text name rest named =
    let end = position_at (λ u. eqb u 59) name 59 rest (class_name-none_ends name named) refl in
    rw (end, take-append_seam name (59 ∷ rest), drop-append-add name (59 ∷ rest) 1, named) refl

-- an element at the front of a text
pub record IsFront (text : Name) (x : AnyElement × Name) : Type 0 where
  pub named : IsNamed x.0
  pub spelled : text ≡ element_text x.0 ++ x.1

named_front : (text name rest : Name) (x : AnyElement × Name) → text ≡ name ++ 59 ∷ rest → named_class (name, rest) ≡ Some x → IsFront (76 ∷ text) x
named_front text name rest x parts read =
    elim (is_class_name name) as (λ b. is_class_name name ≡ b → cond b (Some (Kept (Class name), rest)) None ≡ Some x → IsFront (76 ∷ text) x) [
      | true ↦ λ named e. let is : (Kept (Class name), rest) ≡ x = cc in subst (IsFront (76 ∷ text)) is (record { named = named; spelled = ap {B = Name} (λ r. 76 ∷ r) (parts ∙ sym (append_assoc name (59 ∷ []) rest)) })
      | false ↦ λ bad e. absurd cc
    ] refl read

class_front : (text : Name) (end : Option ℕ) (x : AnyElement × Name) → class_end text ≡ end → option_and_then named_class (option_map (λ n. (take n text, drop (n + 1) text)) end) ≡ Some x → IsFront (76 ∷ text) x
unfolding class_end
class_front text None x at read = absurd cc
class_front text (Some n) x at read =
    let first = position-Some (λ u. eqb u 59) text n 0 at in
    let here : get_or text n 0 ≡ 59 = grind (arith, nat_tests, first.1) in
    named_front text (take n text) (drop (n + 1) text) x (split_there text n first.0 ∙ rw here refl) read

read_class-front : (text : Name) (x : AnyElement × Name) → read_class text ≡ Some x → IsFront (76 ∷ text) x
unfolding read_class split_class
read_class-front text x read = class_front text (class_end text) x refl read

-- ---- an element

AllFront : Name → Option (AnyElement × Name) → Type 0
AllFront text read = IfSome read (IsFront text)

letter_front : (unit letter : ℕ) (rest : Name) (e : AnyElement) (other : Option (AnyElement × Name)) → element_text e ≡ letter ∷ [] → IsNamed e → IfSome other (IsFront (unit ∷ rest))
    → IfSome (cond (eqb unit letter) (Some (e, rest)) other) (IsFront (unit ∷ rest))
letter_front unit letter rest e other spelled named others =
    elim (eqb unit letter) as (λ b. eqb unit letter ≡ b → IfSome (cond b (Some (e, rest)) other) (IsFront (unit ∷ rest))) [
      | true ↦ λ is. let same : unit ≡ letter = grind (arith, nat_tests) in record { named = named; spelled = rw (same, spelled) refl }
      | false ↦ λ _. others
    ] refl

if_front : (text : Name) (read : Option (AnyElement × Name)) → ((x : AnyElement × Name) → read ≡ Some x → IsFront text x) → IfSome read (IsFront text)
if_front text None all = tt
if_front text (Some x) all = all x refl

class_letter_front : (unit : ℕ) (rest : Name) → IfSome (cond (eqb unit 76) (read_class rest) None) (IsFront (unit ∷ rest))
class_letter_front unit rest =
    elim (eqb unit 76) as (λ b. eqb unit 76 ≡ b → IfSome (cond b (read_class rest) None) (IsFront (unit ∷ rest))) [
      | true ↦ λ is. let same : unit ≡ 76 = grind (arith, nat_tests) in rw same (if_front (76 ∷ rest) (read_class rest) (read_class-front rest))
      | false ↦ λ _. tt
    ] refl

read_element-fronts : (text : Name) → IfSome (read_element text) (IsFront text)
unfolding read_element
read_element-fronts [] = tt
read_element-fronts (unit ∷ rest) =
    letter_front unit 90 rest (Kept Boolean) _ refl tt
    (letter_front unit 66 rest (Kept Byte) _ refl tt
    (letter_front unit 67 rest (Kept Char) _ refl tt
    (letter_front unit 83 rest (Kept Short) _ refl tt
    (letter_front unit 73 rest (Kept Int) _ refl tt
    (letter_front unit 74 rest (Kept Long) _ refl tt
    (letter_front unit 70 rest Float _ refl tt
    (letter_front unit 68 rest Double _ refl tt
    (class_letter_front unit rest))))))))

read_element-front : (text : Name) (x : AnyElement × Name) → read_element text ≡ Some x → IsFront text x
read_element-front text x read = rw read at (read_element-fronts text)

read_element-text : (e : AnyElement) (rest : Name) → IsNamed e → read_element (element_text e ++ rest) ≡ Some (e, rest)
unfolding read_element
read_element-text (Kept Boolean) rest named = refl
read_element-text (Kept Byte) rest named = refl
read_element-text (Kept Char) rest named = refl
read_element-text (Kept Short) rest named = refl
read_element-text (Kept Int) rest named = refl
read_element-text (Kept Long) rest named = refl
read_element-text (Kept (Class name)) rest named = ap read_class (append_assoc name (59 ∷ []) rest) ∙ read_class-text name rest named
read_element-text Float rest named = refl
read_element-text Double rest named = refl

-- ---- a type

-- a text begins with a unit that is no `[`, nor the `)` behind parameters, nor the `V` of void
begins : Name → Bool
begins [] = false
begins (unit ∷ units) = not (eqb unit 91) && (not (eqb unit 41) && not (eqb unit 86))

element_text-begins : (e : AnyElement) → begins (element_text e) ≡ true
unfolding begins
element_text-begins (Kept Boolean) = refl
element_text-begins (Kept Byte) = refl
element_text-begins (Kept Char) = refl
element_text-begins (Kept Short) = refl
element_text-begins (Kept Int) = refl
element_text-begins (Kept Long) = refl
element_text-begins (Kept (Class name)) = refl
element_text-begins Float = refl
element_text-begins Double = refl

replicate-all : (n : ℕ) → list_all (λ u. not (not (eqb u 91))) (replicate n 91) ≡ true
replicate-all zero = refl
replicate-all (suc n) = replicate-all n

split_dimensions-text : (n : ℕ) (text rest : Name) → begins text ≡ true → split_dimensions (replicate n 91 ++ (text ++ rest)) ≡ Some (n, text ++ rest)
unfolding split_dimensions dimensions begins
split_dimensions-text n [] rest h = absurd cc
split_dimensions-text n (u ∷ us) rest h =
    let here = and-left (not (eqb u 91)) (not (eqb u 41) && not (eqb u 86)) h in
    let place = position_at (λ v. not (eqb v 91)) (replicate n 91) u (us ++ rest) (replicate-all n) here in
    let len : length (replicate {A = ℕ} n 91) ≡ n = length-replicate {A = ℕ} n 91 in
    let after : drop n (replicate n 91 ++ (u ∷ (us ++ rest))) ≡ u ∷ (us ++ rest) = subst (λ (k : ℕ). drop k (replicate n 91 ++ (u ∷ (us ++ rest))) ≡ u ∷ (us ++ rest)) len (drop-append_seam (replicate n 91) (u ∷ (us ++ rest))) in
    rw (place, len, after) refl

pub read_type-text : (t : AnyType) (rest : Name) → IsNamedType t → read_type (type_text t ++ rest) ≡ Some (t, rest)
unfolding read_type
read_type-text t rest named =
    let parts = append_assoc (replicate t.dimensions 91) (element_text t.element) rest in
    let split = split_dimensions-text t.dimensions (element_text t.element) rest (element_text-begins t.element) in
    rw (parts, split, read_element-text t.element rest named) refl

pub record IsTypeFront (text : Name) (x : AnyType × Name) : Type 0 where
  pub named : IsNamedType x.0
  pub spelled : text ≡ type_text x.0 ++ x.1

dimensions_front : (text : Name) (n : ℕ) → dimensions text ≡ Some n → text ≡ replicate n 91 ++ drop n text
unfolding dimensions
dimensions_front text n at =
    let first = position-Some (λ u. not (eqb u 91)) text n 0 at in
    let same : take n text ≡ replicate n 91 = take-replicate_of text n 91 first.0 (λ k l. let no : not (eqb (get_or text k 0) 91) ≡ false = first.2 k l in grind (arith, nat_tests)) in
    sym (take-append-drop n text) ∙ rw same refl

under_front : (text after : Name) (n : ℕ) (read : Option (AnyElement × Name)) (x : AnyType × Name) → text ≡ replicate n 91 ++ after → read_element after ≡ read → option_map (under n) read ≡ Some x → IsTypeFront text x
under_front text after n None x parts at read = absurd cc
under_front text after n (Some y) x parts at read =
    let is : under n y ≡ x = cc in
    let front = read_element-front after y at in
    subst (IsTypeFront text) is (record { named = front.named; spelled = parts ∙ ap (λ r. replicate n 91 ++ r) front.spelled ∙ sym (append_assoc (replicate n 91) (element_text y.0) y.1) })

type_front : (text : Name) (n : Option ℕ) (x : AnyType × Name) → dimensions text ≡ n → option_and_then (λ (y : ℕ × Name). option_map (under y.0) (read_element y.1)) (option_map (λ k. (k, drop k text)) n) ≡ Some x → IsTypeFront text x
type_front text None x at read = absurd cc
type_front text (Some n) x at read = under_front text (drop n text) n (read_element (drop n text)) x (dimensions_front text n at) refl read

pub read_type-front : (text : Name) (x : AnyType × Name) → read_type text ≡ Some x → IsTypeFront text x
unfolding read_type split_dimensions
read_type-front text x read = type_front text (dimensions text) x refl read

-- a type's text begins with neither `)` nor `V`
begins-head : (text rest : Name) (unit : ℕ) (units : Name) → begins text ≡ true → text ++ rest ≡ unit ∷ units → (not (eqb unit 41) && not (eqb unit 86)) ≡ true
unfolding begins
begins-head [] rest unit units h e = absurd cc
begins-head (u ∷ us) rest unit units h e =
    let is : u ≡ unit = cc in
    rw is at (and-right (not (eqb u 91)) (not (eqb u 41) && not (eqb u 86)) h)

under-head : (n : ℕ) (text rest : Name) (unit : ℕ) (units : Name) → begins text ≡ true → (replicate n 91 ++ text) ++ rest ≡ unit ∷ units → (not (eqb unit 41) && not (eqb unit 86)) ≡ true
under-head zero text rest unit units h e = begins-head text rest unit units h e
under-head (suc n) text rest unit units h e = let is : 91 ≡ unit = cc in rw (← is) refl

type_text-head : (t : AnyType) (rest : Name) (unit : ℕ) (units : Name) → type_text t ++ rest ≡ unit ∷ units → (not (eqb unit 41) && not (eqb unit 86)) ≡ true
type_text-head t rest unit units e = under-head t.dimensions (element_text t.element) rest unit units (element_text-begins t.element) e

pub type_text-no_end : (t : AnyType) (rest units : Name) → type_text t ++ rest ≡ 41 ∷ units → ⊥
type_text-no_end t rest units e = let h : false ≡ true = type_text-head t rest 41 units e in cc

pub type_text-no_void : (t : AnyType) (units : Name) → type_text t ≡ 86 ∷ units → ⊥
type_text-no_void t units e = let h : false ≡ true = type_text-head t [] 86 units (append-nil (type_text t) ∙ e) in cc

some_text : (text : Name) → (text ≡ [] → ⊥) → 0 < length text
some_text [] nonempty = absurd (nonempty refl)
some_text (u ∷ us) nonempty = omega arith

-- it takes at least one unit
pub type_text-some : (t : AnyType) → 0 < length (type_text t)
type_text-some t = some_text (type_text t) (λ e. type_text-no_end t (41 ∷ []) [] (rw e refl))
