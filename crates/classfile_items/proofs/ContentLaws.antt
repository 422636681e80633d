-- The laws of what attributes share: the index of a name, the length of the content, and the content.
use Rattle.std.proofs.Common.{◌≡◌, ℕ, ◌-◌, Bool, true, List, ◌++◌, length, Option, Some, None, Ok, Err, refl, sym, ap, subst, ◌∙◌, append_assoc, length-append, arith}
use Rattle.std.specs.Prelude.{◌==◌, ◌&&◌}
use Rattle.std.proofs.lemmas.Bool.{and_parts, and_from, eqb-true, eq-eqb}
use Rattle.jv_names.specs.Names.{Name}
use Rattle.class_tree.specs.declared.pool.Const.{Const}
use Rattle.class_tree.specs.Ranges.{is_u4, is_short, are_bytes}
use Rattle.class_tree.specs.Spelling as bytes_of
use Rattle.class_tree.specs.Tree.{text_at}
use Rattle.class_tree.specs.CodeRules.{is_content}
use Rattle.classfile_items.specs.declared.fault.ReadClassFault.TheVariants.{BadIndex, BadLength}
use Rattle.classfile_items.specs.Reading.{Found, ◌>>=◌, offset}
use Rattle.classfile_items.specs.Contents.{text_index, kept, of_length, measured}
use Rattle.classfile_items.proofs.Laws.{Stands, IsSoundBehind, IsSound, IsComplete, step, done, steps_of, of_found}
use Rattle.classfile_items.proofs.StepLaws.{StandsAs, Knows, sound_steps, provided_of}
use Rattle.classfile_items.proofs.NumberLaws.{u2_sound, u2_complete, u4_sound, u4_complete, raw_sound, raw_complete}
use Rattle.classfile_items.proofs.Indices.{text_short}

-- ---- the name

-- an index and the text that it names
abbrev pub IsText : List Const → ℕ × Name → Type 0
IsText pool name = text_at pool name.0 ≡ Some name.1

abbrev index_bytes : ℕ × Name → List ℕ
index_bytes name = bytes_of.u2 name.0

abbrev or_index : ℕ → ℕ × List ℕ → Option Name → Found (ℕ × Name)
or_index at n None = Err (BadIndex at)
or_index at n (Some text) = Ok ((n.0, text), n.1)

name_stands : (pool : List Const) (at index : ℕ) (bytes rest : List ℕ) (o : Option Name) (x : (ℕ × Name) × List ℕ) → bytes ≡ bytes_of.u2 index ++ rest → are_bytes rest ≡ true → text_at pool index ≡ o → or_index at (index, rest) o ≡ Ok x → StandsAs index_bytes (IsText pool) bytes x
name_stands pool at index bytes rest None x spelled left is e = cc
name_stands pool at index bytes rest (Some text) x spelled left is e =
    of_found (StandsAs index_bytes (IsText pool) bytes) ((index, text), rest) x e (record { spelled = spelled; fact = is; left = left })

pub name_known : (pool : List Const) (end : ℕ) → Knows (text_index end pool) index_bytes (IsText pool)
name_known pool end = record {
  stands = λ bytes x are e.
      let n = sound_steps (u2_sound end) bytes _ x are e in
      name_stands pool (offset end bytes) n.value bytes n.rest (text_at pool n.value) x n.first.spelled n.first.left refl n.second;
}

pub text_index_complete : (pool : List Const) → is_short pool ≡ true → (end index : ℕ) (text : Name) (rest : List ℕ) → text_at pool index ≡ Some text → text_index end pool (bytes_of.u2 index ++ rest) ≡ Ok ((index, text), rest)
text_index_complete pool short end index text rest is =
    rw (u2_complete end index rest (text_short pool index text short is)) (ap (or_index (offset end (bytes_of.u2 index ++ rest)) (index, rest)) is)

-- ---- the length and the content

-- a length and a content, behind what was read before
abbrev Measures : {B : Type 0} → List ℕ → (B → List ℕ) → List ℕ → B → Type 0
Measures front spelling content y = spelling y ≡ front ++ (bytes_of.u4 (length content) ++ content)

measure : (front content : List ℕ) (n : ℕ) → length content ≡ n → front ++ (bytes_of.u4 (length content) ++ content) ≡ (front ++ bytes_of.u4 n) ++ content
measure front content n number = ap (λ (k : ℕ). front ++ (bytes_of.u4 k ++ content)) number ∙ sym (append_assoc front (bytes_of.u4 n) content)

content_fits : (content : List ℕ) (n : ℕ) → length content ≡ n → is_u4 n ≡ true → is_content content ≡ true
content_fits content n number fits = ap is_u4 number ∙ fits

pub kept_sound : {B : Type 0} {front : List ℕ} {spelling : B → List ℕ} {test : B → Bool} (wrap : List ℕ → B) (end : ℕ) → ((content : List ℕ) → Measures front spelling content (wrap content)) → ((content : List ℕ) → are_bytes content ≡ true → is_content content ≡ true → test (wrap content) ≡ true) → IsSoundBehind front (kept wrap end) spelling test
kept_sound {front = front} wrap end spelled passes =
    step (u4_sound end) (λ n is_n. step (raw_sound end n) (λ content are.
    let p = and_parts (are_bytes content) _ are in
    let number : length content ≡ n = eqb-true (length content) n p.1 in
    done (wrap content) (spelled content ∙ measure front content n number) (passes content p.0 (content_fits content n number is_n))))

pub kept_complete : {B : Type 0} (wrap : List ℕ → B) (end : ℕ) (content rest : List ℕ) → are_bytes content ≡ true → is_content content ≡ true → kept wrap end ((bytes_of.u4 (length content) ++ content) ++ rest) ≡ Ok (wrap content, rest)
kept_complete wrap end content rest are fits =
    let whole = and_from _ _ are (eq-eqb (length content) (length content) refl) in
    rw (append_assoc (bytes_of.u4 (length content)) content rest, u4_complete end (length content) (content ++ rest) fits, raw_complete end (length content) content rest whole) refl

front_len : (whole front rest : List ℕ) (n : ℕ) → whole ≡ front ++ rest → length whole - length rest ≡ n → length front ≡ n
front_len whole front rest n parts taken = omega (arith, ap length parts, length-append front rest)

-- an item that ends where the length says
sized_sound : {A : Type 0} {item : List ℕ → Found A} {spelling : A → List ℕ} {test : A → Bool} → IsSound item spelling test → (end n : ℕ) → IsSound (λ bytes. item bytes >>= of_length end n bytes) spelling (λ a. test a && (length (spelling a) == n))
sized_sound {item = item} {spelling = spelling} {test = test} sound end n = record {
  stands = λ bytes x are e.
      let s = steps_of (item bytes) (of_length end n bytes) x e in
      let p = provided_of (length bytes - length s.value.1 == n) (BadLength (offset end bytes - 4)) s.value x s.second in
      let a = sound.stands bytes s.value are s.first in
      let number = front_len bytes (spelling s.value.0) s.value.1 n a.spelled (eqb-true _ _ p.holds) in
      subst (Stands spelling (λ a. test a && (length (spelling a) == n)) bytes) p.same (record { spelled = a.spelled; passes = and_from _ _ a.passes (eq-eqb _ _ number); left = a.left });
}

pub measured_sound : {A B : Type 0} {item : List ℕ → Found A} {item_bytes : A → List ℕ} {item_test : A → Bool} {front : List ℕ} {spelling : B → List ℕ} {test : B → Bool} → IsSound item item_bytes item_test → (wrap : A → B) (end : ℕ) → ((a : A) → Measures front spelling (item_bytes a) (wrap a)) → ((a : A) → item_test a ≡ true → is_content (item_bytes a) ≡ true → test (wrap a) ≡ true) → IsSoundBehind front (measured item wrap end) spelling test
measured_sound {item_bytes = item_bytes} {item_test = item_test} {front = front} sound wrap end spelled passes =
    step (u4_sound end) (λ n is_n. step (sized_sound sound end n) (λ a is.
    let p = and_parts (item_test a) _ is in
    let number : length (item_bytes a) ≡ n = eqb-true (length (item_bytes a)) n p.1 in
    done (wrap a) (spelled a ∙ measure front (item_bytes a) n number) (passes a p.0 (content_fits (item_bytes a) n number is_n))))

pub measured_complete : {A B : Type 0} (item : List ℕ → Found A) (spelling : A → List ℕ) (test : A → Bool) → IsComplete item spelling test → (wrap : A → B) (end : ℕ) (x : A) (rest : List ℕ) → test x ≡ true → is_content (spelling x) ≡ true → measured item wrap end ((bytes_of.u4 (length (spelling x)) ++ spelling x) ++ rest) ≡ Ok (wrap x, rest)
measured_complete item spelling test complete wrap end x rest passes fits =
    let content : List ℕ = spelling x in
    let whole : (length (content ++ rest) - length rest == length content) ≡ true = eq-eqb _ _ (omega (arith, length-append content rest)) in
    rw (append_assoc (bytes_of.u4 (length content)) content rest, u4_complete end (length content) (content ++ rest) fits, complete x rest passes, whole) refl
