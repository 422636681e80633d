-- The laws of texts: units that are read are spelled so, and fill the text's length.
use Rattle.std.proofs.Common.{◌≡◌, ℕ, zero, suc, ◌-◌, ◌+◌, ◌^◌, ◌<◌, ◌≤◌, Bool, true, false, List, [], ◌∷◌, ◌++◌, length, drop, Option, Some, None, Ok, Err, refl, sym, ap, ◌∙◌, append_assoc, length-append, arith}
use Rattle.std.specs.Prelude.{nat_lt, ◌==◌, ◌&&◌}
use Rattle.std.specs.List.{list_all}
use Rattle.std.proofs.lemmas.Bool.{and_parts, and_from, ltb-true, lt-ltb, ltb-false, le-ltb, eqb-true, eq-eqb, ne_eqb}
use Rattle.jv_names.specs.Utf8.{unit_bytes, utf8}
use Rattle.jv_names.specs.TextReading.{unit_size, unit_at}
use Rattle.jv_names.specs.Names.{Name}
use Rattle.jv_names.proofs.UnitBytes.{some_byte}
use Rattle.jv_names.proofs.TextReading.{unit_size-first, unit_at-text, unit_at-front}
use Rattle.class_tree.specs.Ranges.{is_u2, are_bytes}
use Rattle.classfile_items.specs.declared.fault.ReadClassFault.{ReadClassFault}
use Rattle.classfile_items.specs.declared.fault.ReadClassFault.TheVariants.{BadText}
use Rattle.classfile_items.specs.Reading.{Checked, Found, offset}
use Rattle.classfile_pool.specs.PoolReading.{sized_unit, next_unit, units_from}
use Rattle.classfile_items.proofs.Laws.{Stands, IsSound, steps_of, by_test, of_found, bytes_behind}
use Rattle.classfile_items.proofs.StepLaws.{joined}

-- ---- one unit

-- A unit stands at the front, for which the text has room.
record UnitStands (left : ℕ) (bytes : List ℕ) (x : ℕ × List ℕ) : Type 0 where
  small : x.0 < 2 ^ 16
  spelled : bytes ≡ unit_bytes x.0 ++ x.1
  room : length (unit_bytes x.0) ≤ left

own_first : (own after rest : List ℕ) (first : ℕ) → 1 ≤ length own → first ∷ rest ≡ own ++ after → own ≡ first ∷ drop 1 own
own_first [] after rest first some e = absurd (omega arith)
own_first (x ∷ xs) after rest first some e = let same : first ≡ x = cc in ap (λ (y : ℕ). y ∷ xs) (sym same)

unit_stands : (left size first : ℕ) (rest : List ℕ) (x : ℕ × List ℕ) → size ≤ left → unit_size first ≡ Some size → unit_at (first ∷ rest) ≡ Some x → UnitStands left (first ∷ rest) x
unit_stands left size first rest x room sized found =
    let f = unit_at-front (first ∷ rest) x found in
    let own = own_first (unit_bytes x.0) x.1 rest first (some_byte x.0) f.1 in
    let again = unit_size-first x.0 first (drop 1 (unit_bytes x.0)) f.0 own in
    let same : size ≡ length (unit_bytes x.0) = cc in
    record { small = f.0; spelled = f.1; room = omega arith }

-- what an option holds, or a fault
abbrev or_fault : {A : Type 0} → ReadClassFault → Option A → Checked A
or_fault fault None = Err fault
or_fault fault (Some x) = Ok x

some_found : {A : Type 0} (fault : ReadClassFault) (found : Option A) (x : A) → or_fault fault found ≡ Ok x → found ≡ Some x
some_found fault None x e = cc
some_found fault (Some y) x e = cc

sized_sound : (end left size first : ℕ) (rest : List ℕ) (x : ℕ × List ℕ) → unit_size first ≡ Some size → sized_unit end left size (first ∷ rest) ≡ Ok x → UnitStands left (first ∷ rest) x
sized_sound end left size first rest x sized e =
    by_test (UnitStands left (first ∷ rest) x) (nat_lt left size) _ _ x e (λ full f. cc) (λ room f.
    by_test (UnitStands left (first ∷ rest) x) (nat_lt (length (first ∷ rest)) size) _ _ x f (λ short g. cc) (λ there g.
    unit_stands left size first rest x (ltb-false left size room) sized (some_found (BadText (offset end (first ∷ rest))) (unit_at (first ∷ rest)) x g)))

abbrev of_size : ℕ → ℕ → ℕ → List ℕ → Option ℕ → Found ℕ
of_size end left first rest None = Err (BadText (offset end (first ∷ rest)))
of_size end left first rest (Some size) = sized_unit end left size (first ∷ rest)

of_size_sound : (end left first : ℕ) (rest : List ℕ) (size : Option ℕ) (x : ℕ × List ℕ) → unit_size first ≡ size → of_size end left first rest size ≡ Ok x → UnitStands left (first ∷ rest) x
of_size_sound end left first rest None x sized e = cc
of_size_sound end left first rest (Some size) x sized e = sized_sound end left size first rest x sized e

next_sound : (end left : ℕ) (bytes : List ℕ) (x : ℕ × List ℕ) → next_unit end left bytes ≡ Ok x → UnitStands left bytes x
next_sound end left [] x e = cc
next_sound end left (first ∷ rest) x e = of_size_sound end left first rest (unit_size first) x refl e

unit_back : (end left unit first : ℕ) (others after : List ℕ) → unit < 2 ^ 16 → unit_bytes unit ≡ first ∷ others → length (unit_bytes unit) ≤ left → next_unit end left (first ∷ others ++ after) ≡ Ok (unit, after)
unit_back end left unit first others after small own room =
    let all : unit_bytes unit ++ after ≡ first ∷ others ++ after = ap (λ (bytes : List ℕ). bytes ++ after) own in
    let roomy : nat_lt left (length (unit_bytes unit)) ≡ false = le-ltb _ _ room in
    let there : nat_lt (length (first ∷ others ++ after)) (length (unit_bytes unit)) ≡ false = le-ltb _ _ (omega (arith, ap length own, length-append others after)) in
    let found : unit_at (first ∷ others ++ after) ≡ Some (unit, after) = ap unit_at (sym all) ∙ unit_at-text unit after small in
    ap (of_size end left first (others ++ after)) (unit_size-first unit first others small own) ∙ rw (roomy, there) (ap (or_fault (BadText (offset end (first ∷ others ++ after)))) found)

own_split : (own : List ℕ) (P : Type 0) → 1 ≤ length own → ((first : ℕ) (others : List ℕ) → own ≡ first ∷ others → P) → P
own_split [] P some next = absurd (omega arith)
own_split (first ∷ others) P some next = next first others refl

next_complete : (end left unit : ℕ) (after : List ℕ) → unit < 2 ^ 16 → length (unit_bytes unit) ≤ left → next_unit end left (unit_bytes unit ++ after) ≡ Ok (unit, after)
next_complete end left unit after small room =
    own_split (unit_bytes unit) _ (some_byte unit) (λ first others own. ap (λ (bytes : List ℕ). next_unit end left (bytes ++ after)) own ∙ unit_back end left unit first others after small own room)

-- ---- all units

record TextStands (left : ℕ) (bytes : List ℕ) (x : Name × List ℕ) : Type 0 where
  units : Stands utf8 (list_all is_u2) bytes x
  filled : length (utf8 x.0) ≡ left

units_stand : (end most left : ℕ) (bytes : List ℕ) (x : Name × List ℕ) → left ≤ most → are_bytes bytes ≡ true → units_from end most left bytes ≡ Ok x → TextStands left bytes x
units_stand end zero left bytes x le are e =
    of_found (TextStands left bytes) ([], bytes) x e (record { units = record { spelled = refl; passes = refl; left = are }; filled = omega arith })
units_stand end (suc most) left bytes x le are e =
    by_test (TextStands left bytes x) (left == 0) _ _ x e
    (λ none f. of_found (TextStands left bytes) ([], bytes) x f (record { units = record { spelled = refl; passes = refl; left = are }; filled = sym (eqb-true left 0 none) }))
    (λ some f.
    let s = steps_of (next_unit end left bytes) _ x f in
    let here = next_sound end left bytes s.value s.first in
    let t = steps_of (units_from end most (left - (length bytes - length s.value.1)) s.value.1) _ x s.second in
    let behind : are_bytes s.value.1 ≡ true = bytes_behind (unit_bytes s.value.0) s.value.1 (ap are_bytes (sym here.spelled) ∙ are) in
    let len : length bytes ≡ length (unit_bytes s.value.0) + length s.value.1 = ap length here.spelled ∙ length-append (unit_bytes s.value.0) s.value.1 in
    let less : left - (length bytes - length s.value.1) ≤ most = omega (arith, some_byte s.value.0) in
    let others = units_stand end most (left - (length bytes - length s.value.1)) s.value.1 t.value less behind t.first in
    let sum : length (unit_bytes s.value.0) + length (utf8 t.value.0) ≡ left = omega (arith, others.filled, here.room) in
    of_found (TextStands left bytes) (s.value.0 ∷ t.value.0, t.value.1) x t.second (record {
      units = record {
        spelled = joined (unit_bytes s.value.0) (utf8 t.value.0) t.value.1 here.spelled others.units.spelled;
        passes = and_from _ _ (lt-ltb s.value.0 65536 here.small) others.units.passes;
        left = others.units.left;
      };
      filled = length-append (unit_bytes s.value.0) (utf8 t.value.0) ∙ sum;
    }))

-- a text of so many bytes
abbrev pub fills : ℕ → Name → Bool
fills n text = list_all is_u2 text && (length (utf8 text) == n)

pub units_sound : (end n : ℕ) → IsSound (units_from end n n) utf8 (fills n)
units_sound end n = record {
  stands = λ bytes x are e.
      let t = units_stand end n n bytes x (omega arith) are e in
      record { spelled = t.units.spelled; passes = and_from _ _ t.units.passes (eq-eqb _ _ t.filled); left = t.units.left };
}

pub units_complete : (end most left : ℕ) (text : Name) (rest : List ℕ) → left ≤ most → list_all is_u2 text ≡ true → length (utf8 text) ≡ left → units_from end most left (utf8 text ++ rest) ≡ Ok (text, rest)
units_complete end zero left [] rest le small filled = refl
units_complete end (suc most) left [] rest le small filled = rw (← filled) refl
units_complete end zero left (unit ∷ text) rest le small filled = absurd (omega (arith, some_byte unit, length-append (unit_bytes unit) (utf8 text)))
units_complete end (suc most) left (unit ∷ text) rest le small filled =
    let p = and_parts (is_u2 unit) _ small in
    let after : List ℕ = utf8 text ++ rest in
    let own : ℕ = length (unit_bytes unit) in
    let sum : own + length (utf8 text) ≡ left = sym (length-append (unit_bytes unit) (utf8 text)) ∙ filled in
    let some : (left == 0) ≡ false = ne_eqb left 0 (λ none. omega (arith, some_byte unit)) in
    let here = next_complete end left unit after (ltb-true unit 65536 p.0) (omega arith) in
    let less : left - (length (unit_bytes unit ++ after) - length after) ≡ length (utf8 text) = omega (arith, length-append (unit_bytes unit) after) in
    let others = units_complete end most (length (utf8 text)) text rest (omega (arith, some_byte unit)) p.1 refl in
    rw (append_assoc (unit_bytes unit) (utf8 text) rest, some, here, less, others) refl
