-- What shows in a pool doesn't depend on what follows it.
use Rattle.std.proofs.Common.{◌≡◌, ℕ, zero, suc, ◌+◌, ◌-◌, ◌≤◌, Bool, true, false, List, [], ◌∷◌, ◌++◌, length, take, drop, Option, Some, None, Err, Ok, refl, ap, subst, arith, length-append}
use Rattle.std.specs.Prelude.{if◌then◌else◌, ◌==◌, nat_lt}
use Rattle.std.specs.Cmp.Lexicographic.{pointwise}
use Rattle.std.proofs.lemmas.Bool.{ltb-false, le-ltb}
use Rattle.std.proofs.lemmas.List.{take-append-le, drop-append-le}
use Rattle.jv_names.specs.Utf8.{unit_bytes}
use Rattle.jv_names.specs.TextReading.{unit_size, bits_of_unit, unit_at}
use Rattle.class_tree.specs.declared.pool.Const.{Const}
use Rattle.class_tree.specs.declared.pool.Const.TheVariants as const
use Rattle.classfile_items.specs.declared.fault.ReadClassFault.TheVariants.{Truncated, BadIndex, BadText}
use Rattle.classfile_items.specs.Reading.{Found, offset}
use Rattle.classfile_items.proofs.Stays.{Stays, with, value, cut, refused, chain, on_test, on_faultless, offset_same, read_same, u1_stays, u2_stays, s4_stays, s8_stays}
use Rattle.classfile_pool.specs.PoolReading.{sized_unit, next_unit, units_from, text, one_index, two_indices, long, integer, tag_fault, tagged, entry, is_long, place, places, entries_fault, pool_at}
use Rattle.classfile_pool.proofs.Texts.{by_size}

-- ---- texts

-- a unit, if one stands there
abbrev as_unit : ℕ → Option (ℕ × List ℕ) → Found ℕ
as_unit at None = Err (BadText at)
as_unit at (Some unit) = Ok unit

module _ (end : ℕ) (more : List ℕ) where
  spelled_stays : (test : Bool) (at later unit : ℕ) (rest : List ℕ) → at ≡ later → Stays end (with more) (as_unit at (if test then Some (unit, rest) else None)) (as_unit later (if test then Some (unit, rest ++ more) else None))
  spelled_stays true at later unit rest same = value
  spelled_stays false at later unit rest same = refused (ap BadText same)

  -- a unit is looked for in its own bytes
  unit_stays : (first size : ℕ) (bytes : List ℕ) → unit_size first ≡ Some size → size ≤ length (first ∷ bytes) → Stays end (with more) (as_unit (offset end (first ∷ bytes)) (unit_at (first ∷ bytes))) (as_unit (offset (end + length more) (first ∷ (bytes ++ more))) (unit_at (first ∷ (bytes ++ more))))
  unfolding unit_at
  unit_stays first size bytes sized there =
      let own = take size (first ∷ bytes) in
      let behind = drop size (first ∷ bytes) in
      rw (sized, take-append-le size (first ∷ bytes) more there, drop-append-le size (first ∷ bytes) more there)
      (spelled_stays (pointwise ◌==◌ (unit_bytes (bits_of_unit own)) own) (offset end (first ∷ bytes)) (offset (end + length more) (first ∷ (bytes ++ more))) (bits_of_unit own) behind (offset_same end more (first ∷ bytes)))

  sized_by : (left first size : ℕ) (bytes : List ℕ) (short : Bool) → unit_size first ≡ Some size → nat_lt (length (first ∷ bytes)) size ≡ short → Stays end (with more) (if short then Err (Truncated end) else as_unit (offset end (first ∷ bytes)) (unit_at (first ∷ bytes))) (if nat_lt (length (first ∷ (bytes ++ more))) size then Err (Truncated (end + length more)) else as_unit (offset (end + length more) (first ∷ (bytes ++ more))) (unit_at (first ∷ (bytes ++ more))))
  sized_by left first size bytes true sized is = cut
  sized_by left first size bytes false sized is =
      let there : size ≤ length (first ∷ bytes) = ltb-false (length (first ∷ bytes)) size is in
      let later : nat_lt (length (first ∷ (bytes ++ more))) size ≡ false = le-ltb (length (first ∷ (bytes ++ more))) size (omega (arith, length-append bytes more)) in
      rw later (unit_stays first size bytes sized there)

  sized_stays : (left first size : ℕ) (bytes : List ℕ) → unit_size first ≡ Some size → Stays end (with more) (sized_unit end left size (first ∷ bytes)) (sized_unit (end + length more) left size (first ∷ (bytes ++ more)))
  sized_stays left first size bytes sized = on_test (nat_lt left size) (refused (ap BadText (offset_same end more (first ∷ bytes)))) (sized_by left first size bytes (nat_lt (length (first ∷ bytes)) size) sized refl)

  next_by : (left first : ℕ) (bytes : List ℕ) (size : Option ℕ) → unit_size first ≡ size → Stays end (with more) (by_size end left (first ∷ bytes) size) (by_size (end + length more) left (first ∷ (bytes ++ more)) size)
  next_by left first bytes None sized = refused (ap BadText (offset_same end more (first ∷ bytes)))
  next_by left first bytes (Some size) sized = sized_stays left first size bytes sized

  next_stays : (left : ℕ) (bytes : List ℕ) → Stays end (with more) (next_unit end left bytes) (next_unit (end + length more) left (bytes ++ more))
  next_stays left [] = cut
  next_stays left (first ∷ bytes) = next_by left first bytes (unit_size first) refl

  units_stays : (most left : ℕ) (bytes : List ℕ) → Stays end (with more) (units_from end most left bytes) (units_from (end + length more) most left (bytes ++ more))
  units_stays zero left bytes = value
  units_stays (suc most) left bytes = on_test (left == 0) value (chain (next_stays left bytes) _ (λ unit. chain (subst (λ (n : ℕ). Stays end (with more) (units_from end most (left - (length bytes - length unit.1)) unit.1) (units_from (end + length more) most (left - n) (unit.1 ++ more))) (read_same more bytes unit.1) (units_stays most (left - (length bytes - length unit.1)) unit.1)) _ (λ units. value)))

  text_stays : (bytes : List ℕ) → Stays end (with more) (text end bytes) (text (end + length more) (bytes ++ more))
  text_stays bytes = chain (u2_stays end more bytes) _ (λ len. chain (units_stays len.0 len.0 len.1) _ (λ units. value))

  -- ---- entries

  one_index_stays : (entry : ℕ → Const) (bytes : List ℕ) → Stays end (with more) (one_index end entry bytes) (one_index (end + length more) entry (bytes ++ more))
  one_index_stays entry bytes = chain (u2_stays end more bytes) _ (λ a. value)

  two_indices_stays : (entry : ℕ → ℕ → Const) (bytes : List ℕ) → Stays end (with more) (two_indices end entry bytes) (two_indices (end + length more) entry (bytes ++ more))
  two_indices_stays entry bytes = chain (u2_stays end more bytes) _ (λ a. chain (u2_stays end more a.1) _ (λ b. value))

  long_stays : (last : Bool) (at later : ℕ) (bytes : List ℕ) → at ≡ later → Stays end (with more) (long end last at bytes) (long (end + length more) last later (bytes ++ more))
  long_stays true at later bytes same = refused (ap BadIndex same)
  long_stays false at later bytes same = chain (s8_stays end more bytes) _ (λ n. value)

  integer_stays : (bytes : List ℕ) → Stays end (with more) (integer end bytes) (integer (end + length more) (bytes ++ more))
  integer_stays bytes = chain (s4_stays end more bytes) _ (λ n. value)

  tagged_stays : (last : Bool) (at later tag : ℕ) (bytes : List ℕ) → at ≡ later → Stays end (with more) (tagged end last at tag bytes) (tagged (end + length more) last later tag (bytes ++ more))
  tagged_stays last at later tag bytes same =
      on_test (tag == 1) (text_stays bytes)
      (on_test (tag == 3) (integer_stays bytes)
      (on_test (tag == 5) (long_stays last at later bytes same)
      (on_test (tag == 7) (one_index_stays const.Class bytes)
      (on_test (tag == 8) (one_index_stays const.Text bytes)
      (on_test (tag == 9) (two_indices_stays const.Field bytes)
      (on_test (tag == 10) (two_indices_stays const.Method bytes)
      (on_test (tag == 11) (two_indices_stays const.InterfaceMethod bytes)
      (on_test (tag == 12) (two_indices_stays const.NameType bytes)
      (refused (ap (λ (a : ℕ). tag_fault a tag) same))))))))))

  entry_stays : (last : Bool) (bytes : List ℕ) → Stays end (with more) (entry end last bytes) (entry (end + length more) last (bytes ++ more))
  entry_stays last bytes = chain (u1_stays end more bytes) _ (λ tag. tagged_stays last (offset end bytes) (offset (end + length more) (bytes ++ more)) tag.0 tag.1 (offset_same end more bytes))

  place_stays : (second last : Bool) (bytes : List ℕ) → Stays end (with more) (place end second last bytes) (place (end + length more) second last (bytes ++ more))
  place_stays true last bytes = value
  place_stays false last bytes = entry_stays last bytes

  places_stays : (second : Bool) (n : ℕ) (bytes : List ℕ) → Stays end (with more) (places end second n bytes) (places (end + length more) second n (bytes ++ more))
  places_stays second zero bytes = value
  places_stays second (suc n) bytes = chain (place_stays second (n == 0) bytes) _ (λ e. chain (places_stays (is_long e.0) n e.1) _ (λ entries. value))

  -- what entries name is looked at in the pool alone
  pub pool_stays : (bytes : List ℕ) → Stays end (with more) (pool_at end bytes) (pool_at (end + length more) (bytes ++ more))
  pool_stays bytes =
      chain (u2_stays end more bytes) _ (λ n. chain (places_stays false (n.0 - 1) n.1) _ (λ entries.
      on_faultless (entries_fault entries.0 (offset end n.1) entries.0) _ entries (ap (λ (at : ℕ). entries_fault entries.0 at entries.0) (offset_same end more n.1)) refl))
