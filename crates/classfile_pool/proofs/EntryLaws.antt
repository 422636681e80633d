-- The laws of the entries of a constant pool one by one, before what they name is looked at.
use Rattle.std.proofs.Common.{◌≡◌, ℕ, zero, suc, Bool, true, false, not, List, [], ◌∷◌, ◌++◌, length, Ok, refl, ap, ◌∙◌, append_assoc, arith}
use Rattle.std.specs.Prelude.{◌==◌, ◌&&◌}
use Rattle.std.specs.List.{list_all, flat_map}
use Rattle.std.proofs.lemmas.Bool.{and_parts, and_from, eqb-true, eq-eqb, ne_eqb}
use Rattle.jv_names.specs.Utf8.{utf8}
use Rattle.class_tree.specs.declared.pool.Const.{Const}
use Rattle.class_tree.specs.declared.pool.Const.TheVariants as const
use Rattle.class_tree.specs.Ranges.{is_u2, is_s4, is_s8}
use Rattle.class_tree.specs.Spelling.{const_bytes}
use Rattle.class_tree.specs.Spelling as bytes_of
use Rattle.class_tree.specs.PoolRules.{are_laid_out}
use Rattle.classfile_items.specs.Reading.{offset, u1}
use Rattle.classfile_pool.specs.PoolReading.{text, one_index, two_indices, long, integer, tagged, entry, is_long, place, places}
use Rattle.classfile_items.proofs.Laws.{IsSoundBehind, IsSound, step, step_at, done, fails, on_tag}
use Rattle.classfile_items.proofs.NumberLaws.{u1_sound, u2_sound, u2_complete, s4_sound, s4_complete, s8_sound, s8_complete}
use Rattle.classfile_pool.proofs.TextLaws.{units_sound, units_complete}

-- its numbers are in their ranges
abbrev pub is_shaped : Const → Bool
is_shaped (const.Utf8 text) = list_all is_u2 text && is_u2 (length (utf8 text))
is_shaped (const.Integer n) = is_s4 n
is_shaped (const.Long n) = is_s8 n
is_shaped (const.Class name) = is_u2 name
is_shaped (const.Text text) = is_u2 text
is_shaped (const.Field class pair) = is_u2 class && is_u2 pair
is_shaped (const.Method class pair) = is_u2 class && is_u2 pair
is_shaped (const.InterfaceMethod class pair) = is_u2 class && is_u2 pair
is_shaped (const.NameType name desc) = is_u2 name && is_u2 desc
is_shaped const.Unused = true

abbrev is_unused : Const → Bool
is_unused const.Unused = true
is_unused c = false

-- it may stand at a place, which may be the second one of a Long, or the pool's last one
abbrev may_stand : Bool → Bool → Const → Bool
may_stand true last c = is_unused c
may_stand false last c = not (is_unused c) && not (last && is_long c)

abbrev is_entry : Bool → Bool → Const → Bool
is_entry second last c = is_shaped c && may_stand second last c

-- an entry that is no Long may stand at the last place
no_long : (last : Bool) → not (last && false) ≡ true
no_long true = refl
no_long false = refl

-- ---- entries are sound

utf8_sound : (end : ℕ) (last : Bool) → IsSoundBehind (1 ∷ []) (text end) const_bytes (is_entry false last)
utf8_sound end last = step (u2_sound end) (λ n is_n. step (units_sound end n) (λ units are.
    let p = and_parts (list_all is_u2 units) _ are in
    let number : length (utf8 units) ≡ n = eqb-true (length (utf8 units)) n p.1 in
    done (const.Utf8 units) (ap (λ (k : ℕ). 1 ∷ (bytes_of.u2 k ++ utf8 units)) number) (and_from _ _ (and_from _ _ p.0 (ap is_u2 number ∙ is_n)) (no_long last))))

integer_sound : (end : ℕ) (last : Bool) → IsSoundBehind (3 ∷ []) (integer end) const_bytes (is_entry false last)
integer_sound end last = step (s4_sound end) (λ n is_n. done (const.Integer n) refl (and_from _ _ is_n (no_long last)))

long_sound : (end : ℕ) (last : Bool) (at : ℕ) → IsSoundBehind (5 ∷ []) (long end last at) const_bytes (is_entry false last)
long_sound end true at = fails
long_sound end false at = step (s8_sound end) (λ n is_n. done (const.Long n) refl (and_from _ _ is_n refl))

one_sound : (end : ℕ) (last : Bool) (tag : ℕ) (made : ℕ → Const) → ((a : ℕ) → const_bytes (made a) ≡ tag ∷ bytes_of.u2 a) → ((a : ℕ) → is_u2 a ≡ true → is_entry false last (made a) ≡ true) → IsSoundBehind (tag ∷ []) (one_index end made) const_bytes (is_entry false last)
one_sound end last tag made spelled passes = step (u2_sound end) (λ a is_a. done (made a) (spelled a) (passes a is_a))

two_sound : (end : ℕ) (last : Bool) (tag : ℕ) (made : ℕ → ℕ → Const) → ((a b : ℕ) → const_bytes (made a b) ≡ tag ∷ (bytes_of.u2 a ++ bytes_of.u2 b)) → ((a b : ℕ) → (is_u2 a && is_u2 b) ≡ true → is_entry false last (made a b) ≡ true) → IsSoundBehind (tag ∷ []) (two_indices end made) const_bytes (is_entry false last)
two_sound end last tag made spelled passes = step (u2_sound end) (λ a is_a. step (u2_sound end) (λ b is_b. done (made a b) (spelled a b) (passes a b (and_from _ _ is_a is_b))))

tagged_sound : (last : Bool) (end at tag : ℕ) → IsSoundBehind (tag ∷ []) (tagged end last at tag) const_bytes (is_entry false last)
tagged_sound last end at tag =
    on_tag 1 (utf8_sound end last) (λ _.
    on_tag 3 (integer_sound end last) (λ _.
    on_tag 5 (long_sound end last at) (λ _.
    on_tag 7 (one_sound end last 7 const.Class (λ a. refl) (λ a is. and_from _ _ is (no_long last))) (λ _.
    on_tag 8 (one_sound end last 8 const.Text (λ a. refl) (λ a is. and_from _ _ is (no_long last))) (λ _.
    on_tag 9 (two_sound end last 9 const.Field (λ a b. refl) (λ a b is. and_from _ _ is (no_long last))) (λ _.
    on_tag 10 (two_sound end last 10 const.Method (λ a b. refl) (λ a b is. and_from _ _ is (no_long last))) (λ _.
    on_tag 11 (two_sound end last 11 const.InterfaceMethod (λ a b. refl) (λ a b is. and_from _ _ is (no_long last))) (λ _.
    on_tag 12 (two_sound end last 12 const.NameType (λ a b. refl) (λ a b is. and_from _ _ is (no_long last))) (λ _. fails)))))))))

entry_sound : (last : Bool) (end : ℕ) → IsSound (entry end last) const_bytes (is_entry false last)
entry_sound last end = step_at (u1_sound end) (λ began tag _. tagged_sound last end (offset end began) tag)

place_sound : (second last : Bool) (end : ℕ) → IsSound (place end second last) const_bytes (is_entry second last)
place_sound true last end = done const.Unused refl refl
place_sound false last end = entry_sound last end

-- ---- entries are complete

two_complete : (end : ℕ) (made : ℕ → ℕ → Const) (a b : ℕ) (rest : List ℕ) → (is_u2 a && is_u2 b) ≡ true → two_indices end made ((bytes_of.u2 a ++ bytes_of.u2 b) ++ rest) ≡ Ok (made a b, rest)
two_complete end made a b rest passes =
    let p = and_parts (is_u2 a) _ passes in
    rw (append_assoc (bytes_of.u2 a) (bytes_of.u2 b) rest, u2_complete end a (bytes_of.u2 b ++ rest) p.0, u2_complete end b rest p.1) refl

entry_complete : (last : Bool) (end : ℕ) (c : Const) (rest : List ℕ) → is_shaped c ≡ true → may_stand false last c ≡ true → entry end last (const_bytes c ++ rest) ≡ Ok (c, rest)
unfolding u1
entry_complete last end (const.Utf8 units) rest shaped may =
    let p = and_parts (list_all is_u2 units) _ shaped in
    let n : ℕ = length (utf8 units) in
    rw (append_assoc (bytes_of.u2 n) (utf8 units) rest, u2_complete end n (utf8 units ++ rest) p.1, units_complete end n n units rest (omega arith) p.0 refl) refl
entry_complete last end (const.Integer n) rest shaped may = rw (s4_complete end n rest shaped) refl
entry_complete true end (const.Long n) rest shaped may = cc
entry_complete false end (const.Long n) rest shaped may = rw (s8_complete end n rest shaped) refl
entry_complete last end (const.Class a) rest shaped may = rw (u2_complete end a rest shaped) refl
entry_complete last end (const.Text a) rest shaped may = rw (u2_complete end a rest shaped) refl
entry_complete last end (const.Field a b) rest shaped may = two_complete end const.Field a b rest shaped
entry_complete last end (const.Method a b) rest shaped may = two_complete end const.Method a b rest shaped
entry_complete last end (const.InterfaceMethod a b) rest shaped may = two_complete end const.InterfaceMethod a b rest shaped
entry_complete last end (const.NameType a b) rest shaped may = two_complete end const.NameType a b rest shaped
entry_complete last end const.Unused rest shaped may = cc

unused_is : (c : Const) → is_unused c ≡ true → c ≡ const.Unused
unused_is const.Unused is = refl
unused_is c is = cc

place_complete : (second last : Bool) (end : ℕ) (c : Const) (rest : List ℕ) → is_shaped c ≡ true → may_stand second last c ≡ true → place end second last (const_bytes c ++ rest) ≡ Ok (c, rest)
place_complete true last end c rest shaped may = rw (unused_is c may) refl
place_complete false last end c rest shaped may = entry_complete last end c rest shaped may

-- ---- all places

laid_from : (second last : Bool) (pool : List Const) (c : Const) → may_stand second last c ≡ true → are_laid_out (is_long c) pool ≡ true → are_laid_out second (c ∷ pool) ≡ true
laid_from true last pool const.Unused may laid = laid
laid_from true last pool c may laid = cc
laid_from false last pool const.Unused may laid = cc
laid_from false last pool c may laid = laid

-- the first place, and the others
record IsLaid (second : Bool) (pool : List Const) (c : Const) : Type 0 where
  first : may_stand second (length pool == 0) c ≡ true
  others : are_laid_out (is_long c) pool ≡ true

-- a Long is at the last place of no pool
long_stands : (pool : List Const) → are_laid_out true pool ≡ true → not ((length pool == 0) && true) ≡ true
long_stands [] laid = laid
long_stands (c ∷ pool) laid = ap (λ (none : Bool). not (none && true)) (ne_eqb (suc (length pool)) 0 (λ e. omega arith))

laid_parts : (second : Bool) (pool : List Const) (c : Const) → are_laid_out second (c ∷ pool) ≡ true → IsLaid second pool c
laid_parts true pool const.Unused laid = record { first = refl; others = laid }
laid_parts true pool c laid = cc
laid_parts false pool const.Unused laid = cc
laid_parts false pool (const.Long n) laid = record { first = long_stands pool laid; others = laid }
laid_parts false pool c laid = record { first = no_long (length pool == 0); others = laid }

-- so many places, of which the first may be the second one of a Long
abbrev pub are_places : Bool → ℕ → List Const → Bool
are_places second n pool = list_all is_shaped pool && are_laid_out second pool && (length pool == n)

long_goes_on : (second : Bool) (n : ℕ) (c : Const) → may_stand second (n == 0) c ≡ true → n ≡ 0 → is_long c ≡ false
long_goes_on true n (const.Long a) may none = cc
long_goes_on false n (const.Long a) may none = let last : (n == 0) ≡ true = eq-eqb n 0 none in cc (ap (λ (l : Bool). not (l && true)) last)
long_goes_on second n c may none = refl

pub places_sound : (end : ℕ) (second : Bool) (n : ℕ) → (n ≡ 0 → second ≡ false) → IsSound (places end second n) (flat_map const_bytes) (are_places second n)
places_sound end second zero more = done [] refl (and_from _ _ (ap not (more refl)) refl)
places_sound end second (suc n) more =
    step (place_sound second (n == 0) end) (λ c is_c.
    let p = and_parts (is_shaped c) _ is_c in
    step (places_sound end (is_long c) n (long_goes_on second n c p.1)) (λ pool are.
    let q = and_parts (list_all is_shaped pool && are_laid_out (is_long c) pool) _ are in
    let r = and_parts (list_all is_shaped pool) _ q.0 in
    done (c ∷ pool) refl (and_from _ _ (and_from _ _ (and_from _ _ p.0 r.0) (laid_from second (n == 0) pool c p.1 r.1)) (eq-eqb (suc (length pool)) (suc n) (ap suc (eqb-true (length pool) n q.1))))))

pub places_complete : (end : ℕ) (second : Bool) (pool : List Const) (rest : List ℕ) → list_all is_shaped pool ≡ true → are_laid_out second pool ≡ true → places end second (length pool) (flat_map const_bytes pool ++ rest) ≡ Ok (pool, rest)
places_complete end second [] rest shaped laid = refl
places_complete end second (c ∷ pool) rest shaped laid =
    let p = and_parts (is_shaped c) _ shaped in
    let s = laid_parts second pool c laid in
    let after : List ℕ = flat_map const_bytes pool ++ rest in
    rw (append_assoc (const_bytes c) (flat_map const_bytes pool) rest, place_complete second (length pool == 0) end c after p.0 s.first, places_complete end (is_long c) pool rest p.1 s.others) refl
