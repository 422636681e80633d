-- What is read is what is spelled, and what is spelled is read.
use Rattle.std.proofs.Common.{◌≡◌, ℕ, ◌+◌, ◌^◌, ◌<◌, ◌≤◌, Bool, true, false, cond, ltb, eqb, List, [], ◌∷◌, ◌++◌, length, get_or, take, drop, Option, Some, None, ◌==◌, if◌then◌else◌, refl, sym, ap, subst, ◌∙◌, append_assoc, arith, inl, inr}
use Rattle.std.specs.Prelude.{bytes_eq, flat_map}
use Rattle.std.specs.Int.{Width, w16, w32, byte_len, from_be_bytes, to_be_bytes}
use Rattle.std.specs.List.{starts_with}
use Rattle.std.specs.Bool.{nat_eq}
use Rattle.std.proofs.lemmas.Bool.{cases_lt, ltb-false, le-ltb}
use Rattle.std.proofs.lemmas.List.{take_at, drop_at, take-append-drop, length-append, length-take, get_or-drop, get_or-take, get_or_past}
use Rattle.std.proofs.lemmas.Nat.{be_bytes_2, be_bytes_4, from_be_bytes-to_be_bytes_2, from_be_bytes-to_be_bytes_4}
use Rattle.std.proofs.lemmas.Slice.Eq.{starts_is, bytes_eq-Decides}
use Rattle.std.proofs.lemmas.Bool.Decides.{Decides-eqb}
use Rattle.ti_ids.specs.Maybe.{◌>>=◌}
use Rattle.first_form.specs.ClassFiles.{MainClass, Spells, tree_of, spelling, spelled_constant, fixed_pool, is_main_class, is_own_name, is_own_code, u2, u4}
use Rattle.first_form_read.proofs.Accepted.{and_true, short_name, short_code}
use Rattle.first_form.specs.Reading.{after, number_at, counted_at, name_and_code, class_of, head, middle, sizes, tail}

abbrev pub IsBytes : List ℕ → Type 0
IsBytes bytes = (i : ℕ) → get_or bytes i 0 < 256

IsBytes-drop : (n : ℕ) (bytes : List ℕ) → IsBytes bytes → IsBytes (drop n bytes)
IsBytes-drop n bytes h i = rw get_or-drop (h (n + i))

IsBytes-take : (n : ℕ) (bytes : List ℕ) → IsBytes bytes → IsBytes (take n bytes)
IsBytes-take n bytes h i =
    elim (cases_lt i n) [
      | inl lt ↦ rw (get_or-take n bytes i 0 lt) (h i)
      | inr le ↦ rw (get_or_past (take n bytes) i 0 (omega (arith, length-take n bytes))) (omega arith)
    ]

bind_some : {A B : Type 0} (r : Option A) (f : A → Option B) (y : B) → (r >>= f) ≡ Some y → (x : A) × (r ≡ Some x) × (f x ≡ Some y)
bind_some (Some x) f y e = (x, refl, e)
bind_some None f y e = absurd cc

guard_some : {A : Type 0} (b : Bool) (x y : A) → cond b (Some x) None ≡ Some y → (b ≡ true) × (x ≡ y)
guard_some true x y e = (refl, cc)
guard_some false x y e = absurd cc

guard_or : {A : Type 0} (b : Bool) (x : Option A) (y : A) → cond b x None ≡ Some y → (b ≡ true) × (x ≡ Some y)
guard_or true x y e = (refl, e)
guard_or false x y e = absurd cc

unless_some : {A : Type 0} (b : Bool) (x y : A) → cond b None (Some x) ≡ Some y → (b ≡ false) × (x ≡ y)
unless_some true x y e = absurd cc
unless_some false x y e = (refl, cc)

-- ---- a front

starts : (s p : List ℕ) → (starts_with nat_eq s p ≡ true → s ≡ p ++ drop (length p) s) × ((rest : List ℕ) → s ≡ p ++ rest → starts_with nat_eq s p ≡ true)
starts s p = starts_is Decides-eqb s p (starts_with nat_eq s p) refl

after_takes : (front bytes rest : List ℕ) → after front bytes ≡ Some rest → bytes ≡ front ++ rest
unfolding after
after_takes front bytes rest e =
    let g = guard_some (starts_with nat_eq bytes front) (drop (length front) bytes) rest e in
    (starts bytes front).0 g.0 ∙ ap (λ (w : List ℕ). front ++ w) g.1

after_again : (front rest : List ℕ) → after front (front ++ rest) ≡ Some rest
unfolding after
after_again front rest = rw ((starts (front ++ rest) front).1 rest refl, drop_at front rest (length front) refl) refl

-- ---- numbers

record IsWide (w : Width) (limit : ℕ) : Type 0 where
  len : (n : ℕ) → length (to_be_bytes w n) ≡ byte_len w
  back : (bytes : List ℕ) → length bytes ≡ byte_len w → IsBytes bytes → to_be_bytes w (from_be_bytes w bytes) ≡ bytes
  again : (n : ℕ) → n < limit → from_be_bytes w (to_be_bytes w n) ≡ n
  below : (bytes : List ℕ) → IsBytes bytes → from_be_bytes w bytes < limit

wide16 : IsWide w16 (2 ^ 16)
wide16 = record {
  len = λ n. refl;
  back = λ bytes len fits. be_bytes_2 bytes _ len fits refl;
  again = λ n lt. from_be_bytes-to_be_bytes_2 n lt;
  below = λ bytes fits. omega (arith, fits 0, fits 1);
}

wide32 : IsWide w32 (2 ^ 32)
wide32 = record {
  len = λ n. refl;
  back = λ bytes len fits. be_bytes_4 bytes _ len fits refl;
  again = λ n lt. from_be_bytes-to_be_bytes_4 n lt;
  below = λ bytes fits. omega (arith, fits 0, fits 1, fits 2, fits 3);
}

-- what a reader took from the front
record Takes (bytes text rest : List ℕ) : Type 0 where
  parts : bytes ≡ text ++ rest
  rest_fits : IsBytes rest

Takes-then : (a x b y c : List ℕ) → Takes a x b → Takes b y c → Takes a (x ++ y) c
Takes-then a x b y c p q = record { parts = p.parts ∙ ap (λ (t : List ℕ). x ++ t) q.parts ∙ sym (append_assoc x y c); rest_fits = q.rest_fits }

front_fits : (front bytes rest : List ℕ) → IsBytes bytes → after front bytes ≡ Some rest → Takes bytes front rest
unfolding after
front_fits front bytes rest fits e =
    let g = guard_some (starts_with nat_eq bytes front) (drop (length front) bytes) rest e in
    record { parts = after_takes front bytes rest e; rest_fits = subst IsBytes g.1 (IsBytes-drop (length front) bytes fits) }

number_takes : (w : Width) (limit : ℕ) (wide : IsWide w limit) (bytes : List ℕ) (n : ℕ) (rest : List ℕ) → IsBytes bytes → number_at w bytes ≡ Some (n, rest) → Takes bytes (to_be_bytes w n) rest × (n < limit)
unfolding number_at
number_takes w limit wide bytes n rest fits e =
    let g = unless_some (ltb (length bytes) (byte_len w)) (from_be_bytes w (take (byte_len w) bytes), drop (byte_len w) bytes) (n, rest) e in
    let long : byte_len w ≤ length bytes = ltb-false _ _ g.0 in
    let n-is : from_be_bytes w (take (byte_len w) bytes) ≡ n = ap (λ (p : ℕ × List ℕ). p.0) g.1 in
    let rest-is : drop (byte_len w) bytes ≡ rest = ap (λ (p : ℕ × List ℕ). p.1) g.1 in
    let front : to_be_bytes w n ≡ take (byte_len w) bytes = rw (← n-is) (wide.back (take (byte_len w) bytes) (omega (arith, length-take (byte_len w) bytes)) (IsBytes-take (byte_len w) bytes fits)) in
    (record { parts = rw (front, ← rest-is) (sym (take-append-drop (byte_len w) bytes)); rest_fits = rw (← rest-is) (IsBytes-drop (byte_len w) bytes fits) }, rw (← n-is) (wide.below (take (byte_len w) bytes) (IsBytes-take (byte_len w) bytes fits)))

number_again : (w : Width) (limit : ℕ) (wide : IsWide w limit) (n : ℕ) (rest : List ℕ) → n < limit → number_at w (to_be_bytes w n ++ rest) ≡ Some (n, rest)
unfolding number_at
number_again w limit wide n rest lt =
    let len = wide.len n in
    let long : ltb (length (to_be_bytes w n ++ rest)) (byte_len w) ≡ false = le-ltb _ _ (omega (arith, length-append (to_be_bytes w n) rest)) in
    rw (long, take_at (to_be_bytes w n) rest (byte_len w) len, drop_at (to_be_bytes w n) rest (byte_len w) len, wide.again n lt) refl

counted_takes : (w : Width) (limit : ℕ) (wide : IsWide w limit) (bytes text rest : List ℕ) → IsBytes bytes → counted_at w bytes ≡ Some (text, rest) → Takes bytes (to_be_bytes w (length text) ++ text) rest × (length text < limit)
unfolding counted_at
counted_takes w limit wide bytes text rest fits e =
    let b = bind_some (number_at w bytes) (λ n. cond (ltb (length n.1) n.0) None (Some (take n.0 n.1, drop n.0 n.1))) (text, rest) e in
    let n = b.0 in
    let t = number_takes w limit wide bytes n.0 n.1 fits b.1 in
    let g = unless_some (ltb (length n.1) n.0) (take n.0 n.1, drop n.0 n.1) (text, rest) b.2 in
    let long : n.0 ≤ length n.1 = ltb-false _ _ g.0 in
    let len : length (take n.0 n.1) ≡ n.0 = omega (arith, length-take n.0 n.1) in
    let second : Takes n.1 (take n.0 n.1) (drop n.0 n.1) = record { parts = sym (take-append-drop n.0 n.1); rest_fits = IsBytes-drop n.0 n.1 t.0.rest_fits } in
    let both = Takes-then bytes (to_be_bytes w n.0) n.1 (take n.0 n.1) (drop n.0 n.1) t.0 second in
    let whole : Takes bytes (to_be_bytes w (length (take n.0 n.1)) ++ take n.0 n.1) (drop n.0 n.1) = subst (λ (k : ℕ). Takes bytes (to_be_bytes w k ++ take n.0 n.1) (drop n.0 n.1)) (sym len) both in
    subst (λ (p : List ℕ × List ℕ). Takes bytes (to_be_bytes w (length p.0) ++ p.0) p.1 × (length p.0 < limit)) g.1 (whole, omega (arith, t.1))

counted_again : (w : Width) (limit : ℕ) (wide : IsWide w limit) (text rest : List ℕ) → length text < limit → counted_at w (to_be_bytes w (length text) ++ (text ++ rest)) ≡ Some (text, rest)
unfolding counted_at
counted_again w limit wide text rest lt =
    let long : ltb (length (text ++ rest)) (length text) ≡ false = le-ltb _ _ (omega (arith, length-append text rest)) in
    rw (number_again w limit wide (length text) (text ++ rest) lt, long, take_at text rest (length text) refl, drop_at text rest (length text) refl) refl

-- ---- the whole file

-- the file, part by part
abbrev pieces : List ℕ → List ℕ → List ℕ
pieces name code =
    head ++ (u2 (length name) ++ (name ++ (middle ++ (u4 (length code + 12) ++ (sizes ++ (u4 (length code) ++ (code ++ tail)))))))

code_end : (code : List ℕ) → (((code ++ (0 ∷ 0 ∷ 0 ∷ 0 ∷ [])) ++ []) ++ []) ++ (0 ∷ 0 ∷ []) ≡ code ++ tail
code_end code = simp append_assoc

spelled_in_pieces : (name code : List ℕ) → spelling (tree_of (record { name = name; code = code })) ≡ pieces name code
spelled_in_pieces name code =
    let pool = flat_map spelled_constant fixed_pool in
    let flags : List ℕ = 0 ∷ 0x21 ∷ 0 ∷ 2 ∷ 0 ∷ 4 ∷ 0 ∷ 0 ∷ 0 ∷ 0 ∷ 0 ∷ 1 ∷ 0 ∷ 9 ∷ 0 ∷ 5 ∷ 0 ∷ 6 ∷ 0 ∷ 1 ∷ 0 ∷ 7 ∷ [] in
    let whole = λ (w : List ℕ). head ++ (u2 (length name) ++ ((name ++ pool) ++ (flags ++ (u4 (length code + 12) ++ (sizes ++ (u4 (length code) ++ w)))))) in
    ap whole (code_end code)
    ∙ ap (λ (w : List ℕ). head ++ (u2 (length name) ++ w)) (append_assoc name pool (flags ++ (u4 (length code + 12) ++ (sizes ++ (u4 (length code) ++ (code ++ tail))))))

-- the steps of reading, whatever the fronts
abbrev steps : List ℕ → List ℕ → List ℕ → List ℕ → List ℕ → Option (List ℕ × List ℕ)
steps h m s t bytes = do
  a ← after h bytes
  name ← counted_at w16 a
  b ← after m name.1
  size ← number_at w32 b
  c ← after s size.1
  code ← counted_at w32 c
  if bytes_eq code.1 t then (if size.0 == length code.0 + 12 then Some (name.0, code.0) else None) else None

steps_are : (bytes : List ℕ) → name_and_code bytes ≡ steps head middle sizes tail bytes
unfolding name_and_code
steps_are bytes = refl

abbrev pieces_of : List ℕ → List ℕ → List ℕ → List ℕ → List ℕ → List ℕ → List ℕ
pieces_of h m s t name code =
    h ++ (u2 (length name) ++ (name ++ (m ++ (u4 (length code + 12) ++ (s ++ (u4 (length code) ++ (code ++ t)))))))

same_bytes : (t : List ℕ) → bytes_eq t t ≡ true
same_bytes t = (bytes_eq-Decides t t).1 refl

same_number : (n : ℕ) → eqb n n ≡ true
same_number n = (Decides-eqb n n).1 refl

steps_again : (h m s t name code : List ℕ) → length name < 2 ^ 16 → length code < 2 ^ 16 → steps h m s t (pieces_of h m s t name code) ≡ Some (name, code)
steps_again h m s t name code short few =
    rw (
      after_again h (u2 (length name) ++ (name ++ (m ++ (u4 (length code + 12) ++ (s ++ (u4 (length code) ++ (code ++ t))))))),
      counted_again w16 (2 ^ 16) wide16 name (m ++ (u4 (length code + 12) ++ (s ++ (u4 (length code) ++ (code ++ t))))) short,
      after_again m (u4 (length code + 12) ++ (s ++ (u4 (length code) ++ (code ++ t)))),
      number_again w32 (2 ^ 32) wide32 (length code + 12) (s ++ (u4 (length code) ++ (code ++ t))) (omega arith),
      after_again s (u4 (length code) ++ (code ++ t)),
      counted_again w32 (2 ^ 32) wide32 code t (omega arith),
      same_bytes t,
      same_number (length code + 12),
    ) refl

-- the last test, and what is before it
abbrev ending : List ℕ → List ℕ → List ℕ → ℕ → List ℕ → Option (List ℕ × List ℕ)
ending t rest name size code = if bytes_eq rest t then (if size == length code + 12 then Some (name, code) else None) else None

last_taken : (t rest name code : List ℕ) (size : ℕ) (c d : List ℕ) → ending t rest name size code ≡ Some (c, d) → (rest ≡ t) × (size ≡ length code + 12) × (name ≡ c) × (code ≡ d)
last_taken t rest name code size c d e =
    let inner : Option (List ℕ × List ℕ) = if size == length code + 12 then Some (name, code) else None in
    let g = guard_or (bytes_eq rest t) inner (c, d) e in
    let k = guard_some (eqb size (length code + 12)) (name, code) (c, d) g.1 in
    ((bytes_eq-Decides rest t).0 g.0, (Decides-eqb size (length code + 12)).0 k.0, ap (λ (p : List ℕ × List ℕ). p.0) k.1, ap (λ (p : List ℕ × List ℕ). p.1) k.1)

steps_taken : (h m s t bytes name code : List ℕ) → IsBytes bytes → steps h m s t bytes ≡ Some (name, code) → bytes ≡ pieces_of h m s t name code
steps_taken h m s t bytes name code fits e =
    let f = λ (p : List ℕ × List ℕ) (z : ℕ × List ℕ) (q : List ℕ × List ℕ). ending t q.1 p.0 z.0 q.0 in
    let a = bind_some (after h bytes) (λ a. counted_at w16 a >>= (λ p. after m p.1 >>= (λ b. number_at w32 b >>= (λ z. after s z.1 >>= (λ c. counted_at w32 c >>= f p z))))) (name, code) e in
    let n = bind_some (counted_at w16 a.0) (λ p. after m p.1 >>= (λ b. number_at w32 b >>= (λ z. after s z.1 >>= (λ c. counted_at w32 c >>= f p z)))) (name, code) a.2 in
    let b = bind_some (after m n.0.1) (λ b. number_at w32 b >>= (λ z. after s z.1 >>= (λ c. counted_at w32 c >>= f n.0 z))) (name, code) n.2 in
    let z = bind_some (number_at w32 b.0) (λ z. after s z.1 >>= (λ c. counted_at w32 c >>= f n.0 z)) (name, code) b.2 in
    let c = bind_some (after s z.0.1) (λ c. counted_at w32 c >>= f n.0 z.0) (name, code) z.2 in
    let d = bind_some (counted_at w32 c.0) (f n.0 z.0) (name, code) c.2 in
    let l = last_taken t d.0.1 n.0.0 d.0.0 z.0.0 name code d.2 in
    let ta = front_fits h bytes a.0 fits a.1 in
    let tn = counted_takes w16 (2 ^ 16) wide16 a.0 n.0.0 n.0.1 ta.rest_fits n.1 in
    let tb = front_fits m n.0.1 b.0 tn.0.rest_fits b.1 in
    let tz = number_takes w32 (2 ^ 32) wide32 b.0 z.0.0 z.0.1 tb.rest_fits z.1 in
    let tc = front_fits s z.0.1 c.0 tz.0.rest_fits c.1 in
    let td = counted_takes w32 (2 ^ 32) wide32 c.0 d.0.0 d.0.1 tc.rest_fits d.1 in
    let back : bytes ≡ pieces_of h m s t n.0.0 d.0.0 =
    ta.parts
    ∙ ap (λ (w : List ℕ). h ++ w) (
    tn.0.parts
    ∙ ap (λ (w : List ℕ). (u2 (length n.0.0) ++ n.0.0) ++ w) (
    tb.parts
    ∙ ap (λ (w : List ℕ). m ++ w) (
    tz.0.parts
    ∙ ap (λ (k : ℕ). u4 k ++ z.0.1) l.1
    ∙ ap (λ (w : List ℕ). u4 (length d.0.0 + 12) ++ w) (
    tc.parts
    ∙ ap (λ (w : List ℕ). s ++ w) (
    td.0.parts
    ∙ ap (λ (w : List ℕ). (u4 (length d.0.0) ++ d.0.0) ++ w) l.0
    ∙ append_assoc (u4 (length d.0.0)) d.0.0 t
    )
    )
    )
    )
    ∙ append_assoc (u2 (length n.0.0)) n.0.0 (m ++ (u4 (length d.0.0 + 12) ++ (s ++ (u4 (length d.0.0) ++ (d.0.0 ++ t)))))
    ) in
    subst (λ (w : List ℕ). bytes ≡ pieces_of h m s t name w) l.3 (subst (λ (w : List ℕ). bytes ≡ pieces_of h m s t w d.0.0) l.2 back)

checked : (c : MainClass) (d : MainClass) → (if is_main_class c then Some c else None) ≡ Some d → (is_main_class c ≡ true) × (c ≡ d)
checked c d e = guard_some (is_main_class c) c d e

pub class_taken : (bytes : List ℕ) (c : MainClass) → IsBytes bytes → class_of bytes ≡ Some c → Spells c bytes
unfolding class_of
class_taken bytes c fits e =
    let b = bind_some (name_and_code bytes) (λ p. let d : MainClass = record { name = p.0; code = p.1 } in if is_main_class d then Some d else None) c e in
    let g = checked (record { name = b.0.0; code = b.0.1 }) c b.2 in
    let parts : bytes ≡ pieces b.0.0 b.0.1 = steps_taken head middle sizes tail bytes b.0.0 b.0.1 fits (sym (steps_are bytes) ∙ b.1) in
    subst (λ (d : MainClass). Spells d bytes) g.1 (record { accepted = g.0; spelled = parts ∙ sym (spelled_in_pieces b.0.0 b.0.1) })

pub class_again : (bytes : List ℕ) (c : MainClass) → Spells c bytes → class_of bytes ≡ Some c
unfolding class_of
class_again bytes c s =
    let both = and_true (is_own_name c.name) (is_own_code c.code) s.accepted in
    let short : length c.name < 2 ^ 16 = short_name c.name both.0 in
    let few : length c.code < 2 ^ 16 = short_code c.code both.1 in
    let again : name_and_code bytes ≡ Some (c.name, c.code) =
    ap (λ (w : List ℕ). name_and_code w) (s.spelled ∙ spelled_in_pieces c.name c.code) ∙ steps_are (pieces c.name c.code) ∙ steps_again head middle sizes tail c.name c.code short few in
    rw (again, s.accepted) refl
