-- The bytes of one unit: what they may be, and that they tell the unit.
use Rattle.std.proofs.Common.{◌≡◌, ◌⊎◌, inl, inr, ℕ, ◌+◌, ◌-◌, ◌*◌, ◌/◌, ◌%◌, ◌^◌, ◌<◌, ◌≤◌, true, false, cond, leb, ltb, List, [], ◌∷◌, ◌++◌, length, get_or, take, drop, lit≤, refl, sym, ap, subst, ◌∙◌, arith}
use Rattle.std.proofs.lemmas.Bool.Decides.{nat_tests}
use Rattle.std.proofs.lemmas.List.{take_all}
use Rattle.jv_names.specs.Utf8.{unit_bytes}

abbrev pub two : ℕ → List ℕ
two unit = (0xc0 + unit / 64) ∷ (0x80 + unit % 64) ∷ []

abbrev pub three : ℕ → List ℕ
three unit = (0xe0 + unit / 4096) ∷ (0x80 + unit / 64 % 64) ∷ (0x80 + unit % 64) ∷ []

pub one_bytes : (unit : ℕ) → 1 ≤ unit → unit ≤ 0x7f → unit_bytes unit ≡ unit ∷ []
unfolding unit_bytes
one_bytes unit low high = let l : leb 1 unit ≡ true = grind (arith, nat_tests) in let h : leb unit 0x7f ≡ true = grind (arith, nat_tests) in rw (l, h) refl

pub two_bytes : (unit : ℕ) → 0x80 ≤ unit → unit ≤ 0x7ff → unit_bytes unit ≡ two unit
unfolding unit_bytes
two_bytes unit low high =
    let l : leb 1 unit ≡ true = grind (arith, nat_tests) in
    let m : leb unit 0x7f ≡ false = grind (arith, nat_tests) in
    let h : leb unit 0x7ff ≡ true = grind (arith, nat_tests) in
    rw (l, m, h) refl

pub null_bytes : unit_bytes 0 ≡ two 0
unfolding unit_bytes
null_bytes = refl

pub three_bytes : (unit : ℕ) → 0x800 ≤ unit → unit_bytes unit ≡ three unit
unfolding unit_bytes
three_bytes unit low =
    let l : leb 1 unit ≡ true = grind (arith, nat_tests) in
    let m : leb unit 0x7f ≡ false = grind (arith, nat_tests) in
    let h : leb unit 0x7ff ≡ false = grind (arith, nat_tests) in
    rw (l, m, h) refl

-- what is shown of one byte, of two and of three is so of each unit
pub each_unit : (P : ℕ → List ℕ → Type 0)
    → ((unit : ℕ) → 1 ≤ unit → unit ≤ 0x7f → P unit (unit ∷ []))
    → P 0 (two 0)
    → ((unit : ℕ) → 0x80 ≤ unit → unit ≤ 0x7ff → P unit (two unit))
    → ((unit : ℕ) → 0x800 ≤ unit → P unit (three unit))
    → (unit : ℕ) → P unit (unit_bytes unit)
each_unit P one null more long unit =
    let cases : (unit ≡ 0) ⊎ (((1 ≤ unit) × (unit ≤ 0x7f)) ⊎ (((0x80 ≤ unit) × (unit ≤ 0x7ff)) ⊎ (0x800 ≤ unit))) = grind arith in
    elim cases [
      | inl e ↦ subst (λ (u : ℕ). P u (unit_bytes u)) (sym e) (subst (P 0) (sym null_bytes) null)
      | inr (inl h) ↦ subst (P unit) (sym (one_bytes unit h.0 h.1)) (one unit h.0 h.1)
      | inr (inr (inl h)) ↦ subst (P unit) (sym (two_bytes unit h.0 h.1)) (more unit h.0 h.1)
      | inr (inr (inr h)) ↦ subst (P unit) (sym (three_bytes unit h)) (long unit h)
    ]

-- the units that two bytes spell, and those that three do
abbrev pub IfTwo : ℕ → List ℕ → Type 0
IfTwo unit bytes = (first second : ℕ) → bytes ≡ first ∷ second ∷ [] → (first ≡ 0xc0 + unit / 64) × (second ≡ 0x80 + unit % 64) × ((unit ≡ 0) ⊎ (0x80 ≤ unit))

abbrev pub IfThree : ℕ → List ℕ → Type 0
IfThree unit bytes = (first second third : ℕ) → bytes ≡ first ∷ second ∷ third ∷ [] → (first ≡ 0xe0 + unit / 4096) × (second ≡ 0x80 + unit / 64 % 64) × (third ≡ 0x80 + unit % 64) × (0x800 ≤ unit)

pub if_two : (unit : ℕ) → IfTwo unit (unit_bytes unit)
if_two = each_unit IfTwo (λ unit low high first second e. cc) (λ first second e. let f : first ≡ 0xc0 = cc in let s : second ≡ 0x80 = cc in (f, s, inl refl))
    (λ unit low high first second e. let f : first ≡ 0xc0 + unit / 64 = cc in let s : second ≡ 0x80 + unit % 64 = cc in (f, s, inr low))
    (λ unit low first second e. cc)

pub if_three : (unit : ℕ) → IfThree unit (unit_bytes unit)
if_three = each_unit IfThree (λ unit low high first second third e. cc) (λ first second third e. cc) (λ unit low high first second third e. cc)
    (λ unit low first second third e. let f : first ≡ 0xe0 + unit / 4096 = cc in let s : second ≡ 0x80 + unit / 64 % 64 = cc in let t : third ≡ 0x80 + unit % 64 = cc in (f, s, t, low))

-- what bytes begin with that begin with a unit's
abbrev pub Begins : ℕ → List ℕ → List ℕ → Type 0
Begins unit own bytes =
    ((1 ≤ length bytes) × (1 ≤ get_or bytes 0 0) × (get_or bytes 0 0 ≤ 0x7f))
    ⊎ (((2 ≤ length bytes) × (0xc0 ≤ get_or bytes 0 0) × (get_or bytes 0 0 ≤ 0xdf) × (own ≡ get_or bytes 0 0 ∷ get_or bytes 1 0 ∷ []))
    ⊎ ((3 ≤ length bytes) × (0xe0 ≤ get_or bytes 0 0) × (get_or bytes 0 0 ≤ 0xef) × (own ≡ get_or bytes 0 0 ∷ get_or bytes 1 0 ∷ get_or bytes 2 0 ∷ [])))

begins : (unit : ℕ) → unit < 2 ^ 16 → (after : List ℕ) → Begins unit (unit_bytes unit) (unit_bytes unit ++ after)
begins = each_unit (λ unit own. unit < 2 ^ 16 → (after : List ℕ) → Begins unit own (own ++ after))
    (λ unit low high small after. inl (omega arith, low, high))
    (λ small after. inr (inl (omega arith, lit≤ tt, lit≤ tt, refl)))
    (λ unit low high small after. inr (inl (omega arith, omega arith, omega arith, refl)))
    (λ unit low small after. inr (inr (omega arith, omega arith, omega arith, refl)))

pub front : (bytes : List ℕ) (unit : ℕ) (after : List ℕ) → unit < 2 ^ 16 → bytes ≡ unit_bytes unit ++ after → Begins unit (unit_bytes unit) bytes
front bytes unit after small e = subst (Begins unit (unit_bytes unit)) (sym e) (begins unit small after)

-- the bytes of a unit by their bits
pub of_two : (first second high low : ℕ) → first ≡ 0xc0 + high → second ≡ 0x80 + low → high < 32 → low < 64 → (high * 64 + low ≡ 0) ⊎ (0x80 ≤ high * 64 + low)
    → unit_bytes (high * 64 + low) ≡ first ∷ second ∷ []
of_two first second high low f s h l (inl e) =
    let a : first ≡ 0xc0 = omega arith in let b : second ≡ 0x80 = omega arith in rw (e, a, b) null_bytes
of_two first second high low f s h l (inr more) =
    let a : 0xc0 + (high * 64 + low) / 64 ≡ first = omega arith in
    let b : 0x80 + (high * 64 + low) % 64 ≡ second = omega arith in
    two_bytes (high * 64 + low) more (omega arith) ∙ rw (a, b) refl

pub of_three : (first second third high mid low : ℕ) → first ≡ 0xe0 + high → second ≡ 0x80 + mid → third ≡ 0x80 + low → mid < 64 → low < 64 → 0x800 ≤ high * 4096 + mid * 64 + low
    → unit_bytes (high * 4096 + mid * 64 + low) ≡ first ∷ second ∷ third ∷ []
of_three first second third high mid low f s t m l more =
    let unit : ℕ = high * 4096 + mid * 64 + low in
    let a : 0xe0 + unit / 4096 ≡ first = omega arith in
    let b : 0x80 + unit / 64 % 64 ≡ second = omega arith in
    let d : 0x80 + unit % 64 ≡ third = omega arith in
    three_bytes unit more ∙ rw (a, b, d) refl

pub one_first : (bytes : List ℕ) (unit : ℕ) → 1 ≤ length bytes → get_or bytes 0 0 ≡ unit → 1 ≤ unit → unit ≤ 0x7f → bytes ≡ unit_bytes unit ++ take (length bytes - 1) (drop 1 bytes)
one_first [] unit some is low high = absurd (omega arith)
one_first (x ∷ xs) unit some is low high = let n : length xs ≤ length (x ∷ xs) - 1 = omega arith in rw (← is, one_bytes x (omega arith) (omega arith), take_all _ xs n) refl

-- A unit read by its first byte alone, which tells how many follow: its bytes give it back, and what stands behind them.
abbrev third : ℕ → ℕ → List ℕ → ℕ × List ℕ
third first second [] = (0, [])
third first second (byte ∷ after) = ((first - 0xe0) * 4096 + (second - 0x80) * 64 + (byte - 0x80), after)

abbrev second : ℕ → List ℕ → ℕ × List ℕ
second first [] = (0, [])
second first (byte ∷ after) = cond (ltb first 0xe0) ((first - 0xc0) * 64 + (byte - 0x80), after) (third first byte after)

abbrev read_unit : List ℕ → ℕ × List ℕ
read_unit [] = (0, [])
read_unit (byte ∷ after) = cond (ltb byte 0x80) (byte, after) (second byte after)

read_again : (unit : ℕ) → unit < 2 ^ 16 → (after : List ℕ) → read_unit (unit_bytes unit ++ after) ≡ (unit, after)
read_again = each_unit (λ unit own. unit < 2 ^ 16 → (after : List ℕ) → read_unit (own ++ after) ≡ (unit, after))
    (λ unit low high small after. let l : ltb unit 0x80 ≡ true = grind (arith, nat_tests) in rw l refl)
    (λ small after. refl)
    (λ unit low high small after.
    let l : ltb (0xc0 + unit / 64) 0x80 ≡ false = grind (arith, nat_tests) in
    let m : ltb (0xc0 + unit / 64) 0xe0 ≡ true = grind (arith, nat_tests) in
    let e : (0xc0 + unit / 64 - 0xc0) * 64 + (0x80 + unit % 64 - 0x80) ≡ unit = omega arith in
    rw (l, m, e) refl)
    (λ unit low small after.
    let l : ltb (0xe0 + unit / 4096) 0x80 ≡ false = grind (arith, nat_tests) in
    let m : ltb (0xe0 + unit / 4096) 0xe0 ≡ false = grind (arith, nat_tests) in
    let e : (0xe0 + unit / 4096 - 0xe0) * 4096 + (0x80 + unit / 64 % 64 - 0x80) * 64 + (0x80 + unit % 64 - 0x80) ≡ unit = omega arith in
    rw (l, m, e) refl)

-- the bytes of one unit begin those of no other
pub one_unit : (unit other : ℕ) (after rest : List ℕ) → unit < 2 ^ 16 → other < 2 ^ 16 → unit_bytes unit ++ after ≡ unit_bytes other ++ rest → (unit ≡ other) × (after ≡ rest)
one_unit unit other after rest small little e =
    let pairs : read_unit (unit_bytes unit ++ after) ≡ read_unit (unit_bytes other ++ rest) = ap read_unit e in
    let same : (unit, after) ≡ (other, rest) = sym (read_again unit small after) ∙ pairs ∙ read_again other little rest in
    (ap (λ (p : ℕ × List ℕ). p.0) same, ap (λ (p : ℕ × List ℕ). p.1) same)

-- a unit has some byte
pub some_byte : (unit : ℕ) → 1 ≤ length (unit_bytes unit)
some_byte = each_unit (λ unit own. 1 ≤ length own) (λ unit low high. lit≤ tt) (lit≤ tt) (λ unit low high. lit≤ tt) (λ unit low. lit≤ tt)
