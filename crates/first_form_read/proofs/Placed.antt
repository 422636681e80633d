-- Instructions by their places, and the listing of a code.
use Rattle.std.proofs.Common.{◌≡◌, ℕ, zero, suc, ◌+◌, ◌-◌, ◌≤◌, ◌<◌, List, [], ◌∷◌, ◌++◌, length, get_or, take, drop, Option, Some, None, refl, ap, subst, ◌∙◌, arith, add-one, append_assoc, drop-cons}
use Rattle.std.proofs.lemmas.List.{append-nil, length-append, length-drop, take_all, drop_all}
use Rattle.ti_ids.specs.Maybe.{◌>>=◌}
use Rattle.first_form.specs.declared.Instr.{Instr}
use Rattle.first_form.specs.Instructions.{first, size, listing_from}
use Rattle.first_form_read.specs.Places.{listed_from}

-- an answer behind what is there already
abbrev pub with_front : List (ℕ × Instr) → Option (List (ℕ × Instr)) → Option (List (ℕ × Instr))
with_front front None = None
with_front front (Some rest) = Some (front ++ rest)

with_front-append : (xs ys : List (ℕ × Instr)) (r : Option (List (ℕ × Instr))) → with_front (xs ++ ys) r ≡ with_front xs (with_front ys r)
with_front-append xs ys None = refl
with_front-append xs ys (Some rest) = ap (λ (z : List (ℕ × Instr)). Some z) (append_assoc xs ys rest)

listed_from-append : (at : ℕ) (ps qs : List (Option Instr)) → listed_from at (ps ++ qs) ≡ listed_from at ps ++ listed_from (at + length ps) qs
listed_from-append at [] qs = ap (λ (k : ℕ). listed_from k qs) (omega arith)
listed_from-append at (None ∷ ps) qs =
    listed_from-append (at + 1) ps qs ∙ ap (λ (k : ℕ). listed_from (at + 1) ps ++ listed_from k qs) (omega arith)
listed_from-append at (Some i ∷ ps) qs =
    ap (λ (w : List (ℕ × Instr)). (at, i) ∷ w) (listed_from-append (at + 1) ps qs ∙ ap (λ (k : ℕ). listed_from (at + 1) ps ++ listed_from k qs) (omega arith))

-- a place with no instruction, behind others
listed_from-none : (ps : List (Option Instr)) → listed_from 0 (ps ++ None ∷ []) ≡ listed_from 0 ps
listed_from-none ps = listed_from-append 0 ps (None ∷ []) ∙ append-nil (listed_from 0 ps)

-- a place with one
listed_from-some : (ps : List (Option Instr)) (i : Instr) (pc : ℕ) → length ps ≡ pc → listed_from 0 (ps ++ Some i ∷ []) ≡ listed_from 0 ps ++ (pc, i) ∷ []
listed_from-some ps i pc len =
    let e : 0 + length ps ≡ pc = omega arith in
    listed_from-append 0 ps (Some i ∷ []) ∙ ap (λ (k : ℕ). listed_from 0 ps ++ (k, i) ∷ []) e

-- one more place
pub counted_more : (ps more : List (Option Instr)) (p : Option Instr) (pc : ℕ) → more ≡ ps ++ p ∷ [] → length ps ≡ pc → length more ≡ pc + 1
counted_more ps more p pc is len =
    let same : length more ≡ length (ps ++ p ∷ []) = ap length is in
    omega (arith, length-append ps (p ∷ []))

front_of : (code : List ℕ) (pc : ℕ) → pc < length code → drop pc code ≡ get_or code pc 0 ∷ drop (pc + 1) code
front_of code pc h = rw (add-one, drop-cons code pc 0) refl

whole_rest : (code : List ℕ) (pc : ℕ) → take (length code - pc) (drop pc code) ≡ drop pc code
whole_rest code pc = take_all (length code - pc) (drop pc code) (omega (arith, length-drop pc code))

-- a byte of operands is passed over
pub skipped : (code : List ℕ) (pc m n : ℕ) (ps : List (Option Instr)) → pc < length code → m ≡ suc n
    → with_front (listed_from 0 ps) (listing_from m pc (drop pc code)) ≡ with_front (listed_from 0 (ps ++ None ∷ [])) (listing_from n (pc + 1) (drop (pc + 1) code))
skipped code pc m n ps h e =
    rw (e, front_of code pc h, listed_from-none ps) refl

bind_front : (at : ℕ) (i : Instr) (r : Option (List (ℕ × Instr))) → (r >>= (λ rest. Some ((at, i) ∷ rest))) ≡ with_front ((at, i) ∷ []) r
bind_front at i None = refl
bind_front at i (Some rest) = refl

first_bound : (at : ℕ) (byte : ℕ) (bytes : List ℕ) (f : Option Instr) → first (byte ∷ bytes) ≡ f
    → listing_from 0 at (byte ∷ bytes) ≡ (f >>= (λ i. listing_from (size i - 1) (at + 1) bytes >>= (λ rest. Some ((at, i) ∷ rest))))
first_bound at byte bytes f e = ap (λ (g : Option Instr). g >>= (λ i. listing_from (size i - 1) (at + 1) bytes >>= (λ rest. Some ((at, i) ∷ rest)))) e

-- an instruction begins
pub begun : (code : List ℕ) (pc m n : ℕ) (ps : List (Option Instr)) (i : Instr) → pc < length code → m ≤ 0 → length ps ≡ pc
    → first (take (length code - pc) (drop pc code)) ≡ Some i → n ≡ size i - 1
    → with_front (listed_from 0 ps) (listing_from m pc (drop pc code)) ≡ with_front (listed_from 0 (ps ++ Some i ∷ [])) (listing_from n (pc + 1) (drop (pc + 1) code))
begun code pc m n ps i h none len is n-is =
    let front = front_of code pc h in
    let is' : first (get_or code pc 0 ∷ drop (pc + 1) code) ≡ Some i = subst (λ (w : List ℕ). first w ≡ Some i) (whole_rest code pc ∙ front) is in
    let r = listing_from (size i - 1) (pc + 1) (drop (pc + 1) code) in
    let z : m ≡ 0 = omega arith in
    rw (z, front, n-is, listed_from-some ps i pc len, with_front-append (listed_from 0 ps) ((pc, i) ∷ []) r)
    (ap (with_front (listed_from 0 ps)) (first_bound pc (get_or code pc 0) (drop (pc + 1) code) (Some i) is' ∙ bind_front pc i r))

-- none begins
pub refused : (code : List ℕ) (pc m : ℕ) (front : List (ℕ × Instr)) → pc < length code → m ≤ 0
    → first (take (length code - pc) (drop pc code)) ≡ None → with_front front (listing_from m pc (drop pc code)) ≡ None
refused code pc m front h none is =
    let d = front_of code pc h in
    let is' : first (get_or code pc 0 ∷ drop (pc + 1) code) ≡ None = subst (λ (w : List ℕ). first w ≡ None) (whole_rest code pc ∙ d) is in
    let z : m ≡ 0 = omega arith in
    rw (z, d) (ap (with_front front) (first_bound pc (get_or code pc 0) (drop (pc + 1) code) None is'))

-- the code ends behind a whole instruction
pub ended : (code : List ℕ) (pc : ℕ) (front : List (ℕ × Instr)) → length code ≤ pc → with_front front (listing_from 0 pc (drop pc code)) ≡ Some front
ended code pc front h = rw (drop_all pc code h) (ap (λ (z : List (ℕ × Instr)). Some z) (append-nil front))

-- the code ends within one
pub cut_off : (code : List ℕ) (pc m : ℕ) (front : List (ℕ × Instr)) → length code ≤ pc → 0 < m → with_front front (listing_from m pc (drop pc code)) ≡ None
cut_off code pc zero front h some = absurd (omega arith)
cut_off code pc (suc m) front h some = rw (drop_all pc code h) refl
