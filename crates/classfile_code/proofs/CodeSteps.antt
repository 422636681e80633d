-- Instructions read one after the other: what is found after some of them were read, and that their offsets rise.
use Rattle.std.proofs.Common.{◌≡◌, ℕ, zero, suc, ◌-◌, ◌+◌, ◌<◌, ◌≤◌, Bool, true, false, List, [], ◌∷◌, ◌++◌, length, take, min, Ok, Err, refl, inl, inr, sym, ap, ◌∙◌, append_assoc, append-nil, arith}
use Rattle.std.specs.Prelude.{IfOk, IfSome, All, find, Option, Some, None, cond, option_map, slice_index_or, if◌then◌else◌, not, nat_lt}
use Rattle.std.specs.List.Sorted.{IsNonDecreasingBy}
use Rattle.std.proofs.Math.Nat.{sub-zero}
use Rattle.std.proofs.lemmas.List.{length-take}
use Rattle.std.proofs.lemmas.List.Elements.{All-nil, All-cons}
use Rattle.class_code.specs.declared.instr.Instr.{Instr}
use Rattle.class_code.specs.Listing.{astray, lands}
use Rattle.class_tree.specs.declared.pool.Const.{Const}
use Rattle.classfile_items.specs.declared.fault.ReadClassFault.{ReadClassFault}
use Rattle.classfile_items.specs.declared.fault.ReadClassFault.TheVariants.{Truncated}
use Rattle.classfile_items.specs.Reading.{Checked, ◌>>=◌, Tells, offset}
use Rattle.classfile_code.specs.CodeReading.{instr_of, instrs_from, instrs}

abbrev pub Pairs : Type 0
Pairs = List (ℕ × Instr)

-- what was read, and what is found behind it
abbrev pub then_found : Pairs → Checked Pairs → Checked Pairs
then_found read found = found >>= λ is. Ok (read ++ is)

then-nil : (found : Checked Pairs) → found ≡ then_found [] found
then-nil (Ok is) = refl
then-nil (Err fault) = refl

then-cons : (read : Pairs) (p : ℕ × Instr) (found : Checked Pairs) → then_found read (found >>= λ is. Ok (p ∷ is)) ≡ then_found (read ++ p ∷ []) found
then-cons read p (Ok is) = ap (λ (all : Pairs). Ok all) (sym (append_assoc read (p ∷ []) is))
then-cons read p (Err fault) = refl

-- offsets of which none is below the one before, from this one on
abbrev Rises : ℕ → Pairs → Type 0
Rises at [] = Unit {0}
Rises at (p ∷ ps) = (at ≤ p.0) × Rises p.0 ps

rises_below : (low high : ℕ) (ps : Pairs) → low ≤ high → Rises high ps → Rises low ps
rises_below low high [] le rises = tt
rises_below low high (p ∷ ps) le rises = (omega (arith, rises.0), rises.1)

at_least : (at : ℕ) (ps : Pairs) (k : ℕ) (d : ℕ × Instr) → Rises at ps → k < length ps → at ≤ (slice_index_or ps k d).0
at_least at [] k d rises lt = absurd (omega arith)
at_least at (p ∷ ps) zero d rises lt = rises.0
at_least at (p ∷ ps) (suc k) d rises lt = omega (arith, rises.0, at_least p.0 ps k d rises.1 (omega arith))

offsets_rise : (at : ℕ) (ps : Pairs) → Rises at ps → IsNonDecreasingBy (λ p. p.0) ps
offsets_rise at [] rises i j d le lt = absurd (omega arith)
offsets_rise at (p ∷ ps) rises zero zero d le lt = omega arith
offsets_rise at (p ∷ ps) rises zero (suc j) d le lt = at_least p.0 ps j d rises.1 (omega arith)
offsets_rise at (p ∷ ps) rises (suc i) zero d le lt = absurd (omega arith)
offsets_rise at (p ∷ ps) rises (suc i) (suc j) d le lt = offsets_rise p.0 ps rises.1 i j d (omega arith) (omega arith)

one_more : (pc len : ℕ) (i : Instr) (found : Checked Pairs) → IfOk found (Rises (pc + len)) → IfOk (found >>= λ is. Ok ((pc, i) ∷ is)) (Rises pc)
one_more pc len i (Ok is) rises = (omega arith, rises_below pc (pc + len) is (omega arith) rises)
one_more pc len i (Err fault) rises = tt

module _ (major : ℕ) (pool : List Const) (end : ℕ) (cut : Bool) where
  found_rises : (at most pc : ℕ) (bytes : List ℕ) → IfOk (instrs_from major pool end cut at most pc bytes) (Rises pc)
  found_rises at zero pc bytes = tt
  found_rises at (suc most) pc [] = elim cut as (λ v. IfOk (if v then Err (Truncated end) else Ok []) (Rises pc)) [ true ↦ tt | false ↦ tt ]
  found_rises at (suc most) pc (b ∷ bytes) =
      let len : List ℕ → ℕ = λ rest. length (b ∷ bytes) - length rest in
      elim (instr_of major pool end cut at pc (b ∷ bytes)) as (λ v. IfOk (v >>= λ i. instrs_from major pool end cut (at + len i.1) most (pc + len i.1) i.1 >>= λ is. Ok ((pc, i.0) ∷ is)) (Rises pc)) [
        | Ok i ↦ one_more pc (len i.1) i.0 (instrs_from major pool end cut (at + len i.1) most (pc + len i.1) i.1) (found_rises (at + len i.1) most (pc + len i.1) i.1)
        | Err fault ↦ tt
      ]

  -- one more was read
  pub next : (at most pc : ℕ) (read more : Pairs) (i : Instr) (rest behind : List ℕ) → 0 < length rest → instr_of major pool end cut at pc rest ≡ Ok (i, behind) → more ≡ read ++ (pc, i) ∷ []
      → then_found read (instrs_from major pool end cut at (suc most) pc rest) ≡ then_found more (instrs_from major pool end cut (at + (length rest - length behind)) most (pc + (length rest - length behind)) behind)
  next at most pc read more i [] behind some e all = absurd (omega arith)
  next at most pc read more i (b ∷ rest) behind some e all =
      let len : ℕ = length (b ∷ rest) - length behind in
      rw (e, all) (then-cons read (pc, i) (instrs_from major pool end cut (at + len) most (pc + len) behind))

  fails : (at most pc : ℕ) (read : Pairs) (rest : List ℕ) (fault : ReadClassFault) → 0 < length rest → instr_of major pool end cut at pc rest ≡ Err fault
      → then_found read (instrs_from major pool end cut at (suc most) pc rest) ≡ Err fault
  fails at most pc read [] fault some e = absurd (omega arith)
  fails at most pc read (b ∷ rest) fault some e = rw e refl

  -- the next one was not read
  pub fails_there : (at most pc : ℕ) (read : Pairs) (rest : List ℕ) (whole : Checked Pairs) (fault : ReadClassFault) → 0 < length rest → whole ≡ then_found read (instrs_from major pool end cut at (suc most) pc rest)
      → Tells fault (instr_of major pool end cut at pc rest) → Tells fault whole
  fails_there at most pc read rest whole fault some is (inl memory) = inl memory
  fails_there at most pc read rest whole fault some is (inr e) = inr (is ∙ fails at most pc read rest fault some e)

-- the offsets of a code's instructions rise
pub rising : (major : ℕ) (pool : List Const) (end len : ℕ) (bytes : List ℕ) (ps : Pairs) → instrs major pool end len bytes ≡ Ok ps → IsNonDecreasingBy (λ p. p.0) ps
rising major pool end len bytes ps e = offsets_rise 0 ps (rw e at (found_rises major pool end (nat_lt (length bytes) len) (offset end bytes) len 0 (take len bytes)))

-- none was read
pub begun : (major : ℕ) (pool : List Const) (end len at : ℕ) (code bytes : List ℕ) → at ≡ offset end bytes → code ≡ take len bytes
    → instrs major pool end len bytes ≡ then_found [] (instrs_from major pool end (nat_lt (length bytes) len) (at + (length code - length code)) (len - 0) (length code - length code) code)
begun major pool end len at code bytes place front =
    let none : length code - length code ≡ 0 = omega arith in
    let here : at + 0 ≡ offset end bytes = omega arith in
    rw (none, here, sub-zero len, front) (then-nil (instrs major pool end len bytes))

-- all that are there were read, of a code that the file cuts off
pub done_cut : (major : ℕ) (pool : List Const) (end : ℕ) (cut : Bool) (at most pc : ℕ) (read : Pairs) (rest : List ℕ) → cut ≡ true → 0 < most → length rest ≡ 0 → then_found read (instrs_from major pool end cut at most pc rest) ≡ Err (Truncated end)
done_cut major pool end cut at zero pc read rest is some none = absurd (omega arith)
done_cut major pool end cut at (suc most) pc read [] is some none = rw is refl
done_cut major pool end cut at (suc most) pc read (b ∷ rest) is some none = absurd (omega arith)

-- and of a whole one
pub done : (major : ℕ) (pool : List Const) (end : ℕ) (cut : Bool) (at most pc : ℕ) (read : Pairs) (rest : List ℕ) → cut ≡ false → length rest ≡ 0 → then_found read (instrs_from major pool end cut at most pc rest) ≡ Ok read
done major pool end cut at zero pc read rest is none = ap (λ (all : Pairs). Ok all) (append-nil read)
done major pool end cut at (suc most) pc read [] is none = rw is (ap (λ (all : Pairs). Ok all) (append-nil read))
done major pool end cut at (suc most) pc read (b ∷ rest) is none = absurd (omega arith)

-- the bytes of a code that are there
pub length-front : (n : ℕ) (code bytes : List ℕ) → code ≡ take n bytes → (length code ≤ n) × (length code ≤ length bytes)
length-front n code bytes is =
    let len : length code ≡ min n (length bytes) = ap length is ∙ length-take n bytes in
    (omega arith, omega arith)

pub All-one : {A : Type 0} (P : A → Type 0) (x : A) → P x → All P (x ∷ [])
All-one P x one = All-cons P x [] one (All-nil P)

-- what holds of each element holds of the one that a search finds
IfSome-find : {A : Type 0} (P : A → Type 0) (test : A → Bool) (xs : List A) → All P xs → IfSome (find test xs) P
IfSome-find P test [] all = tt
IfSome-find P test (x ∷ xs) all = elim (test x) as (λ v. IfSome (cond v (Some x) (find test xs)) P) [ true ↦ all 0 x (omega arith) | false ↦ IfSome-find P test xs (λ k d lt. all (suc k) d (omega arith)) ]

offset_of : (len pc : ℕ) (found : Option (ℕ × Instr)) → IfSome found (λ p. p.0 < len) → Some pc ≡ option_map (λ p. p.0) found → pc < len
offset_of len pc (Some p) lt e = let same : pc ≡ p.0 = cc in omega arith
offset_of len pc None lt e = absurd (cc)

-- where a code leads astray is within it
pub astray_within : (len pc : ℕ) (list : Pairs) → All (λ p. p.0 < len) list → Some pc ≡ option_map (λ p. p.0) (astray list) → pc < len
astray_within len pc list all e = offset_of len pc (astray list) (IfSome-find (λ (p : ℕ × Instr). p.0 < len) (λ p. not (lands list p)) list all) e
