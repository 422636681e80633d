-- The instruction at an offset.
use Rattle.std.proofs.Common.{◌≡◌, ℕ, zero, suc, ◌+◌, ◌-◌, ◌≤◌, ◌<◌, List, [], ◌∷◌, length, Option, Some, None, true, false, eqb, eq-eqb, cond, refl, ap, sym, subst, ◌∙◌, arith, ◌⊎◌, inl, inr}
use Rattle.std.specs.Prelude.{slice_get, find, option_map}
use Rattle.std.specs.Option.{option_flatten}
use Rattle.std.proofs.lemmas.Bool.{eqb-true}
use Rattle.std.proofs.lemmas.Bool.Decides.{nat_tests}
use Rattle.ti_ids.specs.Maybe.{◌>>=◌}
use Rattle.first_form.specs.declared.Instr.{Instr}
use Rattle.first_form.specs.Instructions.{first, size, listing_from, at_pc}
use Rattle.first_form_read.specs.Places.{listed_from}

-- what is at an offset, behind one more instruction
at_pc-cons : (pc at : ℕ) (i : Instr) (rest : List (ℕ × Instr)) → at_pc pc ((at, i) ∷ rest) ≡ cond (eqb at pc) (Some i) (at_pc pc rest)
at_pc-cons pc at i rest = elim (eqb at pc) as (λ b. option_map (λ e. e.1) (cond b (Some (at, i)) (find (λ e. eqb e.0 pc) rest)) ≡ cond b (Some i) (at_pc pc rest)) [ true ↦ refl | false ↦ refl ]

not_before : (pc at : ℕ) (ps : List (Option Instr)) → pc < at → at_pc pc (listed_from at ps) ≡ None
not_before pc at [] h = refl
not_before pc at (None ∷ ps) h = not_before pc (at + 1) ps (omega arith)
not_before pc at (Some i ∷ ps) h =
    let ne : eqb at pc ≡ false = grind (arith, nat_tests) in
    at_pc-cons pc at i (listed_from (at + 1) ps) ∙ rw ne (not_before pc (at + 1) ps (omega arith))

-- it is the one at the place of that number
at_pc-listed_from : (pc at k : ℕ) (ps : List (Option Instr)) → at + k ≡ pc → at_pc pc (listed_from at ps) ≡ option_flatten (slice_get ps k)
at_pc-listed_from pc at k [] e = refl
at_pc-listed_from pc at zero (None ∷ ps) e = not_before pc (at + 1) ps (omega arith)
at_pc-listed_from pc at (suc k) (None ∷ ps) e = at_pc-listed_from pc (at + 1) k ps (omega arith)
at_pc-listed_from pc at zero (Some i ∷ ps) e =
    let same : eqb at pc ≡ true = eq-eqb at pc (omega arith) in
    at_pc-cons pc at i (listed_from (at + 1) ps) ∙ rw same refl
at_pc-listed_from pc at (suc k) (Some i ∷ ps) e =
    let ne : eqb at pc ≡ false = grind (arith, nat_tests) in
    at_pc-cons pc at i (listed_from (at + 1) ps) ∙ rw ne (at_pc-listed_from pc (at + 1) k ps (omega arith))

pub at_pc-listed : (pc : ℕ) (ps : List (Option Instr)) → at_pc pc (listed_from 0 ps) ≡ option_flatten (slice_get ps pc)
at_pc-listed pc ps = at_pc-listed_from pc 0 pc ps (omega arith)

-- it is the first, or it is among the rest
pub at_pc_cases : (pc at : ℕ) (i found : Instr) (rest : List (ℕ × Instr)) → at_pc pc ((at, i) ∷ rest) ≡ Some found
    → ((at ≡ pc) × (i ≡ found)) ⊎ (at_pc pc rest ≡ Some found)
at_pc_cases pc at i found rest e =
    let e' : cond (eqb at pc) (Some i) (at_pc pc rest) ≡ Some found = sym (at_pc-cons pc at i rest) ∙ e in
    elim (eqb at pc) as (λ b. eqb at pc ≡ b → cond b (Some i) (at_pc pc rest) ≡ Some found → ((at ≡ pc) × (i ≡ found)) ⊎ (at_pc pc rest ≡ Some found)) [
      | true ↦ λ is h. inl (eqb-true at pc is, cc)
      | false ↦ λ is h. inr h
    ] refl e'

bind_some : {A B : Type 0} (r : Option A) (f : A → Option B) (y : B) → (r >>= f) ≡ Some y → (x : A) × (r ≡ Some x) × (f x ≡ Some y)
bind_some (Some x) f y e = (x, refl, e)
bind_some None f y e = absurd cc

-- the bytes of the one before are all there
operands_within : (n at : ℕ) (bytes : List ℕ) (l : List (ℕ × Instr)) → listing_from n at bytes ≡ Some l → n ≤ length bytes
operands_within zero at bytes l e = omega arith
operands_within (suc n) at [] l e = absurd cc
operands_within (suc n) at (b ∷ bytes) l e = let h = operands_within n (at + 1) bytes l e in omega arith

-- an instruction ends within the code
pub size_within : (n at : ℕ) (bytes : List ℕ) (l : List (ℕ × Instr)) (pc : ℕ) (i : Instr) → listing_from n at bytes ≡ Some l
    → at_pc pc l ≡ Some i → pc + size i ≤ at + length bytes
size_within zero at [] l pc i e found = absurd (let none : at_pc pc [] ≡ Some i = subst (λ (w : List (ℕ × Instr)). at_pc pc w ≡ Some i) (let s : [] ≡ l = cc in sym s) found in cc)
size_within (suc n) at [] l pc i e found = absurd cc
size_within (suc n) at (b ∷ bytes) l pc i e found = let h = size_within n (at + 1) bytes l pc i e found in omega arith
size_within zero at (b ∷ bytes) l pc i e found =
    let f = bind_some (first (b ∷ bytes)) (λ j. listing_from (size j - 1) (at + 1) bytes >>= (λ rest. Some ((at, j) ∷ rest))) l e in
    let r = bind_some (listing_from (size f.0 - 1) (at + 1) bytes) (λ rest. Some ((at, f.0) ∷ rest)) l f.2 in
    let l-is : l ≡ (at, f.0) ∷ r.0 = cc in
    let h = operands_within (size f.0 - 1) (at + 1) bytes r.0 r.1 in
    elim (at_pc_cases pc at f.0 i r.0 (subst (λ (w : List (ℕ × Instr)). at_pc pc w ≡ Some i) l-is found)) [
      | inl same ↦ let s : size f.0 ≡ size i = ap size same.1 in omega arith
      | inr later ↦ let s = size_within (size f.0 - 1) (at + 1) bytes r.0 pc i r.1 later in omega arith
    ]
