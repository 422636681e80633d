-- The type check, place by place.
use Rattle.std.proofs.Common.{◌≡◌, ◌==◌, ℕ, List, [], ◌∷◌, length, Option, Some, None, Bool, true, false, ◌&&◌, nat_le, eqb, if◌then◌else◌, refl, sym, subst, ◌∙◌, arith, ◌⊎◌, inl, inr}
use Rattle.first_form.specs.declared.Instr.{Instr}
use Rattle.first_form.specs.declared.Instr.TheVariants.{IntConst, IntArith, GetStatic, InvokeVirtual, Return}
use Rattle.first_form.specs.declared.Kind.{Kind}
use Rattle.first_form.specs.declared.Kind.TheVariants.{Int, Stream}
use Rattle.first_form.specs.Instructions.{fits, kinds_after, at_pc, NamesKnown, out_entry, println_entry}
use Rattle.std.proofs.lemmas.Bool.{eqb-true}
use Rattle.std.proofs.lemmas.Option.{cond_some}
use Rattle.first_form_read.proofs.Accepted.{and_true}
use Rattle.first_form_read.proofs.Looked.{at_pc_cases}

-- what is left to check, behind a return or not
abbrev pub fits_left : Bool → List Kind → List (ℕ × Instr) → Bool
fits_left true stack rest = length rest == 0
fits_left false stack rest = fits 3 stack rest

none_left : (rest : List (ℕ × Instr)) → (length rest == 0) ≡ true → rest ≡ []
none_left [] e = refl
none_left (x ∷ rest) e = absurd (omega (arith, eqb-true (length (x ∷ rest)) 0 e))

-- what follows the stack that an instruction leaves
after_fits : (most : ℕ) (r : Option (List Kind)) (rest : List (ℕ × Instr))
    → (elim r [ None ↦ false | Some after ↦ nat_le (length after) most && fits most after rest ]) ≡ true
    → (after : List Kind) × (r ≡ Some after) × (fits most after rest ≡ true)
after_fits most None rest e = absurd cc
after_fits most (Some after) rest e = (after, refl, (and_true (nat_le (length after) most) (fits most after rest) e).1)

-- an instruction that fits is the return, which is the last, or it leaves a stack on which the rest fits
fits_cases : (most : ℕ) (stack : List Kind) (at : ℕ) (i : Instr) (rest : List (ℕ × Instr)) → fits most stack ((at, i) ∷ rest) ≡ true
    → ((i ≡ Return) × (rest ≡ [])) ⊎ ((after : List Kind) × (kinds_after i stack ≡ Some after) × (fits most after rest ≡ true))
fits_cases most stack at Return rest e = inl (refl, none_left rest e)
fits_cases most stack at (IntConst n) rest e = inr (after_fits most (kinds_after (IntConst n) stack) rest e)
fits_cases most stack at (IntArith op) rest e = inr (after_fits most (kinds_after (IntArith op) stack) rest e)
fits_cases most stack at (GetStatic n) rest e = inr (after_fits most (kinds_after (GetStatic n) stack) rest e)
fits_cases most stack at (InvokeVirtual n) rest e = inr (after_fits most (kinds_after (InvokeVirtual n) stack) rest e)

entry_is : (n entry : ℕ) (stack after : List Kind) → (if n == entry then Some stack else None) ≡ Some after → n ≡ entry
entry_is n entry stack after e = eqb-true n entry (cond_some (eqb n entry) stack after e).0

-- one that leaves a stack names an entry that it may
names_after : (i : Instr) (stack after : List Kind) → kinds_after i stack ≡ Some after → NamesKnown i
names_after (IntConst n) stack after e = tt
names_after (IntArith op) stack after e = tt
names_after Return stack after e = tt
names_after (GetStatic n) stack after e = entry_is n out_entry (Stream ∷ stack) after e
names_after (InvokeVirtual n) [] after e = absurd cc
names_after (InvokeVirtual n) (Stream ∷ stack) after e = absurd cc
names_after (InvokeVirtual n) (Int ∷ []) after e = absurd cc
names_after (InvokeVirtual n) (Int ∷ Int ∷ stack) after e = absurd cc
names_after (InvokeVirtual n) (Int ∷ Stream ∷ stack) after e = entry_is n println_entry stack after e

-- so does each instruction of a code that fits
pub names_known : (most : ℕ) (stack : List Kind) (l : List (ℕ × Instr)) (pc : ℕ) (i : Instr) → fits most stack l ≡ true → at_pc pc l ≡ Some i → NamesKnown i
names_known most stack [] pc i e found = absurd cc
names_known most stack ((at, j) ∷ rest) pc i e found =
    elim (fits_cases most stack at j rest e) [
      | inl last ↦ elim (at_pc_cases pc at j i rest found) [
        | inl here ↦ subst NamesKnown (sym last.0 ∙ here.1) tt
        | inr later ↦ absurd (let none : None ≡ Some i = subst (λ (w : List (ℕ × Instr)). at_pc pc w ≡ Some i) last.1 later in cc)
      ]
      | inr on ↦ elim (at_pc_cases pc at j i rest found) [
        | inl here ↦ subst NamesKnown here.1 (names_after j stack on.0 on.1)
        | inr later ↦ names_known most on.0 rest pc i on.2 later
      ]
    ]
