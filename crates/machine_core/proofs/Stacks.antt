-- A stack, its last entry first.
use Rattle.std.proofs.Common.{ap, ◌∙◌, ◌≡◌, ◌+◌, List, [], ◌∷◌, ◌++◌, length, reverse, Option, Some, None, vec_len, refl, arith}
use Rattle.std.specs.Prelude.{MatchOption, Vec}
use Rattle.std.specs.declared.alloc.Global.{Global}
use Rattle.std.proofs.lemmas.List.{reverse-append}
use Rattle.machine_core.specs.declared.frame.JavaFrame.{JavaFrame}
use Rattle.machine_core.specs.declared.frame.Frame.{Frame}
use Rattle.machine_core.specs.declared.frame.Frame.TheVariants.{Java}
use Rattle.machine_core.specs.declared.operands.Done.{Done}
use Rattle.machine_core.specs.declared.operands.Done.TheVariants.{Goes, Prints, Leaves, Misfit}
use Rattle.machine_core.specs.Frames.{left_by}

pub reverse_one : {A : Type 0} (xs : List A) (x : A) → reverse (xs ++ x ∷ []) ≡ x ∷ reverse xs
reverse_one xs x = reverse-append xs (x ∷ [])

pub two_off : {A : Type 0} (s r q : List A) (x y : A) → s ≡ r ++ x ∷ [] → r ≡ q ++ y ∷ [] → reverse s ≡ x ∷ y ∷ reverse q
two_off {A = A} s r q x y e f = rw (e, f) (reverse_one (q ++ y ∷ []) x ∙ ap (λ (w : List A). x ∷ w) (reverse_one q y))

no_items : {A : Type 0} (xs : List A) → length xs ≡ 0 → xs ≡ []
no_items [] e = refl
no_items (x ∷ xs) e = absurd (omega arith)

-- nothing is popped of an empty stack alone
pub popped_none : {A : Type 0} (old new : Vec A Global) (top : Option A) → MatchOption top ((vec_len old ≡ 0) × (vec_len new ≡ 0)) (λ _. vec_len new + 1 ≡ vec_len old) → top ≡ None → old.items ≡ []
popped_none old new None h e = no_items old.items (omega (arith, h.0, old.ok.0))
popped_none old new (Some x) h e = absurd cc

-- a frame that is not left comes back on top
pub stays_on : (done : Done) (rest : List Frame) (g : JavaFrame) → (done ≡ Leaves → ⊥) → rest ++ Java g ∷ [] ≡ left_by done rest g
stays_on Goes rest g h = refl
stays_on (Prints v) rest g h = refl
stays_on Misfit rest g h = refl
stays_on Leaves rest g h = absurd (h refl)
