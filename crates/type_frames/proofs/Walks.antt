-- A walk over superclasses, step by step, and the chain of them: whether a class on the chain passes a test.
use Rattle.std.proofs.Common.{◌≡◌, ℕ, zero, suc, ◌∙◌, ◌-◌, ◌+◌, ◌<◌, ◌≤◌, Bool, true, false, [], Option, Some, None, refl, sym, ap, arith}
use Rattle.std.specs.Prelude.{◌||◌}
use Rattle.std.specs.List.{list_any}
use Rattle.jv_names.specs.Names.{Name}
use Rattle.type_frames.specs.Hierarchies.{Known, superclass, chain_within}

or_is_true : (p q : Bool) → p ≡ true → (p || q) ≡ true
or_is_true true q e = refl
or_is_true false q e = absurd cc

or_is : (p q : Bool) → p ≡ false → (p || q) ≡ q
or_is true q e = absurd cc
or_is false q e = refl

or_none : (p : Bool) → (p || false) ≡ p
or_none true = refl
or_none false = refl

-- the name itself is on its chain
pub chain_found : (test : Name → Bool) (h : Known) (n : ℕ) (name : Name) → test name ≡ true → list_any test (chain_within h n name) ≡ true
chain_found test h zero name e = or_is_true (test name) _ e
chain_found test h (suc n) name e = or_is_true (test name) _ e

above : (test : Name → Bool) (h : Known) (n : ℕ) (name : Name) (parent : Option Name) → superclass h name ≡ parent
    → list_any test (elim (superclass h name) [ None ↦ [] | Some p ↦ chain_within h n p ]) ≡ list_any test (elim parent [ None ↦ [] | Some p ↦ chain_within h n p ])
above test h n name parent e = ap (λ (x : Option Name). list_any test (elim x [ None ↦ [] | Some p ↦ chain_within h n p ])) e

step : (test : Name → Bool) (h : Known) (n : ℕ) (name parent : Name) → test name ≡ false → superclass h name ≡ Some parent → list_any test (chain_within h (suc n) name) ≡ list_any test (chain_within h n parent)
step test h n name parent apart e = or_is (test name) _ apart ∙ above test h n name (Some parent) e

-- one step upwards from a class that doesn't pass
pub chain_more : (test : Name → Bool) (h : Known) (end i : ℕ) (name parent : Name) → i < end → test name ≡ false → superclass h name ≡ Some parent
    → list_any test (chain_within h (end - (i + 1)) parent) ≡ list_any test (chain_within h (end - i) name)
chain_more test h end i name parent lt apart e =
    let left : end - i ≡ suc (end - (i + 1)) = omega arith in
    sym (ap (λ (n : ℕ). list_any test (chain_within h n name)) left ∙ step test h (end - (i + 1)) name parent apart e)

-- where there is no superclass the chain ends
pub chain_over : (test : Name → Bool) (h : Known) (n : ℕ) (name : Name) → test name ≡ false → superclass h name ≡ None → list_any test (chain_within h n name) ≡ false
chain_over test h zero name apart e = or_is (test name) _ apart
chain_over test h (suc n) name apart e = or_is (test name) _ apart ∙ above test h n name None e

-- the last class of a chain
pub chain_last : (test : Name → Bool) (h : Known) (end i : ℕ) (name : Name) → end ≤ i → list_any test (chain_within h (end - i) name) ≡ test name
chain_last test h end i name le =
    let none : end - i ≡ 0 = omega arith in
    ap (λ (n : ℕ). list_any test (chain_within h n name)) none ∙ or_none (test name)
