-- By groups all transformers of a group are there, in the order that they had, and none of no group.
use Rattle.std.proofs.Common.{◌≡◌, ◌∙◌, ◌≤◌, ℕ, zero, suc, Bool, true, false, cond, List, [], ◌∷◌, ◌++◌, refl, ap, arith, append-nil}
use Rattle.std.specs.Prelude.{◌==◌}
use Rattle.std.specs.List.{AllByRecursion}
use Rattle.std.proofs.lemmas.List.Elements.{filter-append}
use Rattle.transform_chain.specs.declared.active.Active.{Active}
use Rattle.transform_chain.specs.Groups.{of_group, in_groups}
use Rattle.transform_chain.specs.Turns.{Does}
use Rattle.transform_chain.specs.Laws.{GroupsKeep}
use Rattle.transform_chain.proofs.Grouping.{Are, are, all_of_both}

abbrev Ts : Type 0
Ts = List (Active Does)

-- ---- those of a group among those of one group: all, or none

first_by : (n m : ℕ) (is : Bool) → (m == n) ≡ is → (t : Active Does) (ts : Ts) → t.group ≡ m
    → of_group n (t ∷ ts) ≡ cond is (t ∷ of_group n ts) (of_group n ts)
first_by n m is e t ts own = ap (λ (b : Bool). cond b (t ∷ of_group n ts) (of_group n ts)) (ap (λ (g : ℕ). g == n) own ∙ e)

again : (n m : ℕ) (is : Bool) → (m == n) ≡ is → (ts : Ts) → Are m ts → of_group n ts ≡ cond is ts []
again n m true e [] all = refl
again n m true e (t ∷ ts) all = first_by n m true e t ts all.0 ∙ ap (λ (l : Ts). t ∷ l) (again n m true e ts all.1)
again n m false e [] all = refl
again n m false e (t ∷ ts) all = first_by n m false e t ts all.0 ∙ again n m false e ts all.1

-- ---- those of a group among all

abbrev share : ℕ → ℕ → Ts → Ts
share n m ts = cond (m == n) (of_group m ts) []

shared : (n m : ℕ) (ts : Ts) → of_group n (of_group m ts) ≡ share n m ts
shared n m ts = again n m (m == n) refl (of_group m ts) (are m ts)

with_share : (n m : ℕ) (front shares ts : Ts) → of_group n front ≡ shares → of_group n (front ++ of_group m ts) ≡ shares ++ share n m ts
with_share n m front shares ts e =
    filter-append (λ t. t.group == n) front (of_group m ts) ∙ ap (λ (l : Ts). l ++ of_group n (of_group m ts)) e
    ∙ ap (λ (l : Ts). shares ++ l) (shared n m ts)

all_shares : (n : ℕ) (ts : Ts) → of_group n (in_groups ts) ≡ share n 1 ts ++ share n 2 ts ++ share n 3 ts ++ share n 4 ts
all_shares n ts =
    let one = of_group 1 ts in
    let two = one ++ of_group 2 ts in
    let three = two ++ of_group 3 ts in
    let of_two = with_share n 2 one (share n 1 ts) ts (shared n 1 ts) in
    let of_three = with_share n 3 two (share n 1 ts ++ share n 2 ts) ts of_two in
    with_share n 4 three (share n 1 ts ++ share n 2 ts ++ share n 3 ts) ts of_three

twice : (ts : Ts) → ts ++ [] ++ [] ≡ ts
twice ts = append-nil (ts ++ []) ∙ append-nil ts

own_share : (n : ℕ) (ts : Ts) → 1 ≤ n → n ≤ 4 → share n 1 ts ++ share n 2 ts ++ share n 3 ts ++ share n 4 ts ≡ of_group n ts
own_share zero ts least most = absurd (omega (arith, least))
own_share (suc zero) ts least most = twice (of_group 1 ts ++ []) ∙ append-nil (of_group 1 ts)
own_share (suc (suc zero)) ts least most = twice (of_group 2 ts)
own_share (suc (suc (suc zero))) ts least most = append-nil (of_group 3 ts)
own_share (suc (suc (suc (suc zero)))) ts least most = refl
own_share (suc (suc (suc (suc (suc n))))) ts least most = absurd (omega (arith, most))

-- ---- and no others

numbered : (n : ℕ) (ts : Ts) → 1 ≤ n → n ≤ 4 → Are n ts → AllByRecursion (λ t. (1 ≤ t.group) × (t.group ≤ 4)) ts
numbered n [] least most all = tt
numbered n (t ∷ ts) least most all = ((omega (arith, least, all.0), omega (arith, most, all.0)), numbered n ts least most all.1)

no_others : (ts : Ts) → AllByRecursion (λ t. (1 ≤ t.group) × (t.group ≤ 4)) (in_groups ts)
no_others ts =
    let of = λ (n : ℕ) (least : 1 ≤ n) (most : n ≤ 4). numbered n (of_group n ts) least most (are n ts) in
    let one = of 1 (omega arith) (omega arith) in
    let Few = λ (t : Active Does). (1 ≤ t.group) × (t.group ≤ 4) in
    let two = all_of_both Few (of_group 1 ts) (of_group 2 ts) one (of 2 (omega arith) (omega arith)) in
    let three = all_of_both Few (of_group 1 ts ++ of_group 2 ts) (of_group 3 ts) two (of 3 (omega arith) (omega arith)) in
    all_of_both Few (of_group 1 ts ++ of_group 2 ts ++ of_group 3 ts) (of_group 4 ts) three (of 4 (omega arith) (omega arith))

pub groups_keep : GroupsKeep
groups_keep = record {
  kept = λ n ts least most. all_shares n ts ∙ own_share n ts least most;
  no_others = no_others;
}
