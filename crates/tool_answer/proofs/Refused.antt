-- A refused call does nothing, and a retransformation asks those alone that are capable of it.
use Rattle.std.proofs.Common.{◌≡◌, ◌≤◌, Bool, true, false, cond, List, [], ◌∷◌, Option, Some, None, refl, sym, ap, ◌∙◌}
use Rattle.std.specs.Prelude.{nat_le}
use Rattle.std.specs.List.{AllByRecursion}
use Rattle.std.proofs.lemmas.Bool.{leb-true}
use Rattle.ti_codes.specs.declared.error.ErrorCode.{ErrorCode}
use Rattle.transform_chain.specs.declared.active.Active.{Active}
use Rattle.transform_chain.specs.declared.folded.Folded.{Folded}
use Rattle.transform_chain.specs.Groups.{from_group, up_to_group}
use Rattle.transform_chain.specs.Turns.{Does, folded, turns_told}
use Rattle.machine_steps.specs.World.{Answer}
use Rattle.machine_steps.specs.Calls.{refusal_of, refused, taken}
use Rattle.tool_answer.specs.Laws.{RefusedDoesNothing, AsksCapable}

by_refusal : (refusal : Option ErrorCode) (answer : Answer) (code : ErrorCode) → refusal ≡ Some code
    → elim refusal [ Some own ↦ refused own | None ↦ answer ] ≡ refused code
by_refusal (Some own) answer code is = let same : own ≡ code = cc in ap refused same
by_refusal None answer code is = absurd cc

pub refused_does_nothing : RefusedDoesNothing
refused_does_nothing w s actor c code is =
    by_refusal (refusal_of w s actor c) (w.answers (taken c s) c.pending.environment c.pending.call actor) code is

-- ---- those that are capable

above : (ts : List (Active Does)) → AllByRecursion (λ t. 3 ≤ t.group) (from_group 3 ts)
above [] = tt
above (t ∷ ts) = by (nat_le 3 t.group) refl (above ts)
  where
    by : (is : Bool) → nat_le 3 t.group ≡ is → AllByRecursion (λ u. 3 ≤ u.group) (from_group 3 ts)
        → AllByRecursion (λ u. 3 ≤ u.group) (cond is (t ∷ from_group 3 ts) (from_group 3 ts))
    by true is all = (leb-true 3 t.group is, all)
    by false is all = all

twice : (ts : List (Active Does)) → from_group 3 (from_group 3 ts) ≡ from_group 3 ts
twice [] = refl
twice (t ∷ ts) = by (nat_le 3 t.group) refl (twice ts)
  where
    by : (is : Bool) → nat_le 3 t.group ≡ is → from_group 3 (from_group 3 ts) ≡ from_group 3 ts
        → from_group 3 (cond is (t ∷ from_group 3 ts) (from_group 3 ts)) ≡ cond is (t ∷ from_group 3 ts) (from_group 3 ts)
    by true is same =
        ap (λ (b : Bool). cond b (t ∷ from_group 3 (from_group 3 ts)) (from_group 3 (from_group 3 ts))) is ∙ ap (λ us. t ∷ us) same
    by false is same = same

pub asks_capable : AsksCapable
asks_capable = record {
  alone = λ class ts bytes.
      ap (λ (asked : List (Active Does)).
      let f : Folded = record { left = folded class (up_to_group 2 asked) bytes; made = folded class asked bytes; turns = turns_told class asked bytes } in f)
      (sym (twice ts));
  capable = above;
}
