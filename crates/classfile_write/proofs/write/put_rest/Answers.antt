use Rattle.std.proofs.Common.{◌≡◌, ℕ, List, ◌++◌, append_assoc, refl}
use Rattle.std.proofs.lemmas.Result.{on_ok_weaker}
use Rattle.classfile_write.proofs.Fitting.{tree_fits}
use Rattle.classfile_write.proofs.write.put_rest.Goals as goal

pub put_counted-requires : goal.put_counted-requires
put_counted-requires c = rw c.as_slice.ensures (tree_fits _ c.tree.invariant).interfaces

pub put_counted-requires-2 : goal.put_counted-requires-2
put_counted-requires-2 c = rw c.as_slice-2.ensures (tree_fits _ c.tree.invariant).fields

pub put_counted-requires-3 : goal.put_counted-requires-3
put_counted-requires-3 c = rw c.as_slice-3.ensures (tree_fits _ c.tree.invariant).methods

pub put_counted-requires-4 : goal.put_counted-requires-4
put_counted-requires-4 c = rw c.as_slice-4.ensures (tree_fits _ c.tree.invariant).attrs

-- seven parts, one behind the other
in_a_row : (o o1 o2 o3 o4 o5 o6 o7 a b c d e f g : List ℕ) → o1 ≡ o ++ a → o2 ≡ o1 ++ b → o3 ≡ o2 ++ c → o4 ≡ o3 ++ d → o5 ≡ o4 ++ e → o6 ≡ o5 ++ f → o7 ≡ o6 ++ g
    → o7 ≡ o ++ (a ++ (b ++ (c ++ (d ++ (e ++ (f ++ g))))))
in_a_row o o1 o2 o3 o4 o5 o6 o7 a b c d e f g e1 e2 e3 e4 e5 e6 e7 = rw (e7, e6, e5, e4, e3, e2, e1) (simp append_assoc refl)

pub returns : goal.returns
returns c =
    let row = in_a_row _ _ _ _ _ _ _ _ _ _ _ _ _ _ _ c.in_ok-put_u2.ensures c.in_ok-put_u2-2.ensures c.in_ok-put_u2-3.ensures c.in_ok-put_counted.ensures c.in_ok-put_counted-2.ensures c.in_ok-put_counted-3.ensures in
    rw (← c.tree.view_is, ← c.as_slice.ensures, ← c.as_slice-2.ensures, ← c.as_slice-3.ensures, ← c.as_slice-4.ensures) (on_ok_weaker c.put_counted-4.result row c.put_counted-4.ensures)
