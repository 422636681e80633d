use Rattle.std.proofs.Common.{◌≡◌, Bool, Result, Ok, Err, sym, ap, ◌∙◌, subst, rules, arith}
use Rattle.std.specs.Prelude.{IfErr, IsErrAnd}
use Rattle.std.proofs.lemmas.Grind.{common_steps}
use Rattle.check_run.specs.declared.status.Status.{Status}
use Rattle.check_run.proofs.FilesTold.{tells_next, tells_first, and_yes, and_no}
use Rattle.check_run.proofs.files.tell_files.Goals as goal
use Rattle.check_run.proofs.files.tell_files.Goals.{then-all, else-all}

pub loop-name-preserved : goal.loop-name-preserved
loop-name-preserved g c =
    let more = tells_next _ _ c.args.names.now c.loop-name.name-index c.name-item.result c.as_str.result.now _ _ _ _ _ _ c.loop-name.all c.in_ok-accepted.accepted c.if-all.all c.loop-name.invariant.tells c.loop-name.invariant.same c.in_ok-accepted.ensures.line c.as_str.ensures.value c.loop-name-test.true c.name-item.is in
    elim c.if-all.branch [
      | then-all w ↦ record {
        same = first_of (search rules, grind (arith, common_steps));
        good = first_of (search rules, grind (arith, common_steps));
        tells = more (and_yes c.loop-name.all c.in_ok-accepted.accepted c.if-all.all w.if-all.true w.all-is);
      }
      | else-all w ↦ record {
        same = first_of (search rules, grind (arith, common_steps));
        good = first_of (search rules, grind (arith, common_steps));
        tells = more (and_no c.loop-name.all c.in_ok-accepted.accepted c.if-all.all w.if-all.false (w.all-is ∙ w.if-all.false));
      }
    ]

-- what holds of a status holds of a result that has it
by_status : (P : Status → Type 0) (r : Result Bool Status) (status : Status) → IsErrAnd r (λ s. s ≡ status) → P status → IfErr r P
by_status P (Ok all) status same p = tt
by_status P (Err s) status same p = subst P (sym same) p

pub returns-in_err-accepted-clause-memory : goal.returns-in_err-accepted-clause-memory
returns-in_err-accepted-clause-memory g c =
    by_status _ _ c.in_err-accepted.field-0.0 c.from_residual.ensures.1 (λ memory.
    tells_first _ c.args.names.now c.loop-name.name-index _ _ _ _ _ _ c.loop-name.all c.loop-name.invariant.tells c.loop-name-test.true c.in_err-accepted.ensures.risen (ap g.W.Write.contents (c.in_err-accepted.ensures.memory memory)))
