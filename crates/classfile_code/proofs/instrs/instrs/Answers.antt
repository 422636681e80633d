use Rattle.std.proofs.Common.{◌≡◌, ◌+◌, ◌-◌, ◌<◌, ◌≤◌, ◌∙◌, ℕ, suc, [], ◌∷◌, ◌++◌, length, length-append, arith, true, false, inr}
use Rattle.std.specs.Prelude.{nat_lt}
use Rattle.std.proofs.lemmas.Bool.Decides.{nat_tests}
use Rattle.std.proofs.lemmas.List.Elements.{All-append, All-nil}
use Rattle.std.proofs.lemmas.Result.{err_from_is_err_and}
use Rattle.class_code.specs.declared.instr.Instr.{Instr}
use Rattle.classfile_code.proofs.CodeSteps.{begun, next, fails_there, done_cut, done, rising, length-front, All-one}
use Rattle.classfile_code.proofs.instrs.instrs.Goals as goal

pub code-init : goal.code-init
code-init c = rw (c.from_vec-list.ensures ∙ c.in_ok-with_capacity.ensures.items) (record {
  found = begun c.args.major c.args.pool.now c.args.end c.args.len c.offset-at.result c.front-code.result.now c.args.bytes.now c.offset-at.ensures c.front-code.ensures;
  within = All-nil (λ (p : ℕ × Instr). p.0 < length c.front-code.result.now);
  shorter = omega arith;
})

pub returns-in_err-instr-clause-found : goal.returns-in_err-instr-clause-found
returns-in_err-instr-clause-found c =
    let code = c.front-code.result.now in
    let rest = c.code.rest.now in
    let pc : ℕ = length code - length rest in
    let fuel : ℕ = c.args.len - (length c.code.list + 1) in
    let some : 0 < length rest = grind (arith, nat_tests, c.code-test.ensures) in
    let room : length code ≤ c.args.len = (length-front c.args.len code c.args.bytes.now c.front-code.ensures).0 in
    let left : c.args.len - length c.code.list ≡ suc fuel = omega (arith, c.code.invariant.shorter) in
    let p = err_from_is_err_and c.from_residual-in_err-instr.result c.from_residual-in_err-instr.ensures.1 in
    rw (p.1, p.2) (fails_there c.args.major c.args.pool.now c.args.end (nat_lt (length c.args.bytes.now) c.args.len) (c.offset-at.result + pc) fuel pc c.code.list rest _ c.in_err-instr.field-0.0 some (rw left at c.code.invariant.found) c.in_err-instr.ensures.found)

pub code-preserved : goal.code-preserved
code-preserved c =
    let code = c.front-code.result.now in
    let rest = c.code.rest.now in
    let behind = c.in_ok-instr.behind.now in
    let more = c.push.new.self in
    let pc : ℕ = length code - length rest in
    let at : ℕ = c.offset-at.result + pc in
    let some : 0 < length rest = grind (arith, nat_tests, c.code-test.ensures) in
    let all : more ≡ c.code.list ++ (pc, c.in_ok-instr.instr) ∷ [] = c.in_ok-push.ensures.ok in
    let one : length more ≡ length c.code.list + 1 = rw all (omega (arith, length-append {A = ℕ × Instr})) in
    let room : length code ≤ c.args.len = (length-front c.args.len code c.args.bytes.now c.front-code.ensures).0 in
    let left : c.args.len - length c.code.list ≡ suc (c.args.len - length more) = omega (arith, c.code.invariant.shorter) in
    let here : at + (length rest - length behind) ≡ c.offset-at.result + (length code - length behind) = omega (arith, c.code.invariant.shorter, c.in_ok-instr.ensures.shorter) in
    let there : pc + (length rest - length behind) ≡ length code - length behind = omega (arith, c.code.invariant.shorter, c.in_ok-instr.ensures.shorter) in
    let step = next c.args.major c.args.pool.now c.args.end (nat_lt (length c.args.bytes.now) c.args.len) at (c.args.len - length more) pc c.code.list more c.in_ok-instr.instr rest behind some c.in_ok-instr.ensures.found all in
    record {
      found = (rw left at c.code.invariant.found) ∙ (rw (here, there) at step);
      within = rw all (All-append (λ (p : ℕ × Instr). p.0 < length code) c.code.list ((pc, c.in_ok-instr.instr) ∷ []) c.code.invariant.within (All-one (λ (p : ℕ × Instr). p.0 < length code) (pc, c.in_ok-instr.instr) (omega (arith, c.code.invariant.shorter))));
      shorter = omega (arith, c.code.invariant.shorter, c.in_ok-instr.ensures.shorter);
    }

pub invariant_of-result : goal.invariant_of-result
invariant_of-result c =
    let cut = nat_lt (length c.args.bytes.now) c.args.len in
    let rest = c.code.rest.now in
    let pc : ℕ = length c.front-code.result.now - length rest in
    let none : length rest ≡ 0 = grind (arith, nat_tests, c.code-test.ensures) in
    let whole : cut ≡ false = grind (arith, nat_tests) in
    rising c.args.major c.args.pool.now c.args.end c.args.len c.args.bytes.now c.code.list
    (c.code.invariant.found ∙ done c.args.major c.args.pool.now c.args.end cut (c.offset-at.result + pc) (c.args.len - length c.code.list) pc c.code.list rest whole none)

pub returns-then-cut-clause-found : goal.returns-then-cut-clause-found
returns-then-cut-clause-found c =
    let cut = nat_lt (length c.args.bytes.now) c.args.len in
    let code = c.front-code.result.now in
    let rest = c.code.rest.now in
    let pc : ℕ = length code - length rest in
    let none : length rest ≡ 0 = grind (arith, nat_tests, c.code-test.ensures) in
    let short : cut ≡ true = grind (arith, nat_tests) in
    let room : length code ≤ length c.args.bytes.now = (length-front c.args.len code c.args.bytes.now c.front-code.ensures).1 in
    let some : 0 < c.args.len - length c.code.list = omega (arith, c.code.invariant.shorter, c.if-cut.true) in
    inr (c.code.invariant.found ∙ done_cut c.args.major c.args.pool.now c.args.end cut (c.offset-at.result + pc) (c.args.len - length c.code.list) pc c.code.list rest short some none)
