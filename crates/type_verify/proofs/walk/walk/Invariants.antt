use Rattle.std.proofs.Common.{◌≡◌, ℕ, ◌≤◌, Some}
use Rattle.std.specs.Prelude.{slice_get}
use Rattle.std.specs.Option.{ForSome}
use Rattle.class_code.specs.declared.instr.Instr.{Instr}
use Rattle.type_verify.specs.Checkers.{checked_of}
use Rattle.type_verify.proofs.Walked.{IsWalked}
use Rattle.type_verify.proofs.walk.walk.Given as goal

abbrev pub invariant-loop-place : goal.invariant-loop-place
invariant-loop-place l = record {
  walked : IsWalked (checked_of l.checker) l.place l.state;
  handlers : l.covering.handlers ≡ l.checker.handlers.now;
  reached : ForSome l.covering.reached (λ reached. (k : ℕ) (p : ℕ × Instr) → l.place ≤ k → slice_get l.checker.method.instrs.now k ≡ Some p → reached ≤ p.0);
}
