use Rattle.std.proofs.Common.{◌≡◌, ◌≤◌, length, subst, arith}
use Rattle.std.proofs.lemmas.Slice.Zip.{AllZip-long}
use Rattle.machine_core.specs.MachineValue.{MachineValue}
use Rattle.machine_core.specs.Machines.{state_in}
use Rattle.machine_core.proofs.machine.Machine.threads.Goals as goal

pub returns-clause-told : goal.returns-clause-told
returns-clause-told c = λ live.
    let h = c.self.invariant.stands c.if-self.false in
    let same = AllZip-long _ _ _ h.threads in
    subst (λ (m : MachineValue). c.len.result ≡ length (state_in m).core.threads) c.self.view_is (omega (arith, same, c.self.inside.parts.threads.ok.0, c.len.ensures))

pub returns-clause-few : goal.returns-clause-few
returns-clause-few c =
    let h = c.self.invariant.stands c.if-self.false in
    let same = AllZip-long _ _ _ h.threads in omega (arith, same, h.crowd, c.self.inside.parts.threads.ok.0, c.len.ensures)

pub overflow_cast-result : goal.overflow_cast-result
overflow_cast-result c =
    let h = c.self.invariant.stands c.if-self.false in
    let same = AllZip-long _ _ _ h.threads in
    let few : c.len.result ≤ 64 = omega (arith, same, h.crowd, c.self.inside.parts.threads.ok.0, c.len.ensures) in omega arith
