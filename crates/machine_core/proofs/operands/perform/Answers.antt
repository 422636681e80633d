use Rattle.machine_core.proofs.operands.perform.Goals as goal

pub returns-in-InvokeVirtual : goal.returns-in-InvokeVirtual
returns-in-InvokeVirtual c = rw c.in-InvokeVirtual.is (c.print.ensures c.in-InvokeVirtual.field-0)
