use Rattle.std.proofs.Common.{arith}
use Rattle.java_heap.specs.Inside.{seen}
use Rattle.java_heap.proofs.Sound.{count_fits}
use Rattle.java_heap.proofs.heap.Heap.count.Goals as goal

pub overflow_cast-result : goal.overflow_cast-result
overflow_cast-result c = omega (arith, count_fits (seen c.self.inside) c.self.invariant.sound, c.self.inside.objects.ok.0)
