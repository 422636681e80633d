use Rattle.std.proofs.Common.{◌∙◌, ap}
use Rattle.java_heap.specs.Heaps.{HeapValue, literal_of}
use Rattle.java_heap.proofs.heap.Heap.literal_made.Goals as goal

pub returns : goal.returns
returns c = c.copied.ensures ∙ c.get.ensures.value ∙ c.self.invariant.literals_found c.args.units.now ∙ ap (λ (heap : HeapValue). literal_of heap c.args.units.now) c.self.view_is
