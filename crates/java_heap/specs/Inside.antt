-- A `Heap` and its fields.
use Rattle.java_heap.specs.declared.heap.Heap.TheInside.{Inside}
use Rattle.java_heap.specs.Heaps.{HeapValue}
use Rattle.java_heap.specs.Kept.{IsKept}

-- how contracts see it
abbrev pub seen : Inside → HeapValue
seen heap = record { limit = heap.limit; objects = heap.objects.items }

-- what its fields keep
abbrev pub IsKeptInside : Inside → Type 0
IsKeptInside heap = IsKept (seen heap) heap.words heap.literals heap.class_objects.items
