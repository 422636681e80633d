use Rattle.std.proofs.Common.{◌≡◌, ◌-◌}
use Rattle.classfile_items.specs.Reading.{many}
use Rattle.classfile_items.proofs.Many.{after}
use Rattle.classfile_items.proofs.item.many.Given as goal

abbrev pub invariant-items : goal.invariant-items
invariant-items g l = let item = g.R.ReadItem.finds l.reader l.end in many item l.count l.bytes ≡ after l.items (many item (l.count - l.counter) l.rest)
