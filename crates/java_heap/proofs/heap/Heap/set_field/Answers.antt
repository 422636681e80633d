use Rattle.std.proofs.Common.{sym, arith, ap, ◌∙◌, List}
use Rattle.ti_ids.specs.declared.value.Value.{Value}
use Rattle.java_heap.specs.declared.object.Content.TheVariants.{Fields}
use Rattle.java_heap.specs.Changes.{put_field}
use Rattle.java_heap.specs.Inside.{seen}
use Rattle.java_heap.proofs.Numbers.{StandsAt, stands_at}
use Rattle.java_heap.proofs.Replaced.{kept_replaced, field_may_change, with_content-replaced}
use Rattle.java_heap.proofs.heap.Heap.set_field.Goals as goal

stands : (c : goal.After-self-2-1) → StandsAt (seen c.self.inside) c.args.object c.in-Some.at c.index_mut.result.now
stands c = stands_at (seen c.self.inside) c.args.self.now c.args.object c.in-Some.at c.index_mut.result.now c.self.view_is c.in-Some.ensures c.index_mut.ensures.value

pub invariant_of-self-2 : goal.invariant_of-self-2
invariant_of-self-2 c =
    let may = field_may_change (seen c.self.inside) c.in-Some.at c.index_mut.result.now c.in-Fields.fields c.put.new.values c.args.place c.args.value c.self.invariant.sound (stands c).found c.in-Fields.is c.put.ensures in
    kept_replaced (seen c.self.inside) c.self.inside.words c.self.inside.literals c.self.inside.class_objects.items c.in-Some.at c.index_mut.result.now _ 0 c.self.invariant may c.self.inside.words (omega arith)

pub returns : goal.returns
returns c =
    let changed = ap (put_field c.args.place c.args.value) c.in-Fields.is ∙ ap (λ (values : List Value). Fields values) (sym c.put.ensures) in
    record { changed = rw (← c.self.view_is) (sym (with_content-replaced (seen c.self.inside) c.args.object c.in-Some.at c.index_mut.result.now (stands c) (put_field c.args.place c.args.value) (Fields c.put.new.values) changed)) }
