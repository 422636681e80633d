use Rattle.std.proofs.Common.{◌∙◌, arith}
use Rattle.std.proofs.lemmas.Result.{err_from_is_err_and}
use Rattle.classfile_pool.proofs.Places.{places_next, places_stopped}
use Rattle.classfile_pool.proofs.entry.places.Goals as goal

pub places-preserved : goal.places-preserved
places-preserved c =
    rw c.is_long-second.ensures (c.places.invariant ∙ places_next c.args.end c.args.count c.places.i c.places.second c.places.entries c.push.new.self c.in_ok-entry.entry c.places.rest.now c.in_ok-entry.behind.now (omega arith) c.in_ok-entry.ensures c.in_ok-push.ensures.ok)

pub returns-in_err-entry : goal.returns-in_err-entry
returns-in_err-entry c =
    let p = err_from_is_err_and c.from_residual-in_err-entry.result c.from_residual-in_err-entry.ensures.1 in
    rw (p.1, p.2) (places_stopped c.args.end c.args.count c.places.i c.places.second c.places.entries c.places.rest.now _ c.in_err-entry.field-0.0 (omega arith) c.places.invariant c.in_err-entry.ensures)
