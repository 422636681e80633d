use Rattle.std.proofs.Common.{◌≡◌, ℤ, w32, to_z, of_z, rules, arith, ◌∷◌, [], ◌++◌, None, length-append, refl}
use Rattle.std.proofs.lemmas.Result.{err_from_is_err_and}
use Rattle.class_code.specs.Spelling.{pair_bytes}
use Rattle.class_code.specs.Ranges.{PairFits}
use Rattle.class_code.proofs.Loops.{parts_more, each_more, rises_more, last_key_more}
use Rattle.class_code.proofs.switch.pairs_at.Goals as goal

pub returns-in_err-key-clause-fault : goal.returns-in_err-key-clause-fault
returns-in_err-key-clause-fault c =
    let p = err_from_is_err_and c.from_residual.result c.from_residual.ensures.1 in
    rw (p.1, p.2) (record {
      front = c.loop.pairs.items;
      rest = c.loop.rest.now;
      fewer = omega arith;
      parts = c.loop.invariant.parts;
      rising = c.loop.invariant.rising;
      fits = c.loop.invariant.fits;
      fault = rw (← c.loop.invariant.last) c.in_err-key.ensures.fault;
    })

pub loop-preserved : goal.loop-preserved
loop-preserved c =
    let key : to_z w32 (of_z w32 c.in_ok-key.key) ≡ c.in_ok-key.key = search rules in
    let offset : to_z w32 (of_z w32 c.in_ok-key.offset) ≡ c.in_ok-key.offset = search rules in
    let pair : ℤ × ℤ = (c.in_ok-key.key, c.in_ok-key.offset) in
    let found = c.in_ok-key.ensures.found in
    let items : c.push.new.self.items ≡ c.loop.pairs.items ++ pair ∷ [] = rw (key, offset) at c.in_ok-push.ensures.items in
    record {
      parts = rw items (parts_more pair_bytes c.loop.pairs.items pair c.args.bytes.now c.loop.rest.now c.in_ok-key.after.now c.loop.invariant.parts found.0);
      count = rw items (omega (arith, length-append c.loop.pairs.items (pair ∷ []), c.loop.invariant.count));
      fits = rw items (each_more PairFits c.loop.pairs.items pair c.loop.invariant.fits c.in_ok-key.ensures.fits);
      rising = rw items (rises_more None c.loop.pairs.items pair c.loop.invariant.rising (rw (← c.loop.invariant.last) found.1));
      last = rw (items, key, last_key_more None c.loop.pairs.items pair) refl;
    }
