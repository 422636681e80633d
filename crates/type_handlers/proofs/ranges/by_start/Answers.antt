use Rattle.std.proofs.Common.{◌≡◌, length, rules, refl, arith}
use Rattle.std.specs.List.{range_with_len}
use Rattle.std.proofs.lemmas.List.Sorted.{IsNonDecreasingBy-from_sort_by_key}
use Rattle.std.proofs.lemmas.Iterator.{YieldsList-from_range, items_from_collect}
use Rattle.type_handlers.specs.Ranges.{start_at}
use Rattle.type_handlers.proofs.ranges.by_start.Goals as goal

pub returns-clause-complete : goal.returns-clause-complete
returns-clause-complete c =
    let all : c.in_ok-order.order.items ≡ range_with_len 0 (length c.args.handlers.now) =
    rw c.in_ok-order.was at (items_from_collect _ c.collect.ensures.ran (YieldsList-from_range 0 (length c.args.handlers.now) (length c.args.handlers.now) refl (omega arith))) in
    rw (← all) c.sort_unstable_by_key.ensures.permutation

pub returns-clause-ascending : goal.returns-clause-ascending
returns-clause-ascending c = IsNonDecreasingBy-from_sort_by_key (start_at c.args.handlers.now) _ c.sort_unstable_by_key.ensures.sorted (λ a r q k. search rules)
