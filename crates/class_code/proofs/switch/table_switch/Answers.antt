use Rattle.std.proofs.Common.{◌≡◌, w32, to_z, of_z, rules, ap, ◌∷◌, List, ℕ}
use Rattle.std.specs.List.{flat_map}
use Rattle.class_code.specs.Spelling.{s4, padding_bytes}
use Rattle.class_code.proofs.Loops.{table_parts}
use Rattle.class_code.proofs.switch.table_switch.Goals as goal

pub returns-clause-found : goal.returns-clause-found
returns-clause-found c =
    let low : to_z w32 (of_z w32 c.in_ok-padding.low) ≡ c.in_ok-padding.low = search rules in
    let high : to_z w32 (of_z w32 c.in_ok-padding.high) ≡ c.in_ok-padding.high = search rules in
    let default : to_z w32 (of_z w32 c.in_ok-padding.default) ≡ c.in_ok-padding.default = search rules in
    let count = rw (low, high) at c.in_ok-count.ensures.count in
    let head = c.in_ok-padding.ensures.found in
    let entries = c.in_ok-offsets.ensures.found in
    rw (low, high, default) (
      ap (λ (r : List ℕ). 0xaa ∷ r) (table_parts (padding_bytes c.in_ok-padding.padding) (s4 c.in_ok-padding.default) (s4 c.in_ok-padding.low) (s4 c.in_ok-padding.high) (flat_map s4 c.in_ok-offsets.offsets) c.args.bytes.now c.in_ok-padding.rest.now c.in_ok-offsets.rest.now head.parts entries.0),
      record { padding = head.place; order = count.0; count = rw entries.1 count.1 },
    )
