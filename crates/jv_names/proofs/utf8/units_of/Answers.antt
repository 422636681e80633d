use Rattle.std.proofs.Common.{◌≡◌, ◌≢◌, ◌-◌, [], length, arith}
use Rattle.std.proofs.lemmas.Grind.{common_steps}
use Rattle.jv_names.specs.Utf8.{SpellsText, IsFirstBad}
use Rattle.jv_names.proofs.TextFronts.{whole_text, one_text, left_is_bad, text_or_bad, one_bad}
use Rattle.jv_names.proofs.utf8.units_of.Goals as goal

pub returns-then-is_empty-clause-only : goal.returns-then-is_empty-clause-only
returns-then-is_empty-clause-only c =
    let read = c.in_ok-units.units in
    let none : c.in_ok-units.rest.now ≡ [] = grind (arith, common_steps) in
    let text : SpellsText read c.args.bytes.now = whole_text c.args.bytes.now read c.in_ok-units.rest.now c.in_ok-units.ensures none in
    λ units t. one_text c.args.bytes.now read units text t

pub returns-then-is_empty-clause-exact : goal.returns-then-is_empty-clause-exact
returns-then-is_empty-clause-exact c =
    let read = c.in_ok-units.units in
    let none : c.in_ok-units.rest.now ≡ [] = grind (arith, common_steps) in
    let text : SpellsText read c.args.bytes.now = whole_text c.args.bytes.now read c.in_ok-units.rest.now c.in_ok-units.ensures none in
    λ offset bad. text_or_bad c.args.bytes.now read offset text bad

pub returns-else-is_empty-clause-only : goal.returns-else-is_empty-clause-only
returns-else-is_empty-clause-only c =
    let offset = length c.args.bytes.now - length c.in_ok-units.rest.now in
    let some : c.in_ok-units.rest.now ≢ [] = grind (arith, common_steps) in
    let bad : IsFirstBad c.args.bytes.now offset = left_is_bad c.args.bytes.now c.in_ok-units.units c.in_ok-units.rest.now c.in_ok-units.ensures some in
    λ units t. text_or_bad c.args.bytes.now units offset t bad

pub returns-else-is_empty-clause-exact : goal.returns-else-is_empty-clause-exact
returns-else-is_empty-clause-exact c =
    let offset = length c.args.bytes.now - length c.in_ok-units.rest.now in
    let some : c.in_ok-units.rest.now ≢ [] = grind (arith, common_steps) in
    let bad : IsFirstBad c.args.bytes.now offset = left_is_bad c.args.bytes.now c.in_ok-units.units c.in_ok-units.rest.now c.in_ok-units.ensures some in
    λ other is. one_bad c.args.bytes.now offset other bad is
