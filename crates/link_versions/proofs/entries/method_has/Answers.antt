use Rattle.std.proofs.Common.{◌≡◌, false, sym, ap, ◌∙◌, arith}
use Rattle.std.specs.Prelude.{option_copied}
use Rattle.std.specs.Option.{option_map_or}
use Rattle.std.proofs.lemmas.Bool.Decides.{nat_tests}
use Rattle.link_versions.proofs.Numbers.{flagged}
use Rattle.link_versions.proofs.ByNumber.{has_first}
use Rattle.link_versions.proofs.entries.method_has.Goals as goal

pub returns-in-Some : goal.returns-in-Some
returns-in-Some c =
    let told : c.has.result ≡ flagged c.args.flag c.in-Some.member.now = let has = c.has.ensures in grind (arith, nat_tests) in
    told ∙ ap (λ m. option_map_or (flagged c.args.flag) m false) (sym (ap option_copied c.in-Some.is) ∙ c.first_method.ensures) ∙ sym (has_first c.args.entries.now c.args.flag c.args.method c.requires)

pub returns-in-None : goal.returns-in-None
returns-in-None c =
    ap (λ m. option_map_or (flagged c.args.flag) m false) (sym (ap option_copied c.in-None.is) ∙ c.first_method.ensures) ∙ sym (has_first c.args.entries.now c.args.flag c.args.method c.requires)
