use Rattle.std.proofs.Common.{refl, sym, subst}
use Rattle.jv_names.specs.DescriptorFlaws.{method_flaw, IsMethodAnswer}
use Rattle.jv_names.proofs.DescriptorFlaws.{method_flaw-is}
use Rattle.jv_names.proofs.descriptor.method_flaw.Goals as goal

pub returns-clause-value : goal.returns-clause-value
unfolding method_flaw
returns-clause-value c = rw (c.flaw_of.ensures, c.is_floating_method.ensures, c.as_slice.ensures) refl

pub returns-clause-says : goal.returns-clause-says
returns-clause-says c = subst (IsMethodAnswer c.args.text.now) (sym (returns-clause-value c)) (method_flaw-is c.args.text.now)
