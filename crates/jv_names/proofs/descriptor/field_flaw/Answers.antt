use Rattle.std.proofs.Common.{refl, sym, subst}
use Rattle.jv_names.specs.DescriptorFlaws.{field_flaw, IsFieldAnswer}
use Rattle.jv_names.proofs.DescriptorFlaws.{field_flaw-is}
use Rattle.jv_names.proofs.descriptor.field_flaw.Goals as goal

pub returns-clause-value : goal.returns-clause-value
unfolding field_flaw
returns-clause-value c = rw (c.flaw_of.ensures, c.is_floating_field.ensures, c.as_slice.ensures) refl

pub returns-clause-says : goal.returns-clause-says
returns-clause-says c = subst (IsFieldAnswer c.args.text.now) (sym (returns-clause-value c)) (field_flaw-is c.args.text.now)
