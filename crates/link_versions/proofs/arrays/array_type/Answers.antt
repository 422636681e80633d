use Rattle.std.proofs.Common.{◌≡◌}
use Rattle.jv_names.specs.declared.descriptor.Desc.TheVariants as desc
use Rattle.link_versions.proofs.arrays.array_type.Goals as goal

pub unreachable-requires : goal.unreachable-requires
unreachable-requires c = let e = c.in-Ok-Method.ensures.only (desc.Field c.requires.0) c.requires.1.text in cc

pub unreachable-requires-in-Err-Bad : goal.unreachable-requires-in-Err-Bad
unreachable-requires-in-Err-Bad c = rw c.in-Err-Bad.field-0-is at (c.in-Err-Bad.ensures.only (desc.Field c.requires.0) c.requires.1.text)

pub unreachable-requires-in-Err-Floating : goal.unreachable-requires-in-Err-Floating
unreachable-requires-in-Err-Floating c = rw c.in-Err-Floating.field-0-is at (c.in-Err-Floating.ensures.only (desc.Field c.requires.0) c.requires.1.text)

pub returns-in-Ok-Field : goal.returns-in-Ok-Field
returns-in-Ok-Field c = λ t is. let e : c.in-Ok-Field.field-0 ≡ desc.Field t = c.in-Ok-Field.ensures.only (desc.Field t) is.text in let f = c.in-Ok-Field.field-0-is in cc
