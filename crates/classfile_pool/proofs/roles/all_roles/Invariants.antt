use Rattle.std.proofs.Common.{◌≡◌, take}
use Rattle.std.specs.Prelude.{map}
use Rattle.classfile_pool.specs.TextRoles.{roles_at}
use Rattle.classfile_pool.proofs.roles.all_roles.Given as goal

abbrev pub invariant-loop-entry : goal.invariant-loop-entry
invariant-loop-entry l = l.roles.items ≡ map roles_at (take l.entry-index l.entries)
