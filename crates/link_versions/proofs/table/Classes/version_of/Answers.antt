use Rattle.std.proofs.Common.{List, ap, subst, arith}
use Rattle.link_versions.specs.Classes.{Class, version_count}
use Rattle.link_versions.specs.Changes.{AreLawful}
use Rattle.link_versions.proofs.Tables.{lawful}
use Rattle.link_versions.proofs.Counting.{counted}
use Rattle.link_versions.proofs.table.Classes.version_of.Goals as goal

pub overflow_sub-result : goal.overflow_sub-result
overflow_sub-result c =
    let few = counted c.args.self.now c.args.class (subst (λ (cs : List Class). AreLawful cs) c.self.view_is (lawful c.self.inside.table c.self.invariant.0)) c.requires in
    omega (arith, few.some, c.version_count-count.ensures, ap (λ cs. version_count cs c.args.class) c.self.view_is)

pub overflow_cast-result : goal.overflow_cast-result
overflow_cast-result c =
    let few = counted c.args.self.now c.args.class (subst (λ (cs : List Class). AreLawful cs) c.self.view_is (lawful c.self.inside.table c.self.invariant.0)) c.requires in
    omega (arith, few.few, c.version_count-count.ensures, ap (λ cs. version_count cs c.args.class) c.self.view_is)
