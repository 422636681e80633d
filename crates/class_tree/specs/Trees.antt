-- A class file as its parts: JVM specification 4.1.
use Rattle.std.specs.Prelude.{ℕ, List}
use Rattle.class_tree.specs.declared.access.Flags.{Flags}
use Rattle.class_tree.specs.declared.pool.Const.{Const}
use Rattle.class_tree.specs.declared.members.Member.{Member}
use Rattle.class_tree.specs.declared.members.Attr.{Attr}

pub record Tree : Type 0 where
  pub minor : ℕ
  pub major : ℕ
  pub pool : List Const
  pub flags : Flags
  pub this_class : ℕ
  pub super_class : ℕ
  pub interfaces : List ℕ
  pub fields : List Member
  pub methods : List Member
  pub attrs : List Attr
