-- The owner of attributes, as the program holds it.
use Rattle.class_tree.specs.WellFormed.{Owner, Class, Method, Field, StaticField}
use Rattle.classfile_read.specs.declared.attrs.Owner.{Owner as Held}
use Rattle.classfile_read.specs.declared.attrs.Owner.TheVariants as held

abbrev pub owner_seen : Held → Owner
owner_seen held.Class = Class
owner_seen held.Method = Method
owner_seen held.Field = Field
owner_seen (held.StaticField desc) = StaticField desc.now
