-- Types as they are seen where their names stand.
use Rattle.jv_names.specs.Names.{Name}
use Rattle.type_frames.specs.declared.seen.ClassName.{ClassName}
use Rattle.type_frames.specs.declared.seen.ClassName.TheVariants as class_name
use Rattle.type_frames.specs.declared.seen.VTypeRef.{VTypeRef}
use Rattle.type_frames.specs.declared.seen.VTypeRef.TheVariants as seen
use Rattle.type_frames.specs.declared.vtype.VType.{VType}
use Rattle.type_frames.specs.declared.vtype.VType.TheVariants as vtype
use Rattle.type_frames.specs.Types.{array_of}

abbrev pub name_seen : ClassName → Name
name_seen (class_name.Named text) = text.now
name_seen (class_name.ArrayOf class) = array_of class.now

abbrev pub type_seen : VTypeRef → VType
type_seen seen.Top = vtype.Top
type_seen seen.Integer = vtype.Integer
type_seen seen.Long = vtype.Long
type_seen seen.Null = vtype.Null
type_seen seen.UninitThis = vtype.UninitThis
type_seen (seen.Object name) = vtype.Object (name_seen name)
type_seen (seen.Uninit at) = vtype.Uninit at
