-- What one class of the lookup order adds to the maximally specific methods that are not abstract. No public clause cites it.
use Rattle.std.specs.Prelude.{Bool, false, not, ◌&&◌, if◌then◌else◌, List, Option, Some, None}
use Rattle.std.specs.Option.{option_and_then, option_map_or}
use Rattle.ti_ids.specs.declared.number.ClassNo.{ClassNo}
use Rattle.ti_ids.specs.declared.number.MethodNo.{MethodNo}
use Rattle.jv_names.specs.Names.{Name}
use Rattle.class_tree.specs.declared.access.Flag.TheVariants as flags
use Rattle.link_versions.specs.Classes.{Class}
use Rattle.link_versions.specs.Members.{method_has}
use Rattle.link_versions.specs.Resolution.{candidate, candidates, is_overriding, is_overridden}

-- what it declares overrides a method
unfoldable pub overrides_at : List Class → ClassNo → Name → Name → MethodNo → ClassNo → Bool
overrides_at classes n name desc m i = option_map_or (is_overriding classes m) (candidate classes n name desc i) false

abbrev pub if_concrete : List Class → List MethodNo → MethodNo → Option MethodNo
if_concrete classes all m = if not (is_overridden classes all m) && not (method_has classes flags.Abstract m) then Some m else None

-- what it declares is maximally specific and not abstract
unfoldable pub concrete_at : List Class → ClassNo → Name → Name → ClassNo → Option MethodNo
concrete_at classes n name desc i = option_and_then (if_concrete classes (candidates classes n name desc)) (candidate classes n name desc i)
