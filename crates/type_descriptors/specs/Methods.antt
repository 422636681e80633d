-- The types of a method, and how the code holds them.
use Rattle.std.specs.Prelude.{◌≡◌, List, ◌∷◌, ◌++◌, map, flat_map, Option, Some, option_map}
use Rattle.std.specs.List.{AllByRecursion}
use Rattle.jv_names.specs.Names.{Name}
use Rattle.jv_names.specs.declared.descriptor.FieldType.{FieldType}
use Rattle.jv_names.specs.Descriptors.{any_type, type_text, IsNamedType}
use Rattle.type_frames.specs.declared.vtype.VType.{VType}
use Rattle.type_frames.specs.Environments.{MethodVType}
use Rattle.type_frames.specs.Seen.{type_seen}
use Rattle.type_descriptors.specs.declared.method.MethodRefs.{MethodRefs}

-- the types of a method, as the code holds them
abbrev pub method_seen : MethodRefs → MethodVType
method_seen refs = record { parameters = map type_seen refs.parameters.items; result = option_map type_seen refs.result }

-- types, and what follows their texts
abbrev pub some_types : List VType → Name → Option (List VType × Name)
some_types types behind = Some (types, behind)

-- parameters stand at the front of a text, and this follows their `)`
pub record AreParametersAt (text : Name) (parameters : List FieldType) (behind : Name) : Type 0 where
  pub named : AllByRecursion IsNamedType (map any_type parameters)
  pub spelled : text ≡ flat_map type_text (map any_type parameters) ++ 41 ∷ behind
