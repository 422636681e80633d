-- Texts, and their flaws and units, computed.
use Rattle.std.proofs.Common.{◌≡◌, [], ◌∷◌, Some, None, refl}
use Rattle.std.specs.Prelude.{codes}
use Rattle.jv_names.specs.declared.descriptor.DescFlaw.TheVariants.{Bad, Floating}
use Rattle.jv_names.specs.Utf8.{unit_bytes}
use Rattle.jv_names.specs.TextReading.{unit_at}
use Rattle.jv_names.specs.DescriptorReading.{class_end, dimensions, split_class, split_dimensions, read_class, read_element, read_type}
use Rattle.jv_names.specs.DescriptorFlaws.{read_field, read_result, read_method, field_flaw, method_flaw}

-- JVM specification 4.3.2: an array of a class, one of doubles, and two types
class_array : field_flaw (codes "[Ljava/lang/Object;") ≡ None
unfolding field_flaw read_field read_type split_dimensions dimensions read_element read_class split_class class_end
class_array = refl

doubles : field_flaw (codes "[[D") ≡ Some Floating
unfolding field_flaw read_field read_type split_dimensions dimensions read_element read_class split_class class_end
doubles = refl

two_types : field_flaw (codes "DI") ≡ Some Bad
unfolding field_flaw read_field read_type split_dimensions dimensions read_element read_class split_class class_end
two_types = refl

-- section 4.3.3: the example there without its double, as it stands there, and without a result
three_parameters : method_flaw (codes "(IJLjava/lang/Thread;)Ljava/lang/Object;") ≡ None
unfolding method_flaw read_method read_result read_field read_type split_dimensions dimensions read_element read_class split_class class_end
three_parameters = refl

with_double : method_flaw (codes "(IDLjava/lang/Thread;)Ljava/lang/Object;") ≡ Some Floating
unfolding method_flaw read_method read_result read_field read_type split_dimensions dimensions read_element read_class split_class class_end
with_double = refl

no_result : method_flaw (codes "(IDLjava/lang/Thread;)") ≡ Some Bad
unfolding method_flaw read_method read_result read_field read_type split_dimensions dimensions read_element read_class split_class class_end
no_result = refl

-- section 4.4.7: three bytes before another unit, and two for a unit that one spells
euro : unit_at (0xe2 ∷ 0x82 ∷ 0xac ∷ 0x41 ∷ []) ≡ Some (0x20ac, 0x41 ∷ [])
unfolding unit_at unit_bytes
euro = refl

overlong : unit_at (0xc1 ∷ 0x81 ∷ []) ≡ None
unfolding unit_at unit_bytes
overlong = refl
