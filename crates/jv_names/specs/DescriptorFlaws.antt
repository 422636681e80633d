-- What texts are the descriptors of, and why they are none of the profile, as functions. Each has the one answer that
-- Descriptors.antt gives by cases (JVM specification 4.3.2 and 4.3.3).
use Rattle.std.specs.Prelude.{ℕ, zero, suc, List, [], ◌∷◌, Bool, true, false, ◌==◌, if◌then◌else◌, codes, length, Option, Some, None, option_map}
use Rattle.std.specs.Option.{option_and_then}
use Rattle.std.specs.Cmp.Lexicographic.{pointwise}
use Rattle.jv_names.specs.declared.descriptor.Desc.{Desc}
use Rattle.jv_names.specs.declared.descriptor.DescFault.{DescFault}
use Rattle.jv_names.specs.declared.descriptor.DescFault.TheVariants.{Bad, Floating}
use Rattle.jv_names.specs.declared.descriptor.DescFlaw.{DescFlaw}
use Rattle.jv_names.specs.declared.descriptor.DescFlaw.TheVariants.{Bad as BadText, Floating as FloatingText}
use Rattle.jv_names.specs.Names.{Name}
use Rattle.jv_names.specs.Descriptors.{AnyType, AnyMethod, is_floating_type, is_floating_method, IsFieldDesc, IsMethodDesc, FieldFault, MethodFault}
use Rattle.jv_names.specs.DescriptorReading.{read_type}

-- ---- what a whole text spells

-- nothing may follow
abbrev pub at_end : AnyType → Name → Option AnyType
at_end t [] = Some t
at_end t (unit ∷ rest) = None

unfoldable pub read_field : Name → Option AnyType
read_field text = option_and_then (λ x. at_end x.0 x.1) (read_type text)

-- what follows this unit, where it comes first
abbrev pub behind : ℕ → Name → Option Name
behind unit [] = None
behind unit (first ∷ rest) = if first == unit then Some rest else None

abbrev pub with_first : AnyType → List AnyType × Name → List AnyType × Name
with_first t x = (t ∷ x.0, x.1)

abbrev pub ended_or : Option Name → Option (List AnyType × Name) → Option (List AnyType × Name)
ended_or (Some rest) others = Some ([], rest)
ended_or None others = others

-- types and the `)` behind them, in so many steps at most, and what follows
abbrev pub read_parameters : ℕ → Name → Option (List AnyType × Name)
read_parameters zero text = None
read_parameters (suc steps) text = ended_or (behind 41 text) (option_and_then (λ x. option_map (with_first x.0) (read_parameters steps x.1)) (read_type text))

-- `V`, or a type
unfoldable pub read_result : Name → Option (Option AnyType)
read_result text = if pointwise ◌==◌ text (codes "V") then Some None else option_map (λ t. Some t) (read_field text)

abbrev pub with_result : List AnyType × Name → Option AnyMethod
with_result x = option_map (λ r. record { parameters = x.0; result = r }) (read_result x.1)

-- each type has a unit, and so has the `)`
abbrev pub read_signature : Name → Option AnyMethod
read_signature text = option_and_then with_result (read_parameters (length text) text)

unfoldable pub read_method : Name → Option AnyMethod
read_method text = option_and_then read_signature (behind 40 text)

-- ---- why it is no descriptor of the profile, if it is none

-- from whether floating point is in it, where it is a descriptor
abbrev pub flaw_of : Option Bool → Option DescFlaw
flaw_of None = Some BadText
flaw_of (Some true) = Some FloatingText
flaw_of (Some false) = None

unfoldable pub field_flaw : Name → Option DescFlaw
field_flaw text = flaw_of (option_map is_floating_type (read_field text))

unfoldable pub method_flaw : Name → Option DescFlaw
method_flaw text = flaw_of (option_map is_floating_method (read_method text))

-- ---- what those answers say

abbrev pub as_fault : DescFlaw → DescFault
as_fault BadText = Bad
as_fault FloatingText = Floating

-- it is a descriptor of the profile, or it has this fault
abbrev pub IsFieldAnswer : Name → Option DescFlaw → Type 0
IsFieldAnswer text None = (d : Desc) × IsFieldDesc text d
IsFieldAnswer text (Some flaw) = FieldFault text (as_fault flaw)

abbrev pub IsMethodAnswer : Name → Option DescFlaw → Type 0
IsMethodAnswer text None = (d : Desc) × IsMethodDesc text d
IsMethodAnswer text (Some flaw) = MethodFault text (as_fault flaw)
