-- What is computed of values that hold, holds: it is a number, or one of these values.
use Rattle.class_code.specs.declared.instr.Arithmetic.{Arithmetic}
use Rattle.class_code.specs.declared.instr.Conversion.{Conversion}
use Rattle.class_code.specs.declared.instr.Conversion.TheVariants as conversion
use Rattle.instruction_effect.proofs.FollowingCores.{Rules, Walk}
use Rattle.instruction_effect.specs.Arrays.{kept}
use Rattle.jv_number.specs.Values.{combined, converted, negated}
use Rattle.link_versions.specs.Subtypes.{Typed}
use Rattle.link_versions.specs.declared.class.Element.TheVariants as element
use Rattle.machine_state.specs.Core.{Core}
use Rattle.std.proofs.Common.{zero}
use Rattle.ti_ids.specs.declared.number.ThreadNo.{ThreadNo}
use Rattle.ti_ids.specs.declared.value.Value.{Value}
use Rattle.ti_ids.specs.declared.value.Value.TheVariants as value

module _ (w : Walk) (t : ThreadNo) (rules : Rules w t) (now : Core) where
  pub combined_holds : (op : Arithmetic) (a b : Value) → w.Holds now a → w.Holds now (combined op a b)
  combined_holds op (value.Int a) (value.Int b) h = rules.int now _
  combined_holds op (value.Long a) (value.Long b) h = rules.long now _
  combined_holds op (value.Long a) (value.Int b) h = rules.long now _
  combined_holds op a b h = h

  pub negated_holds : (a : Value) → w.Holds now a → w.Holds now (negated a)
  negated_holds (value.Int a) h = rules.int now _
  negated_holds (value.Long a) h = rules.long now _
  negated_holds (value.Ref r) h = h

  pub converted_holds : (c : Conversion) (v : Value) → w.Holds now v → w.Holds now (converted c v)
  converted_holds conversion.IntToLong (value.Int n) h = rules.long now _
  converted_holds conversion.LongToInt (value.Long n) h = rules.int now _
  converted_holds conversion.IntToByte (value.Int n) h = rules.int now _
  converted_holds conversion.IntToChar (value.Int n) h = rules.int now _
  converted_holds conversion.IntToShort (value.Int n) h = rules.int now _
  converted_holds c v h = h

  pub kept_holds : (c : Typed) (v : Value) → w.Holds now v → w.Holds now (kept c v)
  kept_holds (zero, element.Boolean) (value.Int z) h = rules.int now _
  kept_holds (zero, element.Byte) v h = converted_holds conversion.IntToByte v h
  kept_holds (zero, element.Char) v h = converted_holds conversion.IntToChar v h
  kept_holds (zero, element.Short) v h = converted_holds conversion.IntToShort v h
  kept_holds c v h = h
