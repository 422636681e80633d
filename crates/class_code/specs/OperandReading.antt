-- How operands are read from the front of some bytes, as functions (JVM specification 6.5).
use Rattle.std.specs.Prelude.{ℕ, zero, suc, ◌==◌, cond, ◌||◌, ℤ, Bool, true, int_lt, List, [], ◌∷◌, Option, Some, None, Result, Ok, Err, find, ok_or}
use Rattle.std.specs.Int.{w8, w16, w32, from_be_bytes, cast_signed}
use Rattle.class_code.specs.declared.fault.InstrFault.{InstrFault}
use Rattle.class_code.specs.declared.fault.InstrFault.TheVariants as instr_fault
use Rattle.class_code.specs.declared.instr.Padding.{Padding}
use Rattle.class_code.specs.declared.instr.Padding.TheVariants as padding
use Rattle.class_code.specs.declared.instr.Primitive.{Primitive}
use Rattle.class_code.specs.declared.instr.Primitive.TheVariants as primitive
use Rattle.class_code.specs.Codes.{primitive_code}

-- what stands at the front and the bytes behind it, or why nothing does
abbrev pub Read : Type 0 → Type 0
Read A = Result (A × List ℕ) InstrFault

-- what follows from a value, or the error
infixl 10 ◌>>=◌
abbrev pub ◌>>=◌ : {A B E : Type 0} → Result A E → (A → Result B E) → Result B E
(Ok x) >>= f = f x
(Err e) >>= f = Err e

-- ---- numbers: `u` has no sign and `s` has one, and the number of bytes is last

abbrev pub take_u1 : List ℕ → Read ℕ
take_u1 [] = Err instr_fault.Truncated
take_u1 (b ∷ bytes) = Ok (b, bytes)

abbrev pub take_s1 : List ℕ → Read ℤ
take_s1 [] = Err instr_fault.Truncated
take_s1 (b ∷ bytes) = Ok (cast_signed w8 b, bytes)

abbrev pub take_u2 : List ℕ → Read ℕ
take_u2 (a ∷ b ∷ bytes) = Ok (from_be_bytes w16 (a ∷ b ∷ []), bytes)
take_u2 bytes = Err instr_fault.Truncated

abbrev pub take_s2 : List ℕ → Read ℤ
take_s2 (a ∷ b ∷ bytes) = Ok (cast_signed w16 (from_be_bytes w16 (a ∷ b ∷ [])), bytes)
take_s2 bytes = Err instr_fault.Truncated

abbrev pub take_s4 : List ℕ → Read ℤ
take_s4 (a ∷ b ∷ c ∷ d ∷ bytes) = Ok (cast_signed w32 (from_be_bytes w32 (a ∷ b ∷ c ∷ d ∷ [])), bytes)
take_s4 bytes = Err instr_fault.Truncated

-- ---- what `newarray` makes

abbrev pub primitives : List Primitive
primitives = primitive.Boolean ∷ primitive.Char ∷ primitive.Byte ∷ primitive.Short ∷ primitive.Int ∷ primitive.Long ∷ []

-- the one whose code it is; 6 and 7 are float and double
abbrev pub primitive_at : ℕ → Result Primitive InstrFault
primitive_at b = cond ((b == 6) || (b == 7)) (Err instr_fault.Floating) (ok_or (find (λ p. primitive_code p == b) primitives) instr_fault.BadOperand)

-- ---- the parts of a switch

-- so many bytes of padding
abbrev pub take_padding : ℕ → List ℕ → Read Padding
take_padding zero bytes = Ok (padding.None, bytes)
take_padding (suc zero) (a ∷ bytes) = Ok (padding.One a, bytes)
take_padding (suc (suc zero)) (a ∷ b ∷ bytes) = Ok (padding.Two a b, bytes)
take_padding (suc (suc (suc zero))) (a ∷ b ∷ c ∷ bytes) = Ok (padding.Three a b c, bytes)
take_padding n bytes = Err instr_fault.Truncated

-- so many numbers of four bytes
abbrev pub take_words : ℕ → List ℕ → Read (List ℤ)
take_words zero bytes = Ok ([], bytes)
take_words (suc n) bytes = take_s4 bytes >>= λ first. take_words n first.1 >>= λ others. Ok (first.0 ∷ others.0, others.1)

-- whether a key is above the one before, if there is one
abbrev pub above : Option ℤ → ℤ → Bool
above None key = true
above (Some last) key = int_lt last key

-- a key above that one, and its offset
abbrev pub take_pair : Option ℤ → List ℕ → Read (ℤ × ℤ)
take_pair last bytes = take_s4 bytes >>= λ k. cond (above last k.0) (take_s4 k.1 >>= λ o. Ok ((k.0, o.0), o.1)) (Err instr_fault.BadOperand)

-- so many pairs, whose keys rise
abbrev pub take_pairs : ℕ → Option ℤ → List ℕ → Read (List (ℤ × ℤ))
take_pairs zero last bytes = Ok ([], bytes)
take_pairs (suc n) last bytes = take_pair last bytes >>= λ p. take_pairs n (Some p.0.0) p.1 >>= λ others. Ok (p.0 ∷ others.0, others.1)
