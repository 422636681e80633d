-- How long an instruction is, from what is left after it.
use Rattle.std.proofs.Common.{◌≡◌, ℕ, ◌+◌, ◌-◌, ◌≤◌, ◌<◌, ◌^◌, ℤ, pos, negsuc, false, ◌≤ℤ◌, List, ◌∷◌, ◌++◌, length, length-append, append_assoc, arith, ap, ◌∙◌, Option, sym, refl, FitsSigned, w32}
use Rattle.std.specs.Prelude.{int_lt}
use Rattle.std.proofs.Math.IntN.{nat_abs}
use Rattle.std.specs.List.{flat_map}
use Rattle.class_code.specs.declared.fault.InstrFault.{InstrFault}
use Rattle.class_code.specs.declared.instr.Padding.{Padding}
use Rattle.class_code.specs.declared.instr.Instr.{Instr}
use Rattle.class_code.specs.declared.instr.Instr.TheVariants as instr
use Rattle.class_code.specs.Spelling.{s4, padding_bytes, pair_bytes, spelling, Stands}
use Rattle.class_code.specs.Ranges.{Fits}
use Rattle.class_code.specs.Listing.{IsInstrAt}
use Rattle.class_code.specs.Faults.{IsCount, IsTableHead, IsLookupHead, HeadFault}
use Rattle.class_code.specs.Skips.{SkipsWords, SkipsPairs, SkipsTable, SkipsLookup}
use Rattle.class_code.specs.CodeReading.{instr_at}
use Rattle.class_code.proofs.Loops.{table_parts}
use Rattle.class_code.proofs.ReadBack.{done, not_done, read_again}
use Rattle.class_code.proofs.FaultBack.{IsBytes, fault_again}

-- an instruction that may stand in code takes a byte or more
pub has_first : (i : Instr) → Fits i → 1 ≤ length (spelling i)
has_first (instr.PushInt n) fits = absurd fits
has_first (instr.PushLong n) fits = absurd fits
has_first i fits = omega arith

pub made : (at b : ℕ) (bytes after : List ℕ) (i : Instr) → Fits i → Stands at i → b ∷ bytes ≡ spelling i ++ after → IsInstrAt at (b ∷ bytes) (1 + (length bytes - length after))
made at b bytes after i fits stands parts = record {
  instr = i;
  rest = after;
  fits = fits;
  stands = stands;
  parts = parts;
  len_is = omega (arith, ap length parts, length-append (spelling i) after, has_first i fits);
}

pub made_table : (at : ℕ) (bytes after : List ℕ) → SkipsTable at bytes after → IsInstrAt at (0xaa ∷ bytes) (1 + (length bytes - length after))
made_table at bytes after s = made at 0xaa bytes after (instr.TableSwitch s.table) s.fits s.stands (ap (λ (r : List ℕ). 0xaa ∷ r) s.parts)

pub made_lookup : (at : ℕ) (bytes after : List ℕ) → SkipsLookup at bytes after → IsInstrAt at (0xab ∷ bytes) (1 + (length bytes - length after))
made_lookup at bytes after s = made at 0xab bytes after (instr.LookupSwitch s.lookup) s.fits s.stands (ap (λ (r : List ℕ). 0xab ∷ r) s.parts)

pub skips_table : (at : ℕ) (bytes : List ℕ) (p : Padding) (d l h : ℤ) (n : ℕ) (rest after : List ℕ) → IsTableHead at bytes p d l h rest → l ≤ℤ h → IsCount l h n → SkipsWords n rest after → SkipsTable at bytes after
skips_table at bytes p d l h n rest after head order count s = record {
  table = record { padding = p; default = d; low = l; high = h; offsets = s.words };
  fits = record { default = head.fits.0; low = head.fits.1; high = head.fits.2; offsets = s.fits };
  stands = record { padding = head.place; order = order; count = rw s.count_is count };
  parts = table_parts (padding_bytes p) (s4 d) (s4 l) (s4 h) (flat_map s4 s.words) bytes rest after head.parts s.parts;
}

-- where a fault stands, no instruction does
pub not_both : (at n : ℕ) (bytes : List ℕ) (w : InstrFault) → IsBytes bytes → HeadFault at bytes w → IsInstrAt at bytes n → ⊥
not_both at n bytes w fits e i =
    let whole : instr_at at bytes ≡ done (i.instr, i.rest) = ap (instr_at at) i.parts ∙ read_again at i.instr i.rest i.fits i.stands in
    not_done (i.instr, i.rest) w (sym whole ∙ fault_again at bytes w fits e)

lookup_parts : (p d c k o bytes rest after : List ℕ) → bytes ≡ p ++ (d ++ (c ++ rest)) → c ≡ k → rest ≡ o ++ after → bytes ≡ (p ++ (d ++ (k ++ o))) ++ after
lookup_parts p d c k o bytes rest after parts same entries = parts ∙ rw (same, entries) (simp append_assoc)

pub skips_lookup : (at : ℕ) (bytes : List ℕ) (p : Padding) (d c : ℤ) (n : ℕ) (last : Option ℤ) (rest after : List ℕ) → IsLookupHead at bytes p d c rest → c ≡ pos n → n < 2 ^ 31 → SkipsPairs n last rest after → SkipsLookup at bytes after
skips_lookup at bytes p d c n last rest after head count small s = record {
  lookup = record { padding = p; default = d; pairs = s.pairs };
  fits = record { default = head.fits.0; pairs = s.fits };
  stands = record { padding = head.place; count = omega (arith, s.count_is); rising = s.rising };
  parts = lookup_parts (padding_bytes p) (s4 d) (s4 c) (s4 (pos (length s.pairs))) (flat_map pair_bytes s.pairs) bytes rest after head.parts (ap s4 (count ∙ ap pos (sym s.count_is))) s.parts;
}

-- a count that isn't below 0, as a number
pub positive : (z : ℤ) → int_lt z (pos 0) ≡ false → z ≡ pos (nat_abs z)
positive (pos n) e = refl
positive (negsuc n) e = absurd cc

pub abs_small : (z : ℤ) → FitsSigned w32 z → int_lt z (pos 0) ≡ false → nat_abs z < 2 ^ 31
abs_small (pos n) fits e = fits.sfits
abs_small (negsuc n) fits e = absurd cc
