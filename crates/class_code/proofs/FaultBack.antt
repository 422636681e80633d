-- Where a fault stands at the front, reading answers that fault.
use Rattle.std.proofs.Common.{◌≡◌, inl, inr, ℕ, zero, suc, ◌+◌, ◌*◌, ◌<◌, true, false, ltb, ℤ, pos, negsuc, List, [], ◌∷◌, ◌++◌, length, Option, Some, None, Err, refl, ap, ◌∙◌, append_assoc, arith, eqb}
use Rattle.std.specs.Prelude.{◌⊎◌, find}
use Rattle.std.specs.List.{flat_map, AllByRecursion}
use Rattle.std.proofs.lemmas.Bool.{lt-ltb, ne_eqb}
use Rattle.class_code.specs.declared.fault.InstrFault.{InstrFault}
use Rattle.class_code.specs.declared.fault.InstrFault.TheVariants as instr_fault
use Rattle.class_code.specs.declared.form.Form.{Form}
use Rattle.class_code.specs.declared.form.Form.TheVariants as form
use Rattle.class_code.specs.declared.instr.Padding.{Padding}
use Rattle.class_code.specs.Codes.{primitive_code}
use Rattle.class_code.specs.Spelling.{padding_len, pair_bytes, Rises}
use Rattle.class_code.specs.Ranges.{PairFits}
use Rattle.class_code.specs.Faults.{IsNotAbove, last_key, PrimitiveFault, NewArrayFault, InterfaceFault, WidenedFault, WideFault, TableRestFault, TableFault, PairFault, LookupRestFault, LookupFault, FormFault, HeadFault}
use Rattle.class_code.specs.OperandReading.{primitives, primitive_at, above, take_pair, take_pairs}
use Rattle.class_code.specs.CodeReading.{read_widened, read_wide, table_rest, read_table, lookup_rest, read_lookup, read_form, instr_at}
use Rattle.class_code.proofs.FormAt.{form_is}
use Rattle.class_code.proofs.Numbers.{lt_true, le_false, count_is}
use Rattle.class_code.proofs.Take.{s4_again, u1_cut, s1_cut, u2_cut, s2_cut, s4_cut}
use Rattle.class_code.proofs.ReadBack.{above_true, pair_again, table_head_again, lookup_head_again}

abbrev pub IsBytes : List ℕ → Type 0
IsBytes bytes = AllByRecursion (λ b. b < 256) bytes

-- no code of a primitive type
not_primitive : (b : ℕ) → (b < 4) ⊎ (11 < b) → find (λ p. eqb (primitive_code p) b) primitives ≡ None
not_primitive b (inl lt) = rw (ne_eqb 4 b (λ e. omega (arith, e, lt)), ne_eqb 5 b (λ e. omega (arith, e, lt)), ne_eqb 8 b (λ e. omega (arith, e, lt)), ne_eqb 9 b (λ e. omega (arith, e, lt)), ne_eqb 10 b (λ e. omega (arith, e, lt)), ne_eqb 11 b (λ e. omega (arith, e, lt))) refl
not_primitive b (inr lt) = rw (ne_eqb 4 b (λ e. omega (arith, e, lt)), ne_eqb 5 b (λ e. omega (arith, e, lt)), ne_eqb 8 b (λ e. omega (arith, e, lt)), ne_eqb 9 b (λ e. omega (arith, e, lt)), ne_eqb 10 b (λ e. omega (arith, e, lt)), ne_eqb 11 b (λ e. omega (arith, e, lt))) refl

primitive_fault : (b : ℕ) (w : InstrFault) → PrimitiveFault b w → primitive_at b ≡ Err w
primitive_fault b instr_fault.Floating (inl e) = rw e refl
primitive_fault b instr_fault.Floating (inr e) = rw e refl
primitive_fault b instr_fault.BadOperand (inl lt) = rw (ne_eqb b 6 (λ e. omega (arith, e, lt)), ne_eqb b 7 (λ e. omega (arith, e, lt)), not_primitive b (inl lt)) refl
primitive_fault b instr_fault.BadOperand (inr lt) = rw (ne_eqb b 6 (λ e. omega (arith, e, lt)), ne_eqb b 7 (λ e. omega (arith, e, lt)), not_primitive b (inr lt)) refl
primitive_fault b instr_fault.Unsupported f = absurd f
primitive_fault b instr_fault.Truncated f = absurd f

new_array_fault : (at : ℕ) (bytes : List ℕ) (w : InstrFault) → NewArrayFault bytes w → read_form at form.NewArray bytes ≡ Err w
new_array_fault at [] w e = rw e refl
new_array_fault at (b ∷ bytes) w f = rw (primitive_fault b w f) refl

interface_fault : (at : ℕ) (bytes : List ℕ) (w : InstrFault) → InterfaceFault bytes w → read_form at form.InvokeInterface bytes ≡ Err w
interface_fault at [] w f = rw f.0 refl
interface_fault at (a ∷ []) w f = rw f.0 refl
interface_fault at (a ∷ b ∷ []) w f = rw f.0 refl
interface_fault at (a ∷ b ∷ c ∷ []) w f = rw f.0 refl
interface_fault at (a ∷ b ∷ c ∷ d ∷ bytes) w f = rw (f.0, ne_eqb d 0 f.1) refl

-- two operands of which one or the other is cut off
increment_cut : (at : ℕ) (bytes : List ℕ) → length bytes < 2 → read_form at form.Increment bytes ≡ Err instr_fault.Truncated
increment_cut at [] lt = refl
increment_cut at (a ∷ []) lt = refl
increment_cut at (a ∷ b ∷ bytes) lt = absurd (omega arith)

many_cut : (at : ℕ) (bytes : List ℕ) → length bytes < 3 → read_form at form.MultiNewArray bytes ≡ Err instr_fault.Truncated
many_cut at [] lt = refl
many_cut at (a ∷ []) lt = refl
many_cut at (a ∷ b ∷ []) lt = refl
many_cut at (a ∷ b ∷ c ∷ bytes) lt = absurd (omega arith)

wide_increment_cut : (o : ℕ) (bytes : List ℕ) → length bytes < 4 → read_widened o form.Increment bytes ≡ Err instr_fault.Truncated
wide_increment_cut o [] lt = refl
wide_increment_cut o (a ∷ []) lt = refl
wide_increment_cut o (a ∷ b ∷ []) lt = refl
wide_increment_cut o (a ∷ b ∷ c ∷ []) lt = refl
wide_increment_cut o (a ∷ b ∷ c ∷ d ∷ bytes) lt = absurd (omega arith)

widened_fault : (b : ℕ) (f : Form) (bytes : List ℕ) (w : InstrFault) → WidenedFault b f bytes w → read_widened b f bytes ≡ Err w
widened_fault b (form.Load k) bytes w e = rw (e.0, u2_cut bytes e.1) refl
widened_fault b (form.Store k) bytes w e = rw (e.0, u2_cut bytes e.1) refl
widened_fault b form.Increment bytes w e = rw e.0 (wide_increment_cut b bytes e.1)
widened_fault b form.Floating bytes w e = rw e refl
widened_fault b form.Unsupported bytes w (inl e) = rw (e.0, e.1) refl
widened_fault b form.Unsupported bytes w (inr e) = rw (e.1, ne_eqb b 0xa9 e.0) refl
widened_fault b f bytes w e = rw e refl

wide_fault : (bytes : List ℕ) (w : InstrFault) → IsBytes bytes → WideFault bytes w → read_wide bytes ≡ Err w
wide_fault [] w fits e = rw e refl
wide_fault (b ∷ bytes) w fits (f, is, e) = rw (form_is b f fits.0 is) (widened_fault b f bytes w e)

-- ---- switches

table_rest_fault : (p : Padding) (d l h : ℤ) (bytes : List ℕ) (w : InstrFault) → TableRestFault l h bytes w → table_rest p d l h bytes ≡ Err w
table_rest_fault p d l h bytes w (inl e) = rw (lt_true h l e.0, e.1) refl
table_rest_fault p d l h bytes w (inr (n, order, count, e)) =
    let short : ltb (length bytes) (4 * n) ≡ true = lt-ltb (length bytes) (4 * n) e.1 in
    rw (le_false l h order, count_is l h n count, short, e.0) refl

table_fault : (at : ℕ) (bytes : List ℕ) (w : InstrFault) → TableFault at bytes w → read_table at bytes ≡ Err w
table_fault at bytes w (inl e) = rw (lt-ltb (length bytes) (padding_len at + 12) e.1, e.0) refl
table_fault at bytes w (inr (p, d, l, h, rest, head, e)) = table_head_again at bytes p d l h rest head ∙ table_rest_fault p d l h rest w e

not_above : (last : Option ℤ) (key : ℤ) → IsNotAbove last key → above last key ≡ false
not_above None key h = absurd h
not_above (Some last) key h = le_false key last h

pair_fault : (last : Option ℤ) (bytes : List ℕ) (w : InstrFault) → PairFault last bytes w → take_pair last bytes ≡ Err w
pair_fault last bytes w (inl e) = rw (s4_cut bytes e.1, e.0) refl
pair_fault last bytes w (inr (key, rest, fits, parts, inl e)) = rw (parts, s4_again key rest fits, not_above last key e.0, e.1) refl
pair_fault last bytes w (inr (key, rest, fits, parts, inr e)) = rw (parts, s4_again key rest fits, above_true last key e.0, s4_cut rest e.1.1, e.1.0) refl

pairs_fault : (count : ℕ) (last : Option ℤ) (front : List (ℤ × ℤ)) (rest : List ℕ) (w : InstrFault) → length front < count → AllByRecursion PairFits front → Rises last front
    → PairFault (last_key last front) rest w → take_pairs count last (flat_map pair_bytes front ++ rest) ≡ Err w
pairs_fault zero last front rest w lt fits rises e = absurd (omega arith)
pairs_fault (suc n) last [] rest w lt fits rises e = rw (pair_fault last rest w e) refl
pairs_fault (suc n) last (p ∷ ps) rest w lt fits rises e =
    let regrouped : flat_map pair_bytes (p ∷ ps) ++ rest ≡ pair_bytes p ++ (flat_map pair_bytes ps ++ rest) = append_assoc (pair_bytes p) (flat_map pair_bytes ps) rest in
    ap (take_pairs (suc n) last) regrouped ∙ rw (pair_again last p (flat_map pair_bytes ps ++ rest) fits.0 rises.0, pairs_fault n (Some p.0) ps rest w (omega arith) fits.1 rises.1 e) refl

lookup_rest_fault : (p : Padding) (d c : ℤ) (bytes : List ℕ) (w : InstrFault) → LookupRestFault c bytes w → lookup_rest p d c bytes ≡ Err w
lookup_rest_fault p d (negsuc n) bytes w e = rw e refl
lookup_rest_fault p d (pos n) bytes w e = rw (e.parts, pairs_fault n None e.front e.rest w e.fewer e.fits e.rising e.fault) refl

lookup_fault : (at : ℕ) (bytes : List ℕ) (w : InstrFault) → LookupFault at bytes w → read_lookup at bytes ≡ Err w
lookup_fault at bytes w (inl e) = rw (lt-ltb (length bytes) (padding_len at + 8) e.1, e.0) refl
lookup_fault at bytes w (inr (p, d, c, rest, head, e)) = lookup_head_again at bytes p d c rest head ∙ lookup_rest_fault p d c rest w e

-- ---- any form

form_fault : (at : ℕ) (f : Form) (bytes : List ℕ) (w : InstrFault) → IsBytes bytes → FormFault at f bytes w → read_form at f bytes ≡ Err w
form_fault at (form.Simple s) bytes w fits e = absurd e
form_fault at form.PushByte bytes w fits e = rw (e.0, s1_cut bytes e.1) refl
form_fault at form.PushShort bytes w fits e = rw (e.0, s2_cut bytes e.1) refl
form_fault at form.LoadConst bytes w fits e = rw (e.0, u1_cut bytes e.1) refl
form_fault at (form.Load k) bytes w fits e = rw (e.0, u1_cut bytes e.1) refl
form_fault at (form.Store k) bytes w fits e = rw (e.0, u1_cut bytes e.1) refl
form_fault at form.Increment bytes w fits e = rw e.0 (increment_cut at bytes e.1)
form_fault at (form.Branch c) bytes w fits e = rw (e.0, s2_cut bytes e.1) refl
form_fault at form.GotoWide bytes w fits e = rw (e.0, s4_cut bytes e.1) refl
form_fault at form.TableSwitch bytes w fits e = table_fault at bytes w e
form_fault at form.LookupSwitch bytes w fits e = lookup_fault at bytes w e
form_fault at (form.Pool o) bytes w fits e = rw (e.0, u2_cut bytes e.1) refl
form_fault at form.InvokeInterface bytes w fits e = interface_fault at bytes w e
form_fault at form.NewArray bytes w fits e = new_array_fault at bytes w e
form_fault at form.MultiNewArray bytes w fits e = rw e.0 (many_cut at bytes e.1)
form_fault at form.Wide bytes w fits e = wide_fault bytes w fits e
form_fault at form.Floating bytes w fits e = rw e refl
form_fault at form.Unsupported bytes w fits e = rw e refl

pub fault_again : (at : ℕ) (bytes : List ℕ) (w : InstrFault) → IsBytes bytes → HeadFault at bytes w → instr_at at bytes ≡ Err w
fault_again at [] w fits e = absurd e
fault_again at (b ∷ bytes) w fits (f, is, e) = rw (form_is b f fits.0 is) (form_fault at f bytes w fits.1 e)
