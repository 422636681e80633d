-- What is spelled at the front is the instruction that is read there.
use Rattle.std.proofs.Common.{◌≡◌, ℕ, suc, ◌+◌, ◌*◌, true, false, cond, eqb, ltb, ℤ, pos, List, [], ◌∷◌, ◌++◌, length, Option, Some, None, Ok, Err, refl, ap, ◌∙◌, append_assoc, arith, length-append, lit<}
use Rattle.std.specs.List.{flat_map, AllByRecursion}
use Rattle.std.proofs.lemmas.Bool.{le-ltb}
use Rattle.class_code.specs.declared.fault.InstrFault.TheVariants as instr_fault
use Rattle.class_code.specs.declared.form.Form.TheVariants as form
use Rattle.class_code.specs.declared.fault.InstrFault.{InstrFault}
use Rattle.class_code.specs.declared.instr.Padding.{Padding}
use Rattle.class_code.specs.declared.instr.Primitive.{Primitive}
use Rattle.class_code.specs.declared.instr.Primitive.TheVariants as primitive
use Rattle.class_code.specs.declared.instr.TableSwitch.{TableSwitch}
use Rattle.class_code.specs.declared.instr.LookupSwitch.{LookupSwitch}
use Rattle.class_code.specs.declared.instr.Instr.{Instr}
use Rattle.class_code.specs.declared.instr.Instr.TheVariants as instr
use Rattle.class_code.specs.Codes.{primitive_code}
use Rattle.class_code.specs.Spelling.{s2, s4, padding_bytes, padding_len, pair_bytes, IsAbove, Rises, IsTable, IsLookup, table_bytes, lookup_bytes, spelling, Stands}
use Rattle.class_code.specs.Ranges.{PairFits, TableFits, LookupFits, Fits}
use Rattle.class_code.specs.Faults.{IsTableHead, IsLookupHead}
use Rattle.class_code.proofs.Numbers.{lt_true, le_false, count_is, short_fits}
use Rattle.class_code.specs.OperandReading.{◌>>=◌, Read, take_u1, take_s2, primitive_at, above, take_pair, take_pairs}
use Rattle.class_code.specs.CodeReading.{count_of, table_rest, read_table, lookup_rest, read_lookup, instr_at}
use Rattle.class_code.proofs.FormAt.{simple_again, branch_again, pool_again, load_again, store_again, form_is}
use Rattle.class_code.proofs.Take.{s1_again, u2_again, s2_again, s4_again, padding_again, words_again}

primitive_again : (p : Primitive) → primitive_at (primitive_code p) ≡ Ok p
primitive_again primitive.Boolean = refl
primitive_again primitive.Char = refl
primitive_again primitive.Byte = refl
primitive_again primitive.Short = refl
primitive_again primitive.Int = refl
primitive_again primitive.Long = refl

-- ---- what was spelled is read again

pub length_s4 : (n : ℤ) → length (s4 n) ≡ 4
unfolding s4
length_s4 n = refl

length_words : (ns : List ℤ) → length (flat_map s4 ns) ≡ 4 * length ns
length_words [] = refl
length_words (n ∷ ns) = omega (arith, length-append (s4 n) (flat_map s4 ns), length_s4 n, length_words ns)

pub table_head_again : (at : ℕ) (bytes : List ℕ) (p : Padding) (d l h : ℤ) (rest : List ℕ) → IsTableHead at bytes p d l h rest → read_table at bytes ≡ table_rest p d l h rest
table_head_again at bytes p d l h rest head =
    let after : List ℕ = s4 d ++ (s4 l ++ (s4 h ++ rest)) in
    let len : length after ≡ 12 + length rest = omega (arith, length-append (s4 d) (s4 l ++ (s4 h ++ rest)), length-append (s4 l) (s4 h ++ rest), length-append (s4 h) rest, length_s4 d, length_s4 l, length_s4 h) in
    let long : ltb (length (padding_bytes p ++ after)) (padding_len at + 12) ≡ false = le-ltb _ _ (omega (arith, length-append (padding_bytes p) after, head.place)) in
    ap (read_table at) head.parts ∙ rw (long, padding_again (padding_len at) p after head.place, s4_again d (s4 l ++ (s4 h ++ rest)) head.fits.0, s4_again l (s4 h ++ rest) head.fits.1, s4_again h rest head.fits.2) refl

pub lookup_head_again : (at : ℕ) (bytes : List ℕ) (p : Padding) (d c : ℤ) (rest : List ℕ) → IsLookupHead at bytes p d c rest → read_lookup at bytes ≡ lookup_rest p d c rest
lookup_head_again at bytes p d c rest head =
    let after : List ℕ = s4 d ++ (s4 c ++ rest) in
    let len : length after ≡ 8 + length rest = omega (arith, length-append (s4 d) (s4 c ++ rest), length-append (s4 c) rest, length_s4 d, length_s4 c) in
    let long : ltb (length (padding_bytes p ++ after)) (padding_len at + 8) ≡ false = le-ltb _ _ (omega (arith, length-append (padding_bytes p) after, head.place)) in
    ap (read_lookup at) head.parts ∙ rw (long, padding_again (padding_len at) p after head.place, s4_again d (s4 c ++ rest) head.fits.0, s4_again c rest head.fits.1) refl

table_again : (at : ℕ) (t : TableSwitch) (rest : List ℕ) → TableFits t → IsTable at t → read_table at (table_bytes t ++ rest) ≡ Ok (instr.TableSwitch t, rest)
table_again at t rest fits is =
    let words : List ℕ = flat_map s4 t.offsets in
    let head : IsTableHead at (table_bytes t ++ rest) t.padding t.default t.low t.high (words ++ rest) = record { parts = simp append_assoc; place = is.padding; fits = (fits.default, fits.low, fits.high) } in
    let n : count_of t.low t.high ≡ length t.offsets = count_is t.low t.high (length t.offsets) is.count in
    let long : ltb (length (words ++ rest)) (4 * length t.offsets) ≡ false = le-ltb _ _ (omega (arith, length-append words rest, length_words t.offsets)) in
    table_head_again at (table_bytes t ++ rest) t.padding t.default t.low t.high (words ++ rest) head
    ∙ rw (le_false t.low t.high is.order, n, long, words_again t.offsets rest fits.offsets) refl

pub above_true : (last : Option ℤ) (key : ℤ) → IsAbove last key → above last key ≡ true
above_true None key h = refl
above_true (Some last) key h = lt_true last key h

pub pair_again : (last : Option ℤ) (p : ℤ × ℤ) (rest : List ℕ) → PairFits p → IsAbove last p.0 → take_pair last (pair_bytes p ++ rest) ≡ Ok (p, rest)
pair_again last p rest fits rises =
    let regrouped : pair_bytes p ++ rest ≡ s4 p.0 ++ (s4 p.1 ++ rest) = append_assoc (s4 p.0) (s4 p.1) rest in
    ap (take_pair last) regrouped ∙ rw (s4_again p.0 (s4 p.1 ++ rest) fits.0, above_true last p.0 rises, s4_again p.1 rest fits.1) refl

pairs_again : (last : Option ℤ) (ps : List (ℤ × ℤ)) (rest : List ℕ) → AllByRecursion PairFits ps → Rises last ps → take_pairs (length ps) last (flat_map pair_bytes ps ++ rest) ≡ Ok (ps, rest)
pairs_again last [] rest fits rises = refl
pairs_again last (p ∷ ps) rest fits rises =
    let regrouped : flat_map pair_bytes (p ∷ ps) ++ rest ≡ pair_bytes p ++ (flat_map pair_bytes ps ++ rest) = append_assoc (pair_bytes p) (flat_map pair_bytes ps) rest in
    ap (take_pairs (suc (length ps)) last) regrouped ∙ rw (pair_again last p (flat_map pair_bytes ps ++ rest) fits.0 rises.0, pairs_again (Some p.0) ps rest fits.1 rises.1) refl

lookup_again : (at : ℕ) (l : LookupSwitch) (rest : List ℕ) → LookupFits l → IsLookup at l → read_lookup at (lookup_bytes l ++ rest) ≡ Ok (instr.LookupSwitch l, rest)
lookup_again at l rest fits is =
    let pairs : List ℕ = flat_map pair_bytes l.pairs in
    let head : IsLookupHead at (lookup_bytes l ++ rest) l.padding l.default (pos (length l.pairs)) (pairs ++ rest) = record { parts = simp append_assoc; place = is.padding; fits = (fits.default, short_fits (length l.pairs) is.count) } in
    lookup_head_again at (lookup_bytes l ++ rest) l.padding l.default (pos (length l.pairs)) (pairs ++ rest) head
    ∙ rw (pairs_again None l.pairs rest fits.pairs is.rising) refl

-- ---- what reading answers

abbrev pub done : Instr × List ℕ → Read Instr
done x = Ok x

abbrev pub failed : InstrFault → Read Instr
failed why = Err why

pub not_done : (x : Instr × List ℕ) (why : InstrFault) → done x ≡ failed why → ⊥
not_done x why e = cc

pub done_is : (x y : Instr × List ℕ) → done x ≡ done y → x ≡ y
done_is x y e = cc

pub failed_is : (why other : InstrFault) → failed why ≡ failed other → why ≡ other
failed_is why other e = cc

-- an instruction that is spelled at the front is the one that is read there
pub read_again : (at : ℕ) (i : Instr) (rest : List ℕ) → Fits i → Stands at i → instr_at at (spelling i ++ rest) ≡ Ok (i, rest)
read_again at (instr.Simple s) rest fits stands = rw (simple_again s) refl
read_again at (instr.PushByte n) rest fits stands = rw (form_is 0x10 form.PushByte (lit< tt) refl) (ap (λ (r : Read ℤ). r >>= λ n. Ok (instr.PushByte n.0, n.1)) (s1_again n rest fits))
read_again at (instr.PushShort n) rest fits stands = rw (form_is 0x11 form.PushShort (lit< tt) refl) (ap (λ (r : Read ℤ). r >>= λ n. Ok (instr.PushShort n.0, n.1)) (s2_again n rest fits))
read_again at (instr.LoadConst index) rest fits stands = rw (form_is 0x12 form.LoadConst (lit< tt) refl) refl
read_again at (instr.Load k place) rest fits stands = rw (load_again k) refl
read_again at (instr.LoadWide k place) rest fits stands = rw (form_is 0xc4 form.Wide (lit< tt) refl, load_again k) (ap (λ (r : Read ℕ). r >>= λ n. Ok (instr.LoadWide k n.0, n.1)) (u2_again place rest fits))
read_again at (instr.Store k place) rest fits stands = rw (store_again k) refl
read_again at (instr.StoreWide k place) rest fits stands = rw (form_is 0xc4 form.Wide (lit< tt) refl, store_again k) (ap (λ (r : Read ℕ). r >>= λ n. Ok (instr.StoreWide k n.0, n.1)) (u2_again place rest fits))
read_again at (instr.Increment place by) rest fits stands = rw (form_is 0x84 form.Increment (lit< tt) refl) (ap (λ (r : Read ℤ). r >>= λ by. Ok (instr.Increment place by.0, by.1)) (s1_again by rest fits.1))
read_again at (instr.IncrementWide place by) rest fits stands = rw (form_is 0xc4 form.Wide (lit< tt) refl, form_is 0x84 form.Increment (lit< tt) refl)
    (ap (λ (r : Read ℕ). r >>= λ n. take_s2 n.1 >>= λ by. Ok (instr.IncrementWide n.0 by.0, by.1)) (u2_again place (s2 by ++ rest) fits.0)
    ∙ ap (λ (r : Read ℤ). r >>= λ by. Ok (instr.IncrementWide place by.0, by.1)) (s2_again by rest fits.1))
read_again at (instr.Branch when by) rest fits stands = rw (branch_again when) (ap (λ (r : Read ℤ). r >>= λ n. Ok (instr.Branch when n.0, n.1)) (s2_again by rest fits))
read_again at (instr.GotoWide by) rest fits stands = rw (form_is 0xc8 form.GotoWide (lit< tt) refl, s4_again by rest fits) refl
read_again at (instr.TableSwitch t) rest fits stands = rw (form_is 0xaa form.TableSwitch (lit< tt) refl) (table_again at t rest fits stands)
read_again at (instr.LookupSwitch l) rest fits stands = rw (form_is 0xab form.LookupSwitch (lit< tt) refl) (lookup_again at l rest fits stands)
read_again at (instr.Pool o index) rest fits stands = rw (pool_again o) (ap (λ (r : Read ℕ). r >>= λ n. Ok (instr.Pool o n.0, n.1)) (u2_again index rest fits))
read_again at (instr.InvokeInterface index count) rest fits stands = rw (form_is 0xb9 form.InvokeInterface (lit< tt) refl) (ap (λ (r : Read ℕ). r >>= λ i. take_u1 i.1 >>= λ c. take_u1 c.1 >>= λ z. cond (eqb z.0 0) (Ok (instr.InvokeInterface i.0 c.0, z.1)) (Err instr_fault.BadOperand)) (u2_again index (count ∷ 0 ∷ rest) fits.0))
read_again at (instr.NewArray of) rest fits stands = rw (form_is 0xbc form.NewArray (lit< tt) refl, primitive_again of) refl
read_again at (instr.MultiNewArray index dimensions) rest fits stands = rw (form_is 0xc5 form.MultiNewArray (lit< tt) refl) (ap (λ (r : Read ℕ). r >>= λ i. take_u1 i.1 >>= λ d. Ok (instr.MultiNewArray i.0 d.0, d.1)) (u2_again index (dimensions ∷ rest) fits.0))
read_again at (instr.PushInt n) rest fits stands = absurd fits
read_again at (instr.PushLong n) rest fits stands = absurd fits
