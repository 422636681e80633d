-- A whole instruction stands at the front of some bytes, or a fault; and what is read there is the one or the other.
use Rattle.std.proofs.Common.{◌≡◌, inl, inr, ℕ, ◌+◌, ℤ, pos, negsuc, ◌+ℤ◌, ◌-ℤ◌, ◌≤ℤ◌, List, [], ◌∷◌, ◌++◌, length, None, Ok, Err, refl, sym, ap, ◌∙◌, subst, arith, lit<, w16}
use Rattle.std.specs.Prelude.{◌⊎◌, Result, IfOk, IfErr}
use Rattle.std.specs.Int.{from_be_bytes}
use Rattle.std.proofs.lemmas.Bool.{cases_lt}
use Rattle.std.proofs.lemmas.Bool.Decides.{eqb_tells}
use Rattle.std.proofs.lemmas.Int.{ints, by_lt_z}
use Rattle.std.proofs.Math.IntN.{nat_abs, -ℤ-+ℤ_cancel}
use Rattle.class_code.specs.declared.fault.InstrFault.{InstrFault}
use Rattle.class_code.specs.declared.fault.InstrFault.TheVariants as instr_fault
use Rattle.class_code.specs.declared.fault.Unread.{Unread}
use Rattle.class_code.specs.declared.fault.Unread.TheVariants as unread
use Rattle.class_code.specs.declared.form.Form.{Form}
use Rattle.class_code.specs.declared.form.Form.TheVariants as form
use Rattle.class_code.specs.declared.instr.Padding.{Padding}
use Rattle.class_code.specs.declared.instr.Instr.{Instr}
use Rattle.class_code.specs.declared.instr.Instr.TheVariants as instr
use Rattle.class_code.specs.Spelling.{s4, padding_bytes, padding_len, spelling, Stands}
use Rattle.class_code.specs.Ranges.{Fits}
use Rattle.class_code.specs.Listing.{IsInstrAt}
use Rattle.class_code.specs.Forms.{IsForm}
use Rattle.class_code.specs.Faults.{IsTableHead, IsCount, IsLookupHead, last_key, FormFault, HeadFault, IfInstrFault}
use Rattle.class_code.specs.FormSearch.{form_at}
use Rattle.class_code.specs.CodeReading.{instr_at}
use Rattle.class_code.specs.Skips.{SkipsWords, SkipsPairs}
use Rattle.class_code.proofs.FormAt.{form_found}
use Rattle.class_code.proofs.Numbers.{le_false}
use Rattle.class_code.proofs.ReadBack.{read_again, not_done, done_is, failed_is}
use Rattle.class_code.proofs.FaultBack.{IsBytes, fault_again}
use Rattle.class_code.proofs.OperandCases.{u2_back, u1_or_cut, s1_or_cut, u2_or_cut, s2_or_cut, s4_or_cut, s4_of, padding_of, words_or_cut, pairs_or_fault, primitive_or_fault}
use Rattle.class_code.proofs.LenLaws.{made, made_table, made_lookup, skips_table, skips_lookup, positive}

-- a whole instruction, or what is a fault at this opcode
abbrev Case : ℕ → ℕ → Form → List ℕ → Type 0
Case at b f bytes = ((n : ℕ) × IsInstrAt at (b ∷ bytes) n) ⊎ ((why : InstrFault) × FormFault at f bytes why)

-- an instruction of this opcode, which may stand anywhere
whole : (at b : ℕ) (f : Form) (bytes after : List ℕ) (i : Instr) → Fits i → Stands at i → b ∷ bytes ≡ spelling i ++ after → Case at b f bytes
whole at b f bytes after i fits stands parts = inl (_, made at b bytes after i fits stands parts)

-- ---- tableswitch

entry_count : (low high : ℤ) → low ≤ℤ high → IsCount low high (nat_abs ((high +ℤ pos 1) -ℤ low))
entry_count low high order =
    let span : ℤ = (high +ℤ pos 1) -ℤ low in
    let least : pos 0 ≤ℤ span = omega (arith, ints, order) in
    ap (λ (z : ℤ). z +ℤ low) (sym (positive span (le_false (pos 0) span least))) ∙ -ℤ-+ℤ_cancel (high +ℤ pos 1) low

table_tail : (at : ℕ) (bytes : List ℕ) (p : Padding) (d l h : ℤ) (rest : List ℕ) → IsBytes rest → IsTableHead at bytes p d l h rest → Case at 0xaa form.TableSwitch bytes
table_tail at bytes p d l h rest fits head = by_lt_z h l
    (λ wrong. inr (instr_fault.BadOperand, inr (p, d, l, h, rest, head, inl (wrong, refl))))
    (λ order. let n : ℕ = nat_abs ((h +ℤ pos 1) -ℤ l) in
    let count : IsCount l h n = entry_count l h order in
    elim (words_or_cut n rest fits) [
      | inr cut ↦ inr (instr_fault.Truncated, inr (p, d, l, h, rest, head, inr (n, order, count, (refl, cut))))
      | inl (ws, after, parts, ranges, many, end) ↦
          let words : SkipsWords n rest after = record { words = ws; fits = ranges; count_is = many; parts = parts } in
          inl (_, made_table at bytes after (skips_table at bytes p d l h n rest after head order count words))
    ])

-- parts one behind the other
three_parts : (p d l bytes r r1 r2 : List ℕ) → bytes ≡ p ++ r → r ≡ d ++ r1 → r1 ≡ l ++ r2 → bytes ≡ p ++ (d ++ (l ++ r2))
three_parts p d l bytes r r1 r2 e e1 e2 = e ∙ ap (λ (x : List ℕ). p ++ x) (e1 ∙ ap (λ (x : List ℕ). d ++ x) e2)

table_case : (at : ℕ) (bytes : List ℕ) → IsBytes bytes → Case at 0xaa form.TableSwitch bytes
table_case at bytes fits = elim (cases_lt (length bytes) (padding_len at + 12)) [
  | inl cut ↦ inr (instr_fault.Truncated, inl (refl, cut))
  | inr enough ↦
      let (p, r, parts, place, len, left) = padding_of (padding_len at) bytes fits (omega arith) (omega (arith, enough)) in
      let (d, r1, parts1, range1, len1, left1) = s4_of r left (omega (arith, enough, len)) in
      let (l, r2, parts2, range2, len2, left2) = s4_of r1 left1 (omega (arith, enough, len, len1)) in
      let (h, r3, parts3, range3, len3, left3) = s4_of r2 left2 (omega (arith, enough, len, len1, len2)) in
      table_tail at bytes p d l h r3 left3 (record { parts = three_parts (padding_bytes p) (s4 d) (s4 l) bytes r r1 (s4 h ++ r3) parts parts1 (parts2 ∙ ap (λ (x : List ℕ). s4 l ++ x) parts3); place = place; fits = (range1, range2, range3) })
]

-- ---- lookupswitch

lookup_tail : (at : ℕ) (bytes : List ℕ) (p : Padding) (d c : ℤ) (rest : List ℕ) → IsBytes rest → IsLookupHead at bytes p d c rest → Case at 0xab form.LookupSwitch bytes
lookup_tail at bytes p d (negsuc n) rest fits head = inr (instr_fault.BadOperand, inr (p, d, negsuc n, rest, head, refl))
lookup_tail at bytes p d (pos n) rest fits head = elim (pairs_or_fault n None rest fits) [
  | inr (front, after, why, fewer, parts, ranges, rising, fault) ↦
      inr (why, inr (p, d, pos n, rest, head, record { front = front; rest = after; fewer = fewer; parts = parts; rising = rising; fits = ranges; fault = fault }))
  | inl (ps, after, parts, ranges, count, rising, end) ↦
      let pairs : SkipsPairs n (last_key None ps) rest after = record { pairs = ps; fits = ranges; count_is = count; rising = rising; last_is = refl; parts = parts } in
      inl (_, made_lookup at bytes after (skips_lookup at bytes p d (pos n) n (last_key None ps) rest after head refl head.fits.1.sfits pairs))
]

lookup_case : (at : ℕ) (bytes : List ℕ) → IsBytes bytes → Case at 0xab form.LookupSwitch bytes
lookup_case at bytes fits = elim (cases_lt (length bytes) (padding_len at + 8)) [
  | inl cut ↦ inr (instr_fault.Truncated, inl (refl, cut))
  | inr enough ↦
      let (p, r, parts, place, len, left) = padding_of (padding_len at) bytes fits (omega arith) (omega (arith, enough)) in
      let (d, r1, parts1, range1, len1, left1) = s4_of r left (omega (arith, enough, len)) in
      let (c, r2, parts2, range2, len2, left2) = s4_of r1 left1 (omega (arith, enough, len, len1)) in
      lookup_tail at bytes p d c r2 left2 (record { parts = three_parts (padding_bytes p) (s4 d) (s4 c) bytes r r1 r2 parts parts1 parts2; place = place; fits = (range1, range2) })
]

-- ---- the other forms

widened_case : (at b : ℕ) (f : Form) (bytes : List ℕ) → IsForm b f → IsBytes bytes → Case at 0xc4 form.Wide (b ∷ bytes)
widened_case at b (form.Load k) bytes is fits = elim (u2_or_cut bytes fits) [
  | inr cut ↦ inr (instr_fault.Truncated, (form.Load k, is, (refl, cut)))
  | inl (n, rest, parts, range, len, left) ↦ whole at 0xc4 form.Wide (b ∷ bytes) rest (instr.LoadWide k n) range tt (rw (is, parts) refl)
]
widened_case at b (form.Store k) bytes is fits = elim (u2_or_cut bytes fits) [
  | inr cut ↦ inr (instr_fault.Truncated, (form.Store k, is, (refl, cut)))
  | inl (n, rest, parts, range, len, left) ↦ whole at 0xc4 form.Wide (b ∷ bytes) rest (instr.StoreWide k n) range tt (rw (is, parts) refl)
]
widened_case at b form.Increment bytes is fits = elim (u2_or_cut bytes fits) [
  | inr cut ↦ inr (instr_fault.Truncated, (form.Increment, is, (refl, omega (arith, cut))))
  | inl (n, rest, parts, range, len, left) ↦ elim (s2_or_cut rest left) [
    | inr cut ↦ inr (instr_fault.Truncated, (form.Increment, is, (refl, omega (arith, cut, len))))
    | inl (by, after, parts_by, range_by, len_by, end) ↦ whole at 0xc4 form.Wide (b ∷ bytes) after (instr.IncrementWide n by) (range, range_by) tt (rw (is, parts, parts_by) refl)
  ]
]
widened_case at b form.Floating bytes is fits = inr (instr_fault.Floating, (form.Floating, is, refl))
widened_case at b form.Unsupported bytes is fits = elim (eqb_tells b 0xa9) [
  | inl (test, ret) ↦ inr (instr_fault.Unsupported, (form.Unsupported, is, inl (ret, refl)))
  | inr (test, other) ↦ inr (instr_fault.BadOperand, (form.Unsupported, is, inr (other, refl)))
]
widened_case at b f bytes is fits = inr (instr_fault.BadOperand, (f, is, refl))

wide_case : (at : ℕ) (bytes : List ℕ) → IsBytes bytes → Case at 0xc4 form.Wide bytes
wide_case at [] fits = inr (instr_fault.Truncated, refl)
wide_case at (b ∷ bytes) fits = widened_case at b (form_at b) bytes (form_found b fits.0) fits.1

interface_case : (at : ℕ) (bytes : List ℕ) → IsBytes bytes → Case at 0xb9 form.InvokeInterface bytes
interface_case at [] fits = inr (instr_fault.Truncated, (refl, lit< tt))
interface_case at (a ∷ []) fits = inr (instr_fault.Truncated, (refl, lit< tt))
interface_case at (a ∷ b ∷ []) fits = inr (instr_fault.Truncated, (refl, lit< tt))
interface_case at (a ∷ b ∷ c ∷ []) fits = inr (instr_fault.Truncated, (refl, lit< tt))
interface_case at (a ∷ b ∷ c ∷ d ∷ bytes) fits = elim (eqb_tells d 0) [
  | inr (test, other) ↦ inr (instr_fault.BadOperand, (refl, other))
  | inl (test, none) ↦
      let both = u2_back a b (c ∷ d ∷ bytes) fits in
      let index : ℕ = from_be_bytes w16 (a ∷ b ∷ []) in
      whole at 0xb9 form.InvokeInterface (a ∷ b ∷ c ∷ d ∷ bytes) bytes (instr.InvokeInterface index c) (both.0, fits.1.1.0) tt
      (ap (λ (n : ℕ). 0xb9 ∷ a ∷ b ∷ c ∷ n ∷ bytes) none ∙ ap (λ (front : List ℕ). 0xb9 ∷ front ++ c ∷ 0 ∷ bytes) (sym both.1))
]

new_array_case : (at : ℕ) (bytes : List ℕ) → IsBytes bytes → Case at 0xbc form.NewArray bytes
new_array_case at [] fits = inr (instr_fault.Truncated, refl)
new_array_case at (b ∷ bytes) fits = elim (primitive_or_fault b) [
  | inr (why, fault) ↦ inr (why, fault)
  | inl (p, code) ↦ whole at 0xbc form.NewArray (b ∷ bytes) bytes (instr.NewArray p) tt tt (rw code refl)
]

increment_case : (at : ℕ) (bytes : List ℕ) → IsBytes bytes → Case at 0x84 form.Increment bytes
increment_case at bytes fits = elim (u1_or_cut bytes fits) [
  | inr cut ↦ inr (instr_fault.Truncated, (refl, omega (arith, cut)))
  | inl (n, rest, parts, range, len, left) ↦ elim (s1_or_cut rest left) [
    | inr cut ↦ inr (instr_fault.Truncated, (refl, omega (arith, cut, len)))
    | inl (by, after, parts_by, range_by, len_by, end) ↦ whole at 0x84 form.Increment bytes after (instr.Increment n by) (range, range_by) tt (rw (parts, parts_by) refl)
  ]
]

many_case : (at : ℕ) (bytes : List ℕ) → IsBytes bytes → Case at 0xc5 form.MultiNewArray bytes
many_case at bytes fits = elim (u2_or_cut bytes fits) [
  | inr cut ↦ inr (instr_fault.Truncated, (refl, omega (arith, cut)))
  | inl (n, rest, parts, range, len, left) ↦ elim (u1_or_cut rest left) [
    | inr cut ↦ inr (instr_fault.Truncated, (refl, omega (arith, cut, len)))
    | inl (d, after, parts_d, range_d, len_d, end) ↦ whole at 0xc5 form.MultiNewArray bytes after (instr.MultiNewArray n d) (range, range_d) tt (rw (parts, parts_d) refl)
  ]
]

form_case : (at b : ℕ) (f : Form) (bytes : List ℕ) → IsForm b f → IsBytes bytes → Case at b f bytes
form_case at b (form.Simple s) bytes is fits = whole at b (form.Simple s) bytes bytes (instr.Simple s) tt tt (rw is refl)
form_case at b form.PushByte bytes is fits = elim (s1_or_cut bytes fits) [
  | inr cut ↦ inr (instr_fault.Truncated, (refl, cut))
  | inl (n, rest, parts, range, len, left) ↦ whole at b form.PushByte bytes rest (instr.PushByte n) range tt (rw (is, parts) refl)
]
form_case at b form.PushShort bytes is fits = elim (s2_or_cut bytes fits) [
  | inr cut ↦ inr (instr_fault.Truncated, (refl, cut))
  | inl (n, rest, parts, range, len, left) ↦ whole at b form.PushShort bytes rest (instr.PushShort n) range tt (rw (is, parts) refl)
]
form_case at b form.LoadConst bytes is fits = elim (u1_or_cut bytes fits) [
  | inr cut ↦ inr (instr_fault.Truncated, (refl, cut))
  | inl (n, rest, parts, range, len, left) ↦ whole at b form.LoadConst bytes rest (instr.LoadConst n) range tt (rw (is, parts) refl)
]
form_case at b (form.Load k) bytes is fits = elim (u1_or_cut bytes fits) [
  | inr cut ↦ inr (instr_fault.Truncated, (refl, cut))
  | inl (n, rest, parts, range, len, left) ↦ whole at b (form.Load k) bytes rest (instr.Load k n) range tt (rw (is, parts) refl)
]
form_case at b (form.Store k) bytes is fits = elim (u1_or_cut bytes fits) [
  | inr cut ↦ inr (instr_fault.Truncated, (refl, cut))
  | inl (n, rest, parts, range, len, left) ↦ whole at b (form.Store k) bytes rest (instr.Store k n) range tt (rw (is, parts) refl)
]
form_case at b form.Increment bytes is fits = rw is (increment_case at bytes fits)
form_case at b (form.Branch c) bytes is fits = elim (s2_or_cut bytes fits) [
  | inr cut ↦ inr (instr_fault.Truncated, (refl, cut))
  | inl (n, rest, parts, range, len, left) ↦ whole at b (form.Branch c) bytes rest (instr.Branch c n) range tt (rw (is, parts) refl)
]
form_case at b form.GotoWide bytes is fits = elim (s4_or_cut bytes fits) [
  | inr cut ↦ inr (instr_fault.Truncated, (refl, cut))
  | inl (n, rest, parts, range, len, left) ↦ whole at b form.GotoWide bytes rest (instr.GotoWide n) range tt (rw (is, parts) refl)
]
form_case at b form.TableSwitch bytes is fits = rw is (table_case at bytes fits)
form_case at b form.LookupSwitch bytes is fits = rw is (lookup_case at bytes fits)
form_case at b (form.Pool o) bytes is fits = elim (u2_or_cut bytes fits) [
  | inr cut ↦ inr (instr_fault.Truncated, (refl, cut))
  | inl (n, rest, parts, range, len, left) ↦ whole at b (form.Pool o) bytes rest (instr.Pool o n) range tt (rw (is, parts) refl)
]
form_case at b form.InvokeInterface bytes is fits = rw is (interface_case at bytes fits)
form_case at b form.NewArray bytes is fits = rw is (new_array_case at bytes fits)
form_case at b form.MultiNewArray bytes is fits = rw is (many_case at bytes fits)
form_case at b form.Wide bytes is fits = rw is (wide_case at bytes fits)
form_case at b form.Floating bytes is fits = inr (instr_fault.Floating, refl)
form_case at b form.Unsupported bytes is fits = inr (instr_fault.Unsupported, refl)

-- Some bytes begin with a whole instruction or with a fault.
pub instr_or_fault : (at b : ℕ) (bytes : List ℕ) → IsBytes (b ∷ bytes) → ((n : ℕ) × IsInstrAt at (b ∷ bytes) n) ⊎ ((why : InstrFault) × HeadFault at (b ∷ bytes) why)
instr_or_fault at b bytes fits = elim (form_case at b (form_at b) bytes (form_found b fits.0) fits.1) [
  | inl i ↦ inl i
  | inr (why, fault) ↦ inr (why, (form_at b, form_found b fits.0, fault))
]

-- ---- what is read is the one or the other

-- An instruction that may stand at this offset, at the front of these bytes, before the others.
abbrev pub IsAtFront : ℕ → List ℕ → Instr → List ℕ → Type 0
IsAtFront at bytes i rest = (bytes ≡ spelling i ++ rest) × Fits i × Stands at i

-- What is spelled at the front is read there.
pub instr_again : (at : ℕ) (bytes : List ℕ) (i : Instr) (rest : List ℕ) → IsAtFront at bytes i rest → instr_at at bytes ≡ Ok (i, rest)
instr_again at bytes i rest is = ap (instr_at at) is.0 ∙ read_again at i rest is.1 is.2

of_case : (at : ℕ) (bytes : List ℕ) (n : ℕ) (j : IsInstrAt at bytes n) (i : Instr) (rest : List ℕ) → ◌≡◌ {A = Instr × List ℕ} (j.instr, j.rest) (i, rest) → IsAtFront at bytes i rest
of_case at bytes n j i rest same =
    subst (λ (x : Instr × List ℕ). IsAtFront at bytes x.0 x.1) same (j.parts, j.fits, j.stands)

-- What is read is spelled at the front.
pub instr_found : (at : ℕ) (bytes : List ℕ) (i : Instr) (rest : List ℕ) → IsBytes bytes → instr_at at bytes ≡ Ok (i, rest) → IsAtFront at bytes i rest
instr_found at [] i rest fits e = absurd (not_done (i, rest) instr_fault.Truncated (sym e))
instr_found at (b ∷ bytes) i rest fits e = elim (instr_or_fault at b bytes fits) [
  | inl (n, j) ↦ of_case at (b ∷ bytes) n j i rest (done_is (j.instr, j.rest) (i, rest) (sym (instr_again at (b ∷ bytes) j.instr j.rest (j.parts, j.fits, j.stands)) ∙ e))
  | inr (why, fault) ↦ absurd (not_done (i, rest) why (sym e ∙ fault_again at (b ∷ bytes) why fits fault))
]

-- A fault that is read is the one of the front.
pub fault_found : (at b : ℕ) (bytes : List ℕ) (why : InstrFault) → IsBytes (b ∷ bytes) → instr_at at (b ∷ bytes) ≡ Err why → HeadFault at (b ∷ bytes) why
fault_found at b bytes why fits e = elim (instr_or_fault at b bytes fits) [
  | inl (n, j) ↦ absurd (not_done (j.instr, j.rest) why (sym (instr_again at (b ∷ bytes) j.instr j.rest (j.parts, j.fits, j.stands)) ∙ e))
  | inr (other, fault) ↦ subst (λ (w : InstrFault). HeadFault at (b ∷ bytes) w) (failed_is other why (sym (fault_again at (b ∷ bytes) other fits fault) ∙ e)) fault
]

-- ---- what a reader that answers what stands there also answers

pub read : {V : Type 0} (first : V → Instr) (after : V → List ℕ) (at : ℕ) (bytes : List ℕ) (r : Result V Unread)
    → IfOk r (λ x. (bytes ≡ spelling (first x) ++ after x) × Stands at (first x)) → IfOk r (λ x. Fits (first x)) → IfOk r (λ x. instr_at at bytes ≡ Ok (first x, after x))
read first after at bytes (Ok x) found fits = instr_again at bytes (first x) (after x) (found.0, fits, found.1)
read first after at bytes (Err e) found fits = tt

pub refused : {V : Type 0} (at : ℕ) (bytes : List ℕ) (r : Result V Unread) → IsBytes bytes
    → IfErr r (λ e. IfInstrFault e (HeadFault at bytes)) → IfErr r (λ e. IfInstrFault e (λ why. instr_at at bytes ≡ Err why))
refused at bytes (Ok x) fits fault = tt
refused at bytes (Err unread.Memory) fits fault = tt
refused at bytes (Err (unread.Fault why)) fits fault = fault_again at bytes why fits fault
