-- The laws of a code's array: its length, its bytes, and the list of instructions that they are.
use Rattle.std.proofs.Common.{◌≡◌, ℕ, ◌+◌, ◌^◌, ◌<◌, ◌≤◌, true, false, List, ◌++◌, length, take, drop, Option, Some, None, Result, Ok, Err, refl, sym, ap, subst, ◌∙◌, append_assoc, length-append, arith}
use Rattle.std.specs.Prelude.{nat_lt}
use Rattle.std.proofs.lemmas.Bool.{and_parts, ltb-true, lt-ltb, ltb-false, le-ltb}
use Rattle.std.proofs.lemmas.List.{length-take, length-take-le, take-append-drop}
use Rattle.std.proofs.Math.Seq.{take-append_seam, drop-append_seam}
use Rattle.class_code.specs.declared.instr.Instr.{Instr}
use Rattle.class_code.specs.declared.fault.InstrFault.{InstrFault}
use Rattle.class_code.specs.Listing.{astray}
use Rattle.class_code.specs.CodeReading.{if_none_astray, list_of}
use Rattle.class_code.specs.CodeReading.{instrs_from as all_from, instrs_of as all_of}
use Rattle.class_code.proofs.Listings.{Pairs}
use Rattle.class_tree.specs.declared.pool.Const.{Const}
use Rattle.class_tree.specs.Ranges.{is_u4, are_bytes}
use Rattle.class_tree.specs.Spelling as bytes_of
use Rattle.class_tree.specs.CodeRules.{is_code_length}
use Rattle.classfile_items.specs.declared.fault.ReadClassFault.TheVariants.{BadLength, BadCode}
use Rattle.classfile_items.specs.Reading.{provided, offset}
use Rattle.classfile_items.specs.Reading.{FaultOf, faultless}
use Rattle.classfile_code.specs.CodeReading.{instrs, astray_fault, listed, code_array}
use Rattle.classfile_items.proofs.Laws.{steps_of, bytes_before, bytes_behind}
use Rattle.classfile_items.proofs.StepLaws.{StandsAs, Knows, sound_steps, provided_of, joined}
use Rattle.classfile_items.proofs.NumberLaws.{u4_sound, u4_complete}
use Rattle.classfile_items.proofs.FaultLaws.{faultless_of}
use Rattle.classfile_code.proofs.InstrLaws.{are_met, instrs_sound, instrs_complete}

-- ---- the list

abbrev leads : ℕ → Option (ℕ × Instr) → FaultOf
leads at None = None
leads at (Some p) = Some (BadCode (at + p.0))

leads_none : (at : ℕ) (o : Option (ℕ × Instr)) → leads at o ≡ None → o ≡ None
leads_none at None e = refl
leads_none at (Some p) e = cc

list_from : (code : List ℕ) (list : Pairs) → all_of code ≡ Ok list → astray list ≡ None → list_of code ≡ Some list
list_from code list read lands = ap if_none_astray read ∙ rw lands refl

-- the list of a code
record ListParts (code : List ℕ) (list : Pairs) : Type 0 where
  read : all_of code ≡ Ok list
  lands : astray list ≡ None

by_astray : (code : List ℕ) (list other : Pairs) (o : Option (ℕ × Instr)) → all_of code ≡ Ok other → astray other ≡ o → if_none_astray (Ok other) ≡ Some list → ListParts code list
by_astray code list other None read lands e =
    let none : if_none_astray (Ok other) ≡ Some other = rw lands refl in
    let same : other ≡ list = cc in
    subst (ListParts code) same (record { read = read; lands = lands })
by_astray code list other (Some p) read lands e =
    let none : if_none_astray (Ok other) ≡ None = rw lands refl in
    cc

by_read : (code : List ℕ) (list : Pairs) (read : Result Pairs (InstrFault × ℕ)) → all_of code ≡ read → if_none_astray read ≡ Some list → ListParts code list
by_read code list (Ok other) is e = by_astray code list other (astray other) is refl e
by_read code list (Err stop) is e = cc

list_parts : (code : List ℕ) (list : Pairs) → list_of code ≡ Some list → ListParts code list
list_parts code list e = by_read code list (all_of code) refl e

-- ---- the array

-- A code of this length, and its list, stand at the front.
record ListedStands (major : ℕ) (pool : List Const) (len : ℕ) (bytes : List ℕ) (x : (List ℕ × Pairs) × List ℕ) : Type 0 where
  number : length x.0.0 ≡ len
  spelled : bytes ≡ x.0.0 ++ x.1
  list : list_of x.0.0 ≡ Some x.0.1
  met : are_met major pool x.0.1 ≡ true

short_take : (len : ℕ) (bytes : List ℕ) → length (take len bytes) ≤ len
short_take len bytes = omega (arith, length-take {A = ℕ})

cut_take : (len : ℕ) (bytes : List ℕ) → nat_lt (length bytes) len ≡ true → length (take len bytes) < len
cut_take len bytes cut = let less : length bytes < len = ltb-true (length bytes) len cut in omega (arith, length-take {A = ℕ})

listed_sound : (major : ℕ) (pool : List Const) (end len : ℕ) (bytes : List ℕ) (x : (List ℕ × Pairs) × List ℕ) → are_bytes bytes ≡ true → listed major pool end len bytes ≡ Ok x → ListedStands major pool len bytes x
listed_sound major pool end len bytes x are e =
    let s = steps_of (instrs major pool end len bytes) _ x e in
    let list : Pairs = s.value in
    let p = faultless_of (astray_fault (offset end bytes) list) ((take len bytes, list), drop len bytes) x s.second in
    let parts : take len bytes ++ drop len bytes ≡ bytes = take-append-drop len bytes in
    let front : are_bytes (take len bytes) ≡ true = bytes_before (take len bytes) (drop len bytes) (ap are_bytes parts ∙ are) in
    let i = instrs_sound major pool end (nat_lt (length bytes) len) (offset end bytes) len 0 (take len bytes) list front (short_take len bytes) (cut_take len bytes) s.first in
    let number : length (take len bytes) ≡ len = length-take-le len bytes (ltb-false (length bytes) len i.whole) in
    let read : all_of (take len bytes) ≡ Ok list = ap (λ (n : ℕ). all_from n 0 (take len bytes)) number ∙ i.read in
    subst (ListedStands major pool len bytes) p.same (record {
      number = number;
      spelled = sym parts;
      list = list_from (take len bytes) list read (leads_none (offset end bytes) (astray list) p.none);
      met = i.met;
    })

listed_complete : (major : ℕ) (pool : List Const) (end : ℕ) (code rest : List ℕ) (list : Pairs) → are_bytes code ≡ true → list_of code ≡ Some list → are_met major pool list ≡ true → listed major pool end (length code) (code ++ rest) ≡ Ok ((code, list), rest)
listed_complete major pool end code rest list are is met =
    let p = list_parts code list is in
    let whole : nat_lt (length (code ++ rest)) (length code) ≡ false = le-ltb _ _ (omega (arith, length-append code rest)) in
    let read = instrs_complete major pool end (offset end (code ++ rest)) (length code) 0 code list are p.read met in
    rw (take-append_seam code rest, drop-append_seam code rest, whole, read)
    (ap (λ (o : Option (ℕ × Instr)). faultless (leads (offset end (code ++ rest)) o) ((code, list), rest)) p.lands)

-- what is known of an array and its list
pub record IsArray (major : ℕ) (pool : List Const) (x : List ℕ × Pairs) : Type 0 where
  pub ranged : is_code_length (length x.0) ≡ true
  pub are : are_bytes x.0 ≡ true
  pub list : list_of x.0 ≡ Some x.1
  pub met : are_met major pool x.1 ≡ true

abbrev array_bytes : List ℕ × Pairs → List ℕ
array_bytes x = bytes_of.u4 (length x.0) ++ x.0

array_stands : (major : ℕ) (pool : List Const) (end : ℕ) (bytes : List ℕ) (x : (List ℕ × Pairs) × List ℕ) → are_bytes bytes ≡ true → code_array major pool end bytes ≡ Ok x → StandsAs array_bytes (IsArray major pool) bytes x
array_stands major pool end bytes x are e =
    let n = sound_steps (u4_sound end) bytes _ x are e in
    let s = steps_of (provided (is_code_length n.value) (BadLength (offset end bytes)) (n.value, n.rest)) _ x n.second in
    let p = provided_of (is_code_length n.value) (BadLength (offset end bytes)) (n.value, n.rest) s.value s.first in
    let found : listed major pool end n.value n.rest ≡ Ok x = ap (λ (m : ℕ × List ℕ). listed major pool end m.0 m.1) p.same ∙ s.second in
    let l = listed_sound major pool end n.value n.rest x n.first.left found in
    let both : are_bytes (x.0.0 ++ x.1) ≡ true = ap are_bytes (sym l.spelled) ∙ n.first.left in
    record {
      spelled = joined (bytes_of.u4 (length x.0.0)) x.0.0 x.1 (n.first.spelled ∙ ap (λ (k : ℕ). bytes_of.u4 k ++ n.rest) (sym l.number)) l.spelled;
      fact = record { ranged = ap is_code_length l.number ∙ p.holds; are = bytes_before x.0.0 x.1 both; list = l.list; met = l.met };
      left = bytes_behind x.0.0 x.1 both;
    }

pub array_known : (major : ℕ) (pool : List Const) (end : ℕ) → Knows (code_array major pool end) array_bytes (IsArray major pool)
array_known major pool end = record { stands = array_stands major pool end }

pub array_complete : (major : ℕ) (pool : List Const) (end : ℕ) (code rest : List ℕ) (list : Pairs) → is_code_length (length code) ≡ true → are_bytes code ≡ true → list_of code ≡ Some list → are_met major pool list ≡ true → code_array major pool end ((bytes_of.u4 (length code) ++ code) ++ rest) ≡ Ok ((code, list), rest)
array_complete major pool end code rest list ranged are is met =
    let below : length code < 65536 = ltb-true (length code) 65536 (and_parts (nat_lt 0 (length code)) _ ranged).1 in
    let fits : is_u4 (length code) ≡ true = lt-ltb (length code) (2 ^ 32) (omega arith) in
    rw (append_assoc (bytes_of.u4 (length code)) code rest, u4_complete end (length code) (code ++ rest) fits, ranged) (listed_complete major pool end code rest list are is met)
