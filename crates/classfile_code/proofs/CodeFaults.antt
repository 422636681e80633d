-- The laws of a code that is whole in the file.
use Rattle.std.proofs.Common.{◌≡◌, inl, inr, ℕ, zero, suc, ◌+◌, ◌-◌, ◌≤◌, ◌<◌, Bool, true, false, List, [], ◌∷◌, ◌++◌, length, take, drop, Option, Some, None, Ok, Err, refl, sym, ap, ◌∙◌, subst, append_assoc, length-append, arith}
use Rattle.std.proofs.lemmas.Bool.{and_parts, and_from, le-ltb}
use Rattle.std.proofs.lemmas.List.{append-nil, length-take-le, take-append-drop}
use Rattle.class_code.specs.declared.instr.Instr.{Instr}
use Rattle.class_code.specs.declared.fault.InstrFault.{InstrFault}
use Rattle.class_code.specs.declared.fault.InstrFault.TheVariants as instr_fault
use Rattle.class_code.specs.Spelling.{spelling}
use Rattle.class_code.specs.PoolUses.{pool_use, pool_use_at}
use Rattle.class_code.specs.Listing.{spelled, InPlace, IsSpelled, astray}
use Rattle.class_code.specs.CodeReading.{instr_at, instrs_of}
use Rattle.class_code.specs.CodeReading.{instrs_from as all_from}
use Rattle.class_code.proofs.FaultBack.{IsBytes, fault_again}
use Rattle.class_code.proofs.Listings.{Pairs, first_read}
use Rattle.class_code.proofs.LenLaws.{has_first}
use Rattle.class_code.proofs.ListCases.{instrs_again, instrs_found}
use Rattle.class_code.proofs.InstrCases.{instr_or_fault, instr_found}
use Rattle.class_code.proofs.ReadBack.{read_again}
use Rattle.class_tree.specs.declared.pool.Const.{Const}
use Rattle.class_tree.specs.Ranges.{are_bytes}
use Rattle.class_tree.specs.CodeRules.{is_met}
use Rattle.classfile_items.specs.declared.fault.ReadClassFault.{ReadClassFault}
use Rattle.classfile_items.specs.declared.fault.ReadClassFault.TheVariants.{BadIndex, BadCode}
use Rattle.classfile_items.specs.Reading.{Checked, Found, ◌>>=◌, unless, faultless, offset}
use Rattle.classfile_items.proofs.Laws.{bytes_before, bytes_behind}
use Rattle.classfile_code.specs.CodeReading.{stopped, or_stopped, instr_of, instrs_from, astray_fault, listed}
use Rattle.classfile_code.specs.CodeLaws.{FrontStands, instr_fault_at, IsHeadFault, IsCodeFault}
use Rattle.classfile_code.proofs.InstrLaws.{are_met, each_byte, instr_sound, instr_complete, instrs_sound, instrs_complete}

module _ (major : ℕ) (pool : List Const) (end : ℕ) where
  -- ---- one instruction

  head_met : (at pc : ℕ) (bytes : List ℕ) (why : InstrFault) (met : Bool) → met ≡ true → instr_at pc bytes ≡ Err why → (faultless (unless met (BadIndex (at + 1))) bytes >>= λ b. or_stopped end false at (instr_at pc b)) ≡ Err (instr_fault_at at why)
  head_met at pc bytes instr_fault.Floating met is e = rw is (ap (or_stopped end false at) e)
  head_met at pc bytes instr_fault.Unsupported met is e = rw is (ap (or_stopped end false at) e)
  head_met at pc bytes instr_fault.Truncated met is e = rw is (ap (or_stopped end false at) e)
  head_met at pc bytes instr_fault.BadOperand met is e = rw is (ap (or_stopped end false at) e)

  head_unmet : (at pc : ℕ) (bytes : List ℕ) (met : Bool) → met ≡ false → (faultless (unless met (BadIndex (at + 1))) bytes >>= λ b. or_stopped end false at (instr_at pc b)) ≡ Err (BadIndex (at + 1))
  head_unmet at pc bytes met is = rw is refl

  head_shows : (at pc : ℕ) (bytes : List ℕ) (fault : ReadClassFault) → IsBytes bytes → IsHeadFault major pool at pc bytes fault → instr_of major pool end false at pc bytes ≡ Err fault
  head_shows at pc bytes fault fits (inl (unmet, is)) = head_unmet at pc bytes (is_met major pool (pool_use_at bytes)) unmet ∙ ap (λ (f : ReadClassFault). Err f) (sym is)
  head_shows at pc bytes fault fits (inr (why, met, wrong, is)) =
      head_met at pc bytes why (is_met major pool (pool_use_at bytes)) met (fault_again pc bytes why fits wrong) ∙ ap (λ (f : ReadClassFault). Err f) (sym is)

  -- ---- behind instructions that are right

  head_stops : (most at pc : ℕ) (rest : List ℕ) (fault : ReadClassFault) → are_bytes rest ≡ true → length rest ≤ most → IsHeadFault major pool at pc rest fault → instrs_from major pool end false at most pc rest ≡ Err fault
  head_stops most at pc [] fault are le (inl (unmet, is)) = cc
  head_stops most at pc [] fault are le (inr (why, met, wrong, is)) = absurd wrong
  head_stops zero at pc (b ∷ bytes) fault are le wrong = absurd (omega (arith, le))
  head_stops (suc n) at pc (b ∷ bytes) fault are le wrong =
      ap (λ (r : Found Instr). r >>= λ i. let len = length (b ∷ bytes) - length i.1 in instrs_from major pool end false (at + len) n (pc + len) i.1 >>= λ is. Ok ((pc, i.0) ∷ is))
      (head_shows at pc (b ∷ bytes) fault (each_byte (b ∷ bytes) are) wrong)

  one_more : (n at pc : ℕ) (bytes : List ℕ) (x : Instr × List ℕ) → 0 < length bytes → instr_of major pool end false at pc bytes ≡ Ok x → instrs_from major pool end false at (suc n) pc bytes ≡ (instrs_from major pool end false (at + (length bytes - length x.1)) n (pc + (length bytes - length x.1)) x.1 >>= λ is. Ok ((pc, x.0) ∷ is))
  one_more n at pc [] x some e = absurd (omega (arith, some))
  one_more n at pc (b ∷ bytes) x some e =
      ap (λ (r : Found Instr). r >>= λ i. let len = length (b ∷ bytes) - length i.1 in instrs_from major pool end false (at + len) n (pc + len) i.1 >>= λ is. Ok ((pc, i.0) ∷ is)) e

  moved : (at pc o p : ℕ) (rest : List ℕ) (fault : ReadClassFault) → at ≡ o → pc ≡ p → IsHeadFault major pool at pc rest fault → IsHeadFault major pool o p rest fault
  moved at pc o p rest fault here there wrong = subst (λ (n : ℕ). IsHeadFault major pool n p rest fault) here (subst (λ (n : ℕ). IsHeadFault major pool at n rest fault) there wrong)

  front_shows : (most at pc : ℕ) (front : Pairs) (rest : List ℕ) (fault : ReadClassFault) → are_bytes (spelled front ++ rest) ≡ true → InPlace pc front → are_met major pool front ≡ true → length (spelled front ++ rest) ≤ most
      → IsHeadFault major pool (at + length (spelled front)) (pc + length (spelled front)) rest fault → instrs_from major pool end false at most pc (spelled front ++ rest) ≡ Err fault
  front_shows most at pc [] rest fault are place met le wrong = head_stops most at pc rest fault are le (moved (at + 0) (pc + 0) at pc rest fault (omega arith) (omega arith) wrong)
  front_shows zero at pc (p ∷ ps) rest fault are place met le wrong = absurd (omega (arith, le, has_first p.1 place.1, length-append (spelling p.1) (spelled ps), length-append (spelling p.1 ++ spelled ps) rest))
  front_shows (suc n) at pc (p ∷ ps) rest fault are place met le wrong =
      let first : ℕ = length (spelling p.1) in
      let others : List ℕ = spelled ps ++ rest in
      let grouped : spelled (p ∷ ps) ++ rest ≡ spelling p.1 ++ others = append_assoc (spelling p.1) (spelled ps) rest in
      let len : length (spelled (p ∷ ps) ++ rest) ≡ first + length others = ap length grouped ∙ length-append (spelling p.1) others in
      let step : length (spelled (p ∷ ps) ++ rest) - length others ≡ first = omega (arith, len) in
      let m = and_parts (is_met major pool (pool_use p.1)) _ met in
      let here = instr_complete major pool end false at pc (spelled (p ∷ ps) ++ rest) (p.1, others) are (first_read pc p ps rest place) m.0 in
      let all : length (spelled (p ∷ ps)) ≡ first + length (spelled ps) = length-append (spelling p.1) (spelled ps) in
      let behind = moved (at + length (spelled (p ∷ ps))) (pc + length (spelled (p ∷ ps))) ((at + first) + length (spelled ps)) ((pc + first) + length (spelled ps)) rest fault (omega (arith, all)) (omega (arith, all)) wrong in
      let more = front_shows n (at + first) (pc + first) ps rest fault (bytes_behind (spelling p.1) others (ap are_bytes (sym grouped) ∙ are)) place.3 m.1 (omega (arith, le, len, has_first p.1 place.1)) behind in
      one_more n at pc (spelled (p ∷ ps) ++ rest) (p.1, others) (omega (arith, len, has_first p.1 place.1)) here
      ∙ ap (λ (o : ℕ). instrs_from major pool end false (at + o) n (pc + o) others >>= λ is. Ok ((pc, p.1) ∷ is)) step
      ∙ ap (λ (r : Checked Pairs). r >>= λ is. Ok ((pc, p.1) ∷ is)) more

-- ---- a whole code

-- what is found of it, once its instructions are known
abbrev listed_by : ℕ → ℕ → List ℕ → Checked Pairs → Found (List ℕ × Pairs)
listed_by start len bytes found = found >>= λ list. faultless (astray_fault start list) ((take len bytes, list), drop len bytes)

listed_whole : (major : ℕ) (pool : List Const) (end len : ℕ) (bytes : List ℕ) → len ≤ length bytes → listed major pool end len bytes ≡ listed_by (offset end bytes) len bytes (instrs_from major pool end false (offset end bytes) len 0 (take len bytes))
listed_whole major pool end len bytes room =
    ap (λ (c : Bool). listed_by (offset end bytes) len bytes (instrs_from major pool end c (offset end bytes) len 0 (take len bytes))) (le-ltb (length bytes) len room)

code_bytes : (len : ℕ) (bytes : List ℕ) → are_bytes bytes ≡ true → are_bytes (take len bytes) ≡ true
code_bytes len bytes are = bytes_before (take len bytes) (drop len bytes) (ap are_bytes (take-append-drop len bytes) ∙ are)

pub code_fault_shows : (major : ℕ) (pool : List Const) (end len : ℕ) (bytes : List ℕ) (fault : ReadClassFault) → len ≤ length bytes → are_bytes bytes ≡ true → IsCodeFault major pool (offset end bytes) (take len bytes) fault → listed major pool end len bytes ≡ Err fault
code_fault_shows major pool end len bytes fault room are (inl (front, rest, stands, wrong)) =
    let start = offset end bytes in
    let long : length (spelled front ++ rest) ≤ len = omega (arith, ap length stands.parts, length-take-le len bytes room) in
    let head = moved major pool end (start + length (spelled front)) (length (spelled front)) (start + length (spelled front)) (0 + length (spelled front)) rest fault refl (omega arith) wrong in
    let read : instrs_from major pool end false start len 0 (take len bytes) ≡ Err fault =
    ap (instrs_from major pool end false start len 0) stands.parts
    ∙ front_shows major pool end len start 0 front rest fault (ap are_bytes (sym stands.parts) ∙ code_bytes len bytes are) stands.in_place stands.met long head in
    listed_whole major pool end len bytes room ∙ ap (listed_by start len bytes) read
code_fault_shows major pool end len bytes fault room are (inr (list, p, stands, off, is)) =
    let start = offset end bytes in
    let code = take len bytes in
    let whole : IsSpelled code list = record { whole = stands.parts ∙ append-nil (spelled list); in_place = stands.in_place } in
    let all : instrs_from major pool end false start (length code) 0 code ≡ Ok list = instrs_complete major pool end start (length code) 0 code list (code_bytes len bytes are) (instrs_again code list whole) stands.met in
    let read : instrs_from major pool end false start len 0 code ≡ Ok list = ap (λ (n : ℕ). instrs_from major pool end false start n 0 code) (sym (length-take-le len bytes room)) ∙ all in
    let lost : astray_fault start list ≡ Some (BadCode (start + p.0)) = ap (λ (o : Option (ℕ × Instr)). elim o as (λ _. Option ReadClassFault) [ None ↦ None | Some q ↦ Some (BadCode (start + q.0)) ]) off in
    listed_whole major pool end len bytes room ∙ ap (listed_by start len bytes) read
    ∙ ap (λ (f : Option ReadClassFault). faultless f ((code, list), drop len bytes)) lost ∙ ap (λ (f : ReadClassFault). Err f) (sym is)

-- ---- and no other fault

stopped_is : (end at : ℕ) (why : InstrFault) → stopped end false at why ≡ instr_fault_at at why
stopped_is end at instr_fault.Floating = refl
stopped_is end at instr_fault.Unsupported = refl
stopped_is end at instr_fault.Truncated = refl
stopped_is end at instr_fault.BadOperand = refl

not_found : {A : Type 0} (x : A) (fault : ReadClassFault) → ◌≡◌ {A = Checked A} (Ok x) (Err fault) → ⊥
not_found x fault e = cc

fault_is : {A : Type 0} (fault other : ReadClassFault) → ◌≡◌ {A = Checked A} (Err fault) (Err other) → fault ≡ other
fault_is fault other e = cc

-- where instructions end with this fault
record Ends (major : ℕ) (pool : List Const) (at pc : ℕ) (bytes : List ℕ) (fault : ReadClassFault) : Type 0 where
  front : Pairs
  rest : List ℕ
  parts : bytes ≡ spelled front ++ rest
  in_place : InPlace pc front
  met : are_met major pool front ≡ true
  wrong : IsHeadFault major pool (at + length (spelled front)) (pc + length (spelled front)) rest fault

rest_fails : {A B : Type 0} (found : Checked A) (f : A → B) (fault : ReadClassFault) → (found >>= λ x. Ok (f x)) ≡ Err fault → found ≡ Err fault
rest_fails (Ok x) f fault e = cc
rest_fails (Err other) f fault e = let same : other ≡ fault = cc in ap (λ (why : ReadClassFault). Err why) same

module _ (major : ℕ) (pool : List Const) (end : ℕ) where
  head_by : (at pc b : ℕ) (bytes : List ℕ) (fault : ReadClassFault) (met : Bool) → are_bytes (b ∷ bytes) ≡ true → is_met major pool (pool_use_at (b ∷ bytes)) ≡ met
      → (faultless (unless met (BadIndex (at + 1))) (b ∷ bytes) >>= λ c. or_stopped end false at (instr_at pc c)) ≡ Err fault → IsHeadFault major pool at pc (b ∷ bytes) fault
  head_by at pc b bytes fault false are is e = let same : fault ≡ BadIndex (at + 1) = cc in inl (is, same)
  head_by at pc b bytes fault true are is e = elim (instr_or_fault pc b bytes (each_byte (b ∷ bytes) are)) [
    | inl (k, i) ↦
        let read : instr_at pc (b ∷ bytes) ≡ Ok (i.instr, i.rest) = ap (instr_at pc) i.parts ∙ read_again pc i.instr i.rest i.fits i.stands in
        let clash : ◌≡◌ {A = Found Instr} (Ok (i.instr, i.rest)) (Err fault) = sym (ap (or_stopped end false at) read) ∙ e in
        absurd (not_found (i.instr, i.rest) fault clash)
    | inr (why, wrong) ↦
        let both : ◌≡◌ {A = Found Instr} (Err (stopped end false at why)) (Err fault) = sym (ap (or_stopped end false at) (fault_again pc (b ∷ bytes) why (each_byte (b ∷ bytes) are) wrong)) ∙ e in
        inr (why, is, wrong, sym (fault_is (stopped end false at why) fault both) ∙ stopped_is end at why)
  ]

  ends : (most at pc : ℕ) (bytes : List ℕ) (fault : ReadClassFault) → are_bytes bytes ≡ true → length bytes ≤ most → instrs_from major pool end false at most pc bytes ≡ Err fault → Ends major pool at pc bytes fault
  ends zero at pc bytes fault are le e = cc
  ends (suc n) at pc [] fault are le e = cc
  ends (suc n) at pc (b ∷ bytes) fault are le e =
      elim (instr_of major pool end false at pc (b ∷ bytes)) as (λ r. instr_of major pool end false at pc (b ∷ bytes) ≡ r → (r >>= λ i. let len = length (b ∷ bytes) - length i.1 in instrs_from major pool end false (at + len) n (pc + len) i.1 >>= λ is. Ok ((pc, i.0) ∷ is)) ≡ Err fault → Ends major pool at pc (b ∷ bytes) fault) [
        | Err other ↦ λ found f.
            let wrong = head_by at pc b bytes fault (is_met major pool (pool_use_at (b ∷ bytes))) are refl (found ∙ ap (λ (why : ReadClassFault). Err why) (fault_is other fault f)) in
            record { front = []; rest = b ∷ bytes; parts = refl; in_place = tt; met = refl; wrong = moved major pool end at pc (at + 0) (pc + 0) (b ∷ bytes) fault (omega arith) (omega arith) wrong }
        | Ok i ↦ λ found f.
            let s = instr_sound major pool end false at pc (b ∷ bytes) i are found in
            let here = instr_found pc (b ∷ bytes) i.0 i.1 (each_byte (b ∷ bytes) are) s.read in
            let first : ℕ = length (spelling i.0) in
            let len : ℕ = length (b ∷ bytes) - length i.1 in
            let len_is : len ≡ first = omega (arith, ap length here.0, length-append (spelling i.0) i.1) in
            let others = ends n (at + len) (pc + len) i.1 fault s.left (omega (arith, le, s.shorter)) (rest_fails (instrs_from major pool end false (at + len) n (pc + len) i.1) (λ is. (pc, i.0) ∷ is) fault f) in
            let all : length (spelled ((pc, i.0) ∷ others.front)) ≡ first + length (spelled others.front) = length-append (spelling i.0) (spelled others.front) in
            record {
              front = (pc, i.0) ∷ others.front;
              rest = others.rest;
              parts = here.0 ∙ ap (λ (r : List ℕ). spelling i.0 ++ r) others.parts ∙ sym (append_assoc (spelling i.0) (spelled others.front) others.rest);
              in_place = (refl, here.1, here.2, subst (λ (o : ℕ). InPlace (pc + o) others.front) len_is others.in_place);
              met = and_from _ _ s.met others.met;
              wrong = moved major pool end ((at + len) + length (spelled others.front)) ((pc + len) + length (spelled others.front)) (at + length (spelled ((pc, i.0) ∷ others.front))) (pc + length (spelled ((pc, i.0) ∷ others.front))) others.rest fault
                  (omega (arith, all, len_is)) (omega (arith, all, len_is)) others.wrong;
            }
      ] refl e

-- an instruction of the list leads astray
lost_by : (start : ℕ) (x : (List ℕ × Pairs) × List ℕ) (o : Option (ℕ × Instr)) (fault : ReadClassFault) → faultless (elim o as (λ _. Option ReadClassFault) [ None ↦ None | Some p ↦ Some (BadCode (start + p.0)) ]) x ≡ Err fault → (p : ℕ × Instr) × (o ≡ Some p) × (fault ≡ BadCode (start + p.0))
lost_by start x None fault e = cc
lost_by start x (Some p) fault e = let same : fault ≡ BadCode (start + p.0) = cc in (p, refl, same)

pub only_code_fault : (major : ℕ) (pool : List Const) (end len : ℕ) (bytes : List ℕ) (fault : ReadClassFault) → len ≤ length bytes → are_bytes bytes ≡ true → listed major pool end len bytes ≡ Err fault → IsCodeFault major pool (offset end bytes) (take len bytes) fault
only_code_fault major pool end len bytes fault room are e =
    let start = offset end bytes in
    let code = take len bytes in
    let code_are : are_bytes code ≡ true = code_bytes len bytes are in
    let long : length code ≡ len = length-take-le len bytes room in
    elim (instrs_from major pool end false start len 0 code) as (λ r. instrs_from major pool end false start len 0 code ≡ r → listed_by start len bytes r ≡ Err fault → IsCodeFault major pool start code fault) [
      | Err other ↦ λ read f.
          let same : other ≡ fault = fault_is other fault f in
          let end_of = ends major pool end len start 0 code fault code_are (omega (arith, long)) (read ∙ ap (λ (why : ReadClassFault). Err why) same) in
          let stands : FrontStands major pool code end_of.front end_of.rest = record { parts = end_of.parts; in_place = end_of.in_place; met = end_of.met } in
          let wrong = moved major pool end (start + length (spelled end_of.front)) (0 + length (spelled end_of.front)) (start + length (spelled end_of.front)) (length (spelled end_of.front)) end_of.rest fault refl (omega arith) end_of.wrong in
          inl (end_of.front, end_of.rest, stands, wrong)
      | Ok list ↦ λ read f.
          let s = instrs_sound major pool end false start len 0 code list code_are (omega (arith, long)) (λ c. cc) read in
          let all : instrs_of code ≡ Ok list = ap (λ (n : ℕ). all_from n 0 code) long ∙ s.read in
          let whole = instrs_found code list (each_byte code code_are) all in
          let stands : FrontStands major pool code list [] = record { parts = whole.whole ∙ sym (append-nil (spelled list)); in_place = whole.in_place; met = s.met } in
          let lost = lost_by start ((take len bytes, list), drop len bytes) (astray list) fault f in
          inr (list, lost.0, stands, lost.1, lost.2)
    ] refl (sym (listed_whole major pool end len bytes room) ∙ e)
