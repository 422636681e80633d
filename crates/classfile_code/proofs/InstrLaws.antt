-- The laws of a code's instructions: those that are read one by one, each with its index first, are the code's list.
use Rattle.std.proofs.Common.{◌≡◌, ℕ, zero, suc, ◌-◌, ◌+◌, ◌<◌, ◌≤◌, Bool, true, false, List, [], ◌∷◌, length, Result, Ok, Err, refl, sym, ap, ◌∙◌, length-append, arith}
use Rattle.std.specs.List.{list_all}
use Rattle.std.proofs.lemmas.Bool.{and_parts, and_from, ltb-true}
use Rattle.class_code.specs.declared.instr.Instr.{Instr}
use Rattle.class_code.specs.declared.fault.InstrFault.{InstrFault}
use Rattle.class_code.specs.Spelling.{spelling}
use Rattle.class_code.specs.PoolUses.{pool_use, pool_use_at}
use Rattle.class_code.specs.OperandReading.{Read}
use Rattle.class_code.specs.OperandReading.{◌>>=◌ as ◌andthen◌}
use Rattle.class_code.specs.CodeReading.{instr_at, or_stop}
use Rattle.class_code.specs.CodeReading.{instrs_from as all_from}
use Rattle.class_code.proofs.FaultBack.{IsBytes}
use Rattle.class_code.proofs.Listings.{Pairs}
use Rattle.class_code.proofs.LenLaws.{has_first}
use Rattle.class_code.proofs.InstrCases.{instr_found}
use Rattle.class_code.proofs.PoolLaws.{use_of_whole}
use Rattle.class_tree.specs.declared.pool.Const.{Const}
use Rattle.class_tree.specs.Ranges.{is_byte, are_bytes}
use Rattle.class_tree.specs.CodeRules.{is_met}
use Rattle.classfile_items.specs.declared.fault.ReadClassFault.TheVariants.{BadIndex}
use Rattle.classfile_items.specs.Reading.{Checked, Found, ◌>>=◌}
use Rattle.classfile_code.specs.CodeReading.{index_fault, or_stopped, instr_of, instrs_from}
use Rattle.classfile_items.proofs.Laws.{steps_of, of_found, bytes_behind}
use Rattle.classfile_items.proofs.FaultLaws.{unless_holds, faultless_of}

-- each index of these instructions names what it must
abbrev pub are_met : ℕ → List Const → Pairs → Bool
are_met major pool list = list_all (λ p. is_met major pool (pool_use p.1)) list

pub each_byte : (bytes : List ℕ) → are_bytes bytes ≡ true → IsBytes bytes
each_byte [] are = tt
each_byte (b ∷ bytes) are = let p = and_parts (is_byte b) _ are in (ltb-true b 256 p.0, each_byte bytes p.1)

-- ---- one instruction

stopped_ok : {A : Type 0} (end : ℕ) (cut : Bool) (at : ℕ) (read : Result A InstrFault) (x : A) → or_stopped end cut at read ≡ Ok x → read ≡ Ok x
stopped_ok end cut at (Ok y) x e = cc
stopped_ok end cut at (Err why) x e = cc

-- an instruction that stands at the front, and its index
pub record InstrStands (major : ℕ) (pool : List Const) (pc : ℕ) (bytes : List ℕ) (x : Instr × List ℕ) : Type 0 where
  pub read : instr_at pc bytes ≡ Ok x
  pub met : is_met major pool (pool_use x.0) ≡ true
  pub left : are_bytes x.1 ≡ true
  pub shorter : length x.1 < length bytes

pub instr_sound : (major : ℕ) (pool : List Const) (end : ℕ) (cut : Bool) (at pc : ℕ) (bytes : List ℕ) (x : Instr × List ℕ) → are_bytes bytes ≡ true → instr_of major pool end cut at pc bytes ≡ Ok x → InstrStands major pool pc bytes x
instr_sound major pool end cut at pc bytes x are e =
    let s = steps_of _ (λ b. or_stopped end cut at (instr_at pc b)) x e in
    let p = faultless_of (index_fault major pool (at + 1) bytes) bytes s.value s.first in
    let read : instr_at pc bytes ≡ Ok x = stopped_ok end cut at (instr_at pc bytes) x (ap (λ (b : List ℕ). or_stopped end cut at (instr_at pc b)) p.same ∙ s.second) in
    let front = instr_found pc bytes x.0 x.1 (each_byte bytes are) read in
    let used : pool_use_at bytes ≡ pool_use x.0 = use_of_whole x.0 bytes x.1 front.1 front.0 in
    record {
      read = read;
      met = ap (is_met major pool) (sym used) ∙ unless_holds (is_met major pool (pool_use_at bytes)) (BadIndex (at + 1)) p.none;
      left = bytes_behind (spelling x.0) x.1 (ap are_bytes (sym front.0) ∙ are);
      shorter = omega (arith, ap length front.0, length-append (spelling x.0) x.1, has_first x.0 front.1);
    }

pub instr_complete : (major : ℕ) (pool : List Const) (end : ℕ) (cut : Bool) (at pc : ℕ) (bytes : List ℕ) (x : Instr × List ℕ) → are_bytes bytes ≡ true → instr_at pc bytes ≡ Ok x → is_met major pool (pool_use x.0) ≡ true → instr_of major pool end cut at pc bytes ≡ Ok x
instr_complete major pool end cut at pc bytes x are read met =
    let front = instr_found pc bytes x.0 x.1 (each_byte bytes are) read in
    let used : pool_use_at bytes ≡ pool_use x.0 = use_of_whole x.0 bytes x.1 front.1 front.0 in
    let fine : is_met major pool (pool_use_at bytes) ≡ true = ap (is_met major pool) used ∙ met in
    rw fine (ap (or_stopped end cut at) read)

-- ---- all instructions

read_more : (n at : ℕ) (bytes : List ℕ) (x : Instr × List ℕ) (list : Pairs) → 0 < length bytes → instr_at at bytes ≡ Ok x → all_from n (at + (length bytes - length x.1)) x.1 ≡ Ok list → all_from (suc n) at bytes ≡ Ok ((at, x.0) ∷ list)
read_more n at [] x list some read others = absurd (omega arith)
read_more n at (b ∷ bytes) x list some read others =
    ap (λ (r : Read Instr). or_stop at r andthen λ y. all_from n (at + (length (b ∷ bytes) - length y.1)) y.1 andthen λ ps. Ok ((at, y.0) ∷ ps)) read
    ∙ ap (λ (r : Result Pairs (InstrFault × ℕ)). r andthen λ ps. Ok ((at, x.0) ∷ ps)) others

-- Instructions that are read from an offset on are those of the code. They fill it where it isn't cut off.
pub record InstrsStand (major : ℕ) (pool : List Const) (cut : Bool) (most pc : ℕ) (bytes : List ℕ) (list : Pairs) : Type 0 where
  pub whole : cut ≡ false
  pub read : all_from most pc bytes ≡ Ok list
  pub met : are_met major pool list ≡ true

pub instrs_sound : (major : ℕ) (pool : List Const) (end : ℕ) (cut : Bool) (at most pc : ℕ) (bytes : List ℕ) (list : Pairs) → are_bytes bytes ≡ true → length bytes ≤ most → (cut ≡ true → length bytes < most) → instrs_from major pool end cut at most pc bytes ≡ Ok list → InstrsStand major pool cut most pc bytes list
instrs_sound major pool end true at zero pc [] list are le more e = absurd (omega (arith, more refl))
instrs_sound major pool end false at zero pc [] list are le more e = record { whole = refl; read = cc; met = of_found (λ l. are_met major pool l ≡ true) [] list e refl }
instrs_sound major pool end cut at zero pc (b ∷ bytes) list are le more e = absurd (omega arith)
instrs_sound major pool end true at (suc most) pc [] list are le more e = cc
instrs_sound major pool end false at (suc most) pc [] list are le more e = record { whole = refl; read = cc; met = of_found (λ l. are_met major pool l ≡ true) [] list e refl }
instrs_sound major pool end cut at (suc most) pc (b ∷ bytes) list are le more e =
    let s = steps_of (instr_of major pool end cut at pc (b ∷ bytes)) _ list e in
    let i = instr_sound major pool end cut at pc (b ∷ bytes) s.value are s.first in
    let len : ℕ = length (b ∷ bytes) - length s.value.1 in
    let t = steps_of (instrs_from major pool end cut (at + len) most (pc + len) s.value.1) _ list s.second in
    let others = instrs_sound major pool end cut (at + len) most (pc + len) s.value.1 t.value i.left (omega (arith, i.shorter)) (λ c. omega (arith, i.shorter)) t.first in
    of_found (InstrsStand major pool cut (suc most) pc (b ∷ bytes)) ((pc, s.value.0) ∷ t.value) list t.second (record {
      whole = others.whole;
      read = read_more most pc (b ∷ bytes) s.value t.value (omega arith) i.read others.read;
      met = and_from _ _ i.met others.met;
    })

-- one step of those of a code, and the others
record ReadMore (n at : ℕ) (bytes : List ℕ) (list : Pairs) : Type 0 where
  value : Instr × List ℕ
  others : Pairs
  first : instr_at at bytes ≡ Ok value
  second : all_from n (at + (length bytes - length value.1)) value.1 ≡ Ok others
  same : (at, value.0) ∷ others ≡ list

more_others : (n at : ℕ) (bytes : List ℕ) (list : Pairs) (x : Instr × List ℕ) (others : Result Pairs (InstrFault × ℕ)) → instr_at at bytes ≡ Ok x → all_from n (at + (length bytes - length x.1)) x.1 ≡ others → (others andthen λ ps. Ok ((at, x.0) ∷ ps)) ≡ Ok list → ReadMore n at bytes list
more_others n at bytes list x (Ok ps) first second e = record { value = x; others = ps; first = first; second = second; same = cc }
more_others n at bytes list x (Err stop) first second e = cc

more_parts : (n at : ℕ) (bytes : List ℕ) (list : Pairs) (read : Read Instr) → instr_at at bytes ≡ read → (or_stop at read andthen λ y. all_from n (at + (length bytes - length y.1)) y.1 andthen λ ps. Ok ((at, y.0) ∷ ps)) ≡ Ok list → ReadMore n at bytes list
more_parts n at bytes list (Ok x) first e = more_others n at bytes list x (all_from n (at + (length bytes - length x.1)) x.1) first refl e
more_parts n at bytes list (Err why) first e = cc

pub instrs_complete : (major : ℕ) (pool : List Const) (end at most pc : ℕ) (bytes : List ℕ) (list : Pairs) → are_bytes bytes ≡ true → all_from most pc bytes ≡ Ok list → are_met major pool list ≡ true → instrs_from major pool end false at most pc bytes ≡ Ok list
instrs_complete major pool end at zero pc [] list are read met = cc
instrs_complete major pool end at (suc most) pc [] list are read met = cc
instrs_complete major pool end at zero pc (b ∷ bytes) list are read met = cc
instrs_complete major pool end at (suc most) pc (b ∷ bytes) list are read met =
    let s = more_parts most pc (b ∷ bytes) list (instr_at pc (b ∷ bytes)) refl read in
    let p = and_parts (is_met major pool (pool_use s.value.0)) _ (ap (are_met major pool) s.same ∙ met) in
    let here = instr_complete major pool end false at pc (b ∷ bytes) s.value are s.first p.0 in
    let i = instr_sound major pool end false at pc (b ∷ bytes) s.value are here in
    let len : ℕ = length (b ∷ bytes) - length s.value.1 in
    let others = instrs_complete major pool end (at + len) most (pc + len) s.value.1 s.others i.left s.second p.1 in
    ap (λ (r : Found Instr). r >>= λ y. let n = length (b ∷ bytes) - length y.1 in instrs_from major pool end false (at + n) most (pc + n) y.1 >>= λ is. Ok ((pc, y.0) ∷ is)) here
    ∙ ap (λ (r : Checked Pairs). r >>= λ is. Ok ((pc, s.value.0) ∷ is)) others
    ∙ ap (λ (l : Pairs). Ok l) s.same
