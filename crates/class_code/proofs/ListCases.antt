-- A code's instructions are whole, or stop at a fault; and what is read of it is the one or the other.
use Rattle.std.proofs.Common.{◌≡◌, inl, inr, ℕ, zero, suc, ◌+◌, ◌-◌, ◌≤◌, List, [], ◌∷◌, ◌++◌, length, Option, Some, None, Result, Ok, Err, refl, sym, ap, ◌∙◌, subst, append_assoc, length-append, arith}
use Rattle.std.specs.Prelude.{◌⊎◌, IfOk, IfErr}
use Rattle.std.proofs.lemmas.List.{append-nil}
use Rattle.class_code.specs.declared.fault.InstrFault.{InstrFault}
use Rattle.class_code.specs.declared.fault.InstrFault.TheVariants as instr_fault
use Rattle.class_code.specs.declared.fault.CodeFault.{CodeFault}
use Rattle.class_code.specs.declared.fault.CodeFault.TheVariants as fault
use Rattle.class_code.specs.declared.instr.Instr.{Instr}
use Rattle.class_code.specs.Spelling.{spelling}
use Rattle.class_code.specs.Listing.{spelled, InPlace, IsSpelled, IsListing, astray}
use Rattle.class_code.specs.Faults.{HeadFault}
use Rattle.class_code.specs.FirstFaults.{StopsAt, FirstFault, IfFault, placed}
use Rattle.class_code.specs.OperandReading.{◌>>=◌, Read}
use Rattle.class_code.specs.CodeReading.{instr_at, or_stop, instrs_from, instrs_of, if_none_astray, list_of}
use Rattle.class_code.proofs.ReadBack.{not_done}
use Rattle.class_code.proofs.FaultBack.{IsBytes, fault_again}
use Rattle.class_code.proofs.Listings.{Pairs, first_read, bytes_after, pair_is, whole, IfOkList, IfErrFault}
use Rattle.class_code.proofs.LenLaws.{has_first}
use Rattle.class_code.proofs.InstrCases.{instr_or_fault}

abbrev Listed : Type 0
Listed = Result Pairs (InstrFault × ℕ)

abbrev all_read : Pairs → Listed
all_read ps = Ok ps

abbrev stopped : InstrFault × ℕ → Listed
stopped s = Err s

abbrev before : Pairs → Listed → Listed
before ps r = r >>= λ qs. Ok (ps ++ qs)

not_stopped : (ps : Pairs) (s : InstrFault × ℕ) → all_read ps ≡ stopped s → ⊥
not_stopped ps s e = cc

all_is : (ps qs : Pairs) → all_read ps ≡ all_read qs → ps ≡ qs
all_is ps qs e = cc

stop_is : (s t : InstrFault × ℕ) → stopped s ≡ stopped t → s ≡ t
stop_is s t e = cc

before_none : (r : Listed) → r ≡ before [] r
before_none (Ok qs) = refl
before_none (Err s) = refl

before_more : (at : ℕ) (p : ℕ × Instr) (ps : Pairs) (r : Listed) → p.0 ≡ at → (before ps r >>= λ qs. all_read ((at, p.1) ∷ qs)) ≡ before (p ∷ ps) r
before_more at p ps (Ok qs) e = let same : ◌≡◌ {A = ℕ × Instr} (at, p.1) p = pair_is (at, p.1) p (sym e) refl in ap (λ (q : ℕ × Instr). all_read (q ∷ ps ++ qs)) same
before_more at p ps (Err s) e = refl

-- ---- what is spelled is read

one_more : (n at : ℕ) (bytes : List ℕ) (x : Instr × List ℕ) → instr_at at bytes ≡ Ok x
    → instrs_from (suc n) at bytes ≡ (instrs_from n (at + (length bytes - length x.1)) x.1 >>= λ ps. all_read ((at, x.0) ∷ ps))
one_more n at [] x e = absurd (not_done x instr_fault.Truncated (sym e))
one_more n at (b ∷ bytes) x e =
    ap (λ (r : Read Instr). or_stop at r >>= λ y. instrs_from n (at + (length (b ∷ bytes) - length y.1)) y.1 >>= λ ps. all_read ((at, y.0) ∷ ps)) e

stops_here : (n at b : ℕ) (bytes : List ℕ) (why : InstrFault) → instr_at at (b ∷ bytes) ≡ Err why → instrs_from (suc n) at (b ∷ bytes) ≡ Err (why, at)
stops_here n at b bytes why e =
    ap (λ (r : Read Instr). or_stop at r >>= λ y. instrs_from n (at + (length (b ∷ bytes) - length y.1)) y.1 >>= λ ps. all_read ((at, y.0) ∷ ps)) e

-- the instructions of a front are read, and then what is behind it
front_read : (most at : ℕ) (ps : Pairs) (rest : List ℕ) (r : Listed) → InPlace at ps → length (spelled ps ++ rest) ≤ most
    → ((n : ℕ) → length rest ≤ n → instrs_from n (at + length (spelled ps)) rest ≡ r) → instrs_from most at (spelled ps ++ rest) ≡ before ps r
front_read most at [] rest r place enough behind = subst (λ (o : ℕ). instrs_from most o rest ≡ r) (omega arith) (behind most enough) ∙ before_none r
front_read zero at (p ∷ ps) rest r place enough behind = absurd (omega (arith, enough, has_first p.1 place.1, length-append (spelling p.1) (spelled ps), length-append (spelling p.1 ++ spelled ps) rest))
front_read (suc n) at (p ∷ ps) rest r place enough behind =
    let first : ℕ = length (spelling p.1) in
    let others : List ℕ = spelled ps ++ rest in
    let len : length (spelled (p ∷ ps) ++ rest) ≡ first + length others = ap length (append_assoc (spelling p.1) (spelled ps) rest) ∙ length-append (spelling p.1) others in
    let next : at + (length (spelled (p ∷ ps) ++ rest) - length others) ≡ at + first = omega (arith, len) in
    let behind_more : (m : ℕ) → length rest ≤ m → instrs_from m ((at + first) + length (spelled ps)) rest ≡ r =
    λ m le. subst (λ (o : ℕ). instrs_from m o rest ≡ r) (omega (arith, length-append (spelling p.1) (spelled ps))) (behind m le) in
    let more : instrs_from n (at + first) others ≡ before ps r = front_read n (at + first) ps rest r place.3 (omega (arith, enough, len, has_first p.1 place.1)) behind_more in
    one_more n at (spelled (p ∷ ps) ++ rest) (p.1, others) (first_read at p ps rest place)
    ∙ ap (λ (o : ℕ). instrs_from n o others >>= λ qs. all_read ((at, p.1) ∷ qs)) next
    ∙ ap (λ (s : Listed). s >>= λ qs. all_read ((at, p.1) ∷ qs)) more
    ∙ before_more at p ps r place.0

nothing_left : (n at : ℕ) → instrs_from n at [] ≡ Ok []
nothing_left zero at = refl
nothing_left (suc n) at = refl

-- Instructions that the code is the bytes of are read.
pub instrs_again : (code : List ℕ) (ps : Pairs) → IsSpelled code ps → instrs_of code ≡ Ok ps
instrs_again code ps is =
    let parts : code ≡ spelled ps ++ [] = whole code ps is in
    ap (instrs_from (length code) 0) parts
    ∙ front_read (length code) 0 ps [] (all_read []) is.in_place (omega (arith, ap length parts)) (λ n le. nothing_left n (0 + length (spelled ps)))
    ∙ ap all_read (append-nil ps)

fault_read : (n at : ℕ) (rest : List ℕ) (why : InstrFault) → IsBytes rest → HeadFault at rest why → length rest ≤ n → instrs_from n at rest ≡ Err (why, at)
fault_read n at [] why fits fault enough = absurd fault
fault_read zero at (b ∷ bytes) why fits fault enough = absurd (omega (arith, enough))
fault_read (suc n) at (b ∷ bytes) why fits fault enough = stops_here n at b bytes why (fault_again at (b ∷ bytes) why fits fault)

-- Where a code's instructions stop, reading stops.
pub stop_again : (code : List ℕ) (why : InstrFault) (at : ℕ) → IsBytes code → StopsAt code why at → instrs_of code ≡ Err (why, at)
stop_again code why at fits stop =
    let bytes : IsBytes stop.rest = bytes_after (spelled stop.front) stop.rest (subst IsBytes stop.parts fits) in
    let place : at ≡ 0 + length (spelled stop.front) = stop.place ∙ omega arith in
    ap (instrs_from (length code) 0) stop.parts
    ∙ front_read (length code) 0 stop.front stop.rest (stopped (why, at)) stop.in_place (omega (arith, ap length stop.parts))
    (λ n le. subst (λ (o : ℕ). instrs_from n o stop.rest ≡ stopped (why, at)) place (fault_read n at stop.rest why bytes stop.fault le))

-- ---- a code is the bytes of instructions, or stops

abbrev Ending : ℕ → List ℕ → Type 0
Ending at bytes = ((ps : Pairs) × (bytes ≡ spelled ps) × InPlace at ps)
    ⊎ ((front : Pairs) × (rest : List ℕ) × (why : InstrFault) × (bytes ≡ spelled front ++ rest) × InPlace at front × HeadFault (at + length (spelled front)) rest why)

ending : (most at : ℕ) (bytes : List ℕ) → IsBytes bytes → length bytes ≤ most → Ending at bytes
ending most at [] fits enough = inl ([], refl, tt)
ending zero at (b ∷ bytes) fits enough = absurd (omega (arith, enough))
ending (suc n) at (b ∷ bytes) fits enough = elim (instr_or_fault at b bytes fits) [
  | inr (why, fault) ↦ inr ([], b ∷ bytes, why, refl, tt, subst (λ (o : ℕ). HeadFault o (b ∷ bytes) why) (omega arith) fault)
  | inl (k, i) ↦
      let len = ap length i.parts ∙ length-append (spelling i.instr) i.rest in
      let next : ℕ = at + length (spelling i.instr) in
      elim (ending n next i.rest (bytes_after (spelling i.instr) i.rest (subst IsBytes i.parts fits)) (omega (arith, enough, len, has_first i.instr i.fits))) [
        | inl (ps, parts, place) ↦ inl ((at, i.instr) ∷ ps, i.parts ∙ ap (λ (r : List ℕ). spelling i.instr ++ r) parts, (refl, i.fits, i.stands, place))
        | inr (front, rest, why, parts, place, fault) ↦ inr (
          (at, i.instr) ∷ front,
          rest,
          why,
          i.parts ∙ ap (λ (r : List ℕ). spelling i.instr ++ r) parts ∙ sym (append_assoc (spelling i.instr) (spelled front) rest),
          (refl, i.fits, i.stands, place),
          subst (λ (o : ℕ). HeadFault o rest why) (omega (arith, length-append (spelling i.instr) (spelled front))) fault,
        )
      ]
]

pub spelled_or_stop : (code : List ℕ) → IsBytes code → ((ps : Pairs) × IsSpelled code ps) ⊎ ((why : InstrFault) × (at : ℕ) × StopsAt code why at)
spelled_or_stop code fits = elim (ending (length code) 0 code fits (omega arith)) [
  | inl (ps, parts, place) ↦ inl (ps, record { whole = parts; in_place = place })
  | inr (front, rest, why, parts, place, fault) ↦ inr (
    why,
    length (spelled front),
    record { front = front; rest = rest; parts = parts; in_place = place; place = refl; fault = subst (λ (o : ℕ). HeadFault o rest why) (omega arith) fault },
  )
]

-- The code is the bytes of the instructions that are read.
pub instrs_found : (code : List ℕ) (ps : Pairs) → IsBytes code → instrs_of code ≡ Ok ps → IsSpelled code ps
instrs_found code ps fits e = elim (spelled_or_stop code fits) [
  | inl (qs, is) ↦ subst (IsSpelled code) (all_is qs ps (sym (instrs_again code qs is) ∙ e)) is
  | inr (why, at, stop) ↦ absurd (not_stopped ps (why, at) (sym e ∙ stop_again code why at fits stop))
]

-- Where reading stops, the code's instructions do.
pub stop_found : (code : List ℕ) (why : InstrFault) (at : ℕ) → IsBytes code → instrs_of code ≡ Err (why, at) → StopsAt code why at
stop_found code why at fits e = elim (spelled_or_stop code fits) [
  | inl (qs, is) ↦ absurd (not_stopped qs (why, at) (sym (instrs_again code qs is) ∙ e))
  | inr (other, o, stop) ↦
      subst (λ (s : InstrFault × ℕ). StopsAt code s.0 s.1) (stop_is (other, o) (why, at) (sym (stop_again code other o fits stop) ∙ e)) stop
]

-- ---- the code's list

some_list : Pairs → Option Pairs
some_list ps = Some ps

-- The code's list is read.
pub list_again : (code : List ℕ) (ps : Pairs) → IsListing code ps → list_of code ≡ Some ps
list_again code ps is = ap if_none_astray (instrs_again code ps is.spelled) ∙ rw is.targets refl

-- A code that has a first fault has no list.
pub fault_unlisted : (code : List ℕ) (f : CodeFault) → IsBytes code → FirstFault code f → list_of code ≡ None
fault_unlisted code f fits (inl (why, at, stop, is)) = ap if_none_astray (stop_again code why at fits stop)
fault_unlisted code f fits (inr (ps, p, is, off, at)) = ap if_none_astray (instrs_again code ps is) ∙ rw off refl

-- A code has a list or a first fault.
by_targets : (code : List ℕ) (ps : Pairs) (o : Option (ℕ × Instr)) → astray ps ≡ o → IsSpelled code ps → ((qs : Pairs) × IsListing code qs) ⊎ ((f : CodeFault) × FirstFault code f)
by_targets code ps None none is = inl (ps, record { spelled = is; targets = none })
by_targets code ps (Some p) off is = inr (fault.BadTarget p.0, inr (ps, p, is, off, refl))

pub list_or_first_fault : (code : List ℕ) → IsBytes code → ((ps : Pairs) × IsListing code ps) ⊎ ((f : CodeFault) × FirstFault code f)
list_or_first_fault code fits = elim (spelled_or_stop code fits) [
  | inl (ps, is) ↦ by_targets code ps (astray ps) refl is
  | inr (why, at, stop) ↦ inr (placed why at (length code), inl (why, at, stop, refl))
]

some_is : (ps qs : Pairs) (o : Option Pairs) → o ≡ Some ps → o ≡ Some qs → ps ≡ qs
some_is ps qs o e f = let both : Some ps ≡ Some qs = sym e ∙ f in cc

not_some : (ps : Pairs) (o : Option Pairs) → o ≡ Some ps → o ≡ None → ⊥
not_some ps o e f = let both : Some ps ≡ None = sym e ∙ f in cc

-- What is read is the code's list.
pub list_found : (code : List ℕ) (ps : Pairs) → IsBytes code → list_of code ≡ Some ps → IsListing code ps
list_found code ps fits e = elim (list_or_first_fault code fits) [
  | inl (qs, is) ↦ subst (IsListing code) (some_is qs ps (list_of code) (list_again code qs is) e) is
  | inr (f, fault) ↦ absurd (not_some ps (list_of code) e (fault_unlisted code f fits fault))
]

-- A code of which no list is read has a first fault.
pub unlisted_fault : (code : List ℕ) → IsBytes code → list_of code ≡ None → (f : CodeFault) × FirstFault code f
unlisted_fault code fits e = elim (list_or_first_fault code fits) [
  | inl (qs, is) ↦ absurd (not_some qs (list_of code) (list_again code qs is) e)
  | inr (f, fault) ↦ (f, fault)
]

-- ---- what a decoder that answers the list, or the first fault, also answers

pub listed : {V : Type 0} (view : V → Pairs) (code : List ℕ) (r : Result V CodeFault) → IfOkList view code r → IfOk r (λ v. list_of code ≡ Some (view v))
listed view code (Ok v) found = list_again code (view v) found
listed view code (Err e) found = tt

pub unlisted : {V : Type 0} (code : List ℕ) (r : Result V CodeFault) → IsBytes code → IfErrFault code r → IfErr r (λ e. IfFault e (λ f. list_of code ≡ None))
unlisted code (Ok v) fits f = tt
unlisted code (Err fault.Memory) fits f = tt
unlisted code (Err (fault.Floating at)) fits f = fault_unlisted code (fault.Floating at) fits f
unlisted code (Err (fault.Unsupported at)) fits f = fault_unlisted code (fault.Unsupported at) fits f
unlisted code (Err (fault.Truncated at)) fits f = fault_unlisted code (fault.Truncated at) fits f
unlisted code (Err (fault.BadOperand at)) fits f = fault_unlisted code (fault.BadOperand at) fits f
unlisted code (Err (fault.BadTarget at)) fits f = fault_unlisted code (fault.BadTarget at) fits f
