-- A code has one list of instructions or one first fault, and not both.
use Rattle.std.proofs.Common.{◌≡◌, ◌⊎◌, inl, inr, ℕ, ◌+◌, List, [], ◌∷◌, ◌++◌, length, Some, None, Result, Ok, Err, refl, sym, ap, ◌∙◌, append_assoc, arith, subst, length-append, zero, drop, suc, get_or, w8, Fits as Fits8}
use Rattle.std.specs.Prelude.{IfOk, IfErr}
use Rattle.std.proofs.lemmas.List.{append-nil}
use Rattle.class_code.specs.declared.fault.InstrFault.{InstrFault}
use Rattle.class_code.specs.declared.fault.InstrFault.TheVariants as instr_fault
use Rattle.class_code.specs.declared.fault.CodeFault.{CodeFault}
use Rattle.class_code.specs.declared.fault.CodeFault.TheVariants as fault
use Rattle.class_code.specs.declared.instr.Instr.{Instr}
use Rattle.class_code.specs.Spelling.{spelling}
use Rattle.class_code.specs.Listing.{spelled, InPlace, IsSpelled, IsListing, astray}
use Rattle.class_code.specs.Faults.{HeadFault}
use Rattle.class_code.specs.FirstFaults.{StopsAt, FirstFault, placed, Gives, Refuses, IfFault}
use Rattle.class_code.specs.CodeReading.{instr_at}
use Rattle.class_code.proofs.ReadBack.{done, failed, done_is, failed_is, read_again}
use Rattle.class_code.proofs.FaultBack.{IsBytes, fault_again}

abbrev pub Pairs : Type 0
Pairs = List (ℕ × Instr)

-- what is read at the front of some spelled instructions
pub first_read : (at : ℕ) (p : ℕ × Instr) (ps : Pairs) (rest : List ℕ) → InPlace at (p ∷ ps) → instr_at at (spelled (p ∷ ps) ++ rest) ≡ done (p.1, spelled ps ++ rest)
first_read at p ps rest place =
    ap (instr_at at) (append_assoc (spelling p.1) (spelled ps) rest) ∙ read_again at p.1 (spelled ps ++ rest) place.1 place.2

-- the bytes after a front that fit
pub bytes_after : (xs ys : List ℕ) → IsBytes (xs ++ ys) → IsBytes ys
bytes_after [] ys fits = fits
bytes_after (x ∷ xs) ys fits = bytes_after xs ys fits.1

-- Two fronts of one code, after each of which no instruction stands: nothing is left, or a fault.
abbrev Ends : ℕ → List ℕ → Type 0
Ends at rest = (rest ≡ []) ⊎ ((w : InstrFault) × HeadFault at rest w)

ends_read : (at : ℕ) (rest : List ℕ) (x : Instr × List ℕ) → IsBytes rest → Ends at rest → instr_at at rest ≡ done x → ⊥
ends_read at rest x fits (inl e) read = let none : instr_at at rest ≡ failed instr_fault.Truncated = rw e refl in let clash : done x ≡ failed instr_fault.Truncated = sym read ∙ none in cc
ends_read at rest x fits (inr (w, e)) read = let clash : done x ≡ failed w = sym read ∙ fault_again at rest w fits e in cc

pub pair_is : (p q : ℕ × Instr) → p.0 ≡ q.0 → p.1 ≡ q.1 → p ≡ q
pair_is p q offset instr = ap (λ (o : ℕ). (o, p.1)) offset ∙ ap (λ (i : Instr). (q.0, i)) instr

pub same_front : (at : ℕ) (ps qs : Pairs) (r s : List ℕ) → IsBytes (spelled ps ++ r) → InPlace at ps → InPlace at qs → Ends (at + length (spelled ps)) r → Ends (at + length (spelled qs)) s
    → spelled ps ++ r ≡ spelled qs ++ s → (ps ≡ qs) × (r ≡ s)
same_front at [] [] r s fits pp qq pe qe e = (refl, e)
same_front at [] (q ∷ qs) r s fits pp qq pe qe e =
    absurd (ends_read at r (q.1, spelled qs ++ s) fits (subst (λ (o : ℕ). Ends o r) (omega arith) pe) (ap (instr_at at) e ∙ first_read at q qs s qq))
same_front at (p ∷ ps) [] r s fits pp qq pe qe e =
    absurd (ends_read at s (p.1, spelled ps ++ r) (subst IsBytes e fits) (subst (λ (o : ℕ). Ends o s) (omega arith) qe) (ap (instr_at at) (sym e) ∙ first_read at p ps r pp))
same_front at (p ∷ ps) (q ∷ qs) r s fits pp qq pe qe e =
    let both : done (p.1, spelled ps ++ r) ≡ done (q.1, spelled qs ++ s) = sym (first_read at p ps r pp) ∙ ap (instr_at at) e ∙ first_read at q qs s qq in
    let parts = done_is (p.1, spelled ps ++ r) (q.1, spelled qs ++ s) both in
    let same : p.1 ≡ q.1 = ap (λ (x : Instr × List ℕ). x.0) parts in
    let after : spelled ps ++ r ≡ spelled qs ++ s = ap (λ (x : Instr × List ℕ). x.1) parts in
    let next : ℕ = at + length (spelling p.1) in
    let len : length (spelling p.1) ≡ length (spelling q.1) = ap (λ (i : Instr). length (spelling i)) same in
    let others = same_front next ps qs r s (bytes_after (spelling p.1) (spelled ps ++ r) (subst IsBytes (append_assoc (spelling p.1) (spelled ps) r) fits)) pp.3
    (subst (λ (o : ℕ). InPlace o qs) (omega arith) qq.3)
    (subst (λ (o : ℕ). Ends o r) (omega (arith, length-append (spelling p.1) (spelled ps))) pe)
    (subst (λ (o : ℕ). Ends o s) (omega (arith, length-append (spelling q.1) (spelled qs))) qe) after in
    let here : p.0 ≡ q.0 = pp.0 ∙ sym qq.0 in
    let pair : p ≡ q = pair_is p q here same in
    (ap (λ (x : ℕ × Instr). x ∷ ps) pair ∙ ap (λ (x : Pairs). q ∷ x) others.0, others.1)

pub whole : (code : List ℕ) (ps : Pairs) → IsSpelled code ps → code ≡ spelled ps ++ []
whole code ps is = is.whole ∙ sym (append-nil (spelled ps))

-- one list
pub one_list : (code : List ℕ) (ps qs : Pairs) → IsBytes code → IsSpelled code ps → IsSpelled code qs → ps ≡ qs
one_list code ps qs fits p q =
    (same_front 0 ps qs [] [] (subst IsBytes (whole code ps p) fits) p.in_place q.in_place (inl refl) (inl refl) (sym (whole code ps p) ∙ whole code qs q)).0

stop_ends : (code : List ℕ) (w : InstrFault) (at : ℕ) (f : StopsAt code w at) → Ends (0 + length (spelled f.front)) f.rest
stop_ends code w at f = inr (w, subst (λ (o : ℕ). HeadFault o f.rest w) (f.place ∙ omega arith) f.fault)

-- a code that has a list stops nowhere
pub no_stop : (code : List ℕ) (ps : Pairs) (w : InstrFault) (at : ℕ) → IsBytes code → IsSpelled code ps → StopsAt code w at → ⊥
no_stop code ps w at fits p f =
    let both = same_front 0 ps f.front [] f.rest (subst IsBytes (whole code ps p) fits) p.in_place f.in_place (inl refl) (stop_ends code w at f) (sym (whole code ps p) ∙ f.parts) in
    subst (λ (r : List ℕ). HeadFault at r w) (sym both.1) f.fault

-- it stops at one place, for one cause
pub one_stop : (code : List ℕ) (w v : InstrFault) (at o : ℕ) → IsBytes code → StopsAt code w at → StopsAt code v o → (w ≡ v) × (at ≡ o)
one_stop code w v at o fits f g =
    let both = same_front 0 f.front g.front f.rest g.rest (subst IsBytes f.parts fits) f.in_place g.in_place (stop_ends code w at f) (stop_ends code v o g) (sym f.parts ∙ g.parts) in
    let place : at ≡ o = f.place ∙ ap (λ (x : Pairs). length (spelled x)) both.0 ∙ sym g.place in
    let bytes : IsBytes f.rest = bytes_after (spelled f.front) f.rest (subst IsBytes f.parts fits) in
    let left : instr_at at f.rest ≡ failed w = fault_again at f.rest w bytes f.fault in
    let right : instr_at o g.rest ≡ failed v = fault_again o g.rest v (subst IsBytes both.1 bytes) g.fault in
    (failed_is w v (sym left ∙ ap (instr_at at) both.1 ∙ ap (λ (x : ℕ). instr_at x g.rest) place ∙ right), place)

-- not both a list and a fault
pub list_or_fault : (code : List ℕ) (ps : Pairs) (f : CodeFault) → IsBytes code → IsListing code ps → FirstFault code f → ⊥
list_or_fault code ps f fits l (inl (w, at, stop, is)) = no_stop code ps w at fits l.spelled stop
list_or_fault code ps f fits l (inr (qs, p, spelled_q, off, is)) =
    let same : ps ≡ qs = one_list code ps qs fits l.spelled spelled_q in
    let clash : Some p ≡ None = sym off ∙ ap astray (sym same) ∙ l.targets in cc

-- one first fault
pub one_fault : (code : List ℕ) (f g : CodeFault) → IsBytes code → FirstFault code f → FirstFault code g → f ≡ g
one_fault code f g fits (inl (w, at, stop, is)) (inl (v, o, other, are)) =
    let same = one_stop code w v at o fits stop other in
    is ∙ ap (λ (x : InstrFault). placed x at (length code)) same.0 ∙ ap (λ (x : ℕ). placed v x (length code)) same.1 ∙ sym are
one_fault code f g fits (inl (w, at, stop, is)) (inr (qs, q, spelled_q, off, are)) = absurd (no_stop code qs w at fits spelled_q stop)
one_fault code f g fits (inr (ps, p, spelled_p, off, is)) (inl (v, o, other, are)) = absurd (no_stop code ps v o fits spelled_p other)
one_fault code f g fits (inr (ps, p, spelled_p, off, is)) (inr (qs, q, spelled_q, lost, are)) =
    let same : ps ≡ qs = one_list code ps qs fits spelled_p spelled_q in
    let both : Some p ≡ Some q = sym off ∙ ap astray same ∙ lost in
    let pair : p ≡ q = cc in
    is ∙ ap (λ (x : ℕ × Instr). fault.BadTarget x.0) pair ∙ sym are

pub bytes_dropped : (n : ℕ) (xs : List ℕ) → IsBytes xs → IsBytes (drop n xs)
bytes_dropped zero xs fits = fits
bytes_dropped (suc n) [] fits = tt
bytes_dropped (suc n) (x ∷ xs) fits = bytes_dropped n xs fits.1

-- the bytes of a slice
pub bytes_fit : (xs : List ℕ) → ((i : ℕ) → Fits8 w8 (get_or xs i 0)) → IsBytes xs
bytes_fit [] h = tt
bytes_fit (x ∷ xs) h = (omega (arith, (h 0).fits), bytes_fit xs (λ i. h (suc i)))

-- ---- what a decoder that answers so also answers

abbrev pub IfOkList : {V : Type 0} → (V → Pairs) → List ℕ → Result V CodeFault → Type 0
IfOkList view code r = IfOk r (λ v. IsListing code (view v))

abbrev pub IfErrFault : {V : Type 0} → List ℕ → Result V CodeFault → Type 0
IfErrFault code r = IfErr r (λ e. IfFault e (FirstFault code))

pub only : {V : Type 0} (view : V → Pairs) (code : List ℕ) (r : Result V CodeFault) (ps : Pairs) → IsBytes code
    → IfOkList view code r → IfErrFault code r → IsListing code ps → Gives view r ps
only view code (Ok v) ps fits found fault l = one_list code (view v) ps fits found.spelled l.spelled
only view code (Err fault.Memory) ps fits found f l = tt
only view code (Err (fault.Floating at)) ps fits found f l = list_or_fault code ps (fault.Floating at) fits l f
only view code (Err (fault.Unsupported at)) ps fits found f l = list_or_fault code ps (fault.Unsupported at) fits l f
only view code (Err (fault.Truncated at)) ps fits found f l = list_or_fault code ps (fault.Truncated at) fits l f
only view code (Err (fault.BadOperand at)) ps fits found f l = list_or_fault code ps (fault.BadOperand at) fits l f
only view code (Err (fault.BadTarget at)) ps fits found f l = list_or_fault code ps (fault.BadTarget at) fits l f

pub exact : {V : Type 0} (view : V → Pairs) (code : List ℕ) (r : Result V CodeFault) (g : CodeFault) → IsBytes code
    → IfOkList view code r → IfErrFault code r → FirstFault code g → Refuses r g
exact view code (Ok v) g fits found f e = list_or_fault code (view v) g fits found e
exact view code (Err fault.Memory) g fits found f e = tt
exact view code (Err (fault.Floating at)) g fits found f e = one_fault code (fault.Floating at) g fits f e
exact view code (Err (fault.Unsupported at)) g fits found f e = one_fault code (fault.Unsupported at) g fits f e
exact view code (Err (fault.Truncated at)) g fits found f e = one_fault code (fault.Truncated at) g fits f e
exact view code (Err (fault.BadOperand at)) g fits found f e = one_fault code (fault.BadOperand at) g fits f e
exact view code (Err (fault.BadTarget at)) g fits found f e = one_fault code (fault.BadTarget at) g fits f e
