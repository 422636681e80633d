-- The laws of a text that is whole in the file.
use Rattle.std.proofs.Common.{◌≡◌, ℕ, zero, suc, ◌+◌, ◌-◌, ◌<◌, ◌≤◌, List, [], ◌∷◌, ◌++◌, length, take, drop, Option, Some, None, Ok, Err, refl, sym, ap, ◌∙◌, subst, append_assoc, length-append, length-drop, arith}
use Rattle.std.specs.Prelude.{◌≢◌}
use Rattle.std.proofs.Math.Seq.{drop-append_seam}
use Rattle.std.proofs.lemmas.List.{length-take-le, drop-take, append-nil}
use Rattle.jv_names.specs.Names.{Name}
use Rattle.jv_names.specs.Utf8.{unit_bytes, utf8, SpellsText, BeginsNoUnit, StopsAt, IsFirstBad}
use Rattle.jv_names.specs.TextReading.{unit_at, IsUnitAnswer}
use Rattle.jv_names.proofs.UnitBytes.{some_byte}
use Rattle.jv_names.proofs.TextReading.{unit_at-is}
use Rattle.classfile_items.specs.declared.fault.ReadClassFault.{ReadClassFault}
use Rattle.classfile_items.specs.declared.fault.ReadClassFault.TheVariants.{BadText}
use Rattle.classfile_items.specs.Reading.{Found, offset}
use Rattle.classfile_pool.specs.PoolReading.{next_unit, units_from}
use Rattle.classfile_pool.proofs.Texts.{unit_bad, text_read, text_stopped}

-- ---- where bytes stop

record Stop (bytes : List ℕ) : Type 0 where
  front : List ℕ
  rest : List ℕ
  stops_at : StopsAt bytes front rest

stop_by : (most : ℕ) (bytes : List ℕ) (answer : Option (ℕ × List ℕ)) → IsUnitAnswer bytes answer → length bytes ≤ most → Stop bytes
stop_by most bytes None none le = record { front = []; rest = bytes; stops_at = record { in_range = tt; parts = refl; stops = none } }
stop_by zero bytes (Some x) found le = absurd (omega (arith, le, ap length found.1, length-append (unit_bytes x.0) x.1, some_byte x.0))
stop_by (suc most) bytes (Some x) found le =
    let others = stop_by most x.1 (unit_at x.1) (unit_at-is x.1) (omega (arith, le, ap length found.1, length-append (unit_bytes x.0) x.1, some_byte x.0)) in
    record {
      front = x.0 ∷ others.front;
      rest = others.rest;
      stops_at = record {
        in_range = (found.0, others.stops_at.in_range);
        parts = found.1 ∙ ap (λ (bs : List ℕ). unit_bytes x.0 ++ bs) others.stops_at.parts ∙ sym (append_assoc (unit_bytes x.0) (utf8 others.front) others.rest);
        stops = others.stops_at.stops;
      };
    }

stop_of : (bytes : List ℕ) → Stop bytes
stop_of bytes = stop_by (length bytes) bytes (unit_at bytes) (unit_at-is bytes) (omega arith)

nothing_begins : BeginsNoUnit []
nothing_begins unit after small e = absurd (omega (arith, ap length e, length-append (unit_bytes unit) after, some_byte unit))

-- ---- the laws

pub text_is_read : (end len : ℕ) (bytes : List ℕ) (text : Name) → len ≤ length bytes → SpellsText text (take len bytes) → units_from end len len bytes ≡ Ok (text, drop len bytes)
text_is_read end len bytes text room spells =
    let stops : StopsAt (take len bytes) text [] = record { in_range = spells.in_range; parts = spells.spelled ∙ sym (append-nil (utf8 text)); stops = nothing_begins } in
    let all : len - 0 ≡ len = omega arith in
    text_read end len len bytes text [] room stops all ∙ ap (λ (n : ℕ). Ok (text, drop n bytes)) all

some_left : (rest : List ℕ) → rest ≢ [] → 0 < length rest
some_left [] more = absurd (more refl)
some_left (b ∷ rest) more = omega arith

-- among bytes that are there, what begins no unit is bad
bad_here : (end left : ℕ) (bytes : List ℕ) → 0 < left → left ≤ length bytes → BeginsNoUnit (take left bytes) → next_unit end left bytes ≡ Err (BadText (offset end bytes))
bad_here end left [] some room none = absurd (omega (arith, some, room))
bad_here end left (first ∷ bytes) some room none = unit_bad end left first bytes none (λ size sized fits. omega (arith, fits, room))

stopped_text : (end len : ℕ) (bytes front rest : List ℕ) → length bytes ≤ end → len ≤ length bytes → StopsAt (take len bytes) front rest → rest ≢ [] → units_from end len len bytes ≡ Err (BadText (offset end bytes + length (utf8 front)))
stopped_text end len bytes front rest within room stops more =
    let read : ℕ = len - length rest in
    let some = some_left rest more in
    let all : length (utf8 front) + length rest ≡ len = sym (length-append (utf8 front) rest) ∙ sym (ap length stops.parts) ∙ length-take-le len bytes room in
    let long : length (utf8 front) ≡ read = omega (arith, all) in
    let whole : read + (len - read) ≡ len = omega (arith, all) in
    let unread : take (len - read) (drop read bytes) ≡ rest =
    sym (drop-take read (len - read) bytes) ∙ ap (λ (n : ℕ). drop read (take n bytes)) whole ∙ ap (drop read) stops.parts
    ∙ ap (λ (n : ℕ). drop n (utf8 front ++ rest)) (sym long) ∙ drop-append_seam (utf8 front) rest in
    let none : BeginsNoUnit (take (len - read) (drop read bytes)) = subst BeginsNoUnit (sym unread) stops.stops in
    let bad = bad_here end (len - read) (drop read bytes) (omega (arith, all, some)) (omega (arith, room, all, length-drop read bytes)) none in
    let at : offset end (drop read bytes) ≡ offset end bytes + length (utf8 front) = omega (arith, within, room, all, length-drop read bytes) in
    text_stopped end len len bytes front rest (BadText (offset end (drop read bytes))) room stops (omega (arith, all, some)) bad ∙ ap (λ (o : ℕ). Err (BadText o)) at

pub first_bad_is_fault : (end len at : ℕ) (bytes : List ℕ) → length bytes ≤ end → len ≤ length bytes → IsFirstBad (take len bytes) at → units_from end len len bytes ≡ Err (BadText (offset end bytes + at))
first_bad_is_fault end len at bytes within room bad =
    stopped_text end len bytes bad.front bad.rest within room bad.stops_at bad.more ∙ ap (λ (n : ℕ). Err (BadText (offset end bytes + n))) (sym bad.place)

-- where reading stopped is where the fault is
fault_by : (end len : ℕ) (bytes : List ℕ) (fault : ReadClassFault) (front rest : List ℕ) → length bytes ≤ end → len ≤ length bytes → StopsAt (take len bytes) front rest → units_from end len len bytes ≡ Err fault → (at : ℕ) × IsFirstBad (take len bytes) at × (fault ≡ BadText (offset end bytes + at))
fault_by end len bytes fault front [] within room stops e =
    let all : len - 0 ≡ len = omega arith in
    let clash : ◌≡◌ {A = Found Name} (Ok (front, drop (len - 0) bytes)) (Err fault) = sym (text_read end len len bytes front [] room stops all) ∙ e in
    cc
fault_by end len bytes fault front (b ∷ rest) within room stops e =
    let more : b ∷ rest ≢ [] = λ none. cc in
    let bad : IsFirstBad (take len bytes) (length (utf8 front)) = record { front = front; rest = b ∷ rest; stops_at = stops; more = more; place = refl } in
    let both : ◌≡◌ {A = Found Name} (Err fault) (Err (BadText (offset end bytes + length (utf8 front)))) = sym e ∙ stopped_text end len bytes front (b ∷ rest) within room stops more in
    let same : fault ≡ BadText (offset end bytes + length (utf8 front)) = cc in
    (length (utf8 front), bad, same)

pub fault_is_first_bad : (end len : ℕ) (bytes : List ℕ) (fault : ReadClassFault) → length bytes ≤ end → len ≤ length bytes → units_from end len len bytes ≡ Err fault → (at : ℕ) × IsFirstBad (take len bytes) at × (fault ≡ BadText (offset end bytes + at))
fault_is_first_bad end len bytes fault within room e =
    let stop = stop_of (take len bytes) in
    fault_by end len bytes fault stop.front stop.rest within room stop.stops_at e
