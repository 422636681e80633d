-- Bytes begin with one list of whole units that a unit more doesn't follow, so they have one text or one first bad byte.
use Rattle.std.proofs.Common.{◌≡◌, ◌≢◌, ℕ, ◌-◌, ◌<◌, List, [], ◌∷◌, ◌++◌, length, refl, sym, ap, ◌∙◌, append_assoc, length-append, arith}
use Rattle.std.proofs.lemmas.List.{append-nil}
use Rattle.jv_names.specs.Utf8.{unit_bytes, utf8, AreUnits, SpellsText, BeginsNoUnit, StopsAt, IsFirstBad}
use Rattle.jv_names.proofs.UnitBytes.{one_unit, some_byte}

-- two fronts of the same bytes, behind each of which no unit stands
same_front : (xs ys r s : List ℕ) → AreUnits xs → AreUnits ys → BeginsNoUnit r → BeginsNoUnit s → utf8 xs ++ r ≡ utf8 ys ++ s → (xs ≡ ys) × (r ≡ s)
same_front [] [] r s small little ends stops e = (refl, e)
same_front [] (y ∷ ys) r s small little ends stops e = absurd (ends y (utf8 ys ++ s) little.0 (e ∙ append_assoc (unit_bytes y) (utf8 ys) s))
same_front (x ∷ xs) [] r s small little ends stops e = absurd (stops x (utf8 xs ++ r) small.0 (sym e ∙ append_assoc (unit_bytes x) (utf8 xs) r))
same_front (x ∷ xs) (y ∷ ys) r s small little ends stops e =
    let here = one_unit x y (utf8 xs ++ r) (utf8 ys ++ s) small.0 little.0 (sym (append_assoc (unit_bytes x) (utf8 xs) r) ∙ e ∙ append_assoc (unit_bytes y) (utf8 ys) s) in
    let others = same_front xs ys r s small.1 little.1 ends stops here.1 in
    (ap (λ (u : ℕ). u ∷ xs) here.0 ∙ ap (λ (us : List ℕ). y ∷ us) others.0, others.1)

one_stop : (bytes xs ys r s : List ℕ) → StopsAt bytes xs r → StopsAt bytes ys s → (xs ≡ ys) × (r ≡ s)
one_stop bytes xs ys r s f g = same_front xs ys r s f.in_range g.in_range f.stops g.stops (sym f.parts ∙ g.parts)

-- what begins with a unit's bytes goes on with less
pub fewer : (bytes : List ℕ) (unit : ℕ) (after : List ℕ) → bytes ≡ unit_bytes unit ++ after → length after < length bytes
fewer bytes unit after e = omega (arith, ap length e, length-append (unit_bytes unit) after, some_byte unit)

-- at the end no unit begins
end_begins_none : BeginsNoUnit []
end_begins_none unit after small e = absurd (omega (arith, fewer [] unit after e))

-- a text stops at its end
text_stops : (units bytes : List ℕ) → SpellsText units bytes → StopsAt bytes units []
text_stops units bytes t = record { in_range = t.in_range; parts = t.spelled ∙ sym (append-nil (utf8 units)); stops = end_begins_none }

-- where nothing is left, all is a text
pub whole_text : (bytes front rest : List ℕ) → StopsAt bytes front rest → rest ≡ [] → SpellsText front bytes
whole_text bytes front rest f e = record { in_range = f.in_range; spelled = f.parts ∙ ap (λ (r : List ℕ). utf8 front ++ r) e ∙ append-nil (utf8 front) }

-- where something is left, its first byte is bad
pub left_is_bad : (bytes front rest : List ℕ) → StopsAt bytes front rest → rest ≢ [] → IsFirstBad bytes (length bytes - length rest)
left_is_bad bytes front rest f some = record { front = front; rest = rest; stops_at = f; more = some; place = omega (arith, ap length f.parts, length-append (utf8 front) rest) }

-- Bytes have one text or one first bad byte, and not both.
pub one_text : (bytes units others : List ℕ) → SpellsText units bytes → SpellsText others bytes → units ≡ others
one_text bytes units others t o = (one_stop bytes units others [] [] (text_stops units bytes t) (text_stops others bytes o)).0

pub text_or_bad : (bytes units : List ℕ) (offset : ℕ) → SpellsText units bytes → IsFirstBad bytes offset → ⊥
text_or_bad bytes units offset t f = f.more (sym (one_stop bytes units f.front [] f.rest (text_stops units bytes t) f.stops_at).1)

pub one_bad : (bytes : List ℕ) (at offset : ℕ) → IsFirstBad bytes at → IsFirstBad bytes offset → at ≡ offset
one_bad bytes at offset f g = f.place ∙ ap (λ (us : List ℕ). length (utf8 us)) (one_stop bytes f.front g.front f.rest g.rest f.stops_at g.stops_at).0 ∙ sym g.place
