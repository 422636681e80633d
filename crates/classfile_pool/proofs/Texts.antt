-- Texts: what is found unit by unit is what stands at the front, up to where no unit stands.
use Rattle.std.proofs.Common.{◌≡◌, ℕ, zero, suc, ◌+◌, ◌-◌, ◌^◌, ◌<◌, ◌≤◌, true, false, ltb, List, [], ◌∷◌, ◌++◌, length, take, drop, Option, Some, None, Result, Ok, Err, refl, sym, ap, ◌∙◌, append_assoc, length-append, zero-add, arith}
use Rattle.std.specs.Prelude.{◌==◌}
use Rattle.std.proofs.lemmas.Bool.Decides.{nat_tests}
use Rattle.std.proofs.Math.Seq.{take-append-add, drop-append_seam}
use Rattle.std.proofs.lemmas.List.{take-append-drop, length-take-le}
use Rattle.jv_names.specs.Names.{Name}
use Rattle.jv_names.specs.Utf8.{unit_bytes, utf8, AreUnits, BeginsNoUnit, StopsAt}
use Rattle.jv_names.specs.TextReading.{unit_size, unit_at}
use Rattle.jv_names.proofs.UnitBytes.{some_byte}
use Rattle.jv_names.proofs.TextReading.{unit_size-first, unit_at-text, unit_at-front}
use Rattle.classfile_items.specs.declared.fault.ReadClassFault.{ReadClassFault}
use Rattle.classfile_items.specs.declared.fault.ReadClassFault.TheVariants.{Truncated, BadText}
use Rattle.classfile_items.specs.Reading.{Found, ◌>>=◌, offset}
use Rattle.classfile_pool.specs.PoolReading.{sized_unit, next_unit, units_from}

-- ---- a unit

-- what is found once the size is known
abbrev pub by_size : ℕ → ℕ → List ℕ → Option ℕ → Found ℕ
by_size end left bytes None = Err (BadText (offset end bytes))
by_size end left bytes (Some size) = sized_unit end left size bytes

-- its first byte tells its size
sized_front : (end left unit : ℕ) (own t : List ℕ) → unit < 2 ^ 16 → unit_bytes unit ≡ own → next_unit end left (own ++ t) ≡ sized_unit end left (length own) (own ++ t)
sized_front end left unit [] t small is = absurd (omega (arith, some_byte unit, ap length is))
sized_front end left unit (first ∷ others) t small is =
    ap (by_size end left (first ∷ (others ++ t))) (unit_size-first unit first others small is ∙ ap (λ (own : List ℕ). Some (length own)) is)

pub unit_read : (end left unit : ℕ) (t : List ℕ) → unit < 2 ^ 16 → length (unit_bytes unit) ≤ left → next_unit end left (unit_bytes unit ++ t) ≡ Ok (unit, t)
unit_read end left unit t small room =
    let own = unit_bytes unit in
    let fits : ltb left (length own) ≡ false = grind (arith, nat_tests) in
    let there : ltb (length (own ++ t)) (length own) ≡ false = grind (arith, nat_tests, length-append own t) in
    sized_front end left unit own t small refl ∙ rw (fits, there, unit_at-text unit t small) refl

-- where no unit stands among the text's own bytes, none stands at the front
same_size : (first size : ℕ) (t after own : List ℕ) (unit : ℕ) → unit < 2 ^ 16 → unit_bytes unit ≡ own → first ∷ t ≡ own ++ after → unit_size first ≡ Some size → size ≡ length own
same_size first size t after [] unit small is e sized = absurd (omega (arith, some_byte unit, ap length is))
same_size first size t after (byte ∷ others) unit small is e sized =
    let told : unit_size byte ≡ Some (length (unit_bytes unit)) = unit_size-first unit byte others small is in
    let front : first ≡ byte = cc in
    let same : Some size ≡ Some (length (byte ∷ others)) = sym sized ∙ ap unit_size front ∙ told ∙ ap (λ (own : List ℕ). Some (length own)) is in
    cc

no_unit : (left first size : ℕ) (t : List ℕ) → BeginsNoUnit (take left (first ∷ t)) → unit_size first ≡ Some size → size ≤ left → unit_at (first ∷ t) ≡ None
no_unit left first size t none sized room =
    elim (unit_at (first ∷ t)) as (λ u. unit_at (first ∷ t) ≡ u → u ≡ None) [
      | None ↦ λ _. refl
      | Some u ↦ λ read.
          let front = unit_at-front (first ∷ t) u read in
          let own = unit_bytes u.0 in
          let long : size ≡ length own = same_size first size t u.1 own u.0 front.0 refl front.1 sized in
          let more : left ≡ length own + (left - length own) = omega arith in
          absurd (none u.0 (take (left - length own) u.1) front.0 (ap (take left) front.1 ∙ ap (λ (n : ℕ). take n (own ++ u.1)) more ∙ take-append-add own u.1 (left - length own)))
    ] refl

-- no byte is there
pub unit_missing : (end left : ℕ) (bytes : List ℕ) → bytes ≡ [] → next_unit end left bytes ≡ Err (Truncated end)
unit_missing end left bytes e = ap (next_unit end left) e

-- the size has room in the text, and its bytes are not all there
pub unit_cut : (end left first size : ℕ) (t : List ℕ) → unit_size first ≡ Some size → size ≤ left → length (first ∷ t) < size → next_unit end left (first ∷ t) ≡ Err (Truncated end)
unit_cut end left first size t sized room cut =
    let fits : ltb left size ≡ false = grind (arith, nat_tests) in
    let short : ltb (length (first ∷ t)) size ≡ true = grind (arith, nat_tests) in
    ap (by_size end left (first ∷ t)) sized ∙ rw (fits, short) refl

-- no unit has this size here
pub unit_bad : (end left first : ℕ) (t : List ℕ) → BeginsNoUnit (take left (first ∷ t)) → ((size : ℕ) → unit_size first ≡ Some size → size ≤ left → size ≤ length (first ∷ t)) → next_unit end left (first ∷ t) ≡ Err (BadText (offset end (first ∷ t)))
unit_bad end left first t none there =
    elim (unit_size first) as (λ s. unit_size first ≡ s → next_unit end left (first ∷ t) ≡ Err (BadText (offset end (first ∷ t)))) [
      | None ↦ λ sized. ap (by_size end left (first ∷ t)) sized
      | Some size ↦ λ sized. ap (by_size end left (first ∷ t)) sized ∙ elim (ltb left size) as (λ b. ltb left size ≡ b → sized_unit end left size (first ∷ t) ≡ Err (BadText (offset end (first ∷ t)))) [
        | true ↦ λ test. rw test refl
        | false ↦ λ test.
            let room : size ≤ left = grind (arith, nat_tests) in
            let all : size ≤ length (first ∷ t) = there size sized room in
            let whole : ltb (length (first ∷ t)) size ≡ false = grind (arith, nat_tests) in
            rw (test, whole, no_unit left first size t none sized room) refl
      ] refl
    ] refl

-- ---- units

none_left : (end most : ℕ) (t : List ℕ) → units_from end most 0 t ≡ Ok ([], t)
none_left end zero t = refl
none_left end (suc most) t = refl

-- what is found behind a unit
abbrev pub behind : ℕ → Found Name → Found Name
behind unit found = found >>= λ units. Ok (unit ∷ units.0, units.1)

some_left : (end most left : ℕ) (t : List ℕ) → 0 < left → units_from end (suc most) left t ≡ next_unit end left t >>= λ unit. behind unit.0 (units_from end most (left - (length t - length unit.1)) unit.1)
some_left end most left t some = let test : (left == 0) ≡ false = grind (arith, nat_tests) in rw test refl

unit_more : (end most left unit : ℕ) (t : List ℕ) → unit < 2 ^ 16 → units_from end (suc most) (length (unit_bytes unit) + left) (unit_bytes unit ++ t) ≡ behind unit (units_from end most left t)
unit_more end most left unit t small =
    let own = unit_bytes unit in
    let some : 0 < length own + left = omega (arith, some_byte unit) in
    let less : (length own + left) - (length (own ++ t) - length t) ≡ left = omega (arith, length-append own t) in
    some_left end most (length own + left) (own ++ t) some
    ∙ ap (λ (u : Result (ℕ × List ℕ) ReadClassFault). u >>= λ unit. behind unit.0 (units_from end most ((length own + left) - (length (own ++ t) - length unit.1)) unit.1)) (unit_read end (length own + left) unit t small (omega arith))
    ∙ ap (λ (n : ℕ). behind unit (units_from end most n t)) less

-- all units of a text
pub units_whole : (end most : ℕ) (units t : List ℕ) → AreUnits units → length (utf8 units) ≤ most → units_from end most (length (utf8 units)) (utf8 units ++ t) ≡ Ok (units, t)
units_whole end most [] t small room = none_left end most t
units_whole end zero (unit ∷ units) t small room = absurd (omega (arith, some_byte unit, length-append (unit_bytes unit) (utf8 units)))
units_whole end (suc most) (unit ∷ units) t small room =
    let own = unit_bytes unit in
    let all : length (own ++ utf8 units) ≡ length own + length (utf8 units) = length-append own (utf8 units) in
    rw (all, append_assoc own (utf8 units) t) (unit_more end most (length (utf8 units)) unit (utf8 units ++ t) small.0 ∙ ap (behind unit) (units_whole end most units t small.1 (omega (arith, some_byte unit))))

-- units, behind which none stands
pub units_stopped : (end most left : ℕ) (units t : List ℕ) (fault : ReadClassFault) → AreUnits units → length (utf8 units) + left ≤ most → 0 < left → next_unit end left t ≡ Err fault → units_from end most (length (utf8 units) + left) (utf8 units ++ t) ≡ Err fault
units_stopped end zero left units t fault small room some e = absurd (omega arith)
units_stopped end (suc most) left [] t fault small room some e = rw (zero-add left) (some_left end most left t some ∙ ap (λ (u : Result (ℕ × List ℕ) ReadClassFault). u >>= λ unit. behind unit.0 (units_from end most (left - (length t - length unit.1)) unit.1)) e)
units_stopped end (suc most) left (unit ∷ units) t fault small room some e =
    let own = unit_bytes unit in
    let all : length (own ++ utf8 units) + left ≡ length own + (length (utf8 units) + left) = omega (arith, length-append own (utf8 units)) in
    rw (all, append_assoc own (utf8 units) t) (unit_more end most (length (utf8 units) + left) unit (utf8 units ++ t) small.0 ∙ ap (behind unit) (units_stopped end most left units t fault small.1 (omega (arith, some_byte unit)) some e))

-- ---- the front of bytes

-- The front ends where reading it stopped.
pub record Front (bytes units : List ℕ) (read : ℕ) : Type 0 where
  pub long : length (utf8 units) ≡ read
  pub parts : bytes ≡ utf8 units ++ drop read bytes

front_of : (bytes units unread : List ℕ) (there : ℕ) → there ≤ length bytes → StopsAt (take there bytes) units unread → Front bytes units (there - length unread)
front_of bytes units unread there room stops =
    let own = utf8 units in
    let all : length own + length unread ≡ there = sym (length-append own unread) ∙ sym (ap length stops.parts) ∙ length-take-le there bytes room in
    let long : length own ≡ there - length unread = omega arith in
    let whole : bytes ≡ own ++ (unread ++ drop there bytes) = sym (take-append-drop there bytes) ∙ ap (λ (front : List ℕ). front ++ drop there bytes) stops.parts ∙ append_assoc own unread (drop there bytes) in
    let rest : drop (length own) bytes ≡ unread ++ drop there bytes = ap (drop (length own)) whole ∙ drop-append_seam own (unread ++ drop there bytes) in
    record { long = long; parts = whole ∙ ap (λ (t : List ℕ). own ++ t) (sym rest ∙ ap (λ (n : ℕ). drop n bytes) long) }

pub text_read : (end len there : ℕ) (bytes units unread : List ℕ) → there ≤ length bytes → StopsAt (take there bytes) units unread → there - length unread ≡ len → units_from end len len bytes ≡ Ok (units, drop (there - length unread) bytes)
text_read end len there bytes units unread room stops all =
    let read : ℕ = there - length unread in
    let front = front_of bytes units unread there room stops in
    let long : len ≡ length (utf8 units) = sym all ∙ sym front.long in
    ap (λ (n : ℕ). units_from end len n bytes) long ∙ ap (units_from end len (length (utf8 units))) front.parts ∙ units_whole end len units (drop read bytes) stops.in_range (omega arith)

pub text_stopped : (end len there : ℕ) (bytes units unread : List ℕ) (fault : ReadClassFault) → there ≤ length bytes → StopsAt (take there bytes) units unread → there - length unread < len → next_unit end (len - (there - length unread)) (drop (there - length unread) bytes) ≡ Err fault → units_from end len len bytes ≡ Err fault
text_stopped end len there bytes units unread fault room stops some e =
    let read : ℕ = there - length unread in
    let front = front_of bytes units unread there room stops in
    let long : len ≡ length (utf8 units) + (len - read) = omega (arith, front.long) in
    ap (λ (n : ℕ). units_from end len n bytes) long ∙ ap (units_from end len (length (utf8 units) + (len - read))) front.parts ∙ units_stopped end len (len - read) units (drop read bytes) fault stops.in_range (omega (arith, front.long)) (omega arith) e
