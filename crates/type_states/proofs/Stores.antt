-- Local variables as a store leaves them.
use Rattle.std.proofs.Common.{◌≡◌, ℕ, suc, ◌+◌, ◌-◌, ◌<◌, ◌≤◌, ◌∙◌, Bool, true, false, cond, List, map, length, get_or, set, Option, Some, None, refl, sym, ap, arith}
use Rattle.std.specs.Prelude.{nat_lt, slice_set}
use Rattle.std.specs.Option.{option_map_or}
use Rattle.std.proofs.lemmas.Bool.Decides.{nat_tests}
use Rattle.std.proofs.lemmas.List.{length-map, map-set, get_or-map}
use Rattle.std.proofs.lemmas.Option.{slice_get-get_or, slice_get_past}
use Rattle.type_frames.specs.declared.seen.VTypeRef.{VTypeRef}
use Rattle.type_frames.specs.declared.seen.VTypeRef.TheVariants as seen
use Rattle.type_frames.specs.declared.vtype.VType.{VType}
use Rattle.type_frames.specs.declared.vtype.VType.TheVariants as vtype
use Rattle.type_frames.specs.Types.{is_long}
use Rattle.type_frames.specs.RulesOfLocals.{is_long_at, without_long_before, stored}
use Rattle.type_frames.specs.Seen.{type_seen}

-- ---- the long before a place

long_at : (locals : List VTypeRef) (place : ℕ) (d : VTypeRef) (b : Bool) → place < length locals → is_long (type_seen (get_or locals place d)) ≡ b → is_long_at (map type_seen locals) place ≡ b
long_at locals place d b lt e =
    ap (λ (o : Option VType). option_map_or is_long o false) (slice_get-get_or (map type_seen locals) place (type_seen d) (omega (arith, length-map locals type_seen)))
    ∙ ap is_long (get_or-map type_seen locals place d (type_seen d) lt)
    ∙ e

none_at : (locals : List VTypeRef) (place : ℕ) → length locals ≤ place → is_long_at (map type_seen locals) place ≡ false
none_at locals place le =
    ap (λ (o : Option VType). option_map_or is_long o false) (slice_get_past (map type_seen locals) place (omega (arith, length-map locals type_seen)))

ended_at : (types : List VType) (place : ℕ) (b : Bool) → is_long_at types place ≡ b → without_long_before (suc place) types ≡ cond b (set types place vtype.Top) types
ended_at types place b e = ap (λ (c : Bool). cond c (set types place vtype.Top) types) e

before_one : (types : List VType) (place : ℕ) → 0 < place → without_long_before place types ≡ without_long_before (suc (place - 1)) types
before_one types place more =
    let is : place ≡ suc (place - 1) = omega arith in
    ap (λ (n : ℕ). without_long_before n types) is

pub long_ended : (locals : List VTypeRef) (place : ℕ) (d : VTypeRef) → 0 < place → place ≤ length locals → is_long (type_seen (get_or locals (place - 1) d)) ≡ true
    → map type_seen (set locals (place - 1) seen.Top) ≡ without_long_before place (map type_seen locals)
long_ended locals place d more le e =
    map-set type_seen locals (place - 1) seen.Top
    ∙ sym (before_one (map type_seen locals) place more ∙ ended_at (map type_seen locals) (place - 1) true (long_at locals (place - 1) d true (omega arith) e))

pub no_long : (locals : List VTypeRef) (place : ℕ) (d : VTypeRef) → 0 < place → place ≤ length locals → is_long (type_seen (get_or locals (place - 1) d)) ≡ false
    → map type_seen locals ≡ without_long_before place (map type_seen locals)
no_long locals place d more le e =
    sym (before_one (map type_seen locals) place more ∙ ended_at (map type_seen locals) (place - 1) false (long_at locals (place - 1) d false (omega arith) e))

pub long_past : (locals : List VTypeRef) (place : ℕ) → length locals < place → map type_seen locals ≡ without_long_before place (map type_seen locals)
long_past locals place past =
    sym (before_one (map type_seen locals) place (omega arith) ∙ ended_at (map type_seen locals) (place - 1) false (none_at locals (place - 1) (omega arith)))

pub long_before_none : (locals : List VTypeRef) (place : ℕ) → place ≤ 0 → map type_seen locals ≡ without_long_before place (map type_seen locals)
long_before_none locals place none =
    let is : 0 ≡ place = omega arith in
    ap (λ (n : ℕ). without_long_before n (map type_seen locals)) is

-- ---- what is stored

is_the_long : (t : VType) → is_long t ≡ true → t ≡ vtype.Long
is_the_long vtype.Long e = refl
is_the_long t e = absurd (cc)

stored_word : (place : ℕ) (t : VType) (types : List VType) → is_long t ≡ false → stored place t types ≡ cond (nat_lt place (length types)) (Some (slice_set (without_long_before place types) place t)) None
stored_word place vtype.Long types e = absurd (cc)
stored_word place t types e = refl

has_place : (locals : List VTypeRef) (place : ℕ) → place < length locals → nat_lt place (length (map type_seen locals)) ≡ true
has_place locals place lt =
    let n = length-map locals type_seen in
    grind (arith, nat_tests)

-- `ended` are they without the long that the store cuts through
pub long_stored : (place last : ℕ) (t : VTypeRef) (locals ended : List VTypeRef) → last ≡ place + 1 → last < length locals → is_long (type_seen t) ≡ true
    → map type_seen ended ≡ without_long_before place (map type_seen locals) → stored place (type_seen t) (map type_seen locals) ≡ Some (map type_seen (set (set ended place t) last seen.Top))
long_stored place last t locals ended next lt is e =
    let long : type_seen t ≡ vtype.Long = is_the_long (type_seen t) is in
    let left : List VType → List VType = λ types. set (set types place vtype.Long) (place + 1) vtype.Top in
    let within : place + 1 < length locals = omega arith in
    ap (λ (x : VType). stored place x (map type_seen locals)) long
    ∙ ap (λ (b : Bool). cond b (Some (left (without_long_before place (map type_seen locals)))) None) (has_place locals (place + 1) within)
    ∙ ap (λ (types : List VType). Some (left types)) (sym e)
    ∙ ap (λ (x : VType). Some (set (set (map type_seen ended) place x) (place + 1) vtype.Top)) (sym long)
    ∙ ap (λ (n : ℕ). Some (set (set (map type_seen ended) place (type_seen t)) n vtype.Top)) (sym next)
    ∙ ap (λ (types : List VType). Some (set types last vtype.Top)) (sym (map-set type_seen ended place t))
    ∙ ap (λ (types : List VType). Some types) (sym (map-set type_seen (set ended place t) last seen.Top))

pub word_stored : (place : ℕ) (t : VTypeRef) (locals ended : List VTypeRef) → place < length locals → is_long (type_seen t) ≡ false
    → map type_seen ended ≡ without_long_before place (map type_seen locals) → stored place (type_seen t) (map type_seen locals) ≡ Some (map type_seen (set ended place t))
word_stored place t locals ended lt is e =
    stored_word place (type_seen t) (map type_seen locals) is
    ∙ ap (λ (b : Bool). cond b (Some (set (without_long_before place (map type_seen locals)) place (type_seen t))) None) (has_place locals place lt)
    ∙ ap (λ (types : List VType). Some (set types place (type_seen t))) (sym e)
    ∙ ap (λ (types : List VType). Some types) (sym (map-set type_seen ended place t))
