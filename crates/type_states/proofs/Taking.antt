-- Types that are taken from the stack and put on it, one after another.
use Rattle.std.proofs.Common.{◌≡◌, ℕ, ◌+◌, ◌<◌, ◌≤◌, ◌∙◌, List, map, drop, length, get_or, Option, Some, None, sym, ap}
use Rattle.std.proofs.lemmas.List.{at_drop_more, at_drop_all}
use Rattle.ti_ids.specs.Maybe.{◌>>=◌}
use Rattle.type_frames.specs.declared.seen.VTypeRef.{VTypeRef}
use Rattle.type_frames.specs.Hierarchies.{Known}
use Rattle.type_frames.specs.States.{State, taken, all_taken, put, all_put}
use Rattle.type_frames.specs.Seen.{type_seen}

-- ---- taken

taken_next : (h : Known) (types : List VTypeRef) (i : ℕ) (t : VTypeRef) (s : State) (left : Option State) → i < length types → t ≡ get_or types i t → taken h (type_seen t) s ≡ left
    → all_taken h (map type_seen (drop i types)) s ≡ (left >>= all_taken h (map type_seen (drop (i + 1) types)))
taken_next h types i t s left lt at e =
    at_drop_more (λ (rest : List VTypeRef). all_taken h (map type_seen rest) s) types i t lt
    ∙ ap (λ (x : VTypeRef). taken h (type_seen x) s >>= all_taken h (map type_seen (drop (i + 1) types))) (sym at)
    ∙ ap (λ (o : Option State). o >>= all_taken h (map type_seen (drop (i + 1) types))) e

pub taken_more : (h : Known) (types : List VTypeRef) (i : ℕ) (t : VTypeRef) (s next : State) → i < length types → t ≡ get_or types i t → taken h (type_seen t) s ≡ Some next
    → all_taken h (map type_seen (drop (i + 1) types)) next ≡ all_taken h (map type_seen (drop i types)) s
taken_more h types i t s next lt at e = sym (taken_next h types i t s (Some next) lt at e)

pub taken_not : (h : Known) (types : List VTypeRef) (i : ℕ) (t : VTypeRef) (s : State) → i < length types → t ≡ get_or types i t → taken h (type_seen t) s ≡ None
    → all_taken h (map type_seen (drop i types)) s ≡ None
taken_not h types i t s lt at e = taken_next h types i t s None lt at e

pub taken_over : (h : Known) (types : List VTypeRef) (i : ℕ) (s : State) → length types ≤ i → all_taken h (map type_seen (drop i types)) s ≡ Some s
taken_over h types i s le = at_drop_all (λ (rest : List VTypeRef). all_taken h (map type_seen rest) s) types i le

-- ---- put

put_next : (room : ℕ) (types : List VTypeRef) (i : ℕ) (t : VTypeRef) (s : State) (left : Option State) → i < length types → t ≡ get_or types i t → put room (type_seen t) s ≡ left
    → all_put room (map type_seen (drop i types)) s ≡ (left >>= all_put room (map type_seen (drop (i + 1) types)))
put_next room types i t s left lt at e =
    at_drop_more (λ (rest : List VTypeRef). all_put room (map type_seen rest) s) types i t lt
    ∙ ap (λ (x : VTypeRef). put room (type_seen x) s >>= all_put room (map type_seen (drop (i + 1) types))) (sym at)
    ∙ ap (λ (o : Option State). o >>= all_put room (map type_seen (drop (i + 1) types))) e

pub put_more : (room : ℕ) (types : List VTypeRef) (i : ℕ) (t : VTypeRef) (s next : State) → i < length types → t ≡ get_or types i t → put room (type_seen t) s ≡ Some next
    → all_put room (map type_seen (drop (i + 1) types)) next ≡ all_put room (map type_seen (drop i types)) s
put_more room types i t s next lt at e = sym (put_next room types i t s (Some next) lt at e)

pub put_not : (room : ℕ) (types : List VTypeRef) (i : ℕ) (t : VTypeRef) (s : State) → i < length types → t ≡ get_or types i t → put room (type_seen t) s ≡ None
    → all_put room (map type_seen (drop i types)) s ≡ None
put_not room types i t s lt at e = put_next room types i t s None lt at e

pub put_over : (room : ℕ) (types : List VTypeRef) (i : ℕ) (s : State) → length types ≤ i → all_put room (map type_seen (drop i types)) s ≡ Some s
put_over room types i s le = at_drop_all (λ (rest : List VTypeRef). all_put room (map type_seen rest) s) types i le
