-- What contracts see of places and monitors, object by object.
use Rattle.std.proofs.Common.{◌≡◌, ◌≢◌, ℕ, ◌+◌, ◌<◌, zero, suc, Bool, true, false, cond, [], ◌∷◌, refl, ap, ◌∙◌, arith, rules}
use Rattle.std.specs.Prelude.{Option, Some, None, option_map, unwrap_or}
use Rattle.std.specs.Ordering.{nat_cmp, eq_by_cmp}
use Rattle.std.specs.Cmp.{nat_cmp_total}
use Rattle.std.specs.FinMap as finite
use Rattle.slab.specs.Slab.{Slab, get}
use Rattle.ti_ids.specs.declared.number.ObjNo.{ObjNo}
use Rattle.monitor_table.specs.Monitors.{Monitor, free, is_free}
use Rattle.monitor_table.specs.Table.{MonitorMap, with_state}
use Rattle.monitor_table.specs.Index.{Places, place_in, placed_from, shown}

-- the monitor at a place, or a free one
abbrev pub monitor_in : Slab Monitor → ℕ → Monitor
monitor_in monitors key = unwrap_or (get monitors key) free

-- the order of the keys tells them apart
here : (q : ℕ) → eq_by_cmp nat_cmp q q ≡ true
here q = grind (finite.gets, rules)

apart : (q k : ℕ) → q ≢ k → eq_by_cmp nat_cmp q k ≡ false
apart q k differ = grind (finite.gets, rules)

-- objects before the first of these are not among them
find-before : (monitors : Slab Monitor) (number : ℕ) (places : Places) (q : ℕ) → q < number → finite.find nat_cmp q (placed_from monitors number places) ≡ None
find-before monitors number [] q before = refl
find-before monitors number (None ∷ places) q before = find-before monitors (number + 1) places q (omega arith)
find-before monitors number (Some key ∷ places) q before =
    let differ : q ≢ number = omega arith in
    let rest = finite.find nat_cmp q (placed_from monitors (number + 1) places) in
    ap (λ (b : Bool). cond b (Some (monitor_in monitors key)) rest) (apart q number differ) ∙ find-before monitors (number + 1) places q (omega arith)

find-placed : (monitors : Slab Monitor) (number : ℕ) (places : Places) (q k : ℕ) → q ≡ number + k → finite.find nat_cmp q (placed_from monitors number places) ≡ option_map (monitor_in monitors) (place_in places k)
find-placed monitors number [] q k at = refl
find-placed monitors number (None ∷ places) q zero at = find-before monitors (number + 1) places q (omega arith)
find-placed monitors number (None ∷ places) q (suc k) at = find-placed monitors (number + 1) places q k (omega arith)
find-placed monitors number (Some key ∷ places) q zero at =
    let same : number ≡ q = omega arith in
    let rest = finite.find nat_cmp q (placed_from monitors (number + 1) places) in
    ap (λ (b : Bool). cond b (Some (monitor_in monitors key)) rest) (ap (λ (n : ℕ). eq_by_cmp nat_cmp q n) same ∙ here q)
find-placed monitors number (Some key ∷ places) q (suc k) at =
    let differ : q ≢ number = omega arith in
    let rest = finite.find nat_cmp q (placed_from monitors (number + 1) places) in
    ap (λ (b : Bool). cond b (Some (monitor_in monitors key)) rest) (apart q number differ) ∙ find-placed monitors (number + 1) places q k (omega arith)

-- an object's entry is the monitor at its place
pub get-shown : (places : Places) (monitors : Slab Monitor) (q : ℕ) → finite.get (shown places monitors) q ≡ option_map (monitor_in monitors) (place_in places q)
get-shown places monitors q =
    let at : q ≡ 0 + q = omega arith in
    finite.get-from_entries nat_cmp_total (placed_from monitors 0 places) q ∙ find-placed monitors 0 places q q at

-- two maps with the same entry at each object are one
pub same_monitors : (old new : MonitorMap) → ((q : ℕ) → finite.get old q ≡ finite.get new q) → old ≡ new
same_monitors old new same = finite.same_map nat_cmp_total finite.nat_cmp-IsAntisymmetric old new same

-- the entry that a monitor has in a map, which a free one hasn't
abbrev pub entry_of : Monitor → Option Monitor
entry_of m = cond (is_free m) None (Some m)

changed_here : (b : Bool) (monitors : MonitorMap) (k : ℕ) (m : Monitor) → finite.get (cond b (finite.remove monitors k) (finite.insert monitors k m)) k ≡ cond b None (Some m)
changed_here true monitors k m = finite.get-remove nat_cmp_total monitors k k ∙ ap (λ b. cond b None (finite.get monitors k)) (here k)
changed_here false monitors k m = finite.get-insert nat_cmp_total monitors k m k ∙ ap (λ b. cond b (Some m) (finite.get monitors k)) (here k)

changed_other : (b : Bool) (monitors : MonitorMap) (k : ℕ) (m : Monitor) (q : ℕ) → q ≢ k → finite.get (cond b (finite.remove monitors k) (finite.insert monitors k m)) q ≡ finite.get monitors q
changed_other true monitors k m q differ = finite.get-remove nat_cmp_total monitors k q ∙ ap (λ b. cond b None (finite.get monitors q)) (apart q k differ)
changed_other false monitors k m q differ = finite.get-insert nat_cmp_total monitors k m q ∙ ap (λ b. cond b (Some m) (finite.get monitors q)) (apart q k differ)

-- the object has its new monitor, and every other one keeps its own
pub get-with_state-here : (monitors : MonitorMap) (object : ObjNo) (m : Monitor) → finite.get (with_state monitors object m) object.0 ≡ entry_of m
get-with_state-here monitors object m = changed_here (is_free m) monitors object.0 m

pub get-with_state-other : (monitors : MonitorMap) (object : ObjNo) (m : Monitor) (q : ℕ) → q ≢ object.0 → finite.get (with_state monitors object m) q ≡ finite.get monitors q
get-with_state-other monitors object m q differ = changed_other (is_free m) monitors object.0 m q differ
