-- A report states the schedule whose runs it prints.
use Rattle.std.proofs.Common.{◌≡◌, ◌∙◌, ◌<◌, ◌^◌, ℕ, List, [], ◌∷◌, ◌++◌, length, map, Option, Some, None, Bool, true, refl, ap, arith, inl, inr, cond}
use Rattle.std.specs.Prelude.{codes, decimal, flat_map}
use Rattle.std.proofs.lemmas.List.{append-nil}
use Rattle.ti_ids.specs.declared.actor.Actor.{Actor}
use Rattle.ti_ids.specs.declared.actor.Actor.TheVariants.{Vm, Thread, Agent}
use Rattle.ti_ids.specs.Maybe.{◌>>=◌}
use Rattle.jv_names.specs.Names.{parts, printed}
use Rattle.report_text.specs.declared.run.Run.{Run}
use Rattle.report_text.specs.declared.parts.ReportParts.{ReportParts}
use Rattle.report_text.specs.Runs.{runs_of}
use Rattle.report_text.specs.Named.{IsNumber, IsNamed, AllNamed}
use Rattle.report_text.specs.Texts.{line, actor_text, run_text, schedule_text, end_texts, back_texts, report_text}
use Rattle.report_text.specs.Stated.{numeral, stated_actor, stated_pair, stated_runs, stated_words, are_parted, expanded, first_line, stated}
use Rattle.report_text.proofs.Pieces.{lacks, lacks-append, lacks-printed, parts-then, parts-last, parts-line}
use Rattle.report_text.proofs.Numerals.{numeral-decimal, lacks-decimal}
use Rattle.report_text.proofs.Joining.{AllWithin, within-runs_of, are_parted-runs_of, expanded-runs_of}

stated_actor-actor_text : (a : Actor) → IsNamed a → stated_actor (actor_text a) ≡ Some a
stated_actor-actor_text Vm h = refl
stated_actor-actor_text (Thread t) h = rw (numeral-decimal t.0 h) refl
stated_actor-actor_text (Agent e) h = rw (numeral-decimal e.0 h) refl

lacks_colon-actor_text : (a : Actor) → IsNamed a → lacks 58 (actor_text a) ≡ true
lacks_colon-actor_text Vm h = refl
lacks_colon-actor_text (Thread t) h = lacks-decimal 58 t.0 (inr (omega arith)) h
lacks_colon-actor_text (Agent e) h = lacks-decimal 58 e.0 (inr (omega arith)) h

lacks_space-actor_text : (a : Actor) → IsNamed a → lacks 32 (actor_text a) ≡ true
lacks_space-actor_text Vm h = refl
lacks_space-actor_text (Thread t) h = lacks-decimal 32 t.0 (inl (omega arith)) h
lacks_space-actor_text (Agent e) h = lacks-decimal 32 e.0 (inl (omega arith)) h

lacks_feed-actor_text : (a : Actor) → IsNamed a → lacks 10 (actor_text a) ≡ true
lacks_feed-actor_text Vm h = refl
lacks_feed-actor_text (Thread t) h = lacks-decimal 10 t.0 (inl (omega arith)) h
lacks_feed-actor_text (Agent e) h = lacks-decimal 10 e.0 (inl (omega arith)) h

-- a run that a line can state
record IsStatable (r : Run) : Type 0 where
  named : IsNamed r.actor
  count : IsNumber r.count

abbrev AllStatable : List Run → Type 0
AllStatable [] = Unit {0}
AllStatable (r ∷ runs) = IsStatable r × AllStatable runs

abbrev word_of : Run → List ℕ
word_of r = actor_text r.actor ++ 58 ∷ decimal r.count

stated_pair-word_of : (r : Run) → IsStatable r → stated_pair (parts 58 (word_of r)) ≡ Some r
stated_pair-word_of r g =
    let digits : lacks 58 (decimal r.count) ≡ true = lacks-decimal 58 r.count (inr (omega arith)) g.count in
    let pieces : parts 58 (word_of r) ≡ actor_text r.actor ∷ decimal r.count ∷ [] =
    parts-then 58 (actor_text r.actor) (decimal r.count) (lacks_colon-actor_text r.actor g.named) refl ∙ ap (λ (w : List (List ℕ)). actor_text r.actor ∷ w) (parts-last 58 (decimal r.count) digits) in
    ap stated_pair pieces
    ∙ ap (λ (q : Option Actor). q >>= (λ a. numeral (decimal r.count) >>= (λ n. Some (let s : Run = record { actor = a; count = n } in s)))) (stated_actor-actor_text r.actor g.named)
    ∙ ap (λ (q : Option ℕ). q >>= (λ n. Some (let s : Run = record { actor = r.actor; count = n } in s))) (numeral-decimal r.count g.count)

lacks_space-word_of : (r : Run) → IsStatable r → lacks 32 (word_of r) ≡ true
lacks_space-word_of r g = lacks-append 32 (actor_text r.actor) (58 ∷ decimal r.count) (lacks_space-actor_text r.actor g.named) (lacks-decimal 32 r.count (inl (omega arith)) g.count)

lacks_feed-word_of : (r : Run) → IsStatable r → lacks 10 (word_of r) ≡ true
lacks_feed-word_of r g = lacks-append 10 (actor_text r.actor) (58 ∷ decimal r.count) (lacks_feed-actor_text r.actor g.named) (lacks-decimal 10 r.count (inl (omega arith)) g.count)

words-apart : (x : List ℕ) (runs : List Run) → lacks 32 x ≡ true → AllStatable runs → parts 32 (x ++ flat_map run_text runs) ≡ x ∷ map word_of runs
words-apart x [] h g = ap (parts 32) (append-nil x) ∙ parts-last 32 x h
words-apart x (r ∷ runs) h g =
    parts-then 32 x (word_of r ++ flat_map run_text runs) h refl
    ∙ ap (λ (w : List (List ℕ)). x ∷ w) (words-apart (word_of r) runs (lacks_space-word_of r g.0) g.1)

stated_runs-words : (runs : List Run) → AllStatable runs → stated_runs (map word_of runs) ≡ Some runs
stated_runs-words [] g = refl
stated_runs-words (r ∷ runs) g =
    ap (λ (q : Option Run). q >>= (λ r. stated_runs (map word_of runs) >>= (λ rest. Some (r ∷ rest)))) (stated_pair-word_of r g.0)
    ∙ ap (λ (q : Option (List Run)). q >>= (λ rest. Some (r ∷ rest))) (stated_runs-words runs g.1)

-- the schedule line states its runs
stated_words-schedule_text : (runs : List Run) → AllStatable runs → are_parted runs ≡ true → stated_words (parts 32 (schedule_text runs)) ≡ Some (expanded runs)
stated_words-schedule_text runs g differ =
    ap stated_words (words-apart (codes "schedule") runs refl g)
    ∙ ap (λ (q : Option (List Run)). q >>= (λ runs. cond (are_parted runs) (Some (expanded runs)) None)) (stated_runs-words runs g)
    ∙ ap (λ (b : Bool). cond b (Some (expanded runs)) None) differ

lacks_feed-words : (runs : List Run) → AllStatable runs → lacks 10 (flat_map run_text runs) ≡ true
lacks_feed-words [] g = refl
lacks_feed-words (r ∷ runs) g = lacks-append 10 (word_of r) (flat_map run_text runs) (lacks_feed-word_of r g.0) (lacks_feed-words runs g.1)

statable : (most : ℕ) (runs : List Run) → most < 10 ^ 9 → AllWithin most runs → AllStatable runs
statable most [] few h = tt
statable most (r ∷ runs) few h = let w = h.0 in (record { named = w.named; count = (w.some, omega (arith, w.short)) }, statable most runs few h.1)

-- behind the first two lines, and the line of the main class
stated-lines : (name : List ℕ) (schedule : List Actor) (texts : List (List ℕ)) → lacks 10 name ≡ true → AllNamed schedule → length schedule < 10 ^ 9
    → stated (flat_map line (codes "report 1" ∷ codes "profile 1" ∷ (codes "main " ++ name) ∷ schedule_text (runs_of schedule) ∷ texts)) ≡ Some schedule
unfolding stated
stated-lines name schedule texts m n few =
    let runs = runs_of schedule in
    let good = statable (length schedule) runs few (within-runs_of schedule n) in
    let title : List ℕ = codes "main " ++ name in
    let whole : List ℕ = schedule_text runs in
    let feedless : lacks 10 whole ≡ true = lacks-append 10 (codes "schedule") (flat_map run_text runs) refl (lacks_feed-words runs good) in
    let apart : parts 10 (flat_map line (title ∷ whole ∷ texts)) ≡ title ∷ whole ∷ parts 10 (flat_map line texts) =
    parts-line title (whole ∷ texts) m ∙ ap (λ (w : List (List ℕ)). title ∷ w) (parts-line whole texts feedless) in
    let all : parts 10 (flat_map line (codes "report 1" ∷ codes "profile 1" ∷ title ∷ whole ∷ texts)) ≡ codes "report 1" ∷ codes "profile 1" ∷ title ∷ whole ∷ parts 10 (flat_map line texts) =
    ap (λ (w : List (List ℕ)). codes "report 1" ∷ codes "profile 1" ∷ w) apart in
    ap (λ (w : List (List ℕ)). first_line (codes "schedule") w >>= (λ s. stated_words (parts 32 s))) all
    ∙ stated_words-schedule_text runs good (are_parted-runs_of schedule)
    ∙ ap (λ (w : List Actor). Some w) (expanded-runs_of schedule)

-- the text of a report states the schedule of its runs
pub stated-report_text : (it : ReportParts) (schedule : List Actor) → it.runs ≡ runs_of schedule → AllNamed schedule → length schedule < 10 ^ 9 → stated (report_text it) ≡ Some schedule
unfolding report_text
stated-report_text it schedule runs named few =
    ap (λ (rs : List Run). stated (flat_map line (codes "report 1" ∷ codes "profile 1" ∷ (codes "main " ++ printed it.main) ∷ schedule_text rs ∷ (end_texts it.steps it.end ++ back_texts it)))) runs
    ∙ stated-lines (printed it.main) schedule (end_texts it.steps it.end ++ back_texts it) (lacks-printed it.main) named few
