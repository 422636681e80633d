-- The laws of logs.
use Rattle.std.proofs.Common.{◌≡◌, ◌∙◌, ℕ, List, [], ◌∷◌, ◌++◌, Some, None, Bool, true, false, refl, sym, ap, append_assoc}
use Rattle.std.specs.Prelude.{if◌then◌else◌, IsSome}
use Rattle.std.proofs.lemmas.List.{append-nil}
use Rattle.ti_ids.specs.declared.number.EnvNo.{EnvNo}
use Rattle.machine_state.specs.Jobs.{Job}
use Rattle.machine_state.specs.Trace.{Record, Entry, Trace, Turned, Raised, Replied}
use Rattle.machine_state.specs.Environments.{same_environment}
use Rattle.machine_state.specs.Logs.{is_addressed, line_text, line_of, log_from}
use Rattle.machine_state.specs.Laws.{MayBeLogged, LogsGrow}

grown_from : (job : Job) (before : Trace) (env : EnvNo) (rest : Trace) (e : Entry)
    → log_from job before env (rest ++ e ∷ []) ≡ log_from job before env rest ++ line_of job (before ++ rest) env e
grown_from job before env [] e = append-nil (line_of job before env e) ∙ ap (λ (t : Trace). line_of job t env e) (sym (append-nil before))
grown_from job before env (x ∷ rest) e =
    ap (λ (l : List (List ℕ)). line_of job before env x ++ l) (grown_from job (before ++ x ∷ []) env rest e)
    ∙ sym (append_assoc (line_of job before env x) (log_from job (before ++ x ∷ []) env rest) (line_of job ((before ++ x ∷ []) ++ rest) env e))
    ∙ ap (λ (t : Trace). (line_of job before env x ++ log_from job (before ++ x ∷ []) env rest) ++ line_of job t env e)
    (append_assoc before (x ∷ []) rest)

said : (b : Bool) (line text : List ℕ) → (if b then Some line else None) ≡ Some text → b ≡ true
said true line text e = refl
said false line text e = absurd cc

only_so : (job : Job) (before : Trace) (what : Record) (env : EnvNo) (text : List ℕ)
    → line_text job before env what ≡ Some text → MayBeLogged before env what
only_so job before (Raised event) env text e = said (is_addressed before env event) _ text e
only_so job before (Turned of class set k n has_changed) env text e = said (same_environment of env) _ text e
only_so job before (Replied of call code values) env text e = said (same_environment of env) _ text e
only_so job before _ env text e = absurd cc

has_line : (b : Bool) (line : List ℕ) → b ≡ true → IsSome (if b then Some line else None)
has_line true line e = refl
has_line false line e = absurd cc

all_so : (job : Job) (before : Trace) (what : Record) (env : EnvNo) → MayBeLogged before env what → IsSome (line_text job before env what)
all_so job before (Raised event) env may = has_line (is_addressed before env event) _ may
all_so job before (Turned of class set k n has_changed) env may = has_line (same_environment of env) _ may
all_so job before (Replied of call code values) env may = has_line (same_environment of env) _ may
all_so job before _ env may = absurd may

pub logs_grow : LogsGrow
logs_grow = record { grown = λ job trace e env. grown_from job [] env trace e; only = only_so; all = all_so }
