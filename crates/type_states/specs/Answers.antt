-- What a step of the check answers, and the state that it leaves.
use Rattle.std.specs.Prelude.{◌≡◌, ℕ, Option, None, Some, Result, Ok, Err, IfErr}
use Rattle.ti_ids.specs.Maybe.{◌>>=◌}
use Rattle.type_frames.specs.declared.vtype.VType.{VType}
use Rattle.type_frames.specs.States.{State}
use Rattle.type_frames.specs.RulesOfLocals.{stored}
use Rattle.type_states.specs.declared.stop.Stop.{Stop}
use Rattle.type_states.specs.declared.stop.Stop.TheVariants.{Refused, Memory}

-- it leaves what the rule leaves, and refuses just where the rule refuses, unless memory ran out
abbrev pub Leaves : {A : Type 0} → Result A Stop → State → Option State → Type 0
Leaves (Ok done) s left = left ≡ Some s
Leaves (Err Refused) s left = left ≡ None
Leaves (Err Memory) s left = Unit {0}

-- the same of one that answers a value, as `view` sees it
abbrev pub Gives : {A B : Type 0} → (A → B) → Result A Stop → State → Option (B × State) → Type 0
Gives view (Ok x) s given = given ≡ Some (view x, s)
Gives view (Err Refused) s given = given ≡ None
Gives view (Err Memory) s given = Unit {0}

-- the same of what stands in no state: the value that is found, or that there is none
abbrev pub Names : {A B : Type 0} → (A → B) → Result A Stop → Option B → Type 0
Names view (Ok x) found = found ≡ Some (view x)
Names view (Err Refused) found = found ≡ None
Names view (Err Memory) found = Unit {0}

-- a state in which a local variable is set
abbrev pub stored_in : ℕ → VType → State → Option State
stored_in place t s = stored place t s.locals >>= λ locals. Some (record s { locals = locals })

-- the rules alone refuse, since it takes no memory
abbrev pub NeverOfMemory : {A : Type 0} → Result A Stop → Type 0
NeverOfMemory result = IfErr result (λ e. e ≡ Refused)

-- what holds where memory ran out
abbrev pub OnMemory : {A : Type 0} → Result A Stop → Type 0 → Type 0
OnMemory (Ok done) held = Unit {0}
OnMemory (Err Refused) held = Unit {0}
OnMemory (Err Memory) held = held
