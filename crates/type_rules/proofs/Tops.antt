-- Where an instruction takes a long or a word, the top tells which.
use Rattle.std.proofs.Common.{◌≡◌, ℕ, Bool, List, [], ◌∷◌, Option, Some, None, refl}
use Rattle.std.specs.Prelude.{is_some, if◌then◌else◌}
use Rattle.std.specs.Option.{option_or}
use Rattle.ti_ids.specs.Maybe.{◌>>=◌}
use Rattle.type_frames.specs.declared.vtype.VType.{VType}
use Rattle.type_frames.specs.declared.vtype.VType.TheVariants as vtype
use Rattle.type_frames.specs.States.{State, all_put}
use Rattle.type_frames.specs.RulesOfStack.{one, two, dup2_x2_rule}
use Rattle.type_rules.specs.Methods.{long_over_any, words_over_any}

or_none : (o : Option State) → option_or o None ≡ o
or_none None = refl
or_none (Some s) = refl

module _ (f g : VType × State → Option State) (locals : List VType) (uninit : Bool) where
  abbrev with_stack : List VType → State
  with_stack stack = record { locals = locals; stack = stack; this_uninit = uninit }

  by_top : (stack : List VType) → option_or (two (with_stack stack) >>= f) (one (with_stack stack) >>= g) ≡ (if is_some (two (with_stack stack)) then (two (with_stack stack) >>= f) else (one (with_stack stack) >>= g))
  by_top [] = refl
  by_top (vtype.Top ∷ rest) = refl
  by_top (vtype.Integer ∷ rest) = refl
  by_top (vtype.Long ∷ rest) = or_none (f (vtype.Long, with_stack rest))
  by_top (vtype.Null ∷ rest) = refl
  by_top (vtype.UninitThis ∷ rest) = refl
  by_top (vtype.Object name ∷ rest) = refl
  by_top (vtype.Uninit at ∷ rest) = refl

pub or_by_top : (f g : VType × State → Option State) (s : State) → option_or (two s >>= f) (one s >>= g) ≡ (if is_some (two s) then (two s >>= f) else (one s >>= g))
or_by_top f g s = by_top f g s.locals s.this_uninit s.stack

-- ---- `dup2_x2`, by what is on top

or_bind : {A : Type 0} (o : Option A) (f g : A → Option State) → option_or (o >>= f) (o >>= g) ≡ (o >>= λ x. option_or (f x) (g x))
or_bind None f g = refl
or_bind (Some x) f g = refl

module _ (room : ℕ) (locals : List VType) (uninit : Bool) where
  abbrev at_stack : List VType → State
  at_stack stack = record { locals = locals; stack = stack; this_uninit = uninit }

  both_forms : (stack : List VType) → dup2_x2_rule room (at_stack stack) ≡ (if is_some (two (at_stack stack)) then long_over_any room (at_stack stack) else words_over_any room (at_stack stack))
  both_forms [] = refl
  both_forms (vtype.Top ∷ rest) = refl
  both_forms (vtype.Integer ∷ rest) = or_bind (one (at_stack rest)) _ _
  both_forms (vtype.Long ∷ rest) = λ i. option_or
      (or_none (two (at_stack rest) >>= λ b. all_put room (vtype.Long ∷ b.0 ∷ vtype.Long ∷ []) b.1) i)
      (or_none (one (at_stack rest) >>= λ b. one b.1 >>= λ c. all_put room (vtype.Long ∷ c.0 ∷ b.0 ∷ vtype.Long ∷ []) c.1) i)
  both_forms (vtype.Null ∷ rest) = or_bind (one (at_stack rest)) _ _
  both_forms (vtype.UninitThis ∷ rest) = or_bind (one (at_stack rest)) _ _
  both_forms (vtype.Object name ∷ rest) = or_bind (one (at_stack rest)) _ _
  both_forms (vtype.Uninit at ∷ rest) = or_bind (one (at_stack rest)) _ _

pub dup2_x2_by_top : (room : ℕ) (s : State) → dup2_x2_rule room s ≡ (if is_some (two s) then long_over_any room s else words_over_any room s)
dup2_x2_by_top room s = both_forms room s.locals s.this_uninit s.stack
