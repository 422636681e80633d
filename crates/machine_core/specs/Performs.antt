-- What an instruction was found to do to the operands.
use Rattle.std.specs.Prelude.{◌≡◌, ◌∷◌, ◌<◌, length, ℤ, List, Option, Some, None}
use Rattle.ti_ids.specs.declared.value.Value.{Value}
use Rattle.ti_ids.specs.declared.value.Value.TheVariants.{Int, Long, Ref}
use Rattle.first_form.specs.declared.Instr.{Instr}
use Rattle.first_form.specs.declared.Instr.TheVariants.{IntConst, IntArith, GetStatic, InvokeVirtual, Return}
use Rattle.machine_model.specs.Effects as effects
use Rattle.machine_model.specs.Effects.{Effect, int_arith, print_int, printed_int}
use Rattle.machine_core.specs.declared.operands.Done.{Done}
use Rattle.machine_core.specs.declared.operands.Done.TheVariants.{Goes, Prints, Leaves, Misfit}

-- The effect of an instruction of the first form: what `effect` is where `getstatic` names System.out, which is object 1, and `invokevirtual` the printing of an int.
abbrev pub known_effect : Instr → List Value → Effect
known_effect (IntConst n) stack = effects.Goes (Int n ∷ stack)
known_effect (IntArith op) stack = int_arith op stack
known_effect (GetStatic n) stack = effects.Goes (Ref (Some (record { 0 = 1 })) ∷ stack)
known_effect (InvokeVirtual n) stack = print_int stack
known_effect Return stack = effects.Leaves

-- the effect, and the stack that it leaves, the top first
abbrev pub Shows : Done → Effect → List Value → List Value → Type 0
Shows Goes e old new = e ≡ effects.Goes new
Shows (Prints v) e old new = e ≡ effects.Prints (printed_int v) new
Shows Leaves e old new = (e ≡ effects.Leaves) × (new ≡ old)
Shows Misfit e old new = (e ≡ effects.Misfit) × (new ≡ old)

-- the two upper entries, where there are two
abbrev pub IsTopTwo : List Value → Option (Value × Value) → Type 0
IsTopTwo stack (Some p) = (rest : List Value) × (stack ≡ p.0 ∷ p.1 ∷ rest)
IsTopTwo stack None = length stack < 2

-- two ints, the upper one last
abbrev pub ints_of : Value → Value → Option (ℤ × ℤ)
ints_of (Int b) (Int a) = Some (a, b)
ints_of (Int b) (Long a) = None
ints_of (Int b) (Ref a) = None
ints_of (Long b) lower = None
ints_of (Ref b) lower = None

-- the int on an object
abbrev pub printed_of : Value → Value → Option ℤ
printed_of (Int b) (Ref (Some o)) = Some b
printed_of (Int b) (Ref None) = None
printed_of (Int b) (Int a) = None
printed_of (Int b) (Long a) = None
printed_of (Long b) lower = None
printed_of (Ref b) lower = None
