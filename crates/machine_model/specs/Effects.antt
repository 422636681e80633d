-- What an instruction does: JVM specification 6.5.
use Rattle.std.specs.Prelude.{ℕ, ℤ, List, [], ◌∷◌, ◌++◌, Option, Some, None, ◌+ℤ◌, ◌-ℤ◌, ◌*ℤ◌, codes, if◌then◌else◌}
use Rattle.std.specs.Int.{w32, int_wrap}
use Rattle.std.specs.Fmt.{signed_decimal}
use Rattle.ti_ids.specs.declared.value.Value.{Value}
use Rattle.ti_ids.specs.declared.value.Value.TheVariants.{Int, Ref}
use Rattle.first_form.specs.declared.Op.{Op}
use Rattle.first_form.specs.declared.Op.TheVariants.{Add, Sub, Mul}
use Rattle.first_form.specs.declared.Instr.{Instr}
use Rattle.first_form.specs.declared.Instr.TheVariants.{IntConst, IntArith, GetStatic, InvokeVirtual, Return}
use Rattle.ti_ids.specs.Maybe.{◌>>=◌}
use Rattle.first_form.specs.ClassFiles.{ClassFile, Reference, field_at, method_at}
use Rattle.machine_model.specs.Core.{Core, static_at, same_reference}

-- section 2.11.3: the sum, the difference and the product wrap
abbrev pub int_op : Op → ℤ → ℤ → ℤ
int_op Add a b = int_wrap w32 (a +ℤ b)
int_op Sub a b = int_wrap w32 (a -ℤ b)
int_op Mul a b = int_wrap w32 (a *ℤ b)

pub data Effect : Type 0 where
  -- it leaves this stack
  Goes : List Value → Effect
  -- it also prints
  Prints : List ℕ → List Value → Effect
  -- its frame is left
  Leaves : Effect
  -- It finds no operands of its kinds, or its entry names nothing that it can use. An accepted class never comes here; the core stays as it is.
  Misfit : Effect

abbrev pub system_out : Reference
system_out = record { class = codes "java/lang/System"; name = codes "out"; descriptor = codes "Ljava/io/PrintStream;" }

abbrev pub println_int : Reference
println_int = record { class = codes "java/io/PrintStream"; name = codes "println"; descriptor = codes "(I)V" }

-- the number in decimal, and a line feed
abbrev pub printed_int : ℤ → List ℕ
printed_int v = signed_decimal v ++ 10 ∷ []

-- `getstatic`: the field's value comes on top
abbrev pub get_static : Option Value → List Value → Effect
get_static None stack = Misfit
get_static (Some value) stack = Goes (value ∷ stack)

-- `iadd`, `isub` and `imul`
abbrev pub int_arith : Op → List Value → Effect
int_arith op (Int b ∷ Int a ∷ stack) = Goes (Int (int_op op a b) ∷ stack)
int_arith op _ = Misfit

-- an int on an object is printed
abbrev pub print_int : List Value → Effect
print_int (Int v ∷ Ref (Some o) ∷ stack) = Prints (printed_int v) stack
print_int _ = Misfit

-- `invokevirtual` of a base method, so far of the one that prints an int
abbrev pub invoke_virtual : Option Reference → List Value → Effect
invoke_virtual None stack = Misfit
invoke_virtual (Some method) stack = if same_reference method println_int then print_int stack else Misfit

-- an instruction of a class with this tree, on this stack
abbrev pub effect : Core → ClassFile → Instr → List Value → Effect
effect core tree (IntConst n) stack = Goes (Int n ∷ stack)
effect core tree (IntArith op) stack = int_arith op stack
effect core tree (GetStatic n) stack = get_static (field_at tree n >>= static_at core) stack
effect core tree (InvokeVirtual n) stack = invoke_virtual (method_at tree n) stack
effect core tree Return stack = Leaves
