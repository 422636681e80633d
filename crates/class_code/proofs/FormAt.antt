-- The one form of each opcode: the search finds it.
use Rattle.std.proofs.Common.{zero, suc, inl, inr, arith, ◌≡◌, ℕ, ◌+◌, ◌<◌, Bool, true, false, cond, eqb, List, [], ◌∷◌, refl, sym, subst}
use Rattle.class_code.specs.declared.form.Form.{Form}
use Rattle.class_code.specs.declared.form.Form.TheVariants as form
use Rattle.class_code.specs.declared.instr.Simple.{Simple}
use Rattle.class_code.specs.declared.instr.Simple.TheVariants as simple
use Rattle.class_code.specs.declared.instr.IntConst.TheVariants as int_const
use Rattle.class_code.specs.declared.instr.LongConst.TheVariants as long_const
use Rattle.class_code.specs.declared.instr.Kind.{Kind}
use Rattle.class_code.specs.declared.instr.Kind.TheVariants as kind
use Rattle.class_code.specs.declared.instr.Slot.TheVariants as slot
use Rattle.class_code.specs.declared.instr.Element.TheVariants as element
use Rattle.class_code.specs.declared.instr.StackOp.TheVariants as stack_op
use Rattle.class_code.specs.declared.instr.Arithmetic.TheVariants as arithmetic
use Rattle.class_code.specs.declared.instr.Width.TheVariants as width
use Rattle.class_code.specs.declared.instr.Conversion.TheVariants as conversion
use Rattle.class_code.specs.declared.instr.Condition.TheVariants as condition
use Rattle.class_code.specs.declared.instr.Branch.{Branch}
use Rattle.class_code.specs.declared.instr.Branch.TheVariants as branch
use Rattle.class_code.specs.declared.instr.PoolOp.{PoolOp}
use Rattle.class_code.specs.declared.instr.PoolOp.TheVariants as pool_op
use Rattle.std.specs.Prelude.{not, ◌&&◌, ◌||◌, IsTrue, find, is_some, unwrap_or, Option, Some, None}
use Rattle.std.specs.List.{list_all}
use Rattle.std.proofs.lemmas.Bool.{cases_lt, eqb-true}
use Rattle.class_code.specs.Codes.{kind_place, branch_code, pool_code, simple_code}
use Rattle.class_code.specs.Forms.{is_floating, is_unsupported, form_code, IsForm}
use Rattle.class_code.specs.FormSearch.{forms, form_at}

-- ---- the opcode of each of them begins that form; a last case stands for all that are left

pub simple_again : (s : Simple) → form_at (simple_code s) ≡ form.Simple s
unfolding form_at
simple_again (simple.ConstInt int_const.MinusOne) = refl
simple_again (simple.ConstInt n) = refl
simple_again (simple.ConstLong long_const.Zero) = refl
simple_again (simple.ConstLong n) = refl
simple_again (simple.Load kind.Int slot.Zero) = refl
simple_again (simple.Load k slot.Zero) = refl
simple_again (simple.Load k s) = refl
simple_again (simple.Store kind.Int slot.Zero) = refl
simple_again (simple.Store k slot.Zero) = refl
simple_again (simple.Store k s) = refl
simple_again (simple.ArrayLoad element.Int) = refl
simple_again (simple.ArrayLoad e) = refl
simple_again (simple.ArrayStore element.Int) = refl
simple_again (simple.ArrayStore e) = refl
simple_again (simple.Stack stack_op.Pop) = refl
simple_again (simple.Stack o) = refl
simple_again (simple.Arithmetic arithmetic.Add width.Int) = refl
simple_again (simple.Arithmetic o width.Int) = refl
simple_again (simple.Arithmetic o w) = refl
simple_again (simple.Convert conversion.IntToLong) = refl
simple_again (simple.Convert c) = refl
simple_again (simple.Return kind.Int) = refl
simple_again (simple.Return k) = refl
simple_again s = refl

pub branch_again : (c : Branch) → form_at (branch_code c) ≡ form.Branch c
unfolding form_at
branch_again (branch.If condition.Eq) = refl
branch_again (branch.IfIntCompare condition.Eq) = refl
branch_again c = refl

pub pool_again : (o : PoolOp) → form_at (pool_code o) ≡ form.Pool o
unfolding form_at
pool_again pool_op.GetField = refl
pool_again o = refl

pub load_again : (k : Kind) → form_at (0x15 + kind_place k) ≡ form.Load k
unfolding form_at
load_again kind.Int = refl
load_again k = refl

pub store_again : (k : Kind) → form_at (0x36 + kind_place k) ≡ form.Store k
unfolding form_at
store_again kind.Int = refl
store_again k = refl

-- no opcode is both: a test of all bytes
abbrev upto : ℕ → List ℕ
upto zero = []
upto (suc n) = n ∷ upto n

abbrev apart : ℕ → Bool
apart b = not (is_floating b && is_unsupported b)

all_apart : list_all apart (upto 256) ≡ true
all_apart = refl

and_true : (a b : Bool) → a && b ≡ true → (a ≡ true) × (b ≡ true)
and_true true true e = (refl, refl)
and_true true false e = absurd cc
and_true false b e = absurd cc

at_each : (test : ℕ → Bool) (n b : ℕ) → list_all test (upto n) ≡ true → b < n → test b ≡ true
at_each test zero b all lt = absurd (omega arith)
at_each test (suc n) b all lt =
    let parts = and_true (test n) (list_all test (upto n)) all in
    elim (cases_lt b n) [
      | inl below ↦ at_each test n b parts.1 below
      | inr above ↦ let here : b ≡ n = omega arith in rw here parts.0
    ]

not_both : (a b : Bool) → not (a && b) ≡ true → IsTrue a → b ≡ false
not_both true true e h = absurd cc
not_both true false e h = refl
not_both false b e h = absurd cc

-- a form that an opcode has is the one that the table gives it
pub form_is : (b : ℕ) (f : Form) → b < 256 → IsForm b f → form_at b ≡ f
unfolding form_at
form_is b (form.Simple s) lt e = rw e (simple_again s)
form_is b (form.Load k) lt e = rw e (load_again k)
form_is b (form.Store k) lt e = rw e (store_again k)
form_is b (form.Branch c) lt e = rw e (branch_again c)
form_is b (form.Pool o) lt e = rw e (pool_again o)
form_is b form.Floating lt e =
    let other : is_unsupported b ≡ false = not_both (is_floating b) (is_unsupported b) (at_each apart 256 b all_apart lt) e in
    rw (other, e) refl
form_is b f lt e = rw e refl

-- ---- each byte has the form that the table gives it

-- the opcode of a form begins it
of_code : (b : ℕ) (f : Form) → b < 256 → form_code f ≡ b → IsForm b f
of_code b form.Floating lt e = absurd (omega (arith, e))
of_code b form.Unsupported lt e = absurd (omega (arith, e))
of_code b f lt e = sym e

-- what a search finds passes its test
at_first : {X : Type 0} (test : X → Bool) (x y : X) (others : Option X) (t : Bool) → test y ≡ t → (others ≡ Some x → test x ≡ true) → cond t (Some y) others ≡ Some x → test x ≡ true
at_first test x y others true h more e = let same : y ≡ x = cc in subst (λ z. test z ≡ true) same h
at_first test x y others false h more e = more e

found_passes : {X : Type 0} (test : X → Bool) (xs : List X) (x : X) → find test xs ≡ Some x → test x ≡ true
found_passes test [] x e = absurd cc
found_passes test (y ∷ ys) x e = at_first test x y (find test ys) (test y) refl (found_passes test ys x) e

-- every byte is unsupported, floating or the opcode of one of all forms: a test of all bytes
abbrev is_known : ℕ → Bool
is_known b = is_unsupported b || (is_floating b || is_some (find (λ f. eqb (form_code f) b) forms))

all_known : list_all is_known (upto 256) ≡ true
all_known = refl

chosen : (b : ℕ) (u f : Bool) (o : Option Form) → b < 256 → is_unsupported b ≡ u → is_floating b ≡ f → find (λ g. eqb (form_code g) b) forms ≡ o
    → IsForm b (cond u form.Unsupported (cond f form.Floating (unwrap_or o form.Unsupported)))
chosen b true f o lt eu ef eo = eu
chosen b false true o lt eu ef eo = ef
chosen b false false (Some g) lt eu ef eo = of_code b g lt (eqb-true (form_code g) b (found_passes (λ f. eqb (form_code f) b) forms g eo))
chosen b false false None lt eu ef eo =
    let known : is_unsupported b || (is_floating b || is_some (find (λ f. eqb (form_code f) b) forms)) ≡ true = at_each is_known 256 b all_known lt in
    let none : false ≡ true = rw (eu, ef, eo) at known in absurd cc

pub form_found : (b : ℕ) → b < 256 → IsForm b (form_at b)
unfolding form_at
form_found b lt = chosen b (is_unsupported b) (is_floating b) (find (λ g. eqb (form_code g) b) forms) lt refl refl refl
