-- What is read of an instruction doesn't depend on the bytes that follow it: where there are more, the same is read, and what is no
-- instruction isn't one, unless bytes were missing.
use Rattle.std.proofs.Common.{◌≡◌, ◌⊎◌, inl, inr, ℕ, zero, suc, ◌+◌, ◌*◌, ◌≤◌, ℤ, pos, negsuc, Bool, true, false, List, [], ◌∷◌, ◌++◌, length, Option, Some, None, Result, Ok, Err, refl, sym, ap, subst, arith, length-append}
use Rattle.std.specs.Prelude.{◌==◌, cond, nat_lt, int_lt}
use Rattle.std.proofs.lemmas.Bool.{ltb-false, le-ltb}
use Rattle.class_code.specs.declared.fault.InstrFault.{InstrFault}
use Rattle.class_code.specs.declared.fault.InstrFault.TheVariants as instr_fault
use Rattle.class_code.specs.declared.form.Form.{Form}
use Rattle.class_code.specs.declared.form.Form.TheVariants as form
use Rattle.class_code.specs.declared.instr.Padding.{Padding}
use Rattle.class_code.specs.Spelling.{padding_len}
use Rattle.class_code.specs.FormSearch.{form_at}
use Rattle.class_code.specs.OperandReading.{Read, ◌>>=◌, take_u1, take_s1, take_u2, take_s2, take_s4, primitive_at, take_padding, take_words, above, take_pair, take_pairs}
use Rattle.class_code.specs.PoolUses.{form_use, pool_use_at}
use Rattle.class_code.specs.CodeReading.{read_widened, read_wide, count_of, table_rest, read_table, lookup_rest, read_lookup, read_form, instr_at}

-- What was read at the front of bytes, and what is read with more behind them: a value is the same, with at most so many bytes left,
-- and so is a fault, unless bytes were missing.
abbrev IsReadStill : {A : Type 0} → List ℕ → ℕ → Read A → Read A → Type 0
IsReadStill more most (Ok x) later = (length x.1 ≤ most) × (later ≡ Ok (x.0, x.1 ++ more))
IsReadStill more most (Err why) later = (why ≡ instr_fault.Truncated) ⊎ (later ≡ Err why)

pub record ReadStays {A : Type 0} (more : List ℕ) (most : ℕ) (read later : Read A) : Type 0 where
  pub still : IsReadStill more most read later

-- ---- chains of steps

read : {A : Type 0} {more : List ℕ} {most : ℕ} {x : A} {rest : List ℕ} → length rest ≤ most → ReadStays more most (Ok (x, rest)) (Ok (x, rest ++ more))
read le = record { still = (le, refl) }

missing : {A : Type 0} {more : List ℕ} {most : ℕ} {later : Read A} → ReadStays more most (Err instr_fault.Truncated) later
missing = record { still = inl refl }

none : {A : Type 0} {more : List ℕ} {most : ℕ} {why : InstrFault} → ReadStays {A = A} more most (Err why) (Err why)
none = record { still = inr refl }

-- after a step no more bytes are left than before
chain : {A B : Type 0} {more : List ℕ} {most : ℕ} {found later : Read A} {next : A × List ℕ → Read B} → ReadStays more most found later → (next_later : A × List ℕ → Read B) → ((x : A × List ℕ) → length x.1 ≤ most → ReadStays more most (next x) (next_later (x.0, x.1 ++ more))) → ReadStays more most (found >>= next) (later >>= next_later)
chain {more = more} {most = most} {found = Ok x} {next = next} first next_later others =
    subst (λ (r : Read _). ReadStays more most (next x) (r >>= next_later)) (sym first.still.1) (others x first.still.0)
chain {found = Err why} first next_later others =
    record { still = elim first.still [ inl is ↦ inl is | inr e ↦ inr (ap (λ (r : Read _). r >>= next_later) e) ] }

on_result : {A B : Type 0} {more : List ℕ} {most : ℕ} {next : A → Read B} (found : Result A InstrFault) (next_later : A → Read B) → ((x : A) → ReadStays more most (next x) (next_later x)) → ReadStays more most (found >>= next) (found >>= next_later)
on_result (Ok x) next_later others = others x
on_result (Err why) next_later others = none

on_cond : {A : Type 0} {more : List ℕ} {most : ℕ} {x y v w : Read A} (test : Bool) → ReadStays more most x v → ReadStays more most y w → ReadStays more most (cond test x y) (cond test v w)
on_cond true first second = first
on_cond false first second = second

-- so many bytes must be there
whole_by : {A : Type 0} {more : List ℕ} {most : ℕ} {x y : Read A} (n : ℕ) (bytes : List ℕ) (short : Bool) → nat_lt (length bytes) n ≡ short → ReadStays more most x y → ReadStays more most (cond short (Err instr_fault.Truncated) x) (cond (nat_lt (length (bytes ++ more)) n) (Err instr_fault.Truncated) y)
whole_by n bytes true is second = missing
whole_by {more = more} {most = most} {x = x} {y = y} n bytes false is second =
    let there : n ≤ length bytes = ltb-false (length bytes) n is in
    let later : nat_lt (length (bytes ++ more)) n ≡ false = le-ltb (length (bytes ++ more)) n (omega (arith, length-append bytes more)) in
    subst (λ (short : Bool). ReadStays more most x (cond short (Err instr_fault.Truncated) y)) (sym later) second

on_whole : {A : Type 0} {more : List ℕ} {most : ℕ} {x y : Read A} (n : ℕ) (bytes : List ℕ) → ReadStays more most x y → ReadStays more most (cond (nat_lt (length bytes) n) (Err instr_fault.Truncated) x) (cond (nat_lt (length (bytes ++ more)) n) (Err instr_fault.Truncated) y)
on_whole n bytes second = whole_by n bytes (nat_lt (length bytes) n) refl second

module _ (more : List ℕ) (most : ℕ) where
  -- ---- operands

  u1_stays : (bytes : List ℕ) → length bytes ≤ most → ReadStays more most (take_u1 bytes) (take_u1 (bytes ++ more))
  u1_stays [] le = missing
  u1_stays (b ∷ bytes) le = read (omega (arith, le))

  s1_stays : (bytes : List ℕ) → length bytes ≤ most → ReadStays more most (take_s1 bytes) (take_s1 (bytes ++ more))
  s1_stays [] le = missing
  s1_stays (b ∷ bytes) le = read (omega (arith, le))

  u2_stays : (bytes : List ℕ) → length bytes ≤ most → ReadStays more most (take_u2 bytes) (take_u2 (bytes ++ more))
  u2_stays (a ∷ b ∷ bytes) le = read (omega (arith, le))
  u2_stays bytes le = missing

  s2_stays : (bytes : List ℕ) → length bytes ≤ most → ReadStays more most (take_s2 bytes) (take_s2 (bytes ++ more))
  s2_stays (a ∷ b ∷ bytes) le = read (omega (arith, le))
  s2_stays bytes le = missing

  s4_stays : (bytes : List ℕ) → length bytes ≤ most → ReadStays more most (take_s4 bytes) (take_s4 (bytes ++ more))
  s4_stays (a ∷ b ∷ c ∷ d ∷ bytes) le = read (omega (arith, le))
  s4_stays bytes le = missing

  padding_stays : (n : ℕ) (bytes : List ℕ) → length bytes ≤ most → ReadStays more most (take_padding n bytes) (take_padding n (bytes ++ more))
  padding_stays zero bytes le = read le
  padding_stays (suc zero) (a ∷ bytes) le = read (omega (arith, le))
  padding_stays (suc (suc zero)) (a ∷ b ∷ bytes) le = read (omega (arith, le))
  padding_stays (suc (suc (suc zero))) (a ∷ b ∷ c ∷ bytes) le = read (omega (arith, le))
  padding_stays n bytes le = missing

  words_stays : (n : ℕ) (bytes : List ℕ) → length bytes ≤ most → ReadStays more most (take_words n bytes) (take_words n (bytes ++ more))
  words_stays zero bytes le = read le
  words_stays (suc n) bytes le = chain (s4_stays bytes le) _ (λ first l. chain (words_stays n first.1 l) _ (λ others m. read m))

  pair_stays : (last : Option ℤ) (bytes : List ℕ) → length bytes ≤ most → ReadStays more most (take_pair last bytes) (take_pair last (bytes ++ more))
  pair_stays last bytes le = chain (s4_stays bytes le) _ (λ k l. on_cond (above last k.0) (chain (s4_stays k.1 l) _ (λ o m. read m)) none)

  pairs_stays : (n : ℕ) (last : Option ℤ) (bytes : List ℕ) → length bytes ≤ most → ReadStays more most (take_pairs n last bytes) (take_pairs n last (bytes ++ more))
  pairs_stays zero last bytes le = read le
  pairs_stays (suc n) last bytes le = chain (pair_stays last bytes le) _ (λ p l. chain (pairs_stays n (Some p.0.0) p.1 l) _ (λ others m. read m))

  -- ---- wide, and the switches

  widened_stays : (b : ℕ) (f : Form) (bytes : List ℕ) → length bytes ≤ most → ReadStays more most (read_widened b f bytes) (read_widened b f (bytes ++ more))
  widened_stays b (form.Load k) bytes le = chain (u2_stays bytes le) _ (λ n l. read l)
  widened_stays b (form.Store k) bytes le = chain (u2_stays bytes le) _ (λ n l. read l)
  widened_stays b form.Increment bytes le = chain (u2_stays bytes le) _ (λ n l. chain (s2_stays n.1 l) _ (λ by m. read m))
  widened_stays b form.Unsupported bytes le = on_cond (b == 0xa9) none none
  widened_stays b f bytes le = none

  wide_stays : (bytes : List ℕ) → length bytes ≤ most → ReadStays more most (read_wide bytes) (read_wide (bytes ++ more))
  wide_stays [] le = missing
  wide_stays (b ∷ bytes) le = widened_stays b (form_at b) bytes (omega (arith, le))

  table_rest_stays : (p : Padding) (d l h : ℤ) (bytes : List ℕ) → length bytes ≤ most → ReadStays more most (table_rest p d l h bytes) (table_rest p d l h (bytes ++ more))
  table_rest_stays p d l h bytes le = on_cond (int_lt h l) none (on_whole (4 * count_of l h) bytes (chain (words_stays (count_of l h) bytes le) _ (λ os m. read m)))

  table_stays : (at : ℕ) (bytes : List ℕ) → length bytes ≤ most → ReadStays more most (read_table at bytes) (read_table at (bytes ++ more))
  table_stays at bytes le =
      on_whole (padding_len at + 12) bytes (chain (padding_stays (padding_len at) bytes le) _ (λ p a. chain (s4_stays p.1 a) _ (λ d b. chain (s4_stays d.1 b) _ (λ l c. chain (s4_stays l.1 c) _ (λ h m. table_rest_stays p.0 d.0 l.0 h.0 h.1 m)))))

  lookup_rest_stays : (p : Padding) (d count : ℤ) (bytes : List ℕ) → length bytes ≤ most → ReadStays more most (lookup_rest p d count bytes) (lookup_rest p d count (bytes ++ more))
  lookup_rest_stays p d (negsuc n) bytes le = none
  lookup_rest_stays p d (pos n) bytes le = chain (pairs_stays n None bytes le) _ (λ ps m. read m)

  lookup_stays : (at : ℕ) (bytes : List ℕ) → length bytes ≤ most → ReadStays more most (read_lookup at bytes) (read_lookup at (bytes ++ more))
  lookup_stays at bytes le =
      on_whole (padding_len at + 8) bytes (chain (padding_stays (padding_len at) bytes le) _ (λ p a. chain (s4_stays p.1 a) _ (λ d b. chain (s4_stays d.1 b) _ (λ c m. lookup_rest_stays p.0 d.0 c.0 c.1 m))))

  -- ---- an instruction

  pub form_stays : (at : ℕ) (f : Form) (bytes : List ℕ) → length bytes ≤ most → ReadStays more most (read_form at f bytes) (read_form at f (bytes ++ more))
  form_stays at (form.Simple s) bytes le = read le
  form_stays at form.PushByte bytes le = chain (s1_stays bytes le) _ (λ n m. read m)
  form_stays at form.PushShort bytes le = chain (s2_stays bytes le) _ (λ n m. read m)
  form_stays at form.LoadConst bytes le = chain (u1_stays bytes le) _ (λ n m. read m)
  form_stays at (form.Load k) bytes le = chain (u1_stays bytes le) _ (λ n m. read m)
  form_stays at (form.Store k) bytes le = chain (u1_stays bytes le) _ (λ n m. read m)
  form_stays at form.Increment bytes le = chain (u1_stays bytes le) _ (λ n l. chain (s1_stays n.1 l) _ (λ by m. read m))
  form_stays at (form.Branch c) bytes le = chain (s2_stays bytes le) _ (λ n m. read m)
  form_stays at form.GotoWide bytes le = chain (s4_stays bytes le) _ (λ n m. read m)
  form_stays at form.TableSwitch bytes le = table_stays at bytes le
  form_stays at form.LookupSwitch bytes le = lookup_stays at bytes le
  form_stays at (form.Pool o) bytes le = chain (u2_stays bytes le) _ (λ n m. read m)
  form_stays at form.InvokeInterface bytes le =
      chain (u2_stays bytes le) _ (λ i a. chain (u1_stays i.1 a) _ (λ c b. chain (u1_stays c.1 b) _ (λ z m. on_cond (z.0 == 0) (read m) none)))
  form_stays at form.NewArray bytes le = chain (u1_stays bytes le) _ (λ c m. on_result (primitive_at c.0) _ (λ p. read m))
  form_stays at form.MultiNewArray bytes le = chain (u2_stays bytes le) _ (λ i a. chain (u1_stays i.1 a) _ (λ d m. read m))
  form_stays at form.Wide bytes le = wide_stays bytes le
  form_stays at form.Floating bytes le = none
  form_stays at form.Unsupported bytes le = none

-- What stands behind an opcode is less than before it.
pub instr_stays : (more : List ℕ) (at b : ℕ) (bytes : List ℕ) → ReadStays more (length bytes) (instr_at at (b ∷ bytes)) (instr_at at (b ∷ (bytes ++ more)))
instr_stays more at b bytes = form_stays more (length bytes) at (form_at b) bytes (omega arith)

-- ---- its index

-- Where more bytes follow, an index stands as it stood, unless bytes were missing.
abbrev IsUseStill : List ℕ → ℕ → Form → List ℕ → Type 0
IsUseStill more at f bytes = (form_use f (bytes ++ more) ≡ form_use f bytes) ⊎ ((form_use f bytes ≡ None) × (read_form at f bytes ≡ Err instr_fault.Truncated))

use_stays : (more : List ℕ) (at : ℕ) (f : Form) (bytes : List ℕ) → IsUseStill more at f bytes
use_stays more at form.LoadConst [] = inr (refl, refl)
use_stays more at form.LoadConst (a ∷ bytes) = inl refl
use_stays more at (form.Pool o) (a ∷ b ∷ bytes) = inl refl
use_stays more at (form.Pool o) bytes = inr (refl, refl)
use_stays more at form.InvokeInterface (a ∷ b ∷ bytes) = inl refl
use_stays more at form.InvokeInterface bytes = inr (refl, refl)
use_stays more at form.MultiNewArray (a ∷ b ∷ bytes) = inl refl
use_stays more at form.MultiNewArray bytes = inr (refl, refl)
use_stays more at f bytes = inl refl

pub record UseStays (more : List ℕ) (at : ℕ) (bytes : List ℕ) : Type 0 where
  pub still : (pool_use_at (bytes ++ more) ≡ pool_use_at bytes) ⊎ ((pool_use_at bytes ≡ None) × (instr_at at bytes ≡ Err instr_fault.Truncated))

pub use_at_stays : (more : List ℕ) (at b : ℕ) (bytes : List ℕ) → UseStays more at (b ∷ bytes)
use_at_stays more at b bytes = record { still = use_stays more at (form_at b) bytes }
