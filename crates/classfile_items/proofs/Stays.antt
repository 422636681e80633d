-- What shows in bytes doesn't depend on what follows them: where a file goes on behind them, the same value is found, and the same
-- fault, unless it says that the file is cut off. How that of a chain of steps follows from that of its steps.
use Rattle.std.proofs.Common.{◌≡◌, ◌⊎◌, inl, inr, ℕ, zero, suc, ◌+◌, ◌-◌, ◌≤◌, Bool, true, false, List, [], ◌∷◌, ◌++◌, length, take, drop, Option, Some, None, Ok, Err, refl, sym, ap, subst, arith, length-append}
use Rattle.std.specs.Prelude.{if◌then◌else◌, ◌==◌, nat_lt}
use Rattle.std.proofs.lemmas.Bool.{ltb-false, le-ltb}
use Rattle.std.proofs.lemmas.List.{take-append-le, drop-append-le}
use Rattle.class_tree.specs.declared.pool.Const.{Const}
use Rattle.class_tree.specs.Tree.{text_at}
use Rattle.classfile_items.specs.declared.fault.ReadClassFault.{ReadClassFault}
use Rattle.classfile_items.specs.declared.fault.ReadClassFault.TheVariants.{Truncated, BadIndex, BadLength}
use Rattle.classfile_items.specs.Reading.{Checked, Found, ◌>>=◌, provided, FaultOf, faultless, offset, u1, u2, u4, s4, u8, s8, raw, many, counted}
use Rattle.classfile_items.specs.Contents.{text_index, kept, of_length, measured}

-- What was found in a file of this length, and what is found later, in one that goes on: of a value so much is known, and a fault is
-- the same, unless it says that the file is cut off.
abbrev pub IsStill : {A B : Type 0} → ℕ → (A → Checked B) → Checked A → Checked B → Type 0
IsStill end longer (Ok x) later = later ≡ longer x
IsStill end longer (Err fault) later = (fault ≡ Truncated end) ⊎ (later ≡ Err fault)

pub record Stays {A B : Type 0} (end : ℕ) (longer : A → Checked B) (found : Checked A) (later : Checked B) : Type 0 where
  pub still : IsStill end longer found later

-- the same value, and more bytes behind those that are left
abbrev pub with : {A : Type 0} → List ℕ → A × List ℕ → Found A
with more x = Ok (x.0, x.1 ++ more)

-- ---- what was found, and chains of steps

pub value : {A B : Type 0} {end : ℕ} {longer : A → Checked B} {x : A} → Stays end longer (Ok x) (longer x)
value = record { still = refl }

pub cut : {A B : Type 0} {end : ℕ} {longer : A → Checked B} {later : Checked B} → Stays end longer (Err (Truncated end)) later
cut = record { still = inl refl }

pub refused : {A B : Type 0} {end : ℕ} {longer : A → Checked B} {fault other : ReadClassFault} → fault ≡ other → Stays end longer (Err fault) (Err other)
refused same = record { still = inr (ap Err (sym same)) }

pub chain : {A B C D : Type 0} {end : ℕ} {longer : A → Checked B} {last : C → Checked D} {found : Checked A} {later : Checked B} {next : A → Checked C} → Stays end longer found later → (next_later : B → Checked D) → ((x : A) → Stays end last (next x) (longer x >>= next_later)) → Stays end last (found >>= next) (later >>= next_later)
chain {end = end} {last = last} {found = Ok x} {next = next} first next_later others =
    subst (λ (r : Checked _). Stays end last (next x) (r >>= next_later)) (sym first.still) (others x)
chain {found = Err fault} first next_later others =
    record { still = elim first.still [ inl is ↦ inl is | inr e ↦ inr (ap (λ (r : Checked _). r >>= next_later) e) ] }

pub on_test : {A B : Type 0} {end : ℕ} {longer : A → Checked B} {x y : Checked A} {v w : Checked B} (test : Bool) → Stays end longer x v → Stays end longer y w → Stays end longer (if test then x else y) (if test then v else w)
on_test true first second = first
on_test false first second = second

pub on_option : {A B C : Type 0} {end : ℕ} {longer : A → Checked B} {none : Checked A} {none_later : Checked B} {some : C → Checked A} {some_later : C → Checked B} (o : Option C) → Stays end longer none none_later → ((x : C) → Stays end longer (some x) (some_later x)) → Stays end longer (elim o [ None ↦ none | Some x ↦ some x ]) (elim o [ None ↦ none_later | Some x ↦ some_later x ])
on_option None first others = first
on_option (Some x) first others = others x

pub on_provided : {A B : Type 0} {end : ℕ} {longer : A → Checked B} {fault other : ReadClassFault} {y : B} (test : Bool) (x : A) → fault ≡ other → Ok y ≡ longer x → Stays end longer (provided test fault x) (provided test other y)
on_provided true x same is = record { still = is }
on_provided false x same is = refused same

pub on_faultless : {A B : Type 0} {end : ℕ} {longer : A → Checked B} {y : B} (fault other : FaultOf) (x : A) → fault ≡ other → Ok y ≡ longer x → Stays end longer (faultless fault x) (faultless other y)
on_faultless {end = end} {longer = longer} {y = y} None other x same is =
    subst (λ (f : FaultOf). Stays end longer (Ok x) (faultless f y)) same (record { still = is })
on_faultless {end = end} {longer = longer} {y = y} (Some fault) other x same is =
    subst (λ (f : FaultOf). Stays end longer (Err fault) (faultless f y)) same (refused refl)

-- ---- where things stand

-- an offset is counted from the front
pub offset_same : (end : ℕ) (more bytes : List ℕ) → offset end bytes ≡ offset (end + length more) (bytes ++ more)
offset_same end more bytes = omega (arith, length-append bytes more)

-- so is what was read
pub read_same : (more bytes rest : List ℕ) → length bytes - length rest ≡ length (bytes ++ more) - length (rest ++ more)
read_same more bytes rest = omega (arith, length-append bytes more, length-append rest more)

-- ---- numbers and lists

module _ (end : ℕ) (more : List ℕ) where
  pub u1_stays : (bytes : List ℕ) → Stays end (with more) (u1 end bytes) (u1 (end + length more) (bytes ++ more))
  unfolding u1
  u1_stays [] = cut
  u1_stays (a ∷ bytes) = value

  pub u2_stays : (bytes : List ℕ) → Stays end (with more) (u2 end bytes) (u2 (end + length more) (bytes ++ more))
  unfolding u2
  u2_stays (a ∷ b ∷ bytes) = value
  u2_stays bytes = cut

  pub u4_stays : (bytes : List ℕ) → Stays end (with more) (u4 end bytes) (u4 (end + length more) (bytes ++ more))
  unfolding u4
  u4_stays (a ∷ b ∷ c ∷ d ∷ bytes) = value
  u4_stays bytes = cut

  pub s4_stays : (bytes : List ℕ) → Stays end (with more) (s4 end bytes) (s4 (end + length more) (bytes ++ more))
  unfolding s4
  s4_stays bytes = chain (u4_stays bytes) _ (λ n. value)

  u8_stays : (bytes : List ℕ) → Stays end (with more) (u8 end bytes) (u8 (end + length more) (bytes ++ more))
  unfolding u8
  u8_stays (a ∷ b ∷ c ∷ d ∷ e ∷ f ∷ g ∷ h ∷ bytes) = value
  u8_stays bytes = cut

  pub s8_stays : (bytes : List ℕ) → Stays end (with more) (s8 end bytes) (s8 (end + length more) (bytes ++ more))
  unfolding s8
  s8_stays bytes = chain (u8_stays bytes) _ (λ n. value)

raw_by : (end : ℕ) (more : List ℕ) (n : ℕ) (bytes : List ℕ) (short : Bool) → nat_lt (length bytes) n ≡ short → Stays end (with more) (if short then Err (Truncated end) else Ok (take n bytes, drop n bytes)) (raw (end + length more) n (bytes ++ more))
unfolding raw
raw_by end more n bytes true is = cut
raw_by end more n bytes false is =
    let fits : n ≤ length bytes = ltb-false (length bytes) n is in
    let whole : nat_lt (length (bytes ++ more)) n ≡ false = le-ltb (length (bytes ++ more)) n (omega (arith, length-append bytes more)) in
    record { still = rw (whole, take-append-le n bytes more fits, drop-append-le n bytes more fits) refl }

pub raw_stays : (end : ℕ) (more : List ℕ) (n : ℕ) (bytes : List ℕ) → Stays end (with more) (raw end n bytes) (raw (end + length more) n (bytes ++ more))
unfolding raw
raw_stays end more n bytes = raw_by end more n bytes (nat_lt (length bytes) n) refl

many_stays : {A : Type 0} {end : ℕ} {more : List ℕ} (item later : List ℕ → Found A) → ((bytes : List ℕ) → Stays end (with more) (item bytes) (later (bytes ++ more))) → (n : ℕ) (bytes : List ℕ) → Stays end (with more) (many item n bytes) (many later n (bytes ++ more))
unfolding many
many_stays item later each zero bytes = value
many_stays item later each (suc n) bytes = chain (each bytes) _ (λ x. chain (many_stays item later each n x.1) _ (λ xs. value))

pub counted_stays : {A : Type 0} {item : List ℕ → Found A} (end : ℕ) (more : List ℕ) (later : List ℕ → Found A) → ((bytes : List ℕ) → Stays end (with more) (item bytes) (later (bytes ++ more))) → (bytes : List ℕ) → Stays end (with more) (counted end item bytes) (counted (end + length more) later (bytes ++ more))
unfolding counted
counted_stays {item = item} end more later each bytes = chain (u2_stays end more bytes) _ (λ n. many_stays item later each n.0 n.1)

-- ---- attributes

pub text_index_stays : (end : ℕ) (more : List ℕ) (pool : List Const) (bytes : List ℕ) → Stays end (with more) (text_index end pool bytes) (text_index (end + length more) pool (bytes ++ more))
text_index_stays end more pool bytes = chain (u2_stays end more bytes) _ (λ n. on_option (text_at pool n.0) (refused (ap BadIndex (offset_same end more bytes))) (λ text. value))

pub kept_stays : {B : Type 0} (end : ℕ) (more : List ℕ) (wrap : List ℕ → B) (bytes : List ℕ) → Stays end (with more) (kept wrap end bytes) (kept wrap (end + length more) (bytes ++ more))
kept_stays end more wrap bytes = chain (u4_stays end more bytes) _ (λ len. chain (raw_stays end more len.0 len.1) _ (λ content. value))

of_length_stays : {A : Type 0} (end : ℕ) (more : List ℕ) (len : ℕ) (bytes : List ℕ) (x : A × List ℕ) → Stays end (with more) (of_length end len bytes x) (of_length (end + length more) len (bytes ++ more) (x.0, x.1 ++ more))
of_length_stays end more len bytes x =
    let later : ℕ → Found _ = λ n. provided (n == len) (BadLength (offset (end + length more) (bytes ++ more) - 4)) (x.0, x.1 ++ more) in
    subst (λ (n : ℕ). Stays end (with more) (of_length end len bytes x) (later n)) (read_same more bytes x.1)
    (on_provided (length bytes - length x.1 == len) x (ap (λ (at : ℕ). BadLength (at - 4)) (offset_same end more bytes)) refl)

pub measured_stays : {A B : Type 0} {item : List ℕ → Found A} (end : ℕ) (more : List ℕ) (wrap : A → B) (later : List ℕ → Found A) → ((bytes : List ℕ) → Stays end (with more) (item bytes) (later (bytes ++ more))) → (bytes : List ℕ) → Stays end (with more) (measured item wrap end bytes) (measured later wrap (end + length more) (bytes ++ more))
measured_stays end more wrap later each bytes = chain (u4_stays end more bytes) _ (λ len. chain (chain (each len.1) _ (of_length_stays end more len.0 len.1)) _ (λ v. value))
