-- Want of memory is no fault that is found in bytes: what is found there never says `Memory`. How that of a chain of steps follows
-- from that of its steps.
use Rattle.std.proofs.Common.{◌≡◌, ℕ, zero, suc, ◌-◌, Bool, true, false, List, [], ◌∷◌, length, Option, Some, None, Ok, Err, ap, subst}
use Rattle.std.specs.Prelude.{◌≢◌, if◌then◌else◌, ◌==◌, nat_lt}
use Rattle.std.specs.Option.{option_or, option_map}
use Rattle.class_tree.specs.declared.pool.Const.{Const}
use Rattle.class_tree.specs.Tree.{text_at}
use Rattle.classfile_items.specs.declared.fault.ReadClassFault.{ReadClassFault}
use Rattle.classfile_items.specs.declared.fault.ReadClassFault.TheVariants.{Memory}
use Rattle.classfile_items.specs.Reading.{Checked, Found, ◌>>=◌, provided, FaultOf, unless, faultless, u1, u2, u4, s4, u8, s8, raw, many, counted}
use Rattle.classfile_items.specs.Contents.{text_index, kept, of_length, measured}

-- What was found is a value, or a fault of the bytes.
pub record NeverMemory {A : Type 0} (found : Checked A) : Type 0 where
  pub never : found ≢ Err Memory

-- a fault of the bytes
abbrev pub IsOfBytes : ReadClassFault → Type 0
IsOfBytes Memory = ⊥
IsOfBytes fault = Unit {0}

-- the same of a fault that is looked for
abbrev pub IfFault : FaultOf → Type 0
IfFault None = Unit {0}
IfFault (Some fault) = IsOfBytes fault

-- ---- what was found, and chains of steps

pub value : {A : Type 0} {x : A} → NeverMemory (Ok x)
value = record { never = λ e. cc }

pub refused : {A : Type 0} {fault : ReadClassFault} → IsOfBytes fault → NeverMemory {A = A} (Err fault)
refused {fault = fault} told = record { never = λ e. let is : fault ≡ Memory = cc in subst IsOfBytes is told }

pub chain : {A B : Type 0} {found : Checked A} {next : A → Checked B} → NeverMemory found → ((x : A) → NeverMemory (next x)) → NeverMemory (found >>= next)
chain {found = Ok x} first others = others x
chain {found = Err fault} first others = record { never = λ e. let is : fault ≡ Memory = cc in first.never (ap Err is) }

pub on_test : {A : Type 0} {x y : Checked A} (test : Bool) → NeverMemory x → NeverMemory y → NeverMemory (if test then x else y)
on_test true first second = first
on_test false first second = second

pub on_option : {A B : Type 0} {none : Checked B} {some : A → Checked B} (o : Option A) → NeverMemory none → ((x : A) → NeverMemory (some x)) → NeverMemory (elim o [ None ↦ none | Some x ↦ some x ])
on_option None first others = first
on_option (Some x) first others = others x

pub on_provided : {A : Type 0} (test : Bool) (fault : ReadClassFault) (x : A) → IsOfBytes fault → NeverMemory (provided test fault x)
on_provided true fault x told = value
on_provided false fault x told = refused told

pub on_faultless : {A : Type 0} (fault : FaultOf) (x : A) → IfFault fault → NeverMemory (faultless fault x)
on_faultless None x told = value
on_faultless (Some fault) x told = refused told

-- ---- faults, and those that are looked for

pub on_fault : (test : Bool) (a b : ReadClassFault) → IsOfBytes a → IsOfBytes b → IsOfBytes (if test then a else b)
on_fault true a b first second = first
on_fault false a b first second = second

pub on_unless : (test : Bool) (fault : ReadClassFault) → IsOfBytes fault → IfFault (unless test fault)
on_unless true fault told = tt
on_unless false fault told = told

pub on_or : (a b : FaultOf) → IfFault a → IfFault b → IfFault (option_or a b)
on_or None b first second = second
on_or (Some fault) b first second = first

pub on_map : {A : Type 0} (fault : A → ReadClassFault) (o : Option A) → ((x : A) → IsOfBytes (fault x)) → IfFault (option_map fault o)
on_map fault None told = tt
on_map fault (Some x) told = told x

-- ---- numbers and lists

pub u1_never : (end : ℕ) (bytes : List ℕ) → NeverMemory (u1 end bytes)
unfolding u1
u1_never end [] = refused tt
u1_never end (a ∷ bytes) = value

pub u2_never : (end : ℕ) (bytes : List ℕ) → NeverMemory (u2 end bytes)
unfolding u2
u2_never end (a ∷ b ∷ bytes) = value
u2_never end bytes = refused tt

pub u4_never : (end : ℕ) (bytes : List ℕ) → NeverMemory (u4 end bytes)
unfolding u4
u4_never end (a ∷ b ∷ c ∷ d ∷ bytes) = value
u4_never end bytes = refused tt

pub s4_never : (end : ℕ) (bytes : List ℕ) → NeverMemory (s4 end bytes)
unfolding s4
s4_never end bytes = chain (u4_never end bytes) (λ n. value)

u8_never : (end : ℕ) (bytes : List ℕ) → NeverMemory (u8 end bytes)
unfolding u8
u8_never end (a ∷ b ∷ c ∷ d ∷ e ∷ f ∷ g ∷ h ∷ bytes) = value
u8_never end bytes = refused tt

pub s8_never : (end : ℕ) (bytes : List ℕ) → NeverMemory (s8 end bytes)
unfolding s8
s8_never end bytes = chain (u8_never end bytes) (λ n. value)

raw_never : (end n : ℕ) (bytes : List ℕ) → NeverMemory (raw end n bytes)
unfolding raw
raw_never end n bytes = on_test (nat_lt (length bytes) n) (refused tt) value

many_never : {A : Type 0} (item : List ℕ → Found A) → ((bytes : List ℕ) → NeverMemory (item bytes)) → (n : ℕ) (bytes : List ℕ) → NeverMemory (many item n bytes)
unfolding many
many_never item each zero bytes = value
many_never item each (suc n) bytes = chain (each bytes) (λ x. chain (many_never item each n x.1) (λ xs. value))

pub counted_never : {A : Type 0} {item : List ℕ → Found A} (end : ℕ) → ((bytes : List ℕ) → NeverMemory (item bytes)) → (bytes : List ℕ) → NeverMemory (counted end item bytes)
unfolding counted
counted_never {item = item} end each bytes = chain (u2_never end bytes) (λ n. many_never item each n.0 n.1)

-- ---- attributes

pub text_index_never : (end : ℕ) (pool : List Const) (bytes : List ℕ) → NeverMemory (text_index end pool bytes)
text_index_never end pool bytes = chain (u2_never end bytes) (λ n. on_option (text_at pool n.0) (refused tt) (λ text. value))

pub kept_never : {B : Type 0} (wrap : List ℕ → B) (end : ℕ) (bytes : List ℕ) → NeverMemory (kept wrap end bytes)
kept_never wrap end bytes = chain (u4_never end bytes) (λ len. chain (raw_never end len.0 len.1) (λ content. value))

of_length_never : {A : Type 0} (end len : ℕ) (bytes : List ℕ) (x : A × List ℕ) → NeverMemory (of_length end len bytes x)
of_length_never end len bytes x = on_provided (length bytes - length x.1 == len) _ x tt

pub measured_never : {A B : Type 0} {item : List ℕ → Found A} (wrap : A → B) (end : ℕ) → ((bytes : List ℕ) → NeverMemory (item bytes)) → (bytes : List ℕ) → NeverMemory (measured item wrap end bytes)
measured_never wrap end each bytes = chain (u4_never end bytes) (λ len. chain (chain (each len.1) (of_length_never end len.0 len.1)) (λ v. value))
