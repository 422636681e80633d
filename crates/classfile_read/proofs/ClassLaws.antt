-- The laws of a whole class: what is read is a well-formed tree with a superclass, whose spelling the bytes are; and each such
-- tree is read where it is spelled.
use Rattle.std.proofs.Common.{◌≡◌, ◌⊎◌, ℕ, suc, ◌<◌, ◌≤◌, Bool, true, List, [], ◌∷◌, ◌++◌, length, Ok, Err, refl, sym, ap, subst, ◌∙◌, arith, Result, inl, inr, get_or, w8, Fits}
use Rattle.std.specs.Prelude.{IfOk, IfErr, ◌≢◌, ◌==◌, ◌&&◌, ◌||◌, nat_le}
use Rattle.std.proofs.lemmas.Bool.{and_parts, and_from, or_right, leb-true, lt-ltb, eqb-true, ne_eqb}
use Rattle.class_tree.specs.declared.pool.Const.{Const}
use Rattle.class_tree.specs.declared.members.MemberKind.TheVariants as kinds
use Rattle.class_tree.specs.Ranges.{is_u2, are_counted, are_bytes}
use Rattle.class_tree.specs.Spelling.{pool_bytes, rest_bytes, class_bytes}
use Rattle.class_tree.specs.Spelling as bytes_of
use Rattle.class_tree.specs.Tree.{names_plain_class}
use Rattle.class_tree.specs.Trees.{Tree}
use Rattle.class_tree.specs.PoolRules.{is_pool}
use Rattle.class_tree.specs.WellFormed.{are_members, is_version, is_well_formed}
use Rattle.classfile_items.specs.declared.fault.ReadClassFault.{ReadClassFault}
use Rattle.classfile_items.specs.declared.fault.ReadClassFault.TheVariants.{Magic, Version}
use Rattle.classfile_items.specs.Reading.{Checked, Mirrors, Tells, offset, u4}
use Rattle.classfile_pool.specs.PoolReading.{pool_at}
use Rattle.classfile_read.specs.ClassReading.{is_magic, magic, class_from, class_of}
use Rattle.classfile_read.specs.Lawful.{Spells, FirstFault, Gives, Refuses}
use Rattle.classfile_items.proofs.Laws.{IsSound, step_at, done, on_provided, of_found, steps_of}
use Rattle.classfile_items.proofs.StepLaws.{sound_steps}
use Rattle.classfile_items.proofs.NumberLaws.{u2_sound, u2_complete, u4_sound}
use Rattle.classfile_pool.proofs.PoolLaws.{PoolStands, pool_sound, pool_short, pool_complete}
use Rattle.classfile_items.proofs.TestLaws.{tested_sound, tested_complete}
use Rattle.classfile_read.proofs.BehindLaws.{some_entries, not_zero, BehindStands, behind_sound, behind_complete}

-- ---- the front

magic_sound : (end : ℕ) → IsSound (magic end) bytes_of.u4 is_magic
magic_sound end = step_at (u4_sound end) (λ began n is_n. on_provided (is_magic n) (Magic (offset end began)) (λ h. done n refl h))

magic_bytes : (n : ℕ) → is_magic n ≡ true → bytes_of.u4 n ≡ 0xca ∷ 0xfe ∷ 0xba ∷ 0xbe ∷ []
unfolding bytes_of.u4
magic_bytes n is = ap bytes_of.u4 (eqb-true n 0xcafebabe is)

magic_again : (end : ℕ) (rest : List ℕ) → magic end (0xca ∷ 0xfe ∷ 0xba ∷ 0xbe ∷ rest) ≡ Ok (0xcafebabe, rest)
unfolding u4
magic_again end rest = refl

-- the parts of a class file before what stands behind the pool
record FrontStands (bytes : List ℕ) (t : Tree) : Type 0 where
  number : ℕ
  minor : ℕ
  major : ℕ
  pool : List Const
  after_number : List ℕ
  after_minor : List ℕ
  after_major : List ℕ
  after_pool : List ℕ
  number_spelled : bytes ≡ bytes_of.u4 number ++ after_number
  minor_spelled : after_number ≡ bytes_of.u2 minor ++ after_minor
  major_spelled : after_minor ≡ bytes_of.u2 major ++ after_major
  is_number : is_magic number ≡ true
  minor_fits : is_u2 minor ≡ true
  is_major : is_version major ≡ true
  pool_stands : PoolStands after_major (pool, after_pool)
  behind_stands : BehindStands minor major pool after_pool t

front_sound : (end : ℕ) (bytes : List ℕ) (t : Tree) → are_bytes bytes ≡ true → class_from end bytes ≡ Ok t → FrontStands bytes t
front_sound end bytes t are e =
    let g = sound_steps (magic_sound end) bytes _ t are e in
    let minor = sound_steps (u2_sound end) g.rest _ t g.first.left g.second in
    let major = sound_steps (tested_sound end is_version Version) minor.rest _ t minor.first.left minor.second in
    let p = steps_of (pool_at end major.rest) _ t major.second in
    let pool = pool_sound end major.rest p.value major.first.left p.first in
    record {
      number = g.value;
      minor = minor.value;
      major = major.value;
      pool = p.value.0;
      after_number = g.rest;
      after_minor = minor.rest;
      after_major = major.rest;
      after_pool = p.value.1;
      number_spelled = g.first.spelled;
      minor_spelled = minor.first.spelled;
      major_spelled = major.first.spelled;
      is_number = g.first.passes;
      minor_fits = minor.first.passes;
      is_major = major.first.passes;
      pool_stands = pool;
      behind_stands = behind_sound end minor.value major.value p.value.0 p.value.1 t pool.left p.second;
    }

front_spelled : (bytes : List ℕ) (t : Tree) (f : FrontStands bytes t) → bytes ≡ class_bytes t
front_spelled bytes t f =
    let b = f.behind_stands in
    let some : 0 < length f.pool = subst (λ (p : List Const). 0 < length p) (sym b.pool_is) (some_entries t.pool t.this_class b.this) in
    let pool : f.after_major ≡ pool_bytes t.pool ++ rest_bytes t =
    f.pool_stands.spelled some ∙ ap (λ (p : List Const). pool_bytes p ++ f.after_pool) b.pool_is ∙ ap (λ (r : List ℕ). pool_bytes t.pool ++ r) b.spelled in
    let major : f.after_minor ≡ bytes_of.u2 t.major ++ (pool_bytes t.pool ++ rest_bytes t) =
    f.major_spelled ∙ ap (λ (n : ℕ). bytes_of.u2 n ++ f.after_major) b.major_is ∙ ap (λ (r : List ℕ). bytes_of.u2 t.major ++ r) pool in
    let minor : f.after_number ≡ bytes_of.u2 t.minor ++ (bytes_of.u2 t.major ++ (pool_bytes t.pool ++ rest_bytes t)) =
    f.minor_spelled ∙ ap (λ (n : ℕ). bytes_of.u2 n ++ f.after_minor) b.minor_is ∙ ap (λ (r : List ℕ). bytes_of.u2 t.minor ++ r) major in
    f.number_spelled ∙ ap (λ (front : List ℕ). front ++ f.after_number) (magic_bytes f.number f.is_number) ∙ ap (λ (r : List ℕ). 0xca ∷ 0xfe ∷ 0xba ∷ 0xbe ∷ r) minor

front_passes : (bytes : List ℕ) (t : Tree) → FrontStands bytes t → is_well_formed t ≡ true
unfolding is_well_formed
front_passes bytes t f =
    let b = f.behind_stands in
    let minor : is_u2 t.minor ≡ true = ap is_u2 (sym b.minor_is) ∙ f.minor_fits in
    let major : is_version t.major ≡ true = ap is_version (sym b.major_is) ∙ f.is_major in
    let pool : is_pool t.pool ≡ true = ap is_pool (sym b.pool_is) ∙ f.pool_stands.passes in
    let super = or_right (t.super_class == 0) (names_plain_class t.pool t.super_class) b.super in
    let names = and_from _ _ (and_from _ _ (and_from _ _ (and_from _ _ (and_from _ _ (and_from _ _ minor major) pool) b.flags) b.this) super) b.interfaces in
    and_from _ _ (and_from _ _ (and_from _ _ names b.fields) b.methods) b.attrs

-- ---- the two laws

-- What is read is spelled so.
pub class_sound : (bytes : List ℕ) (t : Tree) → are_bytes bytes ≡ true → class_of bytes ≡ Ok t → Spells t bytes
class_sound bytes t are e =
    let f = front_sound (length bytes) bytes t are e in
    record { well_formed = front_passes bytes t f; super = not_zero t.pool t.super_class f.behind_stands.super; spelled = front_spelled bytes t f }

-- a well-formed tree part by part
record TreeParts (t : Tree) : Type 0 where
  minor : is_u2 t.minor ≡ true
  major : is_version t.major ≡ true
  pool : is_pool t.pool ≡ true
  behind : BehindStands t.minor t.major t.pool (rest_bytes t) t

tree_parts : (t : Tree) → is_well_formed t ≡ true → t.super_class ≢ 0 → TreeParts t
unfolding is_well_formed
tree_parts t passes some =
    let early = is_u2 t.minor && is_version t.major && is_pool t.pool && is_u2 t.flags.bits in
    let classes = early && names_plain_class t.pool t.this_class && (t.super_class == 0 || names_plain_class t.pool t.super_class) in
    let named = classes && are_counted (names_plain_class t.pool) t.interfaces in
    let a = and_parts (named && are_members t.major t.pool kinds.Field t.fields && are_members t.major t.pool kinds.Method t.methods) _ passes in
    let b = and_parts (named && are_members t.major t.pool kinds.Field t.fields) _ a.0 in
    let c = and_parts named _ b.0 in
    let d = and_parts classes _ c.0 in
    let e = and_parts (early && names_plain_class t.pool t.this_class) _ d.0 in
    let f = and_parts early _ e.0 in
    let g = and_parts (is_u2 t.minor && is_version t.major && is_pool t.pool) _ f.0 in
    let h = and_parts (is_u2 t.minor && is_version t.major) _ g.0 in
    let i = and_parts (is_u2 t.minor) _ h.0 in
    let super : names_plain_class t.pool t.super_class ≡ true = sym (ap (λ (zero : Bool). zero || names_plain_class t.pool t.super_class) (ne_eqb t.super_class 0 some)) ∙ e.1 in
    record {
      minor = i.0;
      major = i.1;
      pool = h.1;
      behind = record {
        minor_is = refl;
        major_is = refl;
        pool_is = refl;
        spelled = refl;
        flags = g.1;
        this = f.1;
        super = super;
        interfaces = d.1;
        fields = c.1;
        methods = b.1;
        attrs = a.1;
      };
    }

version_fits : (n : ℕ) → is_version n ≡ true → is_u2 n ≡ true
version_fits n is = let le : n ≤ 52 = leb-true n 52 (and_parts (nat_le 50 n) _ is).1 in lt-ltb n 65536 (omega arith)

again : (end : ℕ) (t : Tree) → TreeParts t → class_from end (class_bytes t) ≡ Ok t
again end t p =
    let r = rest_bytes t in
    let on = bytes_of.u2 t.major ++ (pool_bytes t.pool ++ r) in
    rw (
      magic_again end (bytes_of.u2 t.minor ++ on),
      u2_complete end t.minor on p.minor,
      tested_complete end is_version Version version_fits t.major (pool_bytes t.pool ++ r) p.major,
      pool_complete end t.pool r p.pool,
    ) (behind_complete end t (pool_short t.pool p.pool) p.behind)

-- Whatever is spelled is read.
pub class_complete : (bytes : List ℕ) (t : Tree) → Spells t bytes → class_of bytes ≡ Ok t
class_complete bytes t s = ap class_of s.spelled ∙ again (length (class_bytes t)) t (tree_parts t s.well_formed s.super)

-- ---- what follows from both

-- Bytes are the class file of one tree.
pub one_tree : (bytes : List ℕ) (t u : Tree) → Spells t bytes → Spells u bytes → t ≡ u
one_tree bytes t u s r = of_found (λ v. t ≡ v) t u (sym (class_complete bytes t s) ∙ class_complete bytes u r) refl

-- A tree has one class file.
pub one_spelling : (t : Tree) (a b : List ℕ) → Spells t a → Spells t b → a ≡ b
one_spelling t a b s r = s.spelled ∙ sym r.spelled

-- A well-formed tree with a superclass has one.
pub is_spelled : (t : Tree) → is_well_formed t ≡ true → t.super_class ≢ 0 → Spells t (class_bytes t)
is_spelled t well some = record { well_formed = well; super = some; spelled = refl }

-- What was written is read again.
pub read_back : (t : Tree) → is_well_formed t ≡ true → t.super_class ≢ 0 → class_of (class_bytes t) ≡ Ok t
read_back t well some = class_complete (class_bytes t) t (is_spelled t well some)

-- What was read is written again.
pub written_back : (bytes : List ℕ) (t : Tree) → are_bytes bytes ≡ true → class_of bytes ≡ Ok t → class_bytes t ≡ bytes
written_back bytes t are e = sym (class_sound bytes t are e).spelled

tree_or_fault_of : (bytes : List ℕ) (found : Checked Tree) → are_bytes bytes ≡ true → class_of bytes ≡ found → ((t : Tree) × Spells t bytes) ⊎ ((fault : ReadClassFault) × FirstFault bytes fault)
tree_or_fault_of bytes (Ok t) are e = inl (t, class_sound bytes t are e)
tree_or_fault_of bytes (Err fault) are e = inr (fault, e)

-- Bytes are a class file, or have a first fault.
pub tree_or_fault : (bytes : List ℕ) → are_bytes bytes ≡ true → ((t : Tree) × Spells t bytes) ⊎ ((fault : ReadClassFault) × FirstFault bytes fault)
tree_or_fault bytes are = tree_or_fault_of bytes (class_of bytes) are refl

-- Bytes that have a fault spell nothing.
pub faulty_spells_none : (bytes : List ℕ) (fault : ReadClassFault) (t : Tree) → FirstFault bytes fault → Spells t bytes → ⊥
faulty_spells_none bytes fault t e s = let clash : ◌≡◌ {A = Checked Tree} (Ok t) (Err fault) = sym (class_complete bytes t s) ∙ e in cc

-- ---- what a reader that answers what is found also answers

pub read_bytes : (xs : List ℕ) → ((i : ℕ) → Fits w8 (get_or xs i 0)) → are_bytes xs ≡ true
read_bytes [] fit = refl
read_bytes (x ∷ xs) fit = and_from _ _ (lt-ltb x 256 (omega (arith, (fit 0).fits))) (read_bytes xs (λ i. fit (suc i)))

pub found_of : {A : Type 0} (view : A → Tree) (bytes : List ℕ) (answer : Result A ReadClassFault) → are_bytes bytes ≡ true → Mirrors view answer (class_of bytes) → IfOk answer (λ x. Spells (view x) bytes)
found_of view bytes (Ok x) are is = class_sound bytes (view x) are is
found_of view bytes (Err fault) are is = tt

pub only_of : {A : Type 0} (view : A → Tree) (bytes : List ℕ) (answer : Result A ReadClassFault) → Mirrors view answer (class_of bytes) → (t : Tree) → Spells t bytes → Gives view answer t
only_of view bytes (Ok x) is t s = of_found (λ v. v ≡ t) t (view x) (sym (class_complete bytes t s) ∙ is) refl
only_of view bytes (Err fault) (inl memory) t s = memory
only_of view bytes (Err fault) (inr e) t s = absurd (faulty_spells_none bytes fault t e s)

pub fault_of : {A : Type 0} (view : A → Tree) (bytes : List ℕ) (answer : Result A ReadClassFault) → Mirrors view answer (class_of bytes) → IfErr answer (λ fault. Tells fault (class_of bytes))
fault_of view bytes (Ok x) is = tt
fault_of view bytes (Err fault) is = is

pub exact_of : {A : Type 0} (view : A → Tree) (bytes : List ℕ) (answer : Result A ReadClassFault) → Mirrors view answer (class_of bytes) → (fault : ReadClassFault) → FirstFault bytes fault → Refuses answer fault
exact_of view bytes (Ok x) is fault e = let clash : ◌≡◌ {A = Checked Tree} (Ok (view x)) (Err fault) = sym is ∙ e in cc
exact_of view bytes (Err other) (inl memory) fault e = inl memory
exact_of view bytes (Err other) (inr is) fault e = let both : ◌≡◌ {A = Checked Tree} (Err other) (Err fault) = sym is ∙ e in inr cc
