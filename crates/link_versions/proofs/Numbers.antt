-- Each version of a class has the methods of the first one, so the first one tells what is asked of a method by its number.
use Rattle.std.proofs.Common.{◌≡◌, ℕ, zero, suc, ◌<◌, Bool, true, false, not, ◌&&◌, ◌||◌, List, [], ◌∷◌, ◌++◌, length, map, filter, get_or, reverse, refl, sym, ap, ◌∙◌, Option, Some, None, arith}
use Rattle.std.specs.Prelude.{IsTrue, slice_get, option_map, position, fold, bytes_eq, if◌then◌else◌}
use Rattle.std.specs.List.{AllByRecursion, list_any, list_all, position_or_len}
use Rattle.std.specs.Option.{option_and_then, option_or, option_map_or, option_eq}
use Rattle.std.proofs.lemmas.Bool.{and_parts, or_parts, cond-true, cond-false}
use Rattle.std.proofs.lemmas.Bool.Decides.{nat_tests}
use Rattle.std.proofs.lemmas.List.{append-nil}
use Rattle.std.proofs.lemmas.List.Sorted.{list_any-IsPermutation}
use Rattle.std.proofs.lemmas.Grind.{reverse_onto}
use Rattle.std.proofs.lemmas.List.Quantifiers.{position-Some}
use Rattle.std.proofs.lemmas.Option.{same_Some, slice_get-map, slice_get-get_or}
use Rattle.std.proofs.lemmas.Slice.Eq.{bytes_eq-Decides}
use Rattle.jv_names.specs.Names.{Name}
use Rattle.class_tree.specs.declared.access.Flag.{Flag}
use Rattle.class_tree.specs.declared.access.Flags.{Flags}
use Rattle.class_tree.specs.declared.pool.Const.{Const}
use Rattle.class_tree.specs.declared.members.Member.{Member}
use Rattle.class_tree.specs.declared.members.MemberKind.TheVariants as kinds
use Rattle.class_tree.specs.Flags.{has_flag}
use Rattle.class_tree.specs.Trees.{Tree}
use Rattle.class_tree.specs.Tree.{text_at, is_text, is_named, first_of}
use Rattle.class_tree.specs.WellFormed.{is_well_formed, is_member, same_names, are_distinct}
use Rattle.class_tree.proofs.Facts.{well_formed_facts, members_facts, member_facts}
use Rattle.link_versions.specs.Members.{NameAndType, same_name_and_type, names_in, names_after, method_in}
use Rattle.link_versions.specs.Changes.{signature, Keeps}
use Rattle.link_versions.proofs.Newest.{Keeps-refl}

-- ---- lists

pub any-map : {A B : Type 0} (p : B → Bool) (f : A → B) (xs : List A) → list_any p (map f xs) ≡ list_any (λ x. p (f x)) xs
any-map p f [] = refl
any-map p f (x ∷ xs) = ap (λ b. p (f x) || b) (any-map p f xs)

pub all_stay : {A : Type 0} (xs : List A) → filter (λ x. true) xs ≡ xs
all_stay [] = refl
all_stay (x ∷ xs) = ap (λ ys. x ∷ ys) (all_stay xs)

not_true : (b : Bool) → not b ≡ true → b ≡ false
not_true true e = absurd cc
not_true false e = refl

pub or_right : (b c : Bool) → c ≡ true → (b || c) ≡ true
or_right true c e = refl
or_right false c e = e

or_false : (b : Bool) → (b || false) ≡ b
or_false true = refl
or_false false = refl

none_stays : {A : Type 0} (p : A → Bool) (same : A → A → Bool) (xs : List A) → ((x : A) → same x x ≡ true) → ((x : A) → list_any (same x) xs ≡ true → p x ≡ false) → filter p xs ≡ []
none_stays p same [] itself fails = refl
none_stays p same (x ∷ xs) itself fails =
    let first : p x ≡ false = fails x (ap (λ b. b || list_any (same x) xs) (itself x)) in
    let rest : filter p xs ≡ [] = none_stays p same xs itself (λ y e. fails y (or_right (same y x) (list_any (same y) xs) e)) in
    simp (first, rest)

-- ---- the names of methods

text_itself : (text : Option Name) → option_eq bytes_eq text text ≡ true
text_itself None = refl
text_itself (Some text) = (bytes_eq-Decides text text).1 refl

named_itself : (named : NameAndType) → same_name_and_type named named ≡ true
named_itself named = simp (text_itself named.0, text_itself named.1)

-- a test of names, descriptors and flags is passed in each version alike
pub kept_test : (test : Option Name × Option Name × Flags → Bool) (first t : Tree) → Keeps first t
    → list_any (λ m. test (signature first.pool m)) first.methods ≡ list_any (λ m. test (signature t.pool m)) t.methods
kept_test test first t keeps =
    sym (any-map test (signature first.pool) first.methods) ∙ list_any-IsPermutation test (map (signature first.pool) first.methods) (map (signature t.pool) t.methods) keeps.methods
    ∙ any-map test (signature t.pool) t.methods

kept_names : (test : NameAndType → Bool) (first t : Tree) → Keeps first t → list_any test (names_in first) ≡ list_any test (names_in t)
kept_names test first t keeps =
    any-map test (λ m. (text_at first.pool m.name, text_at first.pool m.desc)) first.methods ∙ kept_test (λ s. test (s.0, s.1)) first t keeps
    ∙ sym (any-map test (λ m. (text_at t.pool m.name, text_at t.pool m.desc)) t.methods)

nothing_new : (first t : Tree) → Keeps first t → names_after (names_in first) t ≡ names_in first
nothing_new first t keeps =
    let before = names_in first in
    let known : (named : NameAndType) → list_any (same_name_and_type named) (names_in t) ≡ true → not (list_any (same_name_and_type named) before) ≡ false =
    λ named e. ap not (kept_names (same_name_and_type named) first t keeps ∙ e) in
    ap (λ more. before ++ more) (none_stays (λ named. not (list_any (same_name_and_type named) before)) same_name_and_type (names_in t) named_itself known) ∙ append-nil before

nothing_new_in : (first : Tree) (later : List Tree) → AllByRecursion (Keeps first) later → fold names_after (names_in first) later ≡ names_in first
nothing_new_in first [] keep = refl
nothing_new_in first (t ∷ ts) keep = ap (λ names. fold names_after names ts) (nothing_new first t keep.0) ∙ nothing_new_in first ts keep.1

pub names_of_first : (first : Tree) (later : List Tree) → AllByRecursion (Keeps first) later → fold names_after [] (first ∷ later) ≡ names_in first
names_of_first first later keep = ap (λ names. fold names_after names later) (all_stay (names_in first)) ∙ nothing_new_in first later keep

-- ---- methods of one name and descriptor

pub record IsFound {A : Type 0} (p : A → Bool) (xs : List A) : Type 0 where
  pub place : ℕ
  pub is_place : position p xs ≡ Some place
  pub found : A
  pub at : slice_get xs place ≡ Some found
  pub passes : p found ≡ true

place_within : {A : Type 0} (p : A → Bool) (xs : List A) → list_any p xs ≡ true → position_or_len p xs < length xs
place_within p [] e = absurd cc
place_within p (x ∷ xs) e = grind (arith, nat_tests, place_within p xs)

nobody : {A : Type 0} (p : A → Bool) (xs : List A) → list_any p xs ≡ false → position_or_len p xs ≡ length xs
nobody p [] e = refl
nobody p (x ∷ xs) e = grind (arith, nat_tests, nobody p xs)

pub found_at : {A : Type 0} (p : A → Bool) (xs : List A) → list_any p xs ≡ true → IsFound p xs
found_at p [] e = absurd cc
found_at p (x ∷ xs) e =
    let low = place_within p (x ∷ xs) e in
    let place = position_or_len p (x ∷ xs) in
    let is_place : position p (x ∷ xs) ≡ Some place = grind (arith, nat_tests) in
    record {
      place = place;
      is_place = is_place;
      found = get_or (x ∷ xs) place x;
      at = slice_get-get_or (x ∷ xs) place x low;
      passes = (position-Some p (x ∷ xs) place x is_place).1;
    }

-- the place of what passes a test, which goes without saying where nothing does
pub where_any : {A B : Type 0} (f : ℕ → B) (p : A → Bool) (xs : List A) → (if list_any p xs then option_map f (position p xs) else None) ≡ option_map f (position p xs)
where_any f p xs = by (list_any p xs) refl
  where
    by : (b : Bool) → list_any p xs ≡ b → (if list_any p xs then option_map f (position p xs) else None) ≡ option_map f (position p xs)
    by true e = cond-true (list_any p xs) _ None e
    by false e =
        let nowhere : position p xs ≡ None = let past = nobody p xs e in grind (arith, nat_tests) in
        cond-false (list_any p xs) _ None e ∙ sym (ap (option_map f) nowhere)

-- ---- no two methods of one name and descriptor

abbrev both : Option Name → Option Name → Bool
both a b = elim a [ None ↦ false | Some x ↦ elim b [ None ↦ false | Some y ↦ bytes_eq x y ] ]

both_same : (a b : Option Name) (name : Name) → is_text a name ≡ true → is_text b name ≡ true → both a b ≡ true
both_same None b name p q = absurd cc
both_same (Some x) None name p q = absurd cc
both_same (Some x) (Some y) name p q = (bytes_eq-Decides x y).1 ((bytes_eq-Decides x name).0 p ∙ sym ((bytes_eq-Decides y name).0 q))

named_same : (pool : List Const) (name desc : Name) (a b : Member) → is_named pool name desc a ≡ true → is_named pool name desc b ≡ true → same_names pool a b ≡ true
named_same pool name desc a b p q =
    let a_parts = and_parts _ _ p in
    let b_parts = and_parts _ _ q in
    ap (λ c. c && both (text_at pool a.desc) (text_at pool b.desc)) (both_same (text_at pool a.name) (text_at pool b.name) name a_parts.0 b_parts.0)
    ∙ both_same (text_at pool a.desc) (text_at pool b.desc) desc a_parts.1 b_parts.1

-- a member that passes shows that one does
pub any_at : {A : Type 0} (p : A → Bool) (xs : List A) (i : ℕ) (x : A) → slice_get xs i ≡ Some x → p x ≡ true → list_any p xs ≡ true
any_at p [] i x at e = absurd cc
any_at p (y ∷ ys) zero x at e = ap (λ b. b || list_any p ys) (ap p (same_Some _ _ at) ∙ e)
any_at p (y ∷ ys) (suc i) x at e = or_right (p y) (list_any p ys) (any_at p ys i x at e)

-- where nobody else is named as a member, nobody else is named so and passes
nobody_else : (pool : List Const) (name desc : Name) (q : Member → Bool) (a : Member) (xs : List Member) → is_named pool name desc a ≡ true → list_any (same_names pool a) xs ≡ false
    → list_any (λ x. is_named pool name desc x && q x) xs ≡ false
nobody_else pool name desc q a [] named none = refl
nobody_else pool name desc q a (x ∷ xs) named none =
    let parts = or_parts (same_names pool a x) (list_any (same_names pool a) xs) none in
    let rest = nobody_else pool name desc q a xs named parts.1 in
    by (is_named pool name desc x) refl parts.0 rest
  where
    by : (b : Bool) → is_named pool name desc x ≡ b → same_names pool a x ≡ false → list_any (λ x. is_named pool name desc x && q x) xs ≡ false
        → (is_named pool name desc x && q x || list_any (λ x. is_named pool name desc x && q x) xs) ≡ false
    by true e apart rest = absurd (cc (named_same pool name desc a x named e, apart))
    by false e apart rest = ap (λ b. b && q x || list_any (λ x. is_named pool name desc x && q x) xs) e ∙ rest

-- the only member of a name and a descriptor tells whether one of them passes a test
sole_tells : (pool : List Const) (name desc : Name) (q : Member → Bool) (xs : List Member) (i : ℕ) (m : Member) → are_distinct pool xs ≡ true → slice_get xs i ≡ Some m → is_named pool name desc m ≡ true
    → q m ≡ list_any (λ x. is_named pool name desc x && q x) xs
sole_tells pool name desc q [] i m distinct at named = absurd cc
sole_tells pool name desc q (x ∷ xs) zero m distinct at named =
    let same : x ≡ m = same_Some _ _ at in
    let is : is_named pool name desc x ≡ true = ap (is_named pool name desc) same ∙ named in
    let none = nobody_else pool name desc q x xs is (not_true (list_any (same_names pool x) xs) (and_parts _ _ distinct).0) in
    let all : (is_named pool name desc x && q x || list_any (λ y. is_named pool name desc y && q y) xs) ≡ q x =
    ap (λ b. b && q x || list_any (λ y. is_named pool name desc y && q y) xs) is ∙ ap (λ b. q x || b) none ∙ or_false (q x) in
    ap q (sym same) ∙ sym all
sole_tells pool name desc q (x ∷ xs) (suc i) m distinct at named =
    let parts = and_parts _ _ distinct in
    let none = not_true (list_any (same_names pool x) xs) parts.0 in
    by (is_named pool name desc x) refl none (sole_tells pool name desc q xs i m parts.1 at named)
  where
    by : (b : Bool) → is_named pool name desc x ≡ b → list_any (same_names pool x) xs ≡ false → q m ≡ list_any (λ y. is_named pool name desc y && q y) xs
        → q m ≡ (is_named pool name desc x && q x || list_any (λ y. is_named pool name desc y && q y) xs)
    by true e none rest = absurd (cc (any_at (same_names pool x) xs i m at (named_same pool name desc x m e named), none))
    by false e none rest = rest ∙ sym (ap (λ b. b && q x || list_any (λ y. is_named pool name desc y && q y) xs) e)

-- ---- whether a method has a flag

each_at : {A : Type 0} (p : A → Bool) (xs : List A) (i : ℕ) (x : A) → list_all p xs ≡ true → slice_get xs i ≡ Some x → p x ≡ true
each_at p [] i x all at = absurd cc
each_at p (y ∷ ys) zero x all at = ap p (sym (same_Some _ _ at)) ∙ (and_parts _ _ all).0
each_at p (y ∷ ys) (suc i) x all at = each_at p ys i x (and_parts _ _ all).1 at

abbrev pub flagged : Flag → Member → Bool
flagged flag m = has_flag m.flags.bits flag

-- whether a method of a name and a descriptor has a flag, in each version alike
abbrev any_flagged : Name → Name → Flag → Tree → Bool
any_flagged name desc flag t = list_any (λ m. is_named t.pool name desc m && flagged flag m) t.methods

flag_told : (t : Tree) (name desc : Name) (flag : Flag) (i : ℕ) (m : Member) → IsTrue (is_well_formed t) → slice_get t.methods i ≡ Some m → is_named t.pool name desc m ≡ true
    → flagged flag m ≡ any_flagged name desc flag t
flag_told t name desc flag i m formed at named =
    sole_tells t.pool name desc (flagged flag) t.methods i m (members_facts t.major t.pool kinds.Method t.methods (well_formed_facts t formed).methods).distinct at named

-- the method of a name and a descriptor in a version that keeps what the first one has
pub record IsKept (t : Tree) (name desc : Name) (flag : Flag) (has : Bool) : Type 0 where
  pub member : Member
  pub is_there : method_in t (Some name) (Some desc) ≡ Some member
  pub told : flagged flag member ≡ has

kept_flag : (first t : Tree) (name desc : Name) (flag : Flag) (i : ℕ) (m : Member) → IsTrue (is_well_formed first) → IsTrue (is_well_formed t) → Keeps first t → slice_get first.methods i ≡ Some m
    → is_named first.pool name desc m ≡ true → IsKept t name desc flag (flagged flag m)
kept_flag first t name desc flag i m first_formed formed keeps at named =
    let is_there : list_any (is_named t.pool name desc) t.methods ≡ true =
    sym (kept_test (λ s. is_text s.0 name && is_text s.1 desc) first t keeps) ∙ any_at (is_named first.pool name desc) first.methods i m at named in
    let f = found_at (is_named t.pool name desc) t.methods is_there in
    record {
      member = f.found;
      is_there = ap (option_and_then (λ place. slice_get t.methods place)) f.is_place ∙ f.at;
      told = flag_told t name desc flag f.place f.found formed f.at f.passes
          ∙ sym (kept_test (λ s. (is_text s.0 name && is_text s.1 desc) && has_flag s.2.bits flag) first t keeps) ∙ sym (flag_told first name desc flag i m first_formed at named);
    }

-- the last of some versions comes first where they are reversed
record IsLast (P : Tree → Type 0) (ts : List Tree) : Type 0 where
  pub last : Tree
  pub rest : List Tree
  pub reversed : reverse ts ≡ last ∷ rest
  pub holds : P last

last_of : (P : Tree → Type 0) (t : Tree) (ts : List Tree) → AllByRecursion P (t ∷ ts) → IsLast P (t ∷ ts)
last_of P t [] all = record { last = t; rest = []; reversed = refl; holds = all.0 }
last_of P t (u ∷ us) all =
    let l = last_of P u us all.1 in
    record { last = l.last; rest = l.rest ++ t ∷ []; reversed = reverse_onto (u ∷ us) t [] ∙ ap (λ ts. ts ++ t ∷ []) l.reversed; holds = l.holds }

abbrev pub KeepsIt : Tree → Tree → Type 0
KeepsIt first t = Keeps first t × IsTrue (is_well_formed t)

both_hold : (first : Tree) (ts : List Tree) → AllByRecursion (Keeps first) ts → AllByRecursion (λ t. IsTrue (is_well_formed t)) ts → AllByRecursion (KeepsIt first) ts
both_hold first [] keep formed = tt
both_hold first (t ∷ ts) keep formed = ((keep.0, formed.0), both_hold first ts keep.1 formed.1)

-- what the newest version that has a method says of a flag
abbrev pub newest_says : Flag → List Tree → Option NameAndType → Bool
newest_says flag vs named = option_map_or (flagged flag) (option_and_then (λ named. first_of (λ t. method_in t named.0 named.1) (reverse vs)) named) false

flag_of_newest : (first : Tree) (later : List Tree) (flag : Flag) (i : ℕ) (m : Member) → AllByRecursion (Keeps first) later → AllByRecursion (λ t. IsTrue (is_well_formed t)) (first ∷ later)
    → slice_get first.methods i ≡ Some m → newest_says flag (first ∷ later) (Some (text_at first.pool m.name, text_at first.pool m.desc)) ≡ flagged flag m
flag_of_newest first later flag i m keep formed at =
    let methods = members_facts first.major first.pool kinds.Method first.methods (well_formed_facts first formed.0).methods in
    let facts = member_facts first.major first.pool kinds.Method m (each_at (is_member first.major first.pool kinds.Method) first.methods i m methods.each at) in
    let l = last_of (KeepsIt first) first later (both_hold first (first ∷ later) (Keeps-refl first, keep) formed) in
    let named : is_named first.pool facts.name facts.desc m ≡ true =
    ap (λ text. is_text text facts.name && is_text (text_at first.pool m.desc) facts.desc) facts.named
    ∙ ap (λ b. b && is_text (text_at first.pool m.desc) facts.desc) ((bytes_eq-Decides facts.name facts.name).1 refl)
    ∙ ap (λ text. is_text text facts.desc) facts.described ∙ (bytes_eq-Decides facts.desc facts.desc).1 refl in
    let k = kept_flag first l.last facts.name facts.desc flag i m formed.0 l.holds.1 l.holds.0 at named in
    ap (λ name. newest_says flag (first ∷ later) (Some (name, text_at first.pool m.desc))) facts.named
    ∙ ap (λ desc. newest_says flag (first ∷ later) (Some (Some facts.name, desc))) facts.described
    ∙ ap (λ ts. option_map_or (flagged flag) (first_of (λ t. method_in t (Some facts.name) (Some facts.desc)) ts) false) l.reversed
    ∙ ap (λ found. option_map_or (flagged flag) (option_or found (first_of (λ t. method_in t (Some facts.name) (Some facts.desc)) l.rest)) false) k.is_there
    ∙ k.told

pub flag_by_place : (first : Tree) (later : List Tree) (flag : Flag) (place : ℕ) → AllByRecursion (Keeps first) later → AllByRecursion (λ t. IsTrue (is_well_formed t)) (first ∷ later)
    → newest_says flag (first ∷ later) (slice_get (names_in first) place) ≡ option_map_or (flagged flag) (slice_get first.methods place) false
flag_by_place first later flag place keep formed =
    ap (newest_says flag (first ∷ later)) (slice_get-map (λ m. (text_at first.pool m.name, text_at first.pool m.desc)) first.methods place) ∙ by (slice_get first.methods place) refl
  where
    by : (found : Option Member) → slice_get first.methods place ≡ found
        → newest_says flag (first ∷ later) (option_map (λ m. (text_at first.pool m.name, text_at first.pool m.desc)) (slice_get first.methods place)) ≡ option_map_or (flagged flag) (slice_get first.methods place) false
    by None e = rw e refl
    by (Some m) e = rw e (flag_of_newest first later flag place m keep formed e)
