-- An index stands for each text that named a member, and tells it from others, so that a set of pairs of them remembers names and
-- descriptors.
use Rattle.std.proofs.Common.{◌≡◌, ℕ, zero, suc, ◌≤◌, Bool, true, false, cond, ◌&&◌, ◌||◌, ◌==◌, List, [], ◌∷◌, length, Option, Some, None, refl, sym, ap, ◌∙◌, arith, ⊎_elim, inl, inr}
use Rattle.std.specs.Prelude.{slice_get, slice_set, bytes_eq, unwrap_or, replicate, ◌⊎◌}
use Rattle.std.specs.Bool.{Decides}
use Rattle.std.specs.Option.{option_or}
use Rattle.std.specs.Ordering.{nat_cmp, is_eq}
use Rattle.std.specs.Cmp.{tied_then}
use Rattle.std.specs.Map.{update}
use Rattle.std.specs.BTreeMap.{is_at}
use Rattle.std.proofs.lemmas.Bool.{false≢true, false_from_ne_true, and_right, and_parts, or_cases, eqb-true}
use Rattle.std.proofs.lemmas.Bool.Decides.{Decides-eqb, nat_tests}
use Rattle.std.proofs.lemmas.Slice.Eq.{bytes_eq-Decides}
use Rattle.jv_names.specs.Names.{Name}
use Rattle.class_tree.specs.declared.pool.Const.{Const}
use Rattle.class_tree.specs.Tree.{text_at}
use Rattle.classfile_read.specs.ClassReading.{Names, is_among}
use Rattle.classfile_read.specs.Repeats.{IndexPair, pair_cmp, holds_both, with_index, text_or_empty, named, names_at, KnowsTexts, Stands, KnowsPairs}

-- ---- a text for which an index stands, or stands from now on

-- one stood for it
pub index_kept : (text : Name) (standing : Name → Option ℕ) (index : ℕ) (at : ℕ) → standing text ≡ Some at → (other : Name) → standing other ≡ with_index standing text index other
index_kept text standing index at there other =
    elim (standing other) as (λ f. standing other ≡ f → f ≡ option_or f (cond (bytes_eq text other) (Some index) None)) [
      | Some a ↦ λ _. refl
      | None ↦ λ none. elim (bytes_eq text other) as (λ b. bytes_eq text other ≡ b → None ≡ option_or None (cond b (Some index) None)) [
        | true ↦ λ same. let e : text ≡ other = (bytes_eq-Decides text other).0 same in cc
        | false ↦ λ _. refl
      ] refl
    ] refl

first_found : (before : Option ℕ) (index : ℕ) → before ≡ None → Some index ≡ option_or before (Some index)
first_found None index e = refl
first_found (Some at) index e = cc

none_found : (before : Option ℕ) → before ≡ option_or before None
none_found None = refl
none_found (Some at) = refl

-- none stood for it
pub index_put : (text : Name) (before after : Name → Option ℕ) (index : ℕ) → before text ≡ None → (other : Name) → after other ≡ update bytes_eq before text (Some index) other → after other ≡ with_index before text index other
index_put text before after index absent other now =
    elim (bytes_eq text other) as (λ b. bytes_eq text other ≡ b → after other ≡ option_or (before other) (cond b (Some index) None)) [
      | true ↦ λ same.
          let e : text ≡ other = (bytes_eq-Decides text other).0 same in
          let here : before other ≡ None = ap before (sym e) ∙ absent in
          now ∙ ap (λ (b : Bool). cond b (Some index) (before other)) same ∙ first_found (before other) index here
      | false ↦ λ apart. now ∙ ap (λ (b : Bool). cond b (Some index) (before other)) apart ∙ none_found (before other)
    ] refl

-- what stood for a text goes on to
pub stands_on : (before : Name → Option ℕ) (text : Name) (index : ℕ) (other : Name) (at : ℕ) → before other ≡ Some at → with_index before text index other ≡ Some at
stands_on before text index other at e = rw e refl

-- where nothing stood for it, and something does now, it is the text, and the index stands for it
new_standing : (before : Option ℕ) (same : Bool) (index at : ℕ) → before ≡ None → option_or before (cond same (Some index) None) ≡ Some at → (same ≡ true) × (at ≡ index)
new_standing None true index at none e = (refl, cc)
new_standing None false index at none e = absurd cc
new_standing (Some b) same index at none e = absurd cc

-- the text itself has an index then
pub text_stands : (before : Name → Option ℕ) (text : Name) (index : ℕ) → with_index before text index text ≡ Some (unwrap_or (before text) index)
text_stands before text index =
    let same : bytes_eq text text ≡ true = (bytes_eq-Decides text text).1 refl in
    elim (before text) as (λ f. option_or f (cond (bytes_eq text text) (Some index) None) ≡ Some (unwrap_or f index)) [ Some at ↦ refl | None ↦ rw same refl ]

either_stood : (before : Name → Option ℕ) (text : Name) (index : ℕ) (other : Name) (at : ℕ) → with_index before text index other ≡ Some at → {P : Type 0} → (before other ≡ Some at → P) → (before other ≡ None → text ≡ other → at ≡ index → P) → P
either_stood before text index other at e {P} old new =
    elim (before other) as (λ f. before other ≡ f → P) [
      | Some a ↦ λ was. old (was ∙ sym (stands_on before text index other a was) ∙ e)
      | None ↦ λ none. let n = new_standing (before other) (bytes_eq text other) index at none e in new none ((bytes_eq-Decides text other).0 n.0) n.1
    ] refl

-- what stands at a place of a list, one of whose places was written
set_or_kept : {X : Type 0} (xs : List X) (i j : ℕ) (x : X) → (slice_get (slice_set xs i x) j ≡ slice_get xs j) ⊎ ((i ≡ j) × (slice_get (slice_set xs i x) j ≡ Some x))
set_or_kept [] i j x = inl refl
set_or_kept (y ∷ xs) zero zero x = inr (refl, refl)
set_or_kept (y ∷ xs) zero (suc j) x = inl refl
set_or_kept (y ∷ xs) (suc i) zero x = inl refl
set_or_kept (y ∷ xs) (suc i) (suc j) x = ⊎_elim (λ e. inl e) (λ e. inr (ap suc e.0, e.1)) (set_or_kept xs i j x)

pub set_past : {X : Type 0} (xs : List X) (i : ℕ) (x : X) → length xs ≤ i → xs ≡ slice_set xs i x
set_past [] i x le = refl
set_past (y ∷ xs) zero x le = absurd (omega arith)
set_past {X = X} (y ∷ xs) (suc i) x le = ap (λ (rest : List X). y ∷ rest) (set_past xs i x (omega arith))

-- ---- texts

-- what is known of them stays so, where one more has an index
pub texts_grown : (pool : List Const) (known : List (Option ℕ)) (before after : Name → Option ℕ) (text : Name) (index : ℕ) → KnowsTexts pool known before → text_at pool index ≡ Some text
    → ((other : Name) → after other ≡ with_index before text index other) → KnowsTexts pool known after
texts_grown pool known before after text index knows there grown = record {
  named_there = λ other at e. either_stood before text index other at (sym (grown other) ∙ e) (λ was. knows.named_there other at was) (λ none same is. ap (text_at pool) is ∙ there ∙ ap Some same);
  noted = λ i at other e here. grown other ∙ stands_on before text index other at (knows.noted i at other e here);
}

-- an index was noted
pub texts_noted : (pool : List Const) (known : List (Option ℕ)) (standing : Name → Option ℕ) (text : Name) (index at : ℕ) → KnowsTexts pool known standing → text_at pool index ≡ Some text → standing text ≡ Some at
    → KnowsTexts pool (slice_set known index (Some at)) standing
texts_noted pool known standing text index at knows there stands = record {
  named_there = knows.named_there;
  noted = λ i a other e here.
      ⊎_elim
      (λ kept. knows.noted i a other (sym kept ∙ e) here)
      (λ set. let t : text ≡ other = cc (there, here, set.0) in let n : at ≡ a = cc (e, set.1) in ap standing (sym t) ∙ stands ∙ ap Some n)
      (set_or_kept known index i (Some at));
}

-- one that was noted at an index stands for the text there
pub stands_noted : (pool : List Const) (known : List (Option ℕ)) (standing : Name → Option ℕ) (text : Name) (index at : ℕ) → KnowsTexts pool known standing → text_at pool index ≡ Some text → slice_get known index ≡ Some (Some at) → Stands pool text index known standing standing at
stands_noted pool known standing text index at knows there noted =
    let stands = knows.noted index at text noted there in
    record {
      knows = knows;
      stands = stands;
      others = index_kept text standing index at stands;
    }

-- one that was found by the text is noted
pub stands_found : (pool : List Const) (known later : List (Option ℕ)) (before after : Name → Option ℕ) (text : Name) (index at : ℕ) → KnowsTexts pool known before → text_at pool index ≡ Some text → at ≡ unwrap_or (before text) index
    → ((other : Name) → after other ≡ with_index before text index other) → later ≡ slice_set known index (Some at) → Stands pool text index later before after at
stands_found pool known later before after text index at knows there found grown is =
    let stands : after text ≡ Some at = grown text ∙ text_stands before text index ∙ ap Some (sym found) in
    record {
      knows = rw is (texts_noted pool known after text index at (texts_grown pool known before after text index knows there grown) there stands);
      stands = stands;
      others = grown;
    }

nowhere : (n i at : ℕ) → slice_get (replicate n None) i ≡ Some (Some at) → ⊥
nowhere zero i at e = cc
nowhere (suc n) zero at e = cc
nowhere (suc n) (suc i) at e = nowhere n i at e

-- nothing is known of any text yet
pub no_texts : (pool : List Const) (n : ℕ) (standing : Name → Option ℕ) → ((text : Name) → standing text ≡ None) → KnowsTexts pool (replicate n None) standing
no_texts pool n standing none = record {
  named_there = λ text at e. absurd (let no : None ≡ Some at = sym (none text) ∙ e in cc);
  noted = λ index at text e here. absurd (nowhere n index at e);
}

-- ---- pairs

same_decision : (r s : Bool) {P Q : Type 0} → Decides r P → Decides s Q → (P → Q) → (Q → P) → r ≡ s
same_decision true true p q there back = refl
same_decision true false p q there back = sym (q.1 (there (p.0 refl)))
same_decision false true p q there back = p.1 (back (q.0 refl))
same_decision false false p q there back = refl

-- indices tell texts apart
indices_tell : (pool : List Const) (known : List (Option ℕ)) (standing : Name → Option ℕ) (x y : Name) (a b : ℕ) → KnowsTexts pool known standing → standing x ≡ Some a → standing y ≡ Some b → (a == b) ≡ bytes_eq x y
indices_tell pool known standing x y a b knows of_x of_y =
    same_decision (a == b) (bytes_eq x y) (Decides-eqb a b) (bytes_eq-Decides x y)
    (λ same. let at_x = knows.named_there x a of_x in let at_y = knows.named_there y b of_y in cc)
    (λ same. cc)

number_is : (x y : ℕ) → is_eq (nat_cmp x y) ≡ (x == y)
number_is x y = grind (arith, nat_tests)

pair_is : (a b : IndexPair) → is_at (pair_cmp a) b ≡ (a.0 == b.0 && a.1 == b.1)
pair_is a b = sym (tied_then (nat_cmp a.0 b.0) (nat_cmp a.1 b.1)) ∙ rw (number_is, number_is (a.1) (b.1)) refl

cond_or : (b c : Bool) → cond b true c ≡ (b || c)
cond_or true c = refl
cond_or false c = refl

-- an index that stands for no text before is in no pair
grown_pair : (holds : IndexPair → Bool) (index : ℕ) (first second : Option ℕ) (as_first as_second : Bool) → (first ≡ None → as_first ≡ true → (other : ℕ) → holds (index, other) ≡ false) → (second ≡ None → as_second ≡ true → (other : ℕ) → holds (other, index) ≡ false)
    → holds_both holds (option_or first (cond as_first (Some index) None)) (option_or second (cond as_second (Some index) None)) ≡ holds_both holds first second
grown_pair holds index (Some a) (Some b) s t not_first not_second = refl
grown_pair holds index (Some a) None s true not_first not_second = not_second refl refl a
grown_pair holds index (Some a) None s false not_first not_second = refl
grown_pair holds index None (Some b) true t not_first not_second = not_first refl refl b
grown_pair holds index None (Some b) false t not_first not_second = refl
grown_pair holds index None None true true not_first not_second = not_first refl refl index
grown_pair holds index None None true false not_first not_second = refl
grown_pair holds index None None false t not_first not_second = refl

-- what the pairs tell stays so, where one more text has an index
pub pairs_grown : (pool : List Const) (before after : Name → Option ℕ) (holds : IndexPair → Bool) (earlier : List Names) (text : Name) (index : ℕ) → KnowsPairs pool before holds earlier → text_at pool index ≡ Some text
    → ((other : Name) → after other ≡ with_index before text index other) → KnowsPairs pool after holds earlier
pairs_grown pool before after holds earlier text index knows there grown =
    let own : named pool index ≡ text = ap text_or_empty there in
    let new : (x : Name) → before x ≡ None → bytes_eq text x ≡ true → before (named pool index) ≡ Some index → ⊥ = λ x none same stands.
    let t : text ≡ x = (bytes_eq-Decides text x).0 same in
    let was : before text ≡ Some index = ap before (sym own) ∙ stands in
    let no : before text ≡ None = ap before t ∙ none in
    cc (was, no) in
    record {
      told = λ names.
          ap (λ (f : Option ℕ). holds_both holds f (after names.1)) (grown names.0)
          ∙ ap (λ (f : Option ℕ). holds_both holds (with_index before text index names.0) f) (grown names.1)
          ∙ grown_pair holds index (before names.0) (before names.1) (bytes_eq text names.0) (bytes_eq text names.1)
          (λ none same other. false_from_ne_true (holds (index, other)) (λ e. new names.0 none same (knows.first_stands (index, other) e)))
          (λ none same other. false_from_ne_true (holds (other, index)) (λ e. new names.1 none same (knows.second_stands (other, index) e)))
          ∙ knows.told names;
      first_stands = λ pair e. grown (named pool pair.0) ∙ stands_on before text index (named pool pair.0) pair.0 (knows.first_stands pair e);
      second_stands = λ pair e. grown (named pool pair.1) ∙ stands_on before text index (named pool pair.1) pair.1 (knows.second_stands pair e);
    }

-- a text for which an index stands is none for which none does
apart : (standing : Name → Option ℕ) (x y : Name) (a : ℕ) → standing x ≡ Some a → standing y ≡ None → bytes_eq x y ≡ false
apart standing x y a of_x of_y =
    false_from_ne_true (bytes_eq x y)
    (λ same. let t : x ≡ y = (bytes_eq-Decides x y).0 same in let e : standing x ≡ standing y = ap standing t in cc (e, of_x, of_y))

module _ (pool : List Const) (known : List (Option ℕ)) (standing : Name → Option ℕ) (before after : IndexPair → Bool) (name desc : Name) (a b : ℕ) (knows : KnowsTexts pool known standing) (of_name : standing name ≡ Some a) (of_desc : standing desc ≡ Some b)
    (updated : (q : IndexPair) → after q ≡ cond (is_at (pair_cmp (a, b)) q) true (before q)) where
  tells : (x y : Name) (first second : Option ℕ) → standing x ≡ first → standing y ≡ second → holds_both after first second ≡ (bytes_eq name x && bytes_eq desc y || holds_both before first second)
  tells x y (Some i) (Some j) of_x of_y =
      updated (i, j) ∙ cond_or (is_at (pair_cmp (a, b)) (i, j)) (before (i, j))
      ∙ ap (λ (t : Bool). t || before (i, j)) (pair_is (a, b) (i, j))
      ∙ ap (λ (t : Bool). t && b == j || before (i, j)) (indices_tell pool known standing name x a i knows of_name of_x)
      ∙ ap (λ (t : Bool). bytes_eq name x && t || before (i, j)) (indices_tell pool known standing desc y b j knows of_desc of_y)
  tells x y (Some i) None of_x of_y = rw (apart standing desc y b of_desc of_y) (sym (ap (λ (t : Bool). t || false) (and_right (bytes_eq name x) false refl)))
  tells x y None second of_x of_y = rw (apart standing name x a of_name of_x) refl

  in_pair : (pair : IndexPair) → after pair ≡ true → ((a ≡ pair.0) × (b ≡ pair.1)) ⊎ (before pair ≡ true)
  in_pair pair e =
      let or : (a == pair.0 && b == pair.1 || before pair) ≡ true = sym (updated pair ∙ cond_or (is_at (pair_cmp (a, b)) pair) (before pair) ∙ ap (λ (t : Bool). t || before pair) (pair_is (a, b) pair)) ∙ e in
      ⊎_elim
      (λ same. let parts = and_parts (a == pair.0) (b == pair.1) same in inl (eqb-true a pair.0 parts.0, eqb-true b pair.1 parts.1))
      (λ was. inr was)
      (or_cases (a == pair.0 && b == pair.1) (before pair) or)

  own : (text : Name) (at : ℕ) → standing text ≡ Some at → standing (named pool at) ≡ Some at
  own text at e = ap standing (ap text_or_empty (knows.named_there text at e)) ∙ e

  -- one more name and descriptor are remembered
  pub pair_noted : (earlier : List Names) → KnowsPairs pool standing before earlier → KnowsPairs pool standing after ((name, desc) ∷ earlier)
  pair_noted earlier remembers = record {
    told = λ names.
        tells names.0 names.1 (standing names.0) (standing names.1) refl refl
        ∙ ap (λ (t : Bool). bytes_eq name names.0 && bytes_eq desc names.1 || t) (remembers.told names);
    first_stands = λ pair e.
        ⊎_elim
        (λ same. let n : a ≡ pair.0 = same.0 in ap (λ (i : ℕ). standing (named pool i)) (sym n) ∙ own name a of_name ∙ ap Some n)
        (λ was. remembers.first_stands pair was)
        (in_pair pair e);
    second_stands = λ pair e.
        ⊎_elim
        (λ same. let n : b ≡ pair.1 = same.1 in ap (λ (i : ℕ). standing (named pool i)) (sym n) ∙ own desc b of_desc ∙ ap Some n)
        (λ was. remembers.second_stands pair was)
        (in_pair pair e);
  }

-- of none, none is remembered
pub no_pairs : (pool : List Const) (standing : Name → Option ℕ) (holds : IndexPair → Bool) → ((text : Name) → standing text ≡ None) → ((pair : IndexPair) → holds pair ≡ false) → KnowsPairs pool standing holds []
no_pairs pool standing holds none nothing = record {
  told = λ names. ap (λ (f : Option ℕ). holds_both holds f (standing names.1)) (none names.0);
  first_stands = λ pair e. absurd (false≢true (sym (nothing pair) ∙ e));
  second_stands = λ pair e. absurd (false≢true (sym (nothing pair) ∙ e));
}

-- one more name and descriptor are remembered, once an index stands for each
pub one_more : (pool : List Const) (known middle later : List (Option ℕ)) (before between after : Name → Option ℕ) (held holds : IndexPair → Bool) (earlier : List Names) (name desc a b : ℕ) (n d : Name) → text_at pool name ≡ Some n → text_at pool desc ≡ Some d
    → KnowsTexts pool known before → KnowsPairs pool before held earlier → (KnowsTexts pool known before → Stands pool n name middle before between a) → (KnowsTexts pool middle between → Stands pool d desc later between after b)
    → ((q : IndexPair) → holds q ≡ cond (is_at (pair_cmp (a, b)) q) true (held q))
    → (held (a, b) ≡ is_among (names_at pool name desc) earlier) × KnowsTexts pool later after × KnowsPairs pool after holds (names_at pool name desc ∷ earlier)
one_more pool known middle later before between after held holds earlier name desc a b n d name_there desc_there texts pairs first second updated =
    let one = first texts in
    let two = second one.knows in
    let of_name : after n ≡ Some a = two.others n ∙ stands_on between d desc n a one.stands in
    let grown = pairs_grown pool between after held earlier d desc (pairs_grown pool before between held earlier n name pairs name_there one.others) desc_there two.others in
    let told : holds_both held (after n) (after d) ≡ is_among (n, d) earlier = grown.told (n, d) in
    let both : holds_both held (after n) (after d) ≡ held (a, b) = ap (λ (f : Option ℕ). holds_both held f (after d)) of_name ∙ ap (λ (f : Option ℕ). holds_both held (Some a) f) two.stands in
    let own_name : named pool name ≡ n = ap text_or_empty name_there in
    let own_desc : named pool desc ≡ d = ap text_or_empty desc_there in
    rw (own_name, own_desc) (sym both ∙ told, two.knows, pair_noted pool later after held holds n d a b two.knows of_name two.stands updated earlier grown)
