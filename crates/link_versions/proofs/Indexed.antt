-- An index of members with one place more.
use Rattle.std.proofs.Common.{◌≡◌, ℕ, suc, ◌+◌, ◌<◌, Bool, true, false, cond, ◌&&◌, List, [], ◌∷◌, ◌++◌, map, length, take, get_or, refl, sym, ap, ◌∙◌, subst, Option, Some, None, is_some, arith}
use Rattle.std.specs.Prelude.{option_map, position, bytes_eq}
use Rattle.std.specs.Global.{Vec}
use Rattle.std.specs.Option.{option_and_then}
use Rattle.std.specs.Cmp.Lexicographic.{nat_list_eq_equiv}
use Rattle.std.specs.Map.{KeepsOthers, IsKeyTest, AreApart, lookup}
use Rattle.std.specs.HashMap.{HashMap, UpdatesBy}
use Rattle.std.proofs.lemmas.Bool.{cond-true, cond-false, false≢true}
use Rattle.std.proofs.lemmas.List.{length-take-le}
use Rattle.std.proofs.Math.Seq.{take-suc}
use Rattle.std.proofs.lemmas.Slice.Eq.{bytes_eq-Decides}
use Rattle.jv_names.specs.Names.{Name}
use Rattle.class_tree.specs.declared.pool.Const.{Const}
use Rattle.class_tree.specs.declared.members.Member.{Member}
use Rattle.class_tree.specs.Tree.{is_named}
use Rattle.link_versions.specs.MemberIndexes.{at_text, ByDesc, ByName, place_by_desc, place_by_name, or_place, seen, seen_places, found_in}
use Rattle.link_versions.proofs.Named.{position-absent, position-other, position-there}

-- ---- a change of a map by texts

apart : (text other key : List ℕ) → bytes_eq text other ≡ false → bytes_eq text key ≡ true → bytes_eq other key ≡ false
apart text other key differ same = nat_list_eq_equiv.symm other key ∙ sym (nat_list_eq_equiv.congr text key other same) ∙ differ

others_kept : {K X : Type 0} (eq : K → K → Bool) (test other : K → Bool) (old new : List (K × X)) → KeepsOthers eq test old new → IsKeyTest eq other → AreApart test other → lookup other new ≡ lookup other old
unfolding KeepsOthers
others_kept eq test other old new kept = kept other

abbrev pub Changes : {X S : Type 0} → Name → HashMap (Vec ℕ) X S → HashMap (Vec ℕ) X S → Option X → Type 0
Changes text old new x = UpdatesBy (λ (a b : Vec ℕ). bytes_eq a.items b.items) (λ (k : Vec ℕ). bytes_eq text k.items) old new x

pub text_changed : {X S : Type 0} (text : Name) (old new : HashMap (Vec ℕ) X S) (x : Option X) → Changes text old new x
    → (wanted : Name) → at_text new wanted ≡ cond (bytes_eq text wanted) x (at_text old wanted)
text_changed {X} text old new x updates wanted =
    elim (bytes_eq text wanted) as (λ b. bytes_eq text wanted ≡ b → at_text new wanted ≡ cond b x (at_text old wanted)) [
      | true ↦ λ same. subst (λ (us : List ℕ). at_text new us ≡ x) ((bytes_eq-Decides text wanted).0 same) updates.1
      | false ↦ λ differ.
          others_kept _ _ (λ (k : Vec ℕ). bytes_eq wanted k.items) old.entries new.entries updates.3
          (λ a b. nat_list_eq_equiv.congr wanted a.items b.items)
          (λ k. apart text wanted k.items differ)
    ] refl

-- ---- places of one name

or_new : (found : Option ℕ) (here : Bool) (place : ℕ) → (here ≡ true → found ≡ None) → cond here (Some place) found ≡ or_place found here place
or_new None true place absent = refl
or_new None false place absent = refl
or_new (Some p) true place absent = absurd (let none = absent refl in cc)
or_new (Some p) false place absent = refl

or_old : (found : Option ℕ) (here : Bool) (place : ℕ) → (here ≡ true → is_some found ≡ true) → found ≡ or_place found here place
or_old None true place there = absurd (false≢true (there refl))
or_old None false place there = refl
or_old (Some q) here place there = refl

none_there : {A : Type 0} (o : Option A) → is_some o ≡ false → o ≡ None
none_there None e = refl
none_there (Some x) e = absurd cc

pub desc_put : (desc : Name) (key : Vec ℕ) (old new : ByDesc) (place : ℕ) → key.items ≡ desc → is_some (at_text old desc) ≡ false → Changes key.items old new (Some place)
    → (d : Name) → place_by_desc new d ≡ or_place (place_by_desc old d) (bytes_eq desc d) place
unfolding place_by_desc
desc_put desc key old new place is none updates d =
    text_changed key.items old new (Some place) updates d ∙ ap (λ (t : List ℕ). cond (bytes_eq t d) (Some place) (at_text old d)) is
    ∙ or_new (at_text old d) (bytes_eq desc d) place (λ same. subst (λ (us : List ℕ). at_text old us ≡ None) ((bytes_eq-Decides desc d).0 same) (none_there _ none))

pub desc_there : (desc : Name) (old : ByDesc) (place : ℕ) → is_some (at_text old desc) ≡ true
    → (d : Name) → place_by_desc old d ≡ or_place (place_by_desc old d) (bytes_eq desc d) place
unfolding place_by_desc
desc_there desc old place there d =
    or_old (at_text old d) (bytes_eq desc d) place (λ same. subst (λ (us : List ℕ). is_some (at_text old us) ≡ true) ((bytes_eq-Decides desc d).0 same) there)

pub empty_desc : (places : ByDesc) → places.entries ≡ [] → (d : Name) → place_by_desc places d ≡ None
unfolding place_by_desc
empty_desc places empty d = ap (lookup (λ (k : Vec ℕ). bytes_eq d k.items)) empty

pub empty_name : (names : ByName) → names.entries ≡ [] → (n d : Name) → place_by_name names n d ≡ None
unfolding place_by_name
empty_name names empty n d = ap (λ es. option_and_then (λ places. place_by_desc places d) (lookup (λ (k : Vec ℕ). bytes_eq n k.items) es)) empty

-- ---- places of all names

or_false : (place : ℕ) (found : Option ℕ) → found ≡ or_place found false place
or_false place None = refl
or_false place (Some p) = refl

module _ (name : Name) (old : ByName) where
  pub had_some : (places : ByDesc) → at_text old name ≡ Some places → (d : Name) → place_by_desc places d ≡ place_by_name old name d
  unfolding place_by_name
  had_some places there d = sym (ap (option_and_then (λ ps. place_by_desc ps d)) there)

  pub had_none : (places : ByDesc) → at_text old name ≡ None → places.entries ≡ [] → (d : Name) → place_by_desc places d ≡ place_by_name old name d
  unfolding place_by_name
  had_none places there empty d = empty_desc places empty d ∙ sym (ap (option_and_then (λ ps. place_by_desc ps d)) there)

  pub taken_out : (new : ByName) → Changes name old new None → (n d : Name) → bytes_eq name n ≡ false → place_by_name new n d ≡ place_by_name old n d
  unfolding place_by_name
  taken_out new out n d differ = ap (option_and_then (λ ps. place_by_desc ps d)) (text_changed name old new None out n ∙ cond-false (bytes_eq name n) None (at_text old n) differ)

-- the places of a name are put in again with one more
module _ (name desc : Name) (key : Vec ℕ) (place : ℕ) (old mid new : ByName) (places put : ByDesc) where
  pub name_put : key.items ≡ name → ((d : Name) → place_by_desc places d ≡ place_by_name old name d)
      → ((n d : Name) → bytes_eq name n ≡ false → place_by_name mid n d ≡ place_by_name old n d)
      → ((d : Name) → place_by_desc put d ≡ or_place (place_by_desc places d) (bytes_eq desc d) place)
      → Changes key.items mid new (Some put)
      → (n d : Name) → place_by_name new n d ≡ or_place (place_by_name old n d) (bytes_eq name n && bytes_eq desc d) place
  unfolding place_by_name
  name_put is had others more into n d =
      elim (bytes_eq name n) as (λ b. bytes_eq name n ≡ b → place_by_name new n d ≡ or_place (place_by_name old n d) (b && bytes_eq desc d) place) [
        | true ↦ λ same.
            ap (option_and_then (λ ps. place_by_desc ps d)) (found ∙ cond-true (bytes_eq name n) (Some put) (at_text mid n) same) ∙ more d
            ∙ ap (λ had. or_place had (bytes_eq desc d) place) (had d)
            ∙ ap (λ (m : List ℕ). or_place (place_by_name old m d) (bytes_eq desc d) place) ((bytes_eq-Decides name n).0 same)
        | false ↦ λ differ.
            ap (option_and_then (λ ps. place_by_desc ps d)) (found ∙ cond-false (bytes_eq name n) (Some put) (at_text mid n) differ)
            ∙ others n d differ ∙ or_false place (place_by_name old n d)
      ] refl
    where
      found : at_text new n ≡ cond (bytes_eq name n) (Some put) (at_text mid n)
      found = text_changed key.items mid new (Some put) into n ∙ ap (λ (t : List ℕ). cond (bytes_eq t n) (Some put) (at_text mid n)) is

pub find_at : (names : ByName) (name desc : Name) (found : Option ByDesc) → at_text names name ≡ found → place_by_name names name desc ≡ option_and_then (λ ps. at_text ps desc) found
unfolding place_by_name place_by_desc
find_at names name desc found e = ap (option_and_then (λ ps. place_by_desc ps desc)) e

-- ---- places among the members so far

one_more : {A : Type 0} (p : A → Bool) (xs : List A) (x : A) → position p (xs ++ x ∷ []) ≡ or_place (position p xs) (p x) (length xs)
one_more p xs x = by (position p xs) (p x) refl refl
  where
    by : (found : Option ℕ) (here : Bool) → position p xs ≡ found → p x ≡ here → position p (xs ++ x ∷ []) ≡ or_place found here (length xs)
    by found false e h = position-other p xs x h ∙ e ∙ or_false (length xs) found
    by None true e h = position-absent p xs x e h
    by (Some i) true e h = position-there p xs x i e

pub step : (pool : List Const) (n d : Name) (members : List Member) (place : ℕ) (member : Member) (before after : Option ℕ) → place < length members → member ≡ get_or members place member
    → before ≡ position (is_named pool n d) (take place members) → after ≡ or_place before (is_named pool n d member) place
    → after ≡ position (is_named pool n d) (take (place + 1) members)
step pool n d members place member before after low at was put =
    let p = is_named pool n d in
    put ∙ ap (λ found. or_place found (p member) place) was
    ∙ ap (λ k. or_place (position p (take place members)) (p member) k) (sym (length-take-le place members (omega (arith, low))))
    ∙ sym (one_more p (take place members) member)
    ∙ ap (λ x. position p (take place members ++ x ∷ [])) at
    ∙ ap (position p) (sym (take-suc members place member low) ∙ let next : suc place ≡ place + 1 = omega arith in ap (λ k. take k members) next)

-- ---- the same as a list

lookup-seen : {A B X Y : Type 0} (f : A → B) (g : X → Y) (test : B → Bool) (es : List (A × X)) → lookup test (map (λ e. (f e.0, g e.1)) es) ≡ option_map g (lookup (λ k. test (f k)) es)
lookup-seen f g test [] = refl
lookup-seen {A} {B} {X} {Y} f g test (e ∷ es) = by (test (f e.0)) (lookup test (map (λ e. (f e.0, g e.1)) es)) (lookup (λ k. test (f k)) es) (lookup-seen f g test es)
  where
    by : (b : Bool) (l : Option Y) (r : Option X) → l ≡ option_map g r → cond b (Some (g e.1)) l ≡ option_map g (cond b (Some e.1) r)
    by true l r same = refl
    by false l r same = same

pub seen_finds : (names : ByName) (n d : Name) → found_in (seen names) n d ≡ place_by_name names n d
unfolding found_in seen place_by_name place_by_desc
seen_finds names n d = ap (option_and_then (lookup (bytes_eq d))) (lookup-seen (λ (k : Vec ℕ). k.items) seen_places (bytes_eq n) names.entries) ∙ by (at_text names n)
  where
    same : (o : Option ℕ) → option_map (λ p. p) o ≡ o
    same None = refl
    same (Some p) = refl

    by : (o : Option ByDesc) → option_and_then (lookup (bytes_eq d)) (option_map seen_places o) ≡ option_and_then (λ ps. at_text ps d) o
    by None = refl
    by (Some ps) = lookup-seen (λ (k : Vec ℕ). k.items) (λ (p : ℕ). p) (bytes_eq d) ps.entries ∙ same (at_text ps d)
