-- Types that are compared with listed ones, word by word, from the last one on.
use Rattle.std.proofs.Common.{◌≡◌, ℕ, suc, ◌∙◌, ◌-◌, ◌+◌, ◌<◌, ◌≤◌, ◌^◌, Bool, true, false, List, [], ◌∷◌, ◌++◌, length, take, drop, get_or, replicate, reverse, refl, sym, ap, subst, arith, append_assoc, length-append}
use Rattle.std.specs.Prelude.{◌&&◌, not}
use Rattle.std.proofs.lemmas.List.{take-append-drop, length-take-le, length-drop, take_more, take_all, reverse-append, length-replicate}
use Rattle.type_frames.specs.declared.vtype.VType.{VType}
use Rattle.type_frames.specs.declared.vtype.VType.TheVariants as vtype
use Rattle.type_frames.specs.Types.{type_words, expanded, is_long}
use Rattle.type_frames.specs.Hierarchies.{Known}
use Rattle.type_frames.specs.Assignable.{is_assignable, are_assignable, are_words_assignable}
use Rattle.type_frames.specs.StackMaps.{filled}
use Rattle.type_states.specs.Lists.{list_at, words_counted, IsLast}
use Rattle.type_states.proofs.Words.{expanded-push, words-push}

and_assoc : (a b c : Bool) → (a && (b && c)) ≡ ((a && b) && c)
and_assoc true b c = refl
and_assoc false b c = refl

and_true : (a : Bool) → (a && true) ≡ a
and_true true = refl
and_true false = refl

and_false : (a : Bool) → (a && false) ≡ false
and_false true = refl
and_false false = refl

module _ (h : Known) where
  assigned-append : (xs ys us vs : List VType) → length xs ≡ length ys → are_assignable h (xs ++ us) (ys ++ vs) ≡ (are_assignable h xs ys && are_assignable h us vs)
  assigned-append [] [] us vs e = refl
  assigned-append [] (y ∷ ys) us vs e = absurd (omega arith)
  assigned-append (x ∷ xs) [] us vs e = absurd (omega arith)
  assigned-append (x ∷ xs) (y ∷ ys) us vs e =
      let less : length xs ≡ length ys = omega arith in
      ap (λ (b : Bool). is_assignable h x y && b) (assigned-append xs ys us vs less) ∙ and_assoc (is_assignable h x y) (are_assignable h xs ys) (are_assignable h us vs)

  to_top : (x : VType) → is_assignable h x vtype.Top ≡ true
  unfolding is_assignable
  to_top x = refl

  to_tops : (xs : List VType) → are_assignable h xs (replicate (length xs) vtype.Top) ≡ true
  to_tops [] = refl
  to_tops (x ∷ xs) = ap (λ (b : Bool). b && are_assignable h xs (replicate (length xs) vtype.Top)) (to_top x) ∙ to_tops xs

  -- what isn't listed may be anything
  filled_same : (xs ls : List VType) → length (expanded ls) ≤ length xs → are_assignable h (take (length (expanded ls)) xs) (expanded ls) ≡ are_assignable h xs (filled (length xs) ls)
  filled_same xs ls le =
      let w = length (expanded ls) in
      let rest : length (drop w xs) ≡ length xs - w = length-drop w xs in
      let split = assigned-append (take w xs) (expanded ls) (drop w xs) (replicate (length xs - w) vtype.Top) (length-take-le w xs le) in
      let tops : are_assignable h (drop w xs) (replicate (length xs - w) vtype.Top) ≡ true = subst (λ (n : ℕ). are_assignable h (drop w xs) (replicate n vtype.Top) ≡ true) rest (to_tops (drop w xs)) in
      sym (and_true (are_assignable h (take w xs) (expanded ls)))
      ∙ ap (λ (b : Bool). are_assignable h (take w xs) (expanded ls) && b) (sym tops)
      ∙ sym split
      ∙ ap (λ (ys : List VType). are_assignable h ys (filled (length xs) ls)) (take-append-drop w xs)

  one_word : (xs ws : List VType) (t d : VType) (k : ℕ) → length ws ≡ k → k + 1 ≤ length xs
      → are_assignable h (take (k + 1) xs) (ws ++ t ∷ []) ≡ (are_assignable h (take k xs) ws && is_assignable h (get_or xs k d) t)
  one_word xs ws t d k e le =
      let lt : k < length xs = omega arith in
      let same : length (take k xs) ≡ length ws = length-take-le k xs (omega arith) ∙ sym e in
      ap (λ (ys : List VType). are_assignable h ys (ws ++ t ∷ [])) (take_more xs k d lt)
      ∙ assigned-append (take k xs) ws (get_or xs k d ∷ []) (t ∷ []) same
      ∙ ap (λ (b : Bool). are_assignable h (take k xs) ws && b) (and_true (is_assignable h (get_or xs k d) t))

  two_words : (xs ws : List VType) (t d : VType) (k : ℕ) → length ws ≡ k → k + 2 ≤ length xs
      → are_assignable h (take (k + 2) xs) (ws ++ t ∷ vtype.Top ∷ []) ≡ (are_assignable h (take k xs) ws && is_assignable h (get_or xs k d) t)
  two_words xs ws t d k e le =
      let more : length (ws ++ t ∷ []) ≡ k + 1 = length-append ws (t ∷ []) ∙ omega arith in
      let twice : k + 2 ≡ (k + 1) + 1 = omega arith in
      ap (λ (n : ℕ). are_assignable h (take n xs) (ws ++ t ∷ vtype.Top ∷ [])) twice
      ∙ ap (λ (ys : List VType). are_assignable h (take ((k + 1) + 1) xs) ys) (sym (append_assoc ws (t ∷ []) (vtype.Top ∷ [])))
      ∙ one_word xs (ws ++ t ∷ []) vtype.Top d (k + 1) more (omega arith)
      ∙ ap (λ (b : Bool). are_assignable h (take (k + 1) xs) (ws ++ t ∷ []) && b) (to_top (get_or xs (k + 1) d))
      ∙ and_true (are_assignable h (take (k + 1) xs) (ws ++ t ∷ []))
      ∙ one_word xs ws t d k e (omega arith)

  its_words : (t : VType) (xs ws : List VType) (d : VType) (k : ℕ) → length ws ≡ k → k + length (type_words t) ≤ length xs
      → are_assignable h (take (k + length (type_words t)) xs) (ws ++ type_words t) ≡ (are_assignable h (take k xs) ws && is_assignable h (get_or xs k d) t)
  its_words vtype.Top xs ws d k e le = one_word xs ws vtype.Top d k e le
  its_words vtype.Integer xs ws d k e le = one_word xs ws vtype.Integer d k e le
  its_words vtype.Long xs ws d k e le = two_words xs ws vtype.Long d k e le
  its_words vtype.Null xs ws d k e le = one_word xs ws vtype.Null d k e le
  its_words vtype.UninitThis xs ws d k e le = one_word xs ws vtype.UninitThis d k e le
  its_words (vtype.Object name) xs ws d k e le = one_word xs ws (vtype.Object name) d k e le
  its_words (vtype.Uninit at) xs ws d k e le = one_word xs ws (vtype.Uninit at) d k e le

  -- so far it all depends on the first words
  pub record Walked (xs : List VType) (n : ℕ) (lists : List (List VType)) (place at words : ℕ) : Type 0 where
    pub listed : at < length lists
    pub count : words ≡ length (expanded (list_at lists at))
    pub within : words ≤ length xs
    pub same : are_assignable h (take words xs) (expanded (list_at lists at)) ≡ are_assignable h xs (filled n (list_at lists place))

  module _ (xs : List VType) (n : ℕ) (lists : List (List VType)) (place : ℕ) where
    pub walk_begun : (words : ℕ) → length xs ≡ n → place < length lists → length (expanded (list_at lists place)) ≤ n → n < 2 ^ 16 → words ≡ words_counted (list_at lists place) → Walked xs n lists place place words
    walk_begun words all lt le short is =
        let counted : words ≡ length (expanded (list_at lists place)) = omega arith in
        let room : length (expanded (list_at lists place)) ≤ length xs = omega arith in
        record {
          listed = lt;
          count = counted;
          within = omega arith;
          same = ap (λ (k : ℕ). are_assignable h (take k xs) (expanded (list_at lists place))) counted
              ∙ filled_same xs (list_at lists place) room
              ∙ ap (λ (k : ℕ). are_assignable h xs (filled k (list_at lists place))) all;
        }

    module _ (at words : ℕ) (t : VType) (below : ℕ) (walked : Walked xs n lists place at words) (last : IsLast lists at t below) where
      counted : words ≡ length (expanded (list_at lists below)) + length (type_words t)
      counted = walked.count ∙ ap (λ (ls : List VType). length (expanded ls)) last.is ∙ words-push (list_at lists below) t

      pub walk_fits : length (type_words t) ≤ words
      walk_fits = let e = counted in omega arith

      module _ (left : ℕ) (x d : VType) (less : left ≡ words - length (type_words t)) (here : x ≡ get_or xs left d) where
        step : are_assignable h xs (filled n (list_at lists place)) ≡ (are_assignable h (take left xs) (expanded (list_at lists below)) && is_assignable h x t)
        step =
            let e = counted in
            let within = walked.within in
            let k : length (expanded (list_at lists below)) ≡ left = omega arith in
            let all : words ≡ left + length (type_words t) = omega arith in
            sym walked.same
            ∙ ap (λ (ls : List VType). are_assignable h (take words xs) (expanded ls)) last.is
            ∙ ap (λ (ws : List VType). are_assignable h (take words xs) ws) (expanded-push (list_at lists below) t)
            ∙ ap (λ (m : ℕ). are_assignable h (take m xs) (expanded (list_at lists below) ++ type_words t)) all
            ∙ its_words t xs (expanded (list_at lists below)) d left k (omega arith)
            ∙ ap (λ (y : VType). are_assignable h (take left xs) (expanded (list_at lists below)) && is_assignable h y t) (sym here)

        pub walk_on : is_assignable h x t ≡ true → Walked xs n lists place below left
        walk_on is =
            let e = counted in
            let within = walked.within in
            let older = last.older in
            let listed = walked.listed in
            record {
              listed = omega arith;
              count = omega arith;
              within = omega arith;
              same = sym (step ∙ ap (λ (b : Bool). are_assignable h (take left xs) (expanded (list_at lists below)) && b) is ∙ and_true (are_assignable h (take left xs) (expanded (list_at lists below))));
            }

        pub walk_failed : is_assignable h x t ≡ false → are_assignable h xs (filled n (list_at lists place)) ≡ false
        walk_failed is = step ∙ ap (λ (b : Bool). are_assignable h (take left xs) (expanded (list_at lists below)) && b) is ∙ and_false (are_assignable h (take left xs) (expanded (list_at lists below)))

    pub walk_over : (at words : ℕ) → Walked xs n lists place at words → list_at lists at ≡ [] → are_assignable h xs (filled n (list_at lists place)) ≡ true
    walk_over at words walked none =
        let zero_words : words ≡ 0 = walked.count ∙ ap (λ (ls : List VType). length (expanded ls)) none in
        sym walked.same
        ∙ ap (λ (m : ℕ). are_assignable h (take m xs) (expanded (list_at lists at))) zero_words
        ∙ ap (λ (ls : List VType). are_assignable h [] (expanded ls)) none

  -- other lengths
  pub never_as_long : (xs ys : List VType) → (length xs ≡ length ys → ⊥) → are_assignable h xs ys ≡ false
  never_as_long [] [] not_same = absurd (not_same refl)
  never_as_long [] (y ∷ ys) not_same = refl
  never_as_long (x ∷ xs) [] not_same = refl
  never_as_long (x ∷ xs) (y ∷ ys) not_same =
      ap (λ (b : Bool). is_assignable h x y && b) (never_as_long xs ys (λ e. not_same (ap suc e))) ∙ and_false (is_assignable h x y)

-- ---- operand stacks

-- the words of the first types, from the last one on
abbrev pub down : List VType → ℕ → List VType
down xs n = expanded (reverse (take n xs))

down_more : (xs : List VType) (n : ℕ) (d : VType) → n < length xs → down xs (n + 1) ≡ type_words (get_or xs n d) ++ down xs n
down_more xs n d lt = ap (λ (ys : List VType). expanded (reverse ys)) (take_more xs n d lt) ∙ ap expanded (reverse-append (take n xs) (get_or xs n d ∷ []))

-- the second word that is still to be compared
abbrev pub owed : Bool → List VType
owed true = vtype.Top ∷ []
owed false = []

module _ (h : Known) where
  -- a type of one word
  one_for : (t of : VType) (ts ofs : List VType) → is_assignable h t of ≡ true → are_assignable h (type_words t ++ ts) (of ∷ ofs) ≡ are_assignable h (owed (is_long t) ++ ts) ofs
  one_for vtype.Top of ts ofs is = ap (λ (b : Bool). b && are_assignable h ts ofs) is
  one_for vtype.Integer of ts ofs is = ap (λ (b : Bool). b && are_assignable h ts ofs) is
  one_for vtype.Long of ts ofs is = ap (λ (b : Bool). b && are_assignable h (vtype.Top ∷ ts) ofs) is
  one_for vtype.Null of ts ofs is = ap (λ (b : Bool). b && are_assignable h ts ofs) is
  one_for vtype.UninitThis of ts ofs is = ap (λ (b : Bool). b && are_assignable h ts ofs) is
  one_for (vtype.Object name) of ts ofs is = ap (λ (b : Bool). b && are_assignable h ts ofs) is
  one_for (vtype.Uninit at) of ts ofs is = ap (λ (b : Bool). b && are_assignable h ts ofs) is

  -- only a long is for a long
  for_long : (t : VType) → is_assignable h t vtype.Long ≡ true → t ≡ vtype.Long
  unfolding is_assignable
  for_long vtype.Top is = absurd (let never : ⊥ = cc in never)
  for_long vtype.Integer is = absurd (let never : ⊥ = cc in never)
  for_long vtype.Long is = refl
  for_long vtype.Null is = absurd (let never : ⊥ = cc in never)
  for_long vtype.UninitThis is = absurd (let never : ⊥ = cc in never)
  for_long (vtype.Object name) is = absurd (let never : ⊥ = cc in never)
  for_long (vtype.Uninit at) is = absurd (let never : ⊥ = cc in never)

  longs : (ts ofs : List VType) → are_assignable h (vtype.Long ∷ vtype.Top ∷ ts) (vtype.Long ∷ vtype.Top ∷ ofs) ≡ are_assignable h ts ofs
  unfolding is_assignable
  longs ts ofs = refl

  both_long : (t : VType) (ts ofs : List VType) → t ≡ vtype.Long → are_assignable h (type_words t ++ ts) (vtype.Long ∷ vtype.Top ∷ ofs) ≡ are_assignable h (owed (is_long t && false) ++ ts) ofs
  both_long t ts ofs e =
      ap (λ (x : VType). are_assignable h (type_words x ++ ts) (vtype.Long ∷ vtype.Top ∷ ofs)) e ∙ longs ts ofs
      ∙ ap (λ (b : Bool). are_assignable h (owed b ++ ts) ofs) (sym (and_false (is_long t)))

  word_for : (t of : VType) (ts ofs : List VType) → is_assignable h t of ≡ true → are_assignable h (type_words t ++ ts) (of ∷ ofs) ≡ are_assignable h (owed (is_long t && true) ++ ts) ofs
  word_for t of ts ofs is = one_for t of ts ofs is ∙ ap (λ (b : Bool). are_assignable h (owed b ++ ts) ofs) (sym (and_true (is_long t)))

  -- the one may stand for the other, and what remains is compared
  may_stand : (of t : VType) (ts ofs : List VType) → is_assignable h t of ≡ true → are_assignable h (type_words t ++ ts) (type_words of ++ ofs) ≡ are_assignable h (owed (is_long t && not (is_long of)) ++ ts) ofs
  may_stand vtype.Top t ts ofs is = word_for t vtype.Top ts ofs is
  may_stand vtype.Integer t ts ofs is = word_for t vtype.Integer ts ofs is
  may_stand vtype.Long t ts ofs is = both_long t ts ofs (for_long t is)
  may_stand vtype.Null t ts ofs is = word_for t vtype.Null ts ofs is
  may_stand vtype.UninitThis t ts ofs is = word_for t vtype.UninitThis ts ofs is
  may_stand (vtype.Object name) t ts ofs is = word_for t (vtype.Object name) ts ofs is
  may_stand (vtype.Uninit at) t ts ofs is = word_for t (vtype.Uninit at) ts ofs is

  heads_not : (t of : VType) (ts ofs : List VType) → is_assignable h t of ≡ false → are_assignable h (t ∷ ts) (of ∷ ofs) ≡ false
  heads_not t of ts ofs is = ap (λ (b : Bool). b && are_assignable h ts ofs) is

  begun_not : (of t : VType) (ts ofs : List VType) → is_assignable h t of ≡ false → are_assignable h (t ∷ ts) (type_words of ++ ofs) ≡ false
  begun_not vtype.Top t ts ofs is = heads_not t vtype.Top ts ofs is
  begun_not vtype.Integer t ts ofs is = heads_not t vtype.Integer ts ofs is
  begun_not vtype.Long t ts ofs is = heads_not t vtype.Long ts (vtype.Top ∷ ofs) is
  begun_not vtype.Null t ts ofs is = heads_not t vtype.Null ts ofs is
  begun_not vtype.UninitThis t ts ofs is = heads_not t vtype.UninitThis ts ofs is
  begun_not (vtype.Object name) t ts ofs is = heads_not t (vtype.Object name) ts ofs is
  begun_not (vtype.Uninit at) t ts ofs is = heads_not t (vtype.Uninit at) ts ofs is

  may_not : (t of : VType) (ts ofs : List VType) → is_assignable h t of ≡ false → are_assignable h (type_words t ++ ts) (type_words of ++ ofs) ≡ false
  may_not vtype.Top of ts ofs is = begun_not of vtype.Top ts ofs is
  may_not vtype.Integer of ts ofs is = begun_not of vtype.Integer ts ofs is
  may_not vtype.Long of ts ofs is = begun_not of vtype.Long (vtype.Top ∷ ts) ofs is
  may_not vtype.Null of ts ofs is = begun_not of vtype.Null ts ofs is
  may_not vtype.UninitThis of ts ofs is = begun_not of vtype.UninitThis ts ofs is
  may_not (vtype.Object name) of ts ofs is = begun_not of (vtype.Object name) ts ofs is
  may_not (vtype.Uninit at) of ts ofs is = begun_not of (vtype.Uninit at) ts ofs is

  -- nothing may stand for words
  none_for : (of : VType) (ofs : List VType) → are_assignable h [] (type_words of ++ ofs) ≡ false
  none_for vtype.Top ofs = refl
  none_for vtype.Integer ofs = refl
  none_for vtype.Long ofs = refl
  none_for vtype.Null ofs = refl
  none_for vtype.UninitThis ofs = refl
  none_for (vtype.Object name) ofs = refl
  none_for (vtype.Uninit at) ofs = refl

  for_none : (t : VType) (ts : List VType) → are_assignable h (type_words t ++ ts) [] ≡ false
  for_none vtype.Top ts = refl
  for_none vtype.Integer ts = refl
  for_none vtype.Long ts = refl
  for_none vtype.Null ts = refl
  for_none vtype.UninitThis ts = refl
  for_none (vtype.Object name) ts = refl
  for_none (vtype.Uninit at) ts = refl

  tops : (ts ofs : List VType) → are_assignable h (vtype.Top ∷ ts) (vtype.Top ∷ ofs) ≡ are_assignable h ts ofs
  unfolding is_assignable
  tops ts ofs = refl

  -- only what can't be used is for what can't be used
  for_top : (of : VType) → is_assignable h vtype.Top of ≡ true → of ≡ vtype.Top
  unfolding is_assignable
  for_top vtype.Top is = refl
  for_top vtype.Integer is = absurd (let never : ⊥ = cc in never)
  for_top vtype.Long is = absurd (let never : ⊥ = cc in never)
  for_top vtype.Null is = absurd (let never : ⊥ = cc in never)
  for_top vtype.UninitThis is = absurd (let never : ⊥ = cc in never)
  for_top (vtype.Object name) is = absurd (let never : ⊥ = cc in never)
  for_top (vtype.Uninit at) is = absurd (let never : ⊥ = cc in never)

  -- so far it all depends on the first ones
  pub record Compared (ts ofs : List VType) (left count : ℕ) (second : Bool) : Type 0 where
    pub within : left ≤ length ts
    pub listed : count ≤ length ofs
    pub same : are_assignable h (owed second ++ down ts left) (down ofs count) ≡ are_words_assignable h (reverse ts) (reverse ofs)

  module _ (ts ofs : List VType) where
    pub compare_begun : (left count : ℕ) → left ≡ length ts → count ≡ length ofs → Compared ts ofs left count false
    compare_begun left count all listed = record {
      within = omega arith;
      listed = omega arith;
      same = ap (λ (xs : List VType). are_assignable h (expanded (reverse xs)) (down ofs count)) (take_all left ts (omega arith))
          ∙ ap (λ (xs : List VType). are_assignable h (expanded (reverse ts)) (expanded (reverse xs))) (take_all count ofs (omega arith));
    }

    module _ (left count less : ℕ) (second : Bool) (of d : VType) (so_far : Compared ts ofs left count second) (some : 0 < count) (one_less : less ≡ count - 1) (here : of ≡ get_or ofs less d) where
      listed_next : down ofs count ≡ type_words of ++ down ofs less
      listed_next =
          let le = so_far.listed in
          let e : count ≡ less + 1 = omega arith in
          ap (λ (n : ℕ). down ofs n) e ∙ down_more ofs less d (omega arith) ∙ ap (λ (x : VType). type_words x ++ down ofs less) (sym here)

      whole : are_assignable h (owed second ++ down ts left) (type_words of ++ down ofs less) ≡ are_words_assignable h (reverse ts) (reverse ofs)
      whole = ap (λ (ws : List VType). are_assignable h (owed second ++ down ts left) ws) (sym listed_next) ∙ so_far.same

      pub second_on : second ≡ true → is_assignable h vtype.Top of ≡ true → Compared ts ofs left less false
      second_on is may =
          let le = so_far.listed in
          let top : of ≡ vtype.Top = for_top of may in
          record {
            within = so_far.within;
            listed = omega arith;
            same = sym (tops (down ts left) (down ofs less))
                ∙ ap (λ (b : Bool). are_assignable h (owed b ++ down ts left) (vtype.Top ∷ down ofs less)) (sym is)
                ∙ ap (λ (x : VType). are_assignable h (owed second ++ down ts left) (type_words x ++ down ofs less)) (sym top)
                ∙ whole;
          }

      pub second_failed : second ≡ true → is_assignable h vtype.Top of ≡ false → are_words_assignable h (reverse ts) (reverse ofs) ≡ false
      second_failed is not_top =
          sym whole ∙ ap (λ (b : Bool). are_assignable h (owed b ++ down ts left) (type_words of ++ down ofs less)) is ∙ begun_not of vtype.Top (down ts left) (down ofs less) not_top

      pub none_left : second ≡ false → left ≡ 0 → are_words_assignable h (reverse ts) (reverse ofs) ≡ false
      none_left is none =
          sym whole ∙ ap (λ (b : Bool). are_assignable h (owed b ++ down ts left) (type_words of ++ down ofs less)) is
          ∙ ap (λ (n : ℕ). are_assignable h (down ts n) (type_words of ++ down ofs less)) none ∙ none_for of (down ofs less)

      module _ (fewer : ℕ) (t c : VType) (first : second ≡ false) (any : left ≡ 0 → ⊥) (one_fewer : fewer ≡ left - 1) (there : t ≡ get_or ts fewer c) where
        typed_next : down ts left ≡ type_words t ++ down ts fewer
        typed_next =
            let le = so_far.within in
            let e : left ≡ fewer + 1 = omega arith in
            ap (λ (n : ℕ). down ts n) e ∙ down_more ts fewer c (omega arith) ∙ ap (λ (x : VType). type_words x ++ down ts fewer) (sym there)

        whole_first : are_assignable h (type_words t ++ down ts fewer) (type_words of ++ down ofs less) ≡ are_words_assignable h (reverse ts) (reverse ofs)
        whole_first =
            ap (λ (ws : List VType). are_assignable h ws (type_words of ++ down ofs less)) (sym typed_next)
            ∙ ap (λ (b : Bool). are_assignable h (owed b ++ down ts left) (type_words of ++ down ofs less)) (sym first) ∙ whole

        pub first_on : (cut : Bool) → is_assignable h t of ≡ true → cut ≡ (is_long t && not (is_long of)) → Compared ts ofs fewer less cut
        first_on cut is e =
            let le = so_far.listed in
            let lt = so_far.within in
            record {
              within = omega arith;
              listed = omega arith;
              same = ap (λ (b : Bool). are_assignable h (owed b ++ down ts fewer) (down ofs less)) e ∙ sym (may_stand of t (down ts fewer) (down ofs less) is) ∙ whole_first;
            }

        pub first_failed : is_assignable h t of ≡ false → are_words_assignable h (reverse ts) (reverse ofs) ≡ false
        first_failed is = sym whole_first ∙ may_not t of (down ts fewer) (down ofs less) is

    module _ (left count : ℕ) (second : Bool) (so_far : Compared ts ofs left count second) (none : count ≡ 0) where
      ended : are_assignable h (owed second ++ down ts left) [] ≡ are_words_assignable h (reverse ts) (reverse ofs)
      ended = ap (λ (n : ℕ). are_assignable h (owed second ++ down ts left) (down ofs n)) (sym none) ∙ so_far.same

      pub compare_over : left ≡ 0 → second ≡ false → are_words_assignable h (reverse ts) (reverse ofs) ≡ true
      compare_over all is = sym ended ∙ ap (λ (b : Bool). are_assignable h (owed b ++ down ts left) []) is ∙ ap (λ (n : ℕ). are_assignable h (down ts n) []) all

      pub second_over : second ≡ true → are_words_assignable h (reverse ts) (reverse ofs) ≡ false
      second_over is = sym ended ∙ ap (λ (b : Bool). are_assignable h (owed b ++ down ts left) []) is

      pub more_left : (d : VType) → second ≡ false → (left ≡ 0 → ⊥) → are_words_assignable h (reverse ts) (reverse ofs) ≡ false
      more_left d is any =
          let le = so_far.within in
          let e : left ≡ (left - 1) + 1 = omega arith in
          sym ended ∙ ap (λ (b : Bool). are_assignable h (owed b ++ down ts left) []) is
          ∙ ap (λ (n : ℕ). are_assignable h (down ts n) []) e ∙ ap (λ (ws : List VType). are_assignable h ws []) (down_more ts (left - 1) d (omega arith))
          ∙ for_none (get_or ts (left - 1) d) (down ts (left - 1))

    pub over_none : (left count : ℕ) (second : Bool) → Compared ts ofs left count second → count ≡ 0 → left ≡ 0 → not second ≡ are_words_assignable h (reverse ts) (reverse ofs)
    over_none left count true so_far none all = sym (second_over left count true so_far none refl)
    over_none left count false so_far none all = sym (compare_over left count false so_far none all refl)

    pub over_some : (left count : ℕ) (second : Bool) → Compared ts ofs left count second → count ≡ 0 → (left ≡ 0 → ⊥) → false ≡ are_words_assignable h (reverse ts) (reverse ofs)
    over_some left count true so_far none any = sym (second_over left count true so_far none refl)
    over_some left count false so_far none any = sym (more_left left count false so_far none vtype.Top refl any)

-- ---- words

pub some_words : (t : VType) → 0 < length (type_words t)
some_words vtype.Top = omega arith
some_words vtype.Integer = omega arith
some_words vtype.Long = omega arith
some_words vtype.Null = omega arith
some_words vtype.UninitThis = omega arith
some_words (vtype.Object name) = omega arith
some_words (vtype.Uninit at) = omega arith

pub filled_length : (n : ℕ) (ls : List VType) → length (expanded ls) ≤ n → length (filled n ls) ≡ n
filled_length n ls le =
    let e = length-append (expanded ls) (replicate (n - length (expanded ls)) vtype.Top) in
    let r = length-replicate (n - length (expanded ls)) vtype.Top in
    omega arith
