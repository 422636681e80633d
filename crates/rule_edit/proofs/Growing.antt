-- A pool that constants are needed of only grows at its end.
use Rattle.std.proofs.Common.{◌≡◌, ◌∙◌, ℕ, List, [], ◌∷◌, ◌++◌, ◌+◌, length, Option, Some, None, refl, sym, ap, append_assoc, append-nil}
use Rattle.jv_names.specs.Names.{Name}
use Rattle.ti_ids.specs.Maybe.{◌>>=◌}
use Rattle.class_tree.specs.declared.pool.Const.{Const}
use Rattle.class_tree.specs.declared.pool.Const.TheVariants as const
use Rattle.rule_edit.specs.Constants.{Makes, Constant, Utf8, Integer, Long, Class, Text, NameType, Field, Method, InterfaceMethod, plain, given, appended, found, or_made, text_index, class_index, pair_index, reference_made, made_index, index_of}

-- the pool then begins with what it was
abbrev pub Grew : List Const → List Const → Type 0
Grew pool after = (more : List Const) × (after ≡ pool ++ more)

abbrev pub Grows : {A : Type 0} → Makes A → Type 0
Grows {A} makes = (pool : List Const) (made : A × List Const) → makes pool ≡ Some made → Grew pool made.1

pub same_made : {A : Type 0} (a b : A) → Some a ≡ Some b → a ≡ b
same_made a b is = cc

grew_on : (a b c : List Const) → Grew a b → Grew b c → Grew a c
grew_on a b c first second = (first.0 ++ second.0, second.1 ∙ ap (λ pool. pool ++ second.0) first.1 ∙ append_assoc a first.0 second.0)

grows_plain : {A : Type 0} (x : A) → Grows (plain x)
grows_plain x pool made is = ([], ap (λ m. m.1) (sym (same_made (x, pool) made is)) ∙ sym (append-nil pool))

grows_appended : (entries : List Const) → Grows (appended entries)
grows_appended entries pool made is = (entries, ap (λ m. m.1) (sym (same_made (length pool + 1, pool ++ entries) made is)))

module _ {A B : Type 0} (makes : Makes A) (go : A → Makes B) where
  grows_given : Grows makes → ((x : A) → Grows (go x)) → Grows (given makes go)
  grows_given first second pool made is = by (makes pool) refl is
    where
      by : (is_made : Option (A × List Const)) → makes pool ≡ is_made → (is_made >>= λ m. go m.0 m.1) ≡ Some made → Grew pool made.1
      by None at is = absurd cc
      by (Some m) at is = grew_on pool m.1 made.1 (first pool m at) (second m.0 m.1 made is)

grows_or : (constant : Constant) (makes : Makes ℕ) → Grows makes → Grows (or_made constant makes)
grows_or constant makes grows pool made is = by (found pool constant) is
  where
    by : (at : Option ℕ) → elim at [ Some index ↦ Some (index, pool) | None ↦ makes pool ] ≡ Some made → Grew pool made.1
    by (Some index) is = ([], ap (λ m. m.1) (sym (same_made (index, pool) made is)) ∙ sym (append-nil pool))
    by None is = grows pool made is

grows_text : (text : Name) → Grows (text_index text)
grows_text text = grows_or (Utf8 text) (appended (const.Utf8 text ∷ [])) (grows_appended (const.Utf8 text ∷ []))

grows_class : (name : Name) → Grows (class_index name)
grows_class name =
    let go = λ (text : ℕ). appended (const.Class text ∷ []) in
    grows_or (Class name) (given (text_index name) go) (grows_given (text_index name) go (grows_text name) (λ text. grows_appended (const.Class text ∷ [])))

grows_pair : (name desc : Name) → Grows (pair_index name desc)
grows_pair name desc =
    let last = λ (n d : ℕ). appended (const.NameType n d ∷ []) in
    let go = λ (n : ℕ). given (text_index desc) (last n) in
    grows_or (NameType name desc) (given (text_index name) go) (grows_given (text_index name) go (grows_text name)
    (λ n. grows_given (text_index desc) (last n) (grows_text desc) (λ d. grows_appended (const.NameType n d ∷ []))))

grows_reference : (kind : ℕ → ℕ → Const) (class name desc : Name) → Grows (reference_made kind class name desc)
grows_reference kind class name desc =
    let last = λ (c p : ℕ). appended (kind c p ∷ []) in
    let go = λ (c : ℕ). given (pair_index name desc) (last c) in
    grows_given (class_index class) go (grows_class class)
    (λ c. grows_given (pair_index name desc) (last c) (grows_pair name desc) (λ p. grows_appended (kind c p ∷ [])))

grows_made : (constant : Constant) → Grows (made_index constant)
grows_made (Utf8 text) = grows_text text
grows_made (Integer n) = grows_appended (const.Integer n ∷ [])
grows_made (Long n) = grows_appended (const.Long n ∷ const.Unused ∷ [])
grows_made (Class name) = grows_class name
grows_made (Text text) =
    let go = λ (t : ℕ). appended (const.Text t ∷ []) in
    grows_given (text_index text) go (grows_text text) (λ t. grows_appended (const.Text t ∷ []))
grows_made (NameType name desc) = grows_pair name desc
grows_made (Field class name desc) = grows_reference const.Field class name desc
grows_made (Method class name desc) = grows_reference const.Method class name desc
grows_made (InterfaceMethod class name desc) = grows_reference const.InterfaceMethod class name desc

pub index_grows : (constant : Constant) → Grows (index_of constant)
index_grows constant = grows_or constant (made_index constant) (grows_made constant)
