-- Entries that are held by their names: where a name is, one entry more, and a change of one.
use Rattle.std.proofs.Common.{◌≡◌, ℕ, zero, suc, Bool, true, false, List, [], ◌∷◌, ◌++◌, map, nat_eq, refl, sym, ap, ◌∙◌, Some, None, arith}
use Rattle.std.specs.Prelude.{Result, Ok, Err, OnOk, OnErr, position, slice_get, bytes_eq}
use Rattle.std.specs.Map.{keys_of, values_of, lookup}
use Rattle.std.specs.Cmp.Lexicographic.{pointwise}
use Rattle.std.specs.Global.{Vec}
use Rattle.std.proofs.lemmas.Bool.{cond-false}
use Rattle.std.proofs.lemmas.Bool.Decides.{nat_tests}
use Rattle.std.proofs.lemmas.List.{map-append}
use Rattle.indexmap.specs.IndexMap.{set_value_at}
use Rattle.jv_names.specs.Names.{Name}
use Rattle.link_versions.specs.declared.class.Entry.{Entry}
use Rattle.link_versions.specs.declared.class.Version.{Version}
use Rattle.link_versions.specs.Entries.{has_name, AreKeyed, with_added, changed_at}
use Rattle.link_versions.proofs.Named.{position-map}

abbrev pub Keyed : Type 0
Keyed = Vec ℕ × Entry

-- ---- where a name is

pub place_of_name : (es : List Keyed) (name : Name) → AreKeyed es → position (λ k. pointwise nat_eq name k.items) (keys_of es) ≡ position (has_name name) (values_of es)
place_of_name es name keyed =
    position-map (λ (k : Vec ℕ). pointwise nat_eq name k.items) (λ (p : Keyed). p.0) es ∙ sym (position-map (bytes_eq name) (λ (p : Keyed). p.0.items) es)
    ∙ ap (position (bytes_eq name)) keyed ∙ position-map (bytes_eq name) (λ (p : Keyed). p.1.name) es ∙ sym (position-map (has_name name) (λ (p : Keyed). p.1) es)

not_first : {A : Type 0} (p : A → Bool) (x : A) (xs : List A) → p x ≡ true → position p (x ∷ xs) ≡ None → ⊥
not_first p x xs t none = absurd (grind (arith, nat_tests))

none_later : {A : Type 0} (p : A → Bool) (x : A) (xs : List A) → p x ≡ false → position p (x ∷ xs) ≡ None → position p xs ≡ None
none_later p x xs t none = grind (arith, nat_tests)

pub no_key : (es : List Keyed) (name : Name) → AreKeyed es → position (has_name name) (values_of es) ≡ None → lookup (λ k. bytes_eq name k.items) es ≡ None
no_key [] name keyed none = refl
no_key (p ∷ es) name keyed none =
    let here : p.0.items ≡ p.1.name = cc in
    let rest : AreKeyed es = cc in
    by (bytes_eq name p.1.name) refl here (λ later. no_key es name rest later)
  where
    by : (b : Bool) → bytes_eq name p.1.name ≡ b → p.0.items ≡ p.1.name → (position (has_name name) (values_of es) ≡ None → lookup (λ k. bytes_eq name k.items) es ≡ None)
        → lookup (λ k. bytes_eq name k.items) (p ∷ es) ≡ None
    by true t here rest = absurd (not_first (has_name name) p.1 (values_of es) t none)
    by false t here rest = cond-false (bytes_eq name p.0.items) (Some p.1) (lookup (λ k. bytes_eq name k.items) es) (ap (bytes_eq name) here ∙ t) ∙ rest (none_later (has_name name) p.1 (values_of es) t none)

-- ---- one more

pub AreKeyed-push : (es : List Keyed) (key : Vec ℕ) (e : Entry) → AreKeyed es → key.items ≡ e.name → AreKeyed (es ++ (key, e) ∷ [])
AreKeyed-push es key e keyed named =
    map-append (λ (p : Keyed). p.0.items) es ((key, e) ∷ []) ∙ (λ i. keyed i ++ named i ∷ []) ∙ sym (map-append (λ (p : Keyed). p.1.name) es ((key, e) ∷ []))

pub values_of-push : (es : List Keyed) (key : Vec ℕ) (e : Entry) → values_of (es ++ (key, e) ∷ []) ≡ values_of es ++ e ∷ []
values_of-push es key e = map-append (λ (p : Keyed). p.1) es ((key, e) ∷ [])

-- ---- another in the place of one

keys_stay : (es : List Keyed) (i : ℕ) (e : Entry) → map (λ p. p.0.items) (set_value_at es i e) ≡ map (λ p. p.0.items) es
keys_stay [] i e = refl
keys_stay (p ∷ es) zero e = refl
keys_stay (p ∷ es) (suc i) e = ap (λ l. p.0.items ∷ l) (keys_stay es i e)

names_stay : (es : List Keyed) (i : ℕ) (old new : Entry) → slice_get (values_of es) i ≡ Some old → new.name ≡ old.name → map (λ p. p.1.name) (set_value_at es i new) ≡ map (λ p. p.1.name) es
names_stay [] i old new at same = refl
names_stay (p ∷ es) zero old new at same =
    let here : p.1 ≡ old = cc in
    ap (λ l. l ∷ map (λ (q : Keyed). q.1.name) es) (same ∙ sym (ap (λ (d : Entry). d.name) here))
names_stay (p ∷ es) (suc i) old new at same = ap (λ l. p.1.name ∷ l) (names_stay es i old new at same)

pub AreKeyed-set : (es : List Keyed) (i : ℕ) (old new : Entry) → AreKeyed es → slice_get (values_of es) i ≡ Some old → new.name ≡ old.name → AreKeyed (set_value_at es i new)
AreKeyed-set es i old new keyed at same = keys_stay es i new ∙ keyed ∙ sym (names_stay es i old new at same)

pub values_of-changed : (f : Entry → Entry) (es : List Keyed) (i : ℕ) (e : Entry) → slice_get (values_of es) i ≡ Some e → values_of (set_value_at es i (f e)) ≡ changed_at f (values_of es) i
values_of-changed f [] i e at = refl
values_of-changed f (p ∷ es) zero e at =
    let here : p.1 ≡ e = cc in
    ap (λ d. f d ∷ values_of es) (sym here)
values_of-changed f (p ∷ es) (suc i) e at = ap (λ l. p.1 ∷ l) (values_of-changed f es i e at)

pub values_of-same : (es : List Keyed) (i : ℕ) (e : Entry) → slice_get (values_of es) i ≡ Some e → values_of (set_value_at es i e) ≡ values_of es
values_of-same [] i e at = refl
values_of-same (p ∷ es) zero e at =
    let here : p.1 ≡ e = cc in
    ap (λ d. d ∷ values_of es) (sym here)
values_of-same (p ∷ es) (suc i) e at = ap (λ l. p.1 ∷ l) (values_of-same es i e at)

-- ---- a version more, or want of memory

module _ {T E : Type 0} (r : Result T E) (v : Version) (e d : Entry) where
  pub name_stays : OnOk r (d ≡ with_added v e) → OnErr r (d ≡ e) → d.name ≡ e.name
  name_stays ok err = by r ok err
    where
      by : (r : Result T E) → OnOk r (d ≡ with_added v e) → OnErr r (d ≡ e) → d.name ≡ e.name
      by (Ok x) ok err = ap (λ (k : Entry). k.name) ok
      by (Err x) ok err = ap (λ (k : Entry). k.name) err

  pub values_of-added : (es : List Keyed) (i : ℕ) → slice_get (values_of es) i ≡ Some e → OnOk r (d ≡ with_added v e) → OnOk r (values_of (set_value_at es i d) ≡ changed_at (with_added v) (values_of es) i)
  values_of-added es i at ok = by r ok
    where
      by : (r : Result T E) → OnOk r (d ≡ with_added v e) → OnOk r (values_of (set_value_at es i d) ≡ changed_at (with_added v) (values_of es) i)
      by (Ok x) ok = ap (λ k. values_of (set_value_at es i k)) ok ∙ values_of-changed (with_added v) es i e at
      by (Err x) ok = tt

  pub values_of-kept : (es : List Keyed) (i : ℕ) → slice_get (values_of es) i ≡ Some e → OnErr r (d ≡ e) → OnErr r (values_of (set_value_at es i d) ≡ values_of es)
  values_of-kept es i at err = by r err
    where
      by : (r : Result T E) → OnErr r (d ≡ e) → OnErr r (values_of (set_value_at es i d) ≡ values_of es)
      by (Ok x) err = tt
      by (Err x) err = ap (λ k. values_of (set_value_at es i k)) err ∙ values_of-same es i e at
