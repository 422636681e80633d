-- Texts that are cut at a unit which their pieces lack.
use Rattle.std.proofs.Common.{◌≡◌, ◌∙◌, ℕ, Bool, true, false, not, ◌&&◌, eqb, leb, List, [], ◌∷◌, ◌++◌, refl, ap, arith, append_assoc}
use Rattle.std.specs.Prelude.{flat_map}
use Rattle.std.specs.List.{list_all}
use Rattle.std.proofs.lemmas.Bool.{leb-true}
use Rattle.std.proofs.lemmas.Bool.Decides.{Decides-eqb}
use Rattle.std.proofs.lemmas.List.Folds.{list_all-append}
use Rattle.jv_names.specs.Names.{Name, is_visible, parts, printed}
use Rattle.jv_names.proofs.Printing.{printed-visible}
use Rattle.report_text.specs.Texts.{line}

pub both : (a b : Bool) → (a && b) ≡ true → (a ≡ true) × (b ≡ true)
both true true e = (refl, refl)
both true false e = absurd cc
both false b e = absurd cc

pub differs : (u s : ℕ) → (u ≡ s → ⊥) → not (eqb u s) ≡ true
differs u s other = elim (eqb u s) as (λ b. eqb u s ≡ b → not b ≡ true) [ true ↦ λ e. absurd (other ((Decides-eqb u s).0 e)) | false ↦ λ e. refl ] refl

-- no unit of the text is this one
abbrev pub lacks : ℕ → List ℕ → Bool
lacks separator text = list_all (λ u. not (eqb u separator)) text

pub lacks-append : (s : ℕ) (x y : List ℕ) → lacks s x ≡ true → lacks s y ≡ true → lacks s (x ++ y) ≡ true
lacks-append s x y h k = list_all-append (λ u. not (eqb u s)) x y ∙ rw (h, k) refl

-- a text that passes a test lacks a unit that fails it
pub lacks-tested : (test : ℕ → Bool) (s : ℕ) (text : List ℕ) → ((u : ℕ) → test u ≡ true → not (eqb u s) ≡ true) → list_all test text ≡ true → lacks s text ≡ true
lacks-tested test s [] other h = refl
lacks-tested test s (u ∷ text) other h =
    let k = both (test u) (list_all test text) h in
    let front = other u k.0 in rw (front, lacks-tested test s text other k.1) refl

no_feed : (u : ℕ) → is_visible u ≡ true → not (eqb u 10) ≡ true
no_feed u h = let k = leb-true 33 u (both (leb 33 u) (leb u 126) h).0 in differs u 10 (λ e. omega arith)

-- a printed name is one line
pub lacks-printed : (name : Name) → lacks 10 (printed name) ≡ true
lacks-printed name = lacks-tested is_visible 10 (printed name) no_feed (printed-visible name)

pub parts-then : (s : ℕ) (x rest : List ℕ) → lacks s x ≡ true → eqb s s ≡ true → parts s (x ++ s ∷ rest) ≡ x ∷ parts s rest
parts-then s [] rest h same = rw same refl
parts-then s (u ∷ x) rest h same =
    let k = both (not (eqb u s)) (lacks s x) h in
    elim (eqb u s) as (λ b. eqb u s ≡ b → not b ≡ true → parts s ((u ∷ x) ++ s ∷ rest) ≡ (u ∷ x) ∷ parts s rest) [
      | true ↦ λ e n. absurd cc
      | false ↦ λ e n. rw (e, parts-then s x rest k.1 same) refl
    ] refl k.0

pub parts-last : (s : ℕ) (x : List ℕ) → lacks s x ≡ true → parts s x ≡ x ∷ []
parts-last s [] h = refl
parts-last s (u ∷ x) h =
    let k = both (not (eqb u s)) (lacks s x) h in
    elim (eqb u s) as (λ b. eqb u s ≡ b → not b ≡ true → parts s (u ∷ x) ≡ (u ∷ x) ∷ []) [
      | true ↦ λ e n. absurd cc
      | false ↦ λ e n. rw (e, parts-last s x k.1) refl
    ] refl k.0

-- the first of some lines
pub parts-line : (x : List ℕ) (texts : List (List ℕ)) → lacks 10 x ≡ true → parts 10 (flat_map line (x ∷ texts)) ≡ x ∷ parts 10 (flat_map line texts)
parts-line x texts h = ap (parts 10) (append_assoc x (10 ∷ []) (flat_map line texts)) ∙ parts-then 10 x (flat_map line texts) h refl
