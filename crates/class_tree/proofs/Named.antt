-- The test of a member's name and descriptor, and the place of the first member that passes.
use Rattle.std.proofs.Common.{◌≡◌, ℕ, Bool, not, List, [], ◌∷◌, length, get_or, Option, Some, None, refl, sym, ap, ◌≤◌, arith}
use Rattle.std.specs.Prelude.{position, All, IfSome, IsNone, slice_get}
use Rattle.std.specs.Bool.{Decides}
use Rattle.std.specs.List.{position_or_len}
use Rattle.std.proofs.lemmas.Bool.{false≢true}
use Rattle.std.proofs.lemmas.Bool.Decides.{Decides-and, nat_tests}
use Rattle.std.proofs.lemmas.Slice.Eq.{bytes_eq-Decides}
use Rattle.std.proofs.lemmas.Option.{slice_get-get_or}
use Rattle.std.proofs.lemmas.List.Sums.{prefix_len_passes}
use Rattle.std.proofs.lemmas.List.Quantifiers.{position-Some}
use Rattle.jv_names.specs.Names.{Name}
use Rattle.class_tree.specs.declared.pool.Const.{Const}
use Rattle.class_tree.specs.declared.members.Member.{Member}
use Rattle.class_tree.specs.Tree.{text_at, is_text, is_named, IsNamed, IsNamedAt}

text_is : (found : Option Name) (text : Name) → Decides (is_text found text) (found ≡ Some text)
text_is None text = (λ e. absurd (false≢true e), λ e. absurd cc)
text_is (Some found) text = let d = bytes_eq-Decides found text in (λ e. ap Some (d.0 e), λ e. d.1 (cc))

named_is : (pool : List Const) (name desc : Name) (m : Member) → Decides (is_named pool name desc m) (IsNamed pool name desc m)
named_is pool name desc m = Decides-and _ _ (text_is (text_at pool m.name) name) (text_is (text_at pool m.desc) desc)

none_passes : {X : Type 0} (p : X → Bool) (P : X → Type 0) → ((x : X) → Decides (p x) (P x)) → (xs : List X) → IsNone (position p xs) → All (λ x. ¬ P x) xs
none_passes p P each xs none k d h is =
    let all : length xs ≤ position_or_len p xs = grind (arith, nat_tests) in
    let passes = prefix_len_passes (λ x. not (p x)) xs k d (omega arith) in
    absurd (let yes = (each (get_or xs k d)).1 is in cc)

is_none : {X : Type 0} (p : X → Bool) (P : X → Type 0) → ((x : X) → Decides (p x) (P x)) → (xs : List X) (at : Option ℕ) → at ≡ position p xs
    → All (λ x. ¬ P x) xs → IsNone at
is_none p P each xs None e none = refl
is_none p P each [] (Some i) e none = absurd cc
is_none p P each (x ∷ xs) (Some i) e none =
    let found = position-Some p (x ∷ xs) i x (sym e) in
    absurd (none i x found.0 ((each (get_or (x ∷ xs) i x)).0 found.1))

passes_there : {X : Type 0} (p : X → Bool) (P : X → Type 0) → ((x : X) → Decides (p x) (P x)) → (xs : List X) (at : Option ℕ) → at ≡ position p xs
    → IfSome at (λ i. (x : X) × (slice_get xs i ≡ Some x) × P x)
passes_there p P each xs None e = tt
passes_there p P each [] (Some i) e = absurd cc
passes_there p P each (x ∷ xs) (Some i) e =
    let found = position-Some p (x ∷ xs) i x (sym e) in
    let there = get_or (x ∷ xs) i x in
    (there, slice_get-get_or (x ∷ xs) i x found.0, (each there).0 found.1)

pub found_is : (pool : List Const) (name desc : Name) (members : List Member) (at : Option ℕ) → at ≡ position (is_named pool name desc) members
    → IfSome at (IsNamedAt pool name desc members)
found_is pool name desc members at e =
    passes_there (is_named pool name desc) (IsNamed pool name desc) (named_is pool name desc) members at e

pub absent_is : (pool : List Const) (name desc : Name) (members : List Member) (at : Option ℕ) → at ≡ position (is_named pool name desc) members
    → (IsNone at → All (λ m. ¬ IsNamed pool name desc m) members) × (All (λ m. ¬ IsNamed pool name desc m) members → IsNone at)
absent_is pool name desc members at e =
    let P : Member → Type 0 = IsNamed pool name desc in (
      λ none. none_passes (is_named pool name desc) P (named_is pool name desc) members (rw (← e) none),
      λ none. is_none (is_named pool name desc) P (named_is pool name desc) members at e none,
    )
