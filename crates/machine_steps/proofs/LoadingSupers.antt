-- A class is loaded only when its superclass and its superinterfaces are there. What a need goes through, from the class that is wanted to
-- the one that is loaded, are classes of files that differ, as none is its own ancestor: so they are no more than there are files.
use Rattle.base_set.specs.BaseSet.{BaseClass, base_set, has_name}
use Rattle.base_set.specs.BaseTrees.{base_tree}
use Rattle.class_tree.specs.Trees.{Tree}
use Rattle.jv_names.specs.Names.{Name}
use Rattle.link_versions.specs.Classes.{Class, number_of}
use Rattle.machine_state.specs.Core.{Core, failure_of}
use Rattle.machine_state.specs.Jobs.{File, Job, bytes_of}
use Rattle.machine_state.specs.Linked.{tree_of}
use Rattle.machine_steps.specs.LawfulClasses.{HasBaseClasses, LoadsSupersFirst}
use Rattle.machine_steps.specs.Loading.{Load, Loads, Met, Refuses, Repeats, above_within, after_supers, first_unmet, given_tree, is_circular, is_crossed, load_of_failed, load_of_given, load_within, supers_of}
use Rattle.machine_steps.specs.World.{World}
use Rattle.std.proofs.Common.{Bool, List, None, Option, Some, [], ap, arith, cond, false, inl, inr, length, map, refl, subst, suc, sym, true, zero, ℕ, ◌++◌, ◌+◌, ◌-◌, ◌||◌, ◌∙◌, ◌∷◌, ◌≡◌, ◌≤◌, ◌⊎◌}
use Rattle.std.proofs.lemmas.List.{length-map}
use Rattle.std.proofs.lemmas.Slice.Eq.{bytes_eq-Decides}
use Rattle.std.specs.List.{AllByRecursion, list_any}
use Rattle.std.specs.Option.{option_and_then, option_or}
use Rattle.std.specs.Prelude.{IsSome, bytes_eq, find, flat_map, is_some, option_map, unwrap_or}
use Rattle.ti_ids.specs.declared.number.ClassNo.{ClassNo}

-- ---- names in a list

abbrev pub IsIn : Name → List Name → Type 0
IsIn x [] = ⊥
IsIn x (y ∷ ys) = (x ≡ y) ⊎ IsIn x ys

pub same_true : (x : Name) → bytes_eq x x ≡ true
same_true x = (bytes_eq-Decides x x).1 refl

or_true : (a b : Bool) → b ≡ true → (a || b) ≡ true
or_true true b e = refl
or_true false b e = e

pub in_any : (x : Name) (ys : List Name) → IsIn x ys → list_any (bytes_eq x) ys ≡ true
in_any x [] h = absurd h
in_any x (y ∷ ys) (inl same) = rw (sym same, same_true x) refl
in_any x (y ∷ ys) (inr h) = or_true (bytes_eq x y) (list_any (bytes_eq x) ys) (in_any x ys h)

in_first : (x : Name) (xs ys : List Name) → IsIn x xs → IsIn x (xs ++ ys)
in_first x [] ys h = absurd h
in_first x (z ∷ xs) ys (inl same) = inl same
in_first x (z ∷ xs) ys (inr h) = inr (in_first x xs ys h)

pub in_second : (x : Name) (xs ys : List Name) → IsIn x ys → IsIn x (xs ++ ys)
in_second x [] ys h = h
in_second x (z ∷ xs) ys h = inr (in_second x xs ys h)

in_append : (x : Name) (xs ys : List Name) → IsIn x (xs ++ ys) → IsIn x xs ⊎ IsIn x ys
in_append x [] ys h = inr h
in_append x (z ∷ xs) ys (inl same) = inl (inl same)
in_append x (z ∷ xs) ys (inr h) = by (in_append x xs ys h)
  where
    by : IsIn x xs ⊎ IsIn x ys → IsIn x (z ∷ xs) ⊎ IsIn x ys
    by (inl k) = inl (inr k)
    by (inr k) = inr k

-- what comes of each member's list, comes of all of them together
flat_in : (f g : Name → List Name) (x z : Name) (ys : List Name) → ((y : Name) → IsIn x (f y) → IsIn z (g y)) → IsIn x (flat_map f ys)
    → IsIn z (flat_map g ys)
flat_in f g x z [] more h = absurd h
flat_in f g x z (y ∷ ys) more h = by (in_append x (f y) (flat_map f ys) h) (flat_in f g x z ys more)
  where
    by : IsIn x (f y) ⊎ IsIn x (flat_map f ys) → (IsIn x (flat_map f ys) → IsIn z (flat_map g ys)) → IsIn z (g y ++ flat_map g ys)
    by (inl k) rest = in_first z (g y) (flat_map g ys) (more y k)
    by (inr k) rest = in_second z (g y) (flat_map g ys) (rest k)

of_member : (g : Name → List Name) (x y : Name) (ys : List Name) → IsIn y ys → IsIn x (g y) → IsIn x (flat_map g ys)
of_member g x y [] there h = absurd there
of_member g x y (z ∷ ys) (inl same) h =
    in_first x (g z) (flat_map g ys) (subst (λ (n : Name). IsIn x (g n)) same h)
of_member g x y (z ∷ ys) (inr there) h = in_second x (g z) (flat_map g ys) (of_member g x y ys there h)

-- ---- names that differ are no more than those they are among

abbrev AreApart : List Name → Type 0
AreApart [] = Unit {0}
AreApart (x ∷ xs) = (IsIn x xs → ⊥) × AreApart xs

without : (x : Name) (ys : List Name) → IsIn x ys → List Name
without x [] h = []
without x (y ∷ ys) (inl same) = ys
without x (y ∷ ys) (inr h) = y ∷ without x ys h

without_length : (x : Name) (ys : List Name) (h : IsIn x ys) → suc (length (without x ys h)) ≡ length ys
unfolding without
without_length x [] h = absurd h
without_length x (y ∷ ys) (inl same) = refl
without_length x (y ∷ ys) (inr h) = ap (λ (n : ℕ). suc n) (without_length x ys h)

in_without : (x z : Name) (ys : List Name) (h : IsIn x ys) → (z ≡ x → ⊥) → IsIn z ys → IsIn z (without x ys h)
unfolding without
in_without x z [] h other there = absurd h
in_without x z (y ∷ ys) (inl same) other (inl is) = absurd (other (is ∙ sym same))
in_without x z (y ∷ ys) (inl same) other (inr there) = there
in_without x z (y ∷ ys) (inr h) other (inl is) = inl is
in_without x z (y ∷ ys) (inr h) other (inr there) = inr (in_without x z ys h other there)

no_more : (xs ys : List Name) → AreApart xs → ((x : Name) → IsIn x xs → IsIn x ys) → length xs ≤ length ys
no_more [] ys apart among = omega arith
no_more (x ∷ xs) ys apart among =
    let here : IsIn x ys = among x (inl refl) in
    let rest : length xs ≤ length (without x ys here) =
    no_more xs (without x ys here) apart.1
    (λ z there. in_without x z ys here (λ same. apart.0 (subst (λ (n : Name). IsIn n xs) same there)) (among z (inr there))) in
    omega (arith, rest, without_length x ys here)

-- ---- what lies above

module _ (job : Job) where
  -- one level more has all that lies above
  more_above : (n : ℕ) (x p : Name) → IsIn x (above_within job n p) → IsIn x (above_within job (suc n) p)
  more_above zero x p h = absurd h
  more_above (suc n) x p h = by (in_append x (supers_of job p) (flat_map (above_within job n) (supers_of job p)) h) (more_above n x)
    where
      by : IsIn x (supers_of job p) ⊎ IsIn x (flat_map (above_within job n) (supers_of job p))
          → ((y : Name) → IsIn x (above_within job n y) → IsIn x (above_within job (suc n) y)) → IsIn x (above_within job (suc (suc n)) p)
      by (inl k) more = in_first x (supers_of job p) (flat_map (above_within job (suc n)) (supers_of job p)) k
      by (inr k) more =
          in_second x (supers_of job p) (flat_map (above_within job (suc n)) (supers_of job p))
          (flat_in (above_within job n) (above_within job (suc n)) x x (supers_of job p) more k)

  many_above : (n more all : ℕ) (x p : Name) → all ≡ n + more → IsIn x (above_within job n p) → IsIn x (above_within job all p)
  many_above n zero all x p is h =
      let same : n ≡ all = omega (arith, is) in subst (λ (d : ℕ). IsIn x (above_within job d p)) same h
  many_above n (suc more) zero x p is h = absurd (let bad : suc n ≤ n = omega (arith, is) in omega (arith, bad))
  many_above n (suc more) (suc all) x p is h = more_above all x p (many_above n more all x p (omega (arith, is)) h)

  -- and what lies above that
  next_above : (n : ℕ) (x z p : Name) → IsIn x (above_within job n p) → IsIn z (supers_of job x) → IsIn z (above_within job (suc n) p)
  next_above zero x z p h k = absurd h
  next_above (suc n) x z p h k =
      by (in_append x (supers_of job p) (flat_map (above_within job n) (supers_of job p)) h) (λ y i. next_above n x z y i k)
    where
      by : IsIn x (supers_of job p) ⊎ IsIn x (flat_map (above_within job n) (supers_of job p))
          → ((y : Name) → IsIn x (above_within job n y) → IsIn z (above_within job (suc n) y)) → IsIn z (above_within job (suc (suc n)) p)
      by (inl there) more =
          in_second z (supers_of job p) (flat_map (above_within job (suc n)) (supers_of job p))
          (of_member (above_within job (suc n)) z x (supers_of job p) there
          (in_first z (supers_of job x) (flat_map (above_within job n) (supers_of job x)) k))
      by (inr there) more =
          in_second z (supers_of job p) (flat_map (above_within job (suc n)) (supers_of job p))
          (flat_in (above_within job n) (above_within job (suc n)) x z (supers_of job p) more there)

  -- the classes below, of which the nearest is the first, have this name above them, so many levels away
  abbrev Reaches : ℕ → List Name → Name → Type 0
  Reaches n [] name = Unit {0}
  Reaches n (p ∷ path) name = IsIn name (above_within job n p) × Reaches (suc n) path name

  reaches_next : (n : ℕ) (path : List Name) (x z : Name) → Reaches n path x → IsIn z (supers_of job x) → Reaches (suc n) path z
  reaches_next n [] x z h k = tt
  reaches_next n (p ∷ path) x z h k = (next_above n x z p h.0 k, reaches_next (suc n) path x z h.1 k)

  -- one of them is its own ancestor
  own_above : (n : ℕ) (path : List Name) (x : Name) → Reaches n path x → IsIn x path → (most : ℕ) → n + length path ≤ suc most
      → IsIn x (above_within job most x)
  own_above n [] x h there most few = absurd there
  own_above n (p ∷ path) x h (inl same) most few =
      let is : most ≡ n + (most - n) = omega (arith, few) in
      many_above n (most - n) most x x is (subst (λ (q : Name). IsIn x (above_within job n q)) (sym same) h.0)
  own_above n (p ∷ path) x h (inr there) most few = own_above (suc n) path x h.1 there most (omega (arith, few))

-- ---- the first need that isn't met

all_met : (of : Name → Load) (zs : List Name) → first_unmet (map of zs) ≡ None → (z : Name) → IsIn z zs → of z ≡ Met
all_met of [] e z h = absurd h
all_met of (y ∷ ys) e z h = by (of y) refl e h (λ e there. all_met of ys e z there)
  where
    by : (load : Load) → of y ≡ load → first_unmet (load ∷ map of ys) ≡ None → IsIn z (y ∷ ys)
        → (first_unmet (map of ys) ≡ None → IsIn z ys → of z ≡ Met) → of z ≡ Met
    by Met is e (inl same) rest = ap of same ∙ is
    by Met is e (inr there) rest = rest e there
    by (Loads name) is e h rest = absurd cc
    by (Refuses name error) is e h rest = absurd cc
    by (Repeats error) is e h rest = absurd cc

record IsOneOf (of : Name → Load) (zs : List Name) (load : Load) : Type 0 where
  name : Name
  there : IsIn name zs
  is : of name ≡ load

some_unmet : (of : Name → Load) (zs : List Name) (load : Load) → first_unmet (map of zs) ≡ Some load → IsOneOf of zs load
some_unmet of [] load e = absurd cc
some_unmet of (y ∷ ys) load e = by (of y) refl e (some_unmet of ys load)
  where
    by : (first : Load) → of y ≡ first → first_unmet (first ∷ map of ys) ≡ Some load
        → (first_unmet (map of ys) ≡ Some load → IsOneOf of ys load) → IsOneOf of (y ∷ ys) load
    by Met is e more = (let rest = more e in record { name = rest.name; there = inr rest.there; is = rest.is })
    by (Loads name) is e more = let same : Loads name ≡ load = cc in record { name = y; there = inl refl; is = is ∙ same }
    by (Refuses name error) is e more = let same : Refuses name error ≡ load = cc in record { name = y; there = inl refl; is = is ∙ same }
    by (Repeats error) is e more = let same : Repeats error ≡ load = cc in record { name = y; there = inl refl; is = is ∙ same }

not_met : (loads : List Load) → first_unmet loads ≡ Some Met → ⊥
not_met [] e = absurd cc
not_met (Met ∷ loads) e = not_met loads e
not_met (Loads name ∷ loads) e = absurd cc
not_met (Refuses name error ∷ loads) e = absurd cc
not_met (Repeats error ∷ loads) e = absurd cc

-- ---- classes of files

find_in : (name : Name) (files : List File) (f : File) → find (λ f. bytes_eq f.name name) files ≡ Some f → IsIn name (map (λ f. f.name) files)
find_in name [] f e = absurd cc
find_in name (g ∷ files) f e = by (bytes_eq g.name name) refl e (find_in name files f)
  where
    by : (here : Bool) → bytes_eq g.name name ≡ here → cond here (Some g) (find (λ f. bytes_eq f.name name) files) ≡ Some f
        → (find (λ f. bytes_eq f.name name) files ≡ Some f → IsIn name (map (λ f. f.name) files))
        → IsIn name (map (λ f. f.name) (g ∷ files))
    by true is e rest = inl (sym ((bytes_eq-Decides g.name name).0 is))
    by false is e rest = inr (rest e)

module _ (classes : List Class) where
  pub base_there : (name : Name) (bases : List BaseClass) (c : BaseClass) → AllByRecursion (λ c. IsSome (number_of classes c.name)) bases
      → find (has_name name) bases ≡ Some c → IsSome (number_of classes name)
  base_there name [] c h e = absurd cc
  base_there name (b ∷ bases) c h e = by (has_name name b) refl e (base_there name bases c h.1)
    where
      by : (here : Bool) → has_name name b ≡ here → cond here (Some b) (find (has_name name) bases) ≡ Some c
          → (find (has_name name) bases ≡ Some c → IsSome (number_of classes name)) → IsSome (number_of classes name)
      by true is e rest = subst (λ (n : Name). IsSome (number_of classes n)) (sym ((bytes_eq-Decides name b.name).0 is)) h.0
      by false is e rest = rest e

  pub none_there : (name : Name) → number_of classes name ≡ None → IsSome (number_of classes name) → ⊥
  none_there name absent there = by (number_of classes name) absent there
    where
      by : (found : Option ClassNo) → found ≡ None → IsSome found → ⊥
      by None is h = absurd cc
      by (Some n) is h = absurd cc

module _ (w : World) (core : Core) (classes : List Class) (base : HasBaseClasses classes) where
  abbrev names : List Name
  names = map (λ f. f.name) w.job.files

  abbrev AreThere : List Name → Type 0
  AreThere supers = AllByRecursion (λ super. IsSome (number_of classes super)) supers

  is_filed : (name : Name) (t : Tree) → number_of classes name ≡ None → given_tree w.job name ≡ Some t → IsIn name names
  is_filed name t absent e = by (find (has_name name) base_set) refl e
    where
      of_file : (found : Option File) → find (λ f. bytes_eq f.name name) w.job.files ≡ found
          → option_and_then tree_of (option_map (λ (f : File). f.bytes) found) ≡ Some t → IsIn name names
      of_file None is e = absurd cc
      of_file (Some f) is e = find_in name w.job.files f is

      by : (found : Option BaseClass) → find (has_name name) base_set ≡ found
          → option_or (option_map base_tree found) (option_and_then tree_of (bytes_of w.job name)) ≡ Some t → IsIn name names
      by None is e = of_file (find (λ f. bytes_eq f.name name) w.job.files) refl e
      by (Some c) is e = absurd (none_there classes name absent (base_there classes name base_set c base is))

  -- a need that is met is of a class that is there
  tree_unmet : (name one two : Name) (circular crossed : Bool) (loads : List Load)
      → cond circular (Refuses name one) (cond crossed (Refuses name two) (after_supers name loads)) ≡ Met → ⊥
  tree_unmet name one two true crossed loads e = absurd cc
  tree_unmet name one two false true loads e = absurd cc
  tree_unmet name one two false false loads e = by (first_unmet loads) refl e
    where
      by : (first : Option Load) → first_unmet loads ≡ first → unwrap_or first (Loads name) ≡ Met → ⊥
      by None is e = absurd cc
      by (Some load) is e = not_met loads (is ∙ ap (λ (l : Load). Some l) e)

  given_unmet : (name : Name) (t : Option Tree) (loads : List Load) → load_of_given w.job name t loads ≡ Met → ⊥
  given_unmet name None loads e = absurd cc
  given_unmet name (Some t) loads e = tree_unmet name _ _ (is_circular w.job name) (is_crossed w.job t) loads e

  failed_unmet : (failed : Option Name) (load : Load) → (load ≡ Met → ⊥) → load_of_failed failed load ≡ Met → ⊥
  failed_unmet None load h e = h e
  failed_unmet (Some error) load h e = absurd cc

  met_there : (n : ℕ) (name : Name) → load_within w core classes (suc n) name ≡ Met → IsSome (number_of classes name)
  met_there n name e = by (number_of classes name) e
    where
      loads : List Load
      loads = map (load_within w core classes n) (supers_of w.job name)

      by : (found : Option ClassNo)
          → cond (is_some found) Met (load_of_failed (failure_of core name) (load_of_given w.job name (given_tree w.job name) loads)) ≡ Met
          → IsSome found
      by (Some n) e = refl
      by None e =
          absurd (failed_unmet (failure_of core name) (load_of_given w.job name (given_tree w.job name) loads)
          (given_unmet name (given_tree w.job name) loads) e)

  -- what a need goes through: from the nearest to the first
  record IsPath (n : ℕ) (path : List Name) (name : Name) : Type 0 where
    fits : n + length path ≡ suc (suc (length w.job.files))
    apart : AreApart path
    filed : (x : Name) → IsIn x path → IsIn x names
    reaches : Reaches w.job 1 path name

  abbrev Goes : ℕ → Type 0
  Goes n = (path : List Name) (name x : Name) → IsPath n path name → load_within w core classes n name ≡ Loads x → AreThere (supers_of w.job x)

  all_there : (zs : List Name) → ((z : Name) → IsIn z zs → IsSome (number_of classes z)) → AreThere zs
  all_there [] h = tt
  all_there (z ∷ zs) h = (h z (inl refl), all_there zs (λ y there. h y (inr there)))

  module _ (m : ℕ) (again : Goes m) (path : List Name) (name x : Name) (p : IsPath (suc m) path name) where
    abbrev loads_of : List Load
    loads_of = map (load_within w core classes m) (supers_of w.job name)

    is_own : is_circular w.job name ≡ false → IsIn name path → ⊥
    is_own circular there =
        let most = suc (length w.job.files) in
        let above = own_above w.job 1 path name p.reaches there most (omega (arith, p.fits)) in
        let yes : is_circular w.job name ≡ true = in_any name (above_within w.job most name) above in
        absurd (let bad : true ≡ false = sym yes ∙ circular in cc)

    module _ (circular : is_circular w.job name ≡ false) (filed : IsIn name names) where
      longer_apart : AreApart (name ∷ path)
      longer_apart = (is_own circular, p.apart)

      longer_filed : (y : Name) → IsIn y (name ∷ path) → IsIn y names
      longer_filed y (inl same) = subst (λ (n : Name). IsIn n names) (sym same) filed
      longer_filed y (inr there) = p.filed y there

      longer : (z : Name) → IsIn z (supers_of w.job name) → IsPath m (name ∷ path) z
      longer z there = record {
        fits = omega (arith, p.fits);
        apart = longer_apart;
        filed = longer_filed;
        reaches = (in_first z (supers_of w.job name) _ there, reaches_next w.job 1 path name z p.reaches there);
      }

      few : length (name ∷ path) ≤ length w.job.files
      few = omega (arith, no_more (name ∷ path) names longer_apart longer_filed, length-map w.job.files (λ (f : File). f.name))

      met_at : (k : ℕ) → k ≡ m → (z : Name) → load_within w core classes k z ≡ Met → IsSome (number_of classes z)
      met_at zero is z e = absurd (let bad : suc (length w.job.files) ≤ length w.job.files = omega (arith, few, p.fits, is) in omega (arith, bad))
      met_at (suc k) is z e = met_there k z e

      by_first : (first : Option Load) → first_unmet loads_of ≡ first → unwrap_or first (Loads name) ≡ Loads x → AreThere (supers_of w.job x)
      by_first None is e =
          let same : name ≡ x = cc in
          subst (λ (n : Name). AreThere (supers_of w.job n)) same
          (all_there (supers_of w.job name)
          (λ z there. met_at m refl z (all_met (load_within w core classes m) (supers_of w.job name) is z there)))
      by_first (Some load) is e =
          let one = some_unmet (load_within w core classes m) (supers_of w.job name) load is in
          again (name ∷ path) one.name x (longer one.name one.there) (one.is ∙ e)

    by_tree : (one two : Name) (circular crossed : Bool) → is_circular w.job name ≡ circular → IsIn name names
        → cond circular (Refuses name one) (cond crossed (Refuses name two) (after_supers name loads_of)) ≡ Loads x → AreThere (supers_of w.job x)
    by_tree one two true crossed is filed e = absurd cc
    by_tree one two false true is filed e = absurd cc
    by_tree one two false false is filed e = by_first is filed (first_unmet loads_of) refl e

    by_given : (t : Option Tree) → given_tree w.job name ≡ t → number_of classes name ≡ None → load_of_given w.job name t loads_of ≡ Loads x
        → AreThere (supers_of w.job x)
    by_given None is absent e = absurd cc
    by_given (Some t) is absent e = by_tree _ _ (is_circular w.job name) (is_crossed w.job t) refl (is_filed name t absent is) e

    by_failed : (failed : Option Name) → number_of classes name ≡ None
        → load_of_failed failed (load_of_given w.job name (given_tree w.job name) loads_of) ≡ Loads x → AreThere (supers_of w.job x)
    by_failed (Some error) absent e = absurd cc
    by_failed None absent e = by_given (given_tree w.job name) refl absent e

    by_there : (found : Option ClassNo) → number_of classes name ≡ found
        → cond (is_some found) Met (load_of_failed (failure_of core name) (load_of_given w.job name (given_tree w.job name) loads_of)) ≡ Loads x
        → AreThere (supers_of w.job x)
    by_there (Some n) is e = absurd cc
    by_there None is e = by_failed (failure_of core name) is e

  goes : (n : ℕ) → Goes n
  goes zero path name x p e = absurd cc
  goes (suc m) path name x p e = by_there m (goes m) path name x p (number_of classes name) refl e

pub loads_supers_first : LoadsSupersFirst
loads_supers_first w core classes wanted name base e =
    goes w core classes base (suc (suc (length w.job.files))) [] wanted name
    (record { fits = omega arith; apart = tt; filed = λ x h. absurd h; reaches = tt }) e
