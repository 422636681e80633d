-- What a version more does to the numbers of methods.
use Rattle.std.proofs.Common.{◌≡◌, ℕ, zero, suc, ◌+◌, ◌==◌, Bool, true, false, not, ◌&&◌, ◌||◌, List, [], ◌∷◌, ◌++◌, length, filter, get_or, reverse, refl, sym, ap, ◌∙◌, Option, Some, None, arith}
use Rattle.std.specs.Prelude.{IsSome, slice_get, option_map, position, fold, bytes_eq, if◌then◌else◌}
use Rattle.std.specs.List.{list_any}
use Rattle.std.specs.Option.{option_and_then, option_or, option_map_or, option_eq}
use Rattle.std.proofs.lemmas.Bool.{and_parts, cond-true, cond-false, eqb-true, eq-eqb}
use Rattle.std.proofs.lemmas.List.{reverse-append}
use Rattle.std.proofs.lemmas.List.Folds.{list_any-append, list_any_none}
use Rattle.std.proofs.lemmas.List.Sums.{fold_push}
use Rattle.std.proofs.lemmas.List.Quantifiers.{position-Some}
use Rattle.std.proofs.lemmas.Option.{same_Some, slice_get-get_or}
use Rattle.std.proofs.lemmas.Slice.Eq.{bytes_eq-Decides}
use Rattle.ti_ids.specs.declared.number.ClassNo.{ClassNo}
use Rattle.ti_ids.specs.declared.number.MethodNo.{MethodNo}
use Rattle.jv_names.specs.Names.{Name}
use Rattle.class_tree.specs.declared.pool.Const.{Const}
use Rattle.class_tree.specs.declared.members.Member.{Member}
use Rattle.class_tree.specs.Trees.{Tree}
use Rattle.class_tree.specs.Tree.{text_at, is_text, is_named, first_of, IsNamed}
use Rattle.link_versions.specs.Classes.{Class, Kind, OfFile, OfArray, numbered, class_at, versions_of, versions_in, first_version, version_at, newest_version}
use Rattle.link_versions.specs.Members.{NameAndType, same_name_and_type, is_name_and_type, names_in, names_after, method_names, name_and_type_at, method_in, method_at, has_method, declared_method}
use Rattle.link_versions.specs.Changes.{IsOfFile, kind_with_version, with_version, file_class}
use Rattle.link_versions.specs.Laws.{installed, KeepsMethodNumbers, IsDeclaredAs, LetsGo, LetsIn, IsNumbered}
use Rattle.link_versions.proofs.Counting.{numbered-changed, numbered-other, installed_there, installed_newest}
use Rattle.link_versions.proofs.Numbers.{any-map, all_stay, or_right, found_at, any_at}

-- ---- numbers stay

get_before : {A : Type 0} (xs ys : List A) (i : ℕ) (x : A) → slice_get xs i ≡ Some x → slice_get (xs ++ ys) i ≡ Some x
get_before [] ys i x at = absurd cc
get_before (z ∷ zs) ys zero x at = at
get_before (z ∷ zs) ys (suc i) x at = get_before zs ys i x at

-- the names and descriptors of some versions, and of one more
more_names : (vs : List Tree) (t : Tree) → fold names_after [] (vs ++ t ∷ []) ≡ names_after (fold names_after [] vs) t
more_names vs t = fold_push names_after [] vs t

number_stays : (t : Tree) (found : Option Class) (i : ℕ) (x : NameAndType) → slice_get (fold names_after [] (option_map_or (λ c. versions_of c.kind) found [])) i ≡ Some x
    → slice_get (fold names_after [] (option_map_or (λ c. versions_of c.kind) (option_map (with_version t) found) [])) i ≡ Some x
number_stays t None i x at = at
number_stays t (Some c) i x at = by c.kind at
  where
    by : (kind : Kind) → slice_get (fold names_after [] (versions_of kind)) i ≡ Some x → slice_get (fold names_after [] (versions_of (kind_with_version t kind))) i ≡ Some x
    by (OfArray dimensions e) at = at
    by (OfFile vs) at = ap (λ names. slice_get names i) (more_names vs t) ∙ get_before (fold names_after [] vs) _ i x at

pub method_numbers_stay : KeepsMethodNumbers
method_numbers_stay classes n t m x at = by (m.class.0 == n.0) refl
  where
    by : (b : Bool) → (m.class.0 == n.0) ≡ b → name_and_type_at (installed classes n t) m ≡ Some x
    by true e =
        let same : m.class.0 ≡ n.0 = eqb-true _ _ e in
        let read : ℕ → List Class → Option NameAndType = λ k cs. slice_get (fold names_after [] (option_map_or (λ c. versions_of c.kind) (numbered cs k) [])) m.place in
        ap (λ k. read k (installed classes n t)) same
        ∙ ap (λ found. slice_get (fold names_after [] (option_map_or (λ c. versions_of c.kind) found [])) m.place) (numbered-changed (with_version t) classes n.0)
        ∙ number_stays t (numbered classes n.0) m.place x (ap (λ k. read k classes) (sym same) ∙ at)
    by false e =
        let apart : m.class.0 ≡ n.0 → ⊥ = λ p. cc (e, eq-eqb m.class.0 n.0 p) in
        ap (λ found. slice_get (fold names_after [] (option_map_or (λ c. versions_of c.kind) found [])) m.place) (numbered-other (with_version t) classes n.0 m.class.0 apart) ∙ at

-- ---- what a class declares has the name and the descriptor that were asked for

text_is : (text : Option Name) (name : Name) → is_text text name ≡ true → text ≡ Some name
text_is None name e = absurd cc
text_is (Some text) name e = ap Some ((bytes_eq-Decides text name).0 e)

named_so : (name desc : Name) (x : NameAndType) → is_name_and_type name desc x ≡ true → x ≡ (Some name, Some desc)
named_so name desc x e =
    let parts = and_parts _ _ e in
    let first = text_is x.0 name parts.0 in
    let second = text_is x.1 desc parts.1 in
    λ i. (first i, second i)

place_held : {A : Type 0} (p : A → Bool) (xs : List A) (i : ℕ) → position p xs ≡ Some i → (x : A) × (slice_get xs i ≡ Some x) × (p x ≡ true)
place_held p [] i e = absurd cc
place_held p (x ∷ xs) i e =
    let at = position-Some p (x ∷ xs) i x e in
    (get_or (x ∷ xs) i x, slice_get-get_or (x ∷ xs) i x at.0, at.1)

abbrev method_no : ClassNo → ℕ → MethodNo
method_no n place = record { class = n; place = place }

declared_so : (b : Bool) (name desc : Name) (n : ClassNo) (m : MethodNo) (names : List NameAndType)
    → (if b then option_map (method_no n) (position (is_name_and_type name desc) names) else None) ≡ Some m → (m.class ≡ n) × (slice_get names m.place ≡ Some (Some name, Some desc))
declared_so false name desc n m names e = absurd cc
declared_so true name desc n m names e = by (position (is_name_and_type name desc) names) refl e
  where
    by : (found : Option ℕ) → position (is_name_and_type name desc) names ≡ found → option_map (method_no n) found ≡ Some m
        → (m.class ≡ n) × (slice_get names m.place ≡ Some (Some name, Some desc))
    by None is e = absurd cc
    by (Some place) is e =
        let same : method_no n place ≡ m = same_Some _ _ e in
        let held = place_held (is_name_and_type name desc) names place is in
        (sym (ap (λ m. m.class) same), ap (λ m. slice_get names m.place) (sym same) ∙ held.1 ∙ ap Some (named_so name desc held.0 held.2))

pub declared_as : IsDeclaredAs
unfolding declared_method
declared_as classes name desc n m e =
    let d = declared_so (has_method classes name desc n) name desc n m (method_names classes n) e in
    (d.0, ap (λ k. slice_get (method_names classes k) m.place) d.0 ∙ d.1)

-- ---- after an install

newest_there : (classes : List Class) (n : ClassNo) (t : Tree) → IsOfFile classes n → version_at (installed classes n t) (newest_version (installed classes n t) n) ≡ Some t
newest_there classes n t file = ap (version_at (installed classes n t)) (installed_newest classes n t file) ∙ installed_there classes n t file

has_so : (classes : List Class) (n : ClassNo) (t : Tree) (name desc : Name) → IsOfFile classes n
    → has_method (installed classes n t) name desc n ≡ list_any (is_named t.pool name desc) t.methods
has_so classes n t name desc file = ap (λ version. option_map_or (λ t. list_any (is_named t.pool name desc) t.methods) version false) (newest_there classes n t file)

not_named : (pool : List Const) (name desc : Name) (m : Member) → ¬ IsNamed pool name desc m → is_named pool name desc m ≡ false
not_named pool name desc m none = by (is_named pool name desc m) refl
  where
    by : (b : Bool) → is_named pool name desc m ≡ b → is_named pool name desc m ≡ false
    by true e = let parts = and_parts _ _ e in absurd (none (text_is (text_at pool m.name) name parts.0, text_is (text_at pool m.desc) desc parts.1))
    by false e = e

pub lets_go : LetsGo
unfolding declared_method
lets_go classes n t name desc file none =
    let gone : list_any (is_named t.pool name desc) t.methods ≡ false =
    list_any_none (is_named t.pool name desc) t.methods (λ k d low. not_named t.pool name desc (get_or t.methods k d) (none k d low)) in
    cond-false (has_method (installed classes n t) name desc n) _ None (has_so classes n t name desc file ∙ gone)

-- ---- what the new version has

-- both tests ask for one name and one descriptor
text_asked : (name : Name) (text : Option Name) → option_eq bytes_eq (Some name) text ≡ is_text text name
text_asked name None = refl
text_asked name (Some text) = by (bytes_eq name text) refl
  where
    by : (b : Bool) → bytes_eq name text ≡ b → bytes_eq name text ≡ bytes_eq text name
    by true e = e ∙ sym ((bytes_eq-Decides text name).1 (sym ((bytes_eq-Decides name text).0 e)))
    by false e = other (bytes_eq text name) refl
      where
        other : (c : Bool) → bytes_eq text name ≡ c → bytes_eq name text ≡ bytes_eq text name
        other false f = e ∙ sym f
        other true f = absurd (cc (e, (bytes_eq-Decides name text).1 (sym ((bytes_eq-Decides text name).0 f))))

asked : (name desc : Name) (x : NameAndType) → same_name_and_type (Some name, Some desc) x ≡ is_name_and_type name desc x
asked name desc x =
    ap (λ b. b && option_eq bytes_eq (Some desc) x.1) (text_asked name x.0) ∙ ap (λ b. is_text x.0 name && b) (text_asked desc x.1)

any_asked : (name desc : Name) (xs : List NameAndType) → list_any (same_name_and_type (Some name, Some desc)) xs ≡ list_any (is_name_and_type name desc) xs
any_asked name desc [] = refl
any_asked name desc (x ∷ xs) =
    ap (λ b. b || list_any (same_name_and_type (Some name, Some desc)) xs) (asked name desc x) ∙ ap (λ b. is_name_and_type name desc x || b) (any_asked name desc xs)

-- what passes is kept, or stood before
kept_or_before : {A : Type 0} (p keep : A → Bool) (before : Bool) (xs : List A) → list_any p xs ≡ true → ((x : A) → p x ≡ true → keep x ≡ false → before ≡ true)
    → (before || list_any p (filter keep xs)) ≡ true
kept_or_before p keep before [] any stood = absurd cc
kept_or_before p keep before (x ∷ xs) any stood = by (p x) (keep x) refl refl (λ e. kept_or_before p keep before xs (ap (λ b. b || list_any p xs) (sym e) ∙ any) stood)
  where
    by : (b c : Bool) → p x ≡ b → keep x ≡ c → (p x ≡ false → (before || list_any p (filter keep xs)) ≡ true) → (before || list_any p (filter keep (x ∷ xs))) ≡ true
    by true false e f rest = ap (λ b. b || list_any p (filter keep (x ∷ xs))) (stood x e f)
    by true true e f rest =
        let first : list_any p (filter keep (x ∷ xs)) ≡ true = simp (f, e) in or_right before (list_any p (filter keep (x ∷ xs))) first
    by false true e f rest =
        let same : list_any p (filter keep (x ∷ xs)) ≡ list_any p (filter keep xs) = simp (f, e) in ap (λ b. before || b) same ∙ rest e
    by false false e f rest =
        let same : list_any p (filter keep (x ∷ xs)) ≡ list_any p (filter keep xs) = simp f in ap (λ b. before || b) same ∙ rest e

named_after : (before : List NameAndType) (t : Tree) (name desc : Name) → list_any (is_named t.pool name desc) t.methods ≡ true → list_any (is_name_and_type name desc) (names_after before t) ≡ true
named_after before t name desc any =
    let p = is_name_and_type name desc in
    let keep : NameAndType → Bool = λ x. not (list_any (same_name_and_type x) before) in
    list_any-append p before (filter keep (names_in t))
    ∙ kept_or_before p keep (list_any p before) (names_in t) (any-map p (λ m. (text_at t.pool m.name, text_at t.pool m.desc)) t.methods ∙ any)
    (λ x e f.
    let stood : list_any (same_name_and_type x) before ≡ true = not_false (list_any (same_name_and_type x) before) f in
    sym (any_asked name desc before) ∙ ap (λ y. list_any (same_name_and_type y) before) (sym (named_so name desc x e)) ∙ stood)
  where
    not_false : (b : Bool) → not b ≡ false → b ≡ true
    not_false true e = refl
    not_false false e = absurd cc

-- the versions of the class are those before and the new one
versions_after : (t : Tree) (found : Option Class) → IsSome (option_and_then (λ c. slice_get (versions_of c.kind) 0) found)
    → option_map_or (λ c. versions_of c.kind) (option_map (with_version t) found) [] ≡ option_map_or (λ c. versions_of c.kind) found [] ++ t ∷ []
versions_after t None file = absurd cc
versions_after t (Some c) file = by c.kind file
  where
    by : (kind : Kind) → IsSome (slice_get (versions_of kind) 0) → versions_of (kind_with_version t kind) ≡ versions_of kind ++ t ∷ []
    by (OfArray dimensions e) file = absurd cc
    by (OfFile vs) file = refl

versions_so : (classes : List Class) (n : ClassNo) (t : Tree) → IsOfFile classes n → versions_in (installed classes n t) n ≡ versions_in classes n ++ t ∷ []
unfolding first_version
versions_so classes n t file =
    ap (λ found. option_map_or (λ c. versions_of c.kind) found []) (numbered-changed (with_version t) classes n.0) ∙ versions_after t (class_at classes n) file

method_of_newest : (classes : List Class) (n : ClassNo) (t : Tree) (name desc : Name) (member : Member) (m : MethodNo) → IsOfFile classes n → method_in t (Some name) (Some desc) ≡ Some member
    → m.class ≡ n → name_and_type_at (installed classes n t) m ≡ Some (Some name, Some desc) → method_at (installed classes n t) m ≡ Some member
unfolding method_at
method_of_newest classes n t name desc member m file is own named =
    let ask : List Tree → Option Member = first_of (λ u. method_in u (Some name) (Some desc)) in
    ap (option_and_then (λ x. first_of (λ u. method_in u x.0 x.1) (reverse (versions_in (installed classes n t) m.class)))) named
    ∙ ap (λ k. ask (reverse (versions_in (installed classes n t) k))) own
    ∙ ap (λ vs. ask (reverse vs)) (versions_so classes n t file)
    ∙ ap ask (reverse-append (versions_in classes n) (t ∷ []))
    ∙ ap (λ found. option_or found (ask (reverse (versions_in classes n)))) is

has_member : (t : Tree) (name desc : Name) (member : Member) → method_in t (Some name) (Some desc) ≡ Some member → list_any (is_named t.pool name desc) t.methods ≡ true
has_member t name desc member is = by (position (is_named t.pool name desc) t.methods) refl is
  where
    by : (found : Option ℕ) → position (is_named t.pool name desc) t.methods ≡ found → option_and_then (λ place. slice_get t.methods place) found ≡ Some member
        → list_any (is_named t.pool name desc) t.methods ≡ true
    by None e is = absurd cc
    by (Some place) e is = let held = place_held (is_named t.pool name desc) t.methods place e in any_at (is_named t.pool name desc) t.methods place held.0 held.1 held.2

pub lets_in : LetsIn
unfolding declared_method
lets_in classes n t name desc member file is =
    let later = installed classes n t in
    let any = has_member t name desc member is in
    let names : method_names later n ≡ names_after (method_names classes n) t = ap (fold names_after []) (versions_so classes n t file) ∙ more_names (versions_in classes n) t in
    let found = found_at (is_name_and_type name desc) (method_names later n) (ap (list_any (is_name_and_type name desc)) names ∙ named_after (method_names classes n) t name desc any) in
    let m = method_no n found.place in
    let declared : declared_method later name desc n ≡ Some m =
    cond-true (has_method later name desc n) _ None (has_so classes n t name desc file ∙ any) ∙ ap (option_map (method_no n)) found.is_place in
    (m, declared, method_of_newest classes n t name desc member m file is refl (declared_as later name desc n m declared).1)

-- ---- a defined class

pub defined_numbered : IsNumbered
defined_numbered find t classes =
    let c = file_class find t in
    let last : length classes + 1 ≡ length (c ∷ classes) = omega arith in
    ap (λ found. fold names_after [] (option_map_or (λ k. versions_of k.kind) found []))
    (cond-true (length classes + 1 == length (c ∷ classes)) (Some c) (numbered classes (length classes + 1)) (eq-eqb _ _ last))
    ∙ all_stay (names_in t)
