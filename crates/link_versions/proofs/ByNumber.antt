-- What is asked of a method by its number is what the first version of its class says of the method at that place.
use Rattle.std.proofs.Common.{◌≡◌, ℕ, ◌-◌, Bool, false, ◌&&◌, List, [], ◌∷◌, length, reverse, refl, sym, ap, ◌∙◌, Option, Some, None, arith}
use Rattle.std.specs.Prelude.{IsTrue, slice_get, option_map, position, fold, if◌then◌else◌}
use Rattle.std.specs.List.{AllByRecursion, list_any}
use Rattle.std.specs.Option.{option_and_then, option_map_or}
use Rattle.std.proofs.lemmas.Option.{slice_get-map}
use Rattle.ti_ids.specs.declared.number.ClassNo.{ClassNo}
use Rattle.ti_ids.specs.declared.number.MethodNo.{MethodNo}
use Rattle.jv_names.specs.Names.{Name}
use Rattle.class_tree.specs.declared.access.Flag.{Flag}
use Rattle.class_tree.specs.declared.members.Member.{Member}
use Rattle.class_tree.specs.Trees.{Tree}
use Rattle.class_tree.specs.Tree.{text_at, is_text, is_named}
use Rattle.class_tree.specs.WellFormed.{is_well_formed}
use Rattle.link_versions.specs.declared.class.Entry.{Entry}
use Rattle.link_versions.specs.Classes.{Class, Kind, OfFile, OfArray, numbered, class_at, versions_of, versions_in, first_version, version_at, version_count, newest_version}
use Rattle.link_versions.specs.Members.{NameAndType, is_name_and_type, names_in, names_after, method_names, method_at, method_name, method_desc, method_has, declared_method}
use Rattle.link_versions.specs.Changes.{Keeps, IsOfKind}
use Rattle.link_versions.specs.Entries.{class_of, kind_of, classes_of, IsTable}
use Rattle.link_versions.proofs.Named.{position-map}
use Rattle.link_versions.proofs.Newest.{kept_at, kind_held}
use Rattle.link_versions.proofs.Held.{class_at-is}
use Rattle.link_versions.proofs.Installing.{inside}
use Rattle.link_versions.proofs.Numbers.{names_of_first, where_any, kept_test, flagged, newest_says, flag_by_place}

-- ---- versions that keep what the first one has

abbrev AreKept : List Tree → Type 0
AreKept [] = Unit {0}
AreKept (first ∷ later) = AllByRecursion (Keeps first) later × AllByRecursion (λ t. IsTrue (is_well_formed t)) (first ∷ later)

names_kept : (vs : List Tree) → AreKept vs → fold names_after [] vs ≡ option_map_or names_in (slice_get vs 0) []
names_kept [] kept = refl
names_kept (first ∷ later) kept = names_of_first first later kept.0

flag_kept : (vs : List Tree) (flag : Flag) (place : ℕ) → AreKept vs
    → newest_says flag vs (slice_get (fold names_after [] vs) place) ≡ option_map_or (flagged flag) (option_and_then (λ t. slice_get t.methods place) (slice_get vs 0)) false
flag_kept [] flag place kept = refl
flag_kept (first ∷ later) flag place kept =
    ap (λ names. newest_says flag (first ∷ later) (slice_get names place)) (names_of_first first later kept.0) ∙ flag_by_place first later flag place kept.0 kept.1

-- a version has a method of this name and descriptor
abbrev has : Name → Name → Option Tree → Bool
has name desc version = option_map_or (λ t. list_any (is_named t.pool name desc) t.methods) version false

has_kept : (first : Tree) (later : List Tree) (name desc : Name) → AllByRecursion (Keeps first) later
    → has name desc (slice_get (first ∷ later) (length (first ∷ later) - 1)) ≡ list_any (is_named first.pool name desc) first.methods
has_kept first later name desc keep =
    let place = length (first ∷ later) - 1 in
    let last = inside (first ∷ later) place (omega arith) in
    let same : list_any (is_named first.pool name desc) first.methods ≡ list_any (is_named last.0.pool name desc) last.0.methods =
    kept_test (λ s. is_text s.0 name && is_text s.1 desc) first last.0 (kept_at first later place last.0 keep last.1) in ap (has name desc) last.1 ∙ sym same

abbrev number_at : ClassNo → ℕ → MethodNo
number_at n place = record { class = n; place = place }

-- the method that some versions declare
abbrev declared : List Tree → Name → Name → ClassNo → Option MethodNo
declared vs name desc n =
    if has name desc (slice_get vs (length vs - 1)) then option_map (number_at n) (position (is_name_and_type name desc) (fold names_after [] vs)) else None

declared_kept : (vs : List Tree) (name desc : Name) (n : ClassNo) → AreKept vs
    → declared vs name desc n ≡ option_and_then (λ t. option_map (number_at n) (position (is_named t.pool name desc) t.methods)) (slice_get vs 0)
declared_kept [] name desc n kept = refl
declared_kept (first ∷ later) name desc n kept =
    let test : NameAndType → Bool = is_name_and_type name desc in
    let named : Member → NameAndType = λ m. (text_at first.pool m.name, text_at first.pool m.desc) in
    let numbered_so : List NameAndType → Bool → Option MethodNo = λ names b. if b then option_map (number_at n) (position test names) else None in
    ap (numbered_so (fold names_after [] (first ∷ later))) (has_kept first later name desc kept.0)
    ∙ ap (λ names. numbered_so names (list_any (is_named first.pool name desc) first.methods)) (names_of_first first later kept.0)
    ∙ ap (λ place. if list_any (is_named first.pool name desc) first.methods then option_map (number_at n) place else None) (position-map test named first.methods)
    ∙ where_any (number_at n) (is_named first.pool name desc) first.methods

-- ---- the versions of a class

first_in : (classes : List Class) (n : ClassNo) → first_version classes n ≡ slice_get (versions_in classes n) 0
unfolding first_version
first_in classes n = by (class_at classes n)
  where
    by : (found : Option Class) → option_and_then (λ c. slice_get (versions_of c.kind) 0) found ≡ slice_get (option_map_or (λ c. versions_of c.kind) found []) 0
    by None = refl
    by (Some c) = refl

newest_in : (classes : List Class) (n : ClassNo) → version_at classes (newest_version classes n) ≡ slice_get (versions_in classes n) (length (versions_in classes n) - 1)
unfolding version_at version_count
newest_in classes n = by (class_at classes n)
  where
    by : (found : Option Class) → option_and_then (λ c. slice_get (versions_of c.kind) (option_map_or (λ c. length (versions_of c.kind)) found 0 - 1)) found
        ≡ slice_get (option_map_or (λ c. versions_of c.kind) found []) (length (option_map_or (λ c. versions_of c.kind) found []) - 1)
    by None = refl
    by (Some c) = refl

kind_kept : (older : List Class) (c : Class) (kind : Kind) → IsOfKind older c kind → AreKept (versions_of kind)
kind_kept older c (OfFile []) k = absurd k
kind_kept older c (OfFile (first ∷ later)) k = (k.keep, k.well_formed)
kind_kept older c (OfArray dimensions e) k = tt

versions_kept : (es : List Entry) (n : ClassNo) → IsTable es → AreKept (versions_in (classes_of es) n)
versions_kept es n table = by (numbered (reverse es) n.0) refl
  where
    by : (found : Option Entry) → numbered (reverse es) n.0 ≡ found → AreKept (versions_in (classes_of es) n)
    by None e = rw (class_at-is es n None e) tt
    by (Some entry) e =
        let held = kind_held es n.0 entry table e in
        rw (class_at-is es n (Some entry) e) (kind_kept held.older (class_of entry) (kind_of entry.kind) held.kind)

-- ---- what is asked by number

pub names_first : (es : List Entry) (n : ClassNo) → IsTable es → method_names (classes_of es) n ≡ option_map_or names_in (first_version (classes_of es) n) []
names_first es n table =
    names_kept (versions_in (classes_of es) n) (versions_kept es n table) ∙ ap (λ t. option_map_or names_in t []) (sym (first_in (classes_of es) n))

text_first : (read : NameAndType → Option Name) (place : ℕ) (version : Option Tree)
    → option_and_then read (slice_get (option_map_or names_in version []) place)
    ≡ option_and_then (λ t. option_and_then (λ m. read (text_at t.pool m.name, text_at t.pool m.desc)) (slice_get t.methods place)) version
text_first read place None = refl
text_first read place (Some t) = ap (option_and_then read) (slice_get-map (λ m. (text_at t.pool m.name, text_at t.pool m.desc)) t.methods place) ∙ by (slice_get t.methods place)
  where
    by : (found : Option Member) → option_and_then read (option_map (λ m. (text_at t.pool m.name, text_at t.pool m.desc)) found)
        ≡ option_and_then (λ m. read (text_at t.pool m.name, text_at t.pool m.desc)) found
    by None = refl
    by (Some m) = refl

pub name_first : (es : List Entry) (m : MethodNo) → IsTable es
    → method_name (classes_of es) m ≡ option_and_then (λ t. option_and_then (λ member. text_at t.pool member.name) (slice_get t.methods m.place)) (first_version (classes_of es) m.class)
unfolding method_name
name_first es m table =
    ap (λ names. option_and_then (λ named. named.0) (slice_get names m.place)) (names_first es m.class table) ∙ text_first (λ named. named.0) m.place (first_version (classes_of es) m.class)

pub desc_first : (es : List Entry) (m : MethodNo) → IsTable es
    → method_desc (classes_of es) m ≡ option_and_then (λ t. option_and_then (λ member. text_at t.pool member.desc) (slice_get t.methods m.place)) (first_version (classes_of es) m.class)
unfolding method_desc
desc_first es m table =
    ap (λ names. option_and_then (λ named. named.1) (slice_get names m.place)) (names_first es m.class table) ∙ text_first (λ named. named.1) m.place (first_version (classes_of es) m.class)

pub has_first : (es : List Entry) (flag : Flag) (m : MethodNo) → IsTable es
    → method_has (classes_of es) flag m ≡ option_map_or (flagged flag) (option_and_then (λ t. slice_get t.methods m.place) (first_version (classes_of es) m.class)) false
unfolding method_has method_at
has_first es flag m table =
    flag_kept (versions_in (classes_of es) m.class) flag m.place (versions_kept es m.class table)
    ∙ ap (λ version. option_map_or (flagged flag) (option_and_then (λ t. slice_get t.methods m.place) version) false) (sym (first_in (classes_of es) m.class))

pub declared_first : (es : List Entry) (name desc : Name) (n : ClassNo) → IsTable es
    → declared_method (classes_of es) name desc n ≡ option_and_then (λ t. option_map (number_at n) (position (is_named t.pool name desc) t.methods)) (first_version (classes_of es) n)
unfolding declared_method
declared_first es name desc n table =
    let names = method_names (classes_of es) n in
    ap (λ version. if has name desc version then option_map (number_at n) (position (is_name_and_type name desc) names) else None) (newest_in (classes_of es) n)
    ∙ declared_kept (versions_in (classes_of es) n) name desc n (versions_kept es n table)
    ∙ ap (option_and_then (λ t. option_map (number_at n) (position (is_named t.pool name desc) t.methods))) (sym (first_in (classes_of es) n))
