-- The table after a change of one entry that keeps what others see of its class.
use Rattle.std.proofs.Common.{◌≡◌, ℕ, zero, suc, ◌==◌, Bool, true, false, List, [], ◌∷◌, ◌++◌, length, map, reverse, refl, sym, ap, subst, ◌∙◌, Option, Some, arith}
use Rattle.std.specs.Prelude.{IfSome, if◌then◌else◌}
use Rattle.std.specs.List.{AllByRecursion}
use Rattle.std.proofs.lemmas.Bool.{cond-true, cond-false}
use Rattle.std.proofs.lemmas.Bool.Decides.{nat_tests}
use Rattle.std.proofs.lemmas.List.{length-append, length-map, reverse-append, map-append}
use Rattle.std.proofs.lemmas.Option.{same_Some}
use Rattle.ti_ids.specs.declared.number.ClassNo.{ClassNo}
use Rattle.link_versions.specs.declared.class.Entry.{Entry}
use Rattle.link_versions.specs.declared.class.EntryKind.{EntryKind}
use Rattle.link_versions.specs.declared.class.EntryKind.TheVariants as entry_kinds
use Rattle.link_versions.specs.declared.class.Version.{Version}
use Rattle.link_versions.specs.Classes.{Class, OfFile, number_of, numbered, with_numbered}
use Rattle.link_versions.specs.Changes.{IsThere, kind_with_version, with_version, IsOfKind, IsLawful}
use Rattle.link_versions.specs.Entries.{kind_of, class_of, classes_of, AreReady, IsSound, AreSound, IsTable, kind_with, with_added, changed_at}
use Rattle.link_versions.proofs.Alike.{IsAlike, AreAlike, itself, all_themselves, lookup_order-alike, superclasses-alike, sound_alike}

-- ---- a change in a list

with_numbered-last : {A : Type 0} (f : A → A) (ys : List A) (x : A) → with_numbered f (ys ++ x ∷ []) 1 ≡ ys ++ f x ∷ []
with_numbered-last f [] x = refl
with_numbered-last f (y ∷ ys) x = grind (arith, nat_tests, with_numbered-last f ys x, length-append ys (x ∷ []))

with_numbered-earlier : {A : Type 0} (f : A → A) (ys : List A) (x : A) (n : ℕ) → with_numbered f (ys ++ x ∷ []) (suc (suc n)) ≡ with_numbered f ys (suc n) ++ x ∷ []
with_numbered-earlier f [] x n = grind (arith, nat_tests)
with_numbered-earlier f (y ∷ ys) x n = grind (arith, nat_tests, with_numbered-earlier f ys x n, length-append ys (x ∷ []))

reverse-cons : {A : Type 0} (x : A) (xs : List A) → reverse (x ∷ xs) ≡ reverse xs ++ x ∷ []
reverse-cons x xs = reverse-append (x ∷ []) xs

reverse-changed_at : (f : Entry → Entry) (es : List Entry) (i : ℕ) → reverse (changed_at f es i) ≡ with_numbered f (reverse es) (suc i)
reverse-changed_at f [] i = refl
reverse-changed_at f (e ∷ es) zero = reverse-cons (f e) es ∙ sym (ap (λ l. with_numbered f l 1) (reverse-cons e es) ∙ with_numbered-last f (reverse es) e)
reverse-changed_at f (e ∷ es) (suc i) =
    reverse-cons e (changed_at f es i) ∙ ap (λ l. l ++ e ∷ []) (reverse-changed_at f es i)
    ∙ sym (ap (λ l. with_numbered f l (suc (suc i))) (reverse-cons e es) ∙ with_numbered-earlier f (reverse es) e i)

map-with_numbered : {A B : Type 0} (h : A → B) (f : A → A) (g : B → B) → ((x : A) → h (f x) ≡ g (h x)) → (xs : List A) (n : ℕ) → map h (with_numbered f xs n) ≡ with_numbered g (map h xs) n
map-with_numbered h f g same [] n = refl
map-with_numbered h f g same (x ∷ xs) n =
    let rest = map-with_numbered h f g same xs n in
    let split : map h (with_numbered f (x ∷ xs) n) ≡ (if n == suc (length xs) then g (h x) ∷ map h xs else h x ∷ with_numbered g (map h xs) n) =
    elim (n == suc (length xs)) as (λ b. map h (if b then f x ∷ xs else x ∷ with_numbered f xs n) ≡ (if b then g (h x) ∷ map h xs else h x ∷ with_numbered g (map h xs) n)) [
      | true ↦ ap (λ y. y ∷ map h xs) (same x)
      | false ↦ ap (λ l. h x ∷ l) rest
    ] in
    split ∙ ap (λ k. if n == suc k then g (h x) ∷ map h xs else h x ∷ with_numbered g (map h xs) n) (sym (length-map xs h))

-- ---- what is seen of it

pub classes_of-changed_at : (f : Entry → Entry) (g : Class → Class) → ((e : Entry) → class_of (f e) ≡ g (class_of e)) → (es : List Entry) (i n : ℕ) → n ≡ suc i → classes_of (changed_at f es i) ≡ with_numbered g (classes_of es) n
unfolding classes_of
classes_of-changed_at f g same es i n e =
    ap (map class_of) (reverse-changed_at f es i) ∙ map-with_numbered class_of f g same (reverse es) (suc i) ∙ ap (with_numbered g (map class_of (reverse es))) (sym e)

kind_of-kind_with : (v : Version) (k : EntryKind) → kind_of (kind_with v k) ≡ kind_with_version v.tree (kind_of k)
kind_of-kind_with v (entry_kinds.File versions) = ap OfFile (map-append (λ (w : Version). w.tree) versions (v ∷ []))
kind_of-kind_with v (entry_kinds.Array dimensions element) = refl

pub length-changed_at : (f : Entry → Entry) (es : List Entry) (i : ℕ) → length (changed_at f es i) ≡ length es
length-changed_at f [] i = refl
length-changed_at f (e ∷ es) zero = refl
length-changed_at f (e ∷ es) (suc i) = ap suc (length-changed_at f es i)

pub class_of-with_added : (v : Version) (e : Entry) → class_of (with_added v e) ≡ with_version v.tree (class_of e)
class_of-with_added v e = λ i. record { name = e.name; parent = e.parent; interfaces = e.interfaces; kind = kind_of-kind_with v e.kind i; state = e.state }

-- ---- the changed entry

lawful_changed : (older : List Class) (c d : Class) → IsAlike c d → IsOfKind older d d.kind → IsLawful older c → IsLawful older d
lawful_changed older c d same kind l =
    let P : Option ClassNo → Type 0 = λ p. IfSome p (IsThere older) in
    let Q : List ClassNo → Type 0 = λ ns. AllByRecursion (IsThere older) ns in
    record {
      fresh = ap (number_of older) (sym same.name) ∙ l.fresh;
      parent = subst P same.parent l.parent;
      interfaces = subst Q same.interfaces l.interfaces;
      kind = kind;
    }

pub record IsKept (e d : Entry) : Type 0 where
  pub alike : IsAlike (class_of e) (class_of d)
  pub order : d.order ≡ e.order
  pub supers : d.supers ≡ e.supers

pub sound_changed : (older : List Class) (e d : Entry) → IsKept e d → IsOfKind older (class_of d) (kind_of d.kind) → AreReady d.kind → IsSound older e → IsSound older d
sound_changed older e d kept kind ready s =
    let both : AreAlike (class_of e ∷ older) (class_of d ∷ older) = (kept.alike, all_themselves older) in
    let number : ClassNo = record { 0 = suc (length older) } in
    record {
      lawful = lawful_changed older (class_of e) (class_of d) kept.alike kind s.lawful;
      order = kept.order ∙ s.order ∙ lookup_order-alike (class_of e ∷ older) (class_of d ∷ older) number both;
      supers = kept.supers ∙ s.supers ∙ superclasses-alike (class_of e ∷ older) (class_of d ∷ older) number both;
      codes = ready;
    }

-- ---- the table

alike_after : (f : Entry → Entry) → ((e : Entry) → IsKept e (f e)) → (rs : List Entry) (n : ℕ) → AreAlike (map class_of rs) (map class_of (with_numbered f rs n))
alike_after f kept [] n = tt
alike_after f kept (r ∷ rs) n =
    let rest = alike_after f kept rs n in
    elim (n == length (r ∷ rs)) as (λ b. AreAlike (class_of r ∷ map class_of rs) (map class_of (if b then f r ∷ rs else r ∷ with_numbered f rs n))) [
      | true ↦ ((kept r).alike, all_themselves (map class_of rs))
      | false ↦ (itself (class_of r), rest)
    ]

sound_after : (f : Entry → Entry) → ((e : Entry) → IsKept e (f e)) → (e : Entry) → ((older : List Class) → IsSound older e → IsSound older (f e)) → (rs : List Entry) (n : ℕ)
    → numbered rs n ≡ Some e → AreSound rs → AreSound (with_numbered f rs n)
sound_after f kept e ok [] n found sound = tt
sound_after f kept e ok (r ∷ rs) n found sound = by (n == length (r ∷ rs)) refl (λ later. sound_after f kept e ok rs n later sound.1)
  where
    by : (b : Bool) → (n == length (r ∷ rs)) ≡ b → (numbered rs n ≡ Some e → AreSound (with_numbered f rs n)) → AreSound (if n == length (r ∷ rs) then f r ∷ rs else r ∷ with_numbered f rs n)
    by true t rest =
        let same : r ≡ e = same_Some _ _ (sym (cond-true (n == length (r ∷ rs)) (Some r) (numbered rs n) t) ∙ found) in
        let here : IsSound (map class_of rs) (f r) = subst (λ (k : Entry). IsSound (map class_of rs) (f k)) (sym same) (ok (map class_of rs) (subst (λ (k : Entry). IsSound (map class_of rs) k) same sound.0)) in
        subst (λ (l : List Entry). AreSound l) (sym (cond-true (n == length (r ∷ rs)) (f r ∷ rs) (r ∷ with_numbered f rs n) t)) (here, sound.1)
    by false t rest =
        let later = sym (cond-false (n == length (r ∷ rs)) (Some r) (numbered rs n) t) ∙ found in
        subst (λ (l : List Entry). AreSound l) (sym (cond-false (n == length (r ∷ rs)) (f r ∷ rs) (r ∷ with_numbered f rs n) t))
        (sound_alike (map class_of rs) (map class_of (with_numbered f rs n)) r (alike_after f kept rs n) sound.0, rest later)

pub IsTable-changed_at : (f : Entry → Entry) → ((e : Entry) → IsKept e (f e)) → (e : Entry) → ((older : List Class) → IsSound older e → IsSound older (f e)) → (es : List Entry) (i : ℕ)
    → numbered (reverse es) (suc i) ≡ Some e → IsTable es → IsTable (changed_at f es i)
unfolding IsTable
IsTable-changed_at f kept e ok es i found sound = subst (λ (l : List Entry). AreSound l) (sym (reverse-changed_at f es i)) (sound_after f kept e ok (reverse es) (suc i) found sound)
