-- An object of which there is one is put behind the others and into its index: the index finds it, and what it found before.
use Rattle.std.proofs.Common.{◌≡◌, ℕ, ◌+◌, ◌≤◌, Bool, true, false, cond, List, Option, Some, None, is_some, refl, sym, ap, ◌∙◌, subst, arith}
use Rattle.std.specs.Prelude.{Vec, IsNone, IsTrue, bytes_eq, ◌==◌}
use Rattle.std.specs.Option.{option_or}
use Rattle.std.specs.Ordering.{nat_cmp, is_eq}
use Rattle.std.specs.Cmp.{eq_by_cmp_equiv}
use Rattle.std.specs.Cmp.Lexicographic.{slice_cmp, nat_list_cmp_total, nat_list_eq_equiv}
use Rattle.std.specs.Map.{KeepsOthers, IsKeyTest, AreApart, lookup}
use Rattle.std.specs.BTreeMap.{is_at, UpdatesBy}
use Rattle.std.specs.declared.alloc.Global.{Global}
use Rattle.std.proofs.lemmas.Map.Text.{is_eq-slice_cmp}
use Rattle.std.proofs.lemmas.Slice.Eq.{bytes_eq-Decides}
use Rattle.std.proofs.lemmas.Bool.{eqb-true, false≢true}
use Rattle.ti_ids.specs.declared.number.ClassNo.{ClassNo}
use Rattle.ti_ids.specs.declared.number.ObjNo.{ObjNo}
use Rattle.java_heap.specs.declared.object.Object.{Object}
use Rattle.java_heap.specs.declared.object.Content.{Content}
use Rattle.java_heap.specs.declared.object.Content.TheVariants.{Literal, ClassObject}
use Rattle.java_heap.specs.Objects.{fresh, words_of, is_literal, is_class_object}
use Rattle.java_heap.specs.Heaps.{HeapValue, words_taken, next_number, first_number, literal_of, class_object_of}
use Rattle.java_heap.specs.Kept.{LiteralIndex, ClassIndex, IsKept, PutsClassObject, indexed_literal, indexed_class_object}
use Rattle.java_heap.proofs.Added.{MayAdd, words_added, sound_added}
use Rattle.java_heap.proofs.Firsts.{added, first_number-added, passed_over}

-- ---- one entry more in an index

apart : (units other key : List ℕ) → bytes_eq units other ≡ false → is_eq (slice_cmp nat_cmp units key) ≡ true → is_eq (slice_cmp nat_cmp other key) ≡ false
apart units other key differ same =
    let key_is : bytes_eq units key ≡ true = sym (is_eq-slice_cmp units key) ∙ same in
    is_eq-slice_cmp other key ∙ nat_list_eq_equiv.symm other key ∙ sym (nat_list_eq_equiv.congr units key other key_is) ∙ differ

others_kept : {K X : Type 0} (eq : K → K → Bool) (test other : K → Bool) (old new : List (K × X)) → KeepsOthers eq test old new → IsKeyTest eq other → AreApart test other → lookup other new ≡ lookup other old
unfolding KeepsOthers
others_kept eq test other old new kept = kept other

-- what an index of texts has after `insert`
literal_put : (units : List ℕ) (old new : LiteralIndex) (n : ObjNo) → UpdatesBy (λ (x y : Vec ℕ Global). slice_cmp nat_cmp x.items y.items) (λ (k : Vec ℕ Global). slice_cmp nat_cmp units k.items) old new (Some n)
    → (wanted : List ℕ) → indexed_literal new wanted ≡ cond (bytes_eq units wanted) (Some n) (indexed_literal old wanted)
literal_put units old new n updates wanted =
    elim (bytes_eq units wanted) as (λ b. bytes_eq units wanted ≡ b → indexed_literal new wanted ≡ cond b (Some n) (indexed_literal old wanted)) [
      | true ↦ λ same. subst (λ (us : List ℕ). indexed_literal new us ≡ Some n) ((bytes_eq-Decides units wanted).0 same) updates.1
      | false ↦ λ differ.
          others_kept _ _ (is_at (λ (k : Vec ℕ Global). slice_cmp nat_cmp wanted k.items)) old.entries new.entries updates.3
          (λ x y. (eq_by_cmp_equiv nat_list_cmp_total).congr wanted x.items y.items)
          (λ k. apart units wanted k.items differ)
    ] refl

-- ---- it finds the object that was added

or_last : (found : Option ObjNo) (b : Bool) (n : ObjNo) → (b ≡ true → IsNone found) → cond b (Some n) found ≡ option_or found (cond b (Some n) None)
or_last None true n absent = refl
or_last None false n absent = refl
or_last (Some m) true n absent = let none : is_some (Some m) ≡ false = absent refl in absurd cc
or_last (Some m) false n absent = refl

-- what an index has after a put is what is there after the object was added
found_added : (test : Content → Bool) (heap : HeapValue) (object : Object) (b : Bool) (before after : Option ObjNo) → test object.content ≡ b → (IsTrue (test object.content) → IsNone (first_number test heap)) → before ≡ first_number test heap
    → after ≡ cond b (Some (next_number heap)) before → after ≡ first_number test (added heap object)
found_added test heap object b before after passes absent was put =
    put
    ∙ ap (λ (found : Option ObjNo). cond b (Some (next_number heap)) found) was
    ∙ or_last (first_number test heap) b (next_number heap) (λ e. absent (passes ∙ e))
    ∙ sym (first_number-added test heap object ∙ ap (λ (b : Bool). option_or (first_number test heap) (cond b (Some (next_number heap)) None)) passes)

-- ---- the String of a constant

literal_may_add : (heap : HeapValue) (class : ClassNo) (units : List ℕ) → words_taken heap + words_of (Literal units) ≤ heap.limit → IsNone (literal_of heap units) → MayAdd heap (fresh class (Literal units))
literal_may_add heap class units room absent = record {
  room = room;
  literal = λ wanted equal. subst (λ (us : List ℕ). IsNone (literal_of heap us)) (sym ((bytes_eq-Decides wanted units).0 equal)) absent;
  class_object = λ class is. absurd (false≢true is);
}

pub literal_kept : (heap : HeapValue) (words : ℕ) (literals literals' : LiteralIndex) (class_objects : ClassIndex) (class : ClassNo) (units key : List ℕ) (n : ObjNo) (more : ℕ)
    → IsKept heap words literals class_objects → IsNone (literal_of heap units) → more ≡ words_of (Literal units) → words_taken heap + more ≤ heap.limit → n ≡ next_number heap → key ≡ units
    → UpdatesBy (λ (x y : Vec ℕ Global). slice_cmp nat_cmp x.items y.items) (λ (k : Vec ℕ Global). slice_cmp nat_cmp key k.items) literals literals' (Some n)
    → IsKept (added heap (fresh class (Literal units))) (words + more) literals' class_objects
literal_kept heap words literals literals' class_objects class units key n more kept absent size room next same updates =
    let object = fresh class (Literal units) in
    let may = literal_may_add heap class units (omega (arith, room, size)) absent in
    record {
      sound = sound_added heap object kept.sound may;
      counted = omega (arith, kept.counted, size, words_added heap object);
      literals_found = λ wanted.
          let found = indexed_literal literals wanted in
          let put : indexed_literal literals' wanted ≡ cond (bytes_eq units wanted) (Some (next_number heap)) found = literal_put key literals literals' n updates wanted ∙ ap (λ (us : List ℕ). cond (bytes_eq us wanted) (Some n) found) same ∙ ap (λ (m : ObjNo). cond (bytes_eq units wanted) (Some m) found) next in
          found_added (is_literal wanted) heap object (bytes_eq units wanted) found (indexed_literal literals' wanted) (nat_list_eq_equiv.symm wanted units) (may.literal wanted) (kept.literals_found wanted) put;
      class_objects_found = λ wanted. kept.class_objects_found wanted ∙ sym (passed_over (is_class_object wanted) heap object refl);
    }

-- ---- the Class object of a class

same_class : (class other : ClassNo) → class.0 ≡ other.0 → class ≡ other
same_class class other e = ap (λ (n : ℕ). let class : ClassNo = record { 0 = n } in class) e

class_object_may_add : (heap : HeapValue) (class named : ClassNo) → words_taken heap + words_of (ClassObject named) ≤ heap.limit → IsNone (class_object_of heap named) → MayAdd heap (fresh class (ClassObject named))
class_object_may_add heap class named room absent = record {
  room = room;
  literal = λ units is. absurd (false≢true is);
  class_object = λ wanted equal. subst (λ (c : ClassNo). IsNone (class_object_of heap c)) (sym (same_class wanted named (eqb-true wanted.0 named.0 equal))) absent;
}

pub class_object_kept : (heap : HeapValue) (words : ℕ) (literals : LiteralIndex) (class_objects class_objects' : ClassIndex) (class named : ClassNo) (n : ObjNo) (more : ℕ)
    → IsKept heap words literals class_objects → IsNone (class_object_of heap named) → more ≡ words_of (ClassObject named) → words_taken heap + more ≤ heap.limit → n ≡ next_number heap
    → PutsClassObject class_objects class_objects' named n → IsKept (added heap (fresh class (ClassObject named))) (words + more) literals class_objects'
class_object_kept heap words literals class_objects class_objects' class named n more kept absent size room next puts =
    let object = fresh class (ClassObject named) in
    let may = class_object_may_add heap class named (omega (arith, room, size)) absent in
    record {
      sound = sound_added heap object kept.sound may;
      counted = omega (arith, kept.counted, size, words_added heap object);
      literals_found = λ wanted. kept.literals_found wanted ∙ sym (passed_over (is_literal wanted) heap object refl);
      class_objects_found = λ wanted.
          let found = indexed_class_object class_objects wanted in
          let put : indexed_class_object class_objects' wanted ≡ cond (wanted.0 == named.0) (Some (next_number heap)) found = puts wanted ∙ ap (λ (m : ObjNo). cond (wanted.0 == named.0) (Some m) found) next in
          found_added (is_class_object wanted) heap object (wanted.0 == named.0) found (indexed_class_object class_objects' wanted) refl (may.class_object wanted) (kept.class_objects_found wanted) put;
    }
