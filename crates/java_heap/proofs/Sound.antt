-- What a sound heap says of its objects.
use Rattle.std.proofs.Common.{◌≡◌, ℕ, ◌+◌, ◌-◌, ◌*◌, ◌^◌, ◌<◌, ◌≤◌, List, [], ◌∷◌, length, Some, arith}
use Rattle.std.specs.Prelude.{slice_get, sum_by}
use Rattle.std.proofs.lemmas.List.Sums.{sum_by-cons, get_or-le-sum_by}
use Rattle.std.proofs.lemmas.Option.{slice_get_within, get_or_from_slice_get}
use Rattle.ti_ids.specs.declared.number.ObjNo.{ObjNo}
use Rattle.java_heap.specs.declared.object.Object.{Object}
use Rattle.java_heap.specs.declared.object.Content.{Content}
use Rattle.java_heap.specs.declared.object.Content.TheVariants.{Fields, Elements, Text, Literal, ClassObject}
use Rattle.java_heap.specs.Objects.{words_of}
use Rattle.java_heap.specs.Heaps.{HeapValue, words_taken, object_at, IsSound}
use Rattle.java_heap.proofs.Numbers.{found_place}

-- ---- words

-- an object has 2 words at least
two_words : (content : Content) → 2 ≤ words_of content
two_words (Fields values) = omega arith
two_words (Elements values) = omega arith
two_words (Text units) = omega arith
two_words (Literal units) = omega arith
two_words (ClassObject class) = omega arith

counted : (objects : List Object) → 2 * length objects ≤ sum_by (λ (o : Object). words_of o.content) objects
counted [] = omega arith
counted (o ∷ os) = rw (sum_by-cons (λ (o : Object). words_of o.content) o os) (omega (arith, two_words o.content, counted os))

-- two words at least for each object
pub count-le-words : (heap : HeapValue) → 2 * length heap.objects ≤ words_taken heap
count-le-words heap = counted heap.objects

-- an object takes no more words than all
pub words-at-le : (heap : HeapValue) (place : ℕ) (object : Object) → slice_get heap.objects place ≡ Some object → words_of object.content ≤ words_taken heap
words-at-le heap place object at =
    let words = λ (o : Object). words_of o.content in
    let le = get_or-le-sum_by words heap.objects place object (slice_get_within heap.objects place object at) in
    rw (get_or_from_slice_get heap.objects place object object at) at le

-- the next object's number, and the words of each, fit 31 bits
pub count_fits : (heap : HeapValue) → IsSound heap → length heap.objects + 1 < 2 ^ 31
count_fits heap sound = omega (arith, count-le-words heap, sound.within, sound.limited)

pub words_fit : (heap : HeapValue) (n : ObjNo) (object : Object) → IsSound heap → object_at heap n ≡ Some object → words_of object.content < 2 ^ 31
words_fit heap n object sound found = omega (arith, words-at-le heap (n.0 - 1) object (found_place heap n object found).1, sound.within, sound.limited)
