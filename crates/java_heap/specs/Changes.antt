-- What the calls of a heap change.
use Rattle.std.specs.Prelude.{◌≡◌, ℕ, ◌+◌, ◌-◌, ◌<◌, ◌↔◌, List, [], ◌∷◌, ◌++◌, slice_get, slice_set, Option, Some, None, Result, Ok, Err, IfOk, IsSomeAnd, OnErr}
use Rattle.std.specs.Option.{option_map_or}
use Rattle.ti_ids.specs.declared.number.ClassNo.{ClassNo}
use Rattle.ti_ids.specs.declared.number.ObjNo.{ObjNo}
use Rattle.ti_ids.specs.declared.value.Value.{Value}
use Rattle.java_heap.specs.declared.fault.HeapFault.{HeapFault}
use Rattle.java_heap.specs.declared.fault.HeapFault.TheVariants.{Full}
use Rattle.java_heap.specs.declared.object.Object.{Object}
use Rattle.java_heap.specs.declared.object.Content.{Content}
use Rattle.java_heap.specs.declared.object.Content.TheVariants.{Fields, Elements, Text}
use Rattle.java_heap.specs.Objects.{fresh, words_of, units_of}
use Rattle.java_heap.specs.Heaps.{HeapValue, words_taken, next_number, object_at}

-- ---- allocations

-- so many words more would pass the limit
abbrev pub PassesLimit : HeapValue → ℕ → Type 0
PassesLimit heap words = heap.limit < words_taken heap + words

-- the object was added as the next one, and nothing else changed
pub record Adds (old new : HeapValue) (object : Object) (n : ObjNo) : Type 0 where
  pub number : n ≡ next_number old
  pub after : new ≡ record old { objects = old.objects ++ object ∷ [] }

-- an allocation: the object is added, or nothing changes; it is refused as full exactly where it would pass the limit
pub record Allocates (old new : HeapValue) (object : Object) (result : Result ObjNo HeapFault) : Type 0 where
  pub made : IfOk result (Adds old new object)
  pub full : (result ≡ Err Full) ↔ PassesLimit old (words_of object.content)
  pub err : OnErr result (new ≡ old)

-- an object that is made once: where there is one already, it is the answer and nothing changes; else it is allocated
abbrev pub GivesOnce : Option ObjNo → HeapValue → HeapValue → Object → Result ObjNo HeapFault → Type 0
GivesOnce (Some n) old new object result = (result ≡ Ok n) × (new ≡ old)
GivesOnce None old new object result = Allocates old new object result

-- a copy of a text, where there is one: the object is added, or nothing changes, as in an allocation
pub record Copies (old new : HeapValue) (object : Object) (result : Result (Option ObjNo) HeapFault) : Type 0 where
  pub made : IfOk result (λ made. IsSomeAnd made (Adds old new object))
  pub full : (result ≡ Err Full) ↔ PassesLimit old (words_of object.content)
  pub err : OnErr result (new ≡ old)

-- where there is no text, there is no copy, and nothing changes
abbrev pub CopiesText : Option (List ℕ) → HeapValue → HeapValue → ClassNo → Result (Option ObjNo) HeapFault → Type 0
CopiesText None old new class result = (result ≡ Ok None) × (new ≡ old)
CopiesText (Some units) old new class result = Copies old new (fresh class (Text units)) result

-- ---- changes of one object

-- the heap whose object of this number is changed so; a number of no object changes nothing
abbrev pub with_changed : HeapValue → ObjNo → (Object → Object) → HeapValue
with_changed heap n change = record heap { objects = option_map_or (λ o. slice_set heap.objects (n.0 - 1) (change o)) (object_at heap n) heap.objects }

-- the same, of what the object holds
abbrev pub with_content : HeapValue → ObjNo → (Content → Content) → HeapValue
with_content heap n change = with_changed heap n (λ o. record o { content = change o.content })

-- a value put at a place of an instance's fields
abbrev pub put_field : ℕ → Value → Content → Content
put_field place value (Fields values) = Fields (slice_set values place value)
put_field place value content = content

-- a value put at a place of an array's elements
abbrev pub put_elem : ℕ → Value → Content → Content
put_elem place value (Elements values) = Elements (slice_set values place value)
put_elem place value content = content

-- units put behind those of a text that the program made
abbrev pub put_behind : List ℕ → Content → Content
put_behind more (Text units) = Text (units ++ more)
put_behind more content = content

-- the units of the text at a place are put behind the text at another place or the same
abbrev pub PutsTextOf : List Object → List Object → ℕ → ℕ → Type 0
PutsTextOf old new place from = (was other : Object) → slice_get old place ≡ Some was → slice_get old from ≡ Some other → new ≡ slice_set old place (record was { content = put_behind (units_of other.content) was.content })

-- the heap with another value in a field
abbrev pub with_field : HeapValue → ObjNo → ℕ → Value → HeapValue
with_field heap n place value = with_content heap n (put_field place value)

-- the heap with another value in an element
abbrev pub with_elem : HeapValue → ObjNo → ℕ → Value → HeapValue
with_elem heap n place value = with_content heap n (put_elem place value)

-- the heap with another reference at an object's side
abbrev pub with_side : HeapValue → ObjNo → Option ObjNo → HeapValue
with_side heap n side = with_changed heap n (λ o. record o { side = side })

-- the heap with more units in a text
abbrev pub with_more : HeapValue → ObjNo → List ℕ → HeapValue
with_more heap n units = with_content heap n (put_behind units)
