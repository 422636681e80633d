-- References to objects that are there, in a heap that has as many objects or more.
use Rattle.std.proofs.Common.{◌≡◌, ℕ, ◌≤◌, ◌-◌, List, [], ◌∷◌, ◌++◌, length, set, Option, Some, None, refl, arith}
use Rattle.std.specs.Prelude.{All, IfSome}
use Rattle.std.specs.Option.{option_map_or}
use Rattle.std.proofs.lemmas.List.{length-set, length_push}
use Rattle.std.proofs.lemmas.List.Elements.{All-weaker, All-set, All-push}
use Rattle.std.proofs.lemmas.Option.{IfSome_then}
use Rattle.ti_ids.specs.declared.number.ObjNo.{ObjNo}
use Rattle.ti_ids.specs.declared.value.Value.{Value}
use Rattle.ti_ids.specs.declared.value.Value.TheVariants.{Int, Long, Ref}
use Rattle.java_heap.specs.declared.object.Object.{Object}
use Rattle.java_heap.specs.declared.object.Content.{Content}
use Rattle.java_heap.specs.declared.object.Content.TheVariants.{Fields, Elements, Text, Literal, ClassObject}
use Rattle.java_heap.specs.Objects.{values_of}
use Rattle.java_heap.specs.Heaps.{HeapValue, object_at, IsThere, NamesThere, RefersThere, AllReferThere}
use Rattle.java_heap.specs.Changes.{put_field, put_elem, put_behind, with_changed}
use Rattle.java_heap.proofs.Firsts.{added}
use Rattle.java_heap.proofs.Lists.{All-slice_get}
use Rattle.java_heap.proofs.Numbers.{found_place}

-- ---- more objects

there_more : (old new : HeapValue) → length old.objects ≤ length new.objects → (n : ObjNo) → IsThere old n → IsThere new n
there_more old new more n there = (there.0, omega arith)

pub side_more : (old new : HeapValue) → length old.objects ≤ length new.objects → (side : Option ObjNo) → IfSome side (IsThere old) → IfSome side (IsThere new)
side_more old new more side there = IfSome_then side there (there_more old new more)

pub names_more : (old new : HeapValue) → length old.objects ≤ length new.objects → (value : Value) → NamesThere old value → NamesThere new value
names_more old new more (Ref reference) names = side_more old new more reference names
names_more old new more (Int i) names = tt
names_more old new more (Long i) names = tt

-- what refers to objects that are there still does
pub refers_more : (old new : HeapValue) → length old.objects ≤ length new.objects → (object : Object) → RefersThere old object → RefersThere new object
refers_more old new more object refers = record {
  values = All-weaker (NamesThere old) (NamesThere new) (names_more old new more) (values_of object.content) refers.values;
  side = side_more old new more object.side refers.side;
}

-- the references of an object that is there
pub refers_at : (heap : HeapValue) (n : ObjNo) (object : Object) → AllReferThere heap → object_at heap n ≡ Some object → RefersThere heap object
refers_at heap n object refer found = All-slice_get (RefersThere heap) heap.objects (n.0 - 1) object refer (found_place heap n object found).1

-- ---- one more, and one changed

pub references_added : (heap : HeapValue) (object : Object) → AllReferThere heap → RefersThere heap object → AllReferThere (added heap object)
references_added heap object refer refers =
    let more : length heap.objects ≤ length (heap.objects ++ object ∷ []) = omega (arith, length_push heap.objects object) in
    let refers_there = refers_more heap (added heap object) more in
    All-push (RefersThere (added heap object)) heap.objects object (All-weaker (RefersThere heap) (RefersThere (added heap object)) refers_there heap.objects refer) (refers_there object refers)

pub references_changed : (heap : HeapValue) (n : ObjNo) (change : Object → Object) → AllReferThere heap → ((o : Object) → RefersThere heap o → RefersThere heap (change o)) → AllReferThere (with_changed heap n change)
references_changed heap n change refer keeps = changed (object_at heap n) refl
  where
    changed : (found : Option Object) → object_at heap n ≡ found → AllReferThere (record heap { objects = option_map_or (λ (o : Object). set heap.objects (n.0 - 1) (change o)) found heap.objects })
    changed None at = refer
    changed (Some o) at =
        let new : HeapValue = record heap { objects = set heap.objects (n.0 - 1) (change o) } in
        let more : length heap.objects ≤ length new.objects = omega (arith, length-set heap.objects (n.0 - 1) (change o)) in
        let refers_there = refers_more heap new more in
        All-set (RefersThere new) heap.objects (n.0 - 1) (change o) (refers_there (change o) (keeps o (refers_at heap n o refer at)))
        (All-weaker (RefersThere heap) (RefersThere new) refers_there heap.objects refer)

-- ---- what is put

pub field_put : (heap : HeapValue) (place : ℕ) (value : Value) (content : Content) → NamesThere heap value → All (NamesThere heap) (values_of content) → All (NamesThere heap) (values_of (put_field place value content))
field_put heap place value (Fields values) names all = All-set (NamesThere heap) values place value names all
field_put heap place value (Elements values) names all = all
field_put heap place value (Text units) names all = all
field_put heap place value (Literal units) names all = all
field_put heap place value (ClassObject class) names all = all

pub elem_put : (heap : HeapValue) (place : ℕ) (value : Value) (content : Content) → NamesThere heap value → All (NamesThere heap) (values_of content) → All (NamesThere heap) (values_of (put_elem place value content))
elem_put heap place value (Fields values) names all = all
elem_put heap place value (Elements values) names all = All-set (NamesThere heap) values place value names all
elem_put heap place value (Text units) names all = all
elem_put heap place value (Literal units) names all = all
elem_put heap place value (ClassObject class) names all = all

pub units_put : (heap : HeapValue) (units : List ℕ) (content : Content) → All (NamesThere heap) (values_of content) → All (NamesThere heap) (values_of (put_behind units content))
units_put heap units (Fields values) all = all
units_put heap units (Elements values) all = all
units_put heap units (Text text) all = all
units_put heap units (Literal text) all = all
units_put heap units (ClassObject class) all = all
