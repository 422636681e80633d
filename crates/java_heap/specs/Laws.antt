-- That each change of a heap keeps references to objects that are there: JVM specification 2.4.
use Rattle.std.specs.Prelude.{ℕ, List, Option, IfSome}
use Rattle.ti_ids.specs.declared.number.ObjNo.{ObjNo}
use Rattle.ti_ids.specs.declared.value.Value.{Value}
use Rattle.java_heap.specs.declared.object.Object.{Object}
use Rattle.java_heap.specs.Heaps.{HeapValue, IsThere, NamesThere, RefersThere, AllReferThere}
use Rattle.java_heap.specs.Changes.{Adds, with_field, with_elem, with_side, with_more}

-- a new object whose references are there
abbrev pub AddingKeepsReferences : Type 0
AddingKeepsReferences = (old new : HeapValue) (object : Object) (n : ObjNo) → AllReferThere old → RefersThere old object → Adds old new object n → AllReferThere new

-- a value in a field or an element, which names an object that is there if it names one
abbrev pub FieldsKeepReferences : Type 0
FieldsKeepReferences = (heap : HeapValue) (n : ObjNo) (place : ℕ) (value : Value) → AllReferThere heap → NamesThere heap value → AllReferThere (with_field heap n place value)

abbrev pub ElementsKeepReferences : Type 0
ElementsKeepReferences = (heap : HeapValue) (n : ObjNo) (place : ℕ) (value : Value) → AllReferThere heap → NamesThere heap value → AllReferThere (with_elem heap n place value)

-- a reference at an object's side, likewise
abbrev pub SidesKeepReferences : Type 0
SidesKeepReferences = (heap : HeapValue) (n : ObjNo) (side : Option ObjNo) → AllReferThere heap → IfSome side (IsThere heap) → AllReferThere (with_side heap n side)

-- more units of a text
abbrev pub TextsKeepReferences : Type 0
TextsKeepReferences = (heap : HeapValue) (n : ObjNo) (units : List ℕ) → AllReferThere heap → AllReferThere (with_more heap n units)
