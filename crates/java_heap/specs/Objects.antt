-- What one object is: JVM specification 2.4, 2.7 and 5.1. Its measure in heap words is this project's own.
use Rattle.std.specs.Prelude.{ℕ, ◌+◌, ◌==◌, Bool, true, false, List, [], length, Option, Some, None, unwrap_or, bytes_eq}
use Rattle.ti_ids.specs.declared.number.ClassNo.{ClassNo}
use Rattle.ti_ids.specs.declared.value.Value.{Value}
use Rattle.java_heap.specs.declared.object.Object.{Object}
use Rattle.java_heap.specs.declared.object.Content.{Content}
use Rattle.java_heap.specs.declared.object.Content.TheVariants.{Fields, Elements, Text, Literal, ClassObject}

-- an object as it is made: nothing stands at its side
abbrev pub fresh : ClassNo → Content → Object
fresh class content = record { class = class; content = content; side = None }

-- the heap words of an object: 2, and 1 for each field, element or UTF-16 unit
abbrev pub words_of : Content → ℕ
words_of (Fields values) = 2 + length values
words_of (Elements values) = 2 + length values
words_of (Text units) = 2 + length units
words_of (Literal units) = 2 + length units
words_of (ClassObject class) = 2

-- all values that an object holds
abbrev pub values_of : Content → List Value
values_of (Fields values) = values
values_of (Elements values) = values
values_of _ = []

-- the fields of an instance; nothing else has fields
abbrev pub fields_of : Content → Option (List Value)
fields_of (Fields values) = Some values
fields_of _ = None

-- the elements of an array
abbrev pub elements_of : Content → Option (List Value)
elements_of (Elements values) = Some values
elements_of _ = None

-- the UTF-16 units of a String or a StringBuilder
abbrev pub text_of : Content → Option (List ℕ)
text_of (Text units) = Some units
text_of (Literal units) = Some units
text_of _ = None

-- the same, where what has no text has no units
abbrev pub units_of : Content → List ℕ
units_of content = unwrap_or (text_of content) []

-- the class that a Class object stands for
abbrev pub class_named_by : Content → Option ClassNo
class_named_by (ClassObject class) = Some class
class_named_by _ = None

-- the String of the constant of these units
abbrev pub is_literal : List ℕ → Content → Bool
is_literal wanted (Literal units) = bytes_eq wanted units
is_literal wanted _ = false

-- the Class object of this class
abbrev pub is_class_object : ClassNo → Content → Bool
is_class_object wanted (ClassObject class) = wanted.0 == class.0
is_class_object wanted _ = false

-- a text that the program made
abbrev pub is_text : Content → Bool
is_text (Text units) = true
is_text _ = false
