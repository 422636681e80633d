-- What the methods of String, StringBuilder and PrintStream do (the Java library, `java.lang` and `java.io`). A text is the list of its
-- UTF-16 units.
use Rattle.std.specs.Prelude.{ℕ, ◌+◌, false, ◌==◌, nat_le, ℤ, pos, negsuc, List, [], ◌∷◌, ◌++◌, length, map, slice_get, Option, Some, None, unwrap_or, bytes_eq, encode_utf8_all, codes, if◌then◌else◌}
use Rattle.std.specs.Option.{option_map_or}
use Rattle.std.specs.Ordering.{int_eq}
use Rattle.std.specs.Fmt.{signed_decimal}
use Rattle.std.specs.Char.Utf16.{utf16_chars}
use Rattle.ti_ids.specs.declared.number.ObjNo.{ObjNo}
use Rattle.ti_ids.specs.declared.value.Value.{Value}
use Rattle.ti_ids.specs.declared.value.Value.TheVariants as value
use Rattle.jv_number.specs.Numbers.{modulo}
use Rattle.java_heap.specs.declared.object.Content.TheVariants.{Text}
use Rattle.java_heap.specs.declared.object.TheConstants.{STRING}
use Rattle.java_heap.specs.Heaps.{HeapValue, class_at, text_at, words_taken}
use Rattle.machine_state.specs.Acts.{Changes, PutsBehind, Prints}
use Rattle.instruction_effect.specs.Outcomes.{Outcome, misfit, or_misfit}
use Rattle.instruction_effect.specs.BaseForms.{BaseCall, done_by, gives_value, gives_made, makes, fails, fills}
use Rattle.instruction_effect.specs.BaseObjects.{bit}

-- ---- what values are as texts

-- how a type's values are written, where the value is one of the type
abbrev pub Writing : Type 0
Writing = HeapValue → Value → Option (List ℕ)

-- I and J: in decimal, with `-` before a negative number
abbrev pub int_text : Writing
int_text heap (value.Int n) = Some (signed_decimal n)
int_text heap _ = None

abbrev pub long_text : Writing
long_text heap (value.Long n) = Some (signed_decimal n)
long_text heap _ = None

-- C: the unit of the low 16 bits
abbrev pub char_text : Writing
char_text heap (value.Int n) = Some (modulo n 0x1_0000 ∷ [])
char_text heap _ = None

-- Z: `false` for 0, and `true` for every other number
abbrev pub boolean_text : Writing
boolean_text heap (value.Int n) = Some (if int_eq n (pos 0) then codes "false" else codes "true")
boolean_text heap _ = None

-- a String, or null
abbrev pub string_text : Writing
string_text heap (value.Ref None) = Some (codes "null")
string_text heap (value.Ref (Some o)) = text_at heap o
string_text heap _ = None

-- ---- String

-- `length`
abbrev pub string_length : BaseCall → List Value → Outcome
string_length c (value.Ref (Some o) ∷ []) = or_misfit (text_at c.site.core.heap o) (λ units. gives_value c (value.Int (pos (length units))))
string_length c _ = misfit

-- `charAt`: an index that isn't one of the text's throws
abbrev pub unit_at : List ℕ → ℤ → Option ℕ
unit_at units (pos index) = slice_get units index
unit_at units (negsuc n) = None

abbrev pub gives_unit : BaseCall → Option ℕ → Outcome
gives_unit c None = fails c (codes "java/lang/StringIndexOutOfBoundsException")
gives_unit c (Some unit) = gives_value c (value.Int (pos unit))

abbrev pub char_at : BaseCall → List Value → Outcome
char_at c (value.Ref (Some o) ∷ value.Int index ∷ []) = or_misfit (text_at c.site.core.heap o) (λ units. gives_unit c (unit_at units index))
char_at c _ = misfit

-- `equals`: a String of the same units
abbrev pub string_at : HeapValue → Option ObjNo → Option (List ℕ)
string_at heap None = None
string_at heap (Some o) = if option_map_or (λ n. n.0 == STRING.0) (class_at heap o) false then text_at heap o else None

abbrev pub equal_strings : BaseCall → List Value → Outcome
equal_strings c (value.Ref (Some o) ∷ value.Ref other ∷ []) =
    or_misfit (text_at c.site.core.heap o) (λ units. gives_value c (bit (option_map_or (bytes_eq units) (string_at c.site.core.heap other) false)))
equal_strings c _ = misfit

-- ---- StringBuilder

-- `append`: the units are put behind the builder's, where the heap has room for them, and the builder is given.
abbrev pub grows_by : BaseCall → ObjNo → List ℕ → Outcome
grows_by c o units =
    if nat_le (words_taken c.site.core.heap + length units) c.site.core.heap.limit then gives_made c (Changes (PutsBehind o units) ∷ []) o
    else fills c

abbrev pub appends : Writing → BaseCall → List Value → Outcome
appends text c (value.Ref (Some o) ∷ v ∷ []) = or_misfit (text c.site.core.heap v) (grows_by c o)
appends text c _ = misfit

-- `toString`: a new String of the builder's units
abbrev pub makes_string : BaseCall → List Value → Outcome
makes_string c (value.Ref (Some o) ∷ []) = or_misfit (text_at c.site.core.heap o) (λ units. makes c STRING (Text units) (codes "java/lang/String"))
makes_string c _ = misfit

-- ---- PrintStream

-- the text of one call as UTF-8, with `?` for each surrogate that has no partner in it
abbrev pub printed_bytes : List ℕ → List ℕ
printed_bytes units = encode_utf8_all (map (λ char. unwrap_or char 63) (utf16_chars units))

-- `print` of a value; `println` of one puts a line feed behind it
abbrev pub prints : Writing → List ℕ → BaseCall → List Value → Outcome
prints text end c (receiver ∷ v ∷ []) = or_misfit (text c.site.core.heap v) (λ units. done_by c (Changes (Prints (printed_bytes units ++ end)) ∷ []))
prints text end c _ = misfit

-- `println` of nothing
abbrev pub prints_line : BaseCall → Outcome
prints_line c = done_by c (Changes (Prints (10 ∷ [])) ∷ [])
