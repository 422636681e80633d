-- What class files read as, computed: `examples/Add.class`, and files that differ from it.
use Rattle.std.proofs.Common.{◌≡◌, ℕ, zero, suc, List, [], ◌∷◌, ◌++◌, take, drop, Option, Some, None, Ok, Err, refl}
use Rattle.std.specs.Prelude.{map, slice_set, codes}
use Rattle.jv_names.specs.Utf8.{unit_bytes}
use Rattle.jv_names.specs.TextReading.{unit_at}
use Rattle.jv_names.specs.DescriptorReading.{class_end, dimensions, split_class, split_dimensions, read_class, read_element, read_type}
use Rattle.jv_names.specs.DescriptorFlaws.{read_field, read_result, read_method, field_flaw, method_flaw}
use Rattle.class_code.specs.FormSearch.{form_at}
use Rattle.classfile_items.specs.declared.fault.ReadClassFault.{ReadClassFault}
use Rattle.classfile_items.specs.declared.fault.ReadClassFault.TheVariants.{Magic, Version, Truncated, Trailing, BadTag, BadIndex, BadText, BadLength, BadMember, Floating, Unsupported, BadCode, Duplicate}
use Rattle.classfile_items.specs.Reading.{Checked, u1, u2, u4, s4, u8, s8, raw, many, counted}
use Rattle.classfile_code.specs.FrameReading.{type_at, frame_at}
use Rattle.classfile_read.specs.ClassReading.{class_of}
use Rattle.class_tree.specs.Spelling as bytes_of

abbrev fault : {A : Type 0} → Checked A → Option ReadClassFault
fault (Ok x) = None
fault (Err found) = Some found

-- `examples/Add.class`
abbrev add : List ℕ
add =
    202 ∷ 254 ∷ 186 ∷ 190 ∷ 0 ∷ 0 ∷ 0 ∷ 52 ∷ 0 ∷ 20 ∷ 1 ∷ 0 ∷ 3 ∷ 65 ∷ 100 ∷ 100 ∷ 7 ∷ 0 ∷ 1 ∷ 1 ∷ 0 ∷ 16 ∷ 106 ∷ 97 ∷
    118 ∷ 97 ∷ 47 ∷ 108 ∷ 97 ∷ 110 ∷ 103 ∷ 47 ∷ 79 ∷ 98 ∷ 106 ∷ 101 ∷ 99 ∷ 116 ∷ 7 ∷ 0 ∷ 3 ∷ 1 ∷ 0 ∷ 4 ∷ 109 ∷ 97 ∷
    105 ∷ 110 ∷ 1 ∷ 0 ∷ 22 ∷ 40 ∷ 91 ∷ 76 ∷ 106 ∷ 97 ∷ 118 ∷ 97 ∷ 47 ∷ 108 ∷ 97 ∷ 110 ∷ 103 ∷ 47 ∷ 83 ∷ 116 ∷ 114 ∷
    105 ∷ 110 ∷ 103 ∷ 59 ∷ 41 ∷ 86 ∷ 1 ∷ 0 ∷ 4 ∷ 67 ∷ 111 ∷ 100 ∷ 101 ∷ 1 ∷ 0 ∷ 16 ∷ 106 ∷ 97 ∷ 118 ∷ 97 ∷ 47 ∷ 108 ∷
    97 ∷ 110 ∷ 103 ∷ 47 ∷ 83 ∷ 121 ∷ 115 ∷ 116 ∷ 101 ∷ 109 ∷ 7 ∷ 0 ∷ 8 ∷ 1 ∷ 0 ∷ 3 ∷ 111 ∷ 117 ∷ 116 ∷ 1 ∷ 0 ∷ 21 ∷
    76 ∷ 106 ∷ 97 ∷ 118 ∷ 97 ∷ 47 ∷ 105 ∷ 111 ∷ 47 ∷ 80 ∷ 114 ∷ 105 ∷ 110 ∷ 116 ∷ 83 ∷ 116 ∷ 114 ∷ 101 ∷ 97 ∷ 109 ∷
    59 ∷ 12 ∷ 0 ∷ 10 ∷ 0 ∷ 11 ∷ 9 ∷ 0 ∷ 9 ∷ 0 ∷ 12 ∷ 1 ∷ 0 ∷ 19 ∷ 106 ∷ 97 ∷ 118 ∷ 97 ∷ 47 ∷ 105 ∷ 111 ∷ 47 ∷ 80 ∷
    114 ∷ 105 ∷ 110 ∷ 116 ∷ 83 ∷ 116 ∷ 114 ∷ 101 ∷ 97 ∷ 109 ∷ 7 ∷ 0 ∷ 14 ∷ 1 ∷ 0 ∷ 7 ∷ 112 ∷ 114 ∷ 105 ∷ 110 ∷ 116 ∷
    108 ∷ 110 ∷ 1 ∷ 0 ∷ 4 ∷ 40 ∷ 73 ∷ 41 ∷ 86 ∷ 12 ∷ 0 ∷ 16 ∷ 0 ∷ 17 ∷ 10 ∷ 0 ∷ 15 ∷ 0 ∷ 18 ∷ 0 ∷ 33 ∷ 0 ∷ 2 ∷ 0 ∷ 4 ∷
    0 ∷ 0 ∷ 0 ∷ 0 ∷ 0 ∷ 1 ∷ 0 ∷ 9 ∷ 0 ∷ 5 ∷ 0 ∷ 6 ∷ 0 ∷ 1 ∷ 0 ∷ 7 ∷ 0 ∷ 0 ∷ 0 ∷ 22 ∷ 0 ∷ 3 ∷ 0 ∷ 1 ∷ 0 ∷ 0 ∷ 0 ∷ 10 ∷
    178 ∷ 0 ∷ 13 ∷ 5 ∷ 6 ∷ 96 ∷ 182 ∷ 0 ∷ 19 ∷ 177 ∷ 0 ∷ 0 ∷ 0 ∷ 0 ∷ 0 ∷ 0 ∷ []

whole : fault (class_of add) ≡ None
unfolding u1 u2 u4 s4 u8 s8 raw many counted type_at frame_at class_end dimensions split_class split_dimensions read_class read_element read_type read_field read_result read_method field_flaw method_flaw unit_at unit_bytes form_at bytes_of.u2
whole = refl

-- one byte changed: where, to what, and the fault
abbrev changes : List (ℕ × ℕ × ReadClassFault)
changes =
    (0, 0x00, Magic 0) ∷ (7, 0x35, Version 6) ∷ (10, 0x02, BadTag 10) ∷ (13, 0x00, BadText 13) ∷ (18, 0x02, BadIndex 17) ∷ (197, 0x01, BadIndex 196) ∷ (199, 0x00, BadIndex 198)
    ∷ (206, 0x01, Unsupported 206) ∷ (206, 0x04, BadMember 206) ∷ (209, 0x02, BadIndex 208) ∷ (209, 0x03, BadText 208) ∷ (211, 0x01, BadText 210) ∷ (215, 0x05, BadMember 206)
    ∷ (219, 0x17, BadLength 216) ∷ (227, 0x00, BadLength 224) ∷ (233, 0xba, Unsupported 233) ∷ (233, 0x62, Floating 233) ∷ (237, 0xb6, BadCode 237) ∷ (243, 0x01, Truncated 244) ∷ []

changed : map (λ c. fault (class_of (slice_set add c.0 c.1))) changes ≡ map (λ c. Some c.2) changes
unfolding u1 u2 u4 s4 u8 s8 raw many counted type_at frame_at class_end dimensions split_class split_dimensions read_class read_element read_type read_field read_result read_method field_flaw method_flaw unit_at unit_bytes form_at bytes_of.u2
changed = refl

-- the numbers below this one
abbrev below : ℕ → List ℕ
below zero = []
below (suc n) = n ∷ below n

-- the first bytes of it
cut_off : map (λ n. fault (class_of (take n add))) (below 244) ≡ map (λ n. Some (Truncated n)) (below 244)
unfolding u1 u2 u4 s4 u8 s8 raw many counted type_at frame_at class_end dimensions split_class split_dimensions read_class read_element read_type read_field read_result read_method field_flaw method_flaw unit_at unit_bytes form_at bytes_of.u2
cut_off = refl

one_byte_more : fault (class_of (add ++ 0 ∷ [])) ≡ Some (Trailing 244)
unfolding u1 u2 u4 s4 u8 s8 raw many counted type_at frame_at class_end dimensions split_class split_dimensions read_class read_element read_type read_field read_result read_method field_flaw method_flaw unit_at unit_bytes form_at bytes_of.u2
one_byte_more = refl

-- the bytes from one place to another
abbrev part : ℕ → ℕ → List ℕ
part from to = drop from (take to add)

-- the name of an array in place of the class's own
array : fault (class_of (part 0 13 ++ codes "[[I" ++ part 16 244)) ≡ Some (BadText 196)
unfolding u1 u2 u4 s4 u8 s8 raw many counted type_at frame_at class_end dimensions split_class split_dimensions read_class read_element read_type read_field read_result read_method field_flaw method_flaw unit_at unit_bytes form_at bytes_of.u2
array = refl

two_codes : fault (class_of (part 0 213 ++ 2 ∷ part 214 242 ++ part 214 244)) ≡ Some (BadMember 206)
unfolding u1 u2 u4 s4 u8 s8 raw many counted type_at frame_at class_end dimensions split_class split_dimensions read_class read_element read_type read_field read_result read_method field_flaw method_flaw unit_at unit_bytes form_at bytes_of.u2
two_codes = refl

-- a second method of this name, with the descriptor at this index
abbrev two_methods : ℕ → List ℕ
two_methods desc = part 0 205 ++ 2 ∷ part 206 242 ++ part 206 211 ++ desc ∷ part 212 244

repeated : fault (class_of (two_methods 6)) ≡ Some (Duplicate 242)
unfolding u1 u2 u4 s4 u8 s8 raw many counted type_at frame_at class_end dimensions split_class split_dimensions read_class read_element read_type read_field read_result read_method field_flaw method_flaw unit_at unit_bytes form_at bytes_of.u2
repeated = refl

overloaded : fault (class_of (two_methods 17)) ≡ None
unfolding u1 u2 u4 s4 u8 s8 raw many counted type_at frame_at class_end dimensions split_class split_dimensions read_class read_element read_type read_field read_result read_method field_flaw method_flaw unit_at unit_bytes form_at bytes_of.u2
overloaded = refl

-- A field of these flags and with the descriptor at this index, of which an attribute `ConstantValue` of this length says
-- the integer 5. The length stands at 239, and the integer's index at 243.
abbrev with_field : ℕ → ℕ → ℕ → List ℕ
with_field flags desc len =
    part 0 9 ++ 23 ∷ part 10 194 ++ 1 ∷ 0 ∷ 13 ∷ codes "ConstantValue" ++ 1 ∷ 0 ∷ 1 ∷ codes "I" ++ 3 ∷ 0 ∷ 0 ∷ 0 ∷ 5 ∷ part 194 203
    ++ 1 ∷ 0 ∷ flags ∷ 0 ∷ 10 ∷ 0 ∷ desc ∷ 0 ∷ 1 ∷ 0 ∷ 20 ∷ 0 ∷ 0 ∷ 0 ∷ len ∷ 0 ∷ 22 ∷ part 204 244

static_integer : fault (class_of (with_field 8 21 2)) ≡ None
unfolding u1 u2 u4 s4 u8 s8 raw many counted type_at frame_at class_end dimensions split_class split_dimensions read_class read_element read_type read_field read_result read_method field_flaw method_flaw unit_at unit_bytes form_at bytes_of.u2
static_integer = refl

static_too_long : fault (class_of (with_field 8 21 3)) ≡ Some (BadLength 239)
unfolding u1 u2 u4 s4 u8 s8 raw many counted type_at frame_at class_end dimensions split_class split_dimensions read_class read_element read_type read_field read_result read_method field_flaw method_flaw unit_at unit_bytes form_at bytes_of.u2
static_too_long = refl

static_object : fault (class_of (with_field 8 11 2)) ≡ Some (BadIndex 243)
unfolding u1 u2 u4 s4 u8 s8 raw many counted type_at frame_at class_end dimensions split_class split_dimensions read_class read_element read_type read_field read_result read_method field_flaw method_flaw unit_at unit_bytes form_at bytes_of.u2
static_object = refl

instance_object : fault (class_of (with_field 0 11 2)) ≡ None
unfolding u1 u2 u4 s4 u8 s8 raw many counted type_at frame_at class_end dimensions split_class split_dimensions read_class read_element read_type read_field read_result read_method field_flaw method_flaw unit_at unit_bytes form_at bytes_of.u2
instance_object = refl
