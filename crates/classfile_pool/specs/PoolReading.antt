-- Reading the constant pool: JVM specification 4.4. Its entries are read one by one; what they name is checked when all have
-- been read, in the order of their indices.
use Rattle.std.specs.Prelude.{ℕ, zero, suc, ◌+◌, ◌-◌, ◌||◌, ◌==◌, Bool, true, false, nat_lt, if◌then◌else◌, List, [], ◌∷◌, length, Option, Some, None, Ok, Err}
use Rattle.std.specs.Option.{option_or, option_map}
use Rattle.jv_names.specs.declared.descriptor.DescFlaw.{DescFlaw}
use Rattle.jv_names.specs.declared.descriptor.DescFlaw.TheVariants as flaw
use Rattle.jv_names.specs.Names.{Name}
use Rattle.jv_names.specs.TextReading.{unit_size, unit_at}
use Rattle.class_tree.specs.declared.pool.Const.{Const}
use Rattle.class_tree.specs.declared.pool.Const.TheVariants as const
use Rattle.class_tree.specs.Tree.{text_at, names_class}
use Rattle.class_tree.specs.Spelling.{const_bytes}
use Rattle.class_tree.specs.PoolRules.{kind_of, is_name, desc_flaw, class_text_flaw, names_pair}
use Rattle.classfile_items.specs.declared.fault.ReadClassFault.{ReadClassFault}
use Rattle.classfile_items.specs.declared.fault.ReadClassFault.TheVariants.{Truncated, BadTag, BadIndex, BadText, Floating, Unsupported}
use Rattle.classfile_items.specs.Reading.{Found, ◌>>=◌, FaultOf, unless, faultless, offset, u1, u2, s4, s8}
use Rattle.class_tree.specs.declared.members.MemberKind.{MemberKind}
use Rattle.class_tree.specs.declared.members.MemberKind.TheVariants as kinds

-- ---- texts, unit by unit: section 4.4.7

-- A unit where the text has so many bytes left: it has room in the text, its bytes are there, and they spell it.
abbrev pub sized_unit : ℕ → ℕ → ℕ → List ℕ → Found ℕ
sized_unit end left size bytes =
    if nat_lt left size then Err (BadText (offset end bytes))
    else if nat_lt (length bytes) size then Err (Truncated end)
    else elim (unit_at bytes) [ None ↦ Err (BadText (offset end bytes)) | Some unit ↦ Ok unit ]

-- its first byte tells its size
abbrev pub next_unit : ℕ → ℕ → List ℕ → Found ℕ
next_unit end left [] = Err (Truncated end)
next_unit end left (first ∷ rest) = elim (unit_size first) [ None ↦ Err (BadText (offset end (first ∷ rest))) | Some size ↦ sized_unit end left size (first ∷ rest) ]

-- The units of a text of which so many bytes are left; their number is at most `most`.
abbrev pub units_from : ℕ → ℕ → ℕ → List ℕ → Found Name
units_from end zero left bytes = Ok ([], bytes)
units_from end (suc most) left bytes =
    if left == 0 then Ok ([], bytes)
    else next_unit end left bytes >>= λ unit. units_from end most (left - (length bytes - length unit.1)) unit.1 >>= λ units. Ok (unit.0 ∷ units.0, units.1)

abbrev pub text : ℕ → List ℕ → Found Const
text end bytes = u2 end bytes >>= λ len. units_from end len.0 len.0 len.1 >>= λ units. Ok (const.Utf8 units.0, units.1)

-- ---- entries

abbrev pub one_index : ℕ → (ℕ → Const) → List ℕ → Found Const
one_index end entry bytes = u2 end bytes >>= λ a. Ok (entry a.0, a.1)

abbrev pub two_indices : ℕ → (ℕ → ℕ → Const) → List ℕ → Found Const
two_indices end entry bytes = u2 end bytes >>= λ a. u2 end a.1 >>= λ b. Ok (entry a.0 b.0, b.1)

-- section 4.4.5: a Long has a second place, so that none begins at the pool's last one
abbrev pub long : ℕ → Bool → ℕ → List ℕ → Found Const
long end true at bytes = Err (BadIndex at)
long end false at bytes = s8 end bytes >>= λ n. Ok (const.Long n.0, n.1)

abbrev pub integer : ℕ → List ℕ → Found Const
integer end bytes = s4 end bytes >>= λ n. Ok (const.Integer n.0, n.1)

-- tags that begin no entry: those of floating point, those of method handles and `invokedynamic`, and those that are none
abbrev pub tag_fault : ℕ → ℕ → ReadClassFault
tag_fault at tag =
    if tag == 4 || tag == 6 then Floating at
    else if tag == 15 || tag == 16 || tag == 18 then Unsupported at
    else BadTag at

-- the entry of a tag, which stands at this offset, and whether its place is the pool's last one
abbrev pub tagged : ℕ → Bool → ℕ → ℕ → List ℕ → Found Const
tagged end last at tag bytes =
    if tag == 1 then text end bytes
    else if tag == 3 then integer end bytes
    else if tag == 5 then long end last at bytes
    else if tag == 7 then one_index end const.Class bytes
    else if tag == 8 then one_index end const.Text bytes
    else if tag == 9 then two_indices end const.Field bytes
    else if tag == 10 then two_indices end const.Method bytes
    else if tag == 11 then two_indices end const.InterfaceMethod bytes
    else if tag == 12 then two_indices end const.NameType bytes
    else Err (tag_fault at tag)

abbrev pub entry : ℕ → Bool → List ℕ → Found Const
entry end last bytes = u1 end bytes >>= λ tag. tagged end last (offset end bytes) tag.0 tag.1

abbrev pub is_long : Const → Bool
is_long (const.Long n) = true
is_long c = false

-- what stands at a place, which may be the second one of a Long, or the pool's last one
abbrev pub place : ℕ → Bool → Bool → List ℕ → Found Const
place end true last bytes = Ok (const.Unused, bytes)
place end false last bytes = entry end last bytes

-- so many places, the first of which may be the second one of a Long
abbrev pub places : ℕ → Bool → ℕ → List ℕ → Found (List Const)
places end second zero bytes = Ok ([], bytes)
places end second (suc n) bytes = place end second (n == 0) bytes >>= λ e. places end (is_long e.0) n e.1 >>= λ entries. Ok (e.0 ∷ entries.0, entries.1)

-- ---- what entries name

-- why a text is no name or descriptor of its kind, which an index at this offset names
abbrev pub text_fault : ℕ → DescFlaw → ReadClassFault
text_fault at flaw.Floating = Floating at
text_fault at flaw.Bad = BadText at

-- an index at this offset must name a text without this fault
abbrev pub named_text : ℕ → (Name → FaultOf) → Option Name → FaultOf
named_text at fault None = Some (BadIndex at)
named_text at fault (Some text) = fault text

abbrev pub member_fault : List Const → MemberKind → ℕ → ℕ → ℕ → FaultOf
member_fault pool kind at class pair = option_or (unless (names_class pool class) (BadIndex at)) (unless (names_pair pool kind pair) (BadIndex (at + 2)))

abbrev pub pair_fault : List Const → ℕ → ℕ → ℕ → FaultOf
pair_fault pool at name desc =
    let kind = kind_of (text_at pool desc) in
    option_or (named_text at (λ text. unless (is_name kind text) (BadText at)) (text_at pool name))
    (named_text (at + 2) (λ text. option_map (text_fault (at + 2)) (desc_flaw kind text)) (text_at pool desc))

-- the first fault of what an entry names, whose indices stand from this offset on
abbrev pub entry_fault : List Const → ℕ → Const → FaultOf
entry_fault pool at (const.Class name) = named_text at (λ text. option_map (text_fault at) (class_text_flaw text)) (text_at pool name)
entry_fault pool at (const.Text text) = named_text at (λ _. None) (text_at pool text)
entry_fault pool at (const.Field class pair) = member_fault pool kinds.Field at class pair
entry_fault pool at (const.Method class pair) = member_fault pool kinds.Method at class pair
entry_fault pool at (const.InterfaceMethod class pair) = member_fault pool kinds.Method at class pair
entry_fault pool at (const.NameType name desc) = pair_fault pool at name desc
entry_fault pool at e = None

-- the same of entries of which the first stands at this offset
abbrev pub entries_fault : List Const → ℕ → List Const → FaultOf
entries_fault pool at [] = None
entries_fault pool at (e ∷ entries) = option_or (entry_fault pool (at + 1) e) (entries_fault pool (at + length (const_bytes e)) entries)

-- The pool, with its count in front.
abbrev pub pool_at : ℕ → List ℕ → Found (List Const)
pool_at end bytes = u2 end bytes >>= λ n. places end false (n.0 - 1) n.1 >>= λ entries. faultless (entries_fault entries.0 (offset end n.1) entries.0) entries
