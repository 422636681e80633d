-- Reading the pool never finds that memory ran out.
use Rattle.std.proofs.Common.{ℕ, zero, suc, ◌+◌, ◌-◌, Bool, true, false, List, [], ◌∷◌, length, Option, Some, None}
use Rattle.std.specs.Prelude.{◌==◌, ◌||◌, nat_lt}
use Rattle.jv_names.specs.declared.descriptor.DescFlaw.{DescFlaw}
use Rattle.jv_names.specs.declared.descriptor.DescFlaw.TheVariants as flaw
use Rattle.jv_names.specs.Names.{Name}
use Rattle.jv_names.specs.TextReading.{unit_size, unit_at}
use Rattle.class_tree.specs.declared.pool.Const.{Const}
use Rattle.class_tree.specs.declared.pool.Const.TheVariants as const
use Rattle.class_tree.specs.declared.members.MemberKind.{MemberKind}
use Rattle.class_tree.specs.declared.members.MemberKind.TheVariants as kinds
use Rattle.class_tree.specs.Tree.{text_at, names_class}
use Rattle.class_tree.specs.Spelling.{const_bytes}
use Rattle.class_tree.specs.PoolRules.{kind_of, is_name, desc_flaw, class_text_flaw, names_pair}
use Rattle.classfile_items.specs.Reading.{FaultOf, offset}
use Rattle.classfile_pool.specs.PoolReading.{sized_unit, next_unit, units_from, text, one_index, two_indices, long, integer, tag_fault, tagged, entry, is_long, place, places, text_fault, named_text, member_fault, pair_fault, entry_fault, entries_fault, pool_at}
use Rattle.classfile_items.proofs.NeverMemory.{NeverMemory, IsOfBytes, IfFault, value, refused, chain, on_test, on_option, on_faultless, on_fault, on_unless, on_or, on_map, u1_never, u2_never, s4_never, s8_never}

-- ---- texts

sized_unit_never : (end left size : ℕ) (bytes : List ℕ) → NeverMemory (sized_unit end left size bytes)
sized_unit_never end left size bytes = on_test (nat_lt left size) (refused tt) (on_test (nat_lt (length bytes) size) (refused tt) (on_option (unit_at bytes) (refused tt) (λ unit. value)))

next_unit_never : (end left : ℕ) (bytes : List ℕ) → NeverMemory (next_unit end left bytes)
next_unit_never end left [] = refused tt
next_unit_never end left (first ∷ rest) = on_option (unit_size first) (refused tt) (λ size. sized_unit_never end left size (first ∷ rest))

units_never : (end most left : ℕ) (bytes : List ℕ) → NeverMemory (units_from end most left bytes)
units_never end zero left bytes = value
units_never end (suc most) left bytes = on_test (left == 0) value (chain (next_unit_never end left bytes) (λ unit. chain (units_never end most (left - (length bytes - length unit.1)) unit.1) (λ units. value)))

text_never : (end : ℕ) (bytes : List ℕ) → NeverMemory (text end bytes)
text_never end bytes = chain (u2_never end bytes) (λ len. chain (units_never end len.0 len.0 len.1) (λ units. value))

-- ---- entries

one_index_never : (end : ℕ) (entry : ℕ → Const) (bytes : List ℕ) → NeverMemory (one_index end entry bytes)
one_index_never end entry bytes = chain (u2_never end bytes) (λ a. value)

two_indices_never : (end : ℕ) (entry : ℕ → ℕ → Const) (bytes : List ℕ) → NeverMemory (two_indices end entry bytes)
two_indices_never end entry bytes = chain (u2_never end bytes) (λ a. chain (u2_never end a.1) (λ b. value))

long_never : (end : ℕ) (last : Bool) (at : ℕ) (bytes : List ℕ) → NeverMemory (long end last at bytes)
long_never end true at bytes = refused tt
long_never end false at bytes = chain (s8_never end bytes) (λ n. value)

integer_never : (end : ℕ) (bytes : List ℕ) → NeverMemory (integer end bytes)
integer_never end bytes = chain (s4_never end bytes) (λ n. value)

tag_fault_of : (at tag : ℕ) → IsOfBytes (tag_fault at tag)
tag_fault_of at tag = on_fault (tag == 4 || tag == 6) _ _ tt (on_fault (tag == 15 || tag == 16 || tag == 18) _ _ tt tt)

tagged_never : (end : ℕ) (last : Bool) (at tag : ℕ) (bytes : List ℕ) → NeverMemory (tagged end last at tag bytes)
tagged_never end last at tag bytes =
    on_test (tag == 1) (text_never end bytes)
    (on_test (tag == 3) (integer_never end bytes)
    (on_test (tag == 5) (long_never end last at bytes)
    (on_test (tag == 7) (one_index_never end const.Class bytes)
    (on_test (tag == 8) (one_index_never end const.Text bytes)
    (on_test (tag == 9) (two_indices_never end const.Field bytes)
    (on_test (tag == 10) (two_indices_never end const.Method bytes)
    (on_test (tag == 11) (two_indices_never end const.InterfaceMethod bytes)
    (on_test (tag == 12) (two_indices_never end const.NameType bytes)
    (refused (tag_fault_of at tag))))))))))

entry_never : (end : ℕ) (last : Bool) (bytes : List ℕ) → NeverMemory (entry end last bytes)
entry_never end last bytes = chain (u1_never end bytes) (λ tag. tagged_never end last (offset end bytes) tag.0 tag.1)

place_never : (end : ℕ) (second last : Bool) (bytes : List ℕ) → NeverMemory (place end second last bytes)
place_never end true last bytes = value
place_never end false last bytes = entry_never end last bytes

places_never : (end : ℕ) (second : Bool) (n : ℕ) (bytes : List ℕ) → NeverMemory (places end second n bytes)
places_never end second zero bytes = value
places_never end second (suc n) bytes = chain (place_never end second (n == 0) bytes) (λ e. chain (places_never end (is_long e.0) n e.1) (λ entries. value))

-- ---- what entries name

pub text_fault_of : (at : ℕ) (why : DescFlaw) → IsOfBytes (text_fault at why)
text_fault_of at flaw.Floating = tt
text_fault_of at flaw.Bad = tt

named_text_of : (at : ℕ) (fault : Name → FaultOf) (o : Option Name) → ((text : Name) → IfFault (fault text)) → IfFault (named_text at fault o)
named_text_of at fault None told = tt
named_text_of at fault (Some text) told = told text

member_fault_of : (pool : List Const) (kind : MemberKind) (at class pair : ℕ) → IfFault (member_fault pool kind at class pair)
member_fault_of pool kind at class pair = on_or _ _ (on_unless (names_class pool class) _ tt) (on_unless (names_pair pool kind pair) _ tt)

pair_fault_of : (pool : List Const) (at name desc : ℕ) → IfFault (pair_fault pool at name desc)
pair_fault_of pool at name desc =
    let kind = kind_of (text_at pool desc) in
    on_or _ _ (named_text_of at _ (text_at pool name) (λ text. on_unless (is_name kind text) _ tt))
    (named_text_of (at + 2) _ (text_at pool desc) (λ text. on_map _ (desc_flaw kind text) (text_fault_of (at + 2))))

entry_fault_of : (pool : List Const) (at : ℕ) (e : Const) → IfFault (entry_fault pool at e)
entry_fault_of pool at (const.Class name) = named_text_of at _ (text_at pool name) (λ text. on_map _ (class_text_flaw text) (text_fault_of at))
entry_fault_of pool at (const.Text text) = named_text_of at _ (text_at pool text) (λ _. tt)
entry_fault_of pool at (const.Field class pair) = member_fault_of pool kinds.Field at class pair
entry_fault_of pool at (const.Method class pair) = member_fault_of pool kinds.Method at class pair
entry_fault_of pool at (const.InterfaceMethod class pair) = member_fault_of pool kinds.Method at class pair
entry_fault_of pool at (const.NameType name desc) = pair_fault_of pool at name desc
entry_fault_of pool at e = tt

entries_fault_of : (pool : List Const) (at : ℕ) (entries : List Const) → IfFault (entries_fault pool at entries)
entries_fault_of pool at [] = tt
entries_fault_of pool at (e ∷ entries) = on_or _ _ (entry_fault_of pool (at + 1) e) (entries_fault_of pool (at + length (const_bytes e)) entries)

pub pool_never : (end : ℕ) (bytes : List ℕ) → NeverMemory (pool_at end bytes)
pool_never end bytes = chain (u2_never end bytes) (λ n. chain (places_never end false (n.0 - 1) n.1) (λ entries. on_faultless _ entries (entries_fault_of entries.0 (offset end n.1) entries.0)))
