-- Reading code never finds that memory ran out.
use Rattle.std.proofs.Common.{ℕ, zero, suc, ◌+◌, ◌-◌, Bool, List, [], ◌∷◌, length, take, Some, None, Result, Ok, Err}
use Rattle.std.specs.Prelude.{◌==◌, ◌||◌, nat_lt}
use Rattle.class_code.specs.declared.instr.Instr.{Instr}
use Rattle.class_code.specs.declared.fault.InstrFault.{InstrFault}
use Rattle.class_code.specs.declared.fault.InstrFault.TheVariants as instr_fault
use Rattle.class_code.specs.Listing.{astray}
use Rattle.class_code.specs.PoolUses.{pool_use_at}
use Rattle.class_code.specs.CodeReading.{instr_at}
use Rattle.class_tree.specs.declared.pool.Const.{Const}
use Rattle.class_tree.specs.declared.frames.Chopped.{Chopped}
use Rattle.class_tree.specs.declared.frames.Chopped.TheVariants as chopped
use Rattle.class_tree.specs.declared.body.CodeAttr.TheVariants as code_attr
use Rattle.class_tree.specs.Tree.{names_class}
use Rattle.class_tree.specs.CodeRules.{is_met, is_place, is_range_end, is_catch_type, is_code_length, is_stack_map}
use Rattle.classfile_items.specs.declared.fault.ReadClassFault.TheVariants.{BadCode}
use Rattle.classfile_items.specs.Reading.{FaultOf, offset}
use Rattle.classfile_code.specs.FrameReading.{class_index, object_type, uninitialized_type, tagged_type, type_at, chop, same_extended, one_item, extended, append_one, append_two, append_three, full, tagged_frame, frame_at}
use Rattle.classfile_code.specs.CodeReading.{index_fault, stopped, or_stopped, instr_of, instrs_from, instrs, astray_fault, listed, code_array, place, catch_type, handler, raw_attr, frames_attr, code_attr_at, code}
use Rattle.classfile_items.proofs.NeverMemory.{NeverMemory, IsOfBytes, IfFault, value, refused, chain, on_test, on_provided, on_faultless, on_fault, on_unless, u1_never, u2_never, u4_never, counted_never, text_index_never, kept_never, measured_never}

-- ---- stack maps

class_index_never : (pool : List Const) (end : ℕ) (bytes : List ℕ) → NeverMemory (class_index pool end bytes)
class_index_never pool end bytes = chain (u2_never end bytes) (λ n. on_provided (names_class pool n.0) _ n tt)

object_type_never : (pool : List Const) (end : ℕ) (bytes : List ℕ) → NeverMemory (object_type pool end bytes)
object_type_never pool end bytes = chain (class_index_never pool end bytes) (λ n. value)

uninitialized_type_never : (end : ℕ) (bytes : List ℕ) → NeverMemory (uninitialized_type end bytes)
uninitialized_type_never end bytes = chain (u2_never end bytes) (λ n. value)

tagged_type_never : (pool : List Const) (end at tag : ℕ) (bytes : List ℕ) → NeverMemory (tagged_type pool end at tag bytes)
tagged_type_never pool end at tag bytes =
    on_test (tag == 0) value
    (on_test (tag == 1) value
    (on_test (tag == 2 || tag == 3) (refused tt)
    (on_test (tag == 4) value
    (on_test (tag == 5) value
    (on_test (tag == 6) value
    (on_test (tag == 7) (object_type_never pool end bytes)
    (on_test (tag == 8) (uninitialized_type_never end bytes)
    (refused tt))))))))

type_never : (pool : List Const) (end : ℕ) (bytes : List ℕ) → NeverMemory (type_at pool end bytes)
unfolding type_at
type_never pool end bytes = chain (u1_never end bytes) (λ tag. tagged_type_never pool end (offset end bytes) tag.0 tag.1)

chop_never : (end : ℕ) (count : Chopped) (bytes : List ℕ) → NeverMemory (chop end count bytes)
chop_never end count bytes = chain (u2_never end bytes) (λ d. value)

same_extended_never : (end : ℕ) (bytes : List ℕ) → NeverMemory (same_extended end bytes)
same_extended_never end bytes = chain (u2_never end bytes) (λ d. value)

one_item_never : (pool : List Const) (end delta : ℕ) (bytes : List ℕ) → NeverMemory (one_item pool end delta bytes)
one_item_never pool end delta bytes = chain (type_never pool end bytes) (λ t. value)

extended_never : (pool : List Const) (end : ℕ) (bytes : List ℕ) → NeverMemory (extended pool end bytes)
extended_never pool end bytes = chain (u2_never end bytes) (λ d. chain (type_never pool end d.1) (λ t. value))

append_one_never : (pool : List Const) (end : ℕ) (bytes : List ℕ) → NeverMemory (append_one pool end bytes)
append_one_never pool end bytes = chain (u2_never end bytes) (λ d. chain (type_never pool end d.1) (λ a. value))

append_two_never : (pool : List Const) (end : ℕ) (bytes : List ℕ) → NeverMemory (append_two pool end bytes)
append_two_never pool end bytes = chain (u2_never end bytes) (λ d. chain (type_never pool end d.1) (λ a. chain (type_never pool end a.1) (λ b. value)))

append_three_never : (pool : List Const) (end : ℕ) (bytes : List ℕ) → NeverMemory (append_three pool end bytes)
append_three_never pool end bytes = chain (u2_never end bytes) (λ d. chain (type_never pool end d.1) (λ a. chain (type_never pool end a.1) (λ b. chain (type_never pool end b.1) (λ c. value))))

full_never : (pool : List Const) (end : ℕ) (bytes : List ℕ) → NeverMemory (full pool end bytes)
full_never pool end bytes = chain (u2_never end bytes) (λ d. chain (counted_never end (type_never pool end) d.1) (λ locals. chain (counted_never end (type_never pool end) locals.1) (λ stack. value)))

tagged_frame_never : (pool : List Const) (end at tag : ℕ) (bytes : List ℕ) → NeverMemory (tagged_frame pool end at tag bytes)
tagged_frame_never pool end at tag bytes =
    on_test (nat_lt tag 64) value
    (on_test (nat_lt tag 128) (one_item_never pool end (tag - 64) bytes)
    (on_test (nat_lt tag 247) (refused tt)
    (on_test (tag == 247) (extended_never pool end bytes)
    (on_test (tag == 248) (chop_never end chopped.Three bytes)
    (on_test (tag == 249) (chop_never end chopped.Two bytes)
    (on_test (tag == 250) (chop_never end chopped.One bytes)
    (on_test (tag == 251) (same_extended_never end bytes)
    (on_test (tag == 252) (append_one_never pool end bytes)
    (on_test (tag == 253) (append_two_never pool end bytes)
    (on_test (tag == 254) (append_three_never pool end bytes)
    (full_never pool end bytes)))))))))))

frame_never : (pool : List Const) (end : ℕ) (bytes : List ℕ) → NeverMemory (frame_at pool end bytes)
unfolding frame_at
frame_never pool end bytes = chain (u1_never end bytes) (λ tag. tagged_frame_never pool end (offset end bytes) tag.0 tag.1)

-- ---- instructions

stopped_of : (end : ℕ) (cut : Bool) (at : ℕ) (why : InstrFault) → IsOfBytes (stopped end cut at why)
stopped_of end cut at instr_fault.Floating = tt
stopped_of end cut at instr_fault.Unsupported = tt
stopped_of end cut at instr_fault.BadOperand = tt
stopped_of end cut at instr_fault.Truncated = on_fault cut _ _ tt tt

or_stopped_never : {A : Type 0} (end : ℕ) (cut : Bool) (at : ℕ) (read : Result A InstrFault) → NeverMemory (or_stopped end cut at read)
or_stopped_never end cut at (Ok x) = value
or_stopped_never end cut at (Err why) = refused (stopped_of end cut at why)

astray_of : (at : ℕ) (list : List (ℕ × Instr)) → IfFault (astray_fault at list)
astray_of at list = elim (astray list) as (λ o. IfFault (elim o as (λ _. FaultOf) [ None ↦ None | Some p ↦ Some (BadCode (at + p.0)) ])) [ None ↦ tt | Some p ↦ tt ]

module _ (major : ℕ) (pool : List Const) (end : ℕ) where
  index_of : (at : ℕ) (bytes : List ℕ) → IfFault (index_fault major pool at bytes)
  index_of at bytes = on_unless (is_met major pool (pool_use_at bytes)) _ tt

  instr_never : (cut : Bool) (at pc : ℕ) (bytes : List ℕ) → NeverMemory (instr_of major pool end cut at pc bytes)
  instr_never cut at pc bytes = chain (on_faultless _ bytes (index_of (at + 1) bytes)) (λ b. or_stopped_never end cut at (instr_at pc b))

  instrs_from_never : (cut : Bool) (at most pc : ℕ) (bytes : List ℕ) → NeverMemory (instrs_from major pool end cut at most pc bytes)
  instrs_from_never cut at zero pc bytes = value
  instrs_from_never cut at (suc most) pc [] = on_test cut (refused tt) value
  instrs_from_never cut at (suc most) pc (b ∷ bytes) =
      chain (instr_never cut at pc (b ∷ bytes)) (λ i. let len = length (b ∷ bytes) - length i.1 in chain (instrs_from_never cut (at + len) most (pc + len) i.1) (λ is. value))

  instrs_never : (len : ℕ) (bytes : List ℕ) → NeverMemory (instrs major pool end len bytes)
  instrs_never len bytes = instrs_from_never (nat_lt (length bytes) len) (offset end bytes) len 0 (take len bytes)

  listed_never : (len : ℕ) (bytes : List ℕ) → NeverMemory (listed major pool end len bytes)
  listed_never len bytes = chain (instrs_never len bytes) (λ list. on_faultless _ _ (astray_of (offset end bytes) list))

  code_array_never : (bytes : List ℕ) → NeverMemory (code_array major pool end bytes)
  code_array_never bytes = chain (u4_never end bytes) (λ n. chain (on_provided (is_code_length n.0) _ n tt) (λ m. listed_never m.0 m.1))

-- ---- handlers

place_never : (end : ℕ) (holds : ℕ → Bool) (bytes : List ℕ) → NeverMemory (place end holds bytes)
place_never end holds bytes = chain (u2_never end bytes) (λ n. on_provided (holds n.0) _ n tt)

catch_type_never : (end : ℕ) (pool : List Const) (bytes : List ℕ) → NeverMemory (catch_type end pool bytes)
catch_type_never end pool bytes = chain (u2_never end bytes) (λ n. on_provided (is_catch_type pool n.0) _ n tt)

handler_never : (end : ℕ) (pool : List Const) (len : ℕ) (list : List (ℕ × Instr)) (bytes : List ℕ) → NeverMemory (handler end pool len list bytes)
handler_never end pool len list bytes =
    chain (place_never end (is_place list) bytes) (λ start. chain (place_never end (is_range_end list len start.0) start.1) (λ last. chain (place_never end (is_place list) last.1) (λ target. chain (catch_type_never end pool target.1) (λ type. value))))

-- ---- attributes, and the whole

raw_attr_never : (end name : ℕ) (bytes : List ℕ) → NeverMemory (raw_attr end name bytes)
raw_attr_never end name bytes = kept_never (code_attr.Raw name) end bytes

frames_attr_never : (end : ℕ) (pool : List Const) (name : ℕ) (bytes : List ℕ) → NeverMemory (frames_attr end pool name bytes)
frames_attr_never end pool name bytes = measured_never (code_attr.Frames name) end (counted_never end (frame_never pool end)) bytes

code_attr_never : (end : ℕ) (pool : List Const) (bytes : List ℕ) → NeverMemory (code_attr_at end pool bytes)
code_attr_never end pool bytes =
    chain (text_index_never end pool bytes) (λ name. on_test (is_stack_map name.0.1) (frames_attr_never end pool name.0.0 name.1) (raw_attr_never end name.0.0 name.1))

pub code_never : (major : ℕ) (pool : List Const) (end : ℕ) (bytes : List ℕ) → NeverMemory (code major pool end bytes)
code_never major pool end bytes =
    chain (u2_never end bytes) (λ stack. chain (u2_never end stack.1) (λ locals. chain (code_array_never major pool end locals.1) (λ array.
    chain (counted_never end (handler_never end pool (length array.0.0) array.0.1) array.1) (λ handlers. chain (counted_never end (code_attr_never end pool) handlers.1) (λ attrs. value)))))
