-- What shows in code doesn't depend on what follows it.
use Rattle.std.proofs.Common.{ℕ, ◌+◌, ◌-◌, Bool, List, ◌++◌, length, refl, ap, ◌≡◌}
use Rattle.std.specs.Prelude.{◌==◌, ◌||◌, nat_lt}
use Rattle.class_code.specs.declared.instr.Instr.{Instr}
use Rattle.class_tree.specs.declared.pool.Const.{Const}
use Rattle.class_tree.specs.declared.frames.Chopped.{Chopped}
use Rattle.class_tree.specs.declared.frames.Chopped.TheVariants as chopped
use Rattle.class_tree.specs.declared.body.CodeAttr.TheVariants as code_attr
use Rattle.class_tree.specs.Tree.{names_class}
use Rattle.class_tree.specs.CodeRules.{is_place, is_range_end, is_catch_type, is_stack_map}
use Rattle.classfile_items.specs.declared.fault.ReadClassFault.TheVariants.{BadTag, BadIndex, BadCode, Floating}
use Rattle.classfile_items.specs.Reading.{offset}
use Rattle.classfile_items.proofs.Stays.{Stays, with, value, refused, chain, on_test, on_provided, offset_same, u1_stays, u2_stays, counted_stays, text_index_stays, kept_stays, measured_stays}
use Rattle.classfile_code.specs.FrameReading.{class_index, object_type, uninitialized_type, tagged_type, type_at, chop, same_extended, one_item, extended, append_one, append_two, append_three, full, tagged_frame, frame_at}
use Rattle.classfile_code.specs.CodeReading.{place, catch_type, handler, raw_attr, frames_attr, code_attr_at, code}
use Rattle.classfile_code.proofs.InstrStays.{code_array_stays}

module _ (pool : List Const) (end : ℕ) (more : List ℕ) where
  -- ---- stack maps

  class_index_stays : (bytes : List ℕ) → Stays end (with more) (class_index pool end bytes) (class_index pool (end + length more) (bytes ++ more))
  class_index_stays bytes = chain (u2_stays end more bytes) _ (λ n. on_provided (names_class pool n.0) n (ap BadIndex (offset_same end more bytes)) refl)

  object_type_stays : (bytes : List ℕ) → Stays end (with more) (object_type pool end bytes) (object_type pool (end + length more) (bytes ++ more))
  object_type_stays bytes = chain (class_index_stays bytes) _ (λ n. value)

  uninitialized_type_stays : (bytes : List ℕ) → Stays end (with more) (uninitialized_type end bytes) (uninitialized_type (end + length more) (bytes ++ more))
  uninitialized_type_stays bytes = chain (u2_stays end more bytes) _ (λ n. value)

  tagged_type_stays : (at later tag : ℕ) (bytes : List ℕ) → at ≡ later → Stays end (with more) (tagged_type pool end at tag bytes) (tagged_type pool (end + length more) later tag (bytes ++ more))
  tagged_type_stays at later tag bytes same =
      on_test (tag == 0) value
      (on_test (tag == 1) value
      (on_test (tag == 2 || tag == 3) (refused (ap Floating same))
      (on_test (tag == 4) value
      (on_test (tag == 5) value
      (on_test (tag == 6) value
      (on_test (tag == 7) (object_type_stays bytes)
      (on_test (tag == 8) (uninitialized_type_stays bytes)
      (refused (ap BadTag same)))))))))

  type_stays : (bytes : List ℕ) → Stays end (with more) (type_at pool end bytes) (type_at pool (end + length more) (bytes ++ more))
  unfolding type_at
  type_stays bytes = chain (u1_stays end more bytes) _ (λ tag. tagged_type_stays (offset end bytes) (offset (end + length more) (bytes ++ more)) tag.0 tag.1 (offset_same end more bytes))

  chop_stays : (count : Chopped) (bytes : List ℕ) → Stays end (with more) (chop end count bytes) (chop (end + length more) count (bytes ++ more))
  chop_stays count bytes = chain (u2_stays end more bytes) _ (λ d. value)

  same_extended_stays : (bytes : List ℕ) → Stays end (with more) (same_extended end bytes) (same_extended (end + length more) (bytes ++ more))
  same_extended_stays bytes = chain (u2_stays end more bytes) _ (λ d. value)

  one_item_stays : (delta : ℕ) (bytes : List ℕ) → Stays end (with more) (one_item pool end delta bytes) (one_item pool (end + length more) delta (bytes ++ more))
  one_item_stays delta bytes = chain (type_stays bytes) _ (λ t. value)

  extended_stays : (bytes : List ℕ) → Stays end (with more) (extended pool end bytes) (extended pool (end + length more) (bytes ++ more))
  extended_stays bytes = chain (u2_stays end more bytes) _ (λ d. chain (type_stays d.1) _ (λ t. value))

  append_one_stays : (bytes : List ℕ) → Stays end (with more) (append_one pool end bytes) (append_one pool (end + length more) (bytes ++ more))
  append_one_stays bytes = chain (u2_stays end more bytes) _ (λ d. chain (type_stays d.1) _ (λ a. value))

  append_two_stays : (bytes : List ℕ) → Stays end (with more) (append_two pool end bytes) (append_two pool (end + length more) (bytes ++ more))
  append_two_stays bytes = chain (u2_stays end more bytes) _ (λ d. chain (type_stays d.1) _ (λ a. chain (type_stays a.1) _ (λ b. value)))

  append_three_stays : (bytes : List ℕ) → Stays end (with more) (append_three pool end bytes) (append_three pool (end + length more) (bytes ++ more))
  append_three_stays bytes = chain (u2_stays end more bytes) _ (λ d. chain (type_stays d.1) _ (λ a. chain (type_stays a.1) _ (λ b. chain (type_stays b.1) _ (λ c. value))))

  full_stays : (bytes : List ℕ) → Stays end (with more) (full pool end bytes) (full pool (end + length more) (bytes ++ more))
  full_stays bytes =
      chain (u2_stays end more bytes) _ (λ d. chain (counted_stays end more (type_at pool (end + length more)) type_stays d.1) _ (λ locals.
      chain (counted_stays end more (type_at pool (end + length more)) type_stays locals.1) _ (λ stack. value)))

  tagged_frame_stays : (at later tag : ℕ) (bytes : List ℕ) → at ≡ later → Stays end (with more) (tagged_frame pool end at tag bytes) (tagged_frame pool (end + length more) later tag (bytes ++ more))
  tagged_frame_stays at later tag bytes same =
      on_test (nat_lt tag 64) value
      (on_test (nat_lt tag 128) (one_item_stays (tag - 64) bytes)
      (on_test (nat_lt tag 247) (refused (ap BadTag same))
      (on_test (tag == 247) (extended_stays bytes)
      (on_test (tag == 248) (chop_stays chopped.Three bytes)
      (on_test (tag == 249) (chop_stays chopped.Two bytes)
      (on_test (tag == 250) (chop_stays chopped.One bytes)
      (on_test (tag == 251) (same_extended_stays bytes)
      (on_test (tag == 252) (append_one_stays bytes)
      (on_test (tag == 253) (append_two_stays bytes)
      (on_test (tag == 254) (append_three_stays bytes)
      (full_stays bytes)))))))))))

  frame_stays : (bytes : List ℕ) → Stays end (with more) (frame_at pool end bytes) (frame_at pool (end + length more) (bytes ++ more))
  unfolding frame_at
  frame_stays bytes = chain (u1_stays end more bytes) _ (λ tag. tagged_frame_stays (offset end bytes) (offset (end + length more) (bytes ++ more)) tag.0 tag.1 (offset_same end more bytes))

  -- ---- handlers

  place_stays : (holds : ℕ → Bool) (bytes : List ℕ) → Stays end (with more) (place end holds bytes) (place (end + length more) holds (bytes ++ more))
  place_stays holds bytes = chain (u2_stays end more bytes) _ (λ n. on_provided (holds n.0) n (ap BadCode (offset_same end more bytes)) refl)

  catch_type_stays : (bytes : List ℕ) → Stays end (with more) (catch_type end pool bytes) (catch_type (end + length more) pool (bytes ++ more))
  catch_type_stays bytes = chain (u2_stays end more bytes) _ (λ n. on_provided (is_catch_type pool n.0) n (ap BadIndex (offset_same end more bytes)) refl)

  handler_stays : (len : ℕ) (list : List (ℕ × Instr)) (bytes : List ℕ) → Stays end (with more) (handler end pool len list bytes) (handler (end + length more) pool len list (bytes ++ more))
  handler_stays len list bytes =
      chain (place_stays (is_place list) bytes) _ (λ start. chain (place_stays (is_range_end list len start.0) start.1) _ (λ last. chain (place_stays (is_place list) last.1) _ (λ target. chain (catch_type_stays target.1) _ (λ type. value))))

  -- ---- attributes, and the whole

  raw_attr_stays : (name : ℕ) (bytes : List ℕ) → Stays end (with more) (raw_attr end name bytes) (raw_attr (end + length more) name (bytes ++ more))
  raw_attr_stays name bytes = kept_stays end more (code_attr.Raw name) bytes

  frames_attr_stays : (name : ℕ) (bytes : List ℕ) → Stays end (with more) (frames_attr end pool name bytes) (frames_attr (end + length more) pool name (bytes ++ more))
  frames_attr_stays name bytes = measured_stays end more (code_attr.Frames name) _ (counted_stays end more (frame_at pool (end + length more)) frame_stays) bytes

  code_attr_stays : (bytes : List ℕ) → Stays end (with more) (code_attr_at end pool bytes) (code_attr_at (end + length more) pool (bytes ++ more))
  code_attr_stays bytes =
      chain (text_index_stays end more pool bytes) _ (λ name. on_test (is_stack_map name.0.1) (frames_attr_stays name.0.0 name.1) (raw_attr_stays name.0.0 name.1))

  pub code_stays : (major : ℕ) (bytes : List ℕ) → Stays end (with more) (code major pool end bytes) (code major pool (end + length more) (bytes ++ more))
  code_stays major bytes =
      chain (u2_stays end more bytes) _ (λ stack. chain (u2_stays end more stack.1) _ (λ locals. chain (code_array_stays major pool end more locals.1) _ (λ array.
      chain (counted_stays end more _ (handler_stays (length array.0.0) array.0.1) array.1) _ (λ handlers. chain (counted_stays end more _ code_attr_stays handlers.1) _ (λ attrs. value)))))
