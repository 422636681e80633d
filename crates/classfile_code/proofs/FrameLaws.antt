-- The laws of verification types and of the entries of a stack map.
use Rattle.std.proofs.Common.{◌≡◌, ℕ, ◌-◌, ◌+◌, ◌<◌, ◌≤◌, true, false, List, [], ◌∷◌, ◌++◌, Ok, refl, subst, ◌∙◌, append_assoc, arith}
use Rattle.std.specs.Prelude.{◌==◌, ◌||◌, ◌&&◌, nat_lt}
use Rattle.std.proofs.lemmas.Bool.Decides.{nat_tests}
use Rattle.std.proofs.lemmas.Bool.{and_parts, and_from, ltb-true, lt-ltb, ltb-false, le-ltb}
use Rattle.class_tree.specs.declared.pool.Const.{Const}
use Rattle.class_tree.specs.declared.frames.VerificationType.{VerificationType}
use Rattle.class_tree.specs.declared.frames.VerificationType.TheVariants as type
use Rattle.class_tree.specs.declared.frames.Chopped.{Chopped}
use Rattle.class_tree.specs.declared.frames.Chopped.TheVariants as chopped
use Rattle.class_tree.specs.declared.frames.Appended.{Appended}
use Rattle.class_tree.specs.declared.frames.Appended.TheVariants as appended
use Rattle.class_tree.specs.declared.frames.StackMapFrame.TheVariants as frame
use Rattle.class_tree.specs.Ranges.{is_byte, is_u2, is_short, are_counted}
use Rattle.class_tree.specs.Spelling.{u2 as u2_bytes, type_bytes, chop_tag, append_tag, appended_bytes, frame_bytes}
use Rattle.class_tree.specs.Spelling as bytes_of
use Rattle.class_tree.specs.Tree.{names_class}
use Rattle.class_tree.specs.FrameRules.{is_type, are_appended, is_frame}
use Rattle.classfile_items.specs.declared.fault.ReadClassFault.TheVariants.{BadIndex}
use Rattle.classfile_items.specs.Reading.{offset, u1}
use Rattle.classfile_code.specs.FrameReading.{class_index, object_type, uninitialized_type, tagged_type, type_at, one_item, extended, chop, same_extended, append_one, append_two, append_three, full, tagged_frame, frame_at}
use Rattle.classfile_items.proofs.Laws.{IsSoundBehind, IsSound, IsComplete, step_at, step, done, fails, on_provided, on_test, on_tag}
use Rattle.classfile_items.proofs.NumberLaws.{u1_sound, u2_sound, u2_complete}
use Rattle.classfile_items.proofs.ListLaws.{counted_sound, counted_complete}
use Rattle.classfile_items.proofs.Indices.{class_short}

-- ---- verification types are sound

pub class_index_sound : (pool : List Const) (end : ℕ) → IsSound (class_index pool end) u2_bytes (names_class pool)
class_index_sound pool end = step_at (u2_sound end) (λ began n _. on_provided (names_class pool n) (BadIndex (offset end began)) (λ names. done n refl names))

object_sound : (pool : List Const) (end : ℕ) → IsSoundBehind (7 ∷ []) (object_type pool end) type_bytes (is_type pool)
object_sound pool end = step (class_index_sound pool end) (λ n is_n. done (type.Object n) refl is_n)

uninitialized_sound : (pool : List Const) (end : ℕ) → IsSoundBehind (8 ∷ []) (uninitialized_type end) type_bytes (is_type pool)
uninitialized_sound pool end = step (u2_sound end) (λ n is_n. done (type.Uninitialized n) refl is_n)

tagged_type_sound : (pool : List Const) (end at tag : ℕ) → IsSoundBehind (tag ∷ []) (tagged_type pool end at tag) type_bytes (is_type pool)
tagged_type_sound pool end at tag =
    on_tag 0 (done type.Top refl refl) (λ _.
    on_tag 1 (done type.Integer refl refl) (λ _.
    on_test (tag == 2 || tag == 3) (λ _. fails) (λ _.
    on_tag 4 (done type.Long refl refl) (λ _.
    on_tag 5 (done type.Null refl refl) (λ _.
    on_tag 6 (done type.UninitializedThis refl refl) (λ _.
    on_tag 7 (object_sound pool end) (λ _.
    on_tag 8 (uninitialized_sound pool end) (λ _. fails))))))))

pub type_sound : (pool : List Const) (end : ℕ) → IsSound (type_at pool end) type_bytes (is_type pool)
unfolding type_at
type_sound pool end = step_at (u1_sound end) (λ began tag _. tagged_type_sound pool end (offset end began) tag)

-- ---- verification types are complete, where each index of the pool is a number of two bytes

pub type_complete : (pool : List Const) → is_short pool ≡ true → (end : ℕ) → IsComplete (type_at pool end) type_bytes (is_type pool)
unfolding type_at u1
type_complete pool short end type.Top rest passes = refl
type_complete pool short end type.Integer rest passes = refl
type_complete pool short end type.Long rest passes = refl
type_complete pool short end type.Null rest passes = refl
type_complete pool short end type.UninitializedThis rest passes = refl
type_complete pool short end (type.Object class) rest passes = rw (u2_complete end class rest (class_short pool class short passes), passes) refl
type_complete pool short end (type.Uninitialized at) rest passes = rw (u2_complete end at rest passes) refl

-- ---- frames are sound

one_item_sound : (pool : List Const) (end delta : ℕ) → nat_lt delta 64 ≡ true → IsSoundBehind ((64 + delta) ∷ []) (one_item pool end delta) frame_bytes (is_frame pool)
one_item_sound pool end delta small = step (type_sound pool end) (λ t is_t. done (frame.SameLocals1StackItem delta t) refl (and_from _ _ small is_t))

-- a tag that tells its delta
told_sound : (pool : List Const) (end tag : ℕ) → nat_lt tag 64 ≡ false → nat_lt tag 128 ≡ true → IsSoundBehind (tag ∷ []) (one_item pool end (tag - 64)) frame_bytes (is_frame pool)
told_sound pool end tag above below =
    let low : 64 ≤ tag = ltb-false tag 64 above in
    let high : tag < 128 = ltb-true tag 128 below in
    let same : 64 + (tag - 64) ≡ tag = omega arith in
    subst (λ (t : ℕ). IsSoundBehind (t ∷ []) (one_item pool end (tag - 64)) frame_bytes (is_frame pool)) same (one_item_sound pool end (tag - 64) (lt-ltb (tag - 64) 64 (omega arith)))

extended_sound : (pool : List Const) (end : ℕ) → IsSoundBehind (247 ∷ []) (extended pool end) frame_bytes (is_frame pool)
extended_sound pool end =
    step (u2_sound end) (λ d is_d. step (type_sound pool end) (λ t is_t. done (frame.SameLocals1StackItemExtended d t) refl (and_from _ _ is_d is_t)))

chop_sound : (pool : List Const) (end : ℕ) (count : Chopped) → IsSoundBehind (chop_tag count ∷ []) (chop end count) frame_bytes (is_frame pool)
chop_sound pool end count = step (u2_sound end) (λ d is_d. done (frame.Chop d count) refl is_d)

same_extended_sound : (pool : List Const) (end : ℕ) → IsSoundBehind (251 ∷ []) (same_extended end) frame_bytes (is_frame pool)
same_extended_sound pool end = step (u2_sound end) (λ d is_d. done (frame.SameExtended d) refl is_d)

append_one_sound : (pool : List Const) (end : ℕ) → IsSoundBehind (252 ∷ []) (append_one pool end) frame_bytes (is_frame pool)
append_one_sound pool end =
    step (u2_sound end) (λ d is_d. step (type_sound pool end) (λ a is_a. done (frame.Append d (appended.One a)) refl (and_from _ _ is_d is_a)))

append_two_sound : (pool : List Const) (end : ℕ) → IsSoundBehind (253 ∷ []) (append_two pool end) frame_bytes (is_frame pool)
append_two_sound pool end =
    step (u2_sound end) (λ d is_d. step (type_sound pool end) (λ a is_a. step (type_sound pool end) (λ b is_b.
    done (frame.Append d (appended.Two a b)) (simp append_assoc) (and_from _ _ is_d (and_from _ _ is_a is_b)))))

append_three_sound : (pool : List Const) (end : ℕ) → IsSoundBehind (254 ∷ []) (append_three pool end) frame_bytes (is_frame pool)
append_three_sound pool end =
    step (u2_sound end) (λ d is_d. step (type_sound pool end) (λ a is_a. step (type_sound pool end) (λ b is_b. step (type_sound pool end) (λ c is_c.
    done (frame.Append d (appended.Three a b c)) (simp append_assoc) (and_from _ _ is_d (and_from _ _ (and_from _ _ is_a is_b) is_c))))))

full_sound : (pool : List Const) (end : ℕ) → IsSoundBehind (255 ∷ []) (full pool end) frame_bytes (is_frame pool)
full_sound pool end =
    let types = counted_sound (type_sound pool end) end in
    step (u2_sound end) (λ d is_d. step types (λ locals are_locals. step types (λ stack are_stack.
    done (frame.Full d locals stack) (simp append_assoc) (and_from _ _ (and_from _ _ is_d are_locals) are_stack))))

last_tag : (tag : ℕ) → is_byte tag ≡ true → nat_lt tag 247 ≡ false → (tag == 247) ≡ false → (tag == 248) ≡ false → (tag == 249) ≡ false → (tag == 250) ≡ false → (tag == 251) ≡ false → (tag == 252) ≡ false → (tag == 253) ≡ false → (tag == 254) ≡ false → 255 ≡ tag
last_tag tag a b c d e f g h i j = grind (arith, nat_tests)

tagged_frame_sound : (pool : List Const) (end at tag : ℕ) → is_byte tag ≡ true → IsSoundBehind (tag ∷ []) (tagged_frame pool end at tag) frame_bytes (is_frame pool)
tagged_frame_sound pool end at tag byte =
    on_test (nat_lt tag 64) (λ small. done (frame.Same tag) refl small) (λ above.
    on_test (nat_lt tag 128) (λ below. told_sound pool end tag above below) (λ _.
    on_test (nat_lt tag 247) (λ _. fails) (λ n.
    on_tag 247 (extended_sound pool end) (λ n247.
    on_tag 248 (chop_sound pool end chopped.Three) (λ n248.
    on_tag 249 (chop_sound pool end chopped.Two) (λ n249.
    on_tag 250 (chop_sound pool end chopped.One) (λ n250.
    on_tag 251 (same_extended_sound pool end) (λ n251.
    on_tag 252 (append_one_sound pool end) (λ n252.
    on_tag 253 (append_two_sound pool end) (λ n253.
    on_tag 254 (append_three_sound pool end) (λ n254.
    subst (λ (t : ℕ). IsSoundBehind (t ∷ []) (full pool end) frame_bytes (is_frame pool)) (last_tag tag byte n n247 n248 n249 n250 n251 n252 n253 n254) (full_sound pool end))))))))))))

pub frame_sound : (pool : List Const) (end : ℕ) → IsSound (frame_at pool end) frame_bytes (is_frame pool)
unfolding frame_at
frame_sound pool end = step_at (u1_sound end) (λ began tag byte. tagged_frame_sound pool end (offset end began) tag byte)

-- ---- frames are complete

told_complete : (pool : List Const) (end at delta : ℕ) (bytes : List ℕ) → delta < 64 → tagged_frame pool end at (64 + delta) bytes ≡ one_item pool end delta bytes
told_complete pool end at delta bytes small =
    let same : (64 + delta) - 64 ≡ delta = omega arith in
    rw (le-ltb (64 + delta) 64 (omega arith), lt-ltb (64 + delta) 128 (omega arith), same) refl

append_complete : (pool : List Const) → is_short pool ≡ true → (end at delta : ℕ) (locals : Appended) (rest : List ℕ) → is_u2 delta ≡ true → are_appended pool locals ≡ true → tagged_frame pool end at (append_tag locals) ((u2_bytes delta ++ appended_bytes locals) ++ rest) ≡ Ok (frame.Append delta locals, rest)
append_complete pool short end at delta (appended.One a) rest fits passes =
    let type = type_complete pool short end in
    simp append_assoc (rw (u2_complete end delta _ fits, type a _ passes) refl)
append_complete pool short end at delta (appended.Two a b) rest fits passes =
    let type = type_complete pool short end in
    let p = and_parts (is_type pool a) _ passes in
    simp append_assoc (rw (u2_complete end delta _ fits, type a _ p.0, type b _ p.1) refl)
append_complete pool short end at delta (appended.Three a b c) rest fits passes =
    let type = type_complete pool short end in
    let p = and_parts (is_type pool a && is_type pool b) _ passes in
    let q = and_parts (is_type pool a) _ p.0 in
    simp append_assoc (rw (u2_complete end delta _ fits, type a _ q.0, type b _ q.1, type c _ p.1) refl)

full_complete : (pool : List Const) → is_short pool ≡ true → (end delta : ℕ) (locals stack : List VerificationType) (rest : List ℕ) → is_frame pool (frame.Full delta locals stack) ≡ true → full pool end ((u2_bytes delta ++ (bytes_of.counted type_bytes locals ++ bytes_of.counted type_bytes stack)) ++ rest) ≡ Ok (frame.Full delta locals stack, rest)
full_complete pool short end delta locals stack rest passes =
    let types = counted_complete (type_at pool end) type_bytes (is_type pool) (type_complete pool short end) end in
    let p = and_parts (is_u2 delta && are_counted (is_type pool) locals) _ passes in
    let q = and_parts (is_u2 delta) _ p.0 in
    simp append_assoc (rw (u2_complete end delta _ q.0, types locals _ q.1, types stack _ p.1) refl)

pub frame_complete : (pool : List Const) → is_short pool ≡ true → (end : ℕ) → IsComplete (frame_at pool end) frame_bytes (is_frame pool)
unfolding frame_at u1
frame_complete pool short end (frame.Same delta) rest passes = rw passes refl
frame_complete pool short end (frame.SameLocals1StackItem delta stack) rest passes =
    let p = and_parts (nat_lt delta 64) _ passes in
    told_complete pool end _ delta (type_bytes stack ++ rest) (ltb-true delta 64 p.0) ∙ rw (type_complete pool short end stack rest p.1) refl
frame_complete pool short end (frame.SameLocals1StackItemExtended delta stack) rest passes =
    let p = and_parts (is_u2 delta) _ passes in
    rw (append_assoc (u2_bytes delta) (type_bytes stack) rest, u2_complete end delta (type_bytes stack ++ rest) p.0, type_complete pool short end stack rest p.1) refl
frame_complete pool short end (frame.Chop delta chopped.One) rest passes = rw (u2_complete end delta rest passes) refl
frame_complete pool short end (frame.Chop delta chopped.Two) rest passes = rw (u2_complete end delta rest passes) refl
frame_complete pool short end (frame.Chop delta chopped.Three) rest passes = rw (u2_complete end delta rest passes) refl
frame_complete pool short end (frame.SameExtended delta) rest passes = rw (u2_complete end delta rest passes) refl
frame_complete pool short end (frame.Append delta locals) rest passes =
    let p = and_parts (is_u2 delta) _ passes in append_complete pool short end _ delta locals rest p.0 p.1
frame_complete pool short end (frame.Full delta locals stack) rest passes = full_complete pool short end delta locals stack rest passes
