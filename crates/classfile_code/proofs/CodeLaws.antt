-- The laws of the content of an attribute Code: its handlers, its attributes and the whole.
use Rattle.std.proofs.Common.{◌≡◌, ℕ, Bool, true, false, not, List, ◌++◌, length, Option, Some, None, refl, sym, ap, subst, ◌∙◌, append_assoc}
use Rattle.std.specs.Prelude.{◌==◌, ◌&&◌, ◌||◌, pos, if◌then◌else◌}
use Rattle.std.proofs.lemmas.Bool.{and_parts, and_from, not-true, eqb-true}
use Rattle.jv_names.specs.Names.{Name}
use Rattle.class_code.specs.Listing.{begins}
use Rattle.class_code.specs.CodeReading.{list_of}
use Rattle.class_code.proofs.Listings.{Pairs}
use Rattle.class_tree.specs.declared.pool.Const.{Const}
use Rattle.class_tree.specs.declared.body.Code.{Code}
use Rattle.class_tree.specs.declared.body.CodeAttr.{CodeAttr}
use Rattle.class_tree.specs.declared.body.CodeAttr.TheVariants as code_attr
use Rattle.class_tree.specs.Ranges.{is_u2, is_short, are_counted, are_bytes}
use Rattle.class_tree.specs.Spelling.{frame_bytes, code_attr_bytes, handler_bytes, code_bytes}
use Rattle.class_tree.specs.Spelling as bytes_of
use Rattle.class_tree.specs.Tree.{names_class}
use Rattle.class_tree.specs.PoolRules.{has_text}
use Rattle.class_tree.specs.FrameRules.{is_frame}
use Rattle.class_tree.specs.CodeRules.{is_place, is_range_end, is_catch_type, is_handler, is_content, is_stack_map, is_code_attr, is_listed, is_code_length, is_code}
use Rattle.classfile_items.specs.declared.fault.ReadClassFault.TheVariants.{BadIndex, BadCode}
use Rattle.classfile_items.specs.Reading.{Found, counted}
use Rattle.classfile_code.specs.FrameReading.{frame_at}
use Rattle.classfile_code.specs.CodeReading.{handler, raw_attr, frames_attr, code_attr_at, code}
use Rattle.classfile_items.proofs.Laws.{IsSound, IsComplete, step, done, on_test}
use Rattle.classfile_items.proofs.StepLaws.{second_step, step_known}
use Rattle.classfile_items.proofs.NumberLaws.{u2_sound, u2_complete}
use Rattle.classfile_items.proofs.ListLaws.{counted_sound, counted_complete}
use Rattle.classfile_items.proofs.Indices.{class_short}
use Rattle.classfile_code.proofs.FrameLaws.{frame_sound, frame_complete}
use Rattle.classfile_items.proofs.Indices.{has_text_parts, has_text_from}
use Rattle.classfile_code.proofs.InstrLaws.{are_met}
use Rattle.classfile_code.proofs.ArrayLaws.{array_known, array_complete}
use Rattle.classfile_items.proofs.TestLaws.{tested_sound, tested_complete}
use Rattle.classfile_items.proofs.ContentLaws.{name_known, text_index_complete, kept_sound, kept_complete, measured_sound, measured_complete}

-- ---- handlers

pub handler_sound : (end : ℕ) (pool : List Const) (len : ℕ) (list : Pairs) → IsSound (handler end pool len list) handler_bytes (is_handler pool len list)
handler_sound end pool len list =
    step (tested_sound end (is_place list) BadCode) (λ start is_start.
    step (tested_sound end (is_range_end list len start) BadCode) (λ last is_last.
    step (tested_sound end (is_place list) BadCode) (λ target is_target.
    step (tested_sound end (is_catch_type pool) BadIndex) (λ type is_type.
    done (record { start = start; end = last; target = target; catch_type = type }) (simp append_assoc)
    (and_from _ _ (and_from _ _ (and_from _ _ is_start is_last) is_target) is_type)))))

place_fits : (list : Pairs) (at : ℕ) → is_place list at ≡ true → is_u2 at ≡ true
place_fits list at is = (and_parts (is_u2 at) _ is).0

range_end_fits : (list : Pairs) (len start end : ℕ) → is_range_end list len start end ≡ true → is_u2 end ≡ true
range_end_fits list len start end is = (and_parts (is_u2 end) _ (and_parts (is_u2 end && (begins list (pos end) || end == len)) _ is).0).0

by_zero : (pool : List Const) (index : ℕ) (none : Bool) → is_short pool ≡ true → (index == 0) ≡ none → (none || names_class pool index) ≡ true → is_u2 index ≡ true
by_zero pool index true short is passes = let zero : index ≡ 0 = eqb-true index 0 is in subst (λ (n : ℕ). is_u2 n ≡ true) (sym zero) refl
by_zero pool index false short is passes = class_short pool index short passes

catch_fits : (pool : List Const) (index : ℕ) → is_short pool ≡ true → is_catch_type pool index ≡ true → is_u2 index ≡ true
catch_fits pool index short passes = by_zero pool index (index == 0) short refl passes

pub handler_complete : (end : ℕ) (pool : List Const) → is_short pool ≡ true → (len : ℕ) (list : Pairs) → IsComplete (handler end pool len list) handler_bytes (is_handler pool len list)
handler_complete end pool short len list h rest passes =
    let p = and_parts (is_place list h.start && is_range_end list len h.start h.end && is_place list h.target) _ passes in
    let q = and_parts (is_place list h.start && is_range_end list len h.start h.end) _ p.0 in
    let r = and_parts (is_place list h.start) _ q.0 in
    let t = bytes_of.u2 h.target in
    let c = bytes_of.u2 h.catch_type in
    rw (
      append_assoc (bytes_of.u2 h.start) (bytes_of.u2 h.end ++ (t ++ c)) rest,
      append_assoc (bytes_of.u2 h.end) (t ++ c) rest,
      append_assoc t c rest,
      tested_complete end (is_place list) BadCode (place_fits list) h.start (bytes_of.u2 h.end ++ (t ++ (c ++ rest))) r.0,
      tested_complete end (is_range_end list len h.start) BadCode (range_end_fits list len h.start) h.end (t ++ (c ++ rest)) r.1,
      tested_complete end (is_place list) BadCode (place_fits list) h.target (c ++ rest) q.1,
      tested_complete end (is_catch_type pool) BadIndex (λ n is. catch_fits pool n short is) h.catch_type rest p.1,
    ) refl

-- ---- attributes

pub code_attr_sound : (pool : List Const) (end : ℕ) → IsSound (code_attr_at end pool) code_attr_bytes (is_code_attr pool)
code_attr_sound pool end = step_known (name_known pool end) (λ name is. on_test (is_stack_map name.1)
    (λ reads. measured_sound (counted_sound (frame_sound pool end) end) (code_attr.Frames name.0) end (λ entries. refl)
    (λ entries are fits. and_from _ _ (and_from _ _ (has_text_from pool name.0 is_stack_map name.1 is reads) are) fits))
    (λ keeps. kept_sound (code_attr.Raw name.0) end (λ content. refl)
    (λ content are fits. and_from _ _ (and_from _ _ (has_text_from pool name.0 (λ text. not (is_stack_map text)) name.1 is (ap not keeps)) are) fits)))

-- what stands behind a name
abbrev named : ℕ → List Const → (ℕ × Name) × List ℕ → Found CodeAttr
named end pool name = if is_stack_map name.0.1 then frames_attr end pool name.0.0 name.1 else raw_attr end name.0.0 name.1

pub code_attr_complete : (pool : List Const) → is_short pool ≡ true → (end : ℕ) → IsComplete (code_attr_at end pool) code_attr_bytes (is_code_attr pool)
code_attr_complete pool short end (code_attr.Raw index content) rest passes =
    let p = and_parts (has_text pool index (λ text. not (is_stack_map text)) && are_bytes content) _ passes in
    let q = and_parts (has_text pool index (λ text. not (is_stack_map text))) _ p.0 in
    let name = has_text_parts pool index _ q.0 in
    let measure = bytes_of.u4 (length content) ++ content in
    ap (code_attr_at end pool) (append_assoc (bytes_of.u2 index) measure rest)
    ∙ second_step _ ((index, name.text), measure ++ rest) (named end pool) (text_index_complete pool short end index name.text (measure ++ rest) name.is)
    ∙ rw (not-true (is_stack_map name.text) name.passes) (kept_complete (code_attr.Raw index) end content rest q.1 p.1)
code_attr_complete pool short end (code_attr.Frames index entries) rest passes =
    let content = bytes_of.counted frame_bytes entries in
    let p = and_parts (has_text pool index is_stack_map && are_counted (is_frame pool) entries) (is_content content) passes in
    let q = and_parts (has_text pool index is_stack_map) _ p.0 in
    let name = has_text_parts pool index _ q.0 in
    let measure = bytes_of.u4 (length content) ++ content in
    let frames = counted_complete (frame_at pool end) frame_bytes (is_frame pool) (frame_complete pool short end) end in
    ap (code_attr_at end pool) (append_assoc (bytes_of.u2 index) measure rest)
    ∙ second_step _ ((index, name.text), measure ++ rest) (named end pool) (text_index_complete pool short end index name.text (measure ++ rest) name.is)
    ∙ rw name.passes (measured_complete (counted end (frame_at pool end)) (bytes_of.counted frame_bytes) (are_counted (is_frame pool)) frames (code_attr.Frames index) end entries rest q.1 p.1)

-- ---- the whole

pub code_sound : (major : ℕ) (pool : List Const) (end : ℕ) → IsSound (code major pool end) code_bytes (is_code major pool)
code_sound major pool end =
    step (u2_sound end) (λ stack is_stack.
    step (u2_sound end) (λ locals is_locals.
    step_known (array_known major pool end) (λ array is.
    step (counted_sound (handler_sound end pool (length array.0) array.1) end) (λ handlers are_handlers.
    step (counted_sound (code_attr_sound pool end) end) (λ attrs are_attrs.
    let c : Code = record { max_stack = stack; max_locals = locals; bytes = array.0; handlers = handlers; attrs = attrs } in
    let listed : is_listed major pool c (list_of c.bytes) ≡ true = ap (is_listed major pool c) is.list ∙ and_from _ _ is.met are_handlers in
    done c (simp append_assoc) (and_from _ _ (and_from _ _ (and_from _ _ (and_from _ _ (and_from _ _ is_stack is_locals) is.ranged) is.are) listed) are_attrs))))))

-- a code's list, its indices and its handlers
record ListedParts (major : ℕ) (pool : List Const) (c : Code) : Type 0 where
  list : Pairs
  is : list_of c.bytes ≡ Some list
  met : are_met major pool list ≡ true
  handlers : are_counted (is_handler pool (length c.bytes) list) c.handlers ≡ true

listed_parts : (major : ℕ) (pool : List Const) (c : Code) (o : Option Pairs) → list_of c.bytes ≡ o → is_listed major pool c o ≡ true → ListedParts major pool c
listed_parts major pool c None is e = cc
listed_parts major pool c (Some list) is e =
    let p = and_parts (are_met major pool list) _ e in
    record { list = list; is = is; met = p.0; handlers = p.1 }

pub code_complete : (major : ℕ) (pool : List Const) → is_short pool ≡ true → (end : ℕ) → IsComplete (code major pool end) code_bytes (is_code major pool)
code_complete major pool short end c rest passes =
    let p = and_parts (is_u2 c.max_stack && is_u2 c.max_locals && is_code_length (length c.bytes) && are_bytes c.bytes && is_listed major pool c (list_of c.bytes)) _ passes in
    let q = and_parts (is_u2 c.max_stack && is_u2 c.max_locals && is_code_length (length c.bytes) && are_bytes c.bytes) _ p.0 in
    let r = and_parts (is_u2 c.max_stack && is_u2 c.max_locals && is_code_length (length c.bytes)) _ q.0 in
    let s = and_parts (is_u2 c.max_stack && is_u2 c.max_locals) _ r.0 in
    let t = and_parts (is_u2 c.max_stack) _ s.0 in
    let l = listed_parts major pool c (list_of c.bytes) refl q.1 in
    let n = bytes_of.u4 (length c.bytes) in
    let h = bytes_of.counted handler_bytes c.handlers in
    let a = bytes_of.counted code_attr_bytes c.attrs in
    let grouped : (n ++ (c.bytes ++ (h ++ a))) ++ rest ≡ (n ++ c.bytes) ++ (h ++ (a ++ rest)) = simp append_assoc in
    let handlers = counted_complete (handler end pool (length c.bytes) l.list) handler_bytes (is_handler pool (length c.bytes) l.list) (handler_complete end pool short (length c.bytes) l.list) end in
    let attrs = counted_complete (code_attr_at end pool) code_attr_bytes (is_code_attr pool) (code_attr_complete pool short end) end in
    rw (
      append_assoc (bytes_of.u2 c.max_stack) (bytes_of.u2 c.max_locals ++ (n ++ (c.bytes ++ (h ++ a)))) rest,
      append_assoc (bytes_of.u2 c.max_locals) (n ++ (c.bytes ++ (h ++ a))) rest,
      grouped,
      u2_complete end c.max_stack (bytes_of.u2 c.max_locals ++ ((n ++ c.bytes) ++ (h ++ (a ++ rest)))) t.0,
      u2_complete end c.max_locals ((n ++ c.bytes) ++ (h ++ (a ++ rest))) t.1,
      array_complete major pool end c.bytes (h ++ (a ++ rest)) l.list s.1 r.1 l.is l.met,
      handlers c.handlers (a ++ rest) l.handlers,
      attrs c.attrs rest p.1,
    ) refl
