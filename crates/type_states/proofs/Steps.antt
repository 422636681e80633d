-- Entries of a stack map that are kept one after the other.
use Rattle.std.proofs.Common.{◌≡◌, ℕ, ◌∙◌, ◌+◌, ◌<◌, ◌≤◌, List, [], ◌∷◌, ◌++◌, length, drop, map, get_or, Option, Some, None, refl, sym, ap, subst, arith, below_more}
use Rattle.std.specs.Prelude.{All}
use Rattle.std.proofs.lemmas.List.{get_or_append_left, get_or_push, length_push, map_push}
use Rattle.std.proofs.lemmas.List.Elements.{All-push, All-weaker, All-head, All-tail, All-map}
use Rattle.class_tree.specs.declared.pool.Const.{Const}
use Rattle.class_tree.specs.declared.frames.StackMapFrame.{StackMapFrame}
use Rattle.type_frames.specs.declared.vtype.VType.{VType}
use Rattle.type_frames.specs.declared.frame.MapFrame.{MapFrame}
use Rattle.type_frames.specs.Types.{expanded, is_uninit_this}
use Rattle.type_frames.specs.StackMaps.{Bounds, offset_after, stack_after, filled, frames_from}
use Rattle.std.specs.List.{list_any}
use Rattle.type_states.specs.declared.entry.Entry.{Entry}
use Rattle.type_states.specs.Lists.{list_at, IsGrown}
use Rattle.type_states.specs.Maps.{frame_held, frames_held, IsEntry, IsMap, Rises}
use Rattle.type_states.specs.Reading.{IsFound, IsLatest}
use Rattle.type_states.proofs.Assigned.{filled_length}
use Rattle.type_states.proofs.Mapping.{with_all, map_more}

abbrev Lists : Type 0
Lists = List (List VType)

rises_push : (xs : List ℕ) (y : ℕ) → Rises xs → All (λ x. x < y) xs → Rises (xs ++ y ∷ [])
rises_push xs y rising below i j lt within =
    let count = length_push xs y in
    below_more (λ (j : ℕ). i < j → get_or (xs ++ y ∷ []) i 0 < get_or (xs ++ y ∷ []) j 0) (length xs)
    (λ j less lt.
    let a = get_or_append_left xs (y ∷ []) 0 i (omega arith) in
    let b = get_or_append_left xs (y ∷ []) 0 j less in
    let c = rising i j lt less in
    omega arith)
    (λ lt.
    let a = get_or_append_left xs (y ∷ []) 0 i lt in
    let b = get_or_push xs y 0 (length xs) refl in
    let c = below i 0 lt in
    omega arith)
    j (omega arith) lt

module _ (pool : List Const) (max_locals max_stack : ℕ) where
  still_entry : (old new : Lists) → IsGrown old new → (x : Entry) → IsEntry pool max_locals max_stack old x → IsEntry pool max_locals max_stack new x
  still_entry old new grown x is =
      let longer = grown.longer in
      let listed = is.listed in
      let same = ap (λ (ts : List VType). length (expanded ts)) (grown.kept x.locals is.listed) in
      let room = is.locals in
      record { listed = omega arith; locals = omega arith; stack = is.stack }

  next_map : (old new : Lists) (found : List Entry) (x : Entry) → IsGrown old new → IsMap pool max_locals max_stack old found → IsEntry pool max_locals max_stack new x → All (λ y. y.at < x.at) found
      → IsMap pool max_locals max_stack new (found ++ x ∷ [])
  next_map old new found x grown is_map is below = record {
    each = All-push (IsEntry pool max_locals max_stack new) found x (All-weaker (IsEntry pool max_locals max_stack old) (IsEntry pool max_locals max_stack new) (still_entry old new grown) found is_map.each) is;
    rising = subst Rises (sym (map_push (λ (e : Entry). e.at) found x)) (rises_push (map (λ (e : Entry). e.at) found) x.at is_map.rising (All-map (λ (n : ℕ). n < x.at) (λ (e : Entry). e.at) found below));
  }

  still_frame : (old new : Lists) → IsGrown old new → (x : Entry) → IsEntry pool max_locals max_stack old x → frame_held pool max_locals new x ≡ frame_held pool max_locals old x
  still_frame old new grown x is =
      ap (λ (ts : List VType). let f : MapFrame = record { at = x.at; locals = filled max_locals ts; stack = stack_after pool x.frame.now; this_uninit = list_any is_uninit_this ts } in f) (grown.kept x.locals is.listed)

  frames_kept : (old new : Lists) → IsGrown old new → (found : List Entry) → All (IsEntry pool max_locals max_stack old) found → frames_held pool max_locals new found ≡ frames_held pool max_locals old found
  frames_kept old new grown [] each = refl
  frames_kept old new grown (x ∷ found) each =
      ap (λ (f : MapFrame). f ∷ frames_held pool max_locals new found) (still_frame old new grown x (All-head (IsEntry pool max_locals max_stack old) x found each))
      ∙ ap (λ (fs : List MapFrame). frame_held pool max_locals old x ∷ fs) (frames_kept old new grown found (All-tail (IsEntry pool max_locals max_stack old) x found each))

  -- each frame has as many local variables as there are
  pub rooms_of : (lists : Lists) (found : List Entry) → IsMap pool max_locals max_stack lists found → All (λ f. length f.locals ≡ max_locals) (frames_held pool max_locals lists found)
  rooms_of lists found is_map =
      All-map (λ (f : MapFrame). length f.locals ≡ max_locals) (frame_held pool max_locals lists) found
      (λ k d lt. let is = is_map.each k d lt in filled_length max_locals (list_at lists (get_or found k d).locals) is.locals)

-- a later offset is greater
all_earlier : (last : Option ℕ) (found : List Entry) (at : ℕ) (e : StackMapFrame) → IsLatest last found → at ≡ offset_after last e → All (λ y. y.at < at) found
all_earlier None found at e latest is = λ k d lt. absurd (omega arith)
all_earlier (Some before) found at e latest is = λ k d lt. let le = latest k d lt in omega arith

pub latest_next : (last : Option ℕ) (found : List Entry) (x : Entry) (e : StackMapFrame) → IsLatest last found → x.at ≡ offset_after last e → IsLatest (Some x.at) (found ++ x ∷ [])
latest_next last found x e latest is =
    All-push (λ (y : Entry). y.at ≤ x.at) found x
    (All-weaker (λ (y : Entry). y.at < x.at) (λ (y : Entry). y.at ≤ x.at) (λ y lt. omega arith) found (all_earlier last found x.at e latest is)) (omega arith)

module _ (b : Bounds) (entries : List StackMapFrame) (old new : Lists) (found : List Entry) (place before : ℕ) (last : Option ℕ) (x : Entry) (e : StackMapFrame) where
  module _ (lt : place < length entries) (there : e ≡ get_or entries place e) (is_map : IsMap b.pool b.max_locals b.max_stack old found) (latest : IsLatest last found) (is : IsFound b last (list_at old before) e old new (Some x)) where
    pub map_next : IsMap b.pool b.max_locals b.max_stack new (found ++ x ∷ [])
    map_next = next_map b.pool b.max_locals b.max_stack old new found x is.grown is_map is.within (all_earlier last found x.at e latest is.at)

    pub frames_next : with_all (frames_held b.pool b.max_locals new (found ++ x ∷ [])) (frames_from b (place + 1) (Some x.at) (list_at new x.locals) (drop (place + 1) entries))
        ≡ with_all (frames_held b.pool b.max_locals old found) (frames_from b place last (list_at old before) (drop place entries))
    frames_next =
        ap (λ (fs : List MapFrame). with_all fs (frames_from b (place + 1) (Some x.at) (list_at new x.locals) (drop (place + 1) entries)))
        (map_push (frame_held b.pool b.max_locals new) found x ∙ ap (λ (fs : List MapFrame). fs ++ frame_held b.pool b.max_locals new x ∷ []) (frames_kept b.pool b.max_locals b.max_stack old new is.grown found is_map.each))
        ∙ map_more b entries place last (list_at old before) e (frames_held b.pool b.max_locals old found) (frame_held b.pool b.max_locals new x) (list_at new x.locals) lt there (sym is.is)
