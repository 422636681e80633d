-- A state that becomes one of a stack map.
use Rattle.std.proofs.Common.{◌≡◌, ℕ, ◌∙◌, ◌+◌, ◌<◌, ◌≤◌, ◌^◌, Bool, List, [], ◌∷◌, ◌++◌, length, take, drop, map, get_or, set, replicate, true, false, reverse, Option, Some, sym, ap, subst, arith, append_assoc}
use Rattle.std.specs.Prelude.{All}
use Rattle.std.specs.List.{list_any}
use Rattle.std.proofs.lemmas.List.{length-map, get_or-map, drop-replicate, drop-set, drop-set-add, drop_more, take_more, map_push, map-set}
use Rattle.std.proofs.lemmas.Option.{slice_get-get_or}
use Rattle.ti_ids.specs.Maybe.{◌>>=◌}
use Rattle.class_tree.specs.declared.pool.Const.{Const}
use Rattle.type_frames.specs.declared.seen.VTypeRef.{VTypeRef}
use Rattle.type_frames.specs.declared.seen.VTypeRef.TheVariants as seen
use Rattle.type_frames.specs.declared.vtype.VType.{VType}
use Rattle.type_frames.specs.declared.vtype.VType.TheVariants as vtype
use Rattle.type_frames.specs.declared.frame.MapFrame.{MapFrame}
use Rattle.type_frames.specs.Types.{type_words, expanded, is_long, is_uninit_this}
use Rattle.type_frames.specs.States.{State}
use Rattle.type_frames.specs.StackMaps.{stack_after, filled}
use Rattle.type_frames.specs.TypeChecks.{state_of}
use Rattle.type_frames.specs.Seen.{type_seen}
use Rattle.type_states.specs.declared.entry.Entry.{Entry}
use Rattle.type_states.specs.Holding.{state_held, counts_words}
use Rattle.type_states.specs.Lists.{list_at}
use Rattle.type_states.specs.Maps.{frame_held, frames_held, IsEntry, IsMap}
use Rattle.type_states.specs.Given.{given_at}
use Rattle.type_states.specs.Loading.{IsStack}
use Rattle.type_states.proofs.Words.{expanded-push, words-push, words_upto, words_reverse, map_reverse}
use Rattle.type_states.proofs.Assigned.{filled_length}

pub set_begun : (ls xs : List VType) (n words : ℕ) → xs ≡ replicate n vtype.Top → words ≡ length (expanded ls) → expanded ls ++ drop words xs ≡ filled n ls
set_begun ls xs n words tops count =
    ap (λ (k : ℕ). expanded ls ++ drop k xs) count
    ∙ ap (λ (ys : List VType). expanded ls ++ drop (length (expanded ls)) ys) tops
    ∙ ap (λ (ys : List VType). expanded ls ++ ys) (drop-replicate (length (expanded ls)) n vtype.Top)

pub set_next : (ls rest xs ys to : List VType) (t : VType) (words left : ℕ) → expanded ls ++ drop words xs ≡ to → ls ≡ rest ++ t ∷ [] → left + length (type_words t) ≡ words
    → drop left ys ≡ type_words t ++ drop (left + length (type_words t)) xs → expanded rest ++ drop left ys ≡ to
set_next ls rest xs ys to t words left so_far last all set =
    ap (λ (ws : List VType). expanded rest ++ ws) (set ∙ ap (λ (k : ℕ). type_words t ++ drop k xs) all)
    ∙ sym (append_assoc (expanded rest) (type_words t) (drop words xs))
    ∙ ap (λ (ws : List VType). ws ++ drop words xs) (sym (ap expanded last ∙ expanded-push rest t))
    ∙ so_far

pub set_over : (ls xs to : List VType) (words : ℕ) → expanded ls ++ drop words xs ≡ to → ls ≡ [] → words ≡ length (expanded ls) → xs ≡ to
set_over ls xs to words so_far none count =
    let zero_words : words ≡ 0 = count ∙ ap (λ (ts : List VType). length (expanded ts)) none in
    sym (ap (λ (ts : List VType). expanded ts ++ drop words xs) none ∙ ap (λ (k : ℕ). drop k xs) zero_words) ∙ so_far

one_set : (ts : List VType) (at : ℕ) (t : VType) → at + 1 ≤ length ts → drop at (set ts at t) ≡ t ∷ drop (at + 1) ts
one_set ts at t le = drop-set ts at t (omega arith)

word_set : (t : VType) (ts : List VType) (at : ℕ) → is_long t ≡ false → at + length (type_words t) ≤ length ts → drop at (set ts at t) ≡ type_words t ++ drop (at + length (type_words t)) ts
word_set vtype.Top ts at is le = one_set ts at vtype.Top le
word_set vtype.Integer ts at is le = one_set ts at vtype.Integer le
word_set vtype.Long ts at is le = absurd (let never : ⊥ = cc in never)
word_set vtype.Null ts at is le = one_set ts at vtype.Null le
word_set vtype.UninitThis ts at is le = one_set ts at vtype.UninitThis le
word_set (vtype.Object name) ts at is le = one_set ts at (vtype.Object name) le
word_set (vtype.Uninit from) ts at is le = one_set ts at (vtype.Uninit from) le

two_set : (ts : List VType) (at : ℕ) → at + 2 ≤ length ts → drop at (set (set ts at vtype.Long) (at + 1) vtype.Top) ≡ vtype.Long ∷ vtype.Top ∷ drop (at + 2) ts
two_set ts at le =
    let twice : (at + 1) + 1 ≡ at + 2 = omega arith in
    drop-set-add at (set ts at vtype.Long) 1 vtype.Top
    ∙ ap (λ (xs : List VType). set xs 1 vtype.Top) (one_set ts at vtype.Long (omega arith) ∙ ap (λ (xs : List VType). vtype.Long ∷ xs) (drop_more ts (at + 1) vtype.Top (omega arith)))
    ∙ ap (λ (k : ℕ). vtype.Long ∷ vtype.Top ∷ drop k ts) twice

words_set : (t : VType) (ts : List VType) (at : ℕ) → is_long t ≡ true → at + length (type_words t) ≤ length ts → drop at (set (set ts at t) (at + 1) vtype.Top) ≡ type_words t ++ drop (at + length (type_words t)) ts
words_set vtype.Top ts at is le = absurd (let never : ⊥ = cc in never)
words_set vtype.Integer ts at is le = absurd (let never : ⊥ = cc in never)
words_set vtype.Long ts at is le = two_set ts at le
words_set vtype.Null ts at is le = absurd (let never : ⊥ = cc in never)
words_set vtype.UninitThis ts at is le = absurd (let never : ⊥ = cc in never)
words_set (vtype.Object name) ts at is le = absurd (let never : ⊥ = cc in never)
words_set (vtype.Uninit from) ts at is le = absurd (let never : ⊥ = cc in never)

module _ (locals : List VTypeRef) (at : ℕ) (t : VTypeRef) (le : at + length (type_words (type_seen t)) ≤ length locals) where
  within_seen : at + length (type_words (type_seen t)) ≤ length (map type_seen locals)
  within_seen = let e = length-map locals type_seen in omega arith

  pub word_put : is_long (type_seen t) ≡ false → drop at (map type_seen (set locals at t)) ≡ type_words (type_seen t) ++ drop (at + length (type_words (type_seen t))) (map type_seen locals)
  word_put is = ap (λ (ts : List VType). drop at ts) (map-set type_seen locals at t) ∙ word_set (type_seen t) (map type_seen locals) at is within_seen

  pub words_put : is_long (type_seen t) ≡ true → drop at (map type_seen (set (set locals at t) (at + 1) seen.Top)) ≡ type_words (type_seen t) ++ drop (at + length (type_words (type_seen t))) (map type_seen locals)
  words_put is =
      ap (λ (ts : List VType). drop at ts) (map-set type_seen (set locals at t) (at + 1) seen.Top ∙ ap (λ (ts : List VType). set ts (at + 1) vtype.Top) (map-set type_seen locals at t))
      ∙ words_set (type_seen t) (map type_seen locals) at is within_seen

pub stack_counts : (types : List VType) (stack : List VTypeRef) (words : ℕ) → IsStack types stack words → counts_words stack words
stack_counts types stack words is =
    let same : length (expanded (map type_seen (reverse stack))) ≡ length (expanded types) =
    ap (λ (ts : List VType). length (expanded ts)) (sym (map_reverse stack)) ∙ words_reverse (map type_seen stack) ∙ ap (λ (ts : List VType). length (expanded ts)) is.types_are in
    (is.words_are ∙ sym same, is.short)

module _ (pool : List Const) (max_locals max_stack : ℕ) (lists : List (List VType)) (entries : List Entry) (frames : List MapFrame) (place : ℕ) (d : Entry) where
  module _ (view : frames_held pool max_locals lists entries ≡ frames) (is_map : IsMap pool max_locals max_stack lists entries) (lt : place < length frames) where
    pub within : place < length entries
    within = let e = ap length view in let f = length-map entries (frame_held pool max_locals lists) in omega arith

    entry_there : IsEntry pool max_locals max_stack lists (get_or entries place d)
    entry_there = is_map.each place d within

    pub room_there : (n : ℕ) → All (λ f. length f.locals ≡ n) frames → max_locals ≡ n
    room_there n rooms =
        let is = entry_there in
        sym (filled_length max_locals (list_at lists (get_or entries place d).locals) is.locals)
        ∙ ap (λ (f : MapFrame). length f.locals) (sym (get_or-map (frame_held pool max_locals lists) entries place d (frame_held pool max_locals lists d) within))
        ∙ ap (λ (fs : List MapFrame). length (get_or fs place (frame_held pool max_locals lists d)).locals) view
        ∙ rooms place (frame_held pool max_locals lists d) lt

    given_there : given_at frames place ≡ Some (state_of (frame_held pool max_locals lists (get_or entries place d)))
    given_there =
        let count = length-map entries (frame_held pool max_locals lists) in
        let w = within in
        ap (λ (fs : List MapFrame). given_at fs place) (sym view)
        ∙ ap (λ (o : Option MapFrame). o >>= λ f. Some (state_of f))
        (slice_get-get_or (frames_held pool max_locals lists entries) place (frame_held pool max_locals lists d) (omega arith)
        ∙ ap (λ (f : MapFrame). Some f) (get_or-map (frame_held pool max_locals lists) entries place d (frame_held pool max_locals lists d) w))

    module _ (x : Entry) (here : x ≡ get_or entries place d) where
      pub entry_is : IsEntry pool max_locals max_stack lists x
      entry_is = subst (λ (e : Entry). IsEntry pool max_locals max_stack lists e) (sym here) entry_there

      pub loaded_is : (locals stack : List VTypeRef) (words : ℕ) (uninit : Bool) → map type_seen locals ≡ filled max_locals (list_at lists x.locals)
          → IsStack (stack_after pool x.frame.now) stack words → uninit ≡ list_any is_uninit_this (list_at lists x.locals) → given_at frames place ≡ Some (state_held locals stack uninit)
      loaded_is locals stack words uninit locals_are stack_is uninit_is =
          let same_stack : reverse (stack_after pool x.frame.now) ≡ map type_seen (reverse stack) = ap reverse (sym stack_is.types_are) ∙ map_reverse stack in
          given_there
          ∙ ap (λ (e : Entry). Some (state_of (frame_held pool max_locals lists e))) (sym here)
          ∙ ap (λ (ts : List VType). let s : State = record { locals = ts; stack = reverse (stack_after pool x.frame.now); this_uninit = list_any is_uninit_this (list_at lists x.locals) } in Some s) (sym locals_are)
          ∙ ap (λ (ts : List VType). let s : State = record { locals = map type_seen locals; stack = ts; this_uninit = list_any is_uninit_this (list_at lists x.locals) } in Some s) same_stack
          ∙ ap (λ (u : Bool). let s : State = record { locals = map type_seen locals; stack = map type_seen (reverse stack); this_uninit = u } in Some s) (sym uninit_is)

-- one more on the stack
pub stack_more : (ts : List VType) (i : ℕ) (stack : List VTypeRef) (t : VTypeRef) (d : VType) (words width room : ℕ) → IsStack (take i ts) stack words → i < length ts → type_seen t ≡ get_or ts i d
    → width ≡ length (type_words (type_seen t)) → length (expanded ts) ≤ room → room < 2 ^ 16 → IsStack (take (i + 1) ts) (stack ++ t ∷ []) (words + width)
stack_more ts i stack t d words width room is lt there wide fits short =
    let more : take (i + 1) ts ≡ take i ts ++ type_seen t ∷ [] = take_more ts i d lt ∙ ap (λ (x : VType). take i ts ++ x ∷ []) (sym there) in
    let count = is.words_are in
    let e = words-push (take i ts) (type_seen t) in
    let all : words + width ≡ length (expanded (take (i + 1) ts)) = omega arith ∙ ap (λ (xs : List VType). length (expanded xs)) (sym more) in
    let upto = words_upto ts (i + 1) in
    record {
      types_are = map_push type_seen stack t ∙ ap (λ (xs : List VType). xs ++ type_seen t ∷ []) is.types_are ∙ sym more;
      words_are = all;
      short = omega arith;
    }
