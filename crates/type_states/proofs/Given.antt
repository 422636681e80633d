-- States as they are given out.
use Rattle.std.proofs.Common.{◌≡◌, ℕ, suc, ◌∙◌, ◌<◌, List, [], ◌∷◌, length, map, get_or, reverse, Option, Some, None, Result, Ok, Err, refl, sym, ap, subst, arith}
use Rattle.std.specs.Prelude.{All, IfOk, slice_get}
use Rattle.std.proofs.lemmas.List.{length-map, get_or-map, reverse-reverse}
use Rattle.std.proofs.lemmas.List.Elements.{All-nil, All-cons}
use Rattle.std.proofs.lemmas.Option.{slice_get-get_or}
use Rattle.ti_ids.specs.Maybe.{◌>>=◌}
use Rattle.class_tree.specs.declared.pool.Const.{Const}
use Rattle.type_frames.specs.declared.seen.VTypeRef.{VTypeRef}
use Rattle.type_frames.specs.declared.vtype.VType.{VType}
use Rattle.type_frames.specs.declared.frame.MapFrame.{MapFrame}
use Rattle.type_frames.specs.Seen.{type_seen}
use Rattle.type_frames.specs.States.{State, held}
use Rattle.type_frames.specs.TypeChecks.{state_of}
use Rattle.type_states.specs.declared.entry.Entry.{Entry}
use Rattle.type_states.specs.Given.{given_at}
use Rattle.type_states.specs.Lists.{list_at}
use Rattle.type_states.specs.Maps.{frame_held, frames_held, IsEntry, IsMap}
use Rattle.type_states.proofs.Assigned.{filled_length}
use Rattle.type_states.proofs.Words.{map_reverse}

-- the stack from the bottom up
pub stack_given : (stack : List VTypeRef) → reverse (map type_seen (reverse stack)) ≡ map type_seen stack
stack_given stack = ap reverse (sym (map_reverse stack)) ∙ reverse-reverse (map type_seen stack)

some_is : {A : Type 0} {x y : A} → Some x ≡ Some y → x ≡ y
some_is e = cc

-- a state that is given, held again
held_again : (f : MapFrame) → held f.at (state_of f) ≡ f
held_again f = ap (λ (ts : List VType). let g : MapFrame = record { at = f.at; locals = f.locals; stack = ts; this_uninit = f.this_uninit } in g) (reverse-reverse f.stack)

given_by : (o : Option MapFrame) (s : State) → (o >>= λ f. Some (state_of f)) ≡ Some s → (at : ℕ) → ((f : MapFrame) → o ≡ Some f → f.at ≡ at) → o ≡ Some (held at s)
given_by None s e at is = absurd cc
given_by (Some f) s e at is = ap Some (sym (held_again f) ∙ ap (λ (k : ℕ). held k (state_of f)) (is f refl) ∙ ap (held at) (some_is e))

-- the frame at a place
pub frame_given : (frames : List MapFrame) (place : ℕ) (s : State) (at : ℕ) (d : MapFrame) → given_at frames place ≡ Some s → place < length frames → (get_or frames place d).at ≡ at → slice_get frames place ≡ Some (held at s)
frame_given frames place s at d e lt is =
    let there = slice_get-get_or frames place d lt in
    given_by (slice_get frames place) s e at (λ f here. ap (λ (g : MapFrame). g.at) (some_is (sym here ∙ there)) ∙ is)

module _ (pool : List Const) (max_locals max_stack : ℕ) (lists : List (List VType)) where
  each_room : (entries : List Entry) → All (IsEntry pool max_locals max_stack lists) entries → All (λ f. length f.locals ≡ max_locals) (frames_held pool max_locals lists entries)
  each_room [] all = All-nil (λ (f : MapFrame). length f.locals ≡ max_locals)
  each_room (e ∷ entries) all = All-cons (λ (f : MapFrame). length f.locals ≡ max_locals) (frame_held pool max_locals lists e) (frames_held pool max_locals lists entries)
      (filled_length max_locals (list_at lists e.locals) (all 0 e (omega arith)).locals) (each_room entries (λ k d lt. all (suc k) d (omega arith)))

  -- each state of a map has room for the local variables
  pub rooms_given : (entries : List Entry) (frames : List MapFrame) → frames_held pool max_locals lists entries ≡ frames → IsMap pool max_locals max_stack lists entries
      → (n : ℕ) → n ≡ max_locals → All (λ f. length f.locals ≡ n) frames
  rooms_given entries frames view is n same =
      subst (λ (k : ℕ). All (λ f. length f.locals ≡ k) frames) (sym same)
      (subst (λ (fs : List MapFrame). All (λ f. length f.locals ≡ max_locals) fs) view (each_room entries is.each))

-- the offset of an entry is that of its frame
pub offset_given : (pool : List Const) (max_locals : ℕ) (lists : List (List VType)) (entries : List Entry) (frames : List MapFrame) (place : ℕ) (x : Entry) → frames_held pool max_locals lists entries ≡ frames
    → place < length frames → x ≡ get_or entries place x → (get_or frames place (frame_held pool max_locals lists x)).at ≡ x.at
offset_given pool max_locals lists entries frames place x view lt is =
    let count = length-map entries (frame_held pool max_locals lists) in
    let all = ap length view in
    ap (λ (fs : List MapFrame). (get_or fs place (frame_held pool max_locals lists x)).at) (sym view)
    ∙ ap (λ (f : MapFrame). f.at) (get_or-map (frame_held pool max_locals lists) entries place x (frame_held pool max_locals lists x) (omega arith))
    ∙ ap (λ (e : Entry). e.at) (sym is)

pub given_so : {E : Type 0} (r : Result MapFrame E) (o : Option MapFrame) (f : MapFrame) → IfOk r (λ g. g ≡ f) → o ≡ Some f → IfOk r (λ g. o ≡ Some g)
given_so (Ok g) o f is e = e ∙ ap Some (sym is)
given_so (Err x) o f is e = tt
