-- Entries of a stack map, one after the other.
use Rattle.std.proofs.Common.{◌≡◌, ℕ, suc, ◌∙◌, ◌+◌, ◌<◌, List, [], ◌∷◌, ◌++◌, length, drop, get_or, Option, Some, None, Result, Ok, Err, refl, sym, ap, append_assoc, add-one}
use Rattle.std.proofs.Math.Seq.{drop-cons}
use Rattle.class_tree.specs.declared.frames.StackMapFrame.{StackMapFrame}
use Rattle.type_frames.specs.declared.vtype.VType.{VType}
use Rattle.type_frames.specs.declared.frame.MapFrame.{MapFrame}
use Rattle.type_frames.specs.StackMaps.{Bounds, frame_after, with_first, frames_from}

-- with these before
abbrev pub with_all : List MapFrame → Result (List MapFrame) ℕ → Result (List MapFrame) ℕ
with_all xs (Ok ys) = Ok (xs ++ ys)
with_all xs (Err place) = Err place

with_all-push : (xs : List MapFrame) (x : MapFrame) (r : Result (List MapFrame) ℕ) → with_all (xs ++ x ∷ []) r ≡ with_all xs (with_first x r)
with_all-push xs x (Ok ys) = ap (λ (zs : List MapFrame). Ok zs) (append_assoc xs (x ∷ []) ys)
with_all-push xs x (Err place) = refl

module _ (b : Bounds) (entries : List StackMapFrame) (place : ℕ) (last : Option ℕ) (listed : List VType) (e : StackMapFrame) where
  at_entry : place < length entries → e ≡ get_or entries place e → frames_from b place last listed (drop place entries)
      ≡ frames_from b place last listed (e ∷ drop (place + 1) entries)
  at_entry lt is = ap (frames_from b place last listed) (drop-cons entries place e lt ∙ ap (λ (x : StackMapFrame). x ∷ drop (suc place) entries) (sym is) ∙ ap (λ (n : ℕ). e ∷ drop n entries) (sym (add-one place)))

  abbrev Found : Type 0
  Found = Option (MapFrame × List VType)

  -- what follows from what was found of an entry
  abbrev gone_on : Found → Result (List MapFrame) ℕ
  gone_on None = Err place
  gone_on (Some f) = with_first f.0 (frames_from b (place + 1) (Some f.0.at) f.1 (drop (place + 1) entries))

  -- one entry more
  pub map_more : (frames : List MapFrame) (frame : MapFrame) (locals : List VType) → place < length entries → e ≡ get_or entries place e → Some (frame, locals) ≡ frame_after b last listed e
      → with_all (frames ++ frame ∷ []) (frames_from b (place + 1) (Some frame.at) locals (drop (place + 1) entries)) ≡ with_all frames (frames_from b place last listed (drop place entries))
  map_more frames frame locals lt is found =
      with_all-push frames frame (frames_from b (place + 1) (Some frame.at) locals (drop (place + 1) entries))
      ∙ ap (with_all frames) (ap gone_on found ∙ sym (at_entry lt is))

  -- a bad one
  pub map_bad : (frames : List MapFrame) → place < length entries → e ≡ get_or entries place e → None ≡ frame_after b last listed e
      → with_all frames (frames_from b place last listed (drop place entries)) ≡ Err place
  map_bad frames lt is found = ap (with_all frames) (at_entry lt is ∙ sym (ap gone_on found))

drop_all : (entries : List StackMapFrame) → drop (length entries) entries ≡ []
drop_all [] = refl
drop_all (x ∷ xs) = drop_all xs

right_none : (xs : List MapFrame) → xs ++ [] ≡ xs
right_none [] = refl
right_none (x ∷ xs) = ap (λ (rest : List MapFrame). x ∷ rest) (right_none xs)

-- no more
pub map_over : (b : Bounds) (entries : List StackMapFrame) (place : ℕ) (last : Option ℕ) (listed : List VType) (frames : List MapFrame) → place ≡ length entries
    → with_all frames (frames_from b place last listed (drop place entries)) ≡ Ok frames
map_over b entries place last listed frames all =
    ap (λ (rest : List StackMapFrame). with_all frames (frames_from b place last listed rest)) (ap (λ (n : ℕ). drop n entries) all ∙ drop_all entries) ∙ ap (λ (zs : List MapFrame). Ok zs) (right_none frames)
