-- Nodes, each of which makes one more list.
use Rattle.std.proofs.Common.{◌≡◌, ℕ, ◌∙◌, ◌-◌, ◌+◌, ◌<◌, List, [], ◌∷◌, ◌++◌, length, get_or, refl, sym, ap, subst, arith, below_more}
use Rattle.std.specs.List.{list_any}
use Rattle.std.proofs.lemmas.List.{get_or_append_left, get_or_push, length_push}
use Rattle.type_frames.specs.declared.vtype.VType.{VType}
use Rattle.type_frames.specs.Types.{is_uninit_this}
use Rattle.type_frames.specs.Seen.{type_seen}
use Rattle.type_states.specs.declared.node.Node.{Node}
use Rattle.type_states.specs.Lists.{list_at, words_counted, IsPut}
use Rattle.type_states.specs.Nodes.{with_node, lists_from, lists_of, IsOver, IsNode, AreNodes}

abbrev Lists : Type 0
Lists = List (List VType)

from_count : (lists : Lists) (nodes : List Node) → length (lists_from lists nodes) ≡ length lists + length nodes
from_count lists [] = omega arith
from_count lists (n ∷ nodes) = from_count (with_node lists n) nodes ∙ ap (λ (k : ℕ). k + length nodes) (length_push lists (list_at lists n.below ++ type_seen n.listed ∷ [])) ∙ omega arith

pub lists_count : (nodes : List Node) → length (lists_of nodes) ≡ length nodes + 1
lists_count nodes = let e = from_count ([] ∷ []) nodes in omega arith

from_push : (lists : Lists) (nodes : List Node) (n : Node) → lists_from lists (nodes ++ n ∷ []) ≡ with_node (lists_from lists nodes) n
from_push lists [] n = refl
from_push lists (m ∷ nodes) n = from_push (with_node lists m) nodes n

pub lists_push : (nodes : List Node) (n : Node) → lists_of (nodes ++ n ∷ []) ≡ with_node (lists_of nodes) n
lists_push nodes n = from_push ([] ∷ []) nodes n

pub kept_with : (lists : Lists) (n : Node) (k : ℕ) → k < length lists → list_at (with_node lists n) k ≡ list_at lists k
kept_with lists n k lt = get_or_append_left lists ((list_at lists n.below ++ type_seen n.listed ∷ []) ∷ []) [] k lt

pub made_with : (lists : Lists) (n : Node) → list_at (with_node lists n) (length lists) ≡ list_at lists n.below ++ type_seen n.listed ∷ []
made_with lists n = get_or_push lists (list_at lists n.below ++ type_seen n.listed ∷ []) [] (length lists) refl

from_first : (lists : Lists) (nodes : List Node) → 0 < length lists → list_at (lists_from lists nodes) 0 ≡ list_at lists 0
from_first lists [] lt = refl
from_first lists (n ∷ nodes) lt =
    let more = length_push lists (list_at lists n.below ++ type_seen n.listed ∷ []) in
    from_first (with_node lists n) nodes (omega arith) ∙ kept_with lists n 0 lt

pub first_empty : (nodes : List Node) (place : ℕ) → place ≡ 0 → list_at (lists_of nodes) place ≡ []
first_empty nodes place e = ap (λ (k : ℕ). list_at (lists_of nodes) k) e ∙ from_first ([] ∷ []) nodes (omega arith)

pub node_there : (nodes : List Node) (place : ℕ) (d : Node) → AreNodes nodes → (place ≡ 0 → ⊥) → place < length (lists_of nodes) → IsNode (lists_of nodes) place (get_or nodes (place - 1) d)
node_there nodes place d are not lt =
    let count = lists_count nodes in
    let e : (place - 1) + 1 ≡ place = omega arith in
    subst (λ (k : ℕ). IsNode (lists_of nodes) k (get_or nodes (place - 1) d)) e (are (place - 1) d (omega arith))

still_node : (lists : Lists) (m n : Node) (place : ℕ) → place < length lists → IsNode lists place n → IsNode (with_node lists m) place n
still_node lists m n place lt is =
    let older : n.below < length lists = let o = is.last.older in omega arith in
    let same : list_at (with_node lists m) place ≡ list_at lists place = kept_with lists m place lt in
    record {
      last = record { is = same ∙ is.last.is ∙ ap (λ (xs : List VType). xs ++ type_seen n.listed ∷ []) (sym (kept_with lists m n.below older)); older = is.last.older };
      words = is.words ∙ ap words_counted (sym same);
      this_uninit = is.this_uninit ∙ ap (λ (xs : List VType). list_any is_uninit_this xs) (sym same);
    }

-- the new list, and its node
new_node : (lists : Lists) (n : Node) → n.below < length lists → IsOver lists n.below (type_seen n.listed) n → IsNode (with_node lists n) (length lists) n
new_node lists n older over =
    let made = made_with lists n in
    record {
      last = record { is = made ∙ ap (λ (xs : List VType). xs ++ type_seen n.listed ∷ []) (sym (kept_with lists n n.below older)); older = older };
      words = over.words ∙ ap words_counted (sym made);
      this_uninit = over.this_uninit ∙ ap (λ (xs : List VType). list_any is_uninit_this xs) (sym made);
    }

pub nodes_push : (nodes : List Node) (n : Node) → AreNodes nodes → n.below < length (lists_of nodes) → IsOver (lists_of nodes) n.below (type_seen n.listed) n → AreNodes (nodes ++ n ∷ [])
nodes_push nodes n are older over k d lt =
    let more = length_push nodes n in
    let count = lists_count nodes in
    let all = lists_push nodes n in
    let Here : ℕ → Type 0 = λ (k : ℕ). (d : Node) → IsNode (lists_of (nodes ++ n ∷ [])) (k + 1) (get_or (nodes ++ n ∷ []) k d) in
    below_more Here (length nodes)
    (λ k old d.
    let same : get_or (nodes ++ n ∷ []) k d ≡ get_or nodes k d = get_or_append_left nodes (n ∷ []) d k old in
    subst (λ (ls : Lists). IsNode ls (k + 1) (get_or (nodes ++ n ∷ []) k d)) (sym all)
    (subst (λ (m : Node). IsNode (with_node (lists_of nodes) n) (k + 1) m) (sym same)
    (still_node (lists_of nodes) n (get_or nodes k d) (k + 1) (omega arith) (are k d old))))
    (λ d.
    let same : get_or (nodes ++ n ∷ []) (length nodes) d ≡ n = get_or_push nodes n d (length nodes) refl in
    subst (λ (ls : Lists). IsNode ls (length nodes + 1) (get_or (nodes ++ n ∷ []) (length nodes) d)) (sym all)
    (subst (λ (m : Node). IsNode (with_node (lists_of nodes) n) (length nodes + 1) m) (sym same)
    (subst (λ (j : ℕ). IsNode (with_node (lists_of nodes) n) j n) count (new_node (lists_of nodes) n older over))))
    k (omega arith) d

-- the lists with the node's are put
pub put_is : (nodes : List Node) (n : Node) → n.below < length (lists_of nodes) → IsPut (lists_of nodes) (lists_of (nodes ++ n ∷ [])) n.below (type_seen n.listed ∷ []) (length nodes + 1)
put_is nodes n lt =
    let lists : Lists = lists_of nodes in
    let more = length_push lists (list_at lists n.below ++ type_seen n.listed ∷ []) in
    subst (λ (new : Lists). IsPut lists new n.below (type_seen n.listed ∷ []) (length nodes + 1)) (sym (lists_push nodes n))
    (subst (λ (j : ℕ). IsPut lists (with_node lists n) n.below (type_seen n.listed ∷ []) j) (lists_count nodes)
    (record {
      grown = record { longer = omega arith; kept = kept_with lists n };
      within = omega arith;
      is = made_with lists n;
    }))

-- the node is over the list that it was made over
over_below : (lists all : Lists) (n : Node) (place : ℕ) (t : VType) → all ≡ lists → IsOver lists place t n → IsOver all n.below (type_seen n.listed) n
over_below lists all n place t view over =
    subst (λ (ls : Lists). IsOver ls n.below (type_seen n.listed) n) (sym view)
    (subst (λ (p : ℕ). IsOver lists p (type_seen n.listed) n) (sym over.below) (subst (λ (x : VType). IsOver lists place x n) (sym over.listed) over))

below_within : (lists all : Lists) (n : Node) (place : ℕ) (t : VType) → all ≡ lists → place < length lists → IsOver lists place t n → n.below < length all
below_within lists all n place t view lt over = let e = ap length view in let b = over.below in omega arith

pub nodes_put : (nodes news : List Node) (lists : Lists) (n : Node) (place : ℕ) (t : VType) → lists_of nodes ≡ lists → news ≡ nodes ++ n ∷ [] → place < length lists → IsOver lists place t n → AreNodes nodes → AreNodes news
nodes_put nodes news lists n place t view is lt over are =
    subst AreNodes (sym is)
    (nodes_push nodes n are (below_within lists (lists_of nodes) n place t view lt over) (over_below lists (lists_of nodes) n place t view over))

pub lists_put : (nodes news : List Node) (lists : Lists) (n : Node) (place at : ℕ) (t : VType) → lists_of nodes ≡ lists → news ≡ nodes ++ n ∷ [] → at ≡ length news → place < length lists → IsOver lists place t n → IsPut lists (lists_of news) place (t ∷ []) at
lists_put nodes news lists n place at t view is last lt over =
    let count : at ≡ length nodes + 1 = last ∙ ap length is ∙ length_push nodes n in
    subst (λ (ls : Lists). IsPut ls (lists_of news) place (t ∷ []) at) view
    (subst (λ (ms : List Node). IsPut (lists_of nodes) (lists_of ms) place (t ∷ []) at) (sym is)
    (subst (λ (j : ℕ). IsPut (lists_of nodes) (lists_of (nodes ++ n ∷ [])) place (t ∷ []) j) (sym count)
    (subst (λ (p : ℕ). IsPut (lists_of nodes) (lists_of (nodes ++ n ∷ [])) p (t ∷ []) (length nodes + 1)) over.below
    (subst (λ (x : VType). IsPut (lists_of nodes) (lists_of (nodes ++ n ∷ [])) n.below (x ∷ []) (length nodes + 1)) over.listed
    (put_is nodes n (below_within lists (lists_of nodes) n place t view lt over))))))
