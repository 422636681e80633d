-- The acts of divisions, and of the instructions on arrays but for arrays in arrays, follow one another as the rules say.
use Rattle.bytecode_local.specs.Computing.{kind_of}
use Rattle.bytecode_local.specs.Kinds.{int_at}
use Rattle.class_code.specs.declared.instr.Arithmetic.{Arithmetic}
use Rattle.class_code.specs.declared.instr.Arithmetic.TheVariants as arithmetic
use Rattle.class_code.specs.declared.instr.Element.{Element}
use Rattle.class_code.specs.declared.instr.Instr.{Instr}
use Rattle.class_code.specs.declared.instr.Instr.TheVariants as instr
use Rattle.class_code.specs.declared.instr.Simple.TheVariants as simple
use Rattle.class_code.specs.declared.instr.Width.{Width}
use Rattle.instruction_effect.proofs.FollowingCores.{Still, Walk, done_one}
use Rattle.instruction_effect.proofs.FollowingForms.{IsFirst, OutcomeFollows, Stood, gives_follows, goes_follows, if_follows, kind_follows, misfit_follows, null_follows, reference_follows, room_follows, there_follows}
use Rattle.instruction_effect.proofs.FollowingNumbers.{combined_holds, kept_holds}
use Rattle.instruction_effect.proofs.FollowingObjects.{elements_hold, object_follows}
use Rattle.instruction_effect.proofs.FollowingReads.{element_holds}
use Rattle.instruction_effect.specs.Arrays.{components_in, element_in, kept, kind_of_element, length_outcome, load_outcome, may_hold, place_of, store_outcome, when_array, when_within}
use Rattle.instruction_effect.specs.Division.{divided, division_outcome, unless_zero}
use Rattle.instruction_effect.specs.NewArrays.{first_elements, new_array, new_of_length}
use Rattle.instruction_effect.specs.Operands.{gives, incompatible}
use Rattle.instruction_effect.specs.Outcomes.{Outcome, Site}
use Rattle.java_heap.specs.Heaps as heaps
use Rattle.jv_names.specs.Names.{Name}
use Rattle.jv_number.specs.Values.{combined, divides_by_zero}
use Rattle.link_versions.specs.Subtypes.{Typed}
use Rattle.machine_state.specs.Acts.{Act, Changes, PutsElement}
use Rattle.std.proofs.Common.{Bool, List, None, Option, Some, [], ap, false, refl, true, ℕ, ◌∷◌, ◌≡◌}
use Rattle.std.specs.Prelude.{Err, Ok, if◌then◌else◌, negsuc, option_map, pos, ℤ}
use Rattle.ti_ids.specs.Maybe.{◌>>=◌}
use Rattle.ti_ids.specs.declared.number.ClassNo.{ClassNo}
use Rattle.ti_ids.specs.declared.number.ObjNo.{ObjNo}
use Rattle.ti_ids.specs.declared.value.Value.{Value}
use Rattle.ti_ids.specs.declared.value.Value.TheVariants as value

module _ (w : Walk) where
  abbrev F : Outcome → Type 0
  F o = OutcomeFollows w.Ok w.Holds w.start o

  -- ---- new arrays

  length_made : (site : Site) → Stood w site → (acts : List Act) (n : ClassNo) (name : Name) (length : ℤ) → Still w site.core site.t acts
      → F (new_of_length site acts n name length)
  length_made site s acts n name (pos k) still =
      room_follows w site s.based acts n (first_elements name k) [] _ still tt (elements_hold w site.t s.based.rules name k)
      (λ all o has. object_follows w site s all 1 o has)
  length_made site s acts n name (negsuc k) still = still.apart.done.follows

  pub array_made : (site : Site) → Stood w site → IsFirst w site → (name : Name) → F (new_array site name)
  array_made site s first name = there_follows w site s first name _ (λ there acts n stood still.
      misfit_follows w (int_at there.frame.stack 0) _ (λ length. length_made there stood acts n name length still))

  -- ---- elements

  components_by : (o : ObjNo) (found : Option Typed) (so : ObjNo → Typed → Outcome) → ((c : Typed) → F (so o c))
      → F (elim found as (λ _. Outcome) [ None ↦ incompatible [] | Some component ↦ so o component ])
  components_by o None so k = tt
  components_by o (Some c) so k = k c

  array_follows : (site : Site) (e : Element) (r : Option ObjNo) (so : ObjNo → Typed → Outcome) → w.Holds site.core (value.Ref r)
      → ((o : ObjNo) (c : Typed) → F (so o c)) → F (when_array site e r so)
  array_follows site e r so h k = null_follows w site.core [] r _ tt h (λ o there. components_by o (components_in site e o) so (k o))

  within_follows : (found : Option (ℕ × Value)) (so : ℕ → Value → Outcome) → ((place : ℕ) (v : Value) → found ≡ Some (place, v) → F (so place v))
      → F (when_within found so)
  within_follows None so k = tt
  within_follows (Some (place, v)) so k = k place v refl

  abbrev at_place : ℕ → Option Value → Option (ℕ × Value)
  at_place place held = option_map (λ v. (let pair : ℕ × Value = (place, v) in pair)) held

  paired : (place : ℕ) (held : Option Value) (at : ℕ) (v : Value) → at_place place held ≡ Some (at, v) → held ≡ Some v
  paired place None at v is = absurd cc
  paired place (Some u) at v is = ap (λ (o : Option (ℕ × Value)). option_map (λ p. p.1) o) is

  element_by : (site : Site) → Stood w site → (o : ObjNo) (place : Option ℕ) (at : ℕ) (v : Value)
      → (place >>= λ place. at_place place (heaps.elem_at site.core.heap o place)) ≡ Some (at, v) → w.Holds site.core v
  element_by site s o None at v is = absurd cc
  element_by site s o (Some place) at v is =
      element_holds w.Holds site.core s.whole o place v (paired place (heaps.elem_at site.core.heap o place) at v is)

  length_by : (site : Site) → Stood w site → IsFirst w site → (length : Option ℕ)
      → F (elim length as (λ _. Outcome) [ None ↦ incompatible [] | Some n ↦ gives site [] 1 (value.Int (pos n)) ])
  length_by site s first None = tt
  length_by site s first (Some n) =
      gives_follows w site s [] first.none.apart.done 1 (value.Int (pos n)) (s.based.rules.int w.start (pos n))

  pub length_follows : (site : Site) → Stood w site → IsFirst w site → F (length_outcome site)
  length_follows site s first =
      reference_follows w site s.based 0 _ (λ r h.
      null_follows w site.core [] r _ tt h (λ o there. length_by site s first (heaps.array_length_at site.core.heap o)))

  pub load_follows : (site : Site) → Stood w site → IsFirst w site → (e : Element) → F (load_outcome site e)
  load_follows site s first e =
      misfit_follows w (int_at site.frame.stack 0) _ (λ index. reference_follows w site s.based 1 _ (λ array h.
      array_follows site e array _ h (λ o c. within_follows (element_in site o index) _ (λ place v is.
      gives_follows w site s [] first.none.apart.done 2 v
      (first.none.apart.done.held v (element_by site s o (place_of index) place v is))))))

  pub store_follows : (site : Site) → Stood w site → IsFirst w site → (e : Element) → F (store_outcome site e)
  store_follows site s first e =
      kind_follows w site s.based (kind_of_element e) 0 _ (λ v h.
      misfit_follows w (int_at site.frame.stack 1) _ (λ index. reference_follows w site s.based 2 _ (λ array k.
      array_follows site e array _ k (λ o c. within_follows (element_in site o index) _ (λ place before is.
      let rules = s.based.rules in
      let put : Act = Changes (PutsElement o place (kept c v)) in
      let ok : w.Ok w.start put =
      rules.puts_element w.start o place (kept c v) (kept_holds w site.t rules w.start c v (first.none.apart.done.held v h)) in
      if_follows w (may_hold site c v) _ _
      (goes_follows w site s (put ∷ []) (done_one w site.core site.t rules [] put first.none.apart.done ok (λ now. refl)) 3 [] tt) tt)))))

  -- ---- divisions

  zero_follows : (site : Site) → Stood w site → IsFirst w site → (op : Arithmetic) (v1 v2 : Value) (by_zero : Bool) → w.Holds w.start v1
      → F (unless_zero site (if by_zero then Err (record {}) else Ok (combined op v1 v2)))
  zero_follows site s first op v1 v2 true h = tt
  zero_follows site s first op v1 v2 false h =
      gives_follows w site s [] first.none.apart.done 2 (combined op v1 v2) (combined_holds w site.t s.based.rules w.start op v1 v2 h)

  divided_follows : (site : Site) → Stood w site → IsFirst w site → (op : Arithmetic) (width : Width) → F (divided site op width)
  divided_follows site s first op width =
      kind_follows w site s.based (kind_of width) 0 _ (λ v2 h. kind_follows w site s.based (kind_of width) 1 _ (λ v1 k.
      zero_follows site s first op v1 v2 (divides_by_zero op v2) (first.none.apart.done.held v1 k)))

  pub division_follows : (site : Site) → Stood w site → IsFirst w site → (i : Instr) → F (division_outcome site i)
  division_follows site s first (instr.Simple (simple.Arithmetic arithmetic.Div width)) = divided_follows site s first arithmetic.Div width
  division_follows site s first (instr.Simple (simple.Arithmetic arithmetic.Rem width)) = divided_follows site s first arithmetic.Rem width
  division_follows site s first _ = tt
