-- The acts of `multianewarray` follow one another as the rules say: each object that they make has room, an element is set to an array that
-- is there by then, and the classes that are made are those of array types. And with it those of all instructions on arrays.
use Rattle.class_code.specs.declared.instr.Instr.{Instr}
use Rattle.class_code.specs.declared.instr.Instr.TheVariants as instr
use Rattle.class_code.specs.declared.instr.PoolOp.TheVariants as pool_op
use Rattle.class_code.specs.declared.instr.Simple.TheVariants as simple
use Rattle.class_tree.specs.Tree.{class_at}
use Rattle.bytecode_local.specs.Kinds.{int_at}
use Rattle.thread_frames.specs.Operands.{OperandStack}
use Rattle.instruction_effect.proofs.ActRules.{AreArrays, behind}
use Rattle.instruction_effect.proofs.FollowingArrays.{array_made, length_follows, load_follows, store_follows}
use Rattle.instruction_effect.proofs.FollowingCores.{Done, Follows, Leaves, Rules, Still, Walk, after, after_both, done_more}
use Rattle.instruction_effect.proofs.FollowingForms.{IsFirst, IsLoadedAs, OutcomeFollows, Stood, gives_follows, if_by, loaded_follows, misfit_by, misfit_follows, stood_there, with_classes, set_length}
use Rattle.instruction_effect.proofs.FollowingObjects.{elements_hold}
use Rattle.instruction_effect.specs.Arrays.{array_outcome}
use Rattle.instruction_effect.specs.NewArrays.{array_count, array_over, classes_at, component_name, first_elements, given, has_dimensions, lengths_at, makes_arrays, makes_one, multianewarray_outcome, new_of_sizes, number_in, primitive_array, sets_element, sizes_of, while_room, words_made}
use Rattle.instruction_effect.specs.Operands.{classes_with, classes_with_type, gives_object}
use Rattle.instruction_effect.specs.Outcomes.{Fills, Outcome, Site, misfit, next_class}
use Rattle.java_heap.proofs.Numbers.{found_place}
use Rattle.java_heap.specs.Changes.{put_elem, with_elem}
use Rattle.java_heap.specs.Heaps.{HeapValue, next_number, object_at, words_taken}
use Rattle.java_heap.specs.Objects.{fresh, words_of}
use Rattle.java_heap.specs.declared.object.Content.{Content}
use Rattle.java_heap.specs.declared.object.Content.TheVariants.{ClassObject, Elements, Fields, Literal, Text}
use Rattle.java_heap.specs.declared.object.Object.{Object}
use Rattle.jv_names.specs.Names.{Name}
use Rattle.jv_names.specs.declared.descriptor.FieldType.{FieldType}
use Rattle.link_versions.specs.Changes.{IsElementThere, array_class}
use Rattle.link_versions.specs.Classes.{Class, number_of}
use Rattle.link_versions.specs.Subtypes.{type_of}
use Rattle.instruction_effect.proofs.ArrayNames.{component_typed, type_of_added}
use Rattle.machine_state.specs.Acts.{Act, AddsClass, Changes, Makes, PutsElement}
use Rattle.machine_state.specs.Core.{Core}
use Rattle.machine_state.specs.Linked.{array_type}
use Rattle.std.proofs.Common.{Bool, List, None, Option, Some, [], ap, arith, drop, false, inl, inr, length, length-append, refl, subst, suc, sym, true, zero, ℕ, ◌*◌, ◌++◌, ◌+◌, ◌-◌, ◌<◌, ◌∙◌, ◌∷◌, ◌≡◌, ◌≤◌}
use Rattle.std.proofs.lemmas.Bool.{and_parts, le-leb, leb-true}
use Rattle.std.proofs.lemmas.List.Sums.{sum_by-cons, sum_by_push}
use Rattle.std.specs.List.{AllByRecursion, range_with_len}
use Rattle.std.specs.Option.{option_map_or}
use Rattle.std.specs.Prelude.{flat_map, if◌then◌else◌, nat_le, negsuc, pos, slice_get, slice_set, ℤ}
use Rattle.ti_ids.specs.Maybe.{◌>>=◌}
use Rattle.ti_ids.specs.declared.number.ClassNo.{ClassNo}
use Rattle.ti_ids.specs.declared.number.ObjNo.{ObjNo}
use Rattle.ti_ids.specs.declared.number.ThreadNo.{ThreadNo}
use Rattle.ti_ids.specs.declared.state.InitState.{InitState}
use Rattle.ti_ids.specs.declared.state.InitState.TheVariants as states
use Rattle.ti_ids.specs.declared.value.Value.{Value}
use Rattle.ti_ids.specs.declared.value.Value.TheVariants as value

-- ---- a heap of which an element is set

abbrev size : Object → ℕ
size x = words_of x.content

abbrev sizes : List Object → ℕ
sizes objects = words_taken (record { limit = 0; objects = objects })

set_sizes : (objects : List Object) (k : ℕ) (x y : Object) → slice_get objects k ≡ Some x → size y ≡ size x
    → sizes (slice_set objects k y) ≡ sizes objects
set_sizes [] k x y is same = absurd cc
set_sizes (z ∷ objects) zero x y is same =
    let here : z ≡ x = cc in
    let equal : size y ≡ size z = same ∙ ap size (sym here) in
    sum_by-cons size y objects ∙ ap (λ (n : ℕ). n + sizes objects) equal ∙ sym (sum_by-cons size z objects)
set_sizes (z ∷ objects) (suc k) x y is same =
    sum_by-cons size z (slice_set objects k y) ∙ ap (λ (n : ℕ). size z + n) (set_sizes objects k x y is same) ∙ sym (sum_by-cons size z objects)

put_size : (place : ℕ) (v : Value) (content : Content) → words_of (put_elem place v content) ≡ words_of content
put_size place v (Elements values) = ap (λ (n : ℕ). 2 + n) (set_length values place v)
put_size place v (Fields values) = refl
put_size place v (Text units) = refl
put_size place v (Literal units) = refl
put_size place v (ClassObject class) = refl

-- as many objects, and as many words
abbrev IsAsLarge : List Object → List Object → Type 0
IsAsLarge objects other = (length other ≡ length objects) × (sizes other ≡ sizes objects)

put_by : (objects : List Object) (k : ℕ) (place : ℕ) (v : Value) (found : Option Object)
    → ((x : Object) → found ≡ Some x → slice_get objects k ≡ Some x)
    → IsAsLarge objects (option_map_or (λ o. slice_set objects k (record o { content = put_elem place v o.content })) found objects)
put_by objects k place v None h = (refl, refl)
put_by objects k place v (Some x) h =
    let y : Object = record x { content = put_elem place v x.content } in
    (set_length objects k y, set_sizes objects k x y (h x refl) (put_size place v x.content))

put_as : (heap : HeapValue) (o : ObjNo) (place : ℕ) (v : Value) → IsAsLarge heap.objects (with_elem heap o place v).objects
put_as heap o place v = put_by heap.objects (o.0 - 1) place v (object_at heap o) (λ x is. (found_place heap o x is).1)

-- ---- acts that make arrays

-- how many objects there are behind acts, where there are so many before
abbrev counted : Act → ℕ → ℕ
counted (Changes (Makes object)) k = k + 1
counted a k = k

abbrev counts : List Act → ℕ → ℕ
counts [] k = k
counts (a ∷ acts) k = counts acts (counted a k)

counts_both : (xs ys : List Act) (k : ℕ) → counts (xs ++ ys) k ≡ counts ys (counts xs k)
counts_both [] ys k = refl
counts_both (x ∷ xs) ys k = counts_both xs ys (counted x k)

module _ (w : Walk) where
  abbrev F : Outcome → Type 0
  F o = OutcomeFollows w.Ok w.Holds w.start o

  -- the name is that of an array type of so many dimensions at least, whose element is there
  abbrev ArrayOf : ℕ → Name → Type 0
  ArrayOf count name =
      AreArrays w.classes
      → (type : FieldType) × (array_type name ≡ Some type) × IsElementThere w.classes type.element × (count ≤ type.dimensions)

  abbrev IsFine : ℕ → Act → Type 0
  IsFine k (Changes (AddsClass name state)) = (state ≡ states.Initialized) × ArrayOf 1 name
  IsFine k (Changes (Makes object)) = (class : ClassNo) × (name : Name) × (n : ℕ) × (object ≡ fresh class (first_elements name n))
  IsFine k (Changes (PutsElement array place (value.Ref (Some held)))) = (0 < held.0) × (held.0 ≤ k)
  IsFine k a = ⊥

  abbrev Fine : ℕ → List Act → Type 0
  Fine k [] = Unit {0}
  Fine k (a ∷ acts) = IsFine k a × Fine (counted a k) acts

  fine_both : (xs ys : List Act) (k : ℕ) → Fine k xs → Fine (counts xs k) ys → Fine k (xs ++ ys)
  fine_both [] ys k h g = g
  fine_both (x ∷ xs) ys k h g = (h.0, fine_both xs ys (counted x k) h.1 g)

  -- acts that make so many arrays
  abbrev AreMaking : ℕ → ℕ → List Act → Type 0
  AreMaking k count acts = Fine k acts × (counts acts k ≡ k + count)

  both : (xs ys : List Act) (k c d : ℕ) → AreMaking k c xs → AreMaking (k + c) d ys → AreMaking k (c + d) (xs ++ ys)
  both xs ys k c d h g = (
    fine_both xs ys k h.0 (subst (λ (n : ℕ). Fine n ys) (sym h.1) g.0),
    counts_both xs ys k ∙ ap (counts ys) h.1 ∙ g.1 ∙ (let all : k + c + d ≡ k + (c + d) = omega arith in all),
  )

  -- ---- the acts of makes_arrays

  one_by : (classes : List Class) (name : Name) (n k : ℕ) (found : Option ClassNo) → ArrayOf 1 name → AreMaking k 1 (elim found as (λ _. List Act) [
    | Some class ↦ Changes (Makes (fresh class (first_elements name n))) ∷ []
    | None ↦ Changes (AddsClass name states.Initialized) ∷ Changes (Makes (fresh (next_class classes) (first_elements name n))) ∷ []
  ])
  one_by classes name n k (Some class) h = (((class, name, n, refl), tt), refl)
  one_by classes name n k None h = (((refl, h), ((next_class classes, name, n, refl), tt)), refl)

  step : (k first c : ℕ) → k + first * c + c ≡ k + (first + 1) * c
  step k first c = grind arith

  more : (n c : ℕ) → c + n * c ≡ suc n * c
  more n c = grind arith

  each_made : (f : ℕ → List Act) (k c n first : ℕ) → ((place : ℕ) → AreMaking (k + place * c) c (f place))
      → AreMaking (k + first * c) (n * c) (flat_map f (range_with_len first n))
  each_made f k c zero first h = (tt, (let none : k + first * c ≡ k + first * c + 0 * c = omega arith in none))
  each_made f k c (suc n) first h =
      let rest : List Act = flat_map f (range_with_len (first + 1) n) in
      let tail : AreMaking (k + (first + 1) * c) (n * c) rest = each_made f k c n (first + 1) h in
      subst (λ (total : ℕ). AreMaking (k + first * c) total (f first ++ rest)) (more n c)
      (both (f first) rest (k + first * c) c (n * c) (h first)
      (subst (λ (at : ℕ). AreMaking at (n * c) rest) (sym (step k first c)) tail))

  component_of : (count : ℕ) (name : Name) → ArrayOf (suc (suc count)) name → ArrayOf (suc count) (component_name name)
  component_of count name h lawful =
      let known = h lawful in
      let type : FieldType = known.0 in
      let deep : suc (suc count) ≤ type.dimensions = known.3 in
      let k : ℕ = type.dimensions - 2 in
      let less : FieldType = record { dimensions = suc k; element = type.element } in
      (less, component_typed name type k less known.1 (omega (arith, deep)) refl, known.2, omega (arith, deep))

  fewer : (count : ℕ) (name : Name) → ArrayOf (suc count) name → ArrayOf 1 name
  fewer count name h lawful = let known = h lawful in let deep : suc count ≤ known.0.dimensions = known.3 in
      (known.0, known.1, known.2, omega (arith, deep))

  -- an element is set to the array that was made last, with all that it holds
  set_made : (array : ObjNo) (k place c : ℕ) (held : ObjNo) → held.0 ≡ k + place * c + 1 → 1 ≤ c
      → AreMaking (k + place * c + c) 0 (sets_element array place held ∷ [])
  set_made array k place c held is some =
      (((omega (arith, is), omega (arith, is, some)), tt), (let same : k + place * c + c ≡ k + place * c + c + 0 = omega arith in same))

  arrays_made : (lengths : List ℕ) (classes : List Class) (name : Name) (array : ObjNo) (k : ℕ) → array.0 ≡ k + 1 → ArrayOf (length lengths) name
      → AreMaking k (array_count lengths) (makes_arrays classes lengths name array)
  arrays_made [] classes name array k is h = (tt, (let same : k ≡ k + 0 = omega arith in same))
  arrays_made (n ∷ []) classes name array k is h =
      subst (λ (c : ℕ). AreMaking k c (makes_one classes name n)) (let one : 1 ≡ 1 + n * 0 = omega arith in one)
      (one_by classes name n k (number_of classes name) (fewer 0 name h))
  arrays_made (n ∷ m ∷ inner) classes name array k is h =
      let c : ℕ = array_count (m ∷ inner) in
      let held : ℕ → ObjNo = λ place. number_in array (m ∷ inner) place in
      let at : ℕ → List Class = λ place. classes_at classes (n ∷ m ∷ inner) name place in
      let made : ℕ → List Act = λ place. makes_arrays (at place) (m ∷ inner) (component_name name) (held place) in
      let each : ℕ → List Act = λ place. made place ++ sets_element array place (held place) ∷ [] in
      let one : AreMaking k 1 (makes_one classes name n) = one_by classes name n k (number_of classes name) (fewer (suc (length inner)) name h) in
      let places : AreMaking (k + 1 + 0 * c) (n * c) (flat_map each (range_with_len 0 n)) =
      each_made each (k + 1) c n 0 (λ place.
      let number : (held place).0 ≡ k + 1 + place * c + 1 = omega (arith, is) in
      let inside : AreMaking (k + 1 + place * c) c (made place) =
      arrays_made (m ∷ inner) (at place) (component_name name) (held place) (k + 1 + place * c) number (component_of (length inner) name h) in
      let some : 1 ≤ c = omega arith in
      subst (λ (d : ℕ). AreMaking (k + 1 + place * c) d (each place)) (let none : c + 0 ≡ c = omega arith in none)
      (both (made place) (sets_element array place (held place) ∷ []) (k + 1 + place * c) c 0 inside
      (set_made array (k + 1) place c (held place) number some))) in
      let begin : k + 1 + 0 * c ≡ k + 1 = omega arith in
      both (makes_one classes name n) (flat_map each (range_with_len 0 n)) k 1 (n * c) one
      (subst (λ (from : ℕ). AreMaking from (n * c) (flat_map each (range_with_len 0 n))) begin places)

  -- ---- as far as there is room

  -- what an act does to the heap, as far as room and numbers go
  pub record Acts (t : ThreadNo) (now : Core) (a : Act) (words : ℕ) : Type 0 where
    pub ok : w.Ok now a
    pub left : Leaves t a
    pub number : length (behind now a).heap.objects ≡ counted a (length now.heap.objects)
    pub room : words - words_made a ≡ (behind now a).heap.limit - words_taken (behind now a).heap

  makes_act : (t : ThreadNo) → Rules w t → (now : Core) (class : ClassNo) (name : Name) (n words : ℕ)
      → words ≡ now.heap.limit - words_taken now.heap → nat_le (words_of (first_elements name n)) words ≡ true
      → Acts t now (Changes (Makes (fresh class (first_elements name n)))) words
  makes_act t rules now class name n words is fits =
      let content : Content = first_elements name n in
      let heap : HeapValue = now.heap in
      let object : Object = fresh class content in
      let within : words_of content ≤ words = leb-true (words_of content) words fits in
      let some : 1 ≤ words_of content = omega arith in
      let room : words_taken heap + words_of content ≤ heap.limit = omega (arith, within, some, is) in
      let taken : words_taken (record heap { objects = heap.objects ++ object ∷ [] }) ≡ words_taken heap + words_of content =
      sum_by_push size heap.objects object in
      record {
        ok = rules.makes now class content (le-leb (words_taken heap + words_of content) heap.limit room) tt (elements_hold w t rules name n now);
        left = λ c. refl;
        number = length-append heap.objects (object ∷ []);
        room = omega (arith, is, taken);
      }

  fine_act : (t : ThreadNo) → Rules w t → (now : Core) (a : Act) (words : ℕ) → IsFine (length now.heap.objects) a
      → words ≡ now.heap.limit - words_taken now.heap → nat_le (words_made a) words ≡ true → Acts t now a words
  fine_act t rules now (Changes (AddsClass name state)) words h is fits =
      let added : w.Ok now (Changes (AddsClass name states.Initialized)) =
      rules.adds_array now name (λ lawful. let known = h.1 lawful in (known.0, known.1, known.2)) in
      record {
        ok = subst (λ (s : InitState). w.Ok now (Changes (AddsClass name s))) (sym h.0) added;
        left = λ c. refl;
        number = refl;
        room = omega (arith, is);
      }
  fine_act t rules now (Changes (Makes object)) words h is fits =
      let same : object ≡ fresh h.0 (first_elements h.1 h.2) = h.3 in
      subst (λ (x : Object). Acts t now (Changes (Makes x)) words) (sym same)
      (makes_act t rules now h.0 h.1 h.2 words is (ap (λ (x : Object). nat_le (words_of x.content) words) (sym same) ∙ fits))
  fine_act t rules now (Changes (PutsElement array place (value.Ref (Some held)))) words h is fits =
      let large = put_as now.heap array place (value.Ref (Some held)) in
      record {
        ok = rules.puts_element now array place (value.Ref (Some held)) (rules.there now held h);
        left = λ c. refl;
        number = large.0;
        room = omega (arith, is, large.1);
      }
  fine_act t rules now a words h is fits = absurd h

  -- what acts that are done as far as there is room come to
  pub record AreDone (t : ThreadNo) (now : Core) (acts : List Act) : Type 0 where
    pub follows : Follows w now acts
    pub left : AllByRecursion (Leaves t) acts
    pub number : length (after now acts).heap.objects ≡ counts acts (length now.heap.objects)

  fine_done : (t : ThreadNo) → Rules w t → (acts : List Act) (now : Core) (words : ℕ) → Fine (length now.heap.objects) acts
      → words ≡ now.heap.limit - words_taken now.heap → AreDone t now (while_room words acts)
  fine_done t rules [] now words h is = record { follows = tt; left = tt; number = refl }
  fine_done t rules (a ∷ acts) now words h is = by (nat_le (words_made a) words) refl
      (λ one. fine_done t rules acts (behind now a) (words - words_made a)
      (subst (λ (k : ℕ). Fine k acts) (sym one.number) h.1) one.room)
    where
      by : (b : Bool) → nat_le (words_made a) words ≡ b
          → ((one : Acts t now a words) → AreDone t (behind now a) (while_room (words - words_made a) acts))
          → AreDone t now (if b then a ∷ while_room (words - words_made a) acts else [])
      by false is_full rest = record { follows = tt; left = tt; number = refl }
      by true fits rest =
          let one = fine_act t rules now a words h.0 is fits in
          let others = rest one in
          record {
            follows = (one.ok, others.follows);
            left = (one.left, others.left);
            number = others.number ∙ ap (counts (while_room (words - words_made a) acts)) one.number;
          }

  -- where nothing was left out, all acts were done
  all_done : (acts : List Act) (words : ℕ) → drop (length (while_room words acts)) acts ≡ [] → while_room words acts ≡ acts
  all_done [] words is = refl
  all_done (a ∷ acts) words is = by (nat_le (words_made a) words) (all_done acts (words - words_made a)) is
    where
      by : (b : Bool) → (drop (length (while_room (words - words_made a) acts)) acts ≡ [] → while_room (words - words_made a) acts ≡ acts)
          → drop (length (if b then a ∷ while_room (words - words_made a) acts else [])) (a ∷ acts) ≡ []
          → (if b then a ∷ while_room (words - words_made a) acts else []) ≡ a ∷ acts
      by true rest none = ap (λ (l : List Act). a ∷ l) (rest none)
      by false rest none = absurd cc

  -- ---- the instruction

  given_by : (site : Site) → Stood w site → (count : ℕ) (acts rest : List Act) → Done w site.core site.t acts
      → (rest ≡ [] → w.Holds (after w.start acts) (value.Ref (Some (next_number site.core.heap))))
      → F (elim rest as (λ _. Outcome) [
        | [] ↦ gives_object site acts count (next_number site.core.heap)
        | act ∷ more ↦ Fills acts
      ])
  given_by site s count acts [] d there = gives_follows w site s acts d count (value.Ref (Some (next_number site.core.heap))) (there refl)
  given_by site s count acts (act ∷ more) d there = d.follows

  given_follows : (site : Site) → Stood w site → (count : ℕ) (before making : List Act) (c : ℕ) → Still w site.core site.t before
      → AreMaking (length site.core.heap.objects) (suc c) making → F (given site count before making)
  given_follows site s count before making c still h =
      let heap : HeapValue = site.core.heap in
      let rules = s.based.rules in
      let now : Core = after w.start before in
      let room : ℕ = heap.limit - words_taken heap in
      let done : List Act = while_room room making in
      let same : heap ≡ now.heap = sym still.heap in
      let k : ℕ = length heap.objects in
      let all : AreDone site.t now done =
      fine_done site.t rules making now room (subst (λ (x : HeapValue). Fine (length x.objects) making) same h.0)
      (ap (λ (x : HeapValue). x.limit - words_taken x) same) in
      let both_done = after_both w.start before done in
      let d : Done w site.core site.t (before ++ done) =
      done_more w site.core site.t rules before done still.apart.done all.follows all.left in
      given_by site s count (before ++ done) (drop (length done) making) d (λ none.
      let full : done ≡ making = all_done making room none in
      let number : length (after now done).heap.objects ≡ k + suc c =
      all.number ∙ ap (λ (l : List Act). counts l (length now.heap.objects)) full
      ∙ ap (λ (x : HeapValue). counts making (length x.objects)) still.heap ∙ h.1 in
      subst (λ (x : Core). w.Holds x (value.Ref (Some (next_number heap)))) (sym both_done)
      (rules.there (after now done) (next_number heap) (omega arith, omega (arith, number))))

  lengths_count : (stack : OperandStack) (count : ℕ) (lengths : List ℤ) → lengths_at stack count ≡ Some lengths → length lengths ≡ count
  lengths_count stack zero lengths is = let same : [] ≡ lengths = cc in ap length (sym same)
  lengths_count stack (suc below) lengths is =
      by (int_at stack below) (lengths_at stack below) (λ ns at. lengths_count stack below ns at) is
    where
      by : (top : Option ℤ) (found : Option (List ℤ)) → ((ns : List ℤ) → found ≡ Some ns → length ns ≡ below)
          → (top >>= λ n. found >>= λ ns. Some (n ∷ ns)) ≡ Some lengths → length lengths ≡ suc below
      by None found h is = absurd cc
      by (Some n) None h is = absurd cc
      by (Some n) (Some ns) h is =
          let same : n ∷ ns ≡ lengths = cc in ap length (sym same) ∙ ap (λ (k : ℕ). suc k) (h ns refl)

  sizes_count : (lengths : List ℤ) (found : List ℕ) → sizes_of lengths ≡ Some found → length found ≡ length lengths
  sizes_count [] found is = let same : [] ≡ found = cc in ap length (sym same)
  sizes_count (negsuc n ∷ lengths) found is = absurd cc
  sizes_count (pos n ∷ lengths) found is = by (sizes_of lengths) (λ ns at. sizes_count lengths ns at) is
    where
      by : (rest : Option (List ℕ)) → ((ns : List ℕ) → rest ≡ Some ns → length ns ≡ length lengths)
          → (rest >>= λ ns. Some (n ∷ ns)) ≡ Some found → length found ≡ suc (length lengths)
      by None h is = absurd cc
      by (Some ns) h is = let same : n ∷ ns ≡ found = cc in ap length (sym same) ∙ ap (λ (k : ℕ). suc k) (h ns refl)

  sized_follows : (site : Site) → Stood w site → (acts : List Act) (name : Name) (count : ℕ) (found : List ℕ) → Still w site.core site.t acts
      → 1 ≤ length found → ArrayOf (length found) name
      → F (given site count acts (makes_arrays site.classes found name (next_number site.core.heap)))
  sized_follows site s acts name count [] still some named = absurd (let none : 1 ≤ 0 = some in omega (arith, none))
  sized_follows site s acts name count (n ∷ inner) still some named =
      let making : List Act = makes_arrays site.classes (n ∷ inner) name (next_number site.core.heap) in
      let k : ℕ = length site.core.heap.objects in
      let c : ℕ = n * array_count inner in
      let made : AreMaking k (1 + c) making = arrays_made (n ∷ inner) site.classes name (next_number site.core.heap) k refl named in
      given_follows site s count acts making c still
      (subst (λ (total : ℕ). AreMaking k total making) (let same : 1 + c ≡ suc c = omega arith in same) made)

  of_sizes_follow : (site : Site) → Stood w site → (acts : List Act) (name : Name) (count : ℕ) (found : Option (List ℕ))
      → Still w site.core site.t acts → ((ns : List ℕ) → found ≡ Some ns → length ns ≡ count) → 1 ≤ count → ArrayOf count name
      → F (new_of_sizes site acts name count found)
  of_sizes_follow site s acts name count None still h some named = still.apart.done.follows
  of_sizes_follow site s acts name count (Some ns) still h some named =
      let same : count ≡ length ns = sym (h ns refl) in
      sized_follows site s acts name count ns still (subst (λ (n : ℕ). 1 ≤ n) same some) (subst (λ (n : ℕ). ArrayOf n name) same named)

  -- ---- the class that is named

  abbrev classes_by : List Class → Name → Option FieldType → Option ClassNo → List Class
  classes_by classes name type found = elim found as (λ _. List Class) [ Some n ↦ classes | None ↦ classes_with_type classes name type ]

  named_as : (site : Site) → IsFirst w site → (name : Name) (n : ClassNo) (count : ℕ) → IsLoadedAs site.classes name n
      → count ≤ (type_of (classes_with site.classes name) n).0 → 1 ≤ count → ArrayOf count name
  named_as site first name n count (inl is) deep some lawful =
      let same : classes_with site.classes name ≡ w.classes = ap (classes_by site.classes name (array_type name)) is ∙ first.same in
      let within : count ≤ (type_of w.classes n).0 = subst (λ (cs : List Class). count ≤ (type_of cs n).0) same deep in
      let there : number_of w.classes name ≡ Some n = subst (λ (cs : List Class). number_of cs name ≡ Some n) first.same is in
      let known = lawful name n there (omega (arith, within, some)) in
      (known.0, known.1, known.3, omega (arith, within, known.2))
  named_as site first name n count (inr added) deep some lawful =
      let type : FieldType = added.0 in
      let same : classes_with site.classes name ≡ array_class (number_of site.classes) name type ∷ site.classes =
      ap (classes_by site.classes name (array_type name)) added.3 ∙ ap (classes_with_type site.classes name) added.1 in
      let within : count ≤ (type_of (array_class (number_of site.classes) name type ∷ site.classes) n).0 =
      subst (λ (cs : List Class). count ≤ (type_of cs n).0) same deep in
      let dimensions = type_of_added site.classes name type n (ap (λ (x : ClassNo). x.0) added.4) in
      (type, added.1, subst (λ (cs : List Class). IsElementThere cs type.element) first.same added.2, omega (arith, within, dimensions))

  multi_follows : (site : Site) → Stood w site → IsFirst w site → (index count : ℕ) → F (multianewarray_outcome site index count)
  multi_follows site s first index count =
      misfit_follows w (class_at site.pool index) _ (λ name. loaded_follows w site s.based first name _ (λ acts n still how.
      let there : Site = with_classes w site name in
      let stood : Stood w there = stood_there w site name s in
      if_by w (has_dimensions there n count) _ misfit (λ has.
      let parts = and_parts (nat_le 1 count) (nat_le count (type_of there.classes n).0) has in
      let some : 1 ≤ count = leb-true 1 count parts.0 in
      let deep : count ≤ (type_of there.classes n).0 = leb-true count (type_of there.classes n).0 parts.1 in
      misfit_by w (lengths_at there.frame.stack count) _ (λ lengths at.
      of_sizes_follow there stood acts name count (sizes_of lengths) still
      (λ ns is. sizes_count lengths ns is ∙ lengths_count there.frame.stack count lengths at) some
      (named_as site first name n count how deep some))) (λ has. tt)))

  -- ---- all instructions on arrays

  pub array_outcome_follows : (site : Site) → Stood w site → IsFirst w site → (i : Instr) → F (array_outcome site i)
  array_outcome_follows site s first (instr.NewArray primitive) = array_made w site s first (primitive_array primitive)
  array_outcome_follows site s first (instr.Pool pool_op.NewReferenceArray index) =
      misfit_follows w (class_at site.pool index) _ (λ name. array_made w site s first (array_over name))
  array_outcome_follows site s first (instr.MultiNewArray index count) = multi_follows site s first index count
  array_outcome_follows site s first (instr.Simple simple.ArrayLength) = length_follows w site s first
  array_outcome_follows site s first (instr.Simple (simple.ArrayLoad e)) = load_follows w site s first e
  array_outcome_follows site s first (instr.Simple (simple.ArrayStore e)) = store_follows w site s first e
  array_outcome_follows site s first _ = tt
