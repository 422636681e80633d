-- What the class of a name is among the linked ones: of a file with its trees, or of an array.
use Rattle.jv_names.specs.Names.{Name}
use Rattle.jv_names.specs.declared.descriptor.ElementType.{ElementType}
use Rattle.jv_names.specs.declared.descriptor.ElementType.TheVariants as element_type
use Rattle.jv_names.specs.declared.descriptor.FieldType.{FieldType}
use Rattle.instruction_effect.proofs.ActRules.{AreArrays}
use Rattle.link_versions.proofs.Tables.{number_of-there}
use Rattle.link_versions.specs.Changes.{IsElementThere}
use Rattle.link_versions.specs.Classes.{Class, Kind, number_of, numbered}
use Rattle.link_versions.specs.Subtypes.{type_of, typed}
use Rattle.machine_state.proofs.Alike.{kind_at, kind_behind, kind_in, linked_kind, linked_name}
use Rattle.machine_state.specs.Core.{CoreClass}
use Rattle.machine_state.specs.Jobs.{Job}
use Rattle.machine_state.specs.Laws.{names_of}
use Rattle.machine_state.specs.Linked.{array_type, linked, linked_class, trees}
use Rattle.machine_state.specs.Trace.{Trace}
use Rattle.machine_state.specs.Versions.{Turns}
use Rattle.machine_steps.proofs.ClassNames.{named_there, there_named}
use Rattle.machine_steps.proofs.LoadingSupers.{IsIn}
use Rattle.machine_steps.proofs.MadeClasses.{AreMade, IsElementIn, IsMadeAs}
use Rattle.std.proofs.Common.{Bool, List, None, Option, Some, [], ap, arith, cond, false, inl, inr, length, refl, subst, sym, true, ◌<◌, ◌∙◌, ◌∷◌, ◌≡◌}
use Rattle.std.proofs.lemmas.Bool.{eq-eqb}
use Rattle.std.proofs.lemmas.Slice.Eq.{bytes_eq-Decides}
use Rattle.std.specs.Prelude.{bytes_eq, is_some, option_map}
use Rattle.ti_ids.specs.declared.number.ClassNo.{ClassNo}

module _ (job : Job) (turns : Turns) (trace : Trace) where
  pub record FoundKind (classes : List CoreClass) (name : Name) (n : ClassNo) : Type 0 where
    pub find : Name → Option ClassNo
    pub is : kind_at (linked job turns trace classes) n.0 ≡ Some (kind_in find (array_type name) (trees job turns trace name))

  at_length : (x : Class) (before : List Class) → kind_at (x ∷ before) (length (x ∷ before)) ≡ Some x.kind
  at_length x before =
      ap (λ (b : Bool). option_map (λ (c : Class). c.kind) (cond b (Some x) (numbered before (length (x ∷ before))))) (eq-eqb (length (x ∷ before)) (length (x ∷ before)) refl)

  found_by : (c : CoreClass) (older : List CoreClass) (name : Name) (n : ClassNo) (here : Bool)
      → (let before = linked job turns trace older in
      let x = linked_class job turns trace (number_of before) c in
      bytes_eq name x.name ≡ here → cond here (Some (record { 0 = length (x ∷ before) })) (number_of before name) ≡ Some n
      → (number_of before name ≡ Some n → FoundKind older name n) → FoundKind (c ∷ older) name n)
  unfolding linked
  found_by c older name n true is e more =
      let before = linked job turns trace older in
      let x = linked_class job turns trace (number_of before) c in
      let same : name ≡ c.name = (bytes_eq-Decides name x.name).0 is ∙ linked_name job turns trace (number_of before) c in
      let number : length (x ∷ before) ≡ n.0 = cc in
      record {
        find = number_of before;
        is = ap (kind_at (x ∷ before)) (sym number) ∙ at_length x before
            ∙ ap (λ (k : Kind). Some k) (linked_kind job turns trace (number_of before) c
            ∙ ap (λ (m : Name). kind_in (number_of before) (array_type m) (trees job turns trace m)) (sym same));
      }
  found_by c older name n false is e more =
      let before = linked job turns trace older in
      let x = linked_class job turns trace (number_of before) c in
      let f = more e in
      record { find = f.find; is = kind_behind x before n.0 (number_of-there before name n e).1 ∙ f.is }

  pub found : (classes : List CoreClass) (name : Name) (n : ClassNo) → number_of (linked job turns trace classes) name ≡ Some n
      → FoundKind classes name n
  unfolding linked
  found [] name n e = absurd cc
  found (c ∷ older) name n e = found_by c older name n (bytes_eq name _) refl e (found older name n)

  -- ---- a class that is there is made as it is kept

  pub record MadeAt (names : List Name) (name : Name) : Type 0 where
    pub older : List Name
    pub among : (other : Name) → IsIn other older → IsIn other names
    pub made : IsMadeAs older name (array_type name) (trees job turns trace name)

  pub made_at : (names : List Name) (name : Name) → AreMade job turns trace names → IsIn name names → MadeAt names name
  made_at [] name all there = absurd there
  made_at (other ∷ older) name all (inl same) = record {
    older = older;
    among = λ n h. inr h;
    made = subst (λ (n : Name). IsMadeAs older n (array_type n) (trees job turns trace n)) (sym same) all.0;
  }
  made_at (other ∷ older) name all (inr there) =
      let m = made_at older name all.1 there in record { older = m.older; among = λ n h. inr (m.among n h); made = m.made }

  -- ---- array classes

  pub element_there : (classes : List CoreClass) (older : List Name) (e : ElementType) → ((n : Name) → IsIn n older → IsIn n (names_of classes))
      → IsElementIn older e → IsElementThere (linked job turns trace classes) e
  element_there classes older (element_type.Class name) among h = named_there job turns trace name classes (among name h)
  element_there classes older element_type.Boolean among h = tt
  element_there classes older element_type.Byte among h = tt
  element_there classes older element_type.Char among h = tt
  element_there classes older element_type.Short among h = tt
  element_there classes older element_type.Int among h = tt
  element_there classes older element_type.Long among h = tt

  pub there_element : (classes : List CoreClass) (e : ElementType) → IsElementThere (linked job turns trace classes) e
      → IsElementIn (names_of classes) e
  there_element classes (element_type.Class name) h = there_named job turns trace name classes h
  there_element classes element_type.Boolean h = tt
  there_element classes element_type.Byte h = tt
  there_element classes element_type.Char h = tt
  there_element classes element_type.Short h = tt
  there_element classes element_type.Int h = tt
  there_element classes element_type.Long h = tt

  pub all_arrays : (classes : List CoreClass) → AreMade job turns trace (names_of classes) → AreArrays (linked job turns trace classes)
  unfolding type_of
  all_arrays classes all name n e deep =
      let f = found classes name n e in
      let m = made_at (names_of classes) name all
      (there_named job turns trace name classes (ap (λ (o : Option ClassNo). is_some o) e)) in
      by m.older m.among f.find (array_type name) refl m.made f.is deep
    where
      by : (older : List Name) → ((n : Name) → IsIn n older → IsIn n (names_of classes)) → (find : Name → Option ClassNo)
          → (type : Option FieldType) → array_type name ≡ type → IsMadeAs older name type (trees job turns trace name)
          → kind_at (linked job turns trace classes) n.0 ≡ Some (kind_in find type (trees job turns trace name))
          → 0 < (typed n (kind_at (linked job turns trace classes) n.0)).0
          → (type : FieldType) × (array_type name ≡ Some type)
          × (type.dimensions ≡ (typed n (kind_at (linked job turns trace classes) n.0)).0) × IsElementThere (linked job turns trace classes) type.element
      by older among find None array made kind deep =
          absurd (omega (arith, subst (λ (k : Option Kind). 0 < (typed n k).0) kind deep))
      by older among find (Some type) array made kind deep =
          (type, array, ap (λ (k : Option Kind). (typed n k).0) (sym kind), element_there classes older type.element among made)
