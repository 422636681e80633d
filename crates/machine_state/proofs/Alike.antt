-- Lists of classes that differ only in how far their classes are, and lists with further classes before them.
use Rattle.std.proofs.Common.{◌≡◌, ◌∙◌, ◌≤◌, ℕ, suc, ◌==◌, List, [], ◌∷◌, ◌++◌, length, ◌-◌, Option, Some, None, Bool, true, false, cond, refl, sym, ap, arith, length-append}
use Rattle.std.specs.Prelude.{fold, slice_get, option_map}
use Rattle.std.specs.Option.{option_and_then, option_map_or}
use Rattle.std.proofs.lemmas.Bool.{eqb-true}
use Rattle.ti_ids.specs.declared.number.ClassNo.{ClassNo}
use Rattle.ti_ids.specs.declared.number.VersionNo.{VersionNo}
use Rattle.ti_ids.specs.declared.number.MethodNo.{MethodNo}
use Rattle.jv_names.specs.Names.{Name}
use Rattle.jv_names.specs.declared.descriptor.FieldType.{FieldType}
use Rattle.class_tree.specs.Trees.{Tree}
use Rattle.link_versions.specs.Classes.{Class, Kind, OfFile, OfArray, numbered, number_of, versions_of, version_at, version_count, newest_version}
use Rattle.link_versions.specs.Members.{NameAndType, names_after, name_and_type_at, method_name, method_desc}
use Rattle.link_versions.specs.ReadyCode.{code_in}
use Rattle.jv_names.specs.declared.descriptor.ElementType.{ElementType}
use Rattle.jv_names.specs.declared.descriptor.ElementType.TheVariants as element_type
use Rattle.link_versions.specs.Changes.{array_class, element_by}
use Rattle.machine_state.specs.Jobs.{Job}
use Rattle.machine_state.specs.Core.{CoreClass}
use Rattle.machine_state.specs.Trace.{Trace}
use Rattle.machine_state.specs.Versions.{Turns}
use Rattle.machine_state.specs.Linked.{linked, linked_class, class_of_trees, trees, array_type}
use Rattle.machine_state.specs.Laws.{names_of}

-- of one name and one kind
abbrev pub AreAlike : List Class → List Class → Type 0
AreAlike [] [] = Unit {0}
AreAlike [] (d ∷ ds) = ⊥
AreAlike (c ∷ cs) [] = ⊥
AreAlike (c ∷ cs) (d ∷ ds) = (c.name ≡ d.name) × ((c.kind ≡ d.kind) × AreAlike cs ds)

-- ---- what follows from it

pub alike_length : (cs ds : List Class) → AreAlike cs ds → length cs ≡ length ds
alike_length [] [] h = refl
alike_length [] (d ∷ ds) h = absurd h
alike_length (c ∷ cs) [] h = absurd h
alike_length (c ∷ cs) (d ∷ ds) h = ap (λ (n : ℕ). suc n) (alike_length cs ds h.1.1)

pub alike_number : (cs ds : List Class) (name : Name) → AreAlike cs ds → number_of cs name ≡ number_of ds name
alike_number [] [] name h = refl
alike_number [] (d ∷ ds) name h = absurd h
alike_number (c ∷ cs) [] name h = absurd h
alike_number (c ∷ cs) (d ∷ ds) name h = rw (h.0, alike_length cs ds h.1.1, alike_number cs ds name h.1.1) refl

-- the kind of the class that has a number
abbrev pub kind_at : List Class → ℕ → Option Kind
kind_at classes n = option_map (λ c. c.kind) (numbered classes n)

kind_by : (b : Bool) (c d : Class) (x y : Option Class) → c.kind ≡ d.kind → option_map (λ c. c.kind) x ≡ option_map (λ c. c.kind) y
    → option_map (λ c. c.kind) (cond b (Some c) x) ≡ option_map (λ c. c.kind) (cond b (Some d) y)
kind_by true c d x y e h = ap (λ (k : Kind). Some k) e
kind_by false c d x y e h = h

pub alike_kind : (cs ds : List Class) (n : ℕ) → AreAlike cs ds → kind_at cs n ≡ kind_at ds n
alike_kind [] [] n h = refl
alike_kind [] (d ∷ ds) n h = absurd h
alike_kind (c ∷ cs) [] n h = absurd h
alike_kind (c ∷ cs) (d ∷ ds) n h = rw (alike_length cs ds h.1.1) (kind_by (n == length (d ∷ ds)) c d (numbered cs n) (numbered ds n) h.1.0 (alike_kind cs ds n h.1.1))

-- ---- linked classes

pub linked_length : (job : Job) (turns : Turns) (trace : Trace) (classes : List CoreClass) → length (linked job turns trace classes) ≡ length classes
unfolding linked
linked_length job turns trace [] = refl
linked_length job turns trace (c ∷ older) = ap (λ (n : ℕ). suc n) (linked_length job turns trace older)

abbrev Find : Type 0
Find = Name → Option ClassNo

trees_name : (job : Job) (turns : Turns) (find : Find) (c : CoreClass) (ts : List Tree) → (class_of_trees job turns find c ts).name ≡ c.name
trees_name job turns find c [] = refl
trees_name job turns find c (t ∷ ts) = refl

name_by : (job : Job) (turns : Turns) (find : Find) (c : CoreClass) (type : Option FieldType) (ts : List Tree)
    → (elim type as (λ _. Class) [ Some t ↦ record (array_class find c.name t) { state = c.state } | None ↦ class_of_trees job turns find c ts ]).name ≡ c.name
name_by job turns find c None ts = trees_name job turns find c ts
name_by job turns find c (Some t) ts = refl

pub linked_name : (job : Job) (turns : Turns) (trace : Trace) (find : Find) (c : CoreClass) → (linked_class job turns trace find c).name ≡ c.name
linked_name job turns trace find c = name_by job turns find c (array_type c.name) (trees job turns trace c.name)

trees_kind : (job : Job) (turns : Turns) (find : Find) (c : CoreClass) (ts : List Tree) → (class_of_trees job turns find c ts).kind ≡ OfFile ts
trees_kind job turns find c [] = refl
trees_kind job turns find c (t ∷ ts) = refl

-- the kind of a class of this name, by its array type if it has one, and its trees
abbrev pub kind_in : Find → Option FieldType → List Tree → Kind
kind_in find (Some t) ts = OfArray t.dimensions (element_by find t.element)
kind_in find None ts = OfFile ts

kind_of_class : (job : Job) (turns : Turns) (find : Find) (c : CoreClass) (type : Option FieldType) (ts : List Tree)
    → (elim type as (λ _. Class) [ Some t ↦ record (array_class find c.name t) { state = c.state } | None ↦ class_of_trees job turns find c ts ]).kind ≡ kind_in find type ts
kind_of_class job turns find c None ts = trees_kind job turns find c ts
kind_of_class job turns find c (Some t) ts = refl

pub linked_kind : (job : Job) (turns : Turns) (trace : Trace) (find : Find) (c : CoreClass)
    → (linked_class job turns trace find c).kind ≡ kind_in find (array_type c.name) (trees job turns trace c.name)
linked_kind job turns trace find c = kind_of_class job turns find c (array_type c.name) (trees job turns trace c.name)

element_same : (f g : Find) (e : ElementType) → ((name : Name) → f name ≡ g name) → element_by f e ≡ element_by g e
element_same f g element_type.Boolean h = refl
element_same f g element_type.Byte h = refl
element_same f g element_type.Char h = refl
element_same f g element_type.Short h = refl
element_same f g element_type.Int h = refl
element_same f g element_type.Long h = refl
element_same f g (element_type.Class name) h = rw (h name) refl

kind_same : (f g : Find) (type : Option FieldType) (ts : List Tree) → ((name : Name) → f name ≡ g name) → kind_in f type ts ≡ kind_in g type ts
kind_same f g None ts h = refl
kind_same f g (Some t) ts h = ap (λ e. OfArray t.dimensions e) (element_same f g t.element h)

class_kind_same : (job : Job) (turns : Turns) (trace : Trace) (f g : Find) (c d : CoreClass) → c.name ≡ d.name → ((name : Name) → f name ≡ g name)
    → (linked_class job turns trace f c).kind ≡ (linked_class job turns trace g d).kind
class_kind_same job turns trace f g c d e h =
    linked_kind job turns trace f c ∙ kind_same f g (array_type c.name) (trees job turns trace c.name) h
    ∙ ap (λ (n : Name). kind_in g (array_type n) (trees job turns trace n)) e ∙ sym (linked_kind job turns trace g d)

-- classes of the same names are linked alike
pub linked_alike : (job : Job) (turns : Turns) (trace : Trace) (cs ds : List CoreClass) → names_of cs ≡ names_of ds → AreAlike (linked job turns trace cs) (linked job turns trace ds)
unfolding linked
linked_alike job turns trace [] [] e = tt
linked_alike job turns trace [] (d ∷ ds) e = absurd cc
linked_alike job turns trace (c ∷ cs) [] e = absurd cc
linked_alike job turns trace (c ∷ cs) (d ∷ ds) e =
    let same : c.name ≡ d.name = cc in let rest : names_of cs ≡ names_of ds = cc in
    let below = linked_alike job turns trace cs ds rest in
    let f = number_of (linked job turns trace cs) in let g = number_of (linked job turns trace ds) in (
      linked_name job turns trace f c ∙ same ∙ sym (linked_name job turns trace g d),
      (class_kind_same job turns trace f g c d same (λ name. alike_number (linked job turns trace cs) (linked job turns trace ds) name below), below),
    )

-- ---- further classes before them

pub past_by : (b : Bool) (c : Class) (x : Option Class) → b ≡ false → option_map (λ c. c.kind) (cond b (Some c) x) ≡ option_map (λ c. c.kind) x
past_by true c x e = absurd cc
past_by false c x e = refl

pub nat_differ : (n m : ℕ) → (n ≡ m → ⊥) → (n == m) ≡ false
nat_differ n m h = elim (n == m) as (λ b. (n == m) ≡ b → b ≡ false) [ true ↦ λ e. absurd (h (eqb-true n m e)) | false ↦ λ e. refl ] refl

-- a class behind a new one has the kind that it had
pub kind_behind : (c : Class) (cs : List Class) (n : ℕ) → n ≤ length cs → kind_at (c ∷ cs) n ≡ kind_at cs n
kind_behind c cs n few = past_by (n == length (c ∷ cs)) c (numbered cs n) (nat_differ n (length (c ∷ cs)) (λ e. absurd (omega (arith, few, e))))

-- and so does one behind several
pub kind_kept : (job : Job) (turns : Turns) (trace : Trace) (new classes : List CoreClass) (n : ℕ) → n ≤ length classes
    → kind_at (linked job turns trace (new ++ classes)) n ≡ kind_at (linked job turns trace classes) n
unfolding linked
kind_kept job turns trace [] classes n few = refl
kind_kept job turns trace (c ∷ new) classes n few =
    let older = linked job turns trace (new ++ classes) in
    kind_behind (linked_class job turns trace (number_of older) c) older n (omega (arith, few, linked_length job turns trace (new ++ classes), length-append new classes))
    ∙ kind_kept job turns trace new classes n few

-- ---- what follows from the kinds alone

at_by : (place : ℕ) (x y : Option Class) → option_map (λ c. c.kind) x ≡ option_map (λ c. c.kind) y
    → option_and_then (λ c. slice_get (versions_of c.kind) place) x ≡ option_and_then (λ c. slice_get (versions_of c.kind) place) y
at_by place None None e = refl
at_by place None (Some d) e = absurd cc
at_by place (Some c) None e = absurd cc
at_by place (Some c) (Some d) e = let same : c.kind ≡ d.kind = cc in ap (λ (k : Kind). slice_get (versions_of k) place) same

count_by : (x y : Option Class) → option_map (λ c. c.kind) x ≡ option_map (λ c. c.kind) y
    → option_map_or (λ c. length (versions_of c.kind)) x 0 ≡ option_map_or (λ c. length (versions_of c.kind)) y 0
count_by None None e = refl
count_by None (Some d) e = absurd cc
count_by (Some c) None e = absurd cc
count_by (Some c) (Some d) e = let same : c.kind ≡ d.kind = cc in ap (λ (k : Kind). length (versions_of k)) same

pub version_kept : (cs ds : List Class) (v : VersionNo) → kind_at cs v.class.0 ≡ kind_at ds v.class.0 → version_at cs v ≡ version_at ds v
unfolding version_at
version_kept cs ds v e = at_by v.place (numbered cs v.class.0) (numbered ds v.class.0) e

pub count_kept : (cs ds : List Class) (n : ClassNo) → kind_at cs n.0 ≡ kind_at ds n.0 → version_count cs n ≡ version_count ds n
unfolding version_count
count_kept cs ds n e = count_by (numbered cs n.0) (numbered ds n.0) e

pub newest_kept : (cs ds : List Class) (n : ClassNo) → kind_at cs n.0 ≡ kind_at ds n.0 → newest_version cs n ≡ newest_version ds n
newest_kept cs ds n e = ap (λ (k : ℕ). (let v : VersionNo = record { class = n; place = k - 1 } in v)) (count_kept cs ds n e)

versions_by : (x y : Option Class) → option_map (λ c. c.kind) x ≡ option_map (λ c. c.kind) y
    → option_map_or (λ c. versions_of c.kind) x [] ≡ option_map_or (λ c. versions_of c.kind) y []
versions_by None None e = refl
versions_by None (Some d) e = absurd cc
versions_by (Some c) None e = absurd cc
versions_by (Some c) (Some d) e = let same : c.kind ≡ d.kind = cc in ap (λ (k : Kind). versions_of k) same

-- the name and the descriptor that a number of a method stands for
named_kept : (cs ds : List Class) (m : MethodNo) → kind_at cs m.class.0 ≡ kind_at ds m.class.0 → name_and_type_at cs m ≡ name_and_type_at ds m
named_kept cs ds m e = ap (λ (vs : List Tree). slice_get (fold names_after [] vs) m.place) (versions_by (numbered cs m.class.0) (numbered ds m.class.0) e)

pub name_kept : (cs ds : List Class) (m : MethodNo) → kind_at cs m.class.0 ≡ kind_at ds m.class.0 → method_name cs m ≡ method_name ds m
unfolding method_name
name_kept cs ds m e = ap (λ (x : Option NameAndType). option_and_then (λ x. x.0) x) (named_kept cs ds m e)

pub desc_kept : (cs ds : List Class) (m : MethodNo) → kind_at cs m.class.0 ≡ kind_at ds m.class.0 → method_desc cs m ≡ method_desc ds m
unfolding method_desc
desc_kept cs ds m e = ap (λ (x : Option NameAndType). option_and_then (λ x. x.1) x) (named_kept cs ds m e)

pub code_kept : (cs ds : List Class) (n : ClassNo) (m : MethodNo) → kind_at cs n.0 ≡ kind_at ds n.0 → kind_at cs m.class.0 ≡ kind_at ds m.class.0
    → code_in cs (newest_version cs n) m ≡ code_in ds (newest_version ds n) m
unfolding code_in
code_kept cs ds n m e h = rw (newest_kept cs ds n e, version_kept cs ds (newest_version ds n) e, name_kept cs ds m h, desc_kept cs ds m h) refl
