-- What a look-up by a name finds in the table of the code is what the list of classes has of that name.
use Rattle.std.proofs.Common.{◌≡◌, ℕ, ◌∙◌, Bool, cond, List, [], ◌∷◌, ◌++◌, Some, None, refl, sym, ap}
use Rattle.std.specs.Prelude.{Vec, bytes_eq}
use Rattle.std.specs.Map.{lookup, values_of}
use Rattle.std.specs.HashMap.{HashMap}
use Rattle.std.specs.declared.alloc.Global.{Global}
use Rattle.std.proofs.lemmas.Bool.Decides.{same_from_decides}
use Rattle.std.proofs.lemmas.List.Elements.{All-head, All-tail, All-push}
use Rattle.std.proofs.lemmas.List.{map_push}
use Rattle.std.proofs.lemmas.Slice.Eq.{bytes_eq-Decides}
use Rattle.indexmap.specs.IndexMap.{insert_entry}
use Rattle.indexmap.proofs.CallerLemmas.{insert_entry-new}
use Rattle.jv_names.specs.Names.{Name}
use Rattle.type_frames.specs.declared.hierarchy.HierarchyClass.{HierarchyClass}
use Rattle.type_frames.specs.Hierarchies.{class_named}
use Rattle.type_frames.specs.Keyed.{AreKeyed}

abbrev Entry : Type 0
Entry = Vec ℕ Global × HierarchyClass

-- a text is another one either way round
pub turned : (a b : Name) → bytes_eq a b ≡ bytes_eq b a
turned a b = same_from_decides (bytes_eq a b) (bytes_eq b a) (bytes_eq-Decides a b) ((λ e. sym ((bytes_eq-Decides b a).0 e)), λ e. (bytes_eq-Decides b a).1 (sym e))

pub named-lookup : (name : Name) (entries : List Entry) → AreKeyed entries → lookup (λ k. bytes_eq name k.items) entries ≡ class_named (values_of entries) name
named-lookup name [] keyed = refl
named-lookup name (e ∷ es) keyed =
    ap (λ (here : Bool). cond here (Some e.1) (lookup (λ k. bytes_eq name k.items) es)) (ap (bytes_eq name) (All-head (λ (x : Entry). x.0.items ≡ x.1.name) e es keyed) ∙ turned name e.1.name)
    ∙ ap (cond (bytes_eq e.1.name name) (Some e.1)) (named-lookup name es (All-tail (λ (x : Entry). x.0.items ≡ x.1.name) e es keyed))

pub values-push : (entries : List Entry) (e : Entry) → values_of (entries ++ e ∷ []) ≡ values_of entries ++ e.1 ∷ []
values-push entries e = map_push (λ (x : Entry). x.1) entries e

-- a class of a new name goes last
pub insert_entry-named : {S : Type 0} (m : HashMap (Vec ℕ Global) HierarchyClass S) (k : Vec ℕ Global) (class : HierarchyClass) → k.items ≡ class.name → AreKeyed m.entries
    → class_named (values_of m.entries) class.name ≡ None → insert_entry (λ x y. bytes_eq x.items y.items) m.entries k class ≡ m.entries ++ (k, class) ∷ []
insert_entry-named m k class is keyed none = insert_entry-new (λ x y. bytes_eq x.items y.items) m k class
    (ap (λ (n : Name). lookup (λ (x : Vec ℕ Global). bytes_eq n x.items) m.entries) is ∙ named-lookup class.name m.entries keyed ∙ none)

pub keyed-push : (entries : List Entry) (k : Vec ℕ Global) (class : HierarchyClass) → k.items ≡ class.name → AreKeyed entries → AreKeyed (entries ++ (k, class) ∷ [])
keyed-push entries k class is keyed = All-push (λ (e : Entry). e.0.items ≡ e.1.name) entries (k, class) keyed is
