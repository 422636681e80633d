-- An array class that is made has no method with a body, and changes none of the classes behind it.
use Rattle.std.proofs.Common.{◌≡◌, ◌∙◌, ℕ, ◌-◌, ◌==◌, Bool, true, false, List, ◌∷◌, length, Option, Some, None, refl, sym, ap}
use Rattle.ti_ids.specs.Maybe.{◌>>=◌}
use Rattle.ti_ids.specs.declared.number.ClassNo.{ClassNo}
use Rattle.ti_ids.specs.declared.number.MethodNo.{MethodNo}
use Rattle.jv_names.specs.Names.{Name}
use Rattle.jv_names.specs.declared.descriptor.FieldType.{FieldType}
use Rattle.class_tree.specs.declared.body.Code.{Code}
use Rattle.class_tree.specs.Trees.{Tree}
use Rattle.class_tree.specs.Tree.{code_of}
use Rattle.link_versions.specs.Classes.{Class, OfArray, numbered, number_of, version_at, version_count, newest_version}
use Rattle.link_versions.specs.Members.{method_name, method_desc}
use Rattle.link_versions.specs.Members.{method_in}
use Rattle.link_versions.specs.Changes.{array_class, element_by}
use Rattle.machine_state.specs.Linked.{array_type}
use Rattle.machine_state.proofs.Alike.{kind_at, version_kept, newest_kept, name_kept, desc_kept, past_by}
use Rattle.instruction_effect.specs.Operands.{classes_with_type, classes_with}
use Rattle.instruction_effect.specs.Arguments.{newest_body}

-- whether a method has a body goes by the kinds of its class
pub body_kept : (cs ds : List Class) (m : MethodNo) → kind_at cs m.class.0 ≡ kind_at ds m.class.0 → newest_body cs m ≡ newest_body ds m
body_kept cs ds m e =
    rw (newest_kept cs ds m.class e, version_kept cs ds (newest_version ds m.class) e, name_kept cs ds m e, desc_kept cs ds m e) refl

module _ (c : Class) (classes : List Class) (m : MethodNo) (body : Code) (dimensions : ℕ) where
  no_version : (e : _) → c.kind ≡ OfArray dimensions e → (place : ℕ) → (m.class.0 == length (c ∷ classes)) ≡ true
      → version_at (c ∷ classes) (record { class = m.class; place = place }) ≡ None
  unfolding version_at
  no_version e array place same = rw (same, array) refl

  behind : (e : _) → c.kind ≡ OfArray dimensions e → (same : Bool) → (m.class.0 == length (c ∷ classes)) ≡ same
      → newest_body (c ∷ classes) m ≡ Some body → newest_body classes m ≡ Some body
  behind e array false is has =
      sym (body_kept (c ∷ classes) classes m (past_by (m.class.0 == length (c ∷ classes)) c (numbered classes m.class.0) is)) ∙ has
  behind e array true is has =
      absurd (
      let none : newest_body (c ∷ classes) m ≡ None =
      ap (λ (o : Option Tree). o >>= λ t. method_in t (method_name (c ∷ classes) m) (method_desc (c ∷ classes) m) >>= λ member. code_of member.attrs)
      (no_version e array (version_count (c ∷ classes) m.class - 1) is)
      in let both : None ≡ Some body = sym none ∙ has in cc)

type_by : (classes : List Class) (name : Name) (m : MethodNo) (body : Code) (type : Option FieldType)
    → newest_body (classes_with_type classes name type) m ≡ Some body → newest_body classes m ≡ Some body
type_by classes name m body None has = has
type_by classes name m body (Some t) has =
    let c = array_class (number_of classes) name t in
    behind c classes m body t.dimensions (element_by (number_of classes) t.element) refl (m.class.0 == length (c ∷ classes)) refl has

found_by : (classes : List Class) (name : Name) (m : MethodNo) (body : Code) (found : Option ClassNo)
    → newest_body (elim found as (λ _. List Class) [ Some n ↦ classes | None ↦ classes_with_type classes name (array_type name) ]) m ≡ Some body
    → newest_body classes m ≡ Some body
found_by classes name m body (Some n) has = has
found_by classes name m body None has = type_by classes name m body (array_type name) has

pub behind_array : (classes : List Class) (name : Name) (m : MethodNo) (body : Code) → newest_body (classes_with classes name) m ≡ Some body
    → newest_body classes m ≡ Some body
behind_array classes name m body has = found_by classes name m body (number_of classes name) has
