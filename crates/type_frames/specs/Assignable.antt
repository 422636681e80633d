-- Which type may stand for which (JVM specification 4.10.1.2).
use Rattle.std.specs.Prelude.{◌≡◌, ℕ, zero, suc, ◌==◌, Bool, true, false, ◌&&◌, ◌||◌, List, [], ◌∷◌, codes, bytes_eq}
use Rattle.std.specs.List.{list_any}
use Rattle.jv_names.specs.Names.{Name}
use Rattle.type_frames.specs.declared.vtype.VType.{VType}
use Rattle.type_frames.specs.declared.vtype.VType.TheVariants as vtype
use Rattle.type_frames.specs.Types.{Base, Number, Class, dimensions, base_of, expanded}
use Rattle.type_frames.specs.Hierarchies.{Known, is_interface, IsSubclass, is_subclass}

abbrev pub object_name : Name
object_name = codes "java/lang/Object"

-- every class may stand for `Object`, and for an interface, which is taken for `Object`
abbrev pub is_for_all : Known → Name → Bool
is_for_all h name = bytes_eq name object_name || is_interface h name

-- every array may stand for these
abbrev pub is_for_arrays : Name → Bool
is_for_arrays name = list_any (bytes_eq name) (object_name ∷ codes "java/lang/Cloneable" ∷ codes "java/io/Serializable" ∷ [])

-- ---- classes

-- A class of so many dimensions over a base may stand for another one: the least such relation.
pub data MayBe (h : Known) : ℕ → Base → ℕ → Base → Type 0 where
  Subclass : {a b : Name} → IsSubclass h a b → MayBe h zero (Class a) zero (Class b)
  ForAll : {a b : Name} → is_for_all h b ≡ true → MayBe h zero (Class a) zero (Class b)
  Numbers : {unit : ℕ} → MayBe h zero (Number unit) zero (Number unit)
  ArrayForClass : {m : ℕ} {e : Base} {b : Name} → is_for_arrays b ≡ true → MayBe h (suc m) e zero (Class b)
  Components : {m n : ℕ} {e f : Base} → MayBe h m e n f → MayBe h (suc m) e (suc n) f

-- the same, computed
abbrev pub base_may_be : Known → Base → Base → Bool
base_may_be h (Class a) (Class b) = is_for_all h b || is_subclass h a b
base_may_be h (Number u) (Number v) = u == v
base_may_be h e f = false

abbrev pub array_may_be : Base → Bool
array_may_be (Class b) = is_for_arrays b
array_may_be (Number v) = false

abbrev pub may_be : Known → ℕ → Base → ℕ → Base → Bool
may_be h zero e zero f = base_may_be h e f
may_be h (suc m) e zero f = array_may_be f
may_be h zero e (suc n) f = false
may_be h (suc m) e (suc n) f = may_be h m e n f

-- ---- types

-- A type may stand for itself and for `Top`, null for every class, and a class for others as above.
pub data IsAssignable (h : Known) : VType → VType → Type 0 where
  Itself : {t : VType} → IsAssignable h t t
  ToTop : {t : VType} → IsAssignable h t vtype.Top
  FromNull : {name : Name} → IsAssignable h vtype.Null (vtype.Object name)
  ToClass : {a b : Name} → MayBe h (dimensions a) (base_of a) (dimensions b) (base_of b) → IsAssignable h (vtype.Object a) (vtype.Object b)

-- the same, computed
abbrev pub class_may_be : Known → Name → Name → Bool
class_may_be h a b = bytes_eq a b || may_be h (dimensions a) (base_of a) (dimensions b) (base_of b)

unfoldable pub is_assignable : Known → VType → VType → Bool
is_assignable h t vtype.Top = true
is_assignable h vtype.Integer vtype.Integer = true
is_assignable h vtype.Long vtype.Long = true
is_assignable h vtype.Null vtype.Null = true
is_assignable h vtype.UninitThis vtype.UninitThis = true
is_assignable h (vtype.Uninit a) (vtype.Uninit b) = a == b
is_assignable h vtype.Null (vtype.Object b) = true
is_assignable h (vtype.Object a) (vtype.Object b) = class_may_be h a b
is_assignable h t of = false

-- ---- lists of types, word by word, where a long takes two

abbrev pub are_assignable : Known → List VType → List VType → Bool
are_assignable h [] [] = true
are_assignable h (t ∷ ts) (of ∷ ofs) = is_assignable h t of && are_assignable h ts ofs
are_assignable h ts ofs = false

abbrev pub are_words_assignable : Known → List VType → List VType → Bool
are_words_assignable h ts ofs = are_assignable h (expanded ts) (expanded ofs)
