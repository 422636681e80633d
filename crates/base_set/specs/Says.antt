-- What it means that a tree says what the table says of a class, by the look-ups of its constant pool.
use Rattle.std.specs.Prelude.{◌≡◌, ℕ, List, [], ◌∷◌, map, MatchBool, Option, Some, None, codes}
use Rattle.jv_names.specs.Names.{Name}
use Rattle.class_tree.specs.declared.access.Flag.TheVariants.{Abstract}
use Rattle.class_tree.specs.declared.pool.Const.{Const}
use Rattle.class_tree.specs.declared.body.Code.{Code}
use Rattle.class_tree.specs.declared.members.Member.{Member}
use Rattle.class_tree.specs.declared.members.Attr.{Attr}
use Rattle.class_tree.specs.declared.members.Attr.TheVariants.{Body}
use Rattle.class_tree.specs.Flags.{has_flag}
use Rattle.class_tree.specs.Trees.{Tree}
use Rattle.class_tree.specs.Tree.{text_at, class_at}
use Rattle.base_set.specs.BaseSet.{BaseField, BaseMethod, BaseClass}
use Rattle.base_set.specs.BaseCode.{code_of_base}

-- each says what stands at its place, and there are as many
abbrev pub AllSay : {A B : Type 0} → (A → B → Type 0) → List A → List B → Type 0
AllSay P [] [] = Unit {0}
AllSay P [] (y ∷ ys) = ⊥
AllSay P (x ∷ xs) [] = ⊥
AllSay P (x ∷ xs) (y ∷ ys) = P x y × AllSay P xs ys

-- this superclass's index: 0 where there is none
abbrev pub SaysSuper : List Const → Option Name → ℕ → Type 0
SaysSuper pool None index = index ≡ 0
SaysSuper pool (Some name) index = class_at pool index ≡ Some name

pub record SaysField (pool : List Const) (entry : BaseField) (member : Member) : Type 0 where
  pub flags : member.flags.bits ≡ entry.flags
  pub name : text_at pool member.name ≡ Some entry.name
  pub desc : text_at pool member.desc ≡ Some entry.desc
  pub attrs : member.attrs ≡ []

-- one attribute, which is this Code
pub record IsOnlyCode (pool : List Const) (code : Code) (attrs : List Attr) : Type 0 where
  pub name : ℕ
  pub alone : attrs ≡ Body name code ∷ []
  pub named : text_at pool name ≡ Some (codes "Code")

pub record SaysMethod (pool : List Const) (entry : BaseMethod) (member : Member) : Type 0 where
  pub flags : member.flags.bits ≡ entry.flags
  pub name : text_at pool member.name ≡ Some entry.name
  pub desc : text_at pool member.desc ≡ Some entry.desc
  pub attrs : MatchBool (has_flag entry.flags Abstract) (member.attrs ≡ []) (IsOnlyCode pool (code_of_base entry) member.attrs)

pub record Says (entry : BaseClass) (tree : Tree) : Type 0 where
  pub minor : tree.minor ≡ 0
  pub major : tree.major ≡ 52
  pub flags : tree.flags.bits ≡ entry.flags
  pub name : class_at tree.pool tree.this_class ≡ Some entry.name
  pub super : SaysSuper tree.pool entry.super tree.super_class
  pub interfaces : map (class_at tree.pool) tree.interfaces ≡ map (λ name. Some name) entry.interfaces
  pub fields : AllSay (SaysField tree.pool) entry.fields tree.fields
  pub methods : AllSay (SaysMethod tree.pool) entry.methods tree.methods
  pub attrs : tree.attrs ≡ []
