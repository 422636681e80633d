-- Methods that are equivalent (JVM TI, "IsMethodObsolete"), and methods that aren't, computed.
use Rattle.std.specs.Prelude.{◌≡◌, ℕ, pos, true, false, List, [], ◌∷◌, codes}
use Rattle.class_tree.specs.declared.pool.Const.{Const}
use Rattle.class_tree.specs.declared.pool.Const.TheVariants as const
use Rattle.class_tree.specs.declared.body.Handler.{Handler}
use Rattle.class_tree.specs.declared.members.Member.{Member}
use Rattle.class_tree.specs.declared.members.Attr.TheVariants.{Body}
use Rattle.redefine_check.specs.Equivalence.{are_equivalent}

-- a method of this code and these handlers
abbrev pub with_code : List ℕ → List Handler → Member
with_code bytes handlers = record {
  flags = record { bits = 9 };
  name = 1;
  desc = 1;
  attrs = Body 1 (record { max_stack = 1; max_locals = 0; bytes = bytes; handlers = handlers; attrs = [] }) ∷ [];
}

-- one without code
abbrev pub without_code : Member
without_code = record { flags = record { bits = 1025 }; name = 1; desc = 1; attrs = [] }

-- ---- bodies

-- a constant that has an opcode of its own, `pop`, `return`
abbrev pub pushes : ℕ → Member
pushes opcode = with_code (opcode ∷ 87 ∷ 177 ∷ []) []

pub record BodiesCompared : Type 0 where
  pub same : are_equivalent [] (pushes 3) [] (pushes 3) ≡ true
  pub other : are_equivalent [] (pushes 3) [] (pushes 4) ≡ false
  pub none : are_equivalent [] without_code [] without_code ≡ true
  pub missing : are_equivalent [] (pushes 3) [] without_code ≡ false

-- ---- constants

-- `ldc` of an index, `pop`, `return`
abbrev pub loads : ℕ → Member
loads index = with_code (18 ∷ index ∷ 87 ∷ 177 ∷ []) []

-- the int 7 at index 1 and at index 2, the int 8, and the String of the text 7
abbrev pub seven : List Const
seven = const.Integer (pos 7) ∷ []

abbrev pub seven_later : List Const
seven_later = const.Utf8 (codes "x") ∷ const.Integer (pos 7) ∷ []

abbrev pub eight : List Const
eight = const.Integer (pos 8) ∷ []

abbrev pub text : List Const
text = const.Utf8 (codes "7") ∷ const.Text 1 ∷ []

-- An equal constant may stand at another index; another one is another, also where it is written alike.
pub record ConstantsCompared : Type 0 where
  pub moved : are_equivalent seven (loads 1) seven_later (loads 2) ≡ true
  pub other : are_equivalent seven (loads 1) eight (loads 1) ≡ false
  pub kind : are_equivalent seven (loads 1) text (loads 2) ≡ false

-- ---- methods that are named

-- `invokestatic` of an index, `return`
abbrev pub calls : ℕ → Member
calls index = with_code (184 ∷ 0 ∷ index ∷ 177 ∷ []) []

-- `f()V` of a class at index 6, and at index 7 with its parts in another order
abbrev pub named : List ℕ → List Const
named class =
    const.Utf8 class ∷ const.Class 1 ∷ const.Utf8 (codes "f") ∷ const.Utf8 (codes "()V") ∷ const.NameType 3 4 ∷ const.Method 2 5 ∷ []

abbrev pub named_later : List ℕ → List Const
named_later class =
    const.Utf8 (codes "x") ∷ const.Utf8 (codes "()V") ∷ const.Utf8 (codes "f") ∷ const.NameType 3 2 ∷ const.Utf8 class ∷ const.Class 5
    ∷ const.Method 6 4 ∷ []

pub record CallsCompared : Type 0 where
  pub moved : are_equivalent (named (codes "A")) (calls 6) (named_later (codes "A")) (calls 7) ≡ true
  pub other : are_equivalent (named (codes "A")) (calls 6) (named (codes "B")) (calls 6) ≡ false

-- ---- padding

-- `iconst_0`, a `lookupswitch` without pairs behind whose opcode stand 0 and this byte, `return`
abbrev pub switches : ℕ → Member
switches byte = with_code (3 ∷ 171 ∷ 0 ∷ byte ∷ 0 ∷ 0 ∷ 0 ∷ 11 ∷ 0 ∷ 0 ∷ 0 ∷ 0 ∷ 177 ∷ []) []

-- The bytes between a switch and its operands are a part of it.
pub record PaddingCounts : Type 0 where
  pub same : are_equivalent [] (switches 0) [] (switches 0) ≡ true
  pub other : are_equivalent [] (switches 0) [] (switches 1) ≡ false

-- ---- handlers

-- `nop`, `return`, `athrow`, with these handlers
abbrev pub handled : List Handler → Member
handled handlers = with_code (0 ∷ 177 ∷ 191 ∷ []) handlers

-- a handler of the `nop` that catches the class at an index, or all where that is 0
abbrev pub catching : ℕ → Handler
catching index = record { start = 0; end = 1; target = 2; catch_type = index }

abbrev pub longer : Handler
longer = record { start = 0; end = 2; target = 2; catch_type = 0 }

-- a class at index 2, and at index 3
abbrev pub caught : List ℕ → List Const
caught class = const.Utf8 class ∷ const.Class 1 ∷ []

abbrev pub caught_later : List ℕ → List Const
caught_later class = const.Utf8 (codes "x") ∷ const.Utf8 class ∷ const.Class 2 ∷ []

-- Exception tables count, with their order, but for the index of a class.
pub record HandlersCompared : Type 0 where
  pub moved :
      are_equivalent (caught (codes "A")) (handled (catching 2 ∷ catching 0 ∷ [])) (caught_later (codes "A")) (handled (catching 3 ∷ catching 0 ∷ []))
      ≡ true
  pub order :
      are_equivalent (caught (codes "A")) (handled (catching 2 ∷ catching 0 ∷ [])) (caught (codes "A")) (handled (catching 0 ∷ catching 2 ∷ []))
      ≡ false
  pub other : are_equivalent (caught (codes "A")) (handled (catching 2 ∷ [])) (caught (codes "B")) (handled (catching 2 ∷ [])) ≡ false
  pub range : are_equivalent [] (handled (catching 0 ∷ [])) [] (handled (longer ∷ [])) ≡ false
  pub missing : are_equivalent [] (handled (catching 0 ∷ [])) [] (handled []) ≡ false
