-- What the type check of a method and of a class answers.
use Rattle.std.specs.Prelude.{◌≡◌, ℕ, List, Result, Ok, Err}
use Rattle.class_tree.specs.declared.members.Member.{Member}
use Rattle.class_tree.specs.Trees.{Tree}
use Rattle.class_tree.specs.Tree.{code_of}
use Rattle.type_frames.specs.Hierarchies.{Known}
use Rattle.type_frames.specs.States.{State}
use Rattle.type_frames.specs.TypeChecks.{ChecksIn, FailsIn, Fails, Passes, ClassPasses, ClassFails}
use Rattle.type_verify.specs.declared.walk.Halt.{Halt}
use Rattle.type_verify.specs.declared.walk.Halt.TheVariants as halt
use Rattle.type_verify.specs.declared.verify.VerifyFault.{VerifyFault}
use Rattle.type_verify.specs.declared.verify.VerifyFault.TheVariants as fault

-- of a method that is given
abbrev pub IsJudged : {A : Type 0} → Known → Tree → ℕ → Member → Result A Halt → Type 0
IsJudged h t place m (Ok done) = (states : List State) × ChecksIn h t place m (code_of m.attrs) states
IsJudged h t place m (Err (halt.Offends at)) = FailsIn h t place m (code_of m.attrs) at
IsJudged h t place m (Err halt.Memory) = Unit {0}

-- The method at a place passes, or fails first at this offset, unless memory ran out.
abbrev pub IsVerdict : {A : Type 0} → Known → Tree → ℕ → Result A VerifyFault → Type 0
IsVerdict h t place (Ok done) = Passes h t place
IsVerdict h t place (Err (fault.Fails method offset)) = (method ≡ place) × Fails h t place offset
IsVerdict h t place (Err fault.Memory) = Unit {0}

-- The class passes, or fails first in this method and there at this offset, unless memory ran out.
abbrev pub IsClassVerdict : {A : Type 0} → Known → Tree → Result A VerifyFault → Type 0
IsClassVerdict h t (Ok done) = ClassPasses h t
IsClassVerdict h t (Err (fault.Fails method offset)) = ClassFails h t method offset
IsClassVerdict h t (Err fault.Memory) = Unit {0}
