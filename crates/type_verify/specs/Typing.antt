-- Type states as they are given out: one for each instruction of a method that passes its type check (JVM specification 4.10.1).
use Rattle.std.specs.Prelude.{◌≡◌, ℕ, List, [], length, Option, None, Some, slice_get, Result, Ok, Err}
use Rattle.ti_ids.specs.Maybe.{◌>>=◌}
use Rattle.class_code.specs.declared.instr.Instr.{Instr}
use Rattle.class_tree.specs.declared.body.Code.{Code}
use Rattle.class_tree.specs.declared.members.Member.{Member}
use Rattle.class_tree.specs.Trees.{Tree}
use Rattle.class_tree.specs.Tree.{code_of}
use Rattle.type_frames.specs.declared.frame.MapFrame.{MapFrame}
use Rattle.type_frames.specs.Hierarchies.{Known}
use Rattle.type_frames.specs.States.{State}
use Rattle.type_frames.specs.TypeChecks.{instrs_in, map_in, TypeChecks, Passes, Fails, ClassFails}
use Rattle.type_frames.specs.TypeStates.{held_at}
use Rattle.type_verify.specs.declared.verify.VerifyFault.{VerifyFault}
use Rattle.type_verify.specs.declared.verify.VerifyFault.TheVariants as fault

-- ---- methods by their places

abbrev pub code_at : Tree → ℕ → Option Code
code_at t place = slice_get t.methods place >>= λ m. code_of m.attrs

-- The states that the stack map of the method at a place gives: section 4.7.4. A method without code has none.
abbrev pub map_of : Tree → Member → Option Code → Result (List MapFrame) ℕ
map_of t m None = Ok []
map_of t m (Some code) = map_in t m code

abbrev pub map_at : Tree → ℕ → Result (List MapFrame) ℕ
map_at t place = elim (slice_get t.methods place) [ None ↦ Ok [] | Some m ↦ map_of t m (code_of m.attrs) ]

-- ---- what is promised

abbrev pub instrs_of : Option Code → List (ℕ × Instr)
instrs_of None = []
instrs_of (Some code) = instrs_in code

-- The method at a place passes its type check, and these are its type states, in the order of its instructions.
pub record IsTyped (h : Known) (t : Tree) (place : ℕ) (frames : List MapFrame) : Type 0 where
  pub states : List State
  pub checks : TypeChecks h t place states
  pub are : frames ≡ held_at (instrs_of (code_at t place)) states

-- It passes with these, or fails first at this offset, unless memory ran out.
abbrev pub IsTypedVerdict : Known → Tree → ℕ → Result (List MapFrame) VerifyFault → Type 0
IsTypedVerdict h t place (Ok frames) = IsTyped h t place frames
IsTypedVerdict h t place (Err (fault.Fails method offset)) = (method ≡ place) × Fails h t place offset
IsTypedVerdict h t place (Err fault.Memory) = Unit {0}

-- what a class that passes has of the method at a place: its type states, just where it has code
abbrev pub IsEntryTyped : Known → Tree → ℕ → Option (List MapFrame) → Type 0
IsEntryTyped h t place None = Passes h t place × (code_at t place ≡ None)
IsEntryTyped h t place (Some frames) = IsTyped h t place frames × (code_at t place ≡ None → ⊥)

-- The class passes its type check, and these are the type states of its methods, in the order of the file.
pub record IsClassTyped (h : Known) (t : Tree) (codes : List (Option (List MapFrame))) : Type 0 where
  pub count : length codes ≡ length t.methods
  pub each : (place : ℕ) (frames : Option (List MapFrame)) → slice_get codes place ≡ Some frames → IsEntryTyped h t place frames

abbrev pub IsTypedClassVerdict : Known → Tree → Result (List (Option (List MapFrame))) VerifyFault → Type 0
IsTypedClassVerdict h t (Ok codes) = IsClassTyped h t codes
IsTypedClassVerdict h t (Err (fault.Fails method offset)) = ClassFails h t method offset
IsTypedClassVerdict h t (Err fault.Memory) = Unit {0}
