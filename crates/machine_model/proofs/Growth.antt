-- What was true of the trace stays true where it grows.
use Rattle.std.proofs.Common.{◌≡◌, ◌≤◌, ℕ, List, [], ◌∷◌, ◌++◌, length, Some, refl, ap}
use Rattle.std.proofs.lemmas.List.{take-append-le}
use Rattle.ti_ids.specs.Maybe.{◌>>=◌}
use Rattle.first_form.specs.ClassFiles.{tree_of}
use Rattle.first_form.specs.Reading.{class_of}
use Rattle.jv_names.specs.Names.{Name}
use Rattle.machine_model.specs.Core.{JavaFrame}
use Rattle.machine_model.specs.Trace.{Entry, Made, Nothing, Given, Again, made_by, versions_after, versions, tree_at, last_of}

-- the entries make no version of the class
abbrev pub IsSilent : Name → List Entry → Type 0
IsSilent class [] = Unit {0}
IsSilent class (e ∷ trace) = (made_by class e.what ≡ Nothing) × IsSilent class trace

silent_by : (class : Name) (made : Made) (kept : List ℕ) (new : List Entry) → made ≡ Nothing → versions_after class kept new ≡ []
    → (elim made as (λ _. List (List ℕ)) [ Nothing ↦ versions_after class kept new | Given bytes ↦ bytes ∷ versions_after class bytes new | Again ↦ kept ∷ versions_after class kept new ]) ≡ []
silent_by class Nothing kept new e h = h
silent_by class (Given bytes) kept new e h = absurd cc
silent_by class Again kept new e h = absurd cc

silent_none : (class : Name) (kept : List ℕ) (new : List Entry) → IsSilent class new → versions_after class kept new ≡ []
silent_none class kept [] h = refl
silent_none class kept (e ∷ new) h = silent_by class (made_by class e.what) kept new h.0 (silent_none class kept new h.1)

grown_by : (class : Name) (made : Made) (kept : List ℕ) (trace new : List Entry) → ((k : List ℕ) → versions_after class k (trace ++ new) ≡ versions_after class k trace)
    → (elim made as (λ _. List (List ℕ)) [ Nothing ↦ versions_after class kept (trace ++ new) | Given bytes ↦ bytes ∷ versions_after class bytes (trace ++ new) | Again ↦ kept ∷ versions_after class kept (trace ++ new) ])
    ≡ (elim made as (λ _. List (List ℕ)) [ Nothing ↦ versions_after class kept trace | Given bytes ↦ bytes ∷ versions_after class bytes trace | Again ↦ kept ∷ versions_after class kept trace ])
grown_by class Nothing kept trace new h = h kept
grown_by class (Given bytes) kept trace new h = ap (λ (w : List (List ℕ)). bytes ∷ w) (h bytes)
grown_by class Again kept trace new h = ap (λ (w : List (List ℕ)). kept ∷ w) (h kept)

after_grown : (class : Name) (kept : List ℕ) (trace new : List Entry) → IsSilent class new → versions_after class kept (trace ++ new) ≡ versions_after class kept trace
after_grown class kept [] new silent = silent_none class kept new silent
after_grown class kept (e ∷ trace) new silent = grown_by class (made_by class e.what) kept trace new (λ k. after_grown class k trace new silent)

pub versions_grown : (class : Name) (trace new : List Entry) → IsSilent class new → versions (trace ++ new) class ≡ versions trace class
versions_grown class trace new silent = after_grown class [] trace new silent

-- a frame's tree stays, whatever comes after its birth
pub tree_grown : (trace new : List Entry) (f : JavaFrame) → f.birth ≤ length trace → tree_at (trace ++ new) f ≡ tree_at trace f
tree_grown trace new f h =
    ap (λ (t : List Entry). last_of (versions t f.class) >>= (λ bytes. class_of bytes >>= (λ c. Some (tree_of c)))) (take-append-le f.birth trace new h)
