-- That words ask for something, or for nothing.
use Rattle.std.proofs.Common.{ℕ, ◌<◌, List, [], ◌∷◌, length, All, String, string_bytes, subst}
use Rattle.std.specs.declared.alloc.Global.{Global}
use Rattle.std.proofs.lemmas.List.{length-map}
use Rattle.std.proofs.lemmas.List.Elements.{All-nil, All-cons, All-head, All-tail}
use Rattle.check_run.specs.Words.{texts, IsFile, Asks, AsksOnly, AsksNothing, AsksSome}

name_files : (names : List (String Global)) → All IsFile (texts names) → All (λ name. IsFile (string_bytes name)) names
name_files [] all = All-nil (λ name. IsFile (string_bytes name))
name_files (name ∷ names) all =
    All-cons (λ name. IsFile (string_bytes name)) name names
    (All-head IsFile (string_bytes name) (texts names) all)
    (name_files names (All-tail IsFile (string_bytes name) (texts names) all))

-- What the words would ask for are no files.
pub nothing_else : (words : List (List ℕ)) (times : ℕ) (names : List (String Global)) → AsksOnly words times (texts names) → (0 < length names → All (λ name. IsFile (string_bytes name)) names → ⊥) → AsksNothing words
nothing_else words times names only wrong n files asks =
    let same = (only n files asks).1 in
    let some : 0 < length (texts names) = subst (λ l. 0 < length l) same asks.1 in
    wrong (subst (λ k. 0 < k) (length-map names string_bytes) some) (name_files names (subst (λ l. All IsFile l) same asks.2))

pub asked_some : (words : List (List ℕ)) (times : ℕ) (files : List (List ℕ)) → Asks words times files → AsksSome words
asked_some words times files asked = (times, files, asked)
