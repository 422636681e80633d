-- What is told of some files and then of others is told of all of them.
use Rattle.std.proofs.Common.{◌≡◌, ℕ, ◌+◌, ◌<◌, ◌≤◌, List, [], ◌∷◌, ◌++◌, length, take, slice_index_or, Bool, true, false, ◌&&◌, Option, String, string_bytes, refl, sym, ap, ◌∙◌, subst, arith}
use Rattle.std.specs.declared.alloc.Global.{Global}
use Rattle.std.specs.Io.KnownBytes.{Appends}
use Rattle.std.proofs.KnownBytes.{Appends-trans}
use Rattle.std.proofs.lemmas.List.{map-append, append-nil, map_more, take-map, length-map}
use Rattle.std.proofs.lemmas.List.Elements.{All-nil, All-cons, All-append, All-weaker}
use Rattle.std.proofs.lemmas.List.Folds.{list_all-append}
use Rattle.std.proofs.lemmas.Grind.{flat_map-append}
use Rattle.check_run.specs.declared.line.Answer.{Answer}
use Rattle.ti_port.specs.Port.{Rose}
use Rattle.check_run.specs.Lines.{is_accepted, line_of}
use Rattle.check_run.specs.Words.{Asks, texts}
use Rattle.check_run.specs.Files.{IsSaid, IsReadable, told_lines, TellsFiles, TellsFirst, TellsAll, TellsSome}

rose_later : (a b c : ℕ) → Rose a b → b ≤ c → Rose a c
rose_later a b c rose later = omega arith

rose_sooner : (a b c : ℕ) → a ≤ b → Rose b c → Rose a c
rose_sooner a b c sooner rose = omega arith

and_true : (b : Bool) → b ≡ (b && true)
and_true true = refl
and_true b = refl

pub tells_one : (files : Option (List ℕ → Option (List ℕ))) (name : List ℕ) (answer : Answer) (held holds : Option (List ℕ)) (faults now : ℕ) → IsSaid files (name, answer) → IsReadable faults now (name, answer) → Appends held holds (line_of name answer) → faults ≤ now → TellsFiles files (name ∷ []) held holds faults now (is_accepted answer)
tells_one files name answer held holds faults now said readable written risen = record {
  told = (name, answer) ∷ [];
  in_order = refl;
  said = All-cons (IsSaid files) (name, answer) [] said (All-nil (IsSaid files));
  readable = All-cons (IsReadable faults now) (name, answer) [] readable (All-nil (IsReadable faults now));
  written = subst (λ l. Appends held holds l) (sym (append-nil (line_of name answer))) written;
  accepted = and_true (is_accepted answer);
  risen = risen;
}

tells_more : (files : Option (List ℕ → Option (List ℕ))) (xs ys : List (List ℕ)) (a b c : Option (List ℕ)) (m n k : ℕ) (p q : Bool) → TellsFiles files xs a b m n p → TellsFiles files ys b c n k q → TellsFiles files (xs ++ ys) a c m k (p && q)
tells_more files xs ys a b c m n k p q s t = record {
  told = s.told ++ t.told;
  in_order = map-append (λ x. x.0) s.told t.told ∙ (λ i. s.in_order i ++ t.in_order i);
  said = All-append (IsSaid files) s.told t.told s.said t.said;
  readable =
      All-append (IsReadable m k) s.told t.told
      (All-weaker (IsReadable m n) (IsReadable m k) (λ x h u. rose_later m n k (h u) t.risen) s.told s.readable)
      (All-weaker (IsReadable n k) (IsReadable m k) (λ x h u. rose_sooner m n k s.risen (h u)) t.told t.readable);
  written = subst (λ l. Appends a c l) (sym (flat_map-append (λ x. line_of x.0 x.1) s.told t.told)) (Appends-trans a b c (told_lines s.told) (told_lines t.told) s.written t.written);
  accepted = (λ i. s.accepted i && t.accepted i) ∙ sym (list_all-append (λ x. is_accepted x.1) s.told t.told);
  risen = omega (arith, s.risen, t.risen);
}

pub asked_told : (files : Option (List ℕ → Option (List ℕ))) (words : List (List ℕ)) (times : ℕ) (names : List (List ℕ)) (held holds : Option (List ℕ)) (faults now : ℕ) (all : Bool) → Asks words times names → TellsFiles files names held holds faults now all → TellsAll files words held holds faults now all
asked_told files words times names held holds faults now all asked tells = record { times = times; names = names; asked = asked; tells = tells }

-- the next of some names is told of
pub tells_next : (files same_files : Option (List ℕ → Option (List ℕ))) (names : List (String Global)) (i : ℕ) (name : String Global) (text : List ℕ) (a b c : Option (List ℕ)) (m n k : ℕ) (p q r : Bool) → TellsFiles files (texts (take i names)) a b m n p → same_files ≡ files → TellsFiles same_files (text ∷ []) b c n k q → text ≡ string_bytes name → i < length names → name ≡ slice_index_or names i name → r ≡ (p && q) → TellsFiles files (texts (take (i + 1) names)) a c m k r
tells_next files same_files names i name text a b c m n k p q r s same t spelled within at both =
    let next : TellsFiles files (text ∷ []) b c n k q = subst (λ f. TellsFiles f (text ∷ []) b c n k q) same t in
    let more : TellsFiles files (texts (take i names) ++ text ∷ []) a c m k (p && q) = tells_more files (texts (take i names)) (text ∷ []) a b c m n k p q s next in
    let here : text ≡ string_bytes (slice_index_or names i name) = spelled ∙ ap string_bytes at in
    let order : texts (take (i + 1) names) ≡ texts (take i names) ++ text ∷ [] = map_more string_bytes names i name within ∙ ap (λ x. texts (take i names) ++ x ∷ []) (sym here) in
    subst (λ x. TellsFiles files (texts (take (i + 1) names)) a c m k x) (sym both) (subst (λ l. TellsFiles files l a c m k (p && q)) (sym order) more)

pub and_yes : (p q r : Bool) → p ≡ true → r ≡ q → r ≡ (p && q)
and_yes p q r both same = same ∙ ap (λ b. b && q) (sym both)

pub and_no : (p q r : Bool) → p ≡ false → r ≡ false → r ≡ (p && q)
and_no p q r none same = same ∙ ap (λ b. b && q) (sym none)

tells_later : (files : Option (List ℕ → Option (List ℕ))) (names : List (List ℕ)) (held holds : Option (List ℕ)) (m n k : ℕ) (all : Bool) → TellsFiles files names held holds m n all → n ≤ k → TellsFiles files names held holds m k all
tells_later files names held holds m n k all t later = record {
  told = t.told;
  in_order = t.in_order;
  said = t.said;
  readable = All-weaker (IsReadable m n) (IsReadable m k) (λ x h u. rose_later m n k (h u) later) t.told t.readable;
  written = t.written;
  accepted = t.accepted;
  risen = omega (arith, t.risen, later);
}

-- some names are told of, and not the next
pub tells_first : (files : Option (List ℕ → Option (List ℕ))) (names : List (String Global)) (i : ℕ) (held holds stays : Option (List ℕ)) (m n k : ℕ) (all : Bool) → TellsFiles files (texts (take i names)) held holds m n all → i < length names → n ≤ k → stays ≡ holds → TellsFirst files (texts names) held stays m k
tells_first files names i held holds stays m n k all t within later same =
    let fewer : i < length (texts names) = rw length-map within in
    let front : TellsFiles files (take i (texts names)) held holds m k all = subst (λ l. TellsFiles files l held holds m k all) (sym (take-map string_bytes i names)) (tells_later files (texts (take i names)) held holds m n k all t later) in
    (i, all, fewer, subst (λ h. TellsFiles files (take i (texts names)) held h m k all) (sym same) front)

pub asked_first : (files : Option (List ℕ → Option (List ℕ))) (words : List (List ℕ)) (times : ℕ) (names : List (List ℕ)) (held holds : Option (List ℕ)) (faults now : ℕ) → Asks words times names → TellsFirst files names held holds faults now → TellsSome files words held holds faults now
asked_first files words times names held holds faults now asked first = (times, names, asked, first)
