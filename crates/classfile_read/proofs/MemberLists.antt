-- Members read one after the other: what is found after some of them were read.
use Rattle.std.proofs.Common.{◌≡◌, ℕ, zero, suc, ◌-◌, ◌+◌, ◌<◌, ◌≤◌, List, [], ◌∷◌, ◌++◌, Ok, Err, refl, inl, inr, ap, ◌∙◌, append-nil, arith}
use Rattle.std.proofs.Math.Nat.{sub-zero}
use Rattle.class_tree.specs.declared.pool.Const.{Const}
use Rattle.class_tree.specs.declared.members.Member.{Member}
use Rattle.class_tree.specs.declared.members.MemberKind.{MemberKind}
use Rattle.classfile_items.specs.declared.fault.ReadClassFault.{ReadClassFault}
use Rattle.classfile_items.specs.Reading.{Tells}
use Rattle.classfile_read.specs.declared.seen.SeenNames.{SeenNames}
use Rattle.classfile_read.specs.ClassReading.{Names, member, members_from}
use Rattle.classfile_read.specs.Repeats.{Remembers, names_of}
use Rattle.classfile_items.proofs.Many.{after, after-nil, after-after}

module _ (major : ℕ) (pool : List Const) (end : ℕ) (kind : MemberKind) where
  -- of n members, i were read, and the set has their names
  pub record HaveBeenRead (n i : ℕ) (bytes rest : List ℕ) (seen : SeenNames) (read : List Member) : Type 0 where
    pub earlier : List Names
    pub remembers : Remembers pool seen earlier
    pub all : members_from major pool end kind [] n bytes ≡ after read (members_from major pool end kind earlier (n - i) rest)

  pub none_read : (n : ℕ) (bytes : List ℕ) (seen : SeenNames) (read : List Member) → Remembers pool seen [] → read ≡ [] → HaveBeenRead n 0 bytes bytes seen read
  none_read n bytes seen read nothing is = record {
    earlier = [];
    remembers = nothing;
    all = rw (is, sub-zero n) (after-nil (members_from major pool end kind [] n bytes));
  }

  more : (n : ℕ) (read : List Member) (earlier : List Names) (m : Member) (names : Names) (bytes rest : List ℕ) → member major pool end kind earlier bytes ≡ Ok ((m, names), rest)
      → after read (members_from major pool end kind earlier (suc n) bytes) ≡ after (read ++ m ∷ []) (members_from major pool end kind (names ∷ earlier) n rest)
  more n read earlier m names bytes rest e = rw e (after-after read m (members_from major pool end kind (names ∷ earlier) n rest))

  -- one more was read
  pub one_more_read : (n i : ℕ) (bytes here rest : List ℕ) (seen later : SeenNames) (read next : List Member) (m : Member) (h : HaveBeenRead n i bytes here seen read) → i < n
      → member major pool end kind h.earlier here ≡ Ok ((m, names_of pool m), rest) → Remembers pool later (names_of pool m ∷ h.earlier) → next ≡ read ++ m ∷ [] → HaveBeenRead n (i + 1) bytes rest later next
  one_more_read n i bytes here rest seen later read next m h lt e remembers is =
      let left : n - i ≡ suc (n - (i + 1)) = omega arith in
      let all = rw left at h.all in
      record {
        earlier = names_of pool m ∷ h.earlier;
        remembers = remembers;
        all = rw is (all ∙ more (n - (i + 1)) read h.earlier m (names_of pool m) here rest e);
      }

  fails : (n : ℕ) (read : List Member) (earlier : List Names) (bytes : List ℕ) (fault : ReadClassFault) → member major pool end kind earlier bytes ≡ Err fault → after read (members_from major pool end kind earlier (suc n) bytes) ≡ Err fault
  fails n read earlier bytes fault e = rw e refl

  -- the next one was not read
  pub next_stopped : (n i : ℕ) (bytes here : List ℕ) (seen : SeenNames) (read : List Member) (fault : ReadClassFault) (h : HaveBeenRead n i bytes here seen read) → i < n
      → Tells fault (member major pool end kind h.earlier here) → Tells fault (members_from major pool end kind [] n bytes)
  next_stopped n i bytes here seen read fault h lt (inl memory) = inl memory
  next_stopped n i bytes here seen read fault h lt (inr e) =
      let left : n - i ≡ suc (n - (i + 1)) = omega arith in
      let all = rw left at h.all in
      inr (all ∙ fails (n - (i + 1)) read h.earlier here fault e)

  -- all were read
  pub all_read : (n i : ℕ) (bytes rest : List ℕ) (seen : SeenNames) (read : List Member) → HaveBeenRead n i bytes rest seen read → n ≤ i → members_from major pool end kind [] n bytes ≡ Ok (read, rest)
  all_read n i bytes rest seen read h le =
      let left : n - i ≡ zero = omega arith in
      let all = rw left at h.all in
      all ∙ ap (λ (x : List Member). Ok (x, rest)) (append-nil read)
