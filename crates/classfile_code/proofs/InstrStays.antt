-- What shows in a code's instructions doesn't depend on what follows them. Of a code that the file cuts off nothing is found but a
-- fault.
use Rattle.std.proofs.Common.{◌≡◌, ◌⊎◌, inl, inr, ℕ, zero, suc, ◌+◌, ◌-◌, ◌≤◌, ◌<◌, Bool, true, false, List, [], ◌∷◌, ◌++◌, length, take, drop, Option, Result, Ok, Err, refl, sym, ap, ◌∙◌, subst, arith, length-append}
use Rattle.std.specs.Prelude.{nat_lt}
use Rattle.std.proofs.lemmas.Bool.{ltb-true, ltb-false, le-ltb}
use Rattle.std.proofs.lemmas.List.{take_all, take-append-le, drop-append-le}
use Rattle.std.proofs.Math.Seq.{take-append-add}
use Rattle.class_code.specs.declared.fault.InstrFault.{InstrFault}
use Rattle.class_code.specs.declared.fault.InstrFault.TheVariants as instr_fault
use Rattle.class_code.specs.declared.instr.Instr.{Instr}
use Rattle.class_code.specs.declared.pool.PoolUse.{PoolUse}
use Rattle.class_code.specs.PoolUses.{pool_use_at}
use Rattle.class_code.specs.OperandReading.{Read}
use Rattle.class_code.specs.CodeReading.{instr_at}
use Rattle.class_tree.specs.declared.pool.Const.{Const}
use Rattle.class_tree.specs.CodeRules.{is_met, is_code_length}
use Rattle.classfile_items.specs.declared.fault.ReadClassFault.{ReadClassFault}
use Rattle.classfile_items.specs.declared.fault.ReadClassFault.TheVariants.{Truncated, BadIndex, BadLength}
use Rattle.classfile_items.specs.Reading.{Checked, Found, ◌>>=◌, unless, faultless, offset}
use Rattle.classfile_items.proofs.Stays.{Stays, with, cut, refused, chain, on_provided, on_faultless, offset_same, read_same, u4_stays}
use Rattle.classfile_code.specs.CodeReading.{index_fault, stopped, or_stopped, instr_of, instrs_from, astray_fault, listed, code_array}
use Rattle.classfile_code.proofs.OperandStays.{ReadStays, instr_stays, use_at_stays}

-- ---- what is never found

-- There is no value, and a fault stays, unless it says that the file is cut off.
abbrev IsLost : {A B : Type 0} → ℕ → Checked A → Checked B → Type 0
IsLost end (Ok x) later = ⊥
IsLost end (Err fault) later = (fault ≡ Truncated end) ⊎ (later ≡ Err fault)

record Lost {A B : Type 0} (end : ℕ) (found : Checked A) (later : Checked B) : Type 0 where
  lost : IsLost end found later

lost_chain : {A B C D : Type 0} {end : ℕ} {found : Checked A} {later : Checked B} → Lost end found later → (next : A → Checked C) (next_later : B → Checked D) → Lost end (found >>= next) (later >>= next_later)
lost_chain {found = Ok x} first next next_later = absurd first.lost
lost_chain {found = Err fault} first next next_later =
    record { lost = elim first.lost [ inl is ↦ inl is | inr e ↦ inr (ap (λ (r : Checked _). r >>= next_later) e) ] }

then_lost : {A B C D : Type 0} {end : ℕ} {longer : A → Checked B} {found : Checked A} {later : Checked B} {next : A → Checked C} → Stays end longer found later → (next_later : B → Checked D) → ((x : A) → found ≡ Ok x → Lost end (next x) (longer x >>= next_later)) → Lost end (found >>= next) (later >>= next_later)
then_lost {end = end} {found = Ok x} {next = next} first next_later others =
    subst (λ (r : Checked _). Lost end (next x) (r >>= next_later)) (sym first.still) (others x refl)
then_lost {found = Err fault} first next_later others =
    record { lost = elim first.still [ inl is ↦ inl is | inr e ↦ inr (ap (λ (r : Checked _). r >>= next_later) e) ] }

lost_stays : {A B : Type 0} {end : ℕ} {longer : A → Checked B} {found : Checked A} {later : Checked B} → Lost end found later → Stays end longer found later
lost_stays {found = Ok x} first = absurd first.lost
lost_stays {found = Err fault} first = record { still = first.lost }

-- ---- an instruction of a code that is cut off

stopped_by : {A : Type 0} {end : ℕ} {longer : Instr × List ℕ → Found A} (other : ℕ) (later_cut : Bool) (at : ℕ) (why : InstrFault) (later : Read A) → (why ≡ instr_fault.Truncated) ⊎ (later ≡ Err why) → Stays end longer (Err (stopped end true at why)) (or_stopped other later_cut at later)
stopped_by other later_cut at instr_fault.Truncated later still = cut
stopped_by {end = end} other later_cut at instr_fault.Floating later still = record { still = elim still [ inl is ↦ inl (ap (stopped end true at) is) | inr e ↦ inr (ap (or_stopped other later_cut at) e) ] }
stopped_by {end = end} other later_cut at instr_fault.Unsupported later still = record { still = elim still [ inl is ↦ inl (ap (stopped end true at) is) | inr e ↦ inr (ap (or_stopped other later_cut at) e) ] }
stopped_by {end = end} other later_cut at instr_fault.BadOperand later still = record { still = elim still [ inl is ↦ inl (ap (stopped end true at) is) | inr e ↦ inr (ap (or_stopped other later_cut at) e) ] }

or_stopped_stays : {more : List ℕ} {most end : ℕ} (other : ℕ) (later_cut : Bool) (at : ℕ) (read later : Read Instr) → ReadStays more most read later → Stays end (with more) (or_stopped end true at read) (or_stopped other later_cut at later)
or_stopped_stays other later_cut at (Ok x) later first = record { still = ap (or_stopped other later_cut at) first.still.1 }
or_stopped_stays other later_cut at (Err why) later first = stopped_by other later_cut at why later first.still

-- after an instruction fewer bytes are left
shorter : {more : List ℕ} {most : ℕ} (end at : ℕ) (read later : Read Instr) (x : Instr × List ℕ) → ReadStays more most read later → or_stopped end true at read ≡ Ok x → length x.1 ≤ most
shorter {most = most} end at (Ok y) later x first e = let same : y ≡ x = cc in subst (λ (z : Instr × List ℕ). length z.1 ≤ most) same first.still.0
shorter end at (Err why) later x first e = cc

module _ (major : ℕ) (pool : List Const) (end other : ℕ) (later_cut : Bool) (more : List ℕ) where
  -- what is found of an instruction once its index has been looked for
  abbrev by_use : ℕ → Bool → ℕ → ℕ → List ℕ → Option (ℕ × PoolUse) → Found Instr
  by_use last is_cut at pc bytes u = faultless (unless (is_met major pool u) (BadIndex (at + 1))) bytes >>= λ b. or_stopped last is_cut at (instr_at pc b)

  met_stays : (at pc b : ℕ) (bytes : List ℕ) (met : Bool) → Stays end (with more) (faultless (unless met (BadIndex (at + 1))) (b ∷ bytes) >>= λ c. or_stopped end true at (instr_at pc c)) (faultless (unless met (BadIndex (at + 1))) (b ∷ (bytes ++ more)) >>= λ c. or_stopped other later_cut at (instr_at pc c))
  met_stays at pc b bytes true = or_stopped_stays other later_cut at (instr_at pc (b ∷ bytes)) (instr_at pc (b ∷ (bytes ++ more))) (instr_stays more pc b bytes)
  met_stays at pc b bytes false = refused refl

  instr_of_stays : (at pc b : ℕ) (bytes : List ℕ) → Stays end (with more) (instr_of major pool end true at pc (b ∷ bytes)) (instr_of major pool other later_cut at pc (b ∷ (bytes ++ more)))
  instr_of_stays at pc b bytes =
      elim (use_at_stays more pc b bytes).still [
        | inl same ↦
            subst (λ (u : Option (ℕ × PoolUse)). Stays end (with more) (instr_of major pool end true at pc (b ∷ bytes)) (by_use other later_cut at pc (b ∷ (bytes ++ more)) u)) (sym same)
            (met_stays at pc b bytes (is_met major pool (pool_use_at (b ∷ bytes))))
        | inr e ↦
            let found : instr_of major pool end true at pc (b ∷ bytes) ≡ Err (Truncated end) = ap (by_use end true at pc (b ∷ bytes)) e.0 ∙ ap (or_stopped end true at) e.1 in
            subst (λ (r : Found Instr). Stays end (with more) r (instr_of major pool other later_cut at pc (b ∷ (bytes ++ more)))) (sym found) cut
      ]

  met_shorter : (at pc b : ℕ) (bytes : List ℕ) (x : Instr × List ℕ) (met : Bool) → (faultless (unless met (BadIndex (at + 1))) (b ∷ bytes) >>= λ c. or_stopped end true at (instr_at pc c)) ≡ Ok x → length x.1 ≤ length bytes
  met_shorter at pc b bytes x true e = shorter end at (instr_at pc (b ∷ bytes)) (instr_at pc (b ∷ (bytes ++ more))) x (instr_stays more pc b bytes) e
  met_shorter at pc b bytes x false e = cc

  -- ---- all instructions of such a code

  instrs_from_lost : (at most pc : ℕ) (bytes : List ℕ) → length bytes < most → Lost end (instrs_from major pool end true at most pc bytes) (instrs_from major pool other later_cut at most pc (bytes ++ more))
  instrs_from_lost at zero pc bytes lt = absurd (omega (arith, lt))
  instrs_from_lost at (suc most) pc [] lt = record { lost = inl refl }
  instrs_from_lost at (suc most) pc (b ∷ bytes) lt =
      then_lost (instr_of_stays at pc b bytes) _ (λ i e.
      let less : length i.1 ≤ length bytes = met_shorter at pc b bytes i (is_met major pool (pool_use_at (b ∷ bytes))) e in
      let len : ℕ = length (b ∷ bytes) - length i.1 in
      lost_chain (subst (λ (n : ℕ). Lost end (instrs_from major pool end true (at + len) most (pc + len) i.1) (instrs_from major pool other later_cut (at + n) most (pc + n) (i.1 ++ more))) (read_same more (b ∷ bytes) i.1)
      (instrs_from_lost (at + len) most (pc + len) i.1 (omega (arith, less, lt)))) _ _)

-- ---- a code that is there

-- what is known of it doesn't depend on the file's end
stopped_whole : (end other at : ℕ) (why : InstrFault) → stopped end false at why ≡ stopped other false at why
stopped_whole end other at instr_fault.Truncated = refl
stopped_whole end other at instr_fault.Floating = refl
stopped_whole end other at instr_fault.Unsupported = refl
stopped_whole end other at instr_fault.BadOperand = refl

or_stopped_whole : {A : Type 0} (end other at : ℕ) (read : Result A InstrFault) → or_stopped end false at read ≡ or_stopped other false at read
or_stopped_whole end other at (Ok x) = refl
or_stopped_whole end other at (Err why) = ap (λ (fault : ReadClassFault). Err fault) (stopped_whole end other at why)

chain_same : {A B : Type 0} (found later : Checked A) (next next_later : A → Checked B) → found ≡ later → ((x : A) → next x ≡ next_later x) → (found >>= next) ≡ (later >>= next_later)
chain_same (Ok x) later next next_later same others = others x ∙ ap (λ (r : Checked _). r >>= next_later) same
chain_same (Err fault) later next next_later same others = ap (λ (r : Checked _). r >>= next_later) same

module _ (major : ℕ) (pool : List Const) (end other : ℕ) where
  instr_of_whole : (at pc : ℕ) (bytes : List ℕ) → instr_of major pool end false at pc bytes ≡ instr_of major pool other false at pc bytes
  instr_of_whole at pc bytes = chain_same (faultless (index_fault major pool (at + 1) bytes) bytes) _ _ _ refl (λ b. or_stopped_whole end other at (instr_at pc b))

  instrs_from_whole : (at most pc : ℕ) (bytes : List ℕ) → instrs_from major pool end false at most pc bytes ≡ instrs_from major pool other false at most pc bytes
  instrs_from_whole at zero pc bytes = refl
  instrs_from_whole at (suc most) pc [] = refl
  instrs_from_whole at (suc most) pc (b ∷ bytes) =
      chain_same (instr_of major pool end false at pc (b ∷ bytes)) _ _ _ (instr_of_whole at pc (b ∷ bytes)) (λ i. let len : ℕ = length (b ∷ bytes) - length i.1 in
      chain_same (instrs_from major pool end false (at + len) most (pc + len) i.1) _ _ _ (instrs_from_whole (at + len) most (pc + len) i.1) (λ is. refl))

same_stays : {A : Type 0} {end : ℕ} (found later : Checked A) → later ≡ found → Stays end (λ x. Ok x) found later
same_stays (Ok x) later same = record { still = same }
same_stays (Err fault) later same = record { still = inr same }

-- ---- the array of a code

module _ (major : ℕ) (pool : List Const) (end : ℕ) (more : List ℕ) where
  listed_by : (len : ℕ) (bytes : List ℕ) (short : Bool) → nat_lt (length bytes) len ≡ short → Stays end (with more) (instrs_from major pool end short (offset end bytes) len 0 (take len bytes) >>= λ list. faultless (astray_fault (offset end bytes) list) ((take len bytes, list), drop len bytes)) (listed major pool (end + length more) len (bytes ++ more))
  listed_by len bytes true is =
      let lt : length bytes < len = ltb-true (length bytes) len is in
      let rest = take (len - length bytes) more in
      let all : take len bytes ≡ bytes = take_all len bytes (omega (arith, lt)) in
      let split : len ≡ length bytes + (len - length bytes) = omega (arith, lt) in
      let later : take len (bytes ++ more) ≡ bytes ++ rest = ap (λ (n : ℕ). take n (bytes ++ more)) split ∙ take-append-add bytes more (len - length bytes) in
      let at = offset end bytes in
      let other = end + length more in
      let is_cut = nat_lt (length (bytes ++ more)) len in
      let there = instrs_from_lost major pool end other is_cut rest at len 0 bytes lt in
      let begun = subst (λ (o : ℕ). Lost end (instrs_from major pool end true at len 0 bytes) (instrs_from major pool other is_cut o len 0 (bytes ++ rest))) (offset_same end more bytes) there in
      let behind = subst (λ (b : List ℕ). Lost end (instrs_from major pool end true at len 0 bytes) (instrs_from major pool other is_cut (offset other (bytes ++ more)) len 0 b)) (sym later) begun in
      let lost = subst (λ (b : List ℕ). Lost end (instrs_from major pool end true at len 0 b) (instrs_from major pool other is_cut (offset other (bytes ++ more)) len 0 (take len (bytes ++ more)))) (sym all) behind in
      lost_stays (lost_chain lost _ _)
  listed_by len bytes false is =
      let there : len ≤ length bytes = ltb-false (length bytes) len is in
      let later : nat_lt (length (bytes ++ more)) len ≡ false = le-ltb (length (bytes ++ more)) len (omega (arith, length-append bytes more)) in
      let at = offset end bytes in
      let other = end + length more in
      let front : take len (bytes ++ more) ≡ take len bytes = take-append-le len bytes more there in
      let same : instrs_from major pool other (nat_lt (length (bytes ++ more)) len) (offset other (bytes ++ more)) len 0 (take len (bytes ++ more)) ≡ instrs_from major pool end false at len 0 (take len bytes) =
      ap (λ (c : Bool). instrs_from major pool other c (offset other (bytes ++ more)) len 0 (take len (bytes ++ more))) later
      ∙ ap (λ (o : ℕ). instrs_from major pool other false o len 0 (take len (bytes ++ more))) (sym (offset_same end more bytes))
      ∙ ap (λ (b : List ℕ). instrs_from major pool other false at len 0 b) front
      ∙ sym (instrs_from_whole major pool end other at len 0 (take len bytes)) in
      chain (same_stays _ _ same) _ (λ list.
      on_faultless (astray_fault at list) _ ((take len bytes, list), drop len bytes) (ap (λ (o : ℕ). astray_fault o list) (offset_same end more bytes))
      (ap (λ (b : List ℕ). Ok ((b, list), drop len (bytes ++ more))) front ∙ ap (λ (r : List ℕ). Ok ((take len bytes, list), r)) (drop-append-le len bytes more there)))

  listed_stays : (len : ℕ) (bytes : List ℕ) → Stays end (with more) (listed major pool end len bytes) (listed major pool (end + length more) len (bytes ++ more))
  listed_stays len bytes = listed_by len bytes (nat_lt (length bytes) len) refl

  pub code_array_stays : (bytes : List ℕ) → Stays end (with more) (code_array major pool end bytes) (code_array major pool (end + length more) (bytes ++ more))
  code_array_stays bytes =
      chain (u4_stays end more bytes) _ (λ n. chain (on_provided {longer = with more} (is_code_length n.0) n (ap BadLength (offset_same end more bytes)) refl) _ (λ m. listed_stays m.0 m.1))
