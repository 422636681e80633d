-- The instructions that change their own frame alone: the frame goes on with as many local variables, within its room, and what it holds
-- then is what it held, or a number.
use Rattle.bytecode_local.specs.Branching.{branched}
use Rattle.bytecode_local.specs.Changes.{Change, can_take, changed, changed_entries, changed_locals, exchange, has_long, has_places, has_room, jumping, stores_within, storing, with_first_cleared, with_one, with_second_cleared, with_value}
use Rattle.bytecode_local.specs.Computing.{computed, computed_of_one, computed_of_two, conversion_made, kind_converted, kind_of, longs_compared, second_kind}
use Rattle.bytecode_local.specs.Constants.{pushing}
use Rattle.bytecode_local.specs.Effect as own
use Rattle.bytecode_local.specs.Effect.{change_of, goes_on_at, instr_at, simple_change}
use Rattle.bytecode_local.specs.Kinds.{category_one_at, int_at, int_of, is_category_two, is_kind, kind_at, long_at, operand_at, reference_at}
use Rattle.bytecode_local.specs.Locals.{incremented, loaded, stored}
use Rattle.bytecode_local.specs.Rearranging.{copied_under_two, long_copied_under_two, pair_copied_under_two, popped_two, rearranged, two_copied, two_copied_under_one}
use Rattle.class_code.specs.declared.instr.Arithmetic.{Arithmetic}
use Rattle.class_code.specs.declared.instr.Arithmetic.TheVariants as arithmetic
use Rattle.class_code.specs.declared.instr.Branch.{Branch}
use Rattle.class_code.specs.declared.instr.Branch.TheVariants as branch
use Rattle.class_code.specs.declared.instr.Conversion.{Conversion}
use Rattle.class_code.specs.declared.instr.Instr.{Instr}
use Rattle.class_code.specs.declared.instr.Instr.TheVariants as instr
use Rattle.class_code.specs.declared.instr.Kind.{Kind}
use Rattle.class_code.specs.declared.instr.Simple.{Simple}
use Rattle.class_code.specs.declared.instr.Simple.TheVariants as simple
use Rattle.class_code.specs.declared.instr.StackOp.{StackOp}
use Rattle.class_code.specs.declared.instr.StackOp.TheVariants as stack_op
use Rattle.class_code.specs.declared.instr.Width.{Width}
use Rattle.class_code.specs.Codes.{slot_place}
use Rattle.instruction_effect.proofs.ActRules.{GoesOnAs, HoldAll}
use Rattle.instruction_effect.proofs.FollowingCores.{Rules, Walk}
use Rattle.instruction_effect.proofs.FollowingForms.{all_both, all_drop, kind_by, set_length}
use Rattle.instruction_effect.proofs.FollowingNumbers.{combined_holds, converted_holds, negated_holds}
use Rattle.instruction_effect.proofs.FollowingReads.{all_get}
use Rattle.jv_number.specs.Values.{combined, converted, has_two, is_division, negated}
use Rattle.machine_state.specs.Core.{Core, MethodFrame}
use Rattle.std.proofs.Common.{Bool, List, None, Option, Some, [], drop, false, length, refl, subst, suc, true, zero, ℕ, ◌+◌, ◌∙◌, ◌∷◌, ◌≡◌}
use Rattle.std.proofs.lemmas.Bool.{and_parts, leb-true}
use Rattle.std.specs.List.{AllByRecursion}
use Rattle.std.specs.Prelude.{if◌then◌else◌, pos, slice_get, slice_set, ℤ, ◌&&◌}
use Rattle.thread_frames.specs.Operands.{OperandStack, words_of}
use Rattle.ti_ids.specs.Maybe.{◌>>=◌}
use Rattle.ti_ids.specs.declared.number.ThreadNo.{ThreadNo}
use Rattle.ti_ids.specs.declared.value.Value.{Value}
use Rattle.ti_ids.specs.declared.value.Value.TheVariants as value

-- ---- local variables

set_all : (P : Value → Type 0) (values : List Value) (place : ℕ) (v : Value) → AllByRecursion P values → P v
    → AllByRecursion P (slice_set values place v)
set_all P [] place v h k = tt
set_all P (u ∷ values) zero v h k = (k, h.1)
set_all P (u ∷ values) (suc place) v h k = (h.0, set_all P values place v h.1 k)

-- as many values, and each is one of these
module _ (P : Value → Type 0) (int : (n : ℤ) → P (value.Int n)) where
  abbrev AreAs : List Value → List Value → Type 0
  AreAs values other = (length other ≡ length values) × AllByRecursion P other

  set_as : (values other : List Value) (place : ℕ) (v : Value) → AreAs values other → P v → AreAs values (slice_set other place v)
  set_as values other place v h k = (set_length other place v ∙ h.0, set_all P other place v h.1 k)

  if_as : (values a b : List Value) (c : Bool) → AreAs values a → AreAs values b → AreAs values (if c then a else b)
  if_as values a b true h k = h
  if_as values a b false h k = k

  second_as : (values other : List Value) (place : ℕ) → AreAs values other → AreAs values (with_second_cleared other place)
  second_as values other place h =
      if_as values (slice_set other (place + 1) (value.Int (pos 0))) other (has_long other place)
      (set_as values other (place + 1) (value.Int (pos 0)) h (int (pos 0))) h

  first_as : (values other : List Value) (place : ℕ) → AreAs values other → AreAs values (with_first_cleared other place)
  first_as values other zero h = h
  first_as values other (suc place) h =
      if_as values (slice_set other place (value.Int (pos 0))) other (has_long other place)
      (set_as values other place (value.Int (pos 0)) h (int (pos 0))) h

  one_as : (values other : List Value) (place : ℕ) (v : Value) → AreAs values other → P v → AreAs values (with_one other place v)
  one_as values other place v h k =
      set_as values (with_first_cleared (with_second_cleared other place) place) place v
      (first_as values (with_second_cleared other place) place (second_as values other place h)) k

  value_as : (values : List Value) (place : ℕ) (v : Value) → AllByRecursion P values → P v → AreAs values (with_value values place v)
  value_as values place (value.Int n) h k = one_as values values place (value.Int n) (refl, h) k
  value_as values place (value.Ref r) h k = one_as values values place (value.Ref r) (refl, h) k
  value_as values place (value.Long n) h k =
      one_as values (with_one values (place + 1) (value.Int (pos 0))) place (value.Long n)
      (one_as values values (place + 1) (value.Int (pos 0)) (refl, h) (int (pos 0))) k

  abbrev pub IsStored : Option (ℕ × Value) → Type 0
  IsStored None = Unit {0}
  IsStored (Some (place, v)) = P v

  changed_as : (stored : Option (ℕ × Value)) (values : List Value) → AllByRecursion P values → IsStored stored
      → AreAs values (changed_locals stored values)
  changed_as None values h k = (refl, h)
  changed_as (Some (place, v)) values h k = value_as values place v h k

-- ---- changes

module _ (w : Walk) (t : ThreadNo) (rules : Rules w t) (now : Core) where
  abbrev pub H : Value → Type 0
  H v = w.Holds now v

  pub int : (n : ℤ) → H (value.Int n)
  int n = rules.int now n

  -- what is put on the stack, and what is stored, holds
  pub record ChangeHolds (change : Change) : Type 0 where
    pub given : AllByRecursion H change.given
    pub kept : IsStored H int change.stored

  abbrev Gives : Option Change → Type 0
  Gives found = (change : Change) → found ≡ Some change → ChangeHolds change

  gives_none : Gives None
  gives_none change is = absurd cc

  gives : (change : Change) → ChangeHolds change → Gives (Some change)
  gives change h other is = let same : change ≡ other = cc in subst ChangeHolds same h

  gives_exchange : (taken : ℕ) (given : List Value) → AllByRecursion H given → Gives (Some (exchange taken given))
  gives_exchange taken given h = gives (exchange taken given) (record { given = h; kept = tt })

  gives_if : (b : Bool) (x y : Option Change) → Gives x → Gives y → Gives (if b then x else y)
  gives_if true x y h k = h
  gives_if false x y h k = k

  gives_bind : {A : Type 0} (found : Option A) (f : A → Option Change) → ((x : A) → found ≡ Some x → Gives (f x)) → Gives (found >>= f)
  gives_bind None f h = gives_none
  gives_bind (Some x) f h = h x refl

  gives_jump : (taken : ℕ) (b : Bool) (by : ℤ) → Gives (Some (jumping taken b by))
  gives_jump taken b by = gives (jumping taken b by) (record { given = tt; kept = tt })

  -- of a frame's local variables and operands
  module _ (locals : List Value) (stack : OperandStack) (local_values : AllByRecursion H locals) (operands : AllByRecursion H stack.entries) where
    operand : (depth : ℕ) (v : Value) → operand_at stack depth ≡ Some v → H v
    operand depth v is = all_get H stack.entries depth v operands is

    one_by : (found : Option Value) (v : Value) → (found >>= λ v. if is_category_two v then None else Some v) ≡ Some v → found ≡ Some v
    one_by None v is = absurd cc
    one_by (Some u) v is = of_category (is_category_two u) is
      where
        of_category : (b : Bool) → (if b then None else Some u) ≡ Some v → Some u ≡ Some v
        of_category true is = absurd cc
        of_category false is = is

    one : (depth : ℕ) (v : Value) → category_one_at stack depth ≡ Some v → H v
    one depth v is = operand depth v (one_by (operand_at stack depth) v is)

    of_kind : (k : Kind) (depth : ℕ) (v : Value) → kind_at k stack depth ≡ Some v → H v
    of_kind k depth v is = operand depth v (kind_by w k (operand_at stack depth) v is)

    -- ---- local variables

    loads : (k : Kind) (place : ℕ) → Gives (loaded k place locals)
    loads k place = gives_bind (slice_get locals place) _ (λ v is.
        gives_if (is_kind k v && has_places locals place v) (Some (pushing v)) None
        (gives_exchange 0 (v ∷ []) (all_get H locals place v local_values is, tt)) gives_none)

    stores : (k : Kind) (place : ℕ) → Gives (stored k place stack)
    stores k place = gives_bind (kind_at k stack 0) _ (λ v is.
        gives (storing 1 place v) (record { given = tt; kept = of_kind k 0 v is }))

    increments : (place : ℕ) (by : ℤ) → Gives (incremented place by locals)
    increments place by = gives_bind (slice_get locals place >>= int_of) _ (λ n is.
        let sum : Value = combined arithmetic.Add (value.Int n) (value.Int by) in
        gives (storing 0 place sum) (record { given = tt; kept = combined_holds w t rules now arithmetic.Add (value.Int n) (value.Int by) (int n) }))

    -- ---- operands

    pops_two : Gives (popped_two stack)
    pops_two = gives_bind (operand_at stack 0) _ (λ a h.
        gives_if (is_category_two a) (Some (exchange 1 [])) _ (gives_exchange 1 [] tt)
        (gives_bind (category_one_at stack 1) _ (λ b k. gives_exchange 2 [] tt)))

    copies_under_two : Gives (copied_under_two stack)
    copies_under_two = gives_bind (category_one_at stack 0) _ (λ a h. gives_bind (operand_at stack 1) _ (λ b k.
        let x : H a = one 0 a h in let y : H b = operand 1 b k in
        gives_if (is_category_two b) (Some (exchange 2 (a ∷ b ∷ a ∷ []))) _ (gives_exchange 2 (a ∷ b ∷ a ∷ []) (x, (y, (x, tt))))
        (gives_bind (category_one_at stack 2) _ (λ c l.
        gives_exchange 3 (a ∷ b ∷ c ∷ a ∷ []) (x, (y, (one 2 c l, (x, tt))))))))

    copies_two : Gives (two_copied stack)
    copies_two = gives_bind (operand_at stack 0) _ (λ a h.
        let x : H a = operand 0 a h in
        gives_if (is_category_two a) (Some (exchange 1 (a ∷ a ∷ []))) _ (gives_exchange 1 (a ∷ a ∷ []) (x, (x, tt)))
        (gives_bind (category_one_at stack 1) _ (λ b k.
        let y : H b = one 1 b k in gives_exchange 2 (a ∷ b ∷ a ∷ b ∷ []) (x, (y, (x, (y, tt)))))))

    copies_two_under_one : Gives (two_copied_under_one stack)
    copies_two_under_one = gives_bind (operand_at stack 0) _ (λ a h. gives_bind (category_one_at stack 1) _ (λ b k.
        let x : H a = operand 0 a h in let y : H b = one 1 b k in
        gives_if (is_category_two a) (Some (exchange 2 (a ∷ b ∷ a ∷ []))) _ (gives_exchange 2 (a ∷ b ∷ a ∷ []) (x, (y, (x, tt))))
        (gives_bind (category_one_at stack 2) _ (λ c l.
        gives_exchange 3 (a ∷ b ∷ c ∷ a ∷ b ∷ []) (x, (y, (one 2 c l, (x, (y, tt)))))))))

    copies_long_under_two : Gives (long_copied_under_two stack)
    copies_long_under_two = gives_bind (operand_at stack 0) _ (λ a h. gives_bind (operand_at stack 1) _ (λ b k.
        let x : H a = operand 0 a h in let y : H b = operand 1 b k in
        gives_if (is_category_two b) (Some (exchange 2 (a ∷ b ∷ a ∷ []))) _ (gives_exchange 2 (a ∷ b ∷ a ∷ []) (x, (y, (x, tt))))
        (gives_bind (category_one_at stack 2) _ (λ c l.
        gives_exchange 3 (a ∷ b ∷ c ∷ a ∷ []) (x, (y, (one 2 c l, (x, tt))))))))

    copies_pair_under_two : Gives (pair_copied_under_two stack)
    copies_pair_under_two = gives_bind (operand_at stack 0) _ (λ a h. gives_bind (category_one_at stack 1) _ (λ b k.
        gives_bind (operand_at stack 2) _ (λ c l.
        let x : H a = operand 0 a h in let y : H b = one 1 b k in let z : H c = operand 2 c l in
        gives_if (is_category_two c) (Some (exchange 3 (a ∷ b ∷ c ∷ a ∷ b ∷ []))) _
        (gives_exchange 3 (a ∷ b ∷ c ∷ a ∷ b ∷ []) (x, (y, (z, (x, (y, tt))))))
        (gives_bind (category_one_at stack 3) _ (λ d m.
        gives_exchange 4 (a ∷ b ∷ c ∷ d ∷ a ∷ b ∷ []) (x, (y, (z, (one 3 d m, (x, (y, tt)))))))))))

    rearranges : (o : StackOp) → Gives (rearranged o stack)
    rearranges stack_op.Pop = gives_bind (category_one_at stack 0) _ (λ a h. gives_exchange 1 [] tt)
    rearranges stack_op.Pop2 = pops_two
    rearranges stack_op.Dup =
        gives_bind (category_one_at stack 0) _ (λ a h. gives_exchange 1 (a ∷ a ∷ []) (one 0 a h, (one 0 a h, tt)))
    rearranges stack_op.DupX1 = gives_bind (category_one_at stack 0) _ (λ a h. gives_bind (category_one_at stack 1) _ (λ b k.
        gives_exchange 2 (a ∷ b ∷ a ∷ []) (one 0 a h, (one 1 b k, (one 0 a h, tt)))))
    rearranges stack_op.DupX2 = copies_under_two
    rearranges stack_op.Dup2 = copies_two
    rearranges stack_op.Dup2X1 = copies_two_under_one
    rearranges stack_op.Dup2X2 = gives_bind (operand_at stack 0) _ (λ a h.
        gives_if (is_category_two a) (long_copied_under_two stack) (pair_copied_under_two stack) copies_long_under_two copies_pair_under_two)
    rearranges stack_op.Swap = gives_bind (category_one_at stack 0) _ (λ a h. gives_bind (category_one_at stack 1) _ (λ b k.
        gives_exchange 2 (b ∷ a ∷ []) (one 1 b k, (one 0 a h, tt))))

    -- ---- numbers

    computes_one : (width : Width) → Gives (computed_of_one width stack)
    computes_one width = gives_bind (kind_at (kind_of width) stack 0) _ (λ a h.
        gives_exchange 1 (negated a ∷ []) (negated_holds w t rules now a (of_kind (kind_of width) 0 a h), tt))

    computes_two : (op : Arithmetic) (width : Width) → Gives (computed_of_two op width stack)
    computes_two op width = gives_bind (kind_at (second_kind op width) stack 0) _ (λ b k.
        gives_bind (kind_at (kind_of width) stack 1) _ (λ a h.
        gives_exchange 2 (combined op a b ∷ []) (combined_holds w t rules now op a b (of_kind (kind_of width) 1 a h), tt)))

    computes : (op : Arithmetic) (width : Width) → Gives (computed op width stack)
    computes op width =
        gives_if (is_division op) None (if has_two op then computed_of_two op width stack else computed_of_one width stack) gives_none
        (gives_if (has_two op) (computed_of_two op width stack) (computed_of_one width stack) (computes_two op width) (computes_one width))

    converts : (c : Conversion) → Gives (conversion_made c stack)
    converts c = gives_bind (kind_at (kind_converted c) stack 0) _ (λ a h.
        gives_exchange 1 (converted c a ∷ []) (converted_holds w t rules now c a (of_kind (kind_converted c) 0 a h), tt))

    compares : Gives (longs_compared stack)
    compares = gives_bind (long_at stack 0) _ (λ b k. gives_bind (long_at stack 1) _ (λ a h. gives_exchange 2 (value.Int _ ∷ []) (int _, tt)))

    -- ---- branches

    branches : (when : Branch) (by : ℤ) → Gives (branched when by stack)
    branches (branch.If c) by = gives_bind (int_at stack 0) _ (λ a h. gives_jump 1 _ by)
    branches (branch.IfIntCompare c) by = gives_bind (int_at stack 0) _ (λ b k. gives_bind (int_at stack 1) _ (λ a h. gives_jump 2 _ by))
    branches branch.IfSameReference by = gives_bind (reference_at stack 0) _ (λ b k. gives_bind (reference_at stack 1) _ (λ a h. gives_jump 2 _ by))
    branches branch.IfOtherReference by = gives_bind (reference_at stack 0) _ (λ b k. gives_bind (reference_at stack 1) _ (λ a h. gives_jump 2 _ by))
    branches branch.Goto by = gives_jump 0 true by
    branches branch.IfNull by = gives_bind (reference_at stack 0) _ (λ a h. gives_jump 1 _ by)
    branches branch.IfNonNull by = gives_bind (reference_at stack 0) _ (λ a h. gives_jump 1 _ by)

    -- ---- all of them

    simple_gives : (s : Simple) → Gives (simple_change s locals stack)
    simple_gives simple.Nop = gives_exchange 0 [] tt
    simple_gives simple.ConstNull = gives_exchange 0 (value.Ref None ∷ []) (rules.null now, tt)
    simple_gives (simple.ConstInt n) = gives_exchange 0 (value.Int _ ∷ []) (int _, tt)
    simple_gives (simple.ConstLong n) = gives_exchange 0 (value.Long _ ∷ []) (rules.long now _, tt)
    simple_gives (simple.Load k s) = loads k (slot_place s)
    simple_gives (simple.Store k s) = stores k (slot_place s)
    simple_gives (simple.Stack o) = rearranges o
    simple_gives (simple.Arithmetic o width) = computes o width
    simple_gives (simple.Convert c) = converts c
    simple_gives simple.CompareLongs = compares
    simple_gives s = gives_none

    pub change_gives : (i : Instr) → Gives (change_of i locals stack)
    change_gives (instr.Simple s) = simple_gives s
    change_gives (instr.PushByte n) = gives_exchange 0 (value.Int n ∷ []) (int n, tt)
    change_gives (instr.PushShort n) = gives_exchange 0 (value.Int n ∷ []) (int n, tt)
    change_gives (instr.PushInt n) = gives_exchange 0 (value.Int n ∷ []) (int n, tt)
    change_gives (instr.PushLong n) = gives_exchange 0 (value.Long n ∷ []) (rules.long now n, tt)
    change_gives (instr.Load k place) = loads k place
    change_gives (instr.LoadWide k place) = loads k place
    change_gives (instr.Store k place) = stores k place
    change_gives (instr.StoreWide k place) = stores k place
    change_gives (instr.Increment place by) = increments place by
    change_gives (instr.IncrementWide place by) = increments place by
    change_gives (instr.Branch when by) = branches when by
    change_gives (instr.GotoWide by) = gives_jump 0 true by
    change_gives (instr.TableSwitch table) = gives_bind (int_at stack 0) _ (λ a h. gives_jump 1 true _)
    change_gives (instr.LookupSwitch lookup) = gives_bind (int_at stack 0) _ (λ a h. gives_jump 1 true _)
    change_gives i = gives_none

  -- ---- the frame after it

  abbrev planned_at : Change → ℕ → Change × ℕ
  planned_at change pc = (change, pc)

  abbrev GoesOn : MethodFrame → Option MethodFrame → Type 0
  GoesOn f found = (g : MethodFrame) → found ≡ Some g → GoesOnAs w.Holds now f g

  goes_none : (f : MethodFrame) → GoesOn f None
  goes_none f g is = absurd cc

  goes_by : (f : MethodFrame) (change : Change) (pc : ℕ) → HoldAll w.Holds now f.locals → HoldAll w.Holds now f.stack.entries → ChangeHolds change
      → can_take f change ≡ true → GoesOnAs w.Holds now f (changed f change pc)
  goes_by f change pc locals operands h can =
      let entries : List Value = f.stack.entries in
      let parts = and_parts (has_room change f.stack) (stores_within change.stored f.locals) can in
      let stays = changed_as H int change.stored f.locals locals h.kept in
      record {
        locals = stays.0;
        room = refl;
        within = λ before. leb-true (words_of (changed_entries change entries)) f.stack.room parts.0;
        local_values = stays.1;
        operands = all_both H change.given (drop change.taken entries) h.given (all_drop H change.taken entries operands);
      }

  placed : (f : MethodFrame) (change : Change) (pc : Option ℕ) → ((pc : ℕ) → GoesOnAs w.Holds now f (changed f change pc))
      → GoesOn f ((pc >>= λ pc. Some (planned_at change pc)) >>= λ p. Some (changed f p.0 p.1))
  placed f change None h g is = absurd cc
  placed f change (Some pc) h g is = let same : changed f change pc ≡ g = cc in subst (λ (x : MethodFrame). GoesOnAs w.Holds now f x) same (h pc)

  taken : (f : MethodFrame) (change : Change) (pc : Option ℕ) (b : Bool) → (b ≡ true → (pc : ℕ) → GoesOnAs w.Holds now f (changed f change pc))
      → GoesOn f ((if b then (pc >>= λ pc. Some (planned_at change pc)) else None) >>= λ p. Some (changed f p.0 p.1))
  taken f change pc true h = placed f change pc (h refl)
  taken f change pc false h = goes_none f

  planned_by : (code : List (ℕ × Instr)) (f : MethodFrame) (found : Option Change)
      → ((change : Change) → found ≡ Some change → can_take f change ≡ true → (pc : ℕ) → GoesOnAs w.Holds now f (changed f change pc))
      → GoesOn f ((found >>= λ change.
      if can_take f change then (goes_on_at code f.pc change.jump >>= λ pc. Some (planned_at change pc)) else None) >>= λ p. Some (changed f p.0 p.1))
  planned_by code f None h = goes_none f
  planned_by code f (Some change) h = taken f change (goes_on_at code f.pc change.jump) (can_take f change) (h change refl)

  instr_by : (code : List (ℕ × Instr)) (f : MethodFrame) (found : Option Instr) → HoldAll w.Holds now f.locals
      → HoldAll w.Holds now f.stack.entries
      → GoesOn f ((found >>= λ i. change_of i f.locals f.stack >>= λ change.
      if can_take f change then (goes_on_at code f.pc change.jump >>= λ pc. Some (planned_at change pc)) else None) >>= λ p. Some (changed f p.0 p.1))
  instr_by code f None locals operands = goes_none f
  instr_by code f (Some i) locals operands =
      planned_by code f (change_of i f.locals f.stack) (λ change is can pc.
      goes_by f change pc locals operands (change_gives f.locals f.stack locals operands i change is) can)

  pub effect_goes : (code : List (ℕ × Instr)) (f : MethodFrame) → HoldAll w.Holds now f.locals → HoldAll w.Holds now f.stack.entries
      → GoesOn f (own.effect code f)
  effect_goes code f locals operands = instr_by code f (instr_at code f.pc) locals operands
