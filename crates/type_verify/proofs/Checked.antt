-- What the code holds of a method is what the definitions say of it.
use Rattle.std.proofs.Common.{◌≡◌, ℕ, ◌+◌, ◌<◌, ◌^◌, Bool, true, false, List, [], ◌∷◌, map, length, Option, Some, None, Result, Ok, Err, refl, sym, subst, inl, inr}
use Rattle.std.specs.Prelude.{All, ◌&&◌, nat_le, pos, option_map, if◌then◌else◌}
use Rattle.std.proofs.lemmas.Bool.{and_parts, cases_lt}
use Rattle.std.proofs.lemmas.List.Elements.{All-nil, All-cons}
use Rattle.ti_ids.specs.Maybe.{◌>>=◌}
use Rattle.class_code.specs.Listing.{begins}
use Rattle.class_tree.specs.declared.body.Code.{Code}
use Rattle.class_tree.specs.declared.members.Member.{Member}
use Rattle.class_tree.specs.declared.frames.StackMapFrame.{StackMapFrame}
use Rattle.class_tree.specs.Trees.{Tree}
use Rattle.type_frames.specs.declared.vtype.VType.{VType}
use Rattle.type_frames.specs.declared.frame.MapFrame.{MapFrame}
use Rattle.type_frames.specs.Types.{expanded}
use Rattle.type_frames.specs.Hierarchies.{Known}
use Rattle.type_frames.specs.States.{State}
use Rattle.type_frames.specs.StackMaps.{Bounds, offset_after, locals_after, stack_after, is_within, state_listed, frame_after, with_first, frames_from}
use Rattle.type_frames.specs.TypeChecks.{Checked, AreStates, IsOffending, this_types, parameters_in, environment, map_in, checked}
use Rattle.type_frames.specs.Seen.{type_seen}
use Rattle.type_states.proofs.Begun.{none_begun}
use Rattle.type_rules.specs.Methods.{env_of}
use Rattle.type_verify.specs.declared.checker.Checker.{Checker}
use Rattle.type_verify.specs.declared.walk.Halt.{Halt}
use Rattle.type_verify.specs.declared.walk.Halt.TheVariants.{Offends, Memory}
use Rattle.type_verify.specs.Checkers.{checked_of}
use Rattle.type_verify.specs.Outcomes.{IsDecided, IsDecidedIn}

-- ---- offsets of the states of a stack map

some_is : {A : Type 0} {x y : A} → Some x ≡ Some y → x ≡ y
some_is e = cc

ok_is : {A B : Type 0} {x y : A} → ◌≡◌ {A = Result A B} (Ok x) (Ok y) → x ≡ y
ok_is e = cc

module _ (b : Bounds) (offsets : All (λ p. p.0 < 2 ^ 16) b.instrs) where
  low : (at : ℕ) (locals stack : List VType) → is_within b at locals stack ≡ true → at < 2 ^ 16
  low at locals stack e =
      let parts = and_parts (nat_le (length (expanded locals)) b.max_locals && nat_le (length (expanded stack)) b.max_stack) (begins b.instrs (pos at)) e in
      elim (cases_lt at (2 ^ 16)) [ inl lt ↦ lt | inr le ↦ absurd (let none = none_begun b.instrs at offsets le in let there = parts.1 in cc) ]

  frame_low : (last : Option ℕ) (before : List VType) (e : StackMapFrame) (f : MapFrame × List VType) → frame_after b last before e ≡ Some f → f.0.at < 2 ^ 16
  frame_low last before e f is = by (locals_after b.pool e before) is
    where
      at : ℕ
      at = offset_after last e

      test : (locals : List VType) (within : Bool) → is_within b (offset_after last e) locals (stack_after b.pool e) ≡ within
          → (if within then Some (state_listed b (offset_after last e) locals (stack_after b.pool e), locals) else None) ≡ Some f → f.0.at < 2 ^ 16
      test locals true w e2 = subst (λ (x : MapFrame × List VType). x.0.at < 2 ^ 16) (some_is e2) (low (offset_after last e) locals (stack_after b.pool e) w)
      test locals false w e2 = absurd cc

      by : (locals : Option (List VType)) → (locals >>= λ l. if is_within b (offset_after last e) l (stack_after b.pool e) then Some (state_listed b (offset_after last e) l (stack_after b.pool e), l) else None) ≡ Some f → f.0.at < 2 ^ 16
      by None e2 = absurd cc
      by (Some l) e2 = test l (is_within b (offset_after last e) l (stack_after b.pool e)) refl e2

  rest_low : (f : MapFrame) (r : Result (List MapFrame) ℕ) (frames : List MapFrame) → f.at < 2 ^ 16 → ((rest : List MapFrame) → r ≡ Ok rest → All (λ x. x.at < 2 ^ 16) rest) → with_first f r ≡ Ok frames → All (λ x. x.at < 2 ^ 16) frames
  rest_low f (Err place) frames lt rest e = absurd cc
  rest_low f (Ok fs) frames lt rest e = subst (λ (xs : List MapFrame). All (λ x. x.at < 2 ^ 16) xs) (ok_is e) (All-cons (λ (x : MapFrame). x.at < 2 ^ 16) f fs lt (rest fs refl))

  pub frames_low : (place : ℕ) (last : Option ℕ) (before : List VType) (entries : List StackMapFrame) (frames : List MapFrame) → frames_from b place last before entries ≡ Ok frames → All (λ f. f.at < 2 ^ 16) frames
  frames_low place last before [] frames e = subst (λ (xs : List MapFrame). All (λ x. x.at < 2 ^ 16) xs) (ok_is e) (All-nil (λ (x : MapFrame). x.at < 2 ^ 16))
  frames_low place last before (x ∷ entries) frames e = by (frame_after b last before x) refl (λ at locals rest. frames_low (place + 1) at locals entries rest) e
    where
      by : (f : Option (MapFrame × List VType)) → frame_after b last before x ≡ f
          → ((at : Option ℕ) (locals : List VType) (rest : List MapFrame) → frames_from b (place + 1) at locals entries ≡ Ok rest → All (λ y. y.at < 2 ^ 16) rest)
          → ◌≡◌ {A = Result (List MapFrame) ℕ} (elim f [ None ↦ Err place | Some g ↦ with_first g.0 (frames_from b (place + 1) (Some g.0.at) g.1 entries) ]) (Ok frames) → All (λ y. y.at < 2 ^ 16) frames
      by None is later e = absurd cc
      by (Some g) is later e = rest_low g.0 (frames_from b (place + 1) (Some g.0.at) g.1 entries) frames (frame_low last before x g is) (λ rest r. later (Some g.0.at) g.1 rest r) e

-- ---- the method

pub checked_is : (h : Known) (t : Tree) (m : Member) (code : Code) (c : Checker) → env_of c.method ≡ environment h t m code → option_map (λ types. map type_seen types.items) c.this ≡ this_types t m
    → map type_seen c.parameters.items ≡ parameters_in t m → c.max_locals ≡ code.max_locals → map_in t m code ≡ Ok c.map → c.handlers.now ≡ code.handlers → checked_of c ≡ checked h t m code
checked_is h t m code c env this parameters locals read handlers =
    λ i. record { env = env i; this = this i; parameters = parameters i; max_locals = locals i; map = sym read i; handlers = handlers i }

pub decided_in : {A : Type 0} (m n : Checked) (bad : Bool) (r : Result A Halt) → m ≡ n → bad ≡ false → IsDecided m r → IsDecidedIn bad n r
decided_in m n bad (Ok x) e good d = rw good (refl, subst (λ (k : Checked). (states : List State) × AreStates k states) e d)
decided_in m n bad (Err (Offends at)) e good d = rw good (subst (λ (k : Checked). IsOffending k at) e d)
decided_in m n bad (Err Memory) e good d = tt
