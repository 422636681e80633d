-- Calls, step by step: the arguments, the object below them, and the result.
use Rattle.std.proofs.Common.{◌≡◌, ℕ, ◌∙◌, Bool, true, false, List, [], ◌∷◌, ◌++◌, Option, Some, None, refl, ap, subst}
use Rattle.std.specs.Prelude.{if◌then◌else◌}
use Rattle.ti_ids.specs.Maybe.{◌>>=◌}
use Rattle.type_frames.specs.declared.vtype.VType.{VType}
use Rattle.type_frames.specs.Hierarchies.{Known}
use Rattle.type_frames.specs.Assignable.{is_assignable}
use Rattle.type_frames.specs.States.{State, top_if, taken, all_taken, all_put}
use Rattle.jv_names.specs.Names.{Name}
use Rattle.type_frames.specs.declared.vtype.VType.TheVariants.{Object}
use Rattle.type_frames.specs.Environments.{Environment, MethodVType}
use Rattle.type_frames.specs.RulesOfCalls.{is_any, arguments, results}
use Rattle.type_rules.specs.Named.{called_of_both}

some_is : {A : Type 0} {x y : A} → Some x ≡ Some y → x ≡ y
some_is e = cc

bind_some : {A : Type 0} (o : Option A) → (o >>= λ x. Some x) ≡ o
bind_some None = refl
bind_some (Some x) = refl

bind_bind : {A B C : Type 0} (o : Option A) (f : A → Option B) (g : B → Option C) → (o >>= λ x. f x >>= g) ≡ ((o >>= f) >>= g)
bind_bind None f g = refl
bind_bind (Some x) f g = refl

-- ---- one type more is taken

taken_last : (h : Known) (ts : List VType) (t : VType) (s : State) → all_taken h (ts ++ t ∷ []) s ≡ (all_taken h ts s >>= taken h t)
taken_last h [] t s = bind_some (taken h t s)
taken_last h (x ∷ ts) t s = (λ i. taken h x s >>= λ a. taken_last h ts t a i) ∙ bind_bind (taken h x s) (all_taken h ts) (taken h t)

-- arguments and the object below them are taken, and results are put
abbrev made : Known → ℕ → List VType → VType → List VType → State → Option State
made h room args object res s = all_taken h (args ++ object ∷ []) s >>= all_put room res

module _ (h : Known) (room : ℕ) (args : List VType) (object : VType) (res : List VType) (s : State) where
  with_arguments : (left : Option State) → all_taken h args s ≡ left → made h room args object res s ≡ ((left >>= taken h object) >>= all_put room res)
  with_arguments left e =
      ap (λ (o : Option State). o >>= all_put room res) (taken_last h args object s) ∙ ap (λ (o : Option State). (o >>= taken h object) >>= all_put room res) e

  with_object : (a : State) (left : Option State) → all_taken h args s ≡ Some a → taken h object a ≡ left → made h room args object res s ≡ (left >>= all_put room res)
  with_object a left e f = with_arguments (Some a) e ∙ ap (λ (o : Option State). o >>= all_put room res) f

  pub call_without_arguments : all_taken h args s ≡ None → (all_taken h (args ++ object ∷ []) s >>= all_put room res) ≡ None
  call_without_arguments e = with_arguments None e

  pub call_without_object : (a : State) → all_taken h args s ≡ Some a → taken h object a ≡ None → (all_taken h (args ++ object ∷ []) s >>= all_put room res) ≡ None
  call_without_object a e f = with_object a None e f

  pub call_done : (a b : State) → all_taken h args s ≡ Some a → taken h object a ≡ Some b → (all_taken h (args ++ object ∷ []) s >>= all_put room res) ≡ all_put room res b
  call_done a b e f = with_object a (Some b) e f

-- ---- an object of two classes

abbrev below : VType × State → Option State
below p = Some p.1

taken_by : (holds : Bool) (x : VType) (rest : State) → ((if holds then Some (x, rest) else None) >>= below) ≡ (if holds then Some rest else None)
taken_by true x rest = refl
taken_by false x rest = refl

module _ (h : Known) (t : VType) (locals : List VType) (uninit : Bool) where
  abbrev at_stack : List VType → State
  at_stack stack = record { locals = locals; stack = stack; this_uninit = uninit }

  any_at : (stack : List VType) (p : VType × State) → top_if is_any (at_stack stack) ≡ Some p → taken h t (at_stack stack) ≡ (if is_assignable h p.0 t then Some p.1 else None)
  any_at [] p e = absurd cc
  any_at (x ∷ xs) p e = subst (λ (q : VType × State). taken h t (at_stack (x ∷ xs)) ≡ (if is_assignable h q.0 t then Some q.1 else None)) (some_is e) (taken_by (is_assignable h x t) x (at_stack xs))

  none_at : (stack : List VType) → top_if is_any (at_stack stack) ≡ None → taken h t (at_stack stack) ≡ None
  none_at [] e = refl
  none_at (x ∷ xs) e = absurd cc

taken_of : (h : Known) (t : VType) (a : State) (o : VType) (rest : State) → top_if is_any a ≡ Some (o, rest) → taken h t a ≡ (if is_assignable h o t then Some rest else None)
taken_of h t a o rest e = any_at h t a.locals a.this_uninit a.stack (o, rest) e

not_taken : (h : Known) (t : VType) (a : State) → top_if is_any a ≡ None → taken h t a ≡ None
not_taken h t a e = none_at h t a.locals a.this_uninit a.stack e

kept_once : (q : Option State) → (q >>= λ left. q >>= λ right. Some left) ≡ q
kept_once None = refl
kept_once (Some x) = refl

abbrev nothing : Option State
nothing = None

never_second : (q : Option State) → (q >>= λ left. nothing >>= λ right. Some left) ≡ nothing
never_second None = refl
never_second (Some x) = refl

module _ (h : Known) (room : ℕ) (args : List VType) (one other : VType) (res : List VType) (s : State) where
  -- both calls are made of one state, and the first one's result stays
  abbrev twice : Option State
  twice = (all_taken h (args ++ one ∷ []) s >>= all_put room res) >>= λ left. (all_taken h (args ++ other ∷ []) s >>= all_put room res) >>= λ right. Some left

  without_arguments : all_taken h args s ≡ None → ((all_taken h (args ++ one ∷ []) s >>= all_put room res) >>= λ left. (all_taken h (args ++ other ∷ []) s >>= all_put room res) >>= λ right. Some left) ≡ None
  without_arguments e = λ i. call_without_arguments h room args one res s e i >>= λ left. (all_taken h (args ++ other ∷ []) s >>= all_put room res) >>= λ right. Some left

  without_object : (a : State) → all_taken h args s ≡ Some a → top_if is_any a ≡ None
      → ((all_taken h (args ++ one ∷ []) s >>= all_put room res) >>= λ left. (all_taken h (args ++ other ∷ []) s >>= all_put room res) >>= λ right. Some left) ≡ None
  without_object a e f = λ i. call_without_object h room args one res s a e (not_taken h one a f) i >>= λ left. (all_taken h (args ++ other ∷ []) s >>= all_put room res) >>= λ right. Some left

  module _ (a : State) (o : VType) (rest : State) (e : all_taken h args s ≡ Some a) (f : top_if is_any a ≡ Some (o, rest)) where
    of_type : (t : VType) (holds : Bool) → is_assignable h o t ≡ holds → made h room args t res s ≡ ((if holds then Some rest else None) >>= all_put room res)
    of_type t holds g = with_object h room args t res s a (if holds then Some rest else None) e (taken_of h t a o rest f ∙ ap (λ (b : Bool). if b then Some rest else None) g)

    done : is_assignable h o one ≡ true → is_assignable h o other ≡ true → twice ≡ all_put room res rest
    done g k = (λ i. of_type one true g i >>= λ left. of_type other true k i >>= λ right. Some left) ∙ kept_once (all_put room res rest)

    not_first : is_assignable h o one ≡ false → twice ≡ None
    not_first g = λ i. of_type one false g i >>= λ left. (all_taken h (args ++ other ∷ []) s >>= all_put room res) >>= λ right. Some left

    not_second : is_assignable h o other ≡ false → twice ≡ None
    not_second k = (λ i. made h room args one res s >>= λ left. of_type other false k i >>= λ right. Some left) ∙ never_second (made h room args one res s)

module _ (env : Environment) (class : Name) (m : MethodVType) (s : State) where
  pub both_without_arguments : all_taken env.hierarchy (arguments m) s ≡ None → called_of_both env class m s ≡ None
  unfolding called_of_both
  both_without_arguments e = without_arguments env.hierarchy env.max_stack (arguments m) (Object env.class) (Object class) (results m.result) s e

  pub both_without_object : (a : State) → all_taken env.hierarchy (arguments m) s ≡ Some a → top_if is_any a ≡ None → called_of_both env class m s ≡ None
  unfolding called_of_both
  both_without_object a e f = without_object env.hierarchy env.max_stack (arguments m) (Object env.class) (Object class) (results m.result) s a e f

  pub both_done : (a : State) (o : VType) (rest : State) → all_taken env.hierarchy (arguments m) s ≡ Some a → top_if is_any a ≡ Some (o, rest)
      → is_assignable env.hierarchy o (Object env.class) ≡ true → is_assignable env.hierarchy o (Object class) ≡ true → called_of_both env class m s ≡ all_put env.max_stack (results m.result) rest
  unfolding called_of_both
  both_done a o rest e f g k = done env.hierarchy env.max_stack (arguments m) (Object env.class) (Object class) (results m.result) s a o rest e f g k

  pub both_not_first : (a : State) (o : VType) (rest : State) → all_taken env.hierarchy (arguments m) s ≡ Some a → top_if is_any a ≡ Some (o, rest) → is_assignable env.hierarchy o (Object env.class) ≡ false
      → called_of_both env class m s ≡ None
  unfolding called_of_both
  both_not_first a o rest e f g = not_first env.hierarchy env.max_stack (arguments m) (Object env.class) (Object class) (results m.result) s a o rest e f g

  pub both_not_second : (a : State) (o : VType) (rest : State) → all_taken env.hierarchy (arguments m) s ≡ Some a → top_if is_any a ≡ Some (o, rest) → is_assignable env.hierarchy o (Object class) ≡ false
      → called_of_both env class m s ≡ None
  unfolding called_of_both
  both_not_second a o rest e f k = not_second env.hierarchy env.max_stack (arguments m) (Object env.class) (Object class) (results m.result) s a o rest e f k
