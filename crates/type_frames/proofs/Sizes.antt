-- No instruction changes how many words of local variables a state has. All but stores, `new` and the call of an `<init>` leave the
-- very local variables.
use Rattle.std.proofs.Common.{◌≡◌, ℕ, zero, suc, ◌∙◌, Bool, true, false, List, [], ◌∷◌, length, Option, Some, None, refl, subst}
use Rattle.std.specs.Prelude.{◌+◌, codes, ◌==◌, ◌&&◌, not, ◌++◌, if◌then◌else◌, map, replicate, nat_lt, nat_le, slice_get, slice_set}
use Rattle.std.specs.Option.{option_or}
use Rattle.std.specs.List.{list_any}
use Rattle.std.proofs.lemmas.List.{length-set, length-map}
use Rattle.ti_ids.specs.Maybe.{◌>>=◌}
use Rattle.jv_names.specs.Names.{Name}
use Rattle.class_code.specs.declared.instr.Kind.{Kind}
use Rattle.class_code.specs.declared.instr.Element.{Element}
use Rattle.class_code.specs.declared.instr.StackOp.{StackOp}
use Rattle.class_code.specs.declared.instr.StackOp.TheVariants as stack_op
use Rattle.class_code.specs.declared.instr.Simple.{Simple}
use Rattle.class_code.specs.declared.instr.Simple.TheVariants as simple
use Rattle.class_code.specs.declared.instr.PoolOp.{PoolOp}
use Rattle.class_code.specs.declared.instr.PoolOp.TheVariants as pool_op
use Rattle.class_code.specs.declared.instr.Branch.{Branch}
use Rattle.class_code.specs.declared.instr.Branch.TheVariants as branch
use Rattle.class_code.specs.declared.instr.Instr.{Instr}
use Rattle.class_code.specs.declared.instr.Instr.TheVariants as instr
use Rattle.class_code.specs.Codes.{slot_place}
use Rattle.class_tree.specs.Tree.{entry_at, class_at}
use Rattle.type_frames.specs.declared.vtype.VType.{VType}
use Rattle.type_frames.specs.declared.vtype.VType.TheVariants as vtype
use Rattle.type_frames.specs.Types.{is_array, dimensions, array_of}
use Rattle.type_frames.specs.Hierarchies.{Known}
use Rattle.type_frames.specs.Assignable.{object_name}
use Rattle.type_frames.specs.States.{State, top_if, taken, all_taken, put, all_put}
use Rattle.type_frames.specs.Environments.{Environment, Reference, MethodVType}
use Rattle.type_frames.specs.RulesOfNumbers.{moved, width_type, operands, from_type, to_type, branch_rule, reference_taken}
use Rattle.type_frames.specs.RulesOfLocals.{is_int, is_of_kind, without_long_before, is_long_at, stored, load_rule, store_rule, increment_rule}
use Rattle.type_frames.specs.RulesOfStack.{one, two, pop2_rule, dup_x1_rule, dup_x2_rule, dup2_rule, dup2_x1_rule, dup2_over_two, dup2_over_ones, stack_rule}
use Rattle.type_frames.specs.RulesOfArrays.{loaded, primitive_array, stored_type, array_load_rule, array_store_rule, array_length_rule, new_reference_array_rule, multi_array_rule}
use Rattle.type_frames.specs.RulesOfFields.{constant_type, long_constant_type, typed_field, is_uninit_at, topped, constant_rule, long_constant_rule, get_static_rule, put_static_rule, get_field_rule, put_own_field, put_field_rule, new_rule, cast_rule, instance_rule}
use Rattle.type_frames.specs.RulesOfCalls.{is_init_name, is_special, arguments, results, named_method, plain_method, argument_words, initialized, replaced, with_initialized, is_any, called, without_result, invoke_virtual_rule, invoke_static_rule, invoke_interface_rule, invoke_super_rule, invoke_init_rule, invoke_special_rule, return_rule, return_void_rule}
use Rattle.type_frames.specs.Rules.{simple_rule, pool_rule, rule}

-- ---- what holds of whatever a chain of steps gives

-- If there is a value, this holds of it.
pub record Each {A : Type 0} (P : A → Type 0) (o : Option A) : Type 0 where
  pub holds : (x : A) → o ≡ Some x → P x

refused : {A : Type 0} {P : A → Type 0} → Each P None
refused = record { holds = λ x e. absurd cc }

given : {A : Type 0} {P : A → Type 0} {x : A} → P x → Each P (Some x)
given {P = P} {x = x} p = record { holds = λ y e. let same : x ≡ y = cc in subst P same p }

-- the second step knows what the first one gives
chain : {A B : Type 0} {P : A → Type 0} {Q : B → Type 0} {o : Option A} {f : A → Option B} → Each P o → ((x : A) → P x → Each Q (f x)) → Each Q (o >>= f)
chain {o = None} first next = refused
chain {o = Some x} first next = next x (first.holds x refl)

-- it needs to know nothing
after : {A B : Type 0} {Q : B → Type 0} (o : Option A) {f : A → Option B} → ((x : A) → Each Q (f x)) → Each Q (o >>= f)
after None next = refused
after (Some x) next = next x

on_test : {A : Type 0} {P : A → Type 0} {x y : Option A} (test : Bool) → Each P x → Each P y → Each P (if test then x else y)
on_test true first second = first
on_test false first second = second

on_either : {A : Type 0} {P : A → Type 0} {x y : Option A} → Each P x → Each P y → Each P (option_or x y)
on_either {x = None} first second = second
on_either {x = Some x} first second = first

-- ---- What holds of the local variables before holds of them after most instructions.

module _ (P : List VType → Type 0) where
  abbrev OfLocals : State → Type 0
  OfLocals s = P s.locals

  -- a type and a state
  abbrev OfRest : VType × State → Type 0
  OfRest p = P p.1.locals

  -- ---- the operand stack

  top_of : (is : VType → Bool) (s : State) (stack : List VType) → P s.locals
      → Each OfRest (elim stack [ [] ↦ None | t ∷ rest ↦ if is t then Some (t, record s { stack = rest }) else None ])
  top_of is s [] p = refused
  top_of is s (t ∷ rest) p = on_test (is t) (given p) refused

  pub top_keeps : (is : VType → Bool) (s : State) → P s.locals → Each OfRest (top_if is s)
  top_keeps is s p = top_of is s s.stack p

  -- the state without the top
  pub rest_keeps : (is : VType → Bool) (s : State) → P s.locals → Each OfLocals (top_if is s >>= λ a. Some a.1)
  rest_keeps is s p = chain (top_keeps is s p) (λ a q. given q)

  pub taken_keeps : (h : Known) (t : VType) (s : State) → P s.locals → Each OfLocals (taken h t s)
  taken_keeps h t s p = chain (top_keeps _ s p) (λ a q. given q)

  pub all_taken_keeps : (h : Known) (ts : List VType) (s : State) → P s.locals → Each OfLocals (all_taken h ts s)
  all_taken_keeps h [] s p = given p
  all_taken_keeps h (t ∷ ts) s p = chain (taken_keeps h t s p) (λ a q. all_taken_keeps h ts a q)

  pub put_keeps : (room : ℕ) (t : VType) (s : State) → P s.locals → Each OfLocals (put room t s)
  put_keeps room t s p = on_test _ (given p) refused

  pub all_put_keeps : (room : ℕ) (ts : List VType) (s : State) → P s.locals → Each OfLocals (all_put room ts s)
  all_put_keeps room [] s p = given p
  all_put_keeps room (t ∷ ts) s p = chain (put_keeps room t s p) (λ a q. all_put_keeps room ts a q)

  pub moved_keeps : (env : Environment) (takes puts : List VType) (s : State) → P s.locals → Each OfLocals (moved env takes puts s)
  moved_keeps env takes puts s p = chain (all_taken_keeps env.hierarchy takes s p) (λ a q. all_put_keeps env.max_stack puts a q)

  -- ---- numbers and branches

  reference_keeps : (s : State) → P s.locals → Each OfLocals (reference_taken s)
  reference_keeps s p = rest_keeps _ s p

  pub branch_keeps : (env : Environment) (b : Branch) (s : State) → P s.locals → Each OfLocals (branch_rule env b s)
  branch_keeps env (branch.If c) s p = moved_keeps env (vtype.Integer ∷ []) [] s p
  branch_keeps env (branch.IfIntCompare c) s p = moved_keeps env (vtype.Integer ∷ vtype.Integer ∷ []) [] s p
  branch_keeps env branch.IfSameReference s p = chain (reference_keeps s p) reference_keeps
  branch_keeps env branch.IfOtherReference s p = chain (reference_keeps s p) reference_keeps
  branch_keeps env branch.Goto s p = given p
  branch_keeps env branch.IfNull s p = reference_keeps s p
  branch_keeps env branch.IfNonNull s p = reference_keeps s p

  -- ---- loads and increments

  pub load_keeps : (env : Environment) (k : Kind) (place : ℕ) (s : State) → P s.locals → Each OfLocals (load_rule env k place s)
  load_keeps env k place s p = after (slice_get s.locals place) (λ t. on_test (is_of_kind k t) (put_keeps env.max_stack t s p) refused)

  pub increment_keeps : (place : ℕ) (s : State) → P s.locals → Each OfLocals (increment_rule place s)
  increment_keeps place s p = after (slice_get s.locals place) (λ t. on_test (is_int t) (given {x = s} p) refused)

  -- ---- operands whatever they are

  one_keeps : (s : State) → P s.locals → Each OfRest (one s)
  one_keeps s p = top_keeps _ s p

  two_keeps : (s : State) → P s.locals → Each OfRest (two s)
  two_keeps s p = top_keeps _ s p

  pop2_keeps : (s : State) → P s.locals → Each OfLocals (pop2_rule s)
  pop2_keeps s p = on_either (rest_keeps _ s p) (chain (one_keeps s p) (λ a q. rest_keeps _ a.1 q))

  module _ (room : ℕ) where
    put_back : (ts : List VType) (s : State) → P s.locals → Each OfLocals (all_put room ts s)
    put_back ts s p = all_put_keeps room ts s p

    dup_x1_keeps : (s : State) → P s.locals → Each OfLocals (dup_x1_rule room s)
    dup_x1_keeps s p = chain (one_keeps s p) (λ a q. chain (one_keeps a.1 q) (λ b r. put_back (a.0 ∷ b.0 ∷ a.0 ∷ []) b.1 r))

    dup_x2_keeps : (s : State) → P s.locals → Each OfLocals (dup_x2_rule room s)
    dup_x2_keeps s p = chain (one_keeps s p) (λ a q. on_either
        (chain (two_keeps a.1 q) (λ b r. put_back (a.0 ∷ b.0 ∷ a.0 ∷ []) b.1 r))
        (chain (one_keeps a.1 q) (λ b r. chain (one_keeps b.1 r) (λ c u. put_back (a.0 ∷ c.0 ∷ b.0 ∷ a.0 ∷ []) c.1 u))))

    dup2_keeps : (s : State) → P s.locals → Each OfLocals (dup2_rule room s)
    dup2_keeps s p = on_either
        (chain (two_keeps s p) (λ a q. put_back (a.0 ∷ a.0 ∷ []) a.1 q))
        (chain (one_keeps s p) (λ a q. chain (one_keeps a.1 q) (λ b r. put_back (b.0 ∷ a.0 ∷ b.0 ∷ a.0 ∷ []) b.1 r)))

    dup2_x1_keeps : (s : State) → P s.locals → Each OfLocals (dup2_x1_rule room s)
    dup2_x1_keeps s p = on_either
        (chain (two_keeps s p) (λ a q. chain (one_keeps a.1 q) (λ b r. put_back (a.0 ∷ b.0 ∷ a.0 ∷ []) b.1 r)))
        (chain (one_keeps s p) (λ a q. chain (one_keeps a.1 q) (λ b r. chain (one_keeps b.1 r) (λ c u. put_back (b.0 ∷ a.0 ∷ c.0 ∷ b.0 ∷ a.0 ∷ []) c.1 u))))

    over_two_keeps : (s : State) → P s.locals → Each OfLocals (dup2_over_two room s)
    over_two_keeps s p = on_either
        (chain (two_keeps s p) (λ a q. chain (two_keeps a.1 q) (λ b r. put_back (a.0 ∷ b.0 ∷ a.0 ∷ []) b.1 r)))
        (chain (one_keeps s p) (λ a q. chain (one_keeps a.1 q) (λ b r. chain (two_keeps b.1 r) (λ c u. put_back (b.0 ∷ a.0 ∷ c.0 ∷ b.0 ∷ a.0 ∷ []) c.1 u))))

    over_ones_keeps : (s : State) → P s.locals → Each OfLocals (dup2_over_ones room s)
    over_ones_keeps s p = on_either
        (chain (two_keeps s p) (λ a q. chain (one_keeps a.1 q) (λ b r. chain (one_keeps b.1 r) (λ c u. put_back (a.0 ∷ c.0 ∷ b.0 ∷ a.0 ∷ []) c.1 u))))
        (chain (one_keeps s p) (λ a q. chain (one_keeps a.1 q) (λ b r. chain (one_keeps b.1 r) (λ c u. chain (one_keeps c.1 u) (λ d v. put_back (b.0 ∷ a.0 ∷ d.0 ∷ c.0 ∷ b.0 ∷ a.0 ∷ []) d.1 v)))))

    pub stack_keeps : (op : StackOp) (s : State) → P s.locals → Each OfLocals (stack_rule room op s)
    unfolding stack_rule
    stack_keeps stack_op.Pop s p = rest_keeps _ s p
    stack_keeps stack_op.Pop2 s p = pop2_keeps s p
    stack_keeps stack_op.Dup s p = chain (one_keeps s p) (λ a q. put_back (a.0 ∷ a.0 ∷ []) a.1 q)
    stack_keeps stack_op.DupX1 s p = dup_x1_keeps s p
    stack_keeps stack_op.DupX2 s p = dup_x2_keeps s p
    stack_keeps stack_op.Dup2 s p = dup2_keeps s p
    stack_keeps stack_op.Dup2X1 s p = dup2_x1_keeps s p
    stack_keeps stack_op.Dup2X2 s p = on_either (over_two_keeps s p) (over_ones_keeps s p)
    stack_keeps stack_op.Swap s p = chain (one_keeps s p) (λ a q. chain (one_keeps a.1 q) (λ b r. put_back (a.0 ∷ b.0 ∷ []) b.1 r))

  -- ---- arrays

  pub array_load_keeps : (env : Environment) (e : Element) (s : State) → P s.locals → Each OfLocals (array_load_rule env e s)
  array_load_keeps env e s p =
      chain (taken_keeps env.hierarchy vtype.Integer s p) (λ a q. chain (top_keeps _ a q) (λ array r. after (loaded e array.0) (λ t. put_keeps env.max_stack t array.1 r)))

  pub array_store_keeps : (env : Environment) (e : Element) (s : State) → P s.locals → Each OfLocals (array_store_rule env e s)
  array_store_keeps env e s p = chain (all_taken_keeps env.hierarchy (stored_type e ∷ vtype.Integer ∷ []) s p) (λ a q. rest_keeps _ a q)

  pub array_length_keeps : (env : Environment) (s : State) → P s.locals → Each OfLocals (array_length_rule env s)
  array_length_keeps env s p = chain (top_keeps _ s p) (λ array q. put_keeps env.max_stack vtype.Integer array.1 q)

  pub new_reference_array_keeps : (env : Environment) (index : ℕ) (s : State) → P s.locals → Each OfLocals (new_reference_array_rule env index s)
  new_reference_array_keeps env index s p = after (class_at env.pool index) (λ c. moved_keeps env (vtype.Integer ∷ []) (vtype.Object (array_of c) ∷ []) s p)

  pub multi_array_keeps : (env : Environment) (index lengths : ℕ) (s : State) → P s.locals → Each OfLocals (multi_array_rule env index lengths s)
  multi_array_keeps env index lengths s p =
      after (class_at env.pool index) (λ c. on_test (nat_lt 0 lengths && nat_le lengths (dimensions c)) (moved_keeps env (replicate lengths vtype.Integer) (vtype.Object c ∷ []) s p) refused)

  -- ---- constants, fields and casts

  pub constant_keeps : (env : Environment) (index : ℕ) (s : State) → P s.locals → Each OfLocals (constant_rule env index s)
  constant_keeps env index s p = after (entry_at env.pool index >>= constant_type) (λ t. put_keeps env.max_stack t s p)

  pub long_constant_keeps : (env : Environment) (index : ℕ) (s : State) → P s.locals → Each OfLocals (long_constant_rule env index s)
  long_constant_keeps env index s p = after (entry_at env.pool index >>= long_constant_type) (λ t. put_keeps env.max_stack t s p)

  pub get_static_keeps : (env : Environment) (index : ℕ) (s : State) → P s.locals → Each OfLocals (get_static_rule env index s)
  get_static_keeps env index s p = after (typed_field env index) (λ f. put_keeps env.max_stack f.1 s p)

  pub put_static_keeps : (env : Environment) (index : ℕ) (s : State) → P s.locals → Each OfLocals (put_static_rule env index s)
  put_static_keeps env index s p = after (typed_field env index) (λ f. taken_keeps env.hierarchy f.1 s p)

  pub get_field_keeps : (env : Environment) (index : ℕ) (s : State) → P s.locals → Each OfLocals (get_field_rule env index s)
  get_field_keeps env index s p = after (typed_field env index) (λ f. moved_keeps env (vtype.Object f.0.class ∷ []) (f.1 ∷ []) s p)

  put_own_keeps : (env : Environment) (f : Reference) (s : State) → P s.locals → Each OfLocals (put_own_field env f s)
  put_own_keeps env f s p = on_test _ (rest_keeps _ s p) refused

  pub put_field_keeps : (env : Environment) (index : ℕ) (s : State) → P s.locals → Each OfLocals (put_field_rule env index s)
  put_field_keeps env index s p =
      after (typed_field env index) (λ f. chain (taken_keeps env.hierarchy f.1 s p) (λ a q. on_either (taken_keeps env.hierarchy (vtype.Object f.0.class) a q) (put_own_keeps env f.0 a q)))

  pub cast_keeps : (env : Environment) (index : ℕ) (s : State) → P s.locals → Each OfLocals (cast_rule env index s)
  cast_keeps env index s p = after (class_at env.pool index) (λ c. moved_keeps env (vtype.Object object_name ∷ []) (vtype.Object c ∷ []) s p)

  pub instance_keeps : (env : Environment) (index : ℕ) (s : State) → P s.locals → Each OfLocals (instance_rule env index s)
  instance_keeps env index s p = after (class_at env.pool index) (λ c. moved_keeps env (vtype.Object object_name ∷ []) (vtype.Integer ∷ []) s p)

  -- ---- calls, but those of an `<init>`, and returns

  called_keeps : (env : Environment) (class : Name) (m : MethodVType) (s : State) → P s.locals → Each OfLocals (called env class m s)
  called_keeps env class m s p = moved_keeps env (arguments m ++ vtype.Object class ∷ []) (results m.result) s p

  pub invoke_static_keeps : (env : Environment) (index : ℕ) (s : State) → P s.locals → Each OfLocals (invoke_static_rule env index s)
  invoke_static_keeps env index s p = after (plain_method env index) (λ x. moved_keeps env (arguments x.1) (results x.1.result) s p)

  pub invoke_virtual_keeps : (env : Environment) (index : ℕ) (s : State) → P s.locals → Each OfLocals (invoke_virtual_rule env index s)
  invoke_virtual_keeps env index s p = after (plain_method env index) (λ x. called_keeps env x.0.class x.1 s p)

  pub invoke_interface_keeps : (env : Environment) (index count : ℕ) (s : State) → P s.locals → Each OfLocals (invoke_interface_rule env index count s)
  invoke_interface_keeps env index count s p = after (plain_method env index) (λ x. on_test (count == argument_words x.1) (called_keeps env x.0.class x.1 s p) refused)

  pub invoke_super_keeps : (env : Environment) (x : Reference × MethodVType) (s : State) → P s.locals → Each OfLocals (invoke_super_rule env x s)
  invoke_super_keeps env x s p = on_test _ (chain (called_keeps env env.class x.1 s p) (λ left q. after (called env x.0.class x.1 s) (λ other. given {x = left} q))) refused

  pub return_keeps : (env : Environment) (k : Kind) (s : State) → P s.locals → Each OfLocals (return_rule env k s)
  return_keeps env k s p = after env.result (λ t. on_test (is_of_kind k t) (taken_keeps env.hierarchy t s p) refused)

  pub return_void_keeps : (env : Environment) (s : State) → P s.locals → Each OfLocals (return_void_rule env s)
  return_void_keeps env s p = on_test _ (given p) refused

-- ---- What takes from the operand stack and puts on it leaves the very local variables.

module _ (s left : State) where
  abbrev AreSame : List VType → Type 0
  AreSame locals = locals ≡ s.locals

  pub top_same : (is : VType → Bool) (t : VType) → top_if is s ≡ Some (t, left) → left.locals ≡ s.locals
  top_same is t e = let kept = top_keeps AreSame is s refl in kept.holds (t, left) e

  pub taken_same : (h : Known) (t : VType) → taken h t s ≡ Some left → left.locals ≡ s.locals
  taken_same h t e = let kept = taken_keeps AreSame h t s refl in kept.holds left e

  pub all_taken_same : (h : Known) (ts : List VType) → all_taken h ts s ≡ Some left → left.locals ≡ s.locals
  all_taken_same h ts e = let kept = all_taken_keeps AreSame h ts s refl in kept.holds left e

  pub put_same : (room : ℕ) (t : VType) → put room t s ≡ Some left → left.locals ≡ s.locals
  put_same room t e = let kept = put_keeps AreSame room t s refl in kept.holds left e

  pub all_put_same : (room : ℕ) (ts : List VType) → all_put room ts s ≡ Some left → left.locals ≡ s.locals
  all_put_same room ts e = let kept = all_put_keeps AreSame room ts s refl in kept.holds left e

  pub moved_same : (env : Environment) (takes puts : List VType) → moved env takes puts s ≡ Some left → left.locals ≡ s.locals
  moved_same env takes puts e = let kept = moved_keeps AreSame env takes puts s refl in kept.holds left e

-- ---- The others keep how many words the local variables have.

-- it has so many words of local variables
abbrev pub HasWords : ℕ → List VType → Type 0
HasWords n locals = length locals ≡ n

-- ---- stores

without_long_keeps : (place n : ℕ) (locals : List VType) → HasWords n locals → HasWords n (without_long_before place locals)
without_long_keeps zero n locals p = p
without_long_keeps (suc place) n locals p = on_long (is_long_at locals place)
  where
    on_long : (test : Bool) → HasWords n (if test then slice_set locals place vtype.Top else locals)
    on_long true = length-set locals place vtype.Top ∙ p
    on_long false = p

module _ (n : ℕ) where
  stored_word : (place : ℕ) (t : VType) (locals : List VType) → HasWords n locals
      → Each (HasWords n) (if nat_lt place (length locals) then Some (slice_set (without_long_before place locals) place t) else None)
  stored_word place t locals p =
      on_test (nat_lt place (length locals)) (given (length-set (without_long_before place locals) place t ∙ without_long_keeps place n locals p)) refused

  stored_long : (place : ℕ) (locals : List VType) → HasWords n locals
      → Each (HasWords n) (if nat_lt (place + 1) (length locals) then Some (slice_set (slice_set (without_long_before place locals) place vtype.Long) (place + 1) vtype.Top) else None)
  stored_long place locals p =
      on_test (nat_lt (place + 1) (length locals))
      (given (length-set (slice_set (without_long_before place locals) place vtype.Long) (place + 1) vtype.Top ∙ length-set (without_long_before place locals) place vtype.Long ∙ without_long_keeps place n locals p))
      refused

  pub stored_keeps : (place : ℕ) (t : VType) (locals : List VType) → HasWords n locals → Each (HasWords n) (stored place t locals)
  stored_keeps place vtype.Long locals p = stored_long place locals p
  stored_keeps place t locals p = stored_word place t locals p

  -- a state with so many words of local variables
  abbrev pub HasLocals : State → Type 0
  HasLocals s = HasWords n s.locals

  pub store_keeps : (k : Kind) (place : ℕ) (s : State) → HasLocals s → Each HasLocals (store_rule k place s)
  store_keeps k place s p =
      chain (top_keeps (HasWords n) (is_of_kind k) s p) (λ a q. chain (stored_keeps place a.0 s.locals p) (λ locals r. given {x = record a.1 { locals = locals }} r))

  -- ---- `new`, and the call of an `<init>`

  pub new_keeps : (env : Environment) (at index : ℕ) (s : State) → HasLocals s → Each HasLocals (new_rule env at index s)
  new_keeps env at index s p =
      after (class_at env.pool index) (λ c. on_test (not (is_array c) && not (list_any (is_uninit_at at) s.stack))
      (put_keeps (HasWords n) env.max_stack (vtype.Uninit at) (record s { locals = map (topped at) s.locals }) (length-map s.locals (topped at) ∙ p))
      refused)

  pub with_initialized_keeps : (uninit made : VType) (s : State) → HasLocals s → HasLocals (with_initialized uninit made s)
  with_initialized_keeps uninit made s p = length-map s.locals (replaced uninit made) ∙ p

  without_result_keeps : (result : Option VType) (s : State) → HasLocals s → Each HasLocals (without_result result s)
  without_result_keeps None s p = given p
  without_result_keeps (Some t) s p = refused

  pub invoke_init_keeps : (env : Environment) (x : Reference × MethodVType) (s : State) → HasLocals s → Each HasLocals (invoke_init_rule env x s)
  invoke_init_keeps env x s p =
      chain (without_result_keeps x.1.result s p) (λ u q. chain (all_taken_keeps (HasWords n) env.hierarchy (arguments x.1) u q) (λ a r.
      chain (top_keeps (HasWords n) is_any a r) (λ b v. after (initialized env x.0.class b.0) (λ made. given (with_initialized_keeps b.0 made b.1 v)))))

  pub invoke_special_keeps : (env : Environment) (index : ℕ) (s : State) → HasLocals s → Each HasLocals (invoke_special_rule env index s)
  invoke_special_keeps env index s p =
      after (named_method env index) (λ x. on_test (is_init_name x.0.name) (invoke_init_keeps env x s p)
      (on_test (is_special x.0.name) refused (invoke_super_keeps (HasWords n) env x s p)))

  -- ---- each instruction

  pub simple_keeps : (env : Environment) (op : Simple) (s : State) → HasLocals s → Each HasLocals (simple_rule env op s)
  unfolding simple_rule
  simple_keeps env simple.Nop s p = given p
  simple_keeps env simple.ConstNull s p = put_keeps (HasWords n) env.max_stack vtype.Null s p
  simple_keeps env (simple.ConstInt c) s p = put_keeps (HasWords n) env.max_stack vtype.Integer s p
  simple_keeps env (simple.ConstLong c) s p = put_keeps (HasWords n) env.max_stack vtype.Long s p
  simple_keeps env (simple.Load k slot) s p = load_keeps (HasWords n) env k (slot_place slot) s p
  simple_keeps env (simple.Store k slot) s p = store_keeps k (slot_place slot) s p
  simple_keeps env (simple.ArrayLoad e) s p = array_load_keeps (HasWords n) env e s p
  simple_keeps env (simple.ArrayStore e) s p = array_store_keeps (HasWords n) env e s p
  simple_keeps env (simple.Stack op) s p = stack_keeps (HasWords n) env.max_stack op s p
  simple_keeps env (simple.Arithmetic op w) s p = moved_keeps (HasWords n) env (operands op (width_type w)) (width_type w ∷ []) s p
  simple_keeps env (simple.Convert c) s p = moved_keeps (HasWords n) env (from_type c ∷ []) (to_type c ∷ []) s p
  simple_keeps env simple.CompareLongs s p = moved_keeps (HasWords n) env (vtype.Long ∷ vtype.Long ∷ []) (vtype.Integer ∷ []) s p
  simple_keeps env (simple.Return k) s p = return_keeps (HasWords n) env k s p
  simple_keeps env simple.ReturnVoid s p = return_void_keeps (HasWords n) env s p
  simple_keeps env simple.ArrayLength s p = array_length_keeps (HasWords n) env s p
  simple_keeps env simple.Throw s p = taken_keeps (HasWords n) env.hierarchy (vtype.Object (codes "java/lang/Throwable")) s p
  simple_keeps env simple.MonitorEnter s p = reference_keeps (HasWords n) s p
  simple_keeps env simple.MonitorExit s p = reference_keeps (HasWords n) s p

  pub pool_keeps : (env : Environment) (at : ℕ) (op : PoolOp) (index : ℕ) (s : State) → HasLocals s → Each HasLocals (pool_rule env at op index s)
  unfolding pool_rule
  pool_keeps env at pool_op.LoadConstWide index s p = constant_keeps (HasWords n) env index s p
  pool_keeps env at pool_op.LoadLongConst index s p = long_constant_keeps (HasWords n) env index s p
  pool_keeps env at pool_op.GetStatic index s p = get_static_keeps (HasWords n) env index s p
  pool_keeps env at pool_op.PutStatic index s p = put_static_keeps (HasWords n) env index s p
  pool_keeps env at pool_op.GetField index s p = get_field_keeps (HasWords n) env index s p
  pool_keeps env at pool_op.PutField index s p = put_field_keeps (HasWords n) env index s p
  pool_keeps env at pool_op.InvokeVirtual index s p = invoke_virtual_keeps (HasWords n) env index s p
  pool_keeps env at pool_op.InvokeSpecial index s p = invoke_special_keeps env index s p
  pool_keeps env at pool_op.InvokeStatic index s p = invoke_static_keeps (HasWords n) env index s p
  pool_keeps env at pool_op.New index s p = new_keeps env at index s p
  pool_keeps env at pool_op.NewReferenceArray index s p = new_reference_array_keeps (HasWords n) env index s p
  pool_keeps env at pool_op.CheckCast index s p = cast_keeps (HasWords n) env index s p
  pool_keeps env at pool_op.InstanceOf index s p = instance_keeps (HasWords n) env index s p

  pub rule_keeps : (env : Environment) (at : ℕ) (i : Instr) (s : State) → HasLocals s → Each HasLocals (rule env at i s)
  unfolding rule
  rule_keeps env at (instr.Simple op) s p = simple_keeps env op s p
  rule_keeps env at (instr.PushByte c) s p = put_keeps (HasWords n) env.max_stack vtype.Integer s p
  rule_keeps env at (instr.PushShort c) s p = put_keeps (HasWords n) env.max_stack vtype.Integer s p
  rule_keeps env at (instr.LoadConst index) s p = constant_keeps (HasWords n) env index s p
  rule_keeps env at (instr.Load k place) s p = load_keeps (HasWords n) env k place s p
  rule_keeps env at (instr.LoadWide k place) s p = load_keeps (HasWords n) env k place s p
  rule_keeps env at (instr.Store k place) s p = store_keeps k place s p
  rule_keeps env at (instr.StoreWide k place) s p = store_keeps k place s p
  rule_keeps env at (instr.Increment place by) s p = increment_keeps (HasWords n) place s p
  rule_keeps env at (instr.IncrementWide place by) s p = increment_keeps (HasWords n) place s p
  rule_keeps env at (instr.Branch b by) s p = branch_keeps (HasWords n) env b s p
  rule_keeps env at (instr.GotoWide by) s p = given p
  rule_keeps env at (instr.TableSwitch t) s p = moved_keeps (HasWords n) env (vtype.Integer ∷ []) [] s p
  rule_keeps env at (instr.LookupSwitch l) s p = moved_keeps (HasWords n) env (vtype.Integer ∷ []) [] s p
  rule_keeps env at (instr.Pool op index) s p = pool_keeps env at op index s p
  rule_keeps env at (instr.InvokeInterface index count) s p = invoke_interface_keeps (HasWords n) env index count s p
  rule_keeps env at (instr.NewArray a) s p = moved_keeps (HasWords n) env (vtype.Integer ∷ []) (vtype.Object (primitive_array a) ∷ []) s p
  rule_keeps env at (instr.MultiNewArray index lengths) s p = multi_array_keeps (HasWords n) env index lengths s p
  rule_keeps env at (instr.PushInt c) s p = put_keeps (HasWords n) env.max_stack vtype.Integer s p
  rule_keeps env at (instr.PushLong c) s p = put_keeps (HasWords n) env.max_stack vtype.Long s p

-- No instruction changes how many words of local variables a state has.
pub rule_keeps_locals : (env : Environment) (at : ℕ) (i : Instr) (s left : State) → rule env at i s ≡ Some left → length left.locals ≡ length s.locals
rule_keeps_locals env at i s left e = let kept = rule_keeps (length s.locals) env at i s refl in kept.holds left e
