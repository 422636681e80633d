-- A method is equivalent to itself.
use Rattle.std.proofs.Common.{◌≡◌, ℕ, List, [], ◌∷◌, Option, Some, None, Bool, true, refl}
use Rattle.std.specs.Prelude.{bytes_eq}
use Rattle.std.specs.Option.{option_eq}
use Rattle.std.specs.Cmp.Lexicographic.{pointwise}
use Rattle.std.proofs.lemmas.Bool.{and_from, eq-eqb}
use Rattle.std.proofs.lemmas.Slice.Eq.{bytes_eq-Decides}
use Rattle.class_code.specs.declared.instr.Instr.{Instr}
use Rattle.class_code.specs.Spelling.{spelling}
use Rattle.class_tree.specs.declared.pool.Const.{Const}
use Rattle.class_tree.specs.declared.body.Code.{Code}
use Rattle.class_tree.specs.declared.body.Handler.{Handler}
use Rattle.class_tree.specs.Tree.{class_at, code_of}
use Rattle.redefine_check.specs.Equivalence.{parts_at, same_constant, index_of, without_index, same_instruction, instructions}
use Rattle.redefine_check.specs.Equivalence.{same_instructions, same_handler, same_code}
use Rattle.redefine_check.specs.Laws.{IsItself}

each_itself : {A : Type 0} (same : A → A → Bool) → ((x : A) → same x x ≡ true) → (xs : List A) → pointwise same xs xs ≡ true
each_itself same own [] = refl
each_itself same own (x ∷ xs) = and_from (same x x) (pointwise same xs xs) (own x) (each_itself same own xs)

if_there : {A : Type 0} (same : A → A → Bool) → ((x : A) → same x x ≡ true) → (o : Option A) → option_eq same o o ≡ true
if_there same own None = refl
if_there same own (Some x) = own x

bytes_itself : (bytes : List ℕ) → bytes_eq bytes bytes ≡ true
bytes_itself bytes = (bytes_eq-Decides bytes bytes).1 refl

constant_itself : (pool : List Const) (index : ℕ) → same_constant pool pool index index ≡ true
constant_itself pool index = each_itself bytes_eq bytes_itself (parts_at pool index)

instruction_itself : (pool : List Const) (i : Instr) → same_instruction pool pool i i ≡ true
instruction_itself pool i =
    let shape = spelling (without_index i) in
    and_from (bytes_eq shape shape) (option_eq (same_constant pool pool) (index_of i) (index_of i)) (bytes_itself shape)
    (if_there (same_constant pool pool) (constant_itself pool) (index_of i))

handler_itself : (pool : List Const) (h : Handler) → same_handler pool pool h h ≡ true
handler_itself pool h =
    and_from _ _ (and_from _ _ (and_from _ _ (eq-eqb h.start h.start refl) (eq-eqb h.end h.end refl)) (eq-eqb h.target h.target refl))
    (if_there bytes_eq bytes_itself (class_at pool h.catch_type))

code_itself : (pool : List Const) (code : Code) → same_code pool pool code code ≡ true
code_itself pool code =
    and_from (same_instructions pool pool code code) (pointwise (same_handler pool pool) code.handlers code.handlers)
    (each_itself (λ (p q : ℕ × Instr). same_instruction pool pool p.1 q.1) (λ p. instruction_itself pool p.1) (instructions code))
    (each_itself (same_handler pool pool) (handler_itself pool) code.handlers)

pub is_itself : IsItself
is_itself pool m = if_there (same_code pool pool) (code_itself pool) (code_of m.attrs)
