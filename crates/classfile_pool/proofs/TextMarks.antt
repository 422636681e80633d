-- What the marks of a text say of it: which of its units names may not have.
use Rattle.std.proofs.Common.{◌≡◌, ℕ, suc, Bool, true, false, not, ◌&&◌, ◌||◌, ◌==◌, [], ◌∷◌, length, refl, sym, ap, ◌∙◌, ⊎_elim, arith}
use Rattle.std.specs.List.{list_any, list_all}
use Rattle.std.proofs.lemmas.Bool.{cases_eq, cases_Bool, or_parts, not-false, eqb-false}
use Rattle.std.proofs.lemmas.Bool.Decides.{nat_tests}
use Rattle.jv_names.specs.Names.{Name, is_part_unit, is_member_unit, is_method_unit, is_class_name, is_member_name, is_method_name, is_special_name}
use Rattle.jv_names.proofs.ClassNames.{rest_named, named_start, named_end, named_slash, named_no_part, named_good, named_bad}

abbrev pub stops : ℕ → Bool
stops unit = not (is_part_unit unit)

abbrev pub is_slash : ℕ → Bool
is_slash unit = unit == 47

abbrev pub is_angle : ℕ → Bool
is_angle unit = not (is_method_unit unit)

pub any_of_three : (a b c : Bool) → (a || b || c) ≡ not (not a && not b && not c)
any_of_three true b c = refl
any_of_three false true c = refl
any_of_three false false true = refl
any_of_three false false false = refl

pub any_of_two : (a b : Bool) → (a || b) ≡ not (not a && not b)
any_of_two true b = refl
any_of_two false true = refl
any_of_two false false = refl

-- ---- names of classes

slashed : (begun : Bool) (u : ℕ) (text : Name) → u ≡ 47 → rest_named false text ≡ false → rest_named begun (u ∷ text) ≡ false
slashed true u text is rest = rw is (named_slash text ∙ rest)
slashed false u text is rest = rw is (named_no_part text)

behind : (u : ℕ) (text : Name) → is_part_unit u ≡ true → list_any stops (u ∷ text) ≡ true → list_any stops text ≡ true
behind u text part any = rw part at any

stopped : (begun : Bool) (text : Name) → list_any stops text ≡ true → rest_named begun text ≡ false
stopped begun [] any = cc
stopped begun (u ∷ text) any =
    ⊎_elim
    (λ is. slashed begun u text is (stopped false text (behind u text (rw is refl) any)))
    (λ ne. ⊎_elim (λ part. named_good u text begun ne part ∙ stopped true text (behind u text part any)) (λ bad. named_bad u text begun ne bad) (cases_Bool (is_part_unit u)))
    (cases_eq u 47)

pub stop_named : (text : Name) → list_any stops text ≡ true → false ≡ is_class_name text
stop_named text any = sym (named_start text ∙ stopped false text any)

or_true : (b : Bool) → true ≡ (b || true)
or_true true = refl
or_true false = refl

or_false : (b : Bool) → b ≡ (b || false)
or_false true = refl
or_false false = refl

not_empty : (n : ℕ) → true ≡ not (suc n == 0)
not_empty n = let e : (suc n == 0) ≡ false = grind (arith, nat_tests) in rw e refl

one_part : (begun : Bool) (text : Name) → list_any stops text ≡ false → list_any is_slash text ≡ false → rest_named begun text ≡ (begun || not (length text == 0))
one_part begun [] stop slash = named_end begun ∙ or_false begun
one_part begun (u ∷ text) stop slash =
    let stop' = or_parts (stops u) (list_any stops text) stop in
    let slash' = or_parts (is_slash u) (list_any is_slash text) slash in
    named_good u text begun (eqb-false u 47 slash'.0) (not-false (is_part_unit u) stop'.0) ∙ one_part true text stop'.1 slash'.1 ∙ or_true begun ∙ ap (λ (some : Bool). begun || some) (not_empty (length text))

pub one_part_named : (text : Name) → list_any stops text ≡ false → list_any is_slash text ≡ false → not (length text == 0) ≡ is_class_name text
one_part_named text stop slash = sym (named_start text ∙ one_part false text stop slash)

-- ---- names of members

four : (p s a b : Bool) → ((p && not s) && (not a && not b)) ≡ (not (not p || a) && not (s || b))
four false s a b = refl
four true true true b = refl
four true true false b = refl
four true false a b = refl

member_units : (text : Name) → list_all is_member_unit text ≡ (not (list_any stops text) && not (list_any is_slash text))
member_units [] = refl
member_units (u ∷ text) = ap (λ (rest : Bool). is_member_unit u && rest) (member_units text) ∙ four (is_part_unit u) (is_slash u) (list_any stops text) (list_any is_slash text)

three : (a b c : Bool) → (not a && not b && not c) ≡ (not c && (not a && not b))
three true b true = refl
three true b false = refl
three false true true = refl
three false true false = refl
three false false true = refl
three false false false = refl

member_named : (text : Name) → (not (list_any stops text) && not (list_any is_slash text) && not (length text == 0)) ≡ is_member_name text
member_named text = three (list_any stops text) (list_any is_slash text) (length text == 0) ∙ ap (λ (all : Bool). not (length text == 0) && all) (sym (member_units text))

pub stop_member : (text : Name) → list_any stops text ≡ true → false ≡ is_member_name text
stop_member text stop = ap (λ (s : Bool). not s && not (list_any is_slash text) && not (length text == 0)) (sym stop) ∙ member_named text

and_false : (b c : Bool) → false ≡ (b && false && c)
and_false true c = refl
and_false false c = refl

pub slash_member : (text : Name) → list_any is_slash text ≡ true → false ≡ is_member_name text
slash_member text slash =
    and_false (not (list_any stops text)) (not (length text == 0)) ∙ ap (λ (s : Bool). not (list_any stops text) && not s && not (length text == 0)) (sym slash) ∙ member_named text

pub one_part_member : (text : Name) → list_any stops text ≡ false → list_any is_slash text ≡ false → not (length text == 0) ≡ is_member_name text
one_part_member text stop slash =
    ap (λ (s : Bool). not s && not false && not (length text == 0)) (sym stop) ∙ ap (λ (s : Bool). not (list_any stops text) && not s && not (length text == 0)) (sym slash) ∙ member_named text

method_units : (text : Name) → list_any is_angle text ≡ false → list_all is_method_unit text ≡ true
method_units [] none = refl
method_units (u ∷ text) none =
    let parts = or_parts (is_angle u) (list_any is_angle text) none in
    rw (not-false (is_method_unit u) parts.0) (method_units text parts.1)

no_angle : (a b : Bool) → (not a && not b) ≡ true → a ≡ false
no_angle true b e = sym e
no_angle false b e = refl

not_special : (text : Name) → list_any is_angle text ≡ false → is_special_name text ≡ false
not_special [] none = refl
not_special (u ∷ text) none =
    let method = not-false (is_method_unit u) (or_parts (is_angle u) (list_any is_angle text) none).0 in
    rw (no_angle (u == 60) (u == 62) method) refl

and_true : (b : Bool) → b ≡ (b && true)
and_true true = refl
and_true false = refl

pub method_named : (text : Name) → list_any is_angle text ≡ false → is_member_name text ≡ is_method_name text
method_named text none = and_true (is_member_name text) ∙ sym (rw (not_special text none, method_units text none) refl)
