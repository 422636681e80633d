-- What has been read of a pool has as many bytes as it is spelled in, so that offsets within the pool lie within the file.
use Rattle.std.proofs.Common.{◌≡◌, ℕ, zero, suc, ◌+◌, ◌-◌, ℤ, Bool, true, false, List, [], ◌∷◌, length, Option, Some, None, Ok, Err, refl, sym, ap, subst, ◌∙◌, length-append, zero-add, arith}
use Rattle.std.specs.Prelude.{◌==◌, nat_lt, if◌then◌else◌, flat_map}
use Rattle.jv_names.specs.Names.{Name}
use Rattle.jv_names.specs.Utf8.{unit_bytes, utf8}
use Rattle.jv_names.specs.TextReading.{unit_size, unit_at}
use Rattle.jv_names.proofs.TextReading.{unit_at-front}
use Rattle.class_tree.specs.declared.pool.Const.{Const}
use Rattle.class_tree.specs.declared.pool.Const.TheVariants as const
use Rattle.class_tree.specs.Spelling as bytes_of
use Rattle.class_tree.specs.Spelling.{const_bytes}
use Rattle.classfile_items.specs.declared.fault.ReadClassFault.TheVariants.{Truncated, BadText}
use Rattle.classfile_items.specs.Reading.{Checked, Found, ◌>>=◌, offset, u1, u2, u4, s4, u8, s8}
use Rattle.classfile_pool.specs.PoolReading.{next_unit, units_from, text, one_index, two_indices, long, integer, tagged, is_long, place, places}
use Rattle.classfile_pool.proofs.Texts.{by_size, behind}

-- ---- steps

-- what is found in two steps
found_by : {A B : Type 0} (P : Type 0) (found : Checked A) (next : A → Checked B) (y : B) → found >>= next ≡ Ok y → ((x : A) → found ≡ Ok x → next x ≡ Ok y → P) → P
found_by P (Ok x) next y e go = go x refl e
found_by P (Err fault) next y e go = cc

-- what is found on the side of a test
found_on : {A : Type 0} (P : Type 0) (test : Bool) (x z : Checked A) (y : A) → (if test then x else z) ≡ Ok y → (x ≡ Ok y → P) → (z ≡ Ok y → P) → P
found_on P true x z y e on_true on_false = on_true e
found_on P false x z y e on_true on_false = on_false e

ok_is : {A : Type 0} (x y : A) → (let found : Checked A = Ok x in found ≡ Ok y) → x ≡ y
ok_is x y e = cc

-- what is left behind it
left_is : {A : Type 0} (x y : A × List ℕ) → (let found : Found A = Ok x in found ≡ Ok y) → length x.1 ≡ length y.1
left_is x y e = ap (λ (z : _ × List ℕ). length z.1) (ok_is x y e)

-- ---- numbers

u1_size : (end : ℕ) (bytes : List ℕ) (x : ℕ × List ℕ) → u1 end bytes ≡ Ok x → length bytes ≡ 1 + length x.1
unfolding u1
u1_size end [] x e = cc
u1_size end (a ∷ bytes) x e = let is : (a, bytes) ≡ x = cc in omega (arith, ap (λ (y : ℕ × List ℕ). length y.1) is)

u2_size : (end : ℕ) (bytes : List ℕ) (x : ℕ × List ℕ) → u2 end bytes ≡ Ok x → length bytes ≡ 2 + length x.1
unfolding u2
u2_size end [] x e = cc
u2_size end (a ∷ []) x e = cc
u2_size end (a ∷ b ∷ bytes) x e = omega (arith, left_is _ x e)

s4_size : (end : ℕ) (bytes : List ℕ) (x : ℤ × List ℕ) → s4 end bytes ≡ Ok x → length bytes ≡ 4 + length x.1
unfolding s4 u4
s4_size end [] x e = cc
s4_size end (a ∷ []) x e = cc
s4_size end (a ∷ b ∷ []) x e = cc
s4_size end (a ∷ b ∷ c ∷ []) x e = cc
s4_size end (a ∷ b ∷ c ∷ d ∷ bytes) x e = omega (arith, left_is _ x e)

s8_size : (end : ℕ) (bytes : List ℕ) (x : ℤ × List ℕ) → s8 end bytes ≡ Ok x → length bytes ≡ 8 + length x.1
unfolding s8 u8
s8_size end [] x e = cc
s8_size end (a ∷ []) x e = cc
s8_size end (a ∷ b ∷ []) x e = cc
s8_size end (a ∷ b ∷ c ∷ []) x e = cc
s8_size end (a ∷ b ∷ c ∷ d ∷ []) x e = cc
s8_size end (a ∷ b ∷ c ∷ d ∷ f ∷ []) x e = cc
s8_size end (a ∷ b ∷ c ∷ d ∷ f ∷ g ∷ []) x e = cc
s8_size end (a ∷ b ∷ c ∷ d ∷ f ∷ g ∷ h ∷ []) x e = cc
s8_size end (a ∷ b ∷ c ∷ d ∷ f ∷ g ∷ h ∷ i ∷ bytes) x e = omega (arith, left_is _ x e)

-- ---- texts

-- what is found of what is spelled
abbrev pub answer : ℕ → List ℕ → Option (ℕ × List ℕ) → Found ℕ
answer end bytes None = Err (BadText (offset end bytes))
answer end bytes (Some unit) = Ok unit

answered : (end : ℕ) (bytes : List ℕ) (unit : Option (ℕ × List ℕ)) (x : ℕ × List ℕ) → answer end bytes unit ≡ Ok x → unit ≡ Some x
answered end bytes None x e = cc
answered end bytes (Some unit) x e = cc

unit_of : (end left : ℕ) (bytes : List ℕ) (size : Option ℕ) (x : ℕ × List ℕ) → by_size end left bytes size ≡ Ok x → unit_at bytes ≡ Some x
unit_of end left bytes None x e = cc
unit_of end left bytes (Some size) x e =
    let P : Type 0 = unit_at bytes ≡ Some x in
    let others : Found ℕ = if nat_lt (length bytes) size then Err (Truncated end) else answer end bytes (unit_at bytes) in
    found_on P (nat_lt left size) (Err (BadText (offset end bytes))) others x e (λ no. cc) (λ more.
    found_on P (nat_lt (length bytes) size) (Err (Truncated end)) (answer end bytes (unit_at bytes)) x more (λ no. cc) (answered end bytes (unit_at bytes) x))

unit_length : (end left : ℕ) (bytes : List ℕ) (x : ℕ × List ℕ) → next_unit end left bytes ≡ Ok x → length bytes ≡ length (unit_bytes x.0) + length x.1
unit_length end left [] x e = cc
unit_length end left (first ∷ rest) x e =
    let front = unit_at-front (first ∷ rest) x (unit_of end left (first ∷ rest) (unit_size first) x e) in
    ap length front.1 ∙ length-append (unit_bytes x.0) x.1

units_length : (end most left : ℕ) (bytes : List ℕ) (x : Name × List ℕ) → units_from end most left bytes ≡ Ok x → length bytes ≡ length (utf8 x.0) + length x.1
units_length end zero left bytes x e = sym (zero-add (length bytes)) ∙ ap (λ (y : Name × List ℕ). length (utf8 y.0) + length y.1) (ok_is ([], bytes) x e)
units_length end (suc most) left bytes x e =
    let P : Type 0 = length bytes ≡ length (utf8 x.0) + length x.1 in
    let after : ℕ × List ℕ → Found Name = λ unit. behind unit.0 (units_from end most (left - (length bytes - length unit.1)) unit.1) in
    found_on P (left == 0) (Ok ([], bytes)) (next_unit end left bytes >>= after) x e
    (λ end_of.
    let none : [] ≡ x.0 = ap (λ (y : Name × List ℕ). y.0) (ok_is ([], bytes) x end_of) in
    let all : bytes ≡ x.1 = ap (λ (y : Name × List ℕ). y.1) (ok_is ([], bytes) x end_of) in
    omega (arith, ap (λ (u : Name). length (utf8 u)) none, ap length all))
    (λ more. found_by P (next_unit end left bytes) after x more (λ unit one others.
    found_by P (units_from end most (left - (length bytes - length unit.1)) unit.1) (λ units. Ok (unit.0 ∷ units.0, units.1)) x others (λ units these is.
    let names : unit.0 ∷ units.0 ≡ x.0 = ap (λ (y : Name × List ℕ). y.0) (ok_is (unit.0 ∷ units.0, units.1) x is) in
    let rest : units.1 ≡ x.1 = ap (λ (y : Name × List ℕ). y.1) (ok_is (unit.0 ∷ units.0, units.1) x is) in
    omega (arith, unit_length end left bytes unit one, units_length end most (left - (length bytes - length unit.1)) unit.1 units these, ap (λ (u : Name). length (utf8 u)) names, ap length rest, length-append (unit_bytes unit.0) (utf8 units.0)))))

-- ---- entries

-- the bytes of the entry that was read, and those behind it
abbrev pub Sized : ℕ → Const × List ℕ → Type 0
Sized before x = before ≡ length (const_bytes x.0) + length x.1

sized_is : (before : ℕ) (e : Const) (rest : List ℕ) (x : Const × List ℕ) → (let found : Found Const = Ok (e, rest) in found ≡ Ok x) → Sized before (e, rest) → Sized before x
sized_is before e rest x is sized = subst (Sized before) (ok_is (e, rest) x is) sized

text_length : (end : ℕ) (bytes : List ℕ) (x : Const × List ℕ) → text end bytes ≡ Ok x → Sized (1 + length bytes) x
unfolding bytes_of.u2
text_length end bytes x e =
    let P : Type 0 = Sized (1 + length bytes) x in
    found_by P (u2 end bytes) (λ len. units_from end len.0 len.0 len.1 >>= λ units. Ok (const.Utf8 units.0, units.1)) x e (λ len two more.
    found_by P (units_from end len.0 len.0 len.1) (λ units. Ok (const.Utf8 units.0, units.1)) x more (λ units these is.
    sized_is (1 + length bytes) (const.Utf8 units.0) units.1 x is (omega (arith, u2_size end bytes len two, units_length end len.0 len.0 len.1 units these))))

one_length : (end : ℕ) (make : ℕ → Const) → ((a : ℕ) → length (const_bytes (make a)) ≡ 3) → (bytes : List ℕ) (x : Const × List ℕ) → one_index end make bytes ≡ Ok x → Sized (1 + length bytes) x
unfolding bytes_of.u2
one_length end make three bytes x e =
    found_by (Sized (1 + length bytes) x) (u2 end bytes) (λ a. Ok (make a.0, a.1)) x e (λ a two is.
    sized_is (1 + length bytes) (make a.0) a.1 x is (omega (arith, u2_size end bytes a two, three a.0)))

two_length : (end : ℕ) (make : ℕ → ℕ → Const) → ((a b : ℕ) → length (const_bytes (make a b)) ≡ 5) → (bytes : List ℕ) (x : Const × List ℕ) → two_indices end make bytes ≡ Ok x → Sized (1 + length bytes) x
unfolding bytes_of.u2
two_length end make five bytes x e =
    let P : Type 0 = Sized (1 + length bytes) x in
    found_by P (u2 end bytes) (λ a. u2 end a.1 >>= λ b. Ok (make a.0 b.0, b.1)) x e (λ a first more.
    found_by P (u2 end a.1) (λ b. Ok (make a.0 b.0, b.1)) x more (λ b second is.
    sized_is (1 + length bytes) (make a.0 b.0) b.1 x is (omega (arith, u2_size end bytes a first, u2_size end a.1 b second, five a.0 b.0))))

integer_length : (end : ℕ) (bytes : List ℕ) (x : Const × List ℕ) → integer end bytes ≡ Ok x → Sized (1 + length bytes) x
unfolding bytes_of.u4
integer_length end bytes x e =
    found_by (Sized (1 + length bytes) x) (s4 end bytes) (λ n. Ok (const.Integer n.0, n.1)) x e (λ n four is.
    let five : length (const_bytes (const.Integer n.0)) ≡ 5 = refl in
    sized_is (1 + length bytes) (const.Integer n.0) n.1 x is (omega (arith, s4_size end bytes n four, five)))

long_length : (end : ℕ) (last : Bool) (at : ℕ) (bytes : List ℕ) (x : Const × List ℕ) → long end last at bytes ≡ Ok x → Sized (1 + length bytes) x
unfolding bytes_of.u8
long_length end true at bytes x e = cc
long_length end false at bytes x e =
    found_by (Sized (1 + length bytes) x) (s8 end bytes) (λ n. Ok (const.Long n.0, n.1)) x e (λ n eight is.
    let nine : length (const_bytes (const.Long n.0)) ≡ 9 = refl in
    sized_is (1 + length bytes) (const.Long n.0) n.1 x is (omega (arith, s8_size end bytes n eight, nine)))

tagged_length : (end : ℕ) (last : Bool) (at tag : ℕ) (bytes : List ℕ) (x : Const × List ℕ) → tagged end last at tag bytes ≡ Ok x → Sized (1 + length bytes) x
unfolding bytes_of.u2
tagged_length end last at tag bytes x e =
    let P : Type 0 = Sized (1 + length bytes) x in
    found_on P (tag == 1) _ _ x e (text_length end bytes x) (λ e.
    found_on P (tag == 3) _ _ x e (integer_length end bytes x) (λ e.
    found_on P (tag == 5) _ _ x e (long_length end last at bytes x) (λ e.
    found_on P (tag == 7) _ _ x e (one_length end const.Class (λ a. refl) bytes x) (λ e.
    found_on P (tag == 8) _ _ x e (one_length end const.Text (λ a. refl) bytes x) (λ e.
    found_on P (tag == 9) _ _ x e (two_length end const.Field (λ a b. refl) bytes x) (λ e.
    found_on P (tag == 10) _ _ x e (two_length end const.Method (λ a b. refl) bytes x) (λ e.
    found_on P (tag == 11) _ _ x e (two_length end const.InterfaceMethod (λ a b. refl) bytes x) (λ e.
    found_on P (tag == 12) _ _ x e (two_length end const.NameType (λ a b. refl) bytes x) (λ no. cc)))))))))

place_length : (end : ℕ) (second last : Bool) (bytes : List ℕ) (x : Const × List ℕ) → place end second last bytes ≡ Ok x → Sized (length bytes) x
place_length end true last bytes x e = sized_is (length bytes) const.Unused bytes x e (omega arith)
place_length end false last bytes x e =
    found_by (Sized (length bytes) x) (u1 end bytes) (λ tag. tagged end last (offset end bytes) tag.0 tag.1) x e (λ tag one more.
    omega (arith, u1_size end bytes tag one, tagged_length end last (offset end bytes) tag.0 tag.1 x more))

-- All places have as many bytes as they are spelled in.
pub places_length : (end : ℕ) (second : Bool) (n : ℕ) (bytes : List ℕ) (entries : List Const) (rest : List ℕ) → places end second n bytes ≡ Ok (entries, rest) → length bytes ≡ length (flat_map const_bytes entries) + length rest
places_length end second zero bytes entries rest e = sym (zero-add (length bytes)) ∙ ap (λ (y : List Const × List ℕ). length (flat_map const_bytes y.0) + length y.1) (ok_is ([], bytes) (entries, rest) e)
places_length end second (suc n) bytes entries rest e =
    let P : Type 0 = length bytes ≡ length (flat_map const_bytes entries) + length rest in
    let after : Const × List ℕ → Found (List Const) = λ x. places end (is_long x.0) n x.1 >>= λ xs. Ok (x.0 ∷ xs.0, xs.1) in
    found_by P (place end second (n == 0) bytes) after (entries, rest) e (λ x one more.
    found_by P (places end (is_long x.0) n x.1) (λ xs. Ok (x.0 ∷ xs.0, xs.1)) (entries, rest) more (λ xs others is.
    let all : x.0 ∷ xs.0 ≡ entries = ap (λ (y : List Const × List ℕ). y.0) (ok_is (x.0 ∷ xs.0, xs.1) (entries, rest) is) in
    let end_of : xs.1 ≡ rest = ap (λ (y : List Const × List ℕ). y.1) (ok_is (x.0 ∷ xs.0, xs.1) (entries, rest) is) in
    omega (arith, place_length end second (n == 0) bytes x one, places_length end (is_long x.0) n x.1 xs.0 xs.1 others, ap (λ (es : List Const). length (flat_map const_bytes es)) all, ap length end_of, length-append (const_bytes x.0) (flat_map const_bytes xs.0))))
