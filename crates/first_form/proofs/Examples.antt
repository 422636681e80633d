-- The definitions, computed at one class file, which a Java compiler's output was the pattern of.
use Rattle.std.proofs.Common.{◌≡◌, ℕ, List, [], ◌∷◌, ◌++◌, length, Some, None, pos, refl}
use Rattle.std.specs.Prelude.{codes}
use Rattle.first_form.specs.declared.Instr.TheVariants.{IntConst, IntArith, GetStatic, InvokeVirtual, Return}
use Rattle.first_form.specs.declared.Op.TheVariants.{Add}
use Rattle.first_form.specs.BaseSet.{base_classes}
use Rattle.first_form.specs.Instructions.{listing}
use Rattle.first_form.specs.ClassFiles.{MainClass, spelling, tree_of}
use Rattle.first_form.specs.Reading.{class_of, name_and_code, after, counted_at, number_at}

-- what stands before the code of a class `Add`, 228 bytes
abbrev front : List ℕ
front =
    202 ∷ 254 ∷ 186 ∷ 190 ∷ 0 ∷ 0 ∷ 0 ∷ 52 ∷ 0 ∷ 20 ∷ 1 ∷ 0 ∷ 3 ∷ 65 ∷ 100 ∷ 100 ∷ 7 ∷ 0 ∷ 1 ∷ 1 ∷
    0 ∷ 16 ∷ 106 ∷ 97 ∷ 118 ∷ 97 ∷ 47 ∷ 108 ∷ 97 ∷ 110 ∷ 103 ∷ 47 ∷ 79 ∷ 98 ∷ 106 ∷ 101 ∷ 99 ∷ 116 ∷ 7 ∷ 0 ∷
    3 ∷ 1 ∷ 0 ∷ 4 ∷ 109 ∷ 97 ∷ 105 ∷ 110 ∷ 1 ∷ 0 ∷ 22 ∷ 40 ∷ 91 ∷ 76 ∷ 106 ∷ 97 ∷ 118 ∷ 97 ∷ 47 ∷ 108 ∷
    97 ∷ 110 ∷ 103 ∷ 47 ∷ 83 ∷ 116 ∷ 114 ∷ 105 ∷ 110 ∷ 103 ∷ 59 ∷ 41 ∷ 86 ∷ 1 ∷ 0 ∷ 4 ∷ 67 ∷ 111 ∷ 100 ∷ 101 ∷
    1 ∷ 0 ∷ 16 ∷ 106 ∷ 97 ∷ 118 ∷ 97 ∷ 47 ∷ 108 ∷ 97 ∷ 110 ∷ 103 ∷ 47 ∷ 83 ∷ 121 ∷ 115 ∷ 116 ∷ 101 ∷ 109 ∷ 7 ∷
    0 ∷ 8 ∷ 1 ∷ 0 ∷ 3 ∷ 111 ∷ 117 ∷ 116 ∷ 1 ∷ 0 ∷ 21 ∷ 76 ∷ 106 ∷ 97 ∷ 118 ∷ 97 ∷ 47 ∷ 105 ∷ 111 ∷ 47 ∷
    80 ∷ 114 ∷ 105 ∷ 110 ∷ 116 ∷ 83 ∷ 116 ∷ 114 ∷ 101 ∷ 97 ∷ 109 ∷ 59 ∷ 12 ∷ 0 ∷ 10 ∷ 0 ∷ 11 ∷ 9 ∷ 0 ∷ 9 ∷
    0 ∷ 12 ∷ 1 ∷ 0 ∷ 19 ∷ 106 ∷ 97 ∷ 118 ∷ 97 ∷ 47 ∷ 105 ∷ 111 ∷ 47 ∷ 80 ∷ 114 ∷ 105 ∷ 110 ∷ 116 ∷ 83 ∷ 116 ∷
    114 ∷ 101 ∷ 97 ∷ 109 ∷ 7 ∷ 0 ∷ 14 ∷ 1 ∷ 0 ∷ 7 ∷ 112 ∷ 114 ∷ 105 ∷ 110 ∷ 116 ∷ 108 ∷ 110 ∷ 1 ∷ 0 ∷ 4 ∷
    40 ∷ 73 ∷ 41 ∷ 86 ∷ 12 ∷ 0 ∷ 16 ∷ 0 ∷ 17 ∷ 10 ∷ 0 ∷ 15 ∷ 0 ∷ 18 ∷ 0 ∷ 33 ∷ 0 ∷ 2 ∷ 0 ∷ 4 ∷
    0 ∷ 0 ∷ 0 ∷ 0 ∷ 0 ∷ 1 ∷ 0 ∷ 9 ∷ 0 ∷ 5 ∷ 0 ∷ 6 ∷ 0 ∷ 1 ∷ 0 ∷ 7 ∷ 0 ∷ 0 ∷ 0 ∷ 22 ∷
    0 ∷ 3 ∷ 0 ∷ 1 ∷ 0 ∷ 0 ∷ 0 ∷ 10 ∷ []

-- it prints the sum of 2 and 3
abbrev code : List ℕ
code = 178 ∷ 0 ∷ 13 ∷ 5 ∷ 6 ∷ 96 ∷ 182 ∷ 0 ∷ 19 ∷ 177 ∷ []

-- the 244 bytes of the file with this code
abbrev file_with : List ℕ → List ℕ
file_with c = front ++ c ++ (0 ∷ 0 ∷ 0 ∷ 0 ∷ 0 ∷ 0 ∷ [])

abbrev add : MainClass
add = record { name = codes "Add"; code = code }

length-file : length (file_with code) ≡ 244
length-file = refl

spelling-add : spelling (tree_of add) ≡ file_with code
spelling-add = refl

class_of-file : class_of (file_with code) ≡ Some add
unfolding class_of name_and_code after counted_at number_at
class_of-file = refl

-- the byte at 233 is `fadd` in place of `iadd`
class_of-changed : class_of (file_with (178 ∷ 0 ∷ 13 ∷ 5 ∷ 6 ∷ 98 ∷ 182 ∷ 0 ∷ 19 ∷ 177 ∷ [])) ≡ None
unfolding class_of name_and_code after counted_at number_at
class_of-changed = refl

listing-code : listing code
    ≡ Some ((0, GetStatic 13) ∷ (3, IntConst (pos 2)) ∷ (4, IntConst (pos 3)) ∷ (5, IntArith Add) ∷ (6, InvokeVirtual 19) ∷ (9, Return) ∷ [])
listing-code = refl

length-base_classes : length base_classes ≡ 41
length-base_classes = refl
