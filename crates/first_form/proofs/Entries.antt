-- What the entries name that an instruction of this form may name, whatever the class.
use Rattle.std.proofs.Common.{◌≡◌, Some, refl}
use Rattle.std.specs.Prelude.{codes}
use Rattle.first_form.specs.Instructions.{out_entry, println_entry}
use Rattle.first_form.specs.ClassFiles.{MainClass, tree_of, field_at, method_at}

-- `System.out`
pub field_at-out : (c : MainClass)
    → field_at (tree_of c) out_entry ≡ Some (record { class = codes "java/lang/System"; name = codes "out"; descriptor = codes "Ljava/io/PrintStream;" })
field_at-out c = refl

-- `PrintStream.println(int)`
pub method_at-println : (c : MainClass)
    → method_at (tree_of c) println_entry ≡ Some (record { class = codes "java/io/PrintStream"; name = codes "println"; descriptor = codes "(I)V" })
method_at-println c = refl
