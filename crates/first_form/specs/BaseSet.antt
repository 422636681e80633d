-- The base classes, which stand ready and are in no file.
use Rattle.std.specs.Prelude.{List, [], ◌∷◌, ◌++◌, Bool, codes, bytes_eq}
use Rattle.std.specs.List.{list_any}
use Rattle.jv_names.specs.Names.{Name}

abbrev pub lang : Name → Name
lang name = codes "java/lang/" ++ name

abbrev pub base_classes : List Name
base_classes =
    lang (codes "Object") ∷ lang (codes "Cloneable") ∷ codes "java/io/Serializable" ∷ lang (codes "String") ∷ lang (codes "StringBuilder") ∷ lang (codes "Class") ∷ lang (codes "Runnable")
    ∷ lang (codes "Thread") ∷ codes "java/io/PrintStream" ∷ lang (codes "System") ∷ lang (codes "Throwable") ∷ lang (codes "Exception") ∷ lang (codes "RuntimeException") ∷ lang (codes "Error")
    ∷ lang (codes "LinkageError") ∷ lang (codes "VirtualMachineError")
    ∷ lang (codes "NoClassDefFoundError") ∷ lang (codes "ClassFormatError") ∷ lang (codes "ClassCircularityError") ∷ lang (codes "VerifyError") ∷ lang (codes "ExceptionInInitializerError")
    ∷ lang (codes "IncompatibleClassChangeError")
    ∷ lang (codes "NoSuchFieldError") ∷ lang (codes "NoSuchMethodError") ∷ lang (codes "AbstractMethodError") ∷ lang (codes "InstantiationError")
    ∷ lang (codes "InternalError") ∷ lang (codes "OutOfMemoryError") ∷ lang (codes "StackOverflowError")
    ∷ lang (codes "ArithmeticException") ∷ lang (codes "NullPointerException") ∷ lang (codes "ClassCastException") ∷ lang (codes "IndexOutOfBoundsException") ∷ lang (codes "NegativeArraySizeException")
    ∷ lang (codes "ArrayStoreException") ∷ lang (codes "IllegalMonitorStateException") ∷ lang (codes "IllegalArgumentException")
    ∷ lang (codes "ArrayIndexOutOfBoundsException") ∷ lang (codes "StringIndexOutOfBoundsException") ∷ lang (codes "IllegalThreadStateException") ∷ lang (codes "InterruptedException") ∷ []

abbrev pub is_base : Name → Bool
is_base name = list_any (bytes_eq name) base_classes
