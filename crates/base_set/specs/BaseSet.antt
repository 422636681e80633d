-- The base classes: those that stand ready in the machine and are in no file, in their order. Names are in internal form
-- (JVM specification 4.2.1), descriptors as in 4.3 and flags as in tables 4.1-A, 4.5-A and 4.6-A.
use Rattle.std.specs.Prelude.{ℕ, Bool, List, [], ◌∷◌, ◌++◌, map, Option, Some, None, codes, bytes_eq}
use Rattle.std.specs.List.{list_any}
use Rattle.jv_names.specs.Names.{Name}

pub record BaseField : Type 0 where
  pub flags : ℕ
  pub name : Name
  pub desc : Name

pub record BaseMethod : Type 0 where
  pub flags : ℕ
  pub name : Name
  pub desc : Name

-- A class or an interface. Object alone has no superclass.
pub record BaseClass : Type 0 where
  pub name : Name
  pub flags : ℕ
  pub super : Option Name
  pub interfaces : List Name
  pub fields : List BaseField
  pub methods : List BaseMethod

-- ---- words of the table

-- a public method of an instance
abbrev pub plain : Name → Name → BaseMethod
plain name desc = record { flags = 0x0001; name = name; desc = desc }

-- one that no class may override
abbrev pub final : Name → Name → BaseMethod
final name desc = record { flags = 0x0011; name = name; desc = desc }

-- one of the class itself
abbrev pub static : Name → Name → BaseMethod
static name desc = record { flags = 0x0009; name = name; desc = desc }

-- one without code
abbrev pub abstract : Name → Name → BaseMethod
abstract name desc = record { flags = 0x0401; name = name; desc = desc }

-- section 2.9: what initializes an instance
abbrev pub constructor : Name → BaseMethod
constructor desc = plain (codes "<init>") desc

-- an interface
abbrev pub interface : Name → List BaseMethod → BaseClass
interface name methods = record { name = name; flags = 0x0601; super = Some (codes "java/lang/Object"); interfaces = []; fields = []; methods = methods }

-- ---- the classes that are no errors

abbrev pub object : BaseClass
object = record {
  name = codes "java/lang/Object";
  flags = 0x0021;
  super = None;
  interfaces = [];
  fields = [];
  methods =
      constructor (codes "()V")
      ∷ final (codes "getClass") (codes "()Ljava/lang/Class;")
      ∷ plain (codes "equals") (codes "(Ljava/lang/Object;)Z")
      ∷ plain (codes "hashCode") (codes "()I")
      ∷ final (codes "wait") (codes "()V")
      ∷ final (codes "notify") (codes "()V")
      ∷ final (codes "notifyAll") (codes "()V")
      ∷ [];
}

abbrev pub cloneable : BaseClass
cloneable = interface (codes "java/lang/Cloneable") []

abbrev pub serializable : BaseClass
serializable = interface (codes "java/io/Serializable") []

abbrev pub string : BaseClass
string = record {
  name = codes "java/lang/String";
  flags = 0x0031;
  super = Some (codes "java/lang/Object");
  interfaces = codes "java/io/Serializable" ∷ [];
  fields = [];
  methods =
      plain (codes "length") (codes "()I")
      ∷ plain (codes "charAt") (codes "(I)C")
      ∷ plain (codes "equals") (codes "(Ljava/lang/Object;)Z")
      ∷ [];
}

abbrev pub string_builder : BaseClass
string_builder = record {
  name = codes "java/lang/StringBuilder";
  flags = 0x0031;
  super = Some (codes "java/lang/Object");
  interfaces = [];
  fields = [];
  methods =
      constructor (codes "()V")
      ∷ plain (codes "append") (codes "(I)Ljava/lang/StringBuilder;")
      ∷ plain (codes "append") (codes "(J)Ljava/lang/StringBuilder;")
      ∷ plain (codes "append") (codes "(C)Ljava/lang/StringBuilder;")
      ∷ plain (codes "append") (codes "(Z)Ljava/lang/StringBuilder;")
      ∷ plain (codes "append") (codes "(Ljava/lang/String;)Ljava/lang/StringBuilder;")
      ∷ plain (codes "toString") (codes "()Ljava/lang/String;")
      ∷ [];
}

abbrev pub class : BaseClass
class = record {
  name = codes "java/lang/Class";
  flags = 0x0031;
  super = Some (codes "java/lang/Object");
  interfaces = [];
  fields = [];
  methods = [];
}

abbrev pub runnable : BaseClass
runnable = interface (codes "java/lang/Runnable") (abstract (codes "run") (codes "()V") ∷ [])

abbrev pub thread : BaseClass
thread = record {
  name = codes "java/lang/Thread";
  flags = 0x0021;
  super = Some (codes "java/lang/Object");
  interfaces = codes "java/lang/Runnable" ∷ [];
  fields = [];
  methods =
      constructor (codes "()V")
      ∷ constructor (codes "(Ljava/lang/Runnable;)V")
      ∷ plain (codes "start") (codes "()V")
      ∷ plain (codes "run") (codes "()V")
      ∷ final (codes "join") (codes "()V")
      ∷ static (codes "currentThread") (codes "()Ljava/lang/Thread;")
      ∷ [];
}

abbrev pub print_stream : BaseClass
print_stream = record {
  name = codes "java/io/PrintStream";
  flags = 0x0021;
  super = Some (codes "java/lang/Object");
  interfaces = [];
  fields = [];
  methods =
      plain (codes "println") (codes "(I)V")
      ∷ plain (codes "println") (codes "(J)V")
      ∷ plain (codes "println") (codes "(C)V")
      ∷ plain (codes "println") (codes "(Z)V")
      ∷ plain (codes "println") (codes "(Ljava/lang/String;)V")
      ∷ plain (codes "print") (codes "(I)V")
      ∷ plain (codes "print") (codes "(J)V")
      ∷ plain (codes "print") (codes "(C)V")
      ∷ plain (codes "print") (codes "(Z)V")
      ∷ plain (codes "print") (codes "(Ljava/lang/String;)V")
      ∷ plain (codes "println") (codes "()V")
      ∷ [];
}

-- its field is public, static and final
abbrev pub system : BaseClass
system = record {
  name = codes "java/lang/System";
  flags = 0x0031;
  super = Some (codes "java/lang/Object");
  interfaces = [];
  fields = record { flags = 0x0019; name = codes "out"; desc = codes "Ljava/io/PrintStream;" } ∷ [];
  methods = [];
}

-- ---- what can be thrown

-- without a message and with one
abbrev pub constructors : List BaseMethod
constructors = constructor (codes "()V") ∷ constructor (codes "(Ljava/lang/String;)V") ∷ []

abbrev pub throwable : BaseClass
throwable = record {
  name = codes "java/lang/Throwable";
  flags = 0x0021;
  super = Some (codes "java/lang/Object");
  interfaces = codes "java/io/Serializable" ∷ [];
  fields = [];
  methods = constructors ++ plain (codes "getMessage") (codes "()Ljava/lang/String;") ∷ [];
}

-- each with its superclass
abbrev pub errors : List (Name × Name)
errors =
    (codes "java/lang/Exception", codes "java/lang/Throwable")
    ∷ (codes "java/lang/RuntimeException", codes "java/lang/Exception")
    ∷ (codes "java/lang/Error", codes "java/lang/Throwable")
    ∷ (codes "java/lang/LinkageError", codes "java/lang/Error")
    ∷ (codes "java/lang/VirtualMachineError", codes "java/lang/Error")
    ∷ (codes "java/lang/NoClassDefFoundError", codes "java/lang/LinkageError")
    ∷ (codes "java/lang/ClassFormatError", codes "java/lang/LinkageError")
    ∷ (codes "java/lang/ClassCircularityError", codes "java/lang/LinkageError")
    ∷ (codes "java/lang/VerifyError", codes "java/lang/LinkageError")
    ∷ (codes "java/lang/ExceptionInInitializerError", codes "java/lang/LinkageError")
    ∷ (codes "java/lang/IncompatibleClassChangeError", codes "java/lang/LinkageError")
    ∷ (codes "java/lang/NoSuchFieldError", codes "java/lang/IncompatibleClassChangeError")
    ∷ (codes "java/lang/NoSuchMethodError", codes "java/lang/IncompatibleClassChangeError")
    ∷ (codes "java/lang/AbstractMethodError", codes "java/lang/IncompatibleClassChangeError")
    ∷ (codes "java/lang/InstantiationError", codes "java/lang/IncompatibleClassChangeError")
    ∷ (codes "java/lang/InternalError", codes "java/lang/VirtualMachineError")
    ∷ (codes "java/lang/OutOfMemoryError", codes "java/lang/VirtualMachineError")
    ∷ (codes "java/lang/StackOverflowError", codes "java/lang/VirtualMachineError")
    ∷ (codes "java/lang/ArithmeticException", codes "java/lang/RuntimeException")
    ∷ (codes "java/lang/NullPointerException", codes "java/lang/RuntimeException")
    ∷ (codes "java/lang/ClassCastException", codes "java/lang/RuntimeException")
    ∷ (codes "java/lang/IndexOutOfBoundsException", codes "java/lang/RuntimeException")
    ∷ (codes "java/lang/NegativeArraySizeException", codes "java/lang/RuntimeException")
    ∷ (codes "java/lang/ArrayStoreException", codes "java/lang/RuntimeException")
    ∷ (codes "java/lang/IllegalMonitorStateException", codes "java/lang/RuntimeException")
    ∷ (codes "java/lang/IllegalArgumentException", codes "java/lang/RuntimeException")
    ∷ (codes "java/lang/ArrayIndexOutOfBoundsException", codes "java/lang/IndexOutOfBoundsException")
    ∷ (codes "java/lang/StringIndexOutOfBoundsException", codes "java/lang/IndexOutOfBoundsException")
    ∷ (codes "java/lang/IllegalThreadStateException", codes "java/lang/IllegalArgumentException")
    ∷ (codes "java/lang/InterruptedException", codes "java/lang/Exception")
    ∷ []

abbrev pub error_class : Name × Name → BaseClass
error_class error = record { name = error.0; flags = 0x0021; super = Some error.1; interfaces = []; fields = []; methods = constructors }

-- ---- the whole

abbrev pub classes : List BaseClass
classes = object ∷ cloneable ∷ serializable ∷ string ∷ string_builder ∷ class ∷ runnable ∷ thread ∷ print_stream ∷ system ∷ throwable ∷ []

abbrev pub base_set : List BaseClass
base_set = classes ++ map error_class errors

abbrev pub has_name : Name → BaseClass → Bool
has_name name class = bytes_eq name class.name

-- a base class has this name
abbrev pub is_base : Name → Bool
is_base name = list_any (has_name name) base_set
