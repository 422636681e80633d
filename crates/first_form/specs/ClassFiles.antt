-- Class files: JVM specification 4.1 to 4.7. A tree, the one way in which it is spelled, and what its entries name. So far texts are ASCII, and code has no handlers and no attributes.
use Rattle.std.specs.Prelude.{◌≡◌, ℕ, zero, suc, ◌+◌, ◌^◌, List, [], ◌∷◌, ◌++◌, length, slice_get, Option, Some, None, Bool, true, not, ◌&&◌, nat_lt, codes, flat_map}
use Rattle.std.specs.Int.{w16, w32, to_be_bytes}
use Rattle.std.specs.List.{list_all}
use Rattle.ti_ids.specs.Maybe.{◌>>=◌}
use Rattle.jv_names.specs.Names.{Name, is_class_name, is_visible}
use Rattle.first_form.specs.Instructions.{runs_on}
use Rattle.first_form.specs.BaseSet.{is_base}

-- section 4.4
pub data Constant : Type 0 where
  Utf8 : Name → Constant
  Class : ℕ → Constant
  Field : ℕ → ℕ → Constant
  Method : ℕ → ℕ → Constant
  NameType : ℕ → ℕ → Constant

-- section 4.7.3
pub record Body : Type 0 where
  pub max_stack : ℕ
  pub max_locals : ℕ
  pub code : List ℕ

-- section 4.7
pub data Attribute : Type 0 where
  Code : ℕ → Body → Attribute
  Raw : ℕ → List ℕ → Attribute

-- sections 4.5 and 4.6
pub record Member : Type 0 where
  pub flags : ℕ
  pub name : ℕ
  pub descriptor : ℕ
  pub attributes : List Attribute

-- section 4.1
pub record ClassFile : Type 0 where
  pub minor : ℕ
  pub major : ℕ
  pub pool : List Constant
  pub flags : ℕ
  pub this_class : ℕ
  pub super_class : ℕ
  pub interfaces : List ℕ
  pub fields : List Member
  pub methods : List Member
  pub attributes : List Attribute

-- ---- the spelling

abbrev pub u2 : ℕ → List ℕ
u2 n = to_be_bytes w16 n

abbrev pub u4 : ℕ → List ℕ
u4 n = to_be_bytes w32 n

abbrev pub spelled_constant : Constant → List ℕ
spelled_constant (Utf8 text) = 1 ∷ u2 (length text) ++ text
spelled_constant (Class name) = 7 ∷ u2 name
spelled_constant (Field class pair) = 9 ∷ u2 class ++ u2 pair
spelled_constant (Method class pair) = 10 ∷ u2 class ++ u2 pair
spelled_constant (NameType name descriptor) = 12 ∷ u2 name ++ u2 descriptor

abbrev pub spelled_attribute : Attribute → List ℕ
spelled_attribute (Code name body) =
    u2 name ++ (u4 (length body.code + 12) ++ (u2 body.max_stack ++ (u2 body.max_locals ++ (u4 (length body.code) ++ (body.code ++ (u2 0 ++ u2 0))))))
spelled_attribute (Raw name bytes) = u2 name ++ (u4 (length bytes) ++ bytes)

-- a count of two bytes, and the items
abbrev pub counted : {A : Type 0} → (A → List ℕ) → List A → List ℕ
counted spelled items = u2 (length items) ++ flat_map spelled items

abbrev pub spelled_member : Member → List ℕ
spelled_member m = u2 m.flags ++ (u2 m.name ++ (u2 m.descriptor ++ counted spelled_attribute m.attributes))

-- the bytes of a class file
abbrev pub spelling : ClassFile → List ℕ
spelling c =
    0xca ∷ 0xfe ∷ 0xba ∷ 0xbe ∷ u2 c.minor ++ (u2 c.major ++ (u2 (length c.pool + 1) ++ (flat_map spelled_constant c.pool
    ++ (u2 c.flags ++ (u2 c.this_class ++ (u2 c.super_class ++ (counted u2 c.interfaces
    ++ (counted spelled_member c.fields ++ (counted spelled_member c.methods ++ counted spelled_attribute c.attributes)))))))))

-- ---- what entries of the pool name: section 4.4

-- entries have the numbers from 1
abbrev pub constant : ClassFile → ℕ → Option Constant
constant c zero = None
constant c (suc n) = slice_get c.pool n

abbrev pub text_in : Constant → Option Name
text_in (Utf8 t) = Some t
text_in (Class n) = None
text_in (Field class pair) = None
text_in (Method class pair) = None
text_in (NameType name descriptor) = None

abbrev pub text_at : ClassFile → ℕ → Option Name
text_at c n = constant c n >>= text_in

abbrev pub class_in : Constant → Option ℕ
class_in (Utf8 t) = None
class_in (Class n) = Some n
class_in (Field class pair) = None
class_in (Method class pair) = None
class_in (NameType name descriptor) = None

-- the name of a class entry
abbrev pub class_name_at : ClassFile → ℕ → Option Name
class_name_at c n = constant c n >>= (λ k. class_in k >>= text_at c)

-- a field or a method, by its class, its name and its descriptor
pub record Reference : Type 0 where
  pub class : Name
  pub name : Name
  pub descriptor : Name

abbrev pub pair_in : Constant → Option (ℕ × ℕ)
pair_in (NameType name descriptor) = Some (name, descriptor)
pair_in (Utf8 t) = None
pair_in (Class n) = None
pair_in (Field class pair) = None
pair_in (Method class pair) = None

-- what a class entry and a name and type entry together name
abbrev pub reference_of : ClassFile → ℕ → ℕ → Option Reference
reference_of c class pair = do
  owner ← class_name_at c class
  k ← constant c pair
  p ← pair_in k
  name ← text_at c p.0
  descriptor ← text_at c p.1
  Some (record { class = owner; name = name; descriptor = descriptor })

abbrev pub field_in : ClassFile → Constant → Option Reference
field_in c (Field class pair) = reference_of c class pair
field_in c (Utf8 t) = None
field_in c (Class n) = None
field_in c (Method class pair) = None
field_in c (NameType name descriptor) = None

abbrev pub method_in : ClassFile → Constant → Option Reference
method_in c (Method class pair) = reference_of c class pair
method_in c (Utf8 t) = None
method_in c (Class n) = None
method_in c (Field class pair) = None
method_in c (NameType name descriptor) = None

-- the field that an entry names
abbrev pub field_at : ClassFile → ℕ → Option Reference
field_at c n = constant c n >>= field_in c

-- the method that an entry names
abbrev pub method_at : ClassFile → ℕ → Option Reference
method_at c n = constant c n >>= method_in c

-- ---- the one form that is accepted so far: main alone, in a class of this name, with this code

abbrev pub fixed_pool : List Constant
fixed_pool =
    Class 1 ∷ Utf8 (codes "java/lang/Object") ∷ Class 3 ∷ Utf8 (codes "main") ∷ Utf8 (codes "([Ljava/lang/String;)V")
    ∷ Utf8 (codes "Code") ∷ Utf8 (codes "java/lang/System") ∷ Class 8 ∷ Utf8 (codes "out") ∷ Utf8 (codes "Ljava/io/PrintStream;")
    ∷ NameType 10 11 ∷ Field 9 12 ∷ Utf8 (codes "java/io/PrintStream") ∷ Class 14 ∷ Utf8 (codes "println") ∷ Utf8 (codes "(I)V")
    ∷ NameType 16 17 ∷ Method 15 18 ∷ []

-- a class of that form, that is its name and the code of its main
pub record MainClass : Type 0 where
  pub name : Name
  pub code : List ℕ

abbrev pub tree_of : MainClass → ClassFile
tree_of c = record {
  minor = 0;
  major = 52;
  pool = Utf8 c.name ∷ fixed_pool;
  flags = 0x21;
  this_class = 2;
  super_class = 4;
  interfaces = [];
  fields = [];
  methods = record { flags = 9; name = 5; descriptor = 6; attributes = Code 7 (record { max_stack = 3; max_locals = 1; code = c.code }) ∷ [] } ∷ [];
  attributes = [];
}

-- the name is visible ASCII and a class's of its own
abbrev pub is_own_name : Name → Bool
is_own_name name = nat_lt (length name) (2 ^ 16) && list_all is_visible name && is_class_name name && not (is_base name)

-- the code has 1 to 65535 bytes, and runs on a stack of three entries
abbrev pub is_own_code : List ℕ → Bool
is_own_code code = nat_lt 0 (length code) && nat_lt (length code) (2 ^ 16) && runs_on 3 code

abbrev pub is_main_class : MainClass → Bool
is_main_class c = is_own_name c.name && is_own_code c.code

-- the bytes spell it
pub record Spells (c : MainClass) (bytes : List ℕ) : Type 0 where
  pub accepted : is_main_class c ≡ true
  pub spelled : bytes ≡ spelling (tree_of c)
