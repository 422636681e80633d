-- The made job of a number and a size, which anyone can make again (this project's own): one class without agents, whose `main` calls as
-- many methods as the size says. Each multiplies what it is given and adds to it, by numbers that follow from the job's number.
use Rattle.std.specs.Prelude.{ℕ, zero, suc, ◌+◌, ◌*◌, ◌/◌, ◌%◌, ◌^◌, pos, List, [], ◌∷◌, ◌++◌, flat_map, map, codes, decimal}
use Rattle.std.specs.List.{range_with_len}
use Rattle.ti_ids.specs.declared.limits.Limits.{Limits}
use Rattle.jv_names.specs.Names.{Name}
use Rattle.class_tree.specs.declared.pool.Const.{Const}
use Rattle.class_tree.specs.declared.pool.Const.TheVariants as const
use Rattle.class_tree.specs.declared.body.Code.{Code}
use Rattle.class_tree.specs.declared.members.Attr.TheVariants.{Body}
use Rattle.class_tree.specs.declared.members.Member.{Member}
use Rattle.class_tree.specs.Trees.{Tree}
use Rattle.class_tree.specs.Spelling.{u2, class_bytes}
use Rattle.job_words.specs.Words.{limits_of}
use Rattle.machine_state.specs.Jobs.{Job}

-- ---- numbers

-- each follows from the one before it
abbrev pub next_number : ℕ → ℕ
next_number x = (x * 1103515245 + 12345) % 2 ^ 31

-- those behind the job's number, which is at place 0
abbrev pub number_at : ℕ → ℕ → ℕ
number_at number zero = number
number_at number (suc place) = next_number (number_at number place)

-- ---- the constant pool (JVM specification 4.4)

abbrev pub made_name : Name
made_name = codes "Made"

-- the entries 1 to 19: the names of the class and of its superclass, what `main` is, and the stream with the method that prints an int
abbrev pub front_entries : List Const
front_entries =
    const.Utf8 made_name ∷ const.Class 1
    ∷ const.Utf8 (codes "java/lang/Object") ∷ const.Class 3
    ∷ const.Utf8 (codes "main") ∷ const.Utf8 (codes "([Ljava/lang/String;)V") ∷ const.Utf8 (codes "Code")
    ∷ const.Utf8 (codes "java/lang/System") ∷ const.Class 8
    ∷ const.Utf8 (codes "out") ∷ const.Utf8 (codes "Ljava/io/PrintStream;") ∷ const.NameType 10 11 ∷ const.Field 9 12
    ∷ const.Utf8 (codes "java/io/PrintStream") ∷ const.Class 14
    ∷ const.Utf8 (codes "println") ∷ const.Utf8 (codes "(I)V") ∷ const.NameType 16 17 ∷ const.Method 15 18
    ∷ []

-- what the method at a place has of the pool: its name, what names it, and its two numbers. Entry 20 is the descriptor of them all.
abbrev pub entries_at : ℕ → ℕ → List Const
entries_at number place =
    let first = 21 + 5 * place in
    const.Utf8 (codes "f" ++ decimal place)
    ∷ const.NameType first 20
    ∷ const.Method 2 (first + 1)
    ∷ const.Integer (pos (number_at number (2 * place + 1)))
    ∷ const.Integer (pos (number_at number (2 * place + 2)))
    ∷ []

abbrev pub places : ℕ → List ℕ
places size = range_with_len 0 size

abbrev pub made_pool : ℕ → ℕ → List Const
made_pool number size = front_entries ++ const.Utf8 (codes "(I)I") ∷ flat_map (entries_at number) (places size)

-- ---- methods (4.6): public and static, without a stack map

abbrev pub method_of : ℕ → ℕ → ℕ → List ℕ → Member
method_of name desc max_locals bytes = record {
  flags = record { bits = 0x0009 };
  name = name;
  desc = desc;
  attrs = Body 7 (record { max_stack = 2; max_locals = max_locals; bytes = bytes; handlers = []; attrs = [] }) ∷ [];
}

-- `iload_1`, `invokestatic` of the method at a place, `istore_1`
abbrev pub call_bytes : ℕ → List ℕ
call_bytes place = 0x1b ∷ 0xb8 ∷ u2 (23 + 5 * place) ++ 0x3c ∷ []

-- `iconst_1`, `istore_1`; the calls; `getstatic` of the stream, `iload_1`, `invokevirtual` of the method that prints it, `return`
abbrev pub main_bytes : ℕ → List ℕ
main_bytes size =
    0x04 ∷ 0x3c ∷ flat_map call_bytes (places size) ++ 0xb2 ∷ u2 13 ++ 0x1b ∷ 0xb6 ∷ u2 19 ++ 0xb1 ∷ []

-- `iload_0`, `ldc_w` of the first number, `imul`, `ldc_w` of the second, `iadd`, `ireturn`
abbrev pub bytes_at : ℕ → List ℕ
bytes_at place = 0x1a ∷ 0x13 ∷ u2 (24 + 5 * place) ++ 0x68 ∷ 0x13 ∷ u2 (25 + 5 * place) ++ 0x60 ∷ 0xac ∷ []

abbrev pub method_at : ℕ → Member
method_at place = method_of (21 + 5 * place) 20 1 (bytes_at place)

-- ---- the class and the job

abbrev pub made_tree : ℕ → ℕ → Tree
made_tree number size = record {
  minor = 0;
  major = 52;
  pool = made_pool number size;
  flags = record { bits = 0x0021 };
  this_class = 2;
  super_class = 4;
  interfaces = [];
  fields = [];
  methods = method_of 5 6 2 (main_bytes size) ∷ map method_at (places size);
  attrs = [];
}

-- its limits are those that stand where no word gives others
abbrev pub made_job : ℕ → ℕ → Job
made_job number size = record {
  main = made_name;
  files = record { name = made_name; bytes = class_bytes (made_tree number size) } ∷ [];
  donors = [];
  agents = [];
  limits = limits_of [];
}
