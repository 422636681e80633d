-- The options of the three commands: `run` and `replay` take a main class and files, `make` two numbers.
use Rattle.std.specs.Prelude.{ℕ, List, [], ◌∷◌, flat_map, Option, Some, Bool, true, false, ◌&&◌, nat_le, bytes_eq, codes, if◌then◌else◌}
use Rattle.std.specs.Option.{option_map_or}
use Rattle.std.specs.Str.{chars}
use Rattle.std.specs.Char.Escape.{encode_utf16}
use Rattle.jv_names.specs.Names.{Name, is_class_name}
use Rattle.report_text.specs.Stated.{numeral}

-- a word is the bytes of its text in UTF-8
abbrev pub Word : Type 0
Word = List ℕ

-- the UTF-16 units of its text, of which names are made
abbrev pub units_of : Word → Name
units_of word = flat_map encode_utf16 (chars word)

-- ---- the options

pub data Command : Type 0 where
  RunCommand : Command
  ReplayCommand : Command
  MakeCommand : Command

-- what the value is: a class's name in internal form (JVM specification 4.2.1), the name of a file, or a number from one to another
pub data Form : Type 0 where
  ClassName : Form
  FileName : Form
  NumberIn : ℕ → ℕ → Form

-- how often an option stands; where it may stand once or not at all, this number is taken in its place
pub data Often : Type 0 where
  Once : Often
  OnceOrMore : Often
  AnyTimes : Often
  OnceOr : ℕ → Often

-- an option: its name, whether it is one of each command, how often it stands, and what its value is
pub record Choice : Type 0 where
  pub name : Word
  pub is_of : Command → Bool
  pub often : Often
  pub form : Form

abbrev pub of_run : Command → Bool
of_run RunCommand = true
of_run ReplayCommand = false
of_run MakeCommand = false

abbrev pub of_replay : Command → Bool
of_replay RunCommand = false
of_replay ReplayCommand = true
of_replay MakeCommand = false

abbrev pub of_both : Command → Bool
of_both RunCommand = true
of_both ReplayCommand = true
of_both MakeCommand = false

abbrev pub of_make : Command → Bool
of_make RunCommand = false
of_make ReplayCommand = false
of_make MakeCommand = true

abbrev pub choices : List Choice
choices =
    record { name = codes "--main"; is_of = of_both; often = Once; form = ClassName }
    ∷ record { name = codes "--class"; is_of = of_both; often = OnceOrMore; form = FileName }
    ∷ record { name = codes "--donor"; is_of = of_both; often = AnyTimes; form = FileName }
    ∷ record { name = codes "--agent"; is_of = of_both; often = AnyTimes; form = FileName }
    ∷ record { name = codes "--schedule"; is_of = of_replay; often = Once; form = FileName }
    ∷ record { name = codes "--workers"; is_of = of_run; often = OnceOr 1; form = NumberIn 1 64 }
    ∷ record { name = codes "--slice"; is_of = of_run; often = OnceOr 1000; form = NumberIn 1 1000000 }
    ∷ record { name = codes "--steps"; is_of = of_both; often = OnceOr 1000000; form = NumberIn 1 4000000 }
    ∷ record { name = codes "--lines"; is_of = of_both; often = OnceOr 10000; form = NumberIn 1 100000 }
    ∷ record { name = codes "--output"; is_of = of_both; often = OnceOr 1048576; form = NumberIn 1 16777216 }
    ∷ record { name = codes "--heap"; is_of = of_both; often = OnceOr 1000000; form = NumberIn 64 16000000 }
    ∷ record { name = codes "--number"; is_of = of_make; often = Once; form = NumberIn 0 999999999 }
    ∷ record { name = codes "--size"; is_of = of_make; often = Once; form = NumberIn 1 10000 }
    ∷ []

-- ---- values

-- one to nine decimal digits without a sign, of which the first is 0 only in `0` itself
abbrev pub number : Word → Option ℕ
number word = if bytes_eq word (codes "0") then Some 0 else numeral word

abbrev pub is_in : ℕ → ℕ → Word → Bool
is_in least most value = option_map_or (λ n. nat_le least n && nat_le n most) (number value) false

abbrev pub has_form : Form → Word → Bool
has_form ClassName value = is_class_name (units_of value)
has_form FileName value = true
has_form (NumberIn least most) value = is_in least most value
