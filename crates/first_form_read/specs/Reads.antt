-- What reading answers.
use Rattle.std.specs.Prelude.{◌≡◌, Option, Some, None, Result, Ok, Err}
use Rattle.first_form.specs.ClassFiles.{MainClass}
use Rattle.first_form_read.specs.declared.read.ReadClassFault.{ReadClassFault}
use Rattle.first_form_read.specs.declared.read.ReadClassFault.TheVariants.{Unsupported, Memory}

-- the class, or its absence, which is told as a fault at the first byte, unless memory ran out
abbrev pub Reads : Result MainClass ReadClassFault → Option MainClass → Type 0
Reads (Ok c) read = read ≡ Some c
Reads (Err (Unsupported at)) read = (read ≡ None) × (at ≡ 0)
Reads (Err Memory) read = Unit {0}
