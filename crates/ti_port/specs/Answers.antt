-- What a store over the system's files answers for what a read of one came to.
use Rattle.std.specs.Prelude.{Result, Ok, Err}
use Rattle.std.specs.declared.alloc.AllocError.{AllocError}
use Rattle.std.specs.declared.io.ErrorKind.TheVariants.{NotFound}
use Rattle.ti_port.specs.declared.store.Fetched.{Fetched}
use Rattle.ti_port.specs.declared.store.Fetched.TheVariants.{Absent, Failed}
use Rattle.ti_port.specs.declared.file_store.ReadFault.{ReadFault}
use Rattle.ti_port.specs.declared.file_store.ReadFault.TheVariants.{System, Memory}

-- a file that the system doesn't know is absent, each other answer of the system is a failed fetch, and a refused allocation of the
-- call's own is its error
abbrev pub answer : Result Fetched ReadFault → Result Fetched AllocError
answer (Ok fetched) = Ok fetched
answer (Err Memory) = Err (record {})
answer (Err (System NotFound)) = Ok Absent
answer (Err (System _)) = Ok Failed
