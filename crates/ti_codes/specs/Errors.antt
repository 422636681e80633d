-- What a tool call answers (JVM TI, "Error Codes", `jvmtiError`): the number and the name of each.
use Rattle.std.specs.Prelude.{ℕ, Bool, ◌==◌, List, [], ◌∷◌, Option, find, bytes_eq, codes}
use Rattle.ti_codes.specs.declared.error.ErrorCode.{ErrorCode}
use Rattle.ti_codes.specs.declared.error.ErrorCode.TheVariants as errors

pub record ErrorRow : Type 0 where
  pub number : ℕ
  -- as the interface writes it, without `JVMTI_ERROR_`
  pub name : List ℕ

abbrev pub error_row : ErrorCode → ErrorRow
error_row errors.None = record { number = 0; name = codes "NONE" }
error_row errors.InvalidThread = record { number = 10; name = codes "INVALID_THREAD" }
error_row errors.ThreadNotSuspended = record { number = 13; name = codes "THREAD_NOT_SUSPENDED" }
error_row errors.ThreadSuspended = record { number = 14; name = codes "THREAD_SUSPENDED" }
error_row errors.ThreadNotAlive = record { number = 15; name = codes "THREAD_NOT_ALIVE" }
error_row errors.InvalidObject = record { number = 20; name = codes "INVALID_OBJECT" }
error_row errors.InvalidClass = record { number = 21; name = codes "INVALID_CLASS" }
error_row errors.InvalidMethod = record { number = 23; name = codes "INVALID_METHODID" }
error_row errors.InvalidLocation = record { number = 24; name = codes "INVALID_LOCATION" }
error_row errors.InvalidField = record { number = 25; name = codes "INVALID_FIELDID" }
error_row errors.NoMoreFrames = record { number = 31; name = codes "NO_MORE_FRAMES" }
error_row errors.OpaqueFrame = record { number = 32; name = codes "OPAQUE_FRAME" }
error_row errors.TypeMismatch = record { number = 34; name = codes "TYPE_MISMATCH" }
error_row errors.InvalidSlot = record { number = 35; name = codes "INVALID_SLOT" }
error_row errors.Duplicate = record { number = 40; name = codes "DUPLICATE" }
error_row errors.NotFound = record { number = 41; name = codes "NOT_FOUND" }
error_row errors.InvalidClassFormat = record { number = 60; name = codes "INVALID_CLASS_FORMAT" }
error_row errors.FailsVerification = record { number = 62; name = codes "FAILS_VERIFICATION" }
error_row errors.MethodAdded = record { number = 63; name = codes "UNSUPPORTED_REDEFINITION_METHOD_ADDED" }
error_row errors.SchemaChanged = record { number = 64; name = codes "UNSUPPORTED_REDEFINITION_SCHEMA_CHANGED" }
error_row errors.HierarchyChanged = record { number = 66; name = codes "UNSUPPORTED_REDEFINITION_HIERARCHY_CHANGED" }
error_row errors.MethodDeleted = record { number = 67; name = codes "UNSUPPORTED_REDEFINITION_METHOD_DELETED" }
error_row errors.UnsupportedVersion = record { number = 68; name = codes "UNSUPPORTED_VERSION" }
error_row errors.NamesDontMatch = record { number = 69; name = codes "NAMES_DONT_MATCH" }
error_row errors.ClassModifiersChanged = record { number = 70; name = codes "UNSUPPORTED_REDEFINITION_CLASS_MODIFIERS_CHANGED" }
error_row errors.MethodModifiersChanged = record { number = 71; name = codes "UNSUPPORTED_REDEFINITION_METHOD_MODIFIERS_CHANGED" }
error_row errors.UnmodifiableClass = record { number = 79; name = codes "UNMODIFIABLE_CLASS" }
error_row errors.NotAvailable = record { number = 98; name = codes "NOT_AVAILABLE" }
error_row errors.MustPossessCapability = record { number = 99; name = codes "MUST_POSSESS_CAPABILITY" }
error_row errors.InvalidEventType = record { number = 102; name = codes "INVALID_EVENT_TYPE" }
error_row errors.IllegalArgument = record { number = 103; name = codes "ILLEGAL_ARGUMENT" }
error_row errors.WrongPhase = record { number = 112; name = codes "WRONG_PHASE" }
error_row errors.InvalidEnvironment = record { number = 116; name = codes "INVALID_ENVIRONMENT" }

-- in the order of their numbers
abbrev pub all_errors : List ErrorCode
all_errors =
    errors.None ∷ errors.InvalidThread ∷ errors.ThreadNotSuspended ∷ errors.ThreadSuspended ∷ errors.ThreadNotAlive
    ∷ errors.InvalidObject ∷ errors.InvalidClass ∷ errors.InvalidMethod ∷ errors.InvalidLocation ∷ errors.InvalidField
    ∷ errors.NoMoreFrames ∷ errors.OpaqueFrame ∷ errors.TypeMismatch ∷ errors.InvalidSlot ∷ errors.Duplicate ∷ errors.NotFound
    ∷ errors.InvalidClassFormat ∷ errors.FailsVerification ∷ errors.MethodAdded ∷ errors.SchemaChanged ∷ errors.HierarchyChanged
    ∷ errors.MethodDeleted ∷ errors.UnsupportedVersion ∷ errors.NamesDontMatch ∷ errors.ClassModifiersChanged
    ∷ errors.MethodModifiersChanged ∷ errors.UnmodifiableClass ∷ errors.NotAvailable ∷ errors.MustPossessCapability
    ∷ errors.InvalidEventType ∷ errors.IllegalArgument ∷ errors.WrongPhase ∷ errors.InvalidEnvironment ∷ []

-- ---- what follows from the rows

abbrev pub error_number : ErrorCode → ℕ
error_number error = (error_row error).number

abbrev pub error_name : ErrorCode → List ℕ
error_name error = (error_row error).name

abbrev pub is_same_error : ErrorCode → ErrorCode → Bool
is_same_error a b = error_number a == error_number b

abbrev pub error_of_number : ℕ → Option ErrorCode
error_of_number number = find (λ error. number == error_number error) all_errors

abbrev pub error_of_name : List ℕ → Option ErrorCode
error_of_name name = find (λ error. bytes_eq name (error_name error)) all_errors
