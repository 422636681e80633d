-- Switches (JVM specification 6.5: tableswitch, lookupswitch).
use Rattle.std.specs.Prelude.{true, ◌&&◌, ℤ, ◌-ℤ◌, int_le, unsigned_abs, Option, Some, find, slice_get, unwrap_or, if◌then◌else◌}
use Rattle.std.specs.Option.{option_map}
use Rattle.std.specs.Ordering.{int_eq}
use Rattle.ti_ids.specs.Maybe.{◌>>=◌}
use Rattle.class_code.specs.declared.instr.TableSwitch.{TableSwitch}
use Rattle.class_code.specs.declared.instr.LookupSwitch.{LookupSwitch}
use Rattle.thread_frames.specs.Operands.{OperandStack}
use Rattle.bytecode_local.specs.Kinds.{int_at}
use Rattle.bytecode_local.specs.Changes.{Change, jumping}

-- where an index leads: the first offset is that of `low`
abbrev pub table_offset : TableSwitch → ℤ → ℤ
table_offset table index =
    if int_le table.low index && int_le index table.high
    then unwrap_or (slice_get table.offsets (unsigned_abs (index -ℤ table.low))) table.default
    else table.default

-- where a key leads
abbrev pub lookup_offset : LookupSwitch → ℤ → ℤ
lookup_offset lookup key = unwrap_or (option_map (λ p. p.1) (find (λ p. int_eq p.0 key) lookup.pairs)) lookup.default

abbrev pub table_switched : TableSwitch → OperandStack → Option Change
table_switched table stack = int_at stack 0 >>= λ index. Some (jumping 1 true (table_offset table index))

abbrev pub lookup_switched : LookupSwitch → OperandStack → Option Change
lookup_switched lookup stack = int_at stack 0 >>= λ key. Some (jumping 1 true (lookup_offset lookup key))
