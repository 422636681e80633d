-- The phases of the machine (JVM TI, "GetPhase", `jvmtiPhase`).
use Rattle.std.specs.Prelude.{ℕ, Bool, ◌==◌}
use Rattle.ti_codes.specs.declared.phase.Phase.{Phase}
use Rattle.ti_codes.specs.declared.phase.Phase.TheVariants.{OnLoad, Primordial, Live, Start, Dead}

abbrev pub phase_number : Phase → ℕ
phase_number OnLoad = 1
phase_number Primordial = 2
phase_number Live = 4
phase_number Start = 6
phase_number Dead = 8

abbrev pub is_same_phase : Phase → Phase → Bool
is_same_phase a b = phase_number a == phase_number b
