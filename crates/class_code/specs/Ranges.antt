-- The operands' ranges (JVM specification 6.5): each is a number of its type. A number in a definition has no range of its own.
use Rattle.std.specs.Prelude.{ℤ, ◌<◌, ◌^◌, FitsSigned}
use Rattle.std.specs.Int.{w8, w16, w32}
use Rattle.std.specs.List.{AllByRecursion}
use Rattle.class_code.specs.declared.instr.TableSwitch.{TableSwitch}
use Rattle.class_code.specs.declared.instr.LookupSwitch.{LookupSwitch}
use Rattle.class_code.specs.declared.instr.Instr.{Instr}
use Rattle.class_code.specs.declared.instr.Instr.TheVariants as instr

abbrev pub PairFits : ℤ × ℤ → Type 0
PairFits p = FitsSigned w32 p.0 × FitsSigned w32 p.1

pub record TableFits (t : TableSwitch) : Type 0 where
  pub default : FitsSigned w32 t.default
  pub low : FitsSigned w32 t.low
  pub high : FitsSigned w32 t.high
  pub offsets : AllByRecursion (FitsSigned w32) t.offsets

pub record LookupFits (l : LookupSwitch) : Type 0 where
  pub default : FitsSigned w32 l.default
  pub pairs : AllByRecursion PairFits l.pairs

-- The instruction may stand in code, as far as its numbers tell it. What only a list made ready for running holds may not.
abbrev pub Fits : Instr → Type 0
Fits (instr.Simple s) = Unit {0}
Fits (instr.PushByte n) = FitsSigned w8 n
Fits (instr.PushShort n) = FitsSigned w16 n
Fits (instr.LoadConst index) = index < 256
Fits (instr.Load k local) = local < 256
Fits (instr.LoadWide k local) = local < 2 ^ 16
Fits (instr.Store k local) = local < 256
Fits (instr.StoreWide k local) = local < 2 ^ 16
Fits (instr.Increment local by) = (local < 256) × FitsSigned w8 by
Fits (instr.IncrementWide local by) = (local < 2 ^ 16) × FitsSigned w16 by
Fits (instr.Branch when by) = FitsSigned w16 by
Fits (instr.GotoWide by) = FitsSigned w32 by
Fits (instr.TableSwitch t) = TableFits t
Fits (instr.LookupSwitch l) = LookupFits l
Fits (instr.Pool o index) = index < 2 ^ 16
Fits (instr.InvokeInterface index count) = (index < 2 ^ 16) × (count < 256)
Fits (instr.NewArray of) = Unit {0}
Fits (instr.MultiNewArray index dimensions) = (index < 2 ^ 16) × (dimensions < 256)
Fits (instr.PushInt n) = ⊥
Fits (instr.PushLong n) = ⊥
