-- What some codes read as: the definitions compute.
use Rattle.std.proofs.Common.{◌≡◌, [], ◌∷◌, Some, Err, refl, pos, negsuc}
use Rattle.class_code.specs.declared.fault.InstrFault.TheVariants as instr_fault
use Rattle.class_code.specs.declared.instr.Arithmetic.TheVariants as arithmetic
use Rattle.class_code.specs.declared.instr.IntConst.TheVariants as int_const
use Rattle.class_code.specs.declared.instr.Kind.TheVariants as kind
use Rattle.class_code.specs.declared.instr.Slot.TheVariants as slot
use Rattle.class_code.specs.declared.instr.Padding.TheVariants as padding
use Rattle.class_code.specs.declared.instr.PoolOp.TheVariants as pool_op
use Rattle.class_code.specs.declared.instr.Simple.TheVariants as simple
use Rattle.class_code.specs.declared.instr.Width.TheVariants as width
use Rattle.class_code.specs.declared.instr.Instr.TheVariants as instr
use Rattle.class_code.specs.FormSearch.{form_at}
use Rattle.class_code.specs.CodeReading.{instrs_of, list_of}

-- `System.out.println(2 + 3)`: getstatic, iconst_2, iconst_3, iadd, invokevirtual, return
prints_a_sum : list_of (0xb2 ∷ 0 ∷ 13 ∷ 0x05 ∷ 0x06 ∷ 0x60 ∷ 0xb6 ∷ 0 ∷ 19 ∷ 0xb1 ∷ [])
    ≡ Some (
    (0, instr.Pool pool_op.GetStatic 13)
    ∷ (3, instr.Simple (simple.ConstInt int_const.Two))
    ∷ (4, instr.Simple (simple.ConstInt int_const.Three))
    ∷ (5, instr.Simple (simple.Arithmetic arithmetic.Add width.Int))
    ∷ (6, instr.Pool pool_op.InvokeVirtual 19)
    ∷ (9, instr.Simple simple.ReturnVoid)
    ∷ []
    )
unfolding form_at
prints_a_sum = refl

-- iconst_0, and `fadd` behind it
has_a_fault : instrs_of (0x03 ∷ 0x62 ∷ 0xb1 ∷ []) ≡ Err (instr_fault.Floating, 1)
unfolding form_at
has_a_fault = refl

-- iload_0, a `tableswitch` at 1 of the numbers 7 and 8, and return at 24: 7 leads back to 0
switches : list_of (0x1a ∷ 0xaa ∷ 0 ∷ 0 ∷ 0 ∷ 0 ∷ 0 ∷ 23 ∷ 0 ∷ 0 ∷ 0 ∷ 7 ∷ 0 ∷ 0 ∷ 0 ∷ 8 ∷ 255 ∷ 255 ∷ 255 ∷ 255 ∷ 0 ∷ 0 ∷ 0 ∷ 23 ∷ 0xb1 ∷ [])
    ≡ Some (
    (0, instr.Simple (simple.Load kind.Int slot.Zero))
    ∷ (1, instr.TableSwitch (record { padding = padding.Two 0 0; default = pos 23; low = pos 7; high = pos 8; offsets = negsuc 0 ∷ pos 23 ∷ [] }))
    ∷ (24, instr.Simple simple.ReturnVoid)
    ∷ []
    )
unfolding form_at
switches = refl
