-- The index of a whole instruction is the one that is read behind its opcode.
use Rattle.std.proofs.Common.{◌≡◌, ℕ, ◌<◌, List, ◌∷◌, ◌++◌, refl, ap, lit<, ◌∙◌}
use Rattle.class_code.specs.declared.form.Form.{Form}
use Rattle.class_code.specs.declared.form.Form.TheVariants as form
use Rattle.class_code.specs.declared.instr.Instr.{Instr}
use Rattle.class_code.specs.declared.instr.Instr.TheVariants as instr
use Rattle.class_code.specs.declared.pool.PoolUse.TheVariants as used
use Rattle.class_code.specs.Spelling.{spelling}
use Rattle.class_code.specs.Ranges.{Fits}
use Rattle.class_code.specs.Forms.{IsForm}
use Rattle.class_code.specs.PoolUses.{op_use, pool_use, index_for, form_use, pool_use_at}
use Rattle.class_code.proofs.FormAt.{simple_again, branch_again, pool_again, load_again, store_again, form_is}
use Rattle.class_code.proofs.Take.{u2_again}

-- what is read behind an opcode of a form is what is read at the front
pub front_use : (b : ℕ) (f : Form) (bytes rest : List ℕ) → b < 256 → IsForm b f → bytes ≡ b ∷ rest → form_use f rest ≡ pool_use_at bytes
front_use b f bytes rest lt is parts = rw (parts, form_is b f lt is) refl

spelled_use : (i : Instr) (rest : List ℕ) → Fits i → pool_use_at (spelling i ++ rest) ≡ pool_use i
spelled_use (instr.Simple s) rest fits = rw (simple_again s) refl
spelled_use (instr.PushByte n) rest fits = rw (form_is 0x10 form.PushByte (lit< tt) refl) refl
spelled_use (instr.PushShort n) rest fits = rw (form_is 0x11 form.PushShort (lit< tt) refl) refl
spelled_use (instr.LoadConst index) rest fits = rw (form_is 0x12 form.LoadConst (lit< tt) refl) refl
spelled_use (instr.Load k place) rest fits = rw (load_again k) refl
spelled_use (instr.LoadWide k place) rest fits = rw (form_is 0xc4 form.Wide (lit< tt) refl) refl
spelled_use (instr.Store k place) rest fits = rw (store_again k) refl
spelled_use (instr.StoreWide k place) rest fits = rw (form_is 0xc4 form.Wide (lit< tt) refl) refl
spelled_use (instr.Increment place by) rest fits = rw (form_is 0x84 form.Increment (lit< tt) refl) refl
spelled_use (instr.IncrementWide place by) rest fits = rw (form_is 0xc4 form.Wide (lit< tt) refl) refl
spelled_use (instr.Branch when by) rest fits = rw (branch_again when) refl
spelled_use (instr.GotoWide by) rest fits = rw (form_is 0xc8 form.GotoWide (lit< tt) refl) refl
spelled_use (instr.TableSwitch t) rest fits = rw (form_is 0xaa form.TableSwitch (lit< tt) refl) refl
spelled_use (instr.LookupSwitch l) rest fits = rw (form_is 0xab form.LookupSwitch (lit< tt) refl) refl
spelled_use (instr.Pool o index) rest fits = rw (pool_again o) (ap (index_for (op_use o)) (u2_again index rest fits))
spelled_use (instr.InvokeInterface index count) rest fits = rw (form_is 0xb9 form.InvokeInterface (lit< tt) refl) (ap (index_for used.InterfaceMethod) (u2_again index (count ∷ 0 ∷ rest) fits.0))
spelled_use (instr.NewArray of) rest fits = rw (form_is 0xbc form.NewArray (lit< tt) refl) refl
spelled_use (instr.MultiNewArray index dimensions) rest fits = rw (form_is 0xc5 form.MultiNewArray (lit< tt) refl) (ap (index_for used.Class) (u2_again index (dimensions ∷ rest) fits.0))
spelled_use (instr.PushInt n) rest fits = absurd fits
spelled_use (instr.PushLong n) rest fits = absurd fits

-- Of a whole instruction at the front it is the instruction's own.
pub use_of_whole : (i : Instr) (bytes rest : List ℕ) → Fits i → bytes ≡ spelling i ++ rest → pool_use_at bytes ≡ pool_use i
use_of_whole i bytes rest fits parts = ap pool_use_at parts ∙ spelled_use i rest fits
