use Rattle.std.proofs.Common.{◌≡◌, ◌+◌, ◌≤◌, ℕ, List, [], length, Option, Some, None, true, sym, subst, arith}
use Rattle.std.specs.Prelude.{IfSome}
use Rattle.first_form.specs.declared.Instr.{Instr}
use Rattle.first_form.specs.Instructions.{listing, at_pc, size, fits, NamesKnown}
use Rattle.first_form.specs.ClassFiles.{MainClass}
use Rattle.first_form_read.proofs.Accepted.{fits_of}
use Rattle.first_form_read.proofs.Looked.{size_within}
use Rattle.first_form_read.proofs.Typed.{names_known}
use Rattle.first_form_read.proofs.class_file.ClassFile.instr_at.Goals as goal

ends_within : (code : List ℕ) (l : List (ℕ × Instr)) (pc : ℕ) (r : Option Instr) → listing code ≡ Some l → r ≡ at_pc pc l
    → IfSome r (λ i. pc + size i ≤ length code)
ends_within code l pc None is e = tt
ends_within code l pc (Some i) is e = let h = size_within 0 0 code l pc i is (sym e) in omega arith

names_of : (l : List (ℕ × Instr)) (pc : ℕ) (r : Option Instr) → fits 3 [] l ≡ true → r ≡ at_pc pc l → IfSome r NamesKnown
names_of l pc None fit e = tt
names_of l pc (Some i) fit e = names_known 3 [] l pc i fit (sym e)

pub returns-clause-within : goal.returns-clause-within
returns-clause-within c =
    subst (λ (k : MainClass). IfSome c.get.result (λ i. c.args.pc + size i ≤ length k.code)) c.self.view_is
    (ends_within c.self.inside.code.items c.self.inside.listing c.args.pc c.get.result c.self.invariant.listed c.get.ensures)

pub returns-clause-names : goal.returns-clause-names
returns-clause-names c =
    names_of c.self.inside.listing c.args.pc c.get.result (fits_of c.self.inside.code.items c.self.inside.listing c.self.invariant.coded c.self.invariant.listed) c.get.ensures
