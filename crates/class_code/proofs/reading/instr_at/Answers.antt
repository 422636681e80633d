use Rattle.class_code.proofs.Listings.{bytes_fit}
use Rattle.class_code.proofs.InstrCases.{read, refused}
use Rattle.class_code.proofs.reading.instr_at.Goals as goal

pub returns-clause-read : goal.returns-clause-read
returns-clause-read c = read (λ x. x.0) (λ x. x.1.now) c.args.at c.args.bytes.now c.first_instr.result c.first_instr.ensures.found c.first_instr.ensures.fits

pub returns-clause-refused : goal.returns-clause-refused
returns-clause-refused c = refused c.args.at c.args.bytes.now c.first_instr.result (bytes_fit c.args.bytes.now c.type_inv.bytes) c.first_instr.ensures.fault
