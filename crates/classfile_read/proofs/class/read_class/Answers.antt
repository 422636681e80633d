use Rattle.std.proofs.Common.{Ok, Err}
use Rattle.std.proofs.lemmas.Result.{err_from_is_err_and}
use Rattle.class_tree.specs.Trees.{Tree}
use Rattle.classfile_read.specs.ClassTree.{tree}
use Rattle.classfile_read.proofs.ClassLaws.{class_sound, read_bytes, only_of}
use Rattle.classfile_read.proofs.class.read_class.Goals as goal

pub invariant_of-result : goal.invariant_of-result
invariant_of-result c = (class_sound c.args.bytes.now (tree c.in_ok-minor.field-0) (read_bytes c.args.bytes.now c.type_inv.bytes) c.in_ok-minor.ensures).well_formed

pub returns-clause-found : goal.returns-clause-found
returns-clause-found c = class_sound c.args.bytes.now (tree c.in_ok-minor.field-0) (read_bytes c.args.bytes.now c.type_inv.bytes) c.in_ok-minor.ensures

pub returns-clause-only : goal.returns-clause-only
returns-clause-only c = λ t spelled. only_of (λ (v : Tree). v) c.args.bytes.now (Ok (tree c.in_ok-minor.field-0)) c.in_ok-minor.ensures t spelled

pub returns-in_err-minor-clause-only : goal.returns-in_err-minor-clause-only
returns-in_err-minor-clause-only c = λ t spelled.
    let p = err_from_is_err_and c.from_residual.result c.from_residual.ensures.1 in
    rw (p.1, p.2) (only_of (λ (v : Tree). v) c.args.bytes.now (Err c.in_err-minor.field-0.0) c.in_err-minor.ensures t spelled)
