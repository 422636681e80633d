use Rattle.std.proofs.Common.{◌∙◌}
use Rattle.class_code.proofs.PoolLaws.{front_use, use_of_whole}
use Rattle.class_code.proofs.pool.pool_use_at.Goals as goal

pub returns-in-Ok-clause-value : goal.returns-in-Ok-clause-value
returns-in-Ok-clause-value c = c.form_use.ensures ∙ front_use c.in-Ok.opcode c.form_of.result c.args.bytes.now c.in-Ok.rest.now c.in-Ok.ensures.range c.form_of.ensures c.in-Ok.ensures.found

pub returns-in-Ok-clause-whole : goal.returns-in-Ok-clause-whole
returns-in-Ok-clause-whole c = λ i rest fits parts.
    c.form_use.ensures ∙ front_use c.in-Ok.opcode c.form_of.result c.args.bytes.now c.in-Ok.rest.now c.in-Ok.ensures.range c.form_of.ensures c.in-Ok.ensures.found
    ∙ use_of_whole i c.args.bytes.now rest fits parts
