use Rattle.std.proofs.Common.{◌∙◌, sym}
use Rattle.type_states.proofs.Loads.{word_put, words_put}
use Rattle.type_states.proofs.loading.set_words.Goals as goal

pub returns-then-is_long : goal.returns-then-is_long
returns-then-is_long c = words_put c.args.locals.now c.args.at c.args.t c.requires (sym c.is_long.ensures ∙ c.if-is_long.true)

pub returns-else-is_long : goal.returns-else-is_long
returns-else-is_long c = word_put c.args.locals.now c.args.at c.args.t c.requires (sym c.is_long.ensures ∙ c.if-is_long.false)
