use Rattle.std.proofs.Common.{string_bytes}
use Rattle.smlc_words.specs.Arguments.{given}
use Rattle.smlc_words.proofs.Once.{nothing_asked, answer_in_range, held}
use Rattle.smlc_words.proofs.words.command.Goals as goal

pub returns-in-Ok-Some-clause-none : goal.returns-in-Ok-Some-clause-none
returns-in-Ok-Some-clause-none c =
    nothing_asked string_bytes c.args.words.now c.name-item.result _ (given c.in-Ok-Some.arguments) c.command_of.result
    c.in-len2-up.len_at_least c.name-item.is c.deref.ensures (held _ _ _ c.in-Ok-Some.field-0-is c.in-Ok-Some.ensures.some) c.command_of.ensures

pub returns-in-Ok-Some-clause-range : goal.returns-in-Ok-Some-clause-range
returns-in-Ok-Some-clause-range c =
    answer_in_range c.deref.result.now _ (given c.in-Ok-Some.arguments) c.command_of.result (held _ _ _ c.in-Ok-Some.field-0-is c.in-Ok-Some.ensures.some) c.command_of.ensures
