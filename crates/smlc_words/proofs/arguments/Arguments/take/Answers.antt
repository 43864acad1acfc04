use Rattle.std.proofs.Common.{string_bytes, ap}
use Rattle.smlc_words.specs.Arguments.{given}
use Rattle.smlc_words.proofs.Reading.{operand_taken, option_taken, value_refused, one_more}
use Rattle.smlc_words.proofs.arguments.Arguments.take.Goals as goal

pub returns-then-set-clause-some : goal.returns-then-set-clause-some
returns-then-set-clause-some c =
    option_taken string_bytes c.args.words.now c.word-item.result c.value-item.result _ _ c.in-Some.flag _ _ c.in-len1-up.len_at_least c.word-item.is c.as_str-word.ensures.value
    c.in-len1-up-rest.len_at_least c.value-item.is c.deref.ensures c.in-Some.ensures.some (c.set.ensures.set c.if-set.true)

pub returns-else-set-clause-none : goal.returns-else-set-clause-none
returns-else-set-clause-none c h =
    value_refused string_bytes c.args.words.now c.word-item.result c.value-item.result _ _ c.in-Some.flag _ c.in-len1-up.len_at_least c.word-item.is c.as_str-word.ensures.value
    c.in-len1-up-rest.len_at_least c.value-item.is c.deref.ensures c.in-Some.ensures.some (c.set.ensures.refused c.if-set.false)

pub returns-in_ok-push-in-None-clause-some : goal.returns-in_ok-push-in-None-clause-some
returns-in_ok-push-in-None-clause-some c =
    let old = given c.args.self.now in
    operand_taken string_bytes c.args.words.now c.word-item.result c.as_str-word.result.now old _ c.in-len1-up.len_at_least c.word-item.is c.as_str-word.ensures.value
    (c.is_operand.ensures.0 c.if-is_operand.true)
    (ap (λ words. record old { operands = words }) (one_more (λ word. word.now) c.args.self.now.operands.items c.push.new.self.items c.as_str-word.result c.in_ok-push-in-None.ensures.items))
