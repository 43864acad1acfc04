use Rattle.smlc_words.proofs.Once.{asks_once, asks_in_range}
use Rattle.smlc_words.proofs.laws.words_ask_once.Goals as goal

pub returns-clause-once : goal.returns-clause-once
returns-clause-once c = asks_once

pub returns-clause-range : goal.returns-clause-range
returns-clause-range c = asks_in_range
