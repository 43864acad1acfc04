use Rattle.std.proofs.Common.{string_bytes, rules}
use Rattle.smlc_words.specs.Arguments.{given}
use Rattle.smlc_words.proofs.Reading.{none_left}
use Rattle.smlc_words.proofs.arguments.Arguments.read.Goals as goal

pub returns-clause-some : goal.returns-clause-some
returns-clause-some c = (c.loop-rest.invariant (given c.loop-rest.arguments)).1 (none_left string_bytes c.loop-rest.rest.now _ (search rules))
