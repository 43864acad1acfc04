use Rattle.std.proofs.Common.{◌↔◌, length, map, string_bytes}
use Rattle.smlc_words.specs.Given.{Given, nothing, IsGiven}
use Rattle.smlc_words.specs.Arguments.{given}
use Rattle.smlc_words.proofs.arguments.Arguments.read.Given as goal

abbrev pub invariant-loop-rest : goal.invariant-loop-rest
invariant-loop-rest l = (whole : Given) → IsGiven whole nothing (map string_bytes l.fn.words) ↔ IsGiven whole (given l.arguments) (map string_bytes l.rest)

abbrev pub decreases-loop-rest : goal.decreases-loop-rest
decreases-loop-rest l = length l.rest
