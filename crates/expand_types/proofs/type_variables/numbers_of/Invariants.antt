use Rattle.std.proofs.Common.{◌≡◌, take}
use Rattle.sml_expansion.specs.TypeVariables.{numbers_of}
use Rattle.expand_types.proofs.type_variables.numbers_of.Given as goal

abbrev pub invariant-loop-number : goal.invariant-loop-number
invariant-loop-number l = l.numbers ≡ numbers_of (take l.number-index l.vars)
