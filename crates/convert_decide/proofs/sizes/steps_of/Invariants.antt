use Rattle.std.proofs.Common.{◌≡◌, ◌+◌, drop}
use Rattle.convert_laws.specs.Convert.{steps_from, steps_of}
use Rattle.convert_decide.proofs.sizes.steps_of.Given as goal

abbrev pub invariant-loop-named : goal.invariant-loop-named
invariant-loop-named l = l.total + steps_from l.gone (drop l.named-index l.names) ≡ steps_of l.names
