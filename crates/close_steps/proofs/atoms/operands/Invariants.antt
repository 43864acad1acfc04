use Rattle.std.proofs.Common.{◌≡◌, map, take}
use Rattle.close_laws.specs.Lower.{operand_of}
use Rattle.close_steps.specs.Visible.{visible, places_in}
use Rattle.close_steps.proofs.atoms.operands.Given as goal

abbrev pub invariant-loop-atom : goal.invariant-loop-atom
invariant-loop-atom l = l.operands ≡ map (operand_of (places_in l.decisions (visible l.scopes l.environment))) (take l.atom-index l.atoms)
