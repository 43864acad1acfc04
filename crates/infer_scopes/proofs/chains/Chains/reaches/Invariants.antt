use Rattle.infer_scopes.specs.Chains.{AreAmong}
use Rattle.infer_scopes.proofs.ChainFacts.{height}
use Rattle.infer_scopes.proofs.chains.Chains.reaches.Given as goal

abbrev pub invariant-cells : goal.invariant-cells
invariant-cells l = AreAmong l.self l.at l.fn.head

abbrev pub decreases-cells : goal.decreases-cells
decreases-cells l = height l.at
