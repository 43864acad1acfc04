use Rattle.std.proofs.Common.{◌≡◌, ◌++◌}
use Rattle.infer_scopes.specs.Chains.{chain}
use Rattle.infer_scopes.proofs.ChainFacts.{height}
use Rattle.infer_scopes.proofs.chains.Chains.items.Given as goal

abbrev pub invariant-cells : goal.invariant-cells
invariant-cells l = l.found.items ++ chain l.self l.at ≡ chain l.self l.fn.head

abbrev pub decreases-cells : goal.decreases-cells
decreases-cells l = height l.at
