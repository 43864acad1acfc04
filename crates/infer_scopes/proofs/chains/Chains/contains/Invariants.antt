use Rattle.std.proofs.Common.{◌≡◌}
use Rattle.sml_types.specs.Poly.{is_in}
use Rattle.infer_scopes.specs.Chains.{chain}
use Rattle.infer_scopes.proofs.ChainFacts.{height}
use Rattle.infer_scopes.proofs.chains.Chains.contains.Given as goal

abbrev pub invariant-cells : goal.invariant-cells
invariant-cells l = is_in (chain l.self l.at) l.item ≡ is_in (chain l.self l.fn.head) l.item

abbrev pub decreases-cells : goal.decreases-cells
decreases-cells l = height l.at
