use Rattle.std.proofs.Common.{ℕ, ◌<◌}
use Rattle.infer_scopes.specs.Prefix.{IsGoodAt}
use Rattle.infer_scopes.proofs.prefix.is_prefix.Given as goal

abbrev pub invariant-nodes : goal.invariant-nodes
invariant-nodes l = (i : ℕ) → i < l.at → IsGoodAt l.nodes l.count i
