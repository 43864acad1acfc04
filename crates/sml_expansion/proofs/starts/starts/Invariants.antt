use Rattle.std.proofs.Common.{◌≡◌, drop}
use Rattle.sml_expansion.specs.Starts.{starts_behind, starts_of}
use Rattle.sml_expansion.proofs.starts.starts.Given as goal

abbrev pub invariant-loop-node : goal.invariant-loop-node
invariant-loop-node l = starts_behind l.starts.items (drop l.node-index l.nodes) ≡ starts_of l.nodes
