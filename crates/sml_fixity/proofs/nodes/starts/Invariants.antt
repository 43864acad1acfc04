use Rattle.std.proofs.Common.{◌≡◌, ◌++◌, [], drop, reverse}
use Rattle.sml_fixity.specs.Nodes.{places, starts_of}
use Rattle.sml_fixity.proofs.nodes.starts.Given as goal

abbrev pub invariant-loop-one : goal.invariant-loop-one
invariant-loop-one l = l.starts.items ++ starts_of (places l.tokens l.end) l.end (reverse l.stack.items) (drop l.one-index l.made) ≡ starts_of (places l.tokens l.end) l.end [] l.made
