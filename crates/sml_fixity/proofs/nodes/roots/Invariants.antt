use Rattle.std.proofs.Common.{◌≡◌, ℕ, List, Some, [], drop, reverse}
use Rattle.sml_tree.specs.Tree.{roots}
use Rattle.sml_fixity.proofs.nodes.roots.Given as goal

abbrev pub invariant-loop-i : goal.invariant-loop-i
invariant-loop-i l = (numbers : List ℕ) → roots 0 [] l.nodes ≡ Some numbers → roots l.i (reverse l.stack.items) (drop l.i l.nodes) ≡ Some numbers
