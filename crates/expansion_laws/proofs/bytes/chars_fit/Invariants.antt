use Rattle.std.proofs.Common.{drop}
use Rattle.std.specs.List.{AllByRecursion}
use Rattle.expansion_laws.specs.Laws.{CharFits}
use Rattle.expansion_laws.proofs.bytes.chars_fit.Given as goal

abbrev pub invariant-loop-node : goal.invariant-loop-node
invariant-loop-node l = AllByRecursion CharFits (drop l.node-index l.nodes) → AllByRecursion CharFits l.nodes
