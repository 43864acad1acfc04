use Rattle.std.proofs.Common.{◌≡◌, ◌++◌, map, drop}
use Rattle.lambda_laws.specs.Make.{term_of}
use Rattle.lambda_make.proofs.terms.terms.Given as goal

abbrev pub invariant-loop-node : goal.invariant-loop-node
invariant-loop-node l =
    l.found ++ map (term_of l.tables.names l.nodes) (drop l.node-index l.nodes) ≡ map (term_of l.tables.names l.nodes) l.nodes
