use Rattle.infer_scopes.specs.Scopes.{contexts_of}
use Rattle.infer_checks.specs.Checked.{AreFinishedBelow}
use Rattle.infer_checks.proofs.checked.check_nodes.Given as goal

abbrev pub invariant-nodes : goal.invariant-nodes
invariant-nodes l = AreFinishedBelow l.bare l.declared (contexts_of l.scopes) l.settled l.general l.unknowns l.renames l.node
