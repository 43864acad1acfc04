use Rattle.std.proofs.Common.{take, length}
use Rattle.std.specs.List.{AllByRecursion}
use Rattle.sml_types.specs.Typing.{made_below}
use Rattle.infer_tables.specs.Known.{Asks, IsStep}
use Rattle.infer_tables.proofs.nodes.add_nodes.Given as goal

abbrev pub invariant-nodes : goal.invariant-nodes
invariant-nodes l = IsStep l.bare (λ t. AllByRecursion (Asks l.bare t) (take l.at l.nodes)) (length (made_below l.nodes l.at)) l.fn.types l.fn.known l.types l.known
