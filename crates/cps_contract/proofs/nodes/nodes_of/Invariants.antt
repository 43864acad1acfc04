use Rattle.std.specs.Prelude.{◌≡◌, ◌+◌}
use Rattle.cps_ir.specs.Program.{code_at}
use Rattle.contract_laws.specs.Redex.{nodes}
use Rattle.cps_contract.proofs.Parts.{parts_nodes}
use Rattle.cps_contract.proofs.nodes.nodes_of.Given as goal

abbrev pub invariant-loop-at : goal.invariant-loop-at
invariant-loop-at l = l.count + parts_nodes (code_at l.bodies) l.work.items ≡ nodes (code_at l.bodies 0)

abbrev pub decreases-loop-at : goal.decreases-loop-at
decreases-loop-at l = parts_nodes (code_at l.bodies) l.work.items
