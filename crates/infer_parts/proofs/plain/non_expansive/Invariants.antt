use Rattle.std.specs.Prelude.{◌≤◌, length}
use Rattle.infer_parts.specs.Plain.{IsPlainFrom}
use Rattle.infer_parts.proofs.plain.non_expansive.Given as goal

abbrev pub invariant-nodes : goal.invariant-nodes
invariant-nodes l = (l.i ≤ length l.nodes) × IsPlainFrom l.nodes l.i l.table.items

abbrev pub decreases-nodes : goal.decreases-nodes
decreases-nodes l = l.i
