use Rattle.std.proofs.Common.{◌≡◌, ◌++◌, reverse}
use Rattle.std.specs.Prelude.{flat_map}
use Rattle.sml_tree.specs.Points.{spots_at, spots}
use Rattle.sml_tree.proofs.Walk.{total, turns_at}
use Rattle.sml_tree.proofs.points.points_of.Given as goal

abbrev pub invariant-loop-part : goal.invariant-loop-part
invariant-loop-part l =
    l.found.items ++ flat_map (λ q. spots_at l.nodes q.node q.context) (reverse l.work.items) ≡ spots l.nodes

abbrev pub decreases-loop-part : goal.decreases-loop-part
decreases-loop-part l = total (turns_at l.nodes) (reverse l.work.items)
