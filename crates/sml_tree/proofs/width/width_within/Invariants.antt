use Rattle.std.proofs.Common.{◌≡◌, ◌+◌, ◌≤◌, drop}
use Rattle.sml_tree.specs.Width.{held_by_user, width}
use Rattle.sml_tree.proofs.width.width_within.Given as goal

abbrev pub invariant-loop-spot : goal.invariant-loop-spot
invariant-loop-spot l = record {
  within : l.total ≤ l.limit;
  done : l.total + held_by_user l.places (drop l.spot-index l.spot-items) ≡ width l.nodes l.places;
}
