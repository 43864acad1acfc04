use Rattle.std.proofs.Common.{◌≡◌, take}
use Rattle.sml_tree.specs.Sets.{row_at}
use Rattle.live_classes.specs.Keys.{key_at, classes_by}
use Rattle.live_classes.proofs.classing.classes_among.Given as goal

abbrev pub invariant-loop-x : goal.invariant-loop-x
invariant-loop-x l = l.found.items ≡ classes_by (key_at l.homes l.users) (row_at l.users) l.variables (take l.x-index l.variables)
