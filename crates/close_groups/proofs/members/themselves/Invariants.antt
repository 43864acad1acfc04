use Rattle.std.proofs.Common.{◌≡◌, take}
use Rattle.close_groups.specs.Group.{themselves}
use Rattle.close_groups.proofs.members.themselves.Given as goal

abbrev pub invariant-loop-name : goal.invariant-loop-name
invariant-loop-name l = l.bounds.items ≡ themselves (take l.name-index l.names)
