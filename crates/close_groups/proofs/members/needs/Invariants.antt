use Rattle.std.proofs.Common.{◌≡◌, take}
use Rattle.close_groups.specs.Group.{needs_in}
use Rattle.close_groups.proofs.members.needs.Given as goal

abbrev pub invariant-loop-name : goal.invariant-loop-name
invariant-loop-name l = l.needs.items ≡ needs_in l.decisions (take l.name-index l.names)
