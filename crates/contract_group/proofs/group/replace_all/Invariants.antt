use Rattle.std.proofs.Common.{◌≡◌, ◌-◌, length, drop}
use Rattle.contract_group.specs.Group.{group_places}
use Rattle.contract_group.proofs.group.replace_all.Given as goal

abbrev pub invariant-loop-i : goal.invariant-loop-i
invariant-loop-i l = group_places (drop l.i l.roles) (drop l.i l.functions) l.places.items ≡ group_places l.roles l.functions l.fn.places.items

abbrev pub decreases-loop-i : goal.decreases-loop-i
decreases-loop-i l = length l.functions - l.i
