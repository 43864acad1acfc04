use Rattle.std.proofs.Common.{◌≡◌, ◌-◌, length, drop}
use Rattle.contract_group.specs.Group.{group_placed}
use Rattle.contract_group.proofs.group.place_all.Given as goal

abbrev pub invariant-loop-i : goal.invariant-loop-i
invariant-loop-i l = group_placed (drop l.i l.roles) (drop l.i l.functions) l.placed.items ≡ group_placed l.roles l.functions l.fn.placed.items

abbrev pub decreases-loop-i : goal.decreases-loop-i
decreases-loop-i l = length l.functions - l.i
