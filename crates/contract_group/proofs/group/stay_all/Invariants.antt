use Rattle.std.proofs.Common.{◌≡◌, ◌-◌, ◌++◌, length, drop}
use Rattle.contract_group.specs.Group.{group_kept, group_tasks, group_bodies}
use Rattle.contract_group.proofs.group.stay_all.Given as goal

abbrev pub invariant-loop-i : goal.invariant-loop-i
invariant-loop-i l = record {
  kept : l.kept.items ++ group_kept (length l.bodies.items) (drop l.i l.roles) (drop l.i l.functions) ≡ group_kept (length l.fn.bodies.items) l.roles l.functions;
  bodies : group_bodies (drop l.i l.roles) (drop l.i l.functions) l.bodies.items ≡ group_bodies l.roles l.functions l.fn.bodies.items;
  work : group_tasks (length l.bodies.items) (drop l.i l.roles) (drop l.i l.functions) l.work.items ≡ group_tasks (length l.fn.bodies.items) l.roles l.functions l.fn.work.items;
}

abbrev pub decreases-loop-i : goal.decreases-loop-i
decreases-loop-i l = length l.functions - l.i
