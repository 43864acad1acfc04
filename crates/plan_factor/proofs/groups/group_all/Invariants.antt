use Rattle.std.proofs.Common.{◌≡◌, ℕ, take}
use Rattle.plan_factor.specs.Groups.{grouped, with_rank}
use Rattle.plan_factor.proofs.groups.group_all.Given as goal

abbrev pub invariant-loop-i : goal.invariant-loop-i
invariant-loop-i l = (q : ℕ) → grouped l.groups q ≡ with_rank l.all (take l.i-index l.order) q
