use Rattle.std.proofs.Common.{◌≡◌, ◌≤◌, ◌-◌, length, drop}
use Rattle.contract_round.specs.Round.{are_vars}
use Rattle.contract_roles.proofs.target.are_vars.Given as goal

abbrev pub invariant-loop-i : goal.invariant-loop-i
invariant-loop-i l = record {
  within : l.i ≤ length l.params;
  same : are_vars (drop l.i l.params) (drop l.i l.atoms) ≡ are_vars l.params l.atoms;
}

abbrev pub decreases-loop-i : goal.decreases-loop-i
decreases-loop-i l = length l.params - l.i
