use Rattle.std.specs.Prelude.{◌≡◌, ◌≤◌, length, take, drop}
use Rattle.contract_roles.specs.Roles.{eta_names, aliases}
use Rattle.contract_roles.proofs.group.aliases.Given as goal

abbrev pub invariant-loop-i : goal.invariant-loop-i
invariant-loop-i l = record {
  within : l.i ≤ length l.functions;
  front : l.front.items ≡ eta_names l.program.bodies (take l.i l.functions);
  behind : l.replaced.items ≡ aliases l.counts l.program.bodies (take l.i l.functions) (drop l.i l.functions);
}

abbrev pub decreases-loop-i : goal.decreases-loop-i
decreases-loop-i l = l.i
